-- A part with more than 32 variables has no cover, and what forms say of terms.
use Rattle.std.proofs.Common.{ℕ, ◌≡◌, ◌<◌, ◌≤◌, Bool, true, false, List, [], ◌∷◌, length, Option, Some, refl, sym, ap, ◌∙◌, subst, inl, inr, arith}
use Rattle.mig_base.specs.Among.{Among}
use Rattle.mig_base.specs.declared.plans.Part.TheVariants.{Logic}
use Rattle.board.specs.Joined.{Joined}
use Rattle.joiner.specs.Joined.{Inverted, unit_part}
use Rattle.joiner.specs.JoinedPart.{IsWide}
use Rattle.plans.specs.FirstOf.{FirstOf}
use Rattle.plans.specs.Forms.{Products, Try, Room, LogicForm, IsCovered, IsOffered, Fits, IsForm, HasNoForm, tries, has_register}
use Rattle.plans.specs.Moves.{wide_room, IsDemand}
use Rattle.plans.proofs.Cones.{cone-one}
use Rattle.forms.specs.declared.logic.Form.{Form}
use Rattle.forms.specs.declared.logic.Form.TheVariants as form
use Rattle.forms.specs.Outcomes.{IsFormOf, IsWidePart, cover_tries, has_few, terms_in}
use Rattle.forms.proofs.AttemptLaws.{tries-reading}

pub covered-narrow : (b : Joined) (absorbed : List ℕ) (sum : Inverted) (inverted : Bool) (o : Option Products) (n : ℕ) → IsCovered b absorbed sum inverted o → IsWide b absorbed sum n → ⊥
covered-narrow b absorbed sum inverted o n h k =
    let same : h.vars ≡ k.variables = cone-one b absorbed sum.terms h.vars k.variables h.joined.cone k.cone in
    let long : length h.vars ≡ length k.variables = ap length same in
    let few : length h.vars ≤ 32 = h.joined.few in
    let many : 32 < length k.variables = k.many in
    omega arith

first-some : {T E : Type 0} (gives : T → E → Type 0) (ts : List T) (x : E) → FirstOf gives ts x → (t : T) × Among t ts × gives t x
first-some gives [] x h = absurd h
first-some gives (t ∷ ts) x (inl h) = (t, inl refl, h)
first-some gives (t ∷ ts) x (inr h) = let s = first-some gives ts x h.1 in (s.0, inr s.1, s.2)

-- no cover of a wide part is offered
pub wide-unoffered : (b : Joined) (absorbed : List ℕ) (u : ℕ) (may_invert : Bool) (t : Try) (o : Option Products) (n : ℕ) → Among t (cover_tries may_invert) → IsOffered b absorbed u t o → IsWide b absorbed (unit_part b u Logic) n → ⊥
wide-unoffered b absorbed u may_invert t o n (inl e) h k = covered-narrow b absorbed (unit_part b u Logic) false o n (subst (λ (s : Try). IsOffered b absorbed u s o) e h) k
wide-unoffered b absorbed u true t o n (inr (inl e)) h k = covered-narrow b absorbed (unit_part b u Logic) true o n (subst (λ (s : Try). IsOffered b absorbed u s o) e h) k
wide-unoffered b absorbed u true t o n (inr (inr a)) h k = absurd a
wide-unoffered b absorbed u false t o n (inr a) h k = absurd a

-- Logic of a wide part has no form
pub wide-unfit : (b : Joined) (absorbed : List ℕ) (u : ℕ) (room : Room) (n : ℕ) → IsWidePart b absorbed u Logic n → HasNoForm b absorbed u room
wide-unfit b absorbed u room n k x h =
    let f : FirstOf (Fits b absorbed u room) (cover_tries room.may_invert) x = subst (λ (ts : List Try). FirstOf (Fits b absorbed u room) ts x) (tries-reading b absorbed u room k.reads) h in
    let s = first-some (Fits b absorbed u room) (cover_tries room.may_invert) x f in
    wide-unoffered b absorbed u room.may_invert s.0 (Some x.terms) n s.1 s.2.offered k.wide

few-terms : (b : Joined) (absorbed : List ℕ) (u : ℕ) (room : Room) (x : LogicForm) → IsForm b absorbed u room x → length x.terms ≤ room.most
few-terms b absorbed u room x h = let s = first-some (Fits b absorbed u room) (tries b absorbed u room) x h in s.2.few

-- the terms of a form in a cell of sixteen
pub form-few : (b : Joined) (absorbed : List ℕ) (u : ℕ) (registered : Bool) (f : Form) → IsFormOf b absorbed u (wide_room registered) f → has_few f
form-few b absorbed u registered (form.Fits low terms) h = few-terms b absorbed u (wide_room registered) (record { low = low; terms = terms }) h
form-few b absorbed u registered (form.Wide count) h = tt
form-few b absorbed u registered form.PrimesOver h = tt
form-few b absorbed u registered (form.TermsOver needed) h = tt

pub form-demand : (b : Joined) (absorbed : List ℕ) (u : ℕ) (f : Form) → IsFormOf b absorbed u (wide_room (has_register b u)) f → IsDemand b absorbed u (terms_in f)
form-demand b absorbed u (form.Fits low terms) h = inl (record { form = record { low = low; terms = terms }; fits = h; count = refl })
form-demand b absorbed u (form.Wide count) h = inr (wide-unfit b absorbed u (wide_room (has_register b u)) count h, refl)
form-demand b absorbed u form.PrimesOver h = inr (h.none_fits, refl)
form-demand b absorbed u (form.TermsOver needed) h = inr (h.none_fits, refl)

-- the same of a board, a list and a cell that are these
pub demand-made : (b c : Joined) (absorbed units : List ℕ) (u : ℕ) (room : Room) (registered : Bool) (f : Form) (n : ℕ) → c ≡ b → units ≡ absorbed → room ≡ wide_room registered → registered ≡ has_register b u → n ≡ terms_in f →
    IsFormOf c units u room f → IsDemand b absorbed u n
demand-made b c absorbed units u room registered f n board same cell is count h =
    let on : IsFormOf b units u room f = subst (λ (j : Joined). IsFormOf j units u room f) board h in
    let under : IsFormOf b absorbed u room f = subst (λ (us : List ℕ). IsFormOf b us u room f) same on in
    let wide : IsFormOf b absorbed u (wide_room (has_register b u)) f = subst (λ (r : Room). IsFormOf b absorbed u r f) (cell ∙ ap wide_room is) under in
    subst (IsDemand b absorbed u) (sym count) (form-demand b absorbed u f wide)
