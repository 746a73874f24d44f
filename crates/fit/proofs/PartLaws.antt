-- What the parts of a placed unit say of its breaches.
use Rattle.std.proofs.Common.{ℕ, ◌≡◌, ◌⊎◌, Bool, true, false, ◌||◌, List, [], ◌∷◌, Option, Some, None, refl, subst, inl, inr}
use Rattle.std.specs.Option.{option_map}
use Rattle.mig_base.specs.Among.{Among}
use Rattle.mig_base.specs.First.{or_else}
use Rattle.mig_base.specs.declared.plans.Part.{Part}
use Rattle.mig_base.specs.declared.plans.Part.TheVariants as part
use Rattle.mig_base.specs.declared.plans.Breach.{Breach}
use Rattle.mig_base.specs.declared.plans.Breach.TheVariants as breach
use Rattle.board.specs.Joined.{Joined}
use Rattle.joiner.specs.Joined.{unit_part}
use Rattle.new_board.specs.NewChip.{when}
use Rattle.plans.specs.FirstOf.{Gives, GivesFirst}
use Rattle.plans.specs.declared.placing.Placing.{Placing}
use Rattle.plans.specs.Forms.{Products, Try, Room, IsOffered, tries, IsCovered, IsControlBy, IsControl, reads_absorbed, room_of}
use Rattle.plans.specs.UnitBreaches.{controls, GivesWidePart, GivesConeWide, IsLogicOver, IsControlOver, GivesPrimesOver, GivesTermsOver}
use Rattle.plans.proofs.FormLaws.{control-one}
use Rattle.plan_lines.proofs.FirstSteps.{first-next, first-here}
use Rattle.forms.specs.declared.logic.Form.{Form}
use Rattle.forms.specs.declared.logic.Form.TheVariants as form
use Rattle.forms.specs.declared.controls.Control.{Control}
use Rattle.forms.specs.declared.controls.Control.TheVariants as control
use Rattle.forms.specs.Outcomes.{IsFormOf, IsControlOf, IsWidePart}
use Rattle.forms.proofs.AttemptLaws.{tries-reading}
use Rattle.forms.proofs.WideLaws.{covered-narrow, wide-unoffered, wide-unfit}
use Rattle.fit.specs.declared.parts.UnitParts.{UnitParts}
use Rattle.fit.specs.Parts.{AreParts, form_width, control_width, made_in, is_form_over, is_control_over, width_of, wide_breach, has_control_over, over_breach, terms_breach}

-- a part that reads an absorbed net and has products or too many primes has at most 32 variables
reading-covered : (b : Joined) (absorbed : List ℕ) (u : ℕ) (q : Part) (o : Option Products) → reads_absorbed b absorbed u q ≡ true → IsControl b absorbed u q o → IsCovered b absorbed (unit_part b u q) false o
reading-covered b absorbed u q o e h = subst (λ (r : Bool). IsControlBy r b absorbed u q o) e h

pub control-narrow : (b : Joined) (absorbed : List ℕ) (u : ℕ) (q : Part) (o : Option Products) (n : ℕ) → IsControl b absorbed u q o → IsWidePart b absorbed u q n → ⊥
control-narrow b absorbed u q o n h k = covered-narrow b absorbed (unit_part b u q) false o n (reading-covered b absorbed u q o k.reads h) k.wide

-- so has Logic that is offered some form
pub logic-narrow : (b : Joined) (absorbed : List ℕ) (u : ℕ) (room : Room) (t : Try) (o : Option Products) (n : ℕ) → Among t (tries b absorbed u room) → IsOffered b absorbed u t o → IsWidePart b absorbed u part.Logic n → ⊥
logic-narrow b absorbed u room t o n a h k =
    wide-unoffered b absorbed u room.may_invert t o n (subst (λ (ts : List Try). Among t ts) (tries-reading b absorbed u room k.reads) a) h k.wide

-- the width of parts

module _ (b : Joined) (absorbed : List ℕ) (x : Placing) where
  abbrev Wide : Part → Breach → Type 0
  Wide q y = GivesWidePart b absorbed x q y

  -- so many variables are named
  abbrev named : Option ℕ → Option Breach
  named o = option_map (λ (n : ℕ). breach.ConeWide x.name n) o

  wide-given : (q : Part) (n : ℕ) → IsWidePart b absorbed x.unit q n → Gives Wide q (Some (breach.ConeWide x.name n))
  wide-given q n h = record { reads = h.reads; count = n; wide = h.wide; names = refl }

  unwide : (q : Part) → ((n : ℕ) → IsWidePart b absorbed x.unit q n → ⊥) → Gives Wide q None
  unwide q none y h = none h.count (record { reads = h.reads; wide = h.wide })

  pub control-width : (q : Part) (c : Control) → IsControlOf b absorbed x.unit q c → Gives Wide q (named (control_width c))
  control-width q (control.Made products) h = unwide q (λ n k. control-narrow b absorbed x.unit q (Some products) n h k)
  control-width q (control.Wide count) h = wide-given q count h
  control-width q control.PrimesOver h = unwide q (λ n k. control-narrow b absorbed x.unit q None n h k)

  pub form-width : (room : Room) (f : Form) → IsFormOf b absorbed x.unit room f → Gives Wide part.Logic (named (form_width f))
  form-width room (form.Fits low terms) h = unwide part.Logic (λ n k. wide-unfit b absorbed x.unit room n k (record { low = low; terms = terms }) h)
  form-width room (form.Wide count) h = wide-given part.Logic count h
  form-width room form.PrimesOver h = unwide part.Logic (λ n k. logic-narrow b absorbed x.unit room h.form None n h.allowed h.over k)
  form-width room (form.TermsOver needed) h = unwide part.Logic (λ n k. logic-narrow b absorbed x.unit room h.least.form (Some h.least.products) n h.least.allowed h.least.offered k)

  -- the first part of some that has too many variables
  first-behind : (q : Part) (qs : List Part) (o rest : Option ℕ) → Gives Wide q (named o) → GivesFirst Wide qs (named rest) → GivesFirst Wide (q ∷ qs) (named (or_else o rest))
  first-behind q qs None rest h k = first-next Wide q qs h (named rest) k
  first-behind q qs (Some n) rest h k = first-here Wide q qs (breach.ConeWide x.name n) h

  last-part : (q : Part) (o : Option ℕ) → Gives Wide q (named o) → GivesFirst Wide (q ∷ []) (named o)
  last-part q None h = first-next Wide q [] h None (λ y k. k)
  last-part q (Some n) h = inl h

  as-first : (o : Option Breach) → GivesFirst Wide (part.Logic ∷ controls) o → Gives (GivesConeWide b absorbed) x o
  as-first None h = h
  as-first (Some y) h = h

  pub wide-gives : (parts : UnitParts) → AreParts b absorbed x parts → Gives (GivesConeWide b absorbed) x (wide_breach x parts)
  wide-gives parts h = as-first (named (width_of parts))
      (first-behind part.Logic controls (form_width parts.logic) (or_else (control_width parts.enable) (or_else (control_width parts.reset) (control_width parts.preset))) (form-width (room_of b x) parts.logic h.logic)
      (first-behind part.Enable (part.Reset ∷ part.Preset ∷ []) (control_width parts.enable) (or_else (control_width parts.reset) (control_width parts.preset)) (control-width part.Enable parts.enable h.enable)
      (first-behind part.Reset (part.Preset ∷ []) (control_width parts.reset) (control_width parts.preset) (control-width part.Reset parts.reset h.reset)
      (last-part part.Preset (control_width parts.preset) (control-width part.Preset parts.preset h.preset)))))

  -- covers with too many primes

  form-over : (room : Room) (f : Form) → IsFormOf b absorbed x.unit room f → is_form_over f ≡ true → IsLogicOver b absorbed x.unit room
  form-over room (form.Fits low terms) h e = let wrong = e in cc
  form-over room (form.Wide count) h e = let wrong = e in cc
  form-over room form.PrimesOver h e = h
  form-over room (form.TermsOver needed) h e = let wrong = e in cc

  form-unover : (room : Room) (f : Form) → IsFormOf b absorbed x.unit room f → is_form_over f ≡ false → IsLogicOver b absorbed x.unit room → ⊥
  form-unover room (form.Fits low terms) h e k = k.none_fits (record { low = low; terms = terms }) h
  form-unover room (form.Wide count) h e k = logic-narrow b absorbed x.unit room k.form None count k.allowed k.over h
  form-unover room form.PrimesOver h e k = let wrong = e in cc
  form-unover room (form.TermsOver needed) h e k = h.no_over k

  control-over : (q : Part) (c : Control) → IsControlOf b absorbed x.unit q c → is_control_over c ≡ true → IsControl b absorbed x.unit q None
  control-over q (control.Made products) h e = let wrong = e in cc
  control-over q (control.Wide count) h e = let wrong = e in cc
  control-over q control.PrimesOver h e = h

  control-unover : (q : Part) (c : Control) → IsControlOf b absorbed x.unit q c → is_control_over c ≡ false → IsControl b absorbed x.unit q None → ⊥
  control-unover q (control.Made products) h e k = let wrong = control-one b absorbed x.unit q None (Some products) k h in cc
  control-unover q (control.Wide count) h e k = control-narrow b absorbed x.unit q None count k h
  control-unover q control.PrimesOver h e k = let wrong = e in cc

  controls-over : (parts : UnitParts) → AreParts b absorbed x parts → has_control_over parts ≡ true → IsControlOver b absorbed x.unit
  controls-over parts h e = at (is_control_over parts.enable) refl (is_control_over parts.reset) refl (is_control_over parts.preset) refl e
    where
      at : (p : Bool) → is_control_over parts.enable ≡ p → (q : Bool) → is_control_over parts.reset ≡ q → (r : Bool) → is_control_over parts.preset ≡ r → (p || (q || r)) ≡ true → IsControlOver b absorbed x.unit
      at true a q c r d e = record { control = part.Enable; among = inl refl; over = control-over part.Enable parts.enable h.enable a }
      at false a true c r d e = record { control = part.Reset; among = inr (inl refl); over = control-over part.Reset parts.reset h.reset c }
      at false a false c true d e = record { control = part.Preset; among = inr (inr (inl refl)); over = control-over part.Preset parts.preset h.preset d }
      at false a false c false d e = let wrong = e in cc

  or-none : (p q : Bool) → (p || q) ≡ false → (p ≡ false) × (q ≡ false)
  or-none true q e = let wrong = e in cc
  or-none false q e = (refl, e)

  controls-unover : (parts : UnitParts) → AreParts b absorbed x parts → has_control_over parts ≡ false → IsControlOver b absorbed x.unit → ⊥
  controls-unover parts h e k = at k.control k.among k.over
    where
      first : (is_control_over parts.enable ≡ false) × ((is_control_over parts.reset || is_control_over parts.preset) ≡ false)
      first = or-none (is_control_over parts.enable) (is_control_over parts.reset || is_control_over parts.preset) e

      second : (is_control_over parts.reset ≡ false) × (is_control_over parts.preset ≡ false)
      second = or-none (is_control_over parts.reset) (is_control_over parts.preset) first.1

      at : (q : Part) → Among q controls → IsControl b absorbed x.unit q None → ⊥
      at q (inl is) o = control-unover part.Enable parts.enable h.enable first.0 (subst (λ (r : Part). IsControl b absorbed x.unit r None) is o)
      at q (inr (inl is)) o = control-unover part.Reset parts.reset h.reset second.0 (subst (λ (r : Part). IsControl b absorbed x.unit r None) is o)
      at q (inr (inr (inl is))) o = control-unover part.Preset parts.preset h.preset second.1 (subst (λ (r : Part). IsControl b absorbed x.unit r None) is o)
      at q (inr (inr (inr a))) o = absurd a

  pub over-gives : (parts : UnitParts) → AreParts b absorbed x parts → Gives (GivesPrimesOver b absorbed) x (over_breach x parts)
  over-gives parts h = at (is_form_over parts.logic) refl (has_control_over parts) refl
    where
      at : (p : Bool) → is_form_over parts.logic ≡ p → (q : Bool) → has_control_over parts ≡ q → Gives (GivesPrimesOver b absorbed) x (when (p || q) (Some (breach.PrimesOver x.name)))
      at true a q c = record { over = inl (form-over (room_of b x) parts.logic h.logic a); names = refl }
      at false a true c = record { over = inr (controls-over parts h c); names = refl }
      at false a false c = λ y k. none k.over
        where
          none : IsLogicOver b absorbed x.unit (room_of b x) ⊎ IsControlOver b absorbed x.unit → ⊥
          none (inl o) = form-unover (room_of b x) parts.logic h.logic a o
          none (inr o) = controls-unover parts h c o

  -- more terms than the cell has, where no cover has too many primes
  pub terms-gives : (f : Form) → IsFormOf b absorbed x.unit (room_of b x) f → ((y : Breach) → GivesPrimesOver b absorbed x y → ⊥) → Gives (GivesTermsOver b absorbed) x (terms_breach (room_of b x) x f)
  terms-gives (form.Fits low terms) h none = λ y k. k.none_fits (record { low = low; terms = terms }) h
  terms-gives (form.Wide count) h none = λ y k. logic-narrow b absorbed x.unit (room_of b x) k.least.form (Some k.least.products) count k.least.allowed k.least.offered h
  terms-gives form.PrimesOver h none = absurd (none (breach.PrimesOver x.name) (record { over = inl h; names = refl }))
  terms-gives (form.TermsOver needed) h none = record { none_fits = h.none_fits; needed = needed; least = h.least; names = refl }

-- the products of a part

pub made-control : (b : Joined) (absorbed : List ℕ) (u : ℕ) (q : Part) (c : Control) (ps : Products) → IsControlOf b absorbed u q c → made_in c ≡ Some ps → IsControl b absorbed u q (Some ps)
made-control b absorbed u q (control.Made products) ps h e = subst (λ (o : Option Products). IsControl b absorbed u q o) e h
made-control b absorbed u q (control.Wide count) ps h e = let wrong = e in cc
made-control b absorbed u q control.PrimesOver ps h e = let wrong = e in cc

pub control-made : (b : Joined) (absorbed : List ℕ) (u : ℕ) (q : Part) (c : Control) (ps : Products) → IsControlOf b absorbed u q c → IsControl b absorbed u q (Some ps) → made_in c ≡ Some ps
control-made b absorbed u q (control.Made products) ps h k = control-one b absorbed u q (Some products) (Some ps) h k
control-made b absorbed u q (control.Wide count) ps h k = absurd (control-narrow b absorbed u q (Some ps) count k h)
control-made b absorbed u q control.PrimesOver ps h k = let wrong = control-one b absorbed u q None (Some ps) h k in cc
