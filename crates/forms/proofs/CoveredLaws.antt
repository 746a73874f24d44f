-- What is made of a joined part: its cover, by the graph and the table of literals.
use Rattle.std.proofs.Common.{ℕ, ◌≡◌, Bool, true, false, cond, List, [], ◌∷◌, ◌++◌, map, Option, Some, None, refl, sym, ap, ◌∙◌, subst, inl, inr}
use Rattle.std.specs.Prelude.{IfOk}
use Rattle.std.specs.declared.result.Result.{Result}
use Rattle.std.specs.declared.result.Result.TheVariants.{Ok, Err}
use Rattle.bdd.specs.Tree.{Point}
use Rattle.mig_base.specs.declared.nets.Var.{Var}
use Rattle.mig_base.specs.declared.plans.Part.{Part}
use Rattle.mig_base.specs.declared.plans.Part.TheVariants as part
use Rattle.bdd.specs.Diagram.{IsValid, function_of, Keeps}
use Rattle.bdd.specs.declared.Ref.{Ref}
use Rattle.primes.specs.Prime.{Product, Function}
use Rattle.rails.specs.Variables.{all_rails}
use Rattle.rails.proofs.ComposeLemmas.{function_kept}
use Rattle.board.specs.Joined.{Joined, equations_of}
use Rattle.joiner.specs.Joined.{Inverted, unit_part}
use Rattle.joiner.specs.JoinedPart.{IsJoinedPart}
use Rattle.joiner.specs.declared.JoinedPart.{JoinedPart}
use Rattle.joiner.proofs.PairLaws.{fit_kept}
use Rattle.plans.specs.Forms.{Products, Try, Old, Direct, Inverse, Room, IsCoverOf, IsCovered, IsForm, IsControl, IsControlBy, reads_absorbed, old_low, old_products}
use Rattle.forms.specs.declared.attempts.Failure.{Failure}
use Rattle.forms.specs.declared.attempts.Attempt.{Attempt}
use Rattle.forms.specs.declared.attempts.Attempt.TheVariants as attempt
use Rattle.forms.specs.declared.covers.Literals.{Literals}
use Rattle.forms.specs.Attempts.{IsFailure, IsAttempt, IsOffering, behind_failure}
use Rattle.forms.specs.Cones.{IsNarrow, AreVariables, covered_function, literals_of, products_in}
use Rattle.forms.specs.Outcomes.{IsFormOf, IsControlOf, form_by, control_by, old_tries, cover_tries, IsOldAttempt, IsOldFailure, behind_if}
use Rattle.forms.proofs.AttemptLaws.{try-attempt, attempt-behind, form-made, tries-reading, tries-old}
use Rattle.forms.proofs.CoverLaws.{products-found}

pub ok-map : {T E : Type 0} (P Q : T → Type 0) (r : Result T E) → ((x : T) → P x → Q x) → IfOk r P → IfOk r Q
ok-map P Q (Ok x) f h = f x h
ok-map P Q (Err e) f h = h

-- a joined part in a graph that keeps its function
pub narrow-kept : (b : Joined) (absorbed : List ℕ) (sum : Inverted) (p q : JoinedPart) → q.rails.vars ≡ p.rails.vars → q.f ≡ p.f → Keeps p.rails.graph q.rails.graph → IsNarrow b absorbed sum p → IsNarrow b absorbed sum q
narrow-kept b absorbed sum p q vars same keeps h =
    let function : function_of q.rails.graph q.f ≡ function_of p.rails.graph p.f = (λ i (x : Point). function_of q.rails.graph (same i) x) ∙ (λ i (x : Point). function_kept p.rails.graph q.rails.graph p.f keeps h.valid x i) in
    record {
      joined = subst (λ (f : Function). IsJoinedPart b absorbed sum q.rails.vars f) (sym function) (subst (λ (vs : List (Var × Bool)). IsJoinedPart b absorbed sum vs (function_of p.rails.graph p.f)) (sym vars) h.joined);
      valid = subst (λ (r : Ref). IsValid q.rails.graph r) (sym same) (keeps.valid p.f h.valid);
      fit = fit_kept p.rails q.rails vars keeps h.fit;
      known = subst (AreVariables b) (sym vars) h.known;
    }

-- its cover as products
pub covered-some : (b : Joined) (absorbed : List ℕ) (sum : Inverted) (inverted : Bool) (p : JoinedPart) (vars : List (Var × Bool)) (table : List Literals) (terms : List Product) (products : Products) → IsNarrow b absorbed sum p →
    IsCoverOf (covered_function inverted p.rails.vars (function_of p.rails.graph p.f)) (Some terms) → vars ≡ p.rails.vars → table ≡ map (literals_of b) (all_rails vars) → products ≡ products_in table terms → IsCovered b absorbed sum inverted (Some products)
covered-some b absorbed sum inverted p vars table terms products h cover same made is = record {
  vars = p.rails.vars;
  function = function_of p.rails.graph p.f;
  joined = h.joined;
  terms = Some terms;
  cover = cover;
  are = ap (λ (ps : Products). Some ps) (is ∙ ap (λ (ls : List Literals). products_in ls terms) (made ∙ ap (λ (vs : List (Var × Bool)). map (literals_of b) (all_rails vs)) same) ∙ products-found b p.rails.vars terms);
}

pub covered-none : (b : Joined) (absorbed : List ℕ) (sum : Inverted) (inverted : Bool) (p : JoinedPart) → IsNarrow b absorbed sum p → IsCoverOf (covered_function inverted p.rails.vars (function_of p.rails.graph p.f)) None → IsCovered b absorbed sum inverted None
covered-none b absorbed sum inverted p h cover = record {
  vars = p.rails.vars;
  function = function_of p.rails.graph p.f;
  joined = h.joined;
  terms = None;
  cover = cover;
  are = refl;
}

-- what Logic comes to

module _ (b : Joined) (absorbed : List ℕ) (u : ℕ) (room : Room) where
  -- the direct cover
  pub direct-attempt : (most : ℕ) (o : Option Products) (made : Attempt) → room.most ≡ most → IsCovered b absorbed (unit_part b u part.Logic) false o → IsOffering false o most made → IsAttempt b absorbed u room (Direct ∷ []) made
  direct-attempt most o made same h k = try-attempt b absorbed u room Direct false o made h refl (subst (λ (n : ℕ). IsOffering false o n made) (sym same) k)

  direct-front : (low : Bool) (terms : Products) (us : List Try) → IsAttempt b absorbed u room (Direct ∷ []) (attempt.Fits low terms) → IsAttempt b absorbed u room (Direct ∷ us) (attempt.Fits low terms)
  direct-front low terms us (inl h) = inl h
  direct-front low terms us (inr h) = absurd h.1

  -- the direct cover, where it fits or no other is allowed
  pub direct-fits : (low : Bool) (terms : Products) → IsAttempt b absorbed u room (Direct ∷ []) (attempt.Fits low terms) → IsAttempt b absorbed u room (cover_tries room.may_invert) (attempt.Fits low terms)
  direct-fits low terms h = direct-front low terms (cond room.may_invert (Inverse ∷ []) []) h

  pub direct-alone : (made : Attempt) → room.may_invert ≡ false → IsAttempt b absorbed u room (Direct ∷ []) made → IsAttempt b absorbed u room (cover_tries room.may_invert) made
  direct-alone made e h = subst (λ (m : Bool). IsAttempt b absorbed u room (cover_tries m) made) (sym e) h

  -- the inverse cover behind it
  pub inverse-behind : (most : ℕ) (direct : Failure) (o : Option Products) (made : Attempt) → room.may_invert ≡ true → room.most ≡ most → IsCovered b absorbed (unit_part b u part.Logic) true o → IsOffering true o most made →
      IsFailure b absorbed u room (Direct ∷ []) direct → IsAttempt b absorbed u room (cover_tries room.may_invert) (behind_failure direct made)
  inverse-behind most direct o made e same h k fails =
      subst (λ (m : Bool). IsAttempt b absorbed u room (cover_tries m) (behind_failure direct made)) (sym e)
      (attempt-behind b absorbed u room Direct (Inverse ∷ []) direct made fails (try-attempt b absorbed u room Inverse true o made h refl (subst (λ (n : ℕ). IsOffering true o n made) (sym same) k)))

  -- covers behind the old products, where these are tried
  pub old-behind : (old : Option Failure) (covers : Attempt) → IsOldFailure b absorbed u room old → IsAttempt b absorbed u room (cover_tries room.may_invert) covers →
      IsAttempt b absorbed u room (old_tries (old_low (equations_of b) u) room.may_invert ++ cover_tries room.may_invert) (behind_if old covers)
  old-behind None covers e h = subst (λ (ts : List Try). IsAttempt b absorbed u room (ts ++ cover_tries room.may_invert) covers) (sym e) h
  old-behind (Some why) covers e h = subst (λ (ts : List Try). IsAttempt b absorbed u room (ts ++ cover_tries room.may_invert) (behind_failure why covers)) (sym e.1)
      (attempt-behind b absorbed u room Old (cover_tries room.may_invert) why covers e.0 h)

  -- what all tries come to, where Logic reads no absorbed net, and where it does
  pub form-behind : (old : Option Failure) (covers : Attempt) → reads_absorbed b absorbed u part.Logic ≡ false → IsOldFailure b absorbed u room old → IsAttempt b absorbed u room (cover_tries room.may_invert) covers →
      IsFormOf b absorbed u room (form_by (behind_if old covers))
  form-behind old covers reads h k = form-made b absorbed u room (old_tries (old_low (equations_of b) u) room.may_invert ++ cover_tries room.may_invert) (behind_if old covers) (tries-old b absorbed u room reads) (old-behind old covers h k)

  pub form-covered : (covers : Attempt) → reads_absorbed b absorbed u part.Logic ≡ true → IsAttempt b absorbed u room (cover_tries room.may_invert) covers → IsFormOf b absorbed u room (form_by covers)
  form-covered covers reads h = form-made b absorbed u room (cover_tries room.may_invert) covers (tries-reading b absorbed u room reads) h

  old-front : (low : Bool) (terms : Products) (us : List Try) → IsAttempt b absorbed u room (Old ∷ []) (attempt.Fits low terms) → IsAttempt b absorbed u room (Old ∷ us) (attempt.Fits low terms)
  old-front low terms us (inl h) = inl h
  old-front low terms us (inr h) = absurd h.1

  pub old-fits : (low : Bool) (terms : Products) → reads_absorbed b absorbed u part.Logic ≡ false → IsOldAttempt b u room (Some (attempt.Fits low terms)) → IsForm b absorbed u room (record { low = low; terms = terms })
  old-fits low terms reads h =
      form-made b absorbed u room (Old ∷ cover_tries room.may_invert) (attempt.Fits low terms)
      (tries-old b absorbed u room reads ∙ ap (λ (ts : List Try). ts ++ cover_tries room.may_invert) h.1) (old-front low terms (cover_tries room.may_invert) (h.0 absorbed))

-- another part that reads an absorbed net
pub control-covered : (b : Joined) (absorbed : List ℕ) (u : ℕ) (q : Part) (o : Option Products) → reads_absorbed b absorbed u q ≡ true → IsCovered b absorbed (unit_part b u q) false o → IsControlOf b absorbed u q (control_by o)
control-covered b absorbed u q None e h = subst (λ (r : Bool). IsControlBy r b absorbed u q None) (sym e) h
control-covered b absorbed u q (Some ps) e h = subst (λ (r : Bool). IsControlBy r b absorbed u q (Some ps)) (sym e) h

-- and one that doesn't
pub control-old : (b : Joined) (absorbed : List ℕ) (u : ℕ) (q : Part) (ps : Products) → reads_absorbed b absorbed u q ≡ false → ps ≡ old_products (equations_of b) u q → IsControl b absorbed u q (Some ps)
control-old b absorbed u q ps e h = subst (λ (r : Bool). IsControlBy r b absorbed u q (Some ps)) (sym e) (ap (λ (qs : Products). Some qs) h)
