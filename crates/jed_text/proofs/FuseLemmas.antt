-- The order in which fuses are refused.
use Rattle.std.proofs.Common.{ℕ, ◌≡◌, Bool, false, List, [], map, Option, Some, None, Result, Ok, Err, refl, sym, ap, ◌∙◌}
use Rattle.std.specs.Prelude.{unwrap_or}
use Rattle.std.specs.Option.{option_map}
use Rattle.mig_base.specs.declared.jedec.JedError.{JedError}
use Rattle.mig_base.specs.declared.jedec.JedError.TheVariants.{BadField, FuseTwice, FuseUnset, NoCount}
use Rattle.mig_base.specs.First.{first_refusal, unless, needed}
use Rattle.mig_base.specs.FuseText.{Statement, address_refusal, checked_sum, count_in, default_in, field_refusal, fuses_in, fuses_of_count, states_in, twice_refusal, unset_refusal}
use Rattle.jed_text.specs.declared.marks.Mark.{Mark}
use Rattle.jed_text.specs.Marks.{is_twice, is_unset, mark_of, marked_in, marks_in, state_by, twice_by, unset_by}
use Rattle.jed_text.proofs.MarkLemmas.{made-map, made-position}
use Rattle.jed_text.proofs.Unless.{unless-ok}

pub twice-same : (fields : List Statement) (count : ℕ) (marks : List Mark) → marks ≡ marks_in fields count → twice_by marks ≡ twice_refusal fields count
twice-same fields count marks e = ap twice_by e ∙ ap (option_map FuseTwice) (made-position is_twice (mark_of fields) count)

pub unset-same : (fields : List Statement) (count : ℕ) (marks : List Mark) (default : Option Bool) → marks ≡ marks_in fields count → unset_by default marks ≡ unset_refusal fields default count
unset-same fields count marks (Some s) e = refl
unset-same fields count marks None e = ap (unset_by None) e ∙ ap (option_map FuseUnset) (made-position is_unset (mark_of fields) count)

pub states-same : (fields : List Statement) (count : ℕ) (marks : List Mark) (other : Bool) → marks ≡ marks_in fields count → other ≡ unwrap_or (default_in fields) false →
    map (state_by other) marks ≡ states_in fields count
states-same fields count marks other e d =
    ap (map (state_by other)) e ∙ ap (λ o. map (state_by o) (marks_in fields count)) d ∙ made-map (state_by (unwrap_or (default_in fields) false)) (mark_of fields) 0 count

-- no listing goes past the fuses, and no fuse is listed with both states
pub record IsListedOnce (fields : List Statement) (count : ℕ) : Type 0 where
  pub within : first_refusal (λ before f. address_refusal count f) [] fields ≡ None
  pub once : twice_refusal fields count ≡ None

-- the marks that a reader found
pub marks-found : (fields : List Statement) (count : ℕ) (marks : List Mark) → marked_in count fields ≡ Ok marks → (first_refusal (λ before f. address_refusal count f) [] fields ≡ None) × (marks_in fields count ≡ marks)
marks-found fields count marks e = unless-ok (first_refusal (λ before f. address_refusal count f) [] fields) (marks_in fields count) marks e

pub refused-twice : (fields : List Statement) (count : ℕ) (e : JedError) → first_refusal (λ before f. address_refusal count f) [] fields ≡ None → twice_refusal fields count ≡ Some e →
    fuses_of_count fields count ≡ Err e
refused-twice fields count e within twice =
    ap (λ o. unless o (unless (twice_refusal fields count) rest)) within ∙ ap (λ o. unless o rest) twice
  where
    rest : Result (List Bool) JedError
    rest = unless (unset_refusal fields (default_in fields) count) (checked_sum fields (states_in fields count))

once-rest : (fields : List Statement) (count : ℕ) → IsListedOnce fields count →
    fuses_of_count fields count ≡ unless (unset_refusal fields (default_in fields) count) (checked_sum fields (states_in fields count))
once-rest fields count h =
    ap (λ o. unless o (unless (twice_refusal fields count) rest)) h.within ∙ ap (λ o. unless o rest) h.once
  where
    rest : Result (List Bool) JedError
    rest = unless (unset_refusal fields (default_in fields) count) (checked_sum fields (states_in fields count))

pub refused-unset : (fields : List Statement) (count : ℕ) (e : JedError) → IsListedOnce fields count → unset_refusal fields (default_in fields) count ≡ Some e → fuses_of_count fields count ≡ Err e
refused-unset fields count e h unset = once-rest fields count h ∙ ap (λ o. unless o (checked_sum fields (states_in fields count))) unset

-- what is left is decided by the states and their sum
pub left-states : (fields : List Statement) (count : ℕ) (states : List Bool) → IsListedOnce fields count → unset_refusal fields (default_in fields) count ≡ None → states ≡ states_in fields count →
    checked_sum fields states ≡ fuses_of_count fields count
left-states fields count states h set same =
    ap (checked_sum fields) same ∙ sym (once-rest fields count h ∙ ap (λ o. unless o (checked_sum fields (states_in fields count))) set)

-- the fields stand where they may, and nothing stands loose behind them
pub counted : (fields : List Statement) (loose : Option ℕ) (count : ℕ) → first_refusal field_refusal [] fields ≡ None → loose ≡ None → count_in fields ≡ Some count →
    fuses_in fields loose ≡ fuses_of_count fields count
counted fields loose count placed tight said =
    ap (λ o. unless o (unless (option_map BadField loose) (needed NoCount (count_in fields) (fuses_of_count fields)))) placed
    ∙ ap (λ o. unless (option_map BadField o) (needed NoCount (count_in fields) (fuses_of_count fields))) tight
    ∙ ap (λ o. needed NoCount o (fuses_of_count fields)) said

-- a field is refused where it stands
pub misplaced : (fields : List Statement) (loose : Option ℕ) (e : JedError) → first_refusal field_refusal [] fields ≡ Some e → fuses_in fields loose ≡ Err e
misplaced fields loose e h = ap (λ o. unless o (unless (option_map BadField loose) (needed NoCount (count_in fields) (fuses_of_count fields)))) h

-- something stands loose behind the fields
pub loose-refused : (fields : List Statement) (loose : Option ℕ) (place : ℕ) → first_refusal field_refusal [] fields ≡ None → loose ≡ Some place → fuses_in fields loose ≡ Err (BadField place)
loose-refused fields loose place placed at_place =
    ap (λ o. unless o (unless (option_map BadField loose) (needed NoCount (count_in fields) (fuses_of_count fields)))) placed
    ∙ ap (λ o. unless (option_map BadField o) (needed NoCount (count_in fields) (fuses_of_count fields))) at_place

-- no field says the number of fuses
pub uncounted : (fields : List Statement) (loose : Option ℕ) → first_refusal field_refusal [] fields ≡ None → loose ≡ None → count_in fields ≡ None → fuses_in fields loose ≡ Err NoCount
uncounted fields loose placed tight said =
    ap (λ o. unless o (unless (option_map BadField loose) (needed NoCount (count_in fields) (fuses_of_count fields)))) placed
    ∙ ap (λ o. unless (option_map BadField o) (needed NoCount (count_in fields) (fuses_of_count fields))) tight
    ∙ ap (λ o. needed NoCount o (fuses_of_count fields)) said
