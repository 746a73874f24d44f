-- Fields one after the other.
use Rattle.std.proofs.Common.{ℕ, ◌≡◌, ◌+◌, List, [], ◌∷◌, ◌++◌, length, Option, Some, None, refl, sym, ap, ◌∙◌}
use Rattle.mig_base.specs.declared.jedec.Field.{Field}
use Rattle.mig_base.specs.declared.jedec.JedError.{JedError}
use Rattle.mig_base.specs.First.{first_refusal, or_else}
use Rattle.mig_base.specs.FuseText.{cut_at, pieces, field_of, fields_from, fields_of, loose_from, loose_of, Statement}
use Rattle.jed_text.proofs.Cuts.{pieces-cut, after_cut}

-- the first refusal of a judge that looks at no earlier field
judged_alone : (judge : Statement → Option JedError) (before fields : List Statement) → first_refusal (λ b f. judge f) before fields ≡ first_refusal (λ b f. judge f) [] fields
judged_alone judge before [] = refl
judged_alone judge before (f ∷ fs) = ap (or_else (judge f)) (judged_alone judge (before ++ f ∷ []) fs ∙ sym (judged_alone judge (f ∷ []) fs))

pub judged-cons : (judge : Statement → Option JedError) (f : Statement) (fields : List Statement) →
    first_refusal (λ b f. judge f) [] (f ∷ fields) ≡ or_else (judge f) (first_refusal (λ b f. judge f) [] fields)
judged-cons judge f fields = ap (or_else (judge f)) (judged_alone judge (f ∷ []) fields)

-- there is a first piece
first_of_pieces : (bytes : List ℕ) → (p : List ℕ) × (ps : List (List ℕ)) × (pieces bytes ≡ p ∷ ps)
first_of_pieces bytes = at (cut_at 42 bytes) (pieces-cut bytes)
  where
    at : (o : Option (List ℕ × List ℕ)) → pieces bytes ≡ after_cut bytes o → (p : List ℕ) × (ps : List (List ℕ)) × (pieces bytes ≡ p ∷ ps)
    at None e = (bytes, [], e)
    at (Some cut) e = (cut.0, pieces cut.1, e)

pub fields-cons : (place : ℕ) (piece bytes : List ℕ) → fields_from place (piece ∷ pieces bytes) ≡ field_of place piece ∷ fields_from (place + length piece + 1) (pieces bytes)
fields-cons place piece bytes =
    let more = first_of_pieces bytes in
    ap (λ ps. fields_from place (piece ∷ ps)) more.2 ∙ ap (λ ps. field_of place piece ∷ fields_from (place + length piece + 1) ps) (sym more.2)

pub loose-cons : (place : ℕ) (piece bytes : List ℕ) → loose_from place (piece ∷ pieces bytes) ≡ loose_from (place + length piece + 1) (pieces bytes)
loose-cons place piece bytes =
    let more = first_of_pieces bytes in
    ap (λ ps. loose_from place (piece ∷ ps)) more.2 ∙ ap (λ ps. loose_from (place + length piece + 1) ps) (sym more.2)

-- the pieces of a text that was cut at its first asterisk
pub pieces-some : (bytes piece after : List ℕ) → Some (piece, after) ≡ cut_at 42 bytes → pieces bytes ≡ piece ∷ pieces after
pieces-some bytes piece after e = pieces-cut bytes ∙ ap (after_cut bytes) (sym e)

pub pieces-none : (bytes : List ℕ) → None ≡ cut_at 42 bytes → pieces bytes ≡ bytes ∷ []
pieces-none bytes e = pieces-cut bytes ∙ ap (after_cut bytes) (sym e)

-- the next field of a text that was cut
pub fields-next : (place next : ℕ) (bytes piece after : List ℕ) (f : Field) → Some (piece, after) ≡ cut_at 42 bytes → next ≡ place + length piece + 1 → f ≡ field_of place piece →
    fields_from place (pieces bytes) ≡ f ∷ fields_from next (pieces after)
fields-next place next bytes piece after f e n same =
    ap (fields_from place) (pieces-some bytes piece after e) ∙ fields-cons place piece after
    ∙ ap (λ k. field_of place piece ∷ fields_from k (pieces after)) (sym n) ∙ ap (λ g. g ∷ fields_from next (pieces after)) (sym same)

pub loose-next : (place next : ℕ) (bytes piece after : List ℕ) → Some (piece, after) ≡ cut_at 42 bytes → next ≡ place + length piece + 1 →
    loose_from place (pieces bytes) ≡ loose_from next (pieces after)
loose-next place next bytes piece after e n =
    ap (loose_from place) (pieces-some bytes piece after e) ∙ loose-cons place piece after ∙ ap (λ k. loose_from k (pieces after)) (sym n)

pub loose-body : (place : ℕ) (piece bytes : List ℕ) → loose_of place (piece ∷ pieces bytes) ≡ loose_from (place + length piece + 1) (pieces bytes)
loose-body place piece bytes =
    let more = first_of_pieces bytes in
    ap (λ ps. loose_of place (piece ∷ ps)) more.2 ∙ ap (λ ps. loose_from (place + length piece + 1) ps) (sym more.2)

-- the fields of a body that was cut at its first asterisk
pub fields-body : (place next : ℕ) (body design rest : List ℕ) → Some (design, rest) ≡ cut_at 42 body → next ≡ place + length design + 1 →
    fields_from next (pieces rest) ≡ fields_of place (pieces body)
fields-body place next body design rest e n = ap (λ k. fields_from k (pieces rest)) n ∙ sym (ap (fields_of place) (pieces-some body design rest e))

pub fields-whole : (place : ℕ) (body : List ℕ) → None ≡ cut_at 42 body → [] ≡ fields_of place (pieces body)
fields-whole place body e = sym (ap (fields_of place) (pieces-none body e))

-- no field is left of a text without an asterisk
pub fields-end : (place : ℕ) (bytes : List ℕ) → None ≡ cut_at 42 bytes → fields_from place (pieces bytes) ≡ []
fields-end place bytes e = ap (fields_from place) (pieces-none bytes e)
