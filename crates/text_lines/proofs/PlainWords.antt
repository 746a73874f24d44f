-- Words without spaces: names, kinds, and words behind a first one.
use Rattle.std.proofs.Common.{ℕ, ◌≡◌, ◌<◌, ◌≤◌, Bool, true, false, ◌&&◌, List, [], ◌∷◌, ◌++◌, refl, sym, ap, ◌∙◌, arith, inl, inr}
use Rattle.std.specs.Prelude.{nat_le}
use Rattle.std.specs.List.{flat_map, join_with_byte, list_all}
use Rattle.std.proofs.lemmas.List.{append-nil}
use Rattle.std.proofs.lemmas.Bool.{and_parts, and_from, cases_lt, le-leb}
use Rattle.std.proofs.lemmas.Bool.Decides.{nat_tests}
use Rattle.mig_base.specs.declared.kinds.Kind.{Kind}
use Rattle.mig_base.specs.DeviceTables.{kind_name}
use Rattle.mig_base.specs.Names.{is_name, is_name_byte}
use Rattle.mig_base.proofs.KindFacts.{every-kind}
use Rattle.mig_base.proofs.TextLemmas.{name-bytes}
use Rattle.text_lines.proofs.WrittenLines.{is_plain_word}

low-byte : (b : ℕ) → b < 33 → is_name_byte b ≡ false
low-byte b h = grind (arith, nat_tests)

high-byte : (b : ℕ) → is_name_byte b ≡ true → nat_le 33 b ≡ true
high-byte b h = elim (cases_lt b 33) [ inl low ↦ let e : true ≡ false = sym h ∙ low-byte b low in absurd (let no : ⊥ = cc in no) | inr high ↦ le-leb 33 b high ]

pub high-bytes : (bs : List ℕ) → list_all is_name_byte bs ≡ true → list_all (nat_le 33) bs ≡ true
high-bytes [] h = refl
high-bytes (b ∷ bs) h = let parts : (is_name_byte b ≡ true) × (list_all is_name_byte bs ≡ true) = and_parts _ _ h in and_from _ _ (high-byte b parts.0) (high-bytes bs parts.1)

pub name-plain : (name : List ℕ) → is_name name ≡ true → is_plain_word name ≡ true
name-plain [] h = cc
name-plain (b ∷ bs) h = high-bytes (b ∷ bs) (name-bytes (b ∷ bs) h)

pub kind-plain : (k : Kind) → is_plain_word (kind_name k) ≡ true
kind-plain k = every-kind (λ j. is_plain_word (kind_name j)) refl k

-- words behind a first one, each with a space before it
pub spaced : (word : List ℕ) (words : List (List ℕ)) → join_with_byte 32 (word ∷ words) ≡ word ++ flat_map (λ w. 32 ∷ w) words
spaced word [] = sym (append-nil word)
spaced word (w ∷ words) = ap (λ (bs : List ℕ). word ++ 32 ∷ bs) (spaced w words)
