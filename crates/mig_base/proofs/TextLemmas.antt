-- Names and stems are ASCII.
use Rattle.std.proofs.Common.{ℕ, zero, suc, ◌≡◌, ◌<◌, ◌≤◌, Bool, true, false, ◌&&◌, List, [], ◌∷◌, length, IsTrue, refl, sym, ap, ◌∙◌, arith, inl, inr}
use Rattle.std.specs.List.{list_all}
use Rattle.std.specs.Str.{IsUtf8, IsAscii}
use Rattle.std.proofs.lemmas.Str.{IsUtf8-from_ascii}
use Rattle.std.proofs.lemmas.Bool.{and_parts, cases_lt}
use Rattle.std.proofs.lemmas.Bool.Decides.{nat_tests}
use Rattle.std.specs.Prelude.{if◌then◌else◌, ◌==◌, not, nat_le}
use Rattle.std.specs.List.{onto_first}
use Rattle.mig_base.specs.Lines.{parts}
use Rattle.mig_base.specs.Names.{is_name_byte, is_stem_part, is_name}

not-name : (b : ℕ) → 128 ≤ b → is_name_byte b ≡ false
not-name b h = grind (arith, nat_tests)

name-ascii : (b : ℕ) → is_name_byte b ≡ true → b < 128
name-ascii b h = elim (cases_lt b 128) [ inl low ↦ low | inr high ↦ let e : true ≡ false = sym h ∙ not-name b high in absurd (let no : ⊥ = cc in no) ]

pub ascii : (text : List ℕ) → list_all is_name_byte text ≡ true → IsAscii text
ascii [] h i = omega arith
ascii (b ∷ bs) h zero = name-ascii b (and_parts (is_name_byte b) (list_all is_name_byte bs) h).0
ascii (b ∷ bs) h (suc i) = ascii bs (and_parts (is_name_byte b) (list_all is_name_byte bs) h).1 i

-- whether a text goes on as a stem, where it begins a part or not
abbrev pub goes_on : Bool → List ℕ → Bool
goes_on begins [] = not begins
goes_on begins (b ∷ bs) = if b == 47 then (not begins && goes_on true bs) else (is_name_byte b && goes_on false bs)

-- the first part has begun already
abbrev pub rest_of_parts : List (List ℕ) → Bool
rest_of_parts [] = true
rest_of_parts (p ∷ ps) = list_all is_name_byte p && list_all is_stem_part ps

abbrev slash : ℕ → Bool
slash b = b == 47

one : (n : ℕ) → nat_le 1 (suc n) ≡ true
one n = grind (arith, nat_tests)

and-assoc : (a b c : Bool) → ((a && b) && c) ≡ (a && (b && c))
and-assoc true b c = refl
and-assoc false b c = refl

first-part : (b : ℕ) (ps : List (List ℕ)) → list_all is_stem_part (onto_first b ps) ≡ (is_name_byte b && rest_of_parts ps)
first-part b [] = and-assoc (is_name_byte b) true true
first-part b (p ∷ ps) = ap (λ (t : Bool). (t && (is_name_byte b && list_all is_name_byte p)) && list_all is_stem_part ps) (one (length p))
    ∙ and-assoc (is_name_byte b) (list_all is_name_byte p) (list_all is_stem_part ps)

next-part : (b : ℕ) (ps : List (List ℕ)) → rest_of_parts (onto_first b ps) ≡ (is_name_byte b && rest_of_parts ps)
next-part b [] = and-assoc (is_name_byte b) true true
next-part b (p ∷ ps) = and-assoc (is_name_byte b) (list_all is_name_byte p) (list_all is_stem_part ps)

abbrev Agrees : List ℕ → Type 0
Agrees bs = (goes_on true bs ≡ list_all is_stem_part (parts slash bs)) × (goes_on false bs ≡ rest_of_parts (parts slash bs))

parts-step : (b : ℕ) (bs : List ℕ) → Agrees bs → (s : Bool) →
    ((if s then (not true && goes_on true bs) else (is_name_byte b && goes_on false bs)) ≡ list_all is_stem_part (if s then [] ∷ parts slash bs else onto_first b (parts slash bs)))
    × ((if s then (not false && goes_on true bs) else (is_name_byte b && goes_on false bs)) ≡ rest_of_parts (if s then [] ∷ parts slash bs else onto_first b (parts slash bs)))
parts-step b bs h true = (refl, h.0)
parts-step b bs h false = (ap (λ t. is_name_byte b && t) h.1 ∙ sym (first-part b (parts slash bs)), ap (λ t. is_name_byte b && t) h.1 ∙ sym (next-part b (parts slash bs)))

pub goes_on-parts : (text : List ℕ) → Agrees text
goes_on-parts [] = (refl, refl)
goes_on-parts (b ∷ bs) = parts-step b bs (goes_on-parts bs) (b == 47)

ascii-cons : (b : ℕ) (bs : List ℕ) → b < 128 → IsAscii bs → IsAscii (b ∷ bs)
ascii-cons b bs h hs zero = h
ascii-cons b bs h hs (suc i) = hs i

ascii-step : (begins : Bool) (b : ℕ) (bs : List ℕ) → ((t : Bool) → goes_on t bs ≡ true → IsAscii bs) → (s : Bool) → (b == 47) ≡ s →
    (if s then (not begins && goes_on true bs) else (is_name_byte b && goes_on false bs)) ≡ true → IsAscii (b ∷ bs)
ascii-step begins b bs later true e h = let eq : b ≡ 47 = grind (arith, nat_tests) in ascii-cons b bs (omega arith) (later true (and_parts (not begins) (goes_on true bs) h).1)
ascii-step begins b bs later false e h =
    ascii-cons b bs (name-ascii b (and_parts (is_name_byte b) (goes_on false bs) h).0) (later false (and_parts (is_name_byte b) (goes_on false bs) h).1)

goes_on-ascii : (text : List ℕ) (begins : Bool) → goes_on begins text ≡ true → IsAscii text
goes_on-ascii [] begins h = λ i. omega arith
goes_on-ascii (b ∷ bs) begins h = ascii-step begins b bs (goes_on-ascii bs) (b == 47) refl h

pub stem-utf8 : (text : List ℕ) → IsTrue (list_all is_stem_part (parts slash text)) → IsUtf8 text
stem-utf8 text h = IsUtf8-from_ascii text (goes_on-ascii text true ((goes_on-parts text).0 ∙ h))

pub name-utf8 : (text : List ℕ) → IsTrue (list_all is_name_byte text) → IsUtf8 text
name-utf8 text h = IsUtf8-from_ascii text (ascii text h)

pub name-bytes : (text : List ℕ) → IsTrue (is_name text) → IsTrue (list_all is_name_byte text)
name-bytes text h = (and_parts (nat_le 1 (length text) && nat_le (length text) 24) (list_all is_name_byte text) h).1
