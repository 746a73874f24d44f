-- Facts that hold of every kind of chip.
use Rattle.std.proofs.Common.{ℕ, zero, suc, ◌≡◌, ◌≤◌, Bool, true, List, [], ◌∷◌, length, lit≤, Some, refl, sym, ap, ◌∙◌}
use Rattle.std.specs.Prelude.{nat_le, not, ◌==◌, ◌&&◌}
use Rattle.std.specs.List.{list_all, slice_get}
use Rattle.std.proofs.lemmas.Bool.{and_parts, leb-true}
use Rattle.mig_base.specs.declared.kinds.Kind.{Kind}
use Rattle.mig_base.specs.declared.kinds.Kind.TheVariants.{Pal16L8, Pal16R4, Pal16R6, Pal16R8, Pal20L8, Pal20R4, Pal20R6, Pal20R8, Gal16V8, Gal20V8, Gal22V10, Gal22V10Q}
use Rattle.mig_base.specs.DeviceTables.{kind_name, kind_named, pins_of, ground_of, ordinary_pins, all_kinds, pair_pins}
use Rattle.mig_base.specs.WrittenBoard.{are_distinct}
use Rattle.mig_base.specs.Cells.{is_among}
use Rattle.mig_base.specs.declared.kinds.Mode.{Mode}
use Rattle.mig_base.specs.declared.kinds.Mode.TheVariants.{Fixed, Simple, Complex, Registered}

pub member-passes : {T : Type 0} (p : T → Bool) (xs : List T) (j : ℕ) (x : T) → list_all p xs ≡ true → slice_get xs j ≡ Some x → p x ≡ true
member-passes p [] j x h e = cc
member-passes {T} p (y ∷ xs) zero x h e = let same : y ≡ x = cc in ap p (sym same) ∙ (and_parts _ _ h).0
member-passes p (y ∷ xs) (suc j) x h e = member-passes p xs j x (and_parts (p y) _ h).1 e

-- a test that all twelve pass
pub every-kind : (p : Kind → Bool) → list_all p all_kinds ≡ true → (k : Kind) → p k ≡ true
every-kind p h Pal16L8 = member-passes p all_kinds 0 Pal16L8 h refl
every-kind p h Pal16R4 = member-passes p all_kinds 1 Pal16R4 h refl
every-kind p h Pal16R6 = member-passes p all_kinds 2 Pal16R6 h refl
every-kind p h Pal16R8 = member-passes p all_kinds 3 Pal16R8 h refl
every-kind p h Pal20L8 = member-passes p all_kinds 4 Pal20L8 h refl
every-kind p h Pal20R4 = member-passes p all_kinds 5 Pal20R4 h refl
every-kind p h Pal20R6 = member-passes p all_kinds 6 Pal20R6 h refl
every-kind p h Pal20R8 = member-passes p all_kinds 7 Pal20R8 h refl
every-kind p h Gal16V8 = member-passes p all_kinds 8 Gal16V8 h refl
every-kind p h Gal20V8 = member-passes p all_kinds 9 Gal20V8 h refl
every-kind p h Gal22V10 = member-passes p all_kinds 10 Gal22V10 h refl
every-kind p h Gal22V10Q = member-passes p all_kinds 11 Gal22V10Q h refl

-- a pin of a kind other than ground and power
abbrev pub is_proper : Kind → ℕ → Bool
is_proper k p = nat_le 1 p && nat_le p (pins_of k) && not (p == ground_of k) && not (p == pins_of k)

pub ordinary-proper : (k : Kind) → list_all (is_proper k) (ordinary_pins k) ≡ true
ordinary-proper k = every-kind (λ j. list_all (is_proper j) (ordinary_pins j)) refl k

pub ordinary-distinct : (k : Kind) → are_distinct (λ p q. p == q) (ordinary_pins k) ≡ true
ordinary-distinct k = every-kind (λ j. are_distinct (λ p q. p == q) (ordinary_pins j)) refl k

pub pins-few : (k : Kind) → pins_of k ≤ 24
pins-few k = leb-true (pins_of k) 24 (every-kind (λ j. nat_le (pins_of j) 24) refl k)

-- the name of a kind is read back
pub kind-read : (k : Kind) → kind_named (kind_name k) ≡ Some k
kind-read Pal16L8 = refl
kind-read Pal16R4 = refl
kind-read Pal16R6 = refl
kind-read Pal16R8 = refl
kind-read Pal20L8 = refl
kind-read Pal20R4 = refl
kind-read Pal20R6 = refl
kind-read Pal20R8 = refl
kind-read Gal16V8 = refl
kind-read Gal20V8 = refl
kind-read Gal22V10 = refl
kind-read Gal22V10Q = refl

pub kind-name-length : (k : Kind) → length (kind_name k) ≤ 9
kind-name-length Pal16L8 = lit≤ tt
kind-name-length _ = lit≤ tt

-- the pins of column pairs are no power pins
pub pairs-ordinary : (kind : Kind) (mode : Mode) → list_all (is_among (ordinary_pins kind)) (pair_pins kind mode) ≡ true
pairs-ordinary Pal16L8 mode = refl
pairs-ordinary Pal16R4 mode = refl
pairs-ordinary Pal16R6 mode = refl
pairs-ordinary Pal16R8 mode = refl
pairs-ordinary Pal20L8 mode = refl
pairs-ordinary Pal20R4 mode = refl
pairs-ordinary Pal20R6 mode = refl
pairs-ordinary Pal20R8 mode = refl
pairs-ordinary Gal16V8 Fixed = refl
pairs-ordinary Gal16V8 Simple = refl
pairs-ordinary Gal16V8 Complex = refl
pairs-ordinary Gal16V8 Registered = refl
pairs-ordinary Gal20V8 Fixed = refl
pairs-ordinary Gal20V8 Simple = refl
pairs-ordinary Gal20V8 Complex = refl
pairs-ordinary Gal20V8 Registered = refl
pairs-ordinary Gal22V10 mode = refl
pairs-ordinary Gal22V10Q mode = refl
