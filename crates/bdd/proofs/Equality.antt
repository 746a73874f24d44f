-- The derived `==` of the keys: it is equality.
use Rattle.std.proofs.Common.{◌≡◌, ℕ, Bool, true, false, ◌&&◌, eqb, refl}
use Rattle.std.proofs.lemmas.Bool.{eqb-true, eq-eqb, and_parts}
use Rattle.std.specs.Cmp.Derive.{both_true}
use Rattle.bdd.specs.declared.Ref.{Ref}
use Rattle.bdd.specs.declared.Entry.{Entry}
use Rattle.bdd.specs.declared.Entry.TheVariants.{One, Decision}
use Rattle.bdd.specs.declared.Operands.{Operands}
use Rattle.bdd.specs.contracts.EntryPartialEq.TheImpl as entry_eq
use Rattle.bdd.specs.contracts.OperandsPartialEq.TheImpl as operands_eq

abbrev pub same_entry : Entry → Entry → Bool
same_entry = (entry_eq.ghosts).eq

abbrev pub same_operands : Operands → Operands → Bool
same_operands = (operands_eq.ghosts).eq

three_true : (a b c d e f : ℕ) → (eqb a b && (eqb c d && eqb e f)) ≡ true → (a ≡ b) × (c ≡ d) × (e ≡ f)
three_true a b c d e f h =
    let k = (and_parts (eqb a b) (eqb c d && eqb e f) h).1 in (
      eqb-true a b (and_parts (eqb a b) (eqb c d && eqb e f) h).0,
      eqb-true c d (and_parts (eqb c d) (eqb e f) k).0,
      eqb-true e f (and_parts (eqb c d) (eqb e f) k).1,
    )

three_self : (a b c : ℕ) → (eqb a a && (eqb b b && eqb c c)) ≡ true
three_self a b c = both_true (eq-eqb a a refl) (both_true (eq-eqb b b refl) (eq-eqb c c refl))

pub same_entry_exact : (x y : Entry) → same_entry x y ≡ true → x ≡ y
same_entry_exact One One h = refl
same_entry_exact One (Decision k) h = cc
same_entry_exact (Decision m) One h = cc
same_entry_exact (Decision m) (Decision k) h =
    let e = three_true m.var k.var m.low.0 k.low.0 m.high.0 k.high.0 h in
    (λ i. Decision (record { var = e.0 i; low = record { 0 = e.1 i }; high = record { 0 = e.2 i } }))

pub same_entry_refl : (x : Entry) → same_entry x x ≡ true
same_entry_refl One = refl
same_entry_refl (Decision m) = three_self m.var m.low.0 m.high.0

pub same_operands_exact : (x y : Operands) → same_operands x y ≡ true → x ≡ y
same_operands_exact x y h =
    let e = three_true x.f.0 y.f.0 x.g.0 y.g.0 x.h.0 y.h.0 h in
    (λ i. record { f = record { 0 = e.0 i }; g = record { 0 = e.1 i }; h = record { 0 = e.2 i } })

-- refs of one number are equal
pub ref_exact : (f g : Ref) → eqb f.0 g.0 ≡ true → f ≡ g
ref_exact f g h = let e = eqb-true f.0 g.0 h in (λ i. record { 0 = e i })
