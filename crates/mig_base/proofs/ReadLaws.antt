-- Nodes and literals that are the same are equal.
use Rattle.std.proofs.Common.{ℕ, ◌≡◌, ◌&&◌, Bool, true, false, List, [], ◌∷◌, refl, sym, ap, ◌∙◌, eqb-true, eq-eqb}
use Rattle.std.specs.List.{list_all}
use Rattle.std.proofs.lemmas.Bool.{and_parts}
use Rattle.std.proofs.lemmas.List.Folds.{list_all-map, list_all-append}
use Rattle.mig_base.specs.declared.circuit.Read.{Read}
use Rattle.mig_base.specs.declared.circuit.Read.TheVariants.{OfNet, OfRegister}
use Rattle.mig_base.specs.declared.circuit.Literal.{Literal}
use Rattle.mig_base.specs.Bools.{same_bool}
use Rattle.mig_base.specs.Structure.{same_read, same_literal}
use Rattle.mig_base.specs.Values.{product_reads, sum_reads}

pub read-same : (v w : Read) → same_read v w ≡ true → v ≡ w
read-same (OfNet n) (OfNet m) e = ap (λ q. OfNet q) (eqb-true n m e)
read-same (OfRegister n) (OfRegister m) e = ap (λ q. OfRegister q) (eqb-true n m e)
read-same (OfNet n) (OfRegister m) e = cc
read-same (OfRegister n) (OfNet m) e = cc

pub same-read : (v : Read) → same_read v v ≡ true
same-read (OfNet n) = eq-eqb n n refl
same-read (OfRegister k) = eq-eqb k k refl

pub bool-same : (p q : Bool) → same_bool p q ≡ true → p ≡ q
bool-same true true e = refl
bool-same true false e = sym e
bool-same false true e = e
bool-same false false e = refl

pub same-bool : (p : Bool) → same_bool p p ≡ true
same-bool true = refl
same-bool false = refl

pub same-net : (n m : ℕ) → OfNet n ≡ OfNet m → n ≡ m
same-net n m e = cc

pub literal-same : (x y : Literal) → same_literal x y ≡ true → x ≡ y
literal-same x y e =
    let parts = and_parts (same_read x.source y.source) (same_bool x.high y.high) e in
    let source : x.source ≡ y.source = read-same x.source y.source parts.0 in
    let high : x.high ≡ y.high = bool-same x.high y.high parts.1 in
    λ i. record { source = source i; high = high i }

pub same-literal : (x : Literal) → same_literal x x ≡ true
same-literal x = ap (λ q. q && same_bool x.high x.high) (same-read x.source) ∙ same-bool x.high

-- whether all that products and sums read passes a test

pub all-product_reads : (p : Read → Bool) (lits : List Literal) → list_all p (product_reads lits) ≡ list_all (λ x. p x.source) lits
all-product_reads p lits = list_all-map p (λ x. x.source) lits

pub all-sum_reads : (p : Read → Bool) (terms : List (List Literal)) → list_all p (sum_reads terms) ≡ list_all (λ lits. list_all (λ x. p x.source) lits) terms
all-sum_reads p [] = refl
all-sum_reads p (t ∷ ts) =
    list_all-append p (product_reads t) (sum_reads ts) ∙ ap (λ (q : Bool). q && list_all p (sum_reads ts)) (all-product_reads p t)
    ∙ ap (λ (q : Bool). list_all (λ (x : Literal). p x.source) t && q) (all-sum_reads p ts)
