-- What the table of absorbed nets says of products.
use Rattle.std.proofs.Common.{ℕ, zero, suc, ◌≡◌, Bool, true, false, ◌||◌, ◌==◌, List, [], ◌∷◌, Option, Some, None, refl, sym, ap, ◌∙◌, inl, inr, eqb-true, eq-eqb}
use Rattle.std.specs.Prelude.{is_some}
use Rattle.std.specs.List.{list_any, slice_get}
use Rattle.std.proofs.lemmas.Option.{same_Some}
use Rattle.mig_base.specs.Among.{Among}
use Rattle.mig_base.specs.declared.circuit.Read.{Read}
use Rattle.mig_base.specs.declared.circuit.Read.TheVariants.{OfNet, OfRegister}
use Rattle.mig_base.specs.declared.circuit.Literal.{Literal}
use Rattle.mig_base.specs.declared.circuit.Wire.{Wire}
use Rattle.board.specs.Joined.{Joined, equations_of}
use Rattle.joiner.specs.AbsorbedNets.{IsAbsorbedTable}
use Rattle.joiner.specs.Marked.{unit_at}
use Rattle.plans.specs.Forms.{Products, is_sole_absorbed, is_absorbed_wire, is_absorbed_read, read_absorbed}
use Rattle.forms.specs.Cones.{has_unit, read_in_table}

same-flags : (p q : Bool) → (p ≡ true → q ≡ true) → (q ≡ true → p ≡ true) → p ≡ q
same-flags true q a b = sym (a refl)
same-flags false true a b = b refl
same-flags false false a b = refl

among-listed : (u : ℕ) (us : List ℕ) → Among u us → list_any (λ a. a == u) us ≡ true
among-listed u [] a = absurd a
among-listed u (x ∷ xs) (inl e) = ap (λ (q : Bool). q || list_any (λ a. a == u) xs) (eq-eqb x u (sym e))
among-listed u (x ∷ xs) (inr a) = at (x == u) (among-listed u xs a)
  where
    at : (q : Bool) → list_any (λ a. a == u) xs ≡ true → (q || list_any (λ a. a == u) xs) ≡ true
    at true h = refl
    at false h = h

listed-among : (u : ℕ) (us : List ℕ) → list_any (λ a. a == u) us ≡ true → Among u us
listed-among u [] e = let wrong = e in cc
listed-among u (x ∷ xs) e = at (x == u) refl (listed-among u xs) e
  where
    at : (q : Bool) → (x == u) ≡ q → (list_any (λ a. a == u) xs ≡ true → Among u xs) → (q || list_any (λ a. a == u) xs) ≡ true → Among u (x ∷ xs)
    at true same rest h = inl (sym (eqb-true x u same))
    at false same rest h = inr (rest h)

unit-found : (nets : List (Option ℕ)) (n u : ℕ) → slice_get nets n ≡ Some (Some u) → unit_at nets n ≡ Some u
unit-found [] n u e = let wrong = e in cc
unit-found (x ∷ xs) zero u e = same_Some x (Some u) e
unit-found (x ∷ xs) (suc n) u e = unit-found xs n u e

found-unit : (nets : List (Option ℕ)) (n u : ℕ) → unit_at nets n ≡ Some u → slice_get nets n ≡ Some (Some u)
found-unit [] n u e = let wrong = e in cc
found-unit (x ∷ xs) zero u e = ap Some e
found-unit (x ∷ xs) (suc n) u e = found-unit xs n u e

sole : (absorbed drivers : List ℕ) → is_sole_absorbed absorbed drivers ≡ true → (u : ℕ) × (drivers ≡ u ∷ []) × Among u absorbed
sole absorbed [] e = let wrong = e in cc
sole absorbed (u ∷ []) e = (u, refl, listed-among u absorbed e)
sole absorbed (u ∷ v ∷ us) e = let wrong = e in cc

module _ (b : Joined) (absorbed : List ℕ) (nets : List (Option ℕ)) (table : IsAbsorbedTable b absorbed nets) where
  read-wire : (n : ℕ) (o : Option Wire) → slice_get (equations_of b).nets n ≡ o → is_absorbed_wire absorbed o ≡ true → is_some (unit_at nets n) ≡ true
  read-wire n None is e = let wrong = e in cc
  read-wire n (Some w) is e =
      let s = sole absorbed w.drivers e in
      let there = (table.are.each n s.0).1 (record { wire = w; on = is; alone = s.1; listed = s.2 }) in
      ap is_some (unit-found nets n s.0 there)

  wire-read : (n : ℕ) (o : Option ℕ) → unit_at nets n ≡ o → is_some o ≡ true → is_absorbed_wire absorbed (slice_get (equations_of b).nets n) ≡ true
  wire-read n None is e = let wrong = e in cc
  wire-read n (Some u) is e =
      let h = (table.are.each n u).0 (found-unit nets n u is) in
      ap (is_absorbed_wire absorbed) h.on ∙ ap (is_sole_absorbed absorbed) h.alone ∙ among-listed u absorbed h.listed

  read-same : (v : Read) → has_unit nets v ≡ is_absorbed_read (equations_of b) absorbed v
  read-same (OfRegister k) = refl
  read-same (OfNet n) = same-flags (is_some (unit_at nets n)) (is_absorbed_wire absorbed (slice_get (equations_of b).nets n))
      (wire-read n (unit_at nets n) refl) (read-wire n (slice_get (equations_of b).nets n) refl)

  pub products-read : (products : Products) → read_in_table nets products ≡ read_absorbed (equations_of b) absorbed products
  products-read products = λ i. list_any (λ (lits : List Literal). list_any (λ (x : Literal). read-same x.source i) lits) products
