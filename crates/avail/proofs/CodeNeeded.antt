-- The variables of products, added product by product.
use Rattle.std.proofs.Common.{ℕ, ◌≡◌, ◌<◌, ◌+◌, Bool, true, false, cond, ◌||◌, List, [], ◌∷◌, ◌++◌, map, length, take, refl, sym, ap, ◌∙◌, subst}
use Rattle.std.specs.Prelude.{filter}
use Rattle.std.specs.List.{list_any}
use Rattle.std.proofs.Math.ListN.{get_or}
use Rattle.std.proofs.lemmas.List.{take_more, map-append}
use Rattle.std.proofs.Math.Bool.{or-false}
use Rattle.mig_base.specs.declared.circuit.Read.{Read}
use Rattle.mig_base.specs.declared.circuit.Literal.{Literal}
use Rattle.mig_base.specs.declared.circuit.Circuit.{Circuit}
use Rattle.mig_base.specs.Structure.{same_read, all_variables}
use Rattle.new_board.specs.NewChip.{NewChip, chip_products, needed_variables}
use Rattle.avail.specs.Needed.{are_read, reads_variable, AddsSources, AddsProducts}

or-assoc : (p q r : Bool) → ((p || q) || r) ≡ (p || (q || r))
or-assoc true q r = refl
or-assoc false q r = refl

pub are_read-append : (xs ys : List Read) (v : Read) → are_read (xs ++ ys) v ≡ (are_read xs v || are_read ys v)
are_read-append [] ys v = refl
are_read-append (x ∷ xs) ys v = at (same_read x v) (are_read-append xs ys v)
  where
    at : (q : Bool) → are_read (xs ++ ys) v ≡ (are_read xs v || are_read ys v) →
        cond q true (are_read (xs ++ ys) v) ≡ (cond q true (are_read xs v) || are_read ys v)
    at true e = refl
    at false e = e

sources-read : (xs : List Literal) (v : Read) → are_read (map (λ x. x.source) xs) v ≡ reads_variable v xs
sources-read [] v = refl
sources-read (x ∷ xs) v = at (same_read x.source v) (sources-read xs v)
  where
    at : (q : Bool) → are_read (map (λ x. x.source) xs) v ≡ reads_variable v xs → cond q true (are_read (map (λ x. x.source) xs) v) ≡ (q || reads_variable v xs)
    at true e = refl
    at false e = e

pub adds-product : (lits : List Literal) (before after : List Read) → AddsSources before after (map (λ x. x.source) lits) → AddsProducts before after (lits ∷ [])
adds-product lits before after added = record {
  each = λ v. added.each v ∙ ap (λ (q : Bool). are_read before v || q) (sources-read lits v ∙ sym (or-false (reads_variable v lits)));
}

-- a variable that was not there
pub variable-new : (rs after : List Read) (w : Read) → after ≡ rs ++ w ∷ [] → AddsSources rs after (w ∷ [])
variable-new rs after w e = record { each = λ v. ap (λ (xs : List Read). are_read xs v) e ∙ are_read-append rs (w ∷ []) v }

pub sources-step : (lits : List Literal) (i : ℕ) (x : Literal) (a b d : List Read) → i < length lits → AddsSources a b (map (λ y. y.source) (take i lits)) →
    AddsSources b d ((get_or lits i x).source ∷ []) → AddsSources a d (map (λ y. y.source) (take (i + 1) lits))
sources-step lits i x a b d lt f g =
    let before = map (λ (y : Literal). y.source) (take i lits) in
    let one = (get_or lits i x).source ∷ [] in
    let all : map (λ (y : Literal). y.source) (take (i + 1) lits) ≡ before ++ one =
    ap (map (λ (y : Literal). y.source)) (take_more lits i x lt) ∙ map-append (λ (y : Literal). y.source) (take i lits) (get_or lits i x ∷ []) in
    subst (AddsSources a d) (sym all)
    (record {
      each = λ v.
          g.each v ∙ ap (λ (q : Bool). q || are_read one v) (f.each v) ∙ or-assoc (are_read a v) (are_read before v) (are_read one v)
          ∙ ap (λ (q : Bool). are_read a v || q) (sym (are_read-append before one v));
    })

pub filter-same : {T : Type 0} (f g : T → Bool) (xs : List T) → ((x : T) → f x ≡ g x) → filter f xs ≡ filter g xs
filter-same f g [] e = refl
filter-same f g (x ∷ xs) e = ap (λ (q : Bool). cond q (x ∷ filter f xs) (filter f xs)) (e x) ∙ ap (λ ys. cond (g x) (x ∷ ys) ys) (filter-same f g xs e)

pub needed-read : (c : Circuit) (chip : NewChip) (reads : List Read) → AddsProducts [] reads (chip_products c chip) → filter (are_read reads) (all_variables c) ≡ needed_variables c chip
needed-read c chip reads a = filter-same (are_read reads) (λ v. list_any (reads_variable v) (chip_products c chip)) (all_variables c) (λ v. a.each v)
