-- What the inverted literals read is inverted.
use Rattle.std.proofs.Common.{◌≡◌, Bool, true, false, not, ◌&&◌, ◌||◌, if◌then◌else◌, refl, sym, ◌∙◌, ap, List, [], ◌∷◌}
use Rattle.std.specs.List.{list_any, list_all}
use Rattle.std.proofs.Math.Bool.{not-not}
use Rattle.mig_base.specs.declared.nets.VarLit.{VarLit}
use Rattle.mig_base.specs.declared.nets.VarProduct.{VarProduct}
use Rattle.joiner.specs.Joined.{Inverted, Reading, literal_read, product_read, terms_read, inverted_read}
use Rattle.joiner.specs.Pairs.{opposite_reading}

not_and : (a b : Bool) → not (a && b) ≡ (not a || not b)
not_and true b = refl
not_and false b = refl

not_or : (a b : Bool) → not (a || b) ≡ (not a && not b)
not_or true b = refl
not_or false b = refl

module _ (r : Reading) where
  abbrev turned : Reading
  turned = opposite_reading r

  literal_turned : (side : Bool) (x : VarLit) → literal_read turned side x ≡ not (literal_read r (not side) x)
  literal_turned true x = refl
  literal_turned false x = ap (λ h. not (r x.var h)) (not-not x.high)

  all_turned : (xs : List VarLit) → list_all (literal_read turned true) xs ≡ not (list_any (literal_read r false) xs)
  all_turned [] = refl
  all_turned (x ∷ xs) = (λ i. literal_turned true x i && all_turned xs i) ∙ sym (not_or (literal_read r false x) (list_any (literal_read r false) xs))

  any_turned : (xs : List VarLit) → list_any (literal_read turned false) xs ≡ not (list_all (literal_read r true) xs)
  any_turned [] = refl
  any_turned (x ∷ xs) = (λ i. literal_turned false x i || any_turned xs i) ∙ sym (not_and (literal_read r true x) (list_all (literal_read r true) xs))

  product_turned : (side : Bool) (t : VarProduct) → product_read turned side t ≡ not (product_read r (not side) t)
  product_turned true t = all_turned t.lits
  product_turned false t = any_turned t.lits

  pub terms_turned : (side : Bool) (ts : List VarProduct) → terms_read turned side ts ≡ not (terms_read r (not side) ts)
  terms_turned true [] = refl
  terms_turned true (t ∷ ts) = (λ i. product_turned true t i || terms_turned true ts i) ∙ sym (not_and (product_read r false t) (terms_read r false ts))
  terms_turned false [] = refl
  terms_turned false (t ∷ ts) = (λ i. product_turned false t i && terms_turned false ts i) ∙ sym (not_or (product_read r true t) (terms_read r true ts))

  pub inverted_turned : (side : Bool) (sum : Inverted) → inverted_read turned side sum ≡ not (inverted_read r (not side) sum)
  inverted_turned side sum = by sum.low
    where
      by : (low : Bool) → terms_read turned (if low then not side else side) sum.terms ≡ not (terms_read r (if low then not (not side) else not side) sum.terms)
      by true = terms_turned (not side) sum.terms
      by false = terms_turned side sum.terms
