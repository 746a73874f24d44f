-- Rows that are the same sets of literals are rows of the same part, and the enable pin of a V8 stands for its row.
use Rattle.std.proofs.Common.{ℕ, ◌≡◌, ◌⊎◌, true, false, List, [], ◌∷◌, refl, sym, ap, ◌∙◌, subst, inl, inr}
use Rattle.std.specs.List.{list_any}
use Rattle.std.proofs.lemmas.Bool.{and_parts}
use Rattle.mig_base.specs.declared.levels.Level.{Level}
use Rattle.mig_base.specs.declared.circuit.Read.{Read}
use Rattle.mig_base.specs.declared.circuit.Literal.{Literal}
use Rattle.mig_base.specs.declared.circuit.Circuit.{Circuit}
use Rattle.mig_base.specs.Among.{Among}
use Rattle.mig_base.specs.Levels.{or3}
use Rattle.mig_base.specs.Structure.{same_literal}
use Rattle.mig_base.specs.Values.{product_reads, sum_reads}
use Rattle.mig_base.proofs.Amongs.{among-left, among-map, among-split, any-among, map-among}
use Rattle.mig_base.proofs.ReadLaws.{literal-same}
use Rattle.plans.specs.UnitBreaches.{has_all, same_product, share_row}
use Rattle.fitting_levels.specs.NodeValues.{NodeLevels, product_by, terms_by}
use Rattle.placed_boards.specs.Rows.{AreRows}
use Rattle.placed_boards.proofs.RowParts.{IsMatched, all-pass, product-same}

-- the items of the second list stand in the first
all-there : (xs ys : List Literal) → has_all xs ys ≡ true → (y : Literal) → Among y ys → Among y xs
all-there xs ys e y m =
    let found = any-among (same_literal y) xs (all-pass (λ (z : Literal). list_any (same_literal z) xs) y ys e m) in
    subst (λ (z : Literal). Among z xs) (sym (literal-same y found.0 found.2)) found.1

matched : (f : NodeLevels) (xs ys : List Literal) → ((x : Literal) → Among x xs → Among x ys) → IsMatched f f xs ys
matched f xs ys within = record { each = λ x m. (x, within x m, refl) }

product-shared : (f : NodeLevels) (xs ys : List Literal) → same_product xs ys ≡ true → product_by f xs ≡ product_by f ys
product-shared f xs ys e =
    let parts = and_parts (has_all xs ys) (has_all ys xs) e in
    product-same f f xs ys (matched f xs ys (all-there ys xs parts.1)) (matched f ys xs (all-there xs ys parts.0))

rows-shared : (f : NodeLevels) (ps qs : List (List Literal)) → share_row ps qs ≡ true → terms_by f ps ≡ terms_by f qs
rows-shared f [] [] e = refl
rows-shared f [] (q ∷ qs) e = cc
rows-shared f (p ∷ []) [] e = cc
rows-shared f (p ∷ []) (q ∷ []) e = ap (λ (x : Level). or3 x (terms_by f [])) (product-shared f p q e)
rows-shared f (p ∷ []) (q ∷ r ∷ qs) e = cc
rows-shared f (p ∷ s ∷ ps) [] e = cc
rows-shared f (p ∷ s ∷ ps) (q ∷ []) e = cc
rows-shared f (p ∷ s ∷ ps) (q ∷ r ∷ qs) e = cc

reads-shared : (ps qs : List (List Literal)) → share_row ps qs ≡ true → (v : Read) → Among v (sum_reads qs) → Among v (sum_reads ps)
reads-shared [] [] e v m = m
reads-shared [] (q ∷ qs) e v m = cc
reads-shared (p ∷ []) [] e v m = cc
reads-shared (p ∷ []) (q ∷ []) e v m = at (among-split v (product_reads q) [] m)
  where
    at : Among v (product_reads q) ⊎ Among v [] → Among v (sum_reads (p ∷ []))
    at (inr h) = absurd h
    at (inl h) =
        let x = among-map (λ (z : Literal). z.source) v q h in
        let there : Among x.0 p = all-there p q (and_parts (has_all p q) (has_all q p) e).0 x.0 x.1 in
        among-left v (product_reads p) [] (subst (λ (w : Read). Among w (product_reads p)) (sym x.2) (map-among (λ (z : Literal). z.source) x.0 p there))
reads-shared (p ∷ []) (q ∷ r ∷ qs) e v m = cc
reads-shared (p ∷ s ∷ ps) [] e v m = cc
reads-shared (p ∷ s ∷ ps) (q ∷ []) e v m = cc
reads-shared (p ∷ s ∷ ps) (q ∷ r ∷ qs) e v m = cc

-- a row that is shared is a row of both parts
pub shared-rows : (c : Circuit) (absorbed : List ℕ) (level : NodeLevels → Level) (reads : List Read) (ps qs : List (List Literal)) → share_row ps qs ≡ true →
    AreRows c absorbed level reads ps false → AreRows c absorbed level reads qs false
shared-rows c absorbed level reads ps qs e r = record {
  same = λ f fit. r.same f fit ∙ rows-shared f ps qs e;
  named = λ v m. r.named v (reads-shared ps qs e v m);
}
