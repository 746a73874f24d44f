-- Triples and levels of leaves, one more at a time.
use Rattle.std.proofs.Common.{ℕ, zero, suc, ◌≡◌, ◌+◌, ◌<◌, ◌≤◌, Bool, true, false, List, [], ◌∷◌, ◌++◌, length, get_or, take, map, refl, sym, ap, ◌∙◌, subst}
use Rattle.std.specs.Prelude.{slice_get}
use Rattle.std.proofs.lemmas.List.{length-append, take_more, map-append}
use Rattle.bdd.specs.Tree.{Point}
use Rattle.bdd.specs.Diagram.{Diagram, Keeps}
use Rattle.mig_base.specs.declared.levels.Level.{Level}
use Rattle.mig_base.specs.Levels.{level_at, or_x}
use Rattle.leaves.specs.declared.Leaf.{Leaf}
use Rattle.leaves.specs.declared.Range.TheVariants.{Bit}
use Rattle.leaves.specs.Leaves.{leaf_level, leaf_levels}
use Rattle.reckoning.specs.declared.triples.Three.{Three}
use Rattle.reckoning.specs.Triples.{IsTriple, Says}
use Rattle.reckoning.proofs.Kept.{place_kept, triples_kept}
use Rattle.reckoning.proofs.ListLaws.{says-push, triples-push}
use Rattle.class_leaves.specs.LeafTriples.{AreLeafTriples}

pub no-leaves : (d : Diagram) → AreLeafTriples d [] []
no-leaves d = record { triples = λ n. tt; count = refl; says = λ p n. refl }

pub leaf-more : (b c : Diagram) (fs : List Leaf) (i : ℕ) (f d : Leaf) (ts : List Three) (t : Three) → i < length fs → f ≡ get_or fs i d → Keeps b c → AreLeafTriples b (take i fs) ts → IsTriple c t →
    ((p : Point) → Says c t p (leaf_level f p)) → AreLeafTriples c (take (i + 1) fs) (ts ++ t ∷ [])
leaf-more b c fs i f d ts t lt e keeps are valid says =
    subst (λ xs. AreLeafTriples c xs (ts ++ t ∷ [])) (ap (λ x. take i fs ++ x ∷ []) e ∙ sym (take_more fs i d lt)) (record {
      triples = triples-push c ts t (triples_kept b c ts keeps are.triples) valid;
      count = length-append ts (t ∷ []) ∙ ap (λ (n : ℕ). n + 1) are.count ∙ sym (length-append (take i fs) (f ∷ []));
      says = λ p. says-push c p (λ x. leaf_level x p) (take i fs) f ts t are.count (λ n. place_kept b c ts n p (or_x (λ x. leaf_level x p) (slice_get (take i fs) n)) keeps are.triples (are.says p n)) (says p);
    })

-- the level that a list of leaves has at a place
pub leaf-level-at : (p : Point) (fs : List Leaf) (n : ℕ) → level_at (leaf_levels p fs) n ≡ or_x (λ f. leaf_level f p) (slice_get fs n)
leaf-level-at p [] n = refl
leaf-level-at p (f ∷ fs) zero = refl
leaf-level-at p (f ∷ fs) (suc n) = leaf-level-at p fs n

pub levels-more : (p : Point) (fs : List Leaf) (i : ℕ) (f d : Leaf) → i < length fs → f ≡ get_or fs i d → leaf_levels p (take i fs) ++ leaf_level f p ∷ [] ≡ leaf_levels p (take (i + 1) fs)
levels-more p fs i f d lt e =
    sym (ap (leaf_levels p) (take_more fs i d lt ∙ ap (λ x. take i fs ++ x ∷ []) (sym e)) ∙ map-append (λ (x : Leaf). leaf_level x p) (take i fs) (f ∷ []))
