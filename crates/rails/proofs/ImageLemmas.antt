-- Lists of images, over a graph that grows.
use Rattle.std.proofs.Common.{◌≡◌, ℕ, ◌+◌, ◌<◌, ◌≤◌, refl, sym, ◌∙◌, ap, subst, arith, List, [], ◌∷◌, ◌++◌, length, length-append, slice_get, Option, None, Some, IfSome, ◌⊎◌, inl, inr, Bool}
use Rattle.std.proofs.Math.ListN.{get_or-append}
use Rattle.std.proofs.lemmas.List.{get_or_push}
use Rattle.std.proofs.lemmas.Option.{slice_get-get_or, slice_get_past, slice_get_within}
use Rattle.bdd.specs.Tree.{Point, holds}
use Rattle.bdd.specs.Diagram.{Diagram, IsValid, function_of, Keeps}
use Rattle.bdd.specs.declared.Ref.{Ref}
use Rattle.mig_base.specs.declared.nets.Var.{Var}
use Rattle.mig_base.proofs.ListLaws.{get-past}
use Rattle.rails.specs.declared.Side.{Side}
use Rattle.rails.specs.declared.Side.TheVariants.{Pure, High, Low}
use Rattle.rails.specs.declared.Rail.{Rail}
use Rattle.rails.specs.Points.{opposite, mirror, mirror_at, put, put_at, Is}
use Rattle.rails.specs.Steps.{IsWithin, IsPairedBy, ArePaired}
use Rattle.rails.specs.Compose.{AllValid, value_of, image, IsComposed, AreImages}

pub is_kept : (d e : Diagram) (g : Point → Bool) (r : Ref) → Keeps d e → Is d g r → Is e g r
is_kept d e g r k h = record { valid = k.valid r h.valid; means = λ p. ap (λ t. holds t p) (k.tree r h.valid) ∙ h.means p }

-- a ref has in a graph that was kept the function that it had
pub is_old : (d e : Diagram) (r : Ref) → Keeps d e → IsValid d r → Is e (function_of d r) r
is_old d e r k v = record { valid = k.valid r v; means = λ p. ap (λ t. holds t p) (k.tree r v) }

pub images_kept : (d e : Diagram) (change : Point → Point) (rs : List Ref) → Keeps d e → AreImages d change rs → AreImages e change rs
images_kept d e change rs k h = record { each = λ n. by n (slice_get rs n) (h.each n) }
  where
    by : (n : ℕ) (o : Option Ref) → IfSome o (Is d (λ p. change p n)) → IfSome o (Is e (λ p. change p n))
    by n None h = tt
    by n (Some r) h = is_kept d e (λ p. change p n) r k h

-- a place before the new one, the new one, or one past it
places : (i n : ℕ) → (i < n) ⊎ ((i ≡ n) ⊎ (n + 1 ≤ i))
places i n = grind arith

pub slice_get_push_old : {X : Type 0} (xs : List X) (y : X) (i : ℕ) → i < length xs → slice_get (xs ++ y ∷ []) i ≡ slice_get xs i
slice_get_push_old xs y i l =
    slice_get-get_or (xs ++ y ∷ []) i y (omega (arith, length-append xs (y ∷ []))) ∙ ap Some (get_or-append xs (y ∷ []) y i l) ∙ sym (slice_get-get_or xs i y l)

pub slice_get_push_new : {X : Type 0} (xs : List X) (y : X) (i : ℕ) → i ≡ length xs → slice_get (xs ++ y ∷ []) i ≡ Some y
slice_get_push_new xs y i e =
    slice_get-get_or (xs ++ y ∷ []) i y (omega (arith, length-append xs (y ∷ []))) ∙ ap Some (get_or_push xs y y i (sym e))

pub images_push : (d : Diagram) (change : Point → Point) (rs : List Ref) (r : Ref) (n : ℕ) → length rs ≡ n → AreImages d change rs → Is d (λ p. change p n) r → AreImages d change (rs ++ r ∷ [])
images_push d change rs r n e h is = record {
  each = λ i. elim (places i n) [
    | inl l ↦ subst (λ o. IfSome o (Is d (λ p. change p i))) (sym (slice_get_push_old rs r i (omega arith))) (h.each i)
    | inr m ↦ elim m [
      | inl q ↦ subst (λ o. IfSome o (Is d (λ p. change p i))) (sym (slice_get_push_new rs r i (q ∙ sym e))) (subst (λ j. Is d (λ p. change p j) r) (sym q) is)
      | inr l ↦ subst (λ o. IfSome o (Is d (λ p. change p i))) (sym (slice_get_past (rs ++ r ∷ []) i (omega (arith, length-append rs (r ∷ []))))) tt
    ]
  ];
}

pub images_valid : (d : Diagram) (change : Point → Point) (rs : List Ref) → AreImages d change rs → AllValid d rs
images_valid d change rs h v = by (slice_get rs v) (h.each v)
  where
    by : (o : Option Ref) → IfSome o (Is d (λ p. change p v)) → IfSome o (IsValid d)
    by None h = tt
    by (Some r) h = h.valid

-- the point of the images is the changed one
image_change : (d : Diagram) (change : Point → Point) (rs : List Ref) (p : Point) → AreImages d change rs → ((n : ℕ) → length rs ≤ n → change p n ≡ p n)
    → (n : ℕ) → image d rs p n ≡ change p n
image_change d change rs p h out n = by (slice_get rs n) refl (h.each n)
  where
    by : (o : Option Ref) → slice_get rs n ≡ o → IfSome o (Is d (λ q. change q n)) → value_of d p n o ≡ change p n
    by None e h = sym (out n (get-past rs n e))
    by (Some r) e h = h.means p

-- f of the images is f at the changed point
pub composed_is : (d e : Diagram) (change : Point → Point) (rs : List Ref) (f r : Ref) → AreImages d change rs → ((p : Point) (n : ℕ) → length rs ≤ n → change p n ≡ p n)
    → IsComposed d e rs f r → Is e (λ p. function_of d f (change p)) r
composed_is d e change rs f r h out c = record {
  valid = c.valid;
  means = λ p. c.means p ∙ (λ i. function_of d f (λ n. image_change d change rs p h (out p) n i));
}

-- the mirrored Boolean at a place is the opposite one
pub is_mirror : (d : Diagram) (rs : List Rail) (n : ℕ) (r : Rail) (x : Ref) → slice_get rs n ≡ Some r → Is d (λ p. opposite r.side p n) x → Is d (λ p. mirror rs p n) x
is_mirror d rs n r x e h = subst (λ (o : Option Rail). Is d (λ p. mirror_at o p n) x) (sym e) h

pub is_put : (d : Diagram) (rs : List Rail) (n : ℕ) (r : Rail) (v : Var) (t c : Point → Bool) (x : Ref) → slice_get rs n ≡ Some r
    → Is d (λ p. put_at (Some r) v (t p) (c p) (p n)) x → Is d (λ p. put rs v (t p) (c p) p n) x
is_put d rs n r v t c x e h = subst (λ (o : Option Rail). Is d (λ p. put_at o v (t p) (c p) (p n)) x) (sym e) h

-- past the Booleans nothing is changed
pub mirror_past : (rs : List Rail) (m : ℕ) → m ≡ length rs → (p : Point) (n : ℕ) → m ≤ n → mirror rs p n ≡ p n
mirror_past rs m e p n l = ap (λ o. mirror_at o p n) (slice_get_past rs n (omega arith))

pub put_past : (rs : List Rail) (v : Var) (t c : Point → Bool) (m : ℕ) → m ≡ length rs → (p : Point) (n : ℕ) → m ≤ n → put rs v (t p) (c p) p n ≡ p n
put_past rs v t c m e p n l = ap (λ o. put_at o v (t p) (c p) (p n)) (slice_get_past rs n (omega arith))

-- the Boolean that is swapped with that at a place is there
pub within : (rs : List Rail) (n m : ℕ) (r : Rail) → m ≡ length rs → slice_get rs n ≡ Some r → ArePaired rs → IsWithin m n r.side
within rs n m r e at h = by r.side (subst (λ (o : Option Rail). IfSome o (λ q. IsPairedBy rs n q q.side)) at (h.each n))
  where
    by : (s : Side) → IsPairedBy rs n r s → IsWithin m n s
    by Pure g = tt
    by High g = let l = slice_get_within rs (n + 1) (record { var = r.var; variable = r.variable; side = Low }) g in omega arith
    by Low g = g.0
