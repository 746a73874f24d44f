-- The points of levels.
use Rattle.std.proofs.Common.{◌≡◌, ℕ, Bool, true, false, not, if◌then◌else◌, cond, refl, sym, ◌∙◌, ap, subst, arith, List, [], ◌∷◌, length, slice_get, Option, None, Some, IfSome, zero, suc}
use Rattle.std.proofs.lemmas.Option.{same_Some}
use Rattle.mig_base.specs.Levels.{level_at}
use Rattle.mig_base.specs.declared.levels.Level.{Level}
use Rattle.mig_base.specs.declared.nets.Var.{Var}
use Rattle.rails.specs.declared.Side.{Side}
use Rattle.rails.specs.declared.Side.TheVariants.{Pure, High, Low}
use Rattle.rails.specs.declared.Rail.{Rail}
use Rattle.rails.specs.Variables.{all_rails, same_var}
use Rattle.rails.specs.Points.{opposite, mirror, mirror_at, put, put_at, side_of, IsKept, IsBelow}
use Rattle.rails.specs.Steps.{IsPureSide, IsPairedBy}
use Rattle.rails.specs.Levels.{IsLevel, AreLevels, side_under, rail_under, point_under, level_between, with_level}
use Rattle.rails.proofs.RailLemmas.{is_pure, Origin, origin, all_paired}
use Rattle.rails.proofs.Tables.{under_kept, under_high, under_low, under_pure, under_between}

pub levels_length : (vs : List (Var × Bool)) (ls : List Level) → AreLevels vs ls → length ls ≡ length vs
levels_length [] [] h = refl
levels_length [] (l ∷ ls) h = absurd h
levels_length (v ∷ vs) [] h = absurd h
levels_length (v ∷ vs) (l ∷ ls) h = omega (arith, levels_length vs ls h.1)

level_at_index : (vs : List (Var × Bool)) (ls : List Level) (j : ℕ) (w : Var × Bool) → AreLevels vs ls → slice_get vs j ≡ Some w → IsLevel w.1 (level_at ls j)
level_at_index [] ls j w h e = cc
level_at_index (v ∷ vs) [] j w h e = absurd h
level_at_index (v ∷ vs) (l ∷ ls) zero w h e = subst (λ (x : Var × Bool). IsLevel x.1 l) (same_Some v w e) h.0
level_at_index (v ∷ vs) (l ∷ ls) (suc j) w h e = level_at_index vs ls j w h.1 e

with_level_at : (vs : List (Var × Bool)) (ls : List Level) (v : Var) (l : Level) (j : ℕ) (w : Var × Bool) → AreLevels vs ls → slice_get vs j ≡ Some w
    → level_at (with_level vs ls v l) j ≡ (if same_var w.0 v then l else level_at ls j)
with_level_at [] ls v l j w h e = cc
with_level_at (u ∷ vs) [] v l j w h e = absurd h
with_level_at (u ∷ vs) (k ∷ ks) v l zero w h e = ap (λ (x : Var × Bool). if same_var x.0 v then l else k) (same_Some u w e)
with_level_at (u ∷ vs) (k ∷ ks) v l (suc j) w h e = with_level_at vs ks v l j w h.1 e

module _ (vs : List (Var × Bool)) (ls : List Level) (lawful : AreLevels vs ls) where
  abbrev rs : List Rail
  rs = all_rails vs

  number : (r : Rail) (o : Origin 0 vs r) → o.index ≡ r.variable
  number r o = omega (arith, o.number)

  pub rail_level : (n : ℕ) (r : Rail) → slice_get rs n ≡ Some r → IsLevel (is_pure r.side) (level_at ls r.variable)
  rail_level n r e =
      let o = origin 0 vs n r e in
      subst (λ j. IsLevel (is_pure r.side) (level_at ls j)) (number r o) (level_at_index vs ls o.index (r.var, is_pure r.side) lawful o.named)

  put_level : (n : ℕ) (r : Rail) (v : Var) (l : Level) → slice_get rs n ≡ Some r
      → level_at (with_level vs ls v l) r.variable ≡ (if same_var r.var v then l else level_at ls r.variable)
  put_level n r v l e =
      let o = origin 0 vs n r e in
      subst (λ j. level_at (with_level vs ls v l) j ≡ (if same_var r.var v then l else level_at ls j)) (number r o)
      (with_level_at vs ls v l o.index (r.var, is_pure r.side) lawful o.named)

  -- with more unknowns true, Booleans of impure variables become true
  pub points_below : IsBelow rs (point_under false rs ls) (point_under true rs ls)
  points_below = record { each = λ n. by n (slice_get rs n) refl }
    where
      by : (n : ℕ) (o : Option Rail) → slice_get rs n ≡ o → IfSome o (λ r. IsKept r.side (rail_under false ls o) (rail_under true ls o))
      by n None e = tt
      by n (Some r) e = under_kept r.side (level_at ls r.variable) (rail_level n r e)

  -- the mirrored point of levels is that with the unknowns the other way round
  pub mirrored : (u : Bool) (n : ℕ) → mirror rs (point_under u rs ls) n ≡ point_under (not u) rs ls n
  mirrored u n = by (slice_get rs n) refl
    where
      sided : (r : Rail) (s : Side) → slice_get rs n ≡ Some (record { var = r.var; variable = r.variable; side = s }) → IsPairedBy rs n r s
          → IsLevel (is_pure s) (level_at ls r.variable) → opposite s (point_under u rs ls) n ≡ side_under (not u) s (level_at ls r.variable)
      sided r Pure e h i = ap (rail_under u ls) e ∙ under_pure u (level_at ls r.variable) i
      sided r High e h i = ap (λ o. not (rail_under u ls o)) h ∙ under_high u (level_at ls r.variable)
      sided r Low e h i = ap (λ o. not (rail_under u ls o)) h.1 ∙ under_low u (level_at ls r.variable)

      by : (o : Option Rail) → slice_get rs n ≡ o → mirror_at o (point_under u rs ls) n ≡ rail_under (not u) ls o
      by None e = ap (rail_under u ls) e
      by (Some r) e =
          sided r r.side e (subst (λ (o : Option Rail). IfSome o (λ q. IsPairedBy rs n q q.side)) e ((all_paired vs).each n)) (rail_level n r e)

  -- the point with a variable's literals at a function's two values is that of the levels with the variable at its level
  pub put_point : (u : Bool) (v : Var) (a b : Bool) → (a ≡ true → b ≡ true) → ((n : ℕ) (r : Rail) → slice_get rs n ≡ Some r → same_var r.var v ≡ true → IsPureSide r.side → a ≡ b)
      → (n : ℕ) → put rs v (if u then b else a) (not (if u then a else b)) (point_under u rs ls) n ≡ point_under u rs (with_level vs ls v (level_between a b)) n
  put_point u v a b h k n = by (slice_get rs n) refl
    where
      choose : (r : Rail) → slice_get rs n ≡ Some r → (c : Bool) → same_var r.var v ≡ c
          → cond c (side_of r.side (if u then b else a) (not (if u then a else b))) (point_under u rs ls n) ≡ side_under u r.side (cond c (level_between a b) (level_at ls r.variable))
      choose r e true c = under_between u r.side a b h (k n r e c)
      choose r e false c = ap (rail_under u ls) e

      by : (o : Option Rail) → slice_get rs n ≡ o
          → put_at o v (if u then b else a) (not (if u then a else b)) (point_under u rs ls n) ≡ rail_under u (with_level vs ls v (level_between a b)) o
      by None e = ap (rail_under u ls) e
      by (Some r) e = choose r e (same_var r.var v) refl ∙ ap (side_under u r.side) (sym (put_level n r v (level_between a b) e))
