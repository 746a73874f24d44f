-- Products, sums, inverses and replacements rise with the Booleans of impure variables, and have the values of three-valued logic.
use Rattle.std.proofs.Common.{◌≡◌, ℕ, ◌+◌, ◌-◌, Bool, true, false, not, ◌&&◌, ◌||◌, if◌then◌else◌, cond, refl, sym, ◌∙◌, ap, subst, arith, List, [], ◌∷◌, slice_get, Option, None, Some, IfSome, All, true≢false}
use Rattle.std.proofs.lemmas.List.Elements.{All-head, All-tail}
use Rattle.std.proofs.lemmas.Map.Keys.{any_passes_from_place}
use Rattle.bdd.specs.Tree.{Point}
use Rattle.mig_base.specs.Bools.{same_bool}
use Rattle.mig_base.specs.Levels.{not3, and3, or3, level_at}
use Rattle.mig_base.specs.declared.levels.Level.{Level}
use Rattle.mig_base.specs.declared.nets.Var.{Var}
use Rattle.mig_base.specs.declared.nets.VarLit.{VarLit}
use Rattle.mig_base.specs.declared.nets.VarProduct.{VarProduct}
use Rattle.rails.specs.declared.Side.{Side}
use Rattle.rails.specs.declared.Side.TheVariants.{Pure, High, Low}
use Rattle.rails.specs.declared.Rail.{Rail}
use Rattle.rails.specs.Variables.{all_rails, same_var}
use Rattle.rails.specs.Points.{read_off, literal_holds, row_holds, sum_holds, mirror, mirror_at, opposite, put, put_at, side_of, inverse, replacement, IsListed, IsKept, IsBelow, IsMonotone, ReadsPure, AgreeOnPure, IsSameIfPure, IsPure}
use Rattle.rails.specs.Steps.{IsPairedBy, ArePaired, IsPureSide, CanTake}
use Rattle.rails.specs.Levels.{AreLevels, value_under, literal_level, row_level, sum_level, point_under, level_between, rail_under, with_level}
use Rattle.rails.proofs.RailLemmas.{is_pure, origin}
use Rattle.rails.proofs.FoundLemmas.{found}
use Rattle.rails.proofs.PointLemmas.{points_below, mirrored, put_point, rail_level}
use Rattle.rails.proofs.Tables.{literal_value, level_and, level_or, level_not}

read_rises : (s : Side) (high a b : Bool) → IsKept s a b → read_off s high a ≡ true → read_off s high b ≡ true
read_rises Pure high a b k h = ap (same_bool high) (sym k) ∙ h
read_rises High high a b k h = k h
read_rises Low high a b k h = k h

pub and_rises : (a b c d : Bool) → (a ≡ true → b ≡ true) → (c ≡ true → d ≡ true) → (a && c) ≡ true → (b && d) ≡ true
and_rises true b c d h k e = (λ i. (h refl i && k e i))
and_rises false b c d h k e = absurd (true≢false (sym e))

pub or_rises : (a b c d : Bool) → (a ≡ true → b ≡ true) → (c ≡ true → d ≡ true) → (a || c) ≡ true → (b || d) ≡ true
or_rises true b c d h k e = ap (λ x. x || d) (h refl)
or_rises false true c d h k e = refl
or_rises false false c d h k e = k e

-- what holds of a Boolean that is there
abbrev pub there : (rs : List Rail) (P : ℕ → Rail → Type 0) (n : ℕ) (r : Rail) → slice_get rs n ≡ Some r → IfSome (slice_get rs n) (P n) → P n r
there rs P n r e h = subst (λ (o : Option Rail). IfSome o (P n)) e h

literal_rises : (vs : List (Var × Bool)) (x : VarLit) → IsListed vs x.var → (p q : Point) → IsBelow (all_rails vs) p q
    → literal_holds (all_rails vs) x p ≡ true → literal_holds (all_rails vs) x q ≡ true
literal_rises vs x l p q below h =
    let f = found vs x l in
    let kept : IsKept f.rail.side (p f.place) (q f.place) = there (all_rails vs) (λ n r. IsKept r.side (p n) (q n)) f.place f.rail f.at (below.each f.place) in
    let zero_on : 0 + f.place ≡ f.place = omega arith in
    (f.reads 0 q ∙ ap (λ j. read_off f.rail.side x.high (q j)) zero_on)
    ∙ read_rises f.rail.side x.high (p f.place) (q f.place) kept (sym (f.reads 0 p ∙ ap (λ j. read_off f.rail.side x.high (p j)) zero_on) ∙ h)

row_rises : (vs : List (Var × Bool)) (lits : List VarLit) → All (λ (x : VarLit). IsListed vs x.var) lits → (p q : Point) → IsBelow (all_rails vs) p q
    → row_holds (all_rails vs) lits p ≡ true → row_holds (all_rails vs) lits q ≡ true
row_rises vs [] l p q below h = refl
row_rises vs (x ∷ xs) l p q below h =
    and_rises (literal_holds (all_rails vs) x p) (literal_holds (all_rails vs) x q) (row_holds (all_rails vs) xs p) (row_holds (all_rails vs) xs q)
    (literal_rises vs x (All-head (λ (y : VarLit). IsListed vs y.var) x xs l) p q below) (row_rises vs xs (All-tail (λ (y : VarLit). IsListed vs y.var) x xs l) p q below) h

abbrev pub AllListed : List (Var × Bool) → VarProduct → Type 0
AllListed vs row = All (λ (x : VarLit). IsListed vs x.var) row.lits

sum_rises : (vs : List (Var × Bool)) (rows : List VarProduct) → All (AllListed vs) rows → (p q : Point) → IsBelow (all_rails vs) p q
    → sum_holds (all_rails vs) rows p ≡ true → sum_holds (all_rails vs) rows q ≡ true
sum_rises vs [] l p q below h = h
sum_rises vs (x ∷ xs) l p q below h =
    or_rises (row_holds (all_rails vs) x.lits p) (row_holds (all_rails vs) x.lits q) (sum_holds (all_rails vs) xs p) (sum_holds (all_rails vs) xs q)
    (row_rises vs x.lits (All-head (AllListed vs) x xs l) p q below) (sum_rises vs xs (All-tail (AllListed vs) x xs l) p q below) h

pub row_monotone : (vs : List (Var × Bool)) (lits : List VarLit) → All (λ (x : VarLit). IsListed vs x.var) lits → IsMonotone (all_rails vs) (row_holds (all_rails vs) lits)
row_monotone vs lits l = record { rises = row_rises vs lits l }

pub sum_monotone : (vs : List (Var × Bool)) (rows : List VarProduct) → All (AllListed vs) rows → IsMonotone (all_rails vs) (sum_holds (all_rails vs) rows)
sum_monotone vs rows l = record { rises = sum_rises vs rows l }

-- functions with the same values are alike in this
pub monotone_same : (rs : List Rail) (f g : Point → Bool) → ((p : Point) → f p ≡ g p) → IsMonotone rs g → IsMonotone rs f
monotone_same rs f g e h = record { rises = λ p q b t. e q ∙ h.rises p q b (sym (e p) ∙ t) }

pub value_same : (rs : List Rail) (f g : Point → Bool) (ls : List Level) → ((p : Point) → f p ≡ g p) → value_under rs f ls ≡ value_under rs g ls
value_same rs f g ls e = (λ i. level_between (e (point_under false rs ls) i) (e (point_under true rs ls) i))

pub not_back : (a b : Bool) → (a ≡ true → b ≡ true) → not b ≡ true → not a ≡ true
not_back true b h e = absurd (true≢false (sym e ∙ ap not (h refl)))
not_back false b h e = refl

-- where Booleans become true, the mirrored ones become false
mirror_falls : (rs : List Rail) → ArePaired rs → (p q : Point) → IsBelow rs p q → IsBelow rs (mirror rs q) (mirror rs p)
mirror_falls rs paired p q below = record { each = λ n. by n (slice_get rs n) refl }
  where
    sided : (n : ℕ) (r : Rail) (s : Side) → IsPairedBy rs n r s → IsKept s (p n) (q n) → IsKept s (opposite s q n) (opposite s p n)
    sided n r Pure h k = sym k
    sided n r High h k =
        not_back (p (n + 1)) (q (n + 1)) (there rs (λ m t. IsKept t.side (p m) (q m)) (n + 1) (record { var = r.var; variable = r.variable; side = Low }) h (below.each (n + 1)))
    sided n r Low h k =
        not_back (p (n - 1)) (q (n - 1)) (there rs (λ m t. IsKept t.side (p m) (q m)) (n - 1) (record { var = r.var; variable = r.variable; side = High }) h.1 (below.each (n - 1)))

    by : (n : ℕ) (o : Option Rail) → slice_get rs n ≡ o → IfSome o (λ r. IsKept r.side (mirror_at o q n) (mirror_at o p n))
    by n None e = tt
    by n (Some r) e =
        sided n r r.side (there rs (λ m t. IsPairedBy rs m t t.side) n r e (paired.each n)) (there rs (λ m t. IsKept t.side (p m) (q m)) n r e (below.each n))

pub inverse_monotone : (rs : List Rail) → ArePaired rs → (f : Point → Bool) → IsMonotone rs f → IsMonotone rs (inverse rs f)
inverse_monotone rs paired f m = record {
  rises = λ p q below. not_back (f (mirror rs q)) (f (mirror rs p)) (m.rises (mirror rs q) (mirror rs p) (mirror_falls rs paired p q below));
}

-- points of which one is below the other agree on pure variables
agree : (rs : List Rail) (p q : Point) → IsBelow rs p q → AgreeOnPure rs p q
agree rs p q below = record { each = λ n. by n (slice_get rs n) (below.each n) }
  where
    sided : (s : Side) (a b : Bool) → IsKept s a b → IsSameIfPure s a b
    sided Pure a b k = k
    sided High a b k = tt
    sided Low a b k = tt

    by : (n : ℕ) (o : Option Rail) → IfSome o (λ r. IsKept r.side (p n) (q n)) → IfSome o (λ r. IsSameIfPure r.side (p n) (q n))
    by n None h = tt
    by n (Some r) h = sided r.side (p n) (q n) h

taken : (rs : List Rail) (v : Var) (g : Point → Bool) → CanTake rs v g → (n : ℕ) (r : Rail) → slice_get rs n ≡ Some r → same_var r.var v ≡ true → IsPureSide r.side → ReadsPure rs g
taken rs v g t n r e = there rs (λ m r. same_var r.var v ≡ true → IsPureSide r.side → ReadsPure rs g) n r e (t.pure n)

put_rises : (rs : List Rail) → ArePaired rs → (v : Var) (g : Point → Bool) → IsMonotone rs g → CanTake rs v g → (p q : Point) → IsBelow rs p q
    → IsBelow rs (put rs v (g p) (inverse rs g p) p) (put rs v (g q) (inverse rs g q) q)
put_rises rs paired v g m t p q below = record { each = λ n. by n (slice_get rs n) refl }
  where
    sided : (s : Side) → (IsPureSide s → ReadsPure rs g) → IsKept s (side_of s (g p) (inverse rs g p)) (side_of s (g q) (inverse rs g q))
    sided Pure k = (k tt).same p q (agree rs p q below)
    sided High k = m.rises p q below
    sided Low k = (inverse_monotone rs paired g m).rises p q below

    choose : (n : ℕ) (r : Rail) → slice_get rs n ≡ Some r → (c : Bool) → same_var r.var v ≡ c
        → IsKept r.side (cond c (side_of r.side (g p) (inverse rs g p)) (p n)) (cond c (side_of r.side (g q) (inverse rs g q)) (q n))
    choose n r e true c = sided r.side (taken rs v g t n r e c)
    choose n r e false c = there rs (λ m r. IsKept r.side (p m) (q m)) n r e (below.each n)

    by : (n : ℕ) (o : Option Rail) → slice_get rs n ≡ o
        → IfSome o (λ r. IsKept r.side (put_at o v (g p) (inverse rs g p) (p n)) (put_at o v (g q) (inverse rs g q) (q n)))
    by n None e = tt
    by n (Some r) e = choose n r e (same_var r.var v) refl

pub replacement_monotone : (rs : List Rail) → ArePaired rs → (f : Point → Bool) (v : Var) (g : Point → Bool) → IsMonotone rs f → IsMonotone rs g → CanTake rs v g
    → IsMonotone rs (replacement rs f v g)
replacement_monotone rs paired f v g mf mg t = record {
  rises = λ p q below. mf.rises (put rs v (g p) (inverse rs g p) p) (put rs v (g q) (inverse rs g q) q) (put_rises rs paired v g mg t p q below);
}

-- a variable with a pure Boolean is listed as pure
pub can_take : (vs : List (Var × Bool)) (v : Var) (g : Point → Bool) → (IsPure vs v → ReadsPure (all_rails vs) g) → CanTake (all_rails vs) v g
can_take vs v g h = record { pure = λ n. by n (slice_get (all_rails vs) n) refl }
  where
    sided : (r : Rail) (s : Side) (j : ℕ) → slice_get vs j ≡ Some (r.var, is_pure s) → same_var r.var v ≡ true → IsPureSide s → ReadsPure (all_rails vs) g
    sided r Pure j e s p = h (any_passes_from_place (λ (w : Var × Bool). same_var w.0 v && w.1) vs j (r.var, true) e (ap (λ b. b && true) s))
    sided r High j e s p = absurd p
    sided r Low j e s p = absurd p

    by : (n : ℕ) (o : Option Rail) → slice_get (all_rails vs) n ≡ o → IfSome o (λ r. same_var r.var v ≡ true → IsPureSide r.side → ReadsPure (all_rails vs) g)
    by n None e = tt
    by n (Some r) e = let q = origin 0 vs n r e in sided r r.side q.index q.named

module _ (vs : List (Var × Bool)) (ls : List Level) (lawful : AreLevels vs ls) where
  abbrev rails : List Rail
  rails = all_rails vs

  abbrev surely : Point
  surely = point_under false rails ls

  abbrev maybe : Point
  maybe = point_under true rails ls

  literal_valued : (x : VarLit) → IsListed vs x.var → value_under rails (literal_holds rails x) ls ≡ literal_level vs ls x
  literal_valued x l =
      let f = found vs x l in
      let number : f.index ≡ f.rail.variable = omega (arith, f.number) in
      let read : (p : Point) → literal_holds rails x p ≡ read_off f.rail.side x.high (p f.place) =
      λ p. f.reads 0 p ∙ ap (λ j. read_off f.rail.side x.high (p j)) (omega arith) in
      (λ i. level_between (read surely i) (read maybe i))
      ∙ (λ i. level_between (read_off f.rail.side x.high (rail_under false ls (f.at i))) (read_off f.rail.side x.high (rail_under true ls (f.at i))))
      ∙ literal_value f.rail.side x.high (level_at ls f.rail.variable) f.has (rail_level vs ls lawful f.place f.rail f.at)
      ∙ ap (λ k. if x.high then k else not3 k) (sym (f.level ls lawful ∙ ap (level_at ls) number))

  pub row_valued : (lits : List VarLit) → All (λ (x : VarLit). IsListed vs x.var) lits → value_under rails (row_holds rails lits) ls ≡ row_level vs ls lits
  row_valued [] l = refl
  row_valued (x ∷ xs) l =
      let here = All-head (λ (y : VarLit). IsListed vs y.var) x xs l in
      let rest = All-tail (λ (y : VarLit). IsListed vs y.var) x xs l in
      level_and (literal_holds rails x surely) (literal_holds rails x maybe) (row_holds rails xs surely) (row_holds rails xs maybe)
      (literal_rises vs x here surely maybe (points_below vs ls lawful)) (row_rises vs xs rest surely maybe (points_below vs ls lawful))
      ∙ (λ i. and3 (literal_valued x here i) (row_valued xs rest i))

  pub sum_valued : (rows : List VarProduct) → All (AllListed vs) rows → value_under rails (sum_holds rails rows) ls ≡ sum_level vs ls rows
  sum_valued [] l = refl
  sum_valued (x ∷ xs) l =
      let here = All-head (AllListed vs) x xs l in
      let rest = All-tail (AllListed vs) x xs l in
      level_or (row_holds rails x.lits surely) (row_holds rails x.lits maybe) (sum_holds rails xs surely) (sum_holds rails xs maybe)
      (row_rises vs x.lits here surely maybe (points_below vs ls lawful)) (sum_rises vs xs rest surely maybe (points_below vs ls lawful))
      ∙ (λ i. or3 (row_valued x.lits here i) (sum_valued xs rest i))

  pub inverse_valued : (f : Point → Bool) → IsMonotone rails f → value_under rails (inverse rails f) ls ≡ not3 (value_under rails f ls)
  inverse_valued f m =
      (λ i. level_between (not (f (λ n. mirrored vs ls lawful false n i))) (not (f (λ n. mirrored vs ls lawful true n i))))
      ∙ level_not (f surely) (f maybe) (m.rises surely maybe (points_below vs ls lawful))

  -- the value of f with g in place of v's literals is that of f with v at the value of g
  pub replacement_valued : (f : Point → Bool) (v : Var) (g : Point → Bool) → IsMonotone rails g → CanTake rails v g
      → value_under rails (replacement rails f v g) ls ≡ value_under rails f (with_level vs ls v (value_under rails g ls))
  replacement_valued f v g m t =
      let b = points_below vs ls lawful in
      let h : g surely ≡ true → g maybe ≡ true = m.rises surely maybe b in
      let k : (n : ℕ) (r : Rail) → slice_get rails n ≡ Some r → same_var r.var v ≡ true → IsPureSide r.side → g surely ≡ g maybe =
      λ n r e s p. (taken rails v g t n r e s p).same surely maybe (agree rails surely maybe b) in
      (λ i. level_between (f (put rails v (g surely) (not (g (λ n. mirrored vs ls lawful false n i))) surely)) (f (put rails v (g maybe) (not (g (λ n. mirrored vs ls lawful true n i))) maybe)))
      ∙ (λ i. level_between (f (λ n. put_point vs ls lawful false v (g surely) (g maybe) h k n i)) (f (λ n. put_point vs ls lawful true v (g surely) (g maybe) h k n i)))
