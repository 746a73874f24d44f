-- Parts by rows over old variables; the old products are such rows.
use Rattle.std.proofs.Common.{ℕ, ◌≡◌, ◌≢◌, ◌⊎◌, Bool, true, false, cond, ◌&&◌, ◌||◌, List, [], ◌∷◌, map, Option, Some, None, refl, sym, ap, ◌∙◌, subst, inl, inr}
use Rattle.std.specs.List.{list_any, list_all, flat_map}
use Rattle.std.proofs.lemmas.Bool.{and_parts}
use Rattle.mig_base.specs.declared.levels.Level.{Level}
use Rattle.mig_base.specs.declared.levels.Level.TheVariants.{Zero, One, Z, X}
use Rattle.mig_base.specs.declared.circuit.Read.{Read}
use Rattle.mig_base.specs.declared.circuit.Read.TheVariants.{OfNet, OfRegister}
use Rattle.mig_base.specs.declared.circuit.Literal.{Literal}
use Rattle.mig_base.specs.declared.circuit.Gate.{Gate}
use Rattle.mig_base.specs.declared.circuit.Gate.TheVariants.{Never, Product}
use Rattle.mig_base.specs.declared.circuit.NetKind.TheVariants.{Ground, Power}
use Rattle.mig_base.specs.declared.circuit.Circuit.{Circuit}
use Rattle.mig_base.specs.Among.{Among}
use Rattle.mig_base.specs.Levels.{not3, and3, or3}
use Rattle.mig_base.specs.Structure.{same_literal, alias_of, or_alias, variable_by, variable_literal, variable_product, all_variables, both_literals}
use Rattle.mig_base.specs.Values.{inverted, product_reads, sum_reads, row_reads}
use Rattle.fitting_levels.specs.NodeValues.{NodeLevels, literal_by, product_by, terms_by, gate_by}
use Rattle.fitting_levels.specs.Fitting.{net_kind, AreFitting}
use Rattle.carried_boards.specs.Carries.{Numbers, old_node, through, variable_at}
use Rattle.placed_boards.specs.Places.{Named, IsPart}
use Rattle.placed_boards.specs.Places.Named.{itself, behind}
use Rattle.placed_boards.specs.Rows.{seen_literal, IsSeenAs, AreSeenAs, IsGateSeenAs, AreRows, gate_rows, gate_terms, AreOfBoard}
use Rattle.fitting_levels.proofs.Fitting.{and-known}
use Rattle.mig_base.proofs.Amongs.{among-left, among-right, among-split, among-flat_map, among-map, map-among, any-among, among-any, filter-among, pass-all, product-among}
use Rattle.mig_base.proofs.LevelFacts.{inverted-twice, not3-twice, is_zero, is_one, by_tests, and-tests}
use Rattle.mig_base.proofs.ListLaws.{both-ways}
use Rattle.mig_base.proofs.ReadLaws.{same-literal}

-- the value of a product depends on the values of its literals alone

product-tests : (f : NodeLevels) (xs : List Literal) → product_by f xs ≡ by_tests (list_any (λ x. is_zero (literal_by f x)) xs) (list_all (λ x. is_one (literal_by f x)) xs)
product-tests f [] = refl
product-tests f (x ∷ xs) =
    ap (and3 (literal_by f x)) (product-tests f xs)
    ∙ and-tests (literal_by f x) (list_any (λ x. is_zero (literal_by f x)) xs) (list_all (λ x. is_one (literal_by f x)) xs)

-- an item of a list that passes whole
pub all-pass : {T : Type 0} (test : T → Bool) (x : T) (xs : List T) → list_all test xs ≡ true → Among x xs → test x ≡ true
all-pass test x [] e a = absurd a
all-pass test x (y ∷ ys) e (inl same) = ap test same ∙ (and_parts (test y) (list_all test ys) e).0
all-pass test x (y ∷ ys) e (inr a) = all-pass test x ys (and_parts (test y) (list_all test ys) e).1 a

-- each literal of the one product has a literal of the same level in the other
pub record IsMatched (f g : NodeLevels) (xs ys : List Literal) : Type 0 where
  pub each : (x : Literal) → Among x xs → (y : Literal) × Among y ys × (literal_by f x ≡ literal_by g y)

some-test : (test : Level → Bool) (f g : NodeLevels) (xs ys : List Literal) → IsMatched f g xs ys →
    list_any (λ x. test (literal_by f x)) xs ≡ true → list_any (λ y. test (literal_by g y)) ys ≡ true
some-test test f g xs ys c e =
    let found = any-among (λ x. test (literal_by f x)) xs e in
    let other = c.each found.0 found.1 in
    among-any (λ y. test (literal_by g y)) other.0 ys other.1 (ap test (sym other.2) ∙ found.2)

all-test : (test : Level → Bool) (f g : NodeLevels) (xs ys : List Literal) → IsMatched f g xs ys →
    list_all (λ y. test (literal_by g y)) ys ≡ true → list_all (λ x. test (literal_by f x)) xs ≡ true
all-test test f g xs ys c e = pass-all (λ x. test (literal_by f x)) xs
    (λ x a. let other = c.each x a in ap test other.2 ∙ all-pass (λ y. test (literal_by g y)) other.0 ys e other.1)

pub product-same : (f g : NodeLevels) (xs ys : List Literal) → IsMatched f g xs ys → IsMatched g f ys xs → product_by f xs ≡ product_by g ys
product-same f g xs ys c d =
    product-tests f xs
    ∙ ap (λ q. by_tests q (list_all (λ x. is_one (literal_by f x)) xs)) (both-ways _ _ (some-test is_zero f g xs ys c) (some-test is_zero g f ys xs d))
    ∙ ap (λ q. by_tests (list_any (λ y. is_zero (literal_by g y)) ys) q) (both-ways _ _ (all-test is_one g f ys xs d) (all-test is_one f g xs ys c))
    ∙ sym (product-tests g ys)

product-known : (f : NodeLevels) (xs : List Literal) → product_by f xs ≢ Z
product-known f [] = λ e. cc
product-known f (x ∷ xs) = and-known (literal_by f x) (product_by f xs)

or-none : (x : Level) → x ≢ Z → or3 x Zero ≡ x
or-none Zero h = refl
or-none One h = refl
or-none Z h = absurd (h refl)
or-none X h = refl

-- variables

-- a literal has the level of that of its variable
pub variable-level : (c : Circuit) (absorbed : List ℕ) (f : NodeLevels) (x : Literal) → AreFitting c absorbed f → literal_by f (variable_literal c x) ≡ literal_by f x
variable-level c absorbed f x fit = by x.source refl
  where
    by_alias : (n : ℕ) (o : Option (ℕ × Bool)) → alias_of c n ≡ o → x.source ≡ OfNet n → literal_by f (or_alias o x) ≡ literal_by f x
    by_alias n None e is = refl
    by_alias n (Some a) e is =
        inverted-twice x.high a.1 (f (OfRegister a.0)) (not3-twice (f (OfRegister a.0)) (fit.driven (OfRegister a.0)))
        ∙ ap (λ s. cond x.high s (not3 s)) (sym (fit.aliases n a e))
        ∙ ap (λ s. cond x.high (f s) (not3 (f s))) (sym is)

    by : (s : Read) → x.source ≡ s → literal_by f (variable_by c s x) ≡ literal_by f x
    by (OfNet n) is = by_alias n (alias_of c n) refl is
    by (OfRegister k) is = refl

-- the variable of a literal is that of its source
pub variable-source : (c : Circuit) (v : Read) (h : Bool) → (variable_literal c (record { source = v; high = h })).source ≡ variable_at c v
variable-source c (OfRegister k) h = refl
variable-source c (OfNet n) h = at (alias_of c n)
  where
    at : (o : Option (ℕ × Bool)) → (or_alias o (record { source = OfNet n; high = h })).source ≡ (or_alias o (record { source = OfNet n; high = true })).source
    at None = refl
    at (Some x) = refl

module _ (a : Circuit) (absorbed : List ℕ) (old : Numbers) where
  seen-level : (f : NodeLevels) → AreFitting a absorbed f → (x : Literal) → literal_by (through old f) x ≡ literal_by f (seen_literal a old x)
  seen-level f fit x = sym (variable-level a absorbed f (record { source = old_node old x.source; high = x.high }) fit)

  product-seen : (f : NodeLevels) → AreFitting a absorbed f → (new lits : List Literal) → IsSeenAs a old new lits → product_by f lits ≡ product_by (through old f) new
  product-seen f fit new lits s = product-same f (through old f) lits new
      (record { each = λ y ay. let x = s.every y ay in (x.0, x.1, ap (literal_by f) (sym x.2) ∙ sym (seen-level f fit x.0)) })
      (record { each = λ x ax. (seen_literal a old x, s.only x ax, seen-level f fit x) })

  terms-seen : (f : NodeLevels) → AreFitting a absorbed f → (new rows : List (List Literal)) → AreSeenAs a old new rows → terms_by f rows ≡ terms_by (through old f) new
  terms-seen f fit [] [] s = refl
  terms-seen f fit (t ∷ ts) (r ∷ rs) s = (λ i. or3 (product-seen f fit t r s.0 i) (terms-seen f fit ts rs s.1 i))
  terms-seen f fit [] (r ∷ rs) s = absurd s
  terms-seen f fit (t ∷ ts) [] s = absurd s

  product-variable : (new lits : List Literal) → IsSeenAs a old new lits → (w : Read) → Among w (product_reads new) → Among (variable_at a (old_node old w)) (product_reads lits)
  product-variable new lits s w aw =
      let x = among-map (λ (y : Literal). y.source) w new aw in
      subst (λ (v : Read). Among v (product_reads lits)) (variable-source a (old_node old x.0.source) x.0.high ∙ ap (λ (v : Read). variable_at a (old_node old v)) (sym x.2))
      (map-among (λ (y : Literal). y.source) (seen_literal a old x.0) lits (s.only x.0 x.1))

  terms-variable : (new rows : List (List Literal)) → AreSeenAs a old new rows → (w : Read) → Among w (sum_reads new) → Among (variable_at a (old_node old w)) (sum_reads rows)
  terms-variable [] rows s w aw = absurd aw
  terms-variable (t ∷ ts) [] s w aw = absurd s
  terms-variable (t ∷ ts) (r ∷ rs) s w aw = at (among-split w (product_reads t) (sum_reads ts) aw) (terms-variable ts rs s.1 w)
    where
      open_first : Among w (product_reads t) → Among (variable_at a (old_node old w)) (sum_reads (r ∷ rs))
      open_first h = among-left (variable_at a (old_node old w)) (product_reads r) (sum_reads rs) (product-variable t r s.0 w h)

      at : Among w (product_reads t) ⊎ Among w (sum_reads ts) → (Among w (sum_reads ts) → Among (variable_at a (old_node old w)) (sum_reads rs)) → Among (variable_at a (old_node old w)) (sum_reads (r ∷ rs))
      at (inl h) rest = open_first h
      at (inr h) rest = among-right (variable_at a (old_node old w)) (product_reads r) (sum_reads rs) (rest h)

  -- terms that are seen as rows of an old part
  pub terms-part : (level : NodeLevels → Level) (reads : List Read) (rows : List (List Literal)) (low : Bool) (new : List (List Literal)) → AreRows a absorbed level reads rows low → AreSeenAs a old new rows →
      IsPart a absorbed old level reads (λ f. inverted low (terms_by f new)) (sum_reads new)
  terms-part level reads rows low new r s = record {
    same = λ f fit. r.same f fit ∙ ap (inverted low) (terms-seen f fit new rows s);
    named = λ w aw. r.named (variable_at a (old_node old w)) (terms-variable new rows s w aw);
  }

  gate-level : (f : NodeLevels) → AreFitting a absorbed f → (g : Gate) (rows : List (List Literal)) → IsGateSeenAs a old g rows → terms_by f rows ≡ gate_by (through old f) g
  gate-level f fit Never [] s = refl
  gate-level f fit Never (r ∷ rs) s = absurd s
  gate-level f fit (Product xs) [] s = absurd s
  gate-level f fit (Product xs) (r ∷ []) s = or-none (product_by f r) (product-known f r) ∙ product-seen f fit xs r s
  gate-level f fit (Product xs) (r ∷ t ∷ rs) s = absurd s

  gate-variable : (g : Gate) (rows : List (List Literal)) → IsGateSeenAs a old g rows → (w : Read) → Among w (row_reads g) → Among (variable_at a (old_node old w)) (sum_reads rows)
  gate-variable Never rows s w aw = absurd aw
  gate-variable (Product xs) [] s w aw = absurd s
  gate-variable (Product xs) (r ∷ []) s w aw = among-left (variable_at a (old_node old w)) (product_reads r) [] (product-variable xs r s w aw)
  gate-variable (Product xs) (r ∷ t ∷ rs) s w aw = absurd s

  -- a row that is seen as that of an old part
  pub gate-part : (level : NodeLevels → Level) (reads : List Read) (rows : List (List Literal)) (g : Gate) → AreRows a absorbed level reads rows false → IsGateSeenAs a old g rows →
      IsPart a absorbed old level reads (λ f. gate_by f g) (row_reads g)
  gate-part level reads rows g r s = record {
    same = λ f fit. r.same f fit ∙ gate-level f fit g rows s;
    named = λ w aw. r.named (variable_at a (old_node old w)) (gate-variable g rows s w aw);
  }

  -- an enable pin on GND is always enabled, and one on VCC never: the complement literal of the constant has that level
  pub ground-part : (level : NodeLevels → Level) (reads : List Read) (n : ℕ) → net_kind a n ≡ Some Ground → AreRows a absorbed level reads ((record { source = OfNet n; high = false } ∷ []) ∷ []) false →
      IsPart a absorbed old level reads (λ f. gate_by f (Product [])) []
  ground-part level reads n is r = record {
    same = λ f fit. r.same f fit ∙ ap (λ (x : Level). or3 (and3 (not3 x) One) Zero) (fit.ground n is);
    named = λ w aw. absurd aw;
  }

  pub power-part : (level : NodeLevels → Level) (reads : List Read) (n : ℕ) → net_kind a n ≡ Some Power → AreRows a absorbed level reads ((record { source = OfNet n; high = false } ∷ []) ∷ []) false →
      IsPart a absorbed old level reads (λ f. gate_by f Never) []
  power-part level reads n is r = record {
    same = λ f fit. r.same f fit ∙ ap (λ (x : Level). or3 (and3 (not3 x) One) Zero) (fit.power n is);
    named = λ w aw. absurd aw;
  }

-- the old products

among-both : (v : Read) (h : Bool) → Among (record { source = v; high = h }) (both_literals v)
among-both v true = inl refl
among-both v false = inr (inl refl)

module _ (c : Circuit) (absorbed : List ℕ) where
  among-product : (x : Literal) (lits : List Literal) → Among (variable_literal c x).source (all_variables c) → Among x lits → Among (variable_literal c x) (variable_product c lits)
  among-product x lits there a =
      let y = variable_literal c x in
      filter-among (λ z. list_any (same_literal z) (map (variable_literal c) lits)) y (flat_map both_literals (all_variables c))
      (among-any (same_literal y) y (map (variable_literal c) lits) (map-among (variable_literal c) x lits a) (same-literal y))
      (among-flat_map both_literals y.source y (all_variables c) there (among-both y.source y.high))

  variable_product-level : (f : NodeLevels) → AreFitting c absorbed f → (lits : List Literal) → ((x : Literal) → Among x lits → Among (variable_literal c x).source (all_variables c)) →
      product_by f lits ≡ product_by f (variable_product c lits)
  variable_product-level f fit lits there = product-same f f lits (variable_product c lits)
      (record { each = λ x a. (variable_literal c x, among-product x lits (there x a) a, sym (variable-level c absorbed f x fit)) })
      (record { each = λ y a. let x = product-among c y lits a in (x.0, x.1, ap (literal_by f) x.2 ∙ variable-level c absorbed f x.0 fit) })

  pub variable_terms-level : (f : NodeLevels) → AreFitting c absorbed f → (ts : List (List Literal)) → AreOfBoard c ts → terms_by f ts ≡ terms_by f (map (variable_product c) ts)
  variable_terms-level f fit [] there = refl
  variable_terms-level f fit (t ∷ ts) there =
      (λ i. or3 (variable_product-level f fit t (λ x a. there.each t x (inl refl) a) i)
      (variable_terms-level f fit ts (record { each = λ s x hs ax. there.each s x (inr hs) ax }) i))

  -- a variable of an old product is named by it
  variables-named : (ts : List (List Literal)) (v : Read) → Among v (sum_reads (map (variable_product c) ts)) → Named c absorbed v (sum_reads ts)
  variables-named ts v a = at ts (λ w aw. aw) a
    where
      at : (us : List (List Literal)) → ((w : Read) → Among w (sum_reads us) → Among w (sum_reads ts)) → Among v (sum_reads (map (variable_product c) us)) → Named c absorbed v (sum_reads ts)
      at [] within none = absurd none
      at (u ∷ us) within h = by (among-split v (product_reads (variable_product c u)) (sum_reads (map (variable_product c) us)) h) (at us (λ w aw. within w (among-right w (product_reads u) (sum_reads us) aw)))
        where
          by : Among v (product_reads (variable_product c u)) ⊎ Among v (sum_reads (map (variable_product c) us)) → (Among v (sum_reads (map (variable_product c) us)) → Named c absorbed v (sum_reads ts)) → Named c absorbed v (sum_reads ts)
          by (inl k) rest =
              let y = among-map (λ (z : Literal). z.source) v (variable_product c u) k in
              let x = product-among c y.0 u y.1 in
              itself x.0.source (within x.0.source (among-left x.0.source (product_reads u) (sum_reads us) (map-among (λ (z : Literal). z.source) x.0 u x.1)))
              (sym (variable-source c x.0.source x.0.high) ∙ ap (λ (z : Literal). z.source) (sym x.2) ∙ sym y.2)
          by (inr k) rest = rest k

  pub old-rows : (ts : List (List Literal)) (low : Bool) → AreOfBoard c ts → AreRows c absorbed (λ f. inverted low (terms_by f ts)) (sum_reads ts) (map (variable_product c) ts) low
  old-rows ts low there = record { same = λ f fit. ap (inverted low) (variable_terms-level f fit ts there); named = variables-named ts }

  pub old-gate : (g : Gate) → AreOfBoard c (gate_terms g) → AreRows c absorbed (λ f. gate_by f g) (row_reads g) (gate_rows c g) false
  old-gate Never there = record { same = λ f fit. refl; named = λ v a. absurd a }
  old-gate (Product xs) there = record {
    same = λ f fit.
        variable_product-level f fit xs (λ x a. there.each xs x (inl refl) a)
        ∙ sym (or-none (product_by f (variable_product c xs)) (product-known f (variable_product c xs)));
    named = λ v a. one v (variables-named (xs ∷ []) v a);
  }
    where
      one : (v : Read) → Named c absorbed v (sum_reads (xs ∷ [])) → Named c absorbed v (product_reads xs)
      one v (itself w aw e) = itself w (at (among-split w (product_reads xs) [] aw)) e
        where
          at : Among w (product_reads xs) ⊎ Among w [] → Among w (product_reads xs)
          at (inl h) = h
          at (inr h) = absurd h
      one v (behind n u an b rest) = behind n u (at (among-split (OfNet n) (product_reads xs) [] an)) b rest
        where
          at : Among (OfNet n) (product_reads xs) ⊎ Among (OfNet n) [] → Among (OfNet n) (product_reads xs)
          at (inl h) = h
          at (inr h) = absurd h
