-- In settled levels products over variables have the values of the products that they are made of.
use Rattle.std.proofs.Common.{ℕ, ◌≡◌, Bool, true, false, cond, List, [], ◌∷◌, ◌++◌, map, Option, Some, None, refl, sym, ap, ◌∙◌, subst, inl, inr}
use Rattle.std.specs.Prelude.{slice_get}
use Rattle.std.specs.List.{AllByRecursion, list_any, flat_map}
use Rattle.mig_base.specs.declared.levels.Level.{Level}
use Rattle.mig_base.specs.declared.levels.Level.TheVariants.{Zero, Z}
use Rattle.mig_base.specs.declared.plans.Part.{Part}
use Rattle.mig_base.specs.declared.plans.Part.TheVariants.{Logic, Enable, Reset, Preset}
use Rattle.mig_base.specs.declared.circuit.Read.{Read}
use Rattle.mig_base.specs.declared.circuit.Read.TheVariants.{OfNet, OfRegister}
use Rattle.mig_base.specs.declared.circuit.Literal.{Literal}
use Rattle.mig_base.specs.declared.circuit.Gate.{Gate}
use Rattle.mig_base.specs.declared.circuit.Gate.TheVariants.{Never, Product}
use Rattle.mig_base.specs.declared.circuit.Gives.{Gives}
use Rattle.mig_base.specs.declared.circuit.Gives.TheVariants.{Sum, Visible}
use Rattle.mig_base.specs.declared.circuit.Driver.{Driver}
use Rattle.mig_base.specs.declared.circuit.Register.{Register}
use Rattle.mig_base.specs.declared.circuit.Circuit.{Circuit}
use Rattle.mig_base.specs.declared.circuit.Levels.{Levels}
use Rattle.mig_base.specs.Accepted.{IsAccepted}
use Rattle.mig_base.specs.Among.{Among}
use Rattle.mig_base.specs.Levels.{not3, or3}
use Rattle.mig_base.specs.Reads.{IsNode, driver_reads, gives_reads}
use Rattle.mig_base.specs.Structure.{same_literal, alias_of, or_alias, variable_by, variable_literal, variable_product, all_variables, both_literals}
use Rattle.mig_base.specs.Values.{source_level, literal_value, product_value, sum_value, row_value, product_reads, sum_reads, row_reads}
use Rattle.mig_base.proofs.Amongs.{among-map, among-filter, filter-among, among-node, node-among, map-among, among-any, both-among, product-among}
use Rattle.mig_base.proofs.ReadLaws.{same-literal}
use Rattle.mig_base.proofs.Aliases.{alias-is}
use Rattle.structure.specs.Products.{var_lit, product_over, sum_over, row_over, register_logic, register_reset, register_preset, logic_over, reset_over, preset_over, unit_products, part_of, part_over, part_products}
use Rattle.board.specs.Joined.{Joined, equations_of}
use Rattle.board.specs.UnitLists.{register_units}
use Rattle.board.specs.Variables.{read_of, var_of}
use Rattle.board.proofs.BoardLaws.{var-back}
use Rattle.level_laws.specs.Settled.{IsSettled}
use Rattle.level_laws.specs.VariableLevels.{literal_level, product_level, terms_level}
use Rattle.level_laws.proofs.Unique.{all_left, all_right}
use Rattle.settle.proofs.LevelLaws.{and-known, or-ends}
use Rattle.read_nodes.specs.ReadsNodes.{ReadsNodes}
use Rattle.product_levels.specs.PartLevels.{variable_level, terms_of_register, reset_of_register, preset_of_register, logic_value, reset_value, preset_value, driver_value, value_or_none, part_value}
use Rattle.product_levels.proofs.SameProducts.{product-all, level-all, and_all-same}
use Rattle.product_levels.proofs.AliasLevels.{variable-value}

-- literals of all nodes

among-both : (y : Literal) (vs : List Read) → Among y.source vs → Among y (flat_map both_literals vs)
among-both y [] a = absurd a
among-both y (v ∷ vs) (inl e) = subst (λ (w : Read). Among y (flat_map both_literals (w ∷ vs))) e (here y.high)
  where
    here : (h : Bool) → Among (record { source = y.source; high = h }) (flat_map both_literals (y.source ∷ vs))
    here true = inl refl
    here false = inr (inl refl)
among-both y (v ∷ vs) (inr a) = inr (inr (among-both y vs a))

-- what stands in a product over variables

product-node : (c : Circuit) (y : Literal) (lits : List Literal) → Among y (variable_product c lits) → IsNode c y.source
product-node c y lits a =
    among-node c y.source (both-among y (all_variables c)
    (among-filter (λ x. list_any (same_literal x) (map (variable_literal c) lits)) y (flat_map both_literals (all_variables c)) a).1)

among-product : (c : Circuit) (x : Literal) (lits : List Literal) → IsNode c (variable_literal c x).source → Among x lits → Among (variable_literal c x) (variable_product c lits)
among-product c x lits node a =
    let y = variable_literal c x in
    filter-among (λ z. list_any (same_literal z) (map (variable_literal c) lits)) y (flat_map both_literals (all_variables c))
    (among-any (same_literal y) y (map (variable_literal c) lits) (map-among (variable_literal c) x lits a) (same-literal y))
    (among-both y (all_variables c) (node-among c y.source node))

-- the variable of a node is a node
variable-node : (c : Circuit) → ReadsNodes c → (x : Literal) → IsNode c x.source → IsNode c (variable_literal c x).source
variable-node c reads x node = by x.source refl node
  where
    aliased : (n : ℕ) (o : Option (ℕ × Bool)) → alias_of c n ≡ o → IsNode c x.source → IsNode c (or_alias o x).source
    aliased n None e h = h
    aliased n (Some a) e h =
        let i = alias-is c n a e in
        let all : AllByRecursion (IsNode c) (row_reads i.driver.enable ++ gives_reads i.driver.gives) = subst (λ (o : Option Driver). AllByRecursion (IsNode c) (driver_reads o)) i.unit_is (reads.units i.unit) in
        let seen : AllByRecursion (IsNode c) (gives_reads i.driver.gives) = all_right (IsNode c) (row_reads i.driver.enable) (gives_reads i.driver.gives) all in
        let one : AllByRecursion (IsNode c) (OfRegister a.0 ∷ []) = subst (λ (g : Gives). AllByRecursion (IsNode c) (gives_reads g)) i.alias.gives seen in
        one.0

    by : (s : Read) → x.source ≡ s → IsNode c s → IsNode c (variable_by c s x).source
    by (OfNet n) is h = aliased n (alias_of c n) refl (subst (IsNode c) (sym is) h)
    by (OfRegister k) is h = subst (IsNode c) (sym is) h

source-node : (c : Circuit) (z : Literal) (lits : List Literal) → AllByRecursion (IsNode c) (product_reads lits) → Among z lits → IsNode c z.source
source-node c z [] h a = absurd a
source-node c z (y ∷ ys) h (inl e) = subst (IsNode c) (sym (ap (λ (x : Literal). x.source) e)) h.0
source-node c z (y ∷ ys) h (inr a) = source-node c z ys h.1 a

module _ (b : Joined) (stored inputs : List Level) (l : Levels) (accepted : IsAccepted (equations_of b)) (reads : ReadsNodes (equations_of b)) (settled : IsSettled (equations_of b) stored inputs l) where
  -- a literal of a node by its variable
  named-level : (y : Literal) → IsNode (equations_of b) y.source → literal_level (variable_level b l) (var_lit (register_units b.chips) y) ≡ literal_value l y
  named-level y node =
      let back : read_of b.chips (var_of b.chips y.source) ≡ y.source = var-back b y.source node in
      ap (λ (s : Read). cond y.high (source_level l s) (not3 (source_level l s))) back

  product-level : (lits : List Literal) → AllByRecursion (IsNode (equations_of b)) (product_reads lits) →
      product_level (variable_level b l) (product_over (equations_of b) (register_units b.chips) lits).lits ≡ product_value l lits
  product-level lits nodes =
      level-all (variable_level b l) (map (var_lit (register_units b.chips)) (variable_product (equations_of b) lits))
      ∙ and_all-same (map (literal_level (variable_level b l)) (map (var_lit (register_units b.chips)) (variable_product (equations_of b) lits))) (map (literal_value l) lits) there back
      ∙ sym (product-all l lits)
    where
      there : (x : Level) → Among x (map (literal_level (variable_level b l)) (map (var_lit (register_units b.chips)) (variable_product (equations_of b) lits))) → Among x (map (literal_value l) lits)
      there x a =
          let v = among-map (literal_level (variable_level b l)) x (map (var_lit (register_units b.chips)) (variable_product (equations_of b) lits)) a in
          let y = among-map (var_lit (register_units b.chips)) v.0 (variable_product (equations_of b) lits) v.1 in
          let z = product-among (equations_of b) y.0 lits y.1 in
          let value : x ≡ literal_value l z.0 =
          v.2 ∙ ap (literal_level (variable_level b l)) y.2 ∙ named-level y.0 (product-node (equations_of b) y.0 lits y.1) ∙ ap (literal_value l) z.2
          ∙ variable-value (equations_of b) stored inputs l accepted settled z.0 in
          subst (λ (q : Level). Among q (map (literal_value l) lits)) (sym value) (map-among (literal_value l) z.0 lits z.1)

      back : (x : Level) → Among x (map (literal_value l) lits) → Among x (map (literal_level (variable_level b l)) (map (var_lit (register_units b.chips)) (variable_product (equations_of b) lits)))
      back x a =
          let z = among-map (literal_value l) x lits a in
          let y = variable_literal (equations_of b) z.0 in
          let node : IsNode (equations_of b) y.source = variable-node (equations_of b) reads z.0 (source-node (equations_of b) z.0 lits nodes z.1) in
          let value : x ≡ literal_level (variable_level b l) (var_lit (register_units b.chips) y) =
          z.2 ∙ sym (variable-value (equations_of b) stored inputs l accepted settled z.0) ∙ sym (named-level y node) in
          subst (λ (q : Level). Among q (map (literal_level (variable_level b l)) (map (var_lit (register_units b.chips)) (variable_product (equations_of b) lits)))) (sym value)
          (map-among (literal_level (variable_level b l)) (var_lit (register_units b.chips) y) (map (var_lit (register_units b.chips)) (variable_product (equations_of b) lits))
          (map-among (var_lit (register_units b.chips)) y (variable_product (equations_of b) lits) (among-product (equations_of b) z.0 lits node z.1)))

  sum-level : (terms : List (List Literal)) → AllByRecursion (IsNode (equations_of b)) (sum_reads terms) →
      terms_level (variable_level b l) (sum_over (equations_of b) (register_units b.chips) terms) ≡ sum_value l terms
  sum-level [] nodes = refl
  sum-level (t ∷ ts) nodes =
      (λ i. or3 (product-level t (all_left (IsNode (equations_of b)) (product_reads t) (sum_reads ts) nodes) i)
      (sum-level ts (all_right (IsNode (equations_of b)) (product_reads t) (sum_reads ts) nodes) i))

  row-level : (row : Gate) → AllByRecursion (IsNode (equations_of b)) (row_reads row) → terms_level (variable_level b l) (row_over (equations_of b) (register_units b.chips) row) ≡ row_value l row
  row-level Never nodes = refl
  row-level (Product lits) nodes =
      ap (λ (x : Level). or3 x Zero) (product-level lits nodes) ∙ or-ends (product_value l lits) (known lits)
    where
      known : (xs : List Literal) → product_value l xs ≡ Z → ⊥
      known [] = λ e. cc
      known (x ∷ xs) = and-known (literal_value l x) (product_value l xs)

  -- what a register reads
  terms-nodes : (k : ℕ) (r : Register) → slice_get (equations_of b).registers k ≡ Some r → AllByRecursion (IsNode (equations_of b)) (sum_reads r.terms)
  terms-nodes k r e =
      all_left (IsNode (equations_of b)) (sum_reads r.terms) (row_reads r.preset)
      (all_left (IsNode (equations_of b)) (sum_reads r.terms ++ row_reads r.preset) (row_reads r.reset) (reads.registers k r e))

  preset-nodes : (k : ℕ) (r : Register) → slice_get (equations_of b).registers k ≡ Some r → AllByRecursion (IsNode (equations_of b)) (row_reads r.preset)
  preset-nodes k r e =
      all_right (IsNode (equations_of b)) (sum_reads r.terms) (row_reads r.preset)
      (all_left (IsNode (equations_of b)) (sum_reads r.terms ++ row_reads r.preset) (row_reads r.reset) (reads.registers k r e))

  reset-nodes : (k : ℕ) (r : Register) → slice_get (equations_of b).registers k ≡ Some r → AllByRecursion (IsNode (equations_of b)) (row_reads r.reset)
  reset-nodes k r e = all_right (IsNode (equations_of b)) (sum_reads r.terms ++ row_reads r.preset) (row_reads r.reset) (reads.registers k r e)

  logic-level : (g : Gives) → AllByRecursion (IsNode (equations_of b)) (gives_reads g) → terms_level (variable_level b l) (logic_over (equations_of b) (register_units b.chips) g) ≡ logic_value (equations_of b) l g
  logic-level (Sum terms) nodes = sum-level terms nodes
  logic-level (Visible k) nodes = at (slice_get (equations_of b).registers k) refl
    where
      at : (o : Option Register) → slice_get (equations_of b).registers k ≡ o → terms_level (variable_level b l) (register_logic (equations_of b) (register_units b.chips) o) ≡ terms_of_register l o
      at None e = refl
      at (Some r) e = sum-level r.terms (terms-nodes k r e)

  reset-level : (g : Gives) → terms_level (variable_level b l) (reset_over (equations_of b) (register_units b.chips) g) ≡ reset_value (equations_of b) l g
  reset-level (Sum terms) = refl
  reset-level (Visible k) = at (slice_get (equations_of b).registers k) refl
    where
      at : (o : Option Register) → slice_get (equations_of b).registers k ≡ o → terms_level (variable_level b l) (register_reset (equations_of b) (register_units b.chips) o) ≡ reset_of_register l o
      at None e = refl
      at (Some r) e = row-level r.reset (reset-nodes k r e)

  preset-level : (g : Gives) → terms_level (variable_level b l) (preset_over (equations_of b) (register_units b.chips) g) ≡ preset_value (equations_of b) l g
  preset-level (Sum terms) = refl
  preset-level (Visible k) = at (slice_get (equations_of b).registers k) refl
    where
      at : (o : Option Register) → slice_get (equations_of b).registers k ≡ o → terms_level (variable_level b l) (register_preset (equations_of b) (register_units b.chips) o) ≡ preset_of_register l o
      at None e = refl
      at (Some r) e = row-level r.preset (preset-nodes k r e)

  -- the products of a part have the value of its rows
  pub part-level : (u : ℕ) (part : Part) → terms_level (variable_level b l) (part_products (equations_of b) (register_units b.chips) u part) ≡ part_value (equations_of b) l u part
  part-level u part = at (slice_get (equations_of b).units u) (reads.units u)
    where
      by : (d : Driver) → AllByRecursion (IsNode (equations_of b)) (row_reads d.enable ++ gives_reads d.gives) → (p : Part) →
          terms_level (variable_level b l) (part_of (unit_products (equations_of b) (register_units b.chips) d) p) ≡ driver_value (equations_of b) l d p
      by d nodes Logic = logic-level d.gives (all_right (IsNode (equations_of b)) (row_reads d.enable) (gives_reads d.gives) nodes)
      by d nodes Enable = row-level d.enable (all_left (IsNode (equations_of b)) (row_reads d.enable) (gives_reads d.gives) nodes)
      by d nodes Reset = reset-level d.gives
      by d nodes Preset = preset-level d.gives

      at : (o : Option Driver) → AllByRecursion (IsNode (equations_of b)) (driver_reads o) →
          terms_level (variable_level b l) (part_over (equations_of b) (register_units b.chips) part o) ≡ value_or_none (equations_of b) l part o
      at None nodes = refl
      at (Some d) nodes = by d nodes part
