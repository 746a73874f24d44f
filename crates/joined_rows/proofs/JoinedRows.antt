-- Rows that have a joined part's function, or its inverse, are rows of that part.
use Rattle.std.proofs.Common.{ℕ, ◌≡◌, ◌≢◌, ◌⊎◌, Bool, true, false, cond, ◌||◌, List, [], ◌∷◌, map, Option, Some, None, refl, sym, ap, ◌∙◌, subst, inl, inr, All}
use Rattle.std.specs.List.{list_any, flat_map, slice_get}
use Rattle.std.proofs.lemmas.Bool.{and_parts}
use Rattle.std.proofs.lemmas.List.Elements.{All-head, All-tail}
use Rattle.bdd.specs.Tree.{Point}
use Rattle.mig_base.specs.declared.levels.Level.{Level}
use Rattle.mig_base.specs.declared.levels.Level.TheVariants.{Zero, One, Z, X}
use Rattle.mig_base.specs.declared.plans.Part.{Part}
use Rattle.mig_base.specs.declared.plans.Part.TheVariants.{Logic, Enable, Reset, Preset}
use Rattle.mig_base.specs.declared.nets.Var.{Var}
use Rattle.mig_base.specs.declared.nets.Var.TheVariants.{Net}
use Rattle.mig_base.specs.declared.nets.VarLit.{VarLit}
use Rattle.mig_base.specs.declared.nets.VarProduct.{VarProduct}
use Rattle.mig_base.specs.declared.circuit.Read.{Read}
use Rattle.mig_base.specs.declared.circuit.Read.TheVariants.{OfNet, OfRegister}
use Rattle.mig_base.specs.declared.circuit.Literal.{Literal}
use Rattle.mig_base.specs.declared.circuit.Gate.{Gate}
use Rattle.mig_base.specs.declared.circuit.Gate.TheVariants.{Never, Product}
use Rattle.mig_base.specs.declared.circuit.Gives.{Gives}
use Rattle.mig_base.specs.declared.circuit.Gives.TheVariants.{Sum, Visible}
use Rattle.mig_base.specs.declared.circuit.Driver.{Driver}
use Rattle.mig_base.specs.declared.circuit.Register.{Register}
use Rattle.mig_base.specs.declared.circuit.Circuit.{Circuit}
use Rattle.mig_base.specs.Among.{Among}
use Rattle.mig_base.specs.Levels.{not3, and3, or3, or_x}
use Rattle.mig_base.specs.Structure.{alias_of, or_alias, same_literal, variable_by, variable_literal, variable_product, all_variables, both_literals}
use Rattle.mig_base.specs.Values.{inverted, product_reads, sum_reads}
use Rattle.mig_base.specs.Reads.{IsNode}
use Rattle.mig_base.proofs.Amongs.{among-filter, among-flat_map, among-map, among-node, among-split, any-among, among-any, both-among, map-among, product-among}
use Rattle.level_laws.specs.SameBehaviour.{IsBit}
use Rattle.structure.specs.Absorbable.{IsAbsorbable, is_plain, is_sum}
use Rattle.structure.specs.Pure.{IsPure, is_always}
use Rattle.structure.specs.Products.{var_by, var_lit, product_over, sum_over, row_over, register_logic, register_preset, register_reset, logic_over, preset_over, reset_over, unit_products, part_of}
use Rattle.board.specs.Joined.{Joined, equations_of}
use Rattle.board.specs.UnitLists.{register_units}
use Rattle.board.specs.Variables.{read_of}
use Rattle.board.proofs.BoardLaws.{var-back}
use Rattle.rails.specs.Variables.{all_rails, same_var}
use Rattle.rails.specs.Points.{sum_holds, inverse, IsListed, IsMonotone}
use Rattle.rails.specs.Levels.{IsLevel, AreLevels, value_under, level_of, row_level, sum_level}
use Rattle.rails.proofs.LiteralLemmas.{same_self}
use Rattle.rails.proofs.ValueLemmas.{value_same, sum_valued, inverse_valued, AllListed}
use Rattle.joiner.specs.AbsorbedNets.{AreAbsorbable}
use Rattle.joiner.specs.Joined.{part_low, logic_low, driver_part, part_or_none, unit_part, IsAbsorbed, StandsIn, Names, itself, through, IsCone}
use Rattle.joiner.specs.JoinedLevels.{inverted_level, LevelsAbsorbed, HasLevels}
use Rattle.level_laws.specs.VariableLevels.{Levelling, product_level, terms_level}
use Rattle.joiner.specs.JoinedPart.{HasJoinedValue}
use Rattle.joiner.proofs.LevelLaws.{inverted_driven}
use Rattle.joiner.proofs.PairLaws.{same_exact}
use Rattle.fitting_levels.specs.NodeValues.{NodeLevels, product_by, terms_by, gives_by, logic_by, logic_at}
use Rattle.fitting_levels.specs.Fitting.{AreFitting}
use Rattle.placed_boards.specs.Places.{sum_reads_of, logic_reads_by, logic_reads, Named}
use Rattle.placed_boards.specs.Places.Named.{itself as own, behind}
use Rattle.placed_boards.specs.Rows.{AreRows, gate_terms}
use Rattle.placed_boards.proofs.RowParts.{variable_terms-level, variable-source}
use Rattle.joined_rows.specs.PartRows.{register_terms, reset_terms, preset_terms, resetting_terms, presetting_terms, raw_part, logic_terms, part_level, row_of, HasOwnLiterals}

-- lists and choices

listed-among : {T : Type 0} (P : T → Type 0) (x : T) (xs : List T) → All P xs → Among x xs → P x
listed-among P x [] h a = absurd a
listed-among P x (y ∷ ys) h (inl e) = subst P (sym e) (All-head P y ys h)
listed-among P x (y ∷ ys) h (inr a) = listed-among P x ys (All-tail P y ys h) a

low-level : (low : Bool) (a : Level) → cond low (not3 a) a ≡ inverted low a
low-level true a = refl
low-level false a = refl

is-level : (pure : Bool) (a : Level) → (pure ≡ true → IsBit a) → a ≢ Z → IsLevel pure a
is-level true Zero bit driven = inl refl
is-level true One bit driven = inr refl
is-level true Z bit driven = absurd (driven refl)
is-level true X bit driven = absurd (bit refl)
is-level false a bit driven = driven

not-twice : (a b : Level) → b ≢ Z → a ≡ not3 b → b ≡ not3 a
not-twice a Zero h e = sym (ap not3 e)
not-twice a One h e = sym (ap not3 e)
not-twice a Z h e = absurd (h refl)
not-twice a X h e = sym (ap not3 e)

module _ (b : Joined) where
  abbrev c : Circuit
  c = equations_of b

  abbrev us : List ℕ
  us = register_units b.chips

  -- levels of nodes as levels of variables
  abbrev pub by_vars : NodeLevels → Levelling
  by_vars f v = f (read_of b.chips v)

  literal-node : (lits : List Literal) (y : Literal) → Among y (variable_product c lits) → IsNode c y.source
  literal-node lits y a =
      among-node c y.source (both-among y (all_variables c)
      (among-filter (λ x. list_any (same_literal x) (map (variable_literal c) lits)) y (flat_map both_literals (all_variables c)) a).1)

  -- levels of parts

  lits-level : (f : NodeLevels) (ys : List Literal) → ((y : Literal) → Among y ys → IsNode c y.source) → product_level (by_vars f) (map (var_lit us) ys) ≡ product_by f ys
  lits-level f [] nodes = refl
  lits-level f (y ∷ ys) nodes =
      (λ i. and3 (cond y.high (f (var-back b y.source (nodes y (inl refl)) i)) (not3 (f (var-back b y.source (nodes y (inl refl)) i)))) (lits-level f ys (λ z a. nodes z (inr a)) i))

  sum-level : (f : NodeLevels) (ts : List (List Literal)) → terms_level (by_vars f) (sum_over c us ts) ≡ terms_by f (map (variable_product c) ts)
  sum-level f [] = refl
  sum-level f (t ∷ ts) = (λ i. or3 (lits-level f (variable_product c t) (λ y a. literal-node t y a) i) (sum-level f ts i))

  gate-over : (g : Gate) → row_over c us g ≡ sum_over c us (gate_terms g)
  gate-over Never = refl
  gate-over (Product xs) = refl

  pub raw-over : (d : Driver) (part : Part) → part_of (unit_products c us d) part ≡ sum_over c us (raw_part c d part)
  raw-over d Enable = gate-over d.enable
  raw-over d Logic = at d.gives
    where
      by : (o : Option Register) → register_logic c us o ≡ sum_over c us (register_terms o)
      by None = refl
      by (Some r) = refl

      at : (g : Gives) → logic_over c us g ≡ sum_over c us (logic_terms c g)
      at (Sum ts) = refl
      at (Visible k) = by (slice_get c.registers k)
  raw-over d Reset = at d.gives
    where
      by : (o : Option Register) → register_reset c us o ≡ sum_over c us (reset_terms o)
      by None = refl
      by (Some r) = gate-over r.reset

      at : (g : Gives) → reset_over c us g ≡ sum_over c us (resetting_terms c g)
      at (Sum ts) = refl
      at (Visible k) = by (slice_get c.registers k)
  raw-over d Preset = at d.gives
    where
      by : (o : Option Register) → register_preset c us o ≡ sum_over c us (preset_terms o)
      by None = refl
      by (Some r) = gate-over r.preset

      at : (g : Gives) → preset_over c us g ≡ sum_over c us (presetting_terms c g)
      at (Sum ts) = refl
      at (Visible k) = by (slice_get c.registers k)

  module _ (absorbed : List ℕ) (own_literals : HasOwnLiterals b) (may : AreAbsorbable b absorbed) where
    driver-level : (f : NodeLevels) → AreFitting c absorbed f → (u : ℕ) (d : Driver) (part : Part) → slice_get c.units u ≡ Some d → inverted_level (by_vars f) (driver_part b d part) ≡ part_level c d part f
    driver-level f fit u d part e =
        low-level (part_low c d part) (terms_level (by_vars f) (part_of (unit_products c us d) part))
        ∙ ap (inverted (part_low c d part))
        (ap (terms_level (by_vars f)) (raw-over d part) ∙ sum-level f (raw_part c d part) ∙ sym (variable_terms-level c absorbed f fit (raw_part c d part) (own_literals.each u d part e)))

    pub unit-level : (f : NodeLevels) → AreFitting c absorbed f → (u : ℕ) (d : Driver) (part : Part) → slice_get c.units u ≡ Some d → inverted_level (by_vars f) (unit_part b u part) ≡ part_level c d part f
    unit-level f fit u d part e = ap (λ (o : Option Driver). inverted_level (by_vars f) (part_or_none b part o)) e ∙ driver-level f fit u d part e

    -- absorbed nets have the levels that their units give
    pub absorbed-levels : (f : NodeLevels) → AreFitting c absorbed f → LevelsAbsorbed b absorbed (by_vars f)
    absorbed-levels f fit = record { each = each }
      where
        logic : (d : Driver) (g : Gives) → is_sum g ≡ true → inverted d.low (gives_by f g) ≡ inverted (logic_low c g d.low) (terms_by f (logic_terms c g))
        logic d (Sum ts) e = refl
        logic d (Visible k) e = cc

        at : (u : ℕ) (o : Option Driver) → slice_get c.units u ≡ o → is_plain o ≡ true → logic_at c f u ≡ inverted_level (by_vars f) (unit_part b u Logic)
        at u None e p = cc
        at u (Some d) e p =
            ap (or_x (logic_by f)) e ∙ logic d d.gives (and_parts (is_always d.enable) (is_sum d.gives) p).1 ∙ sym (unit-level f fit u d Logic e)

        each : (n u : ℕ) → IsAbsorbed b absorbed n u → by_vars f (Net n) ≡ inverted_level (by_vars f) (unit_part b u Logic)
        each n u a =
            fit.absorbs n u (record { wire = a.wire; on = a.on; alone = a.alone; listed = a.listed })
            ∙ at u (slice_get c.units u) refl (may u a.listed).1.plain

    -- levels of a cone's variables

    abbrev levels : NodeLevels → List (Var × Bool) → List Level
    levels f vs = map (λ (w : Var × Bool). by_vars f w.0) vs

    are-levels : (f : NodeLevels) → AreFitting c absorbed f → (vs : List (Var × Bool)) → ((w : Var × Bool) → Among w vs → w.1 ≡ true → IsPure c (read_of b.chips w.0)) → AreLevels vs (levels f vs)
    are-levels f fit [] pure = tt
    are-levels f fit (w ∷ ws) pure =
        (is-level w.1 (by_vars f w.0) (λ e. fit.pure (read_of b.chips w.0) (pure w (inl refl) e)) (fit.driven (read_of b.chips w.0)), are-levels f fit ws (λ x a e. pure x (inr a) e))

    level-of : (f : NodeLevels) (vs : List (Var × Bool)) (v : Var) → IsListed vs v → level_of vs (levels f vs) v ≡ by_vars f v
    level-of f [] v l = cc
    level-of f (w ∷ ws) v l = at (same_var w.0 v) refl l (level-of f ws v)
      where
        at : (q : Bool) → same_var w.0 v ≡ q → (q || list_any (λ (x : Var × Bool). same_var x.0 v) ws) ≡ true → (IsListed ws v → level_of ws (levels f ws) v ≡ by_vars f v) →
            cond q (by_vars f w.0) (level_of ws (levels f ws) v) ≡ by_vars f v
        at true e h rest = ap (by_vars f) (same_exact w.0 v e)
        at false e h rest = rest h

    have-levels : (f : NodeLevels) (vs : List (Var × Bool)) → HasLevels vs (levels f vs) (by_vars f)
    have-levels f vs = record { each = λ w a. sym (level-of f vs w.0 (among-any (λ (x : Var × Bool). same_var x.0 w.0) w vs a (same_self w.0))) }

    row-level : (f : NodeLevels) (vs : List (Var × Bool)) (xs : List VarLit) → All (λ (x : VarLit). IsListed vs x.var) xs →
        row_level vs (levels f vs) xs ≡ product_by f (map (λ (x : VarLit). record { source = read_of b.chips x.var; high = x.high }) xs)
    row-level f vs [] l = refl
    row-level f vs (x ∷ xs) l =
        let here = level-of f vs x.var (All-head (λ (y : VarLit). IsListed vs y.var) x xs l) in
        (λ i. and3 (cond x.high (here i) (not3 (here i))) (row-level f vs xs (All-tail (λ (y : VarLit). IsListed vs y.var) x xs l) i))

    rows-level : (f : NodeLevels) (vs : List (Var × Bool)) (rows : List VarProduct) → All (AllListed vs) rows → sum_level vs (levels f vs) rows ≡ terms_by f (map (row_of b) rows)
    rows-level f vs [] l = refl
    rows-level f vs (r ∷ rs) l =
        (λ i. or3 (row-level f vs r.lits (All-head (AllListed vs) r rs l) i) (rows-level f vs rs (All-tail (AllListed vs) r rs l) i))

    -- what a part names

    variable-net : (z : Literal) (m : ℕ) → (variable_literal c z).source ≡ OfNet m → z.source ≡ OfNet m
    variable-net z m e = by z.source refl e
      where
        aliased : (o : Option (ℕ × Bool)) → (or_alias o z).source ≡ OfNet m → z.source ≡ OfNet m
        aliased None h = h
        aliased (Some a) h = cc

        by : (s : Read) → z.source ≡ s → (variable_by c s z).source ≡ OfNet m → z.source ≡ OfNet m
        by (OfNet n) is h = aliased (alias_of c n) h
        by (OfRegister k) is h = h

    name-net : (s : Read) (m : ℕ) → var_by us s ≡ Net m → s ≡ OfNet m
    name-net (OfNet n) m e = ap OfNet (same-net n m e)
      where
        same-net : (i j : ℕ) → Net i ≡ Net j → i ≡ j
        same-net i j e = cc
    name-net (OfRegister k) m e = cc

    -- the literal that a literal over variables stands for
    pub record IsRaw (ts : List (List Literal)) (x : VarLit) : Type 0 where
      pub literal : Literal
      pub read : Among literal.source (sum_reads ts)
      pub variable : read_of b.chips x.var ≡ (variable_literal c literal).source
      pub name : x.var ≡ var_by us (variable_literal c literal).source

    raw-literal : (ts : List (List Literal)) (terms : List VarProduct) (x : VarLit) → terms ≡ sum_over c us ts → StandsIn x terms → IsRaw ts x
    raw-literal ts terms x e s =
        let t = among-map (product_over c us) s.product ts (subst (Among s.product) e s.among) in
        let y = among-map (var_lit us) x (variable_product c t.0) (subst (λ (p : VarProduct). Among x p.lits) t.2 s.within) in
        let z = product-among c y.0 t.0 y.1 in
        let name : x.var ≡ var_by us y.0.source = ap (λ (k : VarLit). k.var) y.2 in
        let source : y.0.source ≡ (variable_literal c z.0).source = ap (λ (k : Literal). k.source) z.2 in
        record {
          literal = z.0;
          read = among-flat_map product_reads t.0 z.0.source ts t.1 (map-among (λ (y : Literal). y.source) z.0 t.0 z.1);
          variable = ap (read_of b.chips) name ∙ var-back b y.0.source (literal-node t.0 y.0 y.1) ∙ source;
          name = name ∙ ap (var_by us) source;
        }

    abbrev plain_terms : Option Driver → List (List Literal)
    plain_terms None = []
    plain_terms (Some d) = logic_terms c d.gives

    plain-terms : (u : ℕ) → IsAbsorbable c u → ((unit_part b u Logic).terms ≡ sum_over c us (plain_terms (slice_get c.units u))) × (sum_reads (plain_terms (slice_get c.units u)) ≡ logic_reads c u)
    plain-terms u can = at (slice_get c.units u) can.1.plain
      where
        reads : (g : Gives) → is_sum g ≡ true → sum_reads (logic_terms c g) ≡ sum_reads_of g
        reads (Sum ts) e = refl
        reads (Visible k) e = cc

        at : (o : Option Driver) → is_plain o ≡ true → ((part_or_none b Logic o).terms ≡ sum_over c us (plain_terms o)) × (sum_reads (plain_terms o) ≡ logic_reads_by o)
        at None p = cc
        at (Some d) p = (raw-over d Logic, reads d.gives (and_parts (is_always d.enable) (is_sum d.gives) p).1)

    names-named : (v : Var) (ts : List (List Literal)) (terms : List VarProduct) → terms ≡ sum_over c us ts → Names b absorbed v terms → Named c absorbed (read_of b.chips v) (sum_reads ts)
    names-named v ts terms e (itself x s is free) =
        let r = raw-literal ts terms x e s in
        own r.literal.source r.read (sym (variable-source c r.literal.source r.literal.high) ∙ sym r.variable ∙ ap (read_of b.chips) is)
    names-named v ts terms e (through x s n u is a rest) =
        let r = raw-literal ts terms x e s in
        let net : r.literal.source ≡ OfNet n = variable-net r.literal n (name-net (variable_literal c r.literal).source n (sym r.name ∙ is)) in
        let p = plain-terms u (may u a.listed) in
        behind n u (subst (λ (q : Read). Among q (sum_reads ts)) net r.read) (record { wire = a.wire; on = a.on; alone = a.alone; listed = a.listed })
        (subst (Named c absorbed (read_of b.chips v)) p.1 (names-named v (plain_terms (slice_get c.units u)) (unit_part b u Logic).terms p.0 rest))

    -- rows over the variables of a part's cone

    module _ (u : ℕ) (d : Driver) (part : Part) (is : slice_get c.units u ≡ Some d) (vars : List (Var × Bool)) (f : Point → Bool) (cone : IsCone b absorbed (unit_part b u part).terms vars)
        (value : HasJoinedValue b absorbed (unit_part b u part) vars f) (rows : List VarProduct) (listed : All (AllListed vars) rows) where
      unit-terms : (unit_part b u part).terms ≡ sum_over c us (raw_part c d part)
      unit-terms = ap (λ (o : Option Driver). (part_or_none b part o).terms) is ∙ raw-over d part

      listed-name : (x : VarLit) → IsListed vars x.var → Among x.var (map (λ (w : Var × Bool). w.0) vars)
      listed-name x l =
          let w = any-among (λ (w : Var × Bool). same_var w.0 x.var) vars l in
          subst (λ (v : Var). Among v (map (λ (w : Var × Bool). w.0) vars)) (same_exact w.0.0 x.var w.2) (map-among (λ (w : Var × Bool). w.0) w.0 vars w.1)

      row-named : (v : Read) (row : VarProduct) → AllListed vars row → Among v (product_reads (row_of b row)) → Named c absorbed v (sum_reads (raw_part c d part))
      row-named v row l a =
          let y = among-map (λ (z : Literal). z.source) v (row_of b row) a in
          let x = among-map (λ (x : VarLit). record { source = read_of b.chips x.var; high = x.high }) y.0 row.lits y.1 in
          let source : read_of b.chips x.0.var ≡ v = sym (y.2 ∙ ap (λ (z : Literal). z.source) x.2) in
          let named : Names b absorbed x.0.var (unit_part b u part).terms = (cone.exact x.0.var).0 (listed-name x.0 (listed-among (λ (z : VarLit). IsListed vars z.var) x.0 row.lits l x.1)) in
          subst (λ (w : Read). Named c absorbed w (sum_reads (raw_part c d part))) source (names-named x.0.var (raw_part c d part) (unit_part b u part).terms unit-terms named)

      rows-named : (v : Read) (rs : List VarProduct) → All (AllListed vars) rs → Among v (sum_reads (map (row_of b) rs)) → Named c absorbed v (sum_reads (raw_part c d part))
      rows-named v [] l a = absurd a
      rows-named v (r ∷ rs) l a = at (among-split v (product_reads (row_of b r)) (sum_reads (map (row_of b) rs)) a) (rows-named v rs (All-tail (AllListed vars) r rs l))
        where
          at : Among v (product_reads (row_of b r)) ⊎ Among v (sum_reads (map (row_of b) rs)) → (Among v (sum_reads (map (row_of b) rs)) → Named c absorbed v (sum_reads (raw_part c d part))) → Named c absorbed v (sum_reads (raw_part c d part))
          at (inl h) rest = row-named v r (All-head (AllListed vars) r rs l) h
          at (inr h) rest = rest h

      lawful : (g : NodeLevels) → AreFitting c absorbed g → AreLevels vars (levels g vars)
      lawful g fit = are-levels g fit vars (λ w a e. (cone.pure w a).0 e)

      joined-level : (g : NodeLevels) → AreFitting c absorbed g → value_under (all_rails vars) f (levels g vars) ≡ part_level c d part g
      joined-level g fit = value (levels g vars) (by_vars g) (lawful g fit) (have-levels g vars) (absorbed-levels g fit) ∙ unit-level g fit u d part is

      rows-valued : (g : NodeLevels) → AreFitting c absorbed g → value_under (all_rails vars) (sum_holds (all_rails vars) rows) (levels g vars) ≡ terms_by g (map (row_of b) rows)
      rows-valued g fit = sum_valued vars (levels g vars) (lawful g fit) rows listed ∙ rows-level g vars rows listed

      -- rows with the joined part's function
      pub direct-rows : ((p : Point) → f p ≡ sum_holds (all_rails vars) rows p) → AreRows c absorbed (part_level c d part) (sum_reads (raw_part c d part)) (map (row_of b) rows) false
      direct-rows same = record {
        same = λ g fit. sym (joined-level g fit) ∙ value_same (all_rails vars) f (sum_holds (all_rails vars) rows) (levels g vars) same ∙ rows-valued g fit;
        named = λ v a. rows-named v rows listed a;
      }

      -- rows with its inverse
      pub inverted-rows : IsMonotone (all_rails vars) f → ((p : Point) → inverse (all_rails vars) f p ≡ sum_holds (all_rails vars) rows p) →
          AreRows c absorbed (part_level c d part) (sum_reads (raw_part c d part)) (map (row_of b) rows) true
      inverted-rows monotone same = record {
        same = λ g fit.
            let whole : terms_by g (map (row_of b) rows) ≡ not3 (part_level c d part g) =
            sym (rows-valued g fit) ∙ sym (value_same (all_rails vars) (inverse (all_rails vars) f) (sum_holds (all_rails vars) rows) (levels g vars) same)
            ∙ inverse_valued vars (levels g vars) (lawful g fit) f monotone ∙ ap not3 (joined-level g fit) in
            not-twice (terms_by g (map (row_of b) rows)) (part_level c d part g) (subst (λ (x : Level). x ≢ Z) (unit-level g fit u d part is) (inverted_driven (by_vars g) (unit_part b u part))) whole;
        named = λ v a. rows-named v rows listed a;
      }
