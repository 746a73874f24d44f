-- The variables that the parts of units name, and what the net of an absorbed unit reads.
use Rattle.std.proofs.Common.{ℕ, ◌≡◌, Bool, true, List, [], ◌∷◌, map, Option, Some, None, refl, sym, ap, ◌∙◌, subst, inl, inr}
use Rattle.std.specs.Prelude.{slice_get}
use Rattle.std.specs.List.{list_any, flat_map}
use Rattle.std.proofs.lemmas.Bool.{and_parts}
use Rattle.mig_base.specs.Among.{Among}
use Rattle.mig_base.specs.Bools.{same_bool}
use Rattle.mig_base.specs.Reads.{gives_reads, driver_reads, reads_of_wire, node_reads}
use Rattle.mig_base.specs.Structure.{same_read, same_literal, alias_of, or_alias, variable_by, variable_literal, variable_product, all_variables, both_literals}
use Rattle.mig_base.specs.Values.{product_reads, sum_reads, row_reads}
use Rattle.mig_base.specs.declared.circuit.Circuit.{Circuit}
use Rattle.mig_base.specs.declared.circuit.Driver.{Driver}
use Rattle.mig_base.specs.declared.circuit.Gate.{Gate}
use Rattle.mig_base.specs.declared.circuit.Gate.TheVariants.{Never, Product}
use Rattle.mig_base.specs.declared.circuit.Gives.{Gives}
use Rattle.mig_base.specs.declared.circuit.Gives.TheVariants.{Sum, Visible}
use Rattle.mig_base.specs.declared.circuit.Literal.{Literal}
use Rattle.mig_base.specs.declared.circuit.Read.{Read}
use Rattle.mig_base.specs.declared.circuit.Read.TheVariants.{OfNet, OfRegister}
use Rattle.mig_base.specs.declared.circuit.Register.{Register}
use Rattle.mig_base.specs.declared.circuit.Wire.{Wire}
use Rattle.mig_base.specs.declared.nets.Var.TheVariants.{Net}
use Rattle.mig_base.specs.declared.nets.VarLit.{VarLit}
use Rattle.mig_base.specs.declared.nets.VarProduct.{VarProduct}
use Rattle.mig_base.specs.declared.plans.Part.{Part}
use Rattle.mig_base.specs.declared.plans.Part.TheVariants.{Logic, Enable, Reset, Preset}
use Rattle.mig_base.specs.Reads.{IsNode}
use Rattle.mig_base.proofs.Amongs.{among-filter, among-left, among-node, among-right, any-among, among-map, both-among, among-flat_map}
use Rattle.mig_base.proofs.ReadLaws.{read-same}
use Rattle.structure.specs.Absorbable.{is_sum, is_plain}
use Rattle.structure.specs.Products.{var_by, var_lit, product_over, sum_over, row_over, register_logic, register_preset, register_reset, logic_over, preset_over, reset_over, unit_products, part_of, part_over, part_products}
use Rattle.structure.specs.Pure.{is_always}
use Rattle.board.specs.Joined.{Joined, equations_of}
use Rattle.board.specs.UnitLists.{register_units}
use Rattle.board.specs.Variables.{IsVariable}
use Rattle.board.proofs.BoardLaws.{var-variable}
use Rattle.joiner.specs.AbsorbedNets.{AreAbsorbable, AreOver}
use Rattle.joiner.specs.Joined.{IsAbsorbed, StandsIn, part_or_none, unit_part}

literal-node : (c : Circuit) (lits : List Literal) (y : Literal) → Among y (variable_product c lits) → IsNode c y.source
literal-node c lits y a =
    among-node c y.source (both-among y (all_variables c)
    (among-filter (λ x. list_any (same_literal x) (map (variable_literal c) lits)) y (flat_map both_literals (all_variables c)) a).1)

-- a literal of a net was one before
variable-net : (c : Circuit) (z : Literal) (m : ℕ) → (variable_literal c z).source ≡ OfNet m → z.source ≡ OfNet m
variable-net c z m e = by z.source refl e
  where
    aliased : (o : Option (ℕ × Bool)) → (or_alias o z).source ≡ OfNet m → z.source ≡ OfNet m
    aliased None h = h
    aliased (Some a) h = cc

    by : (s : Read) → z.source ≡ s → (variable_by c s z).source ≡ OfNet m → z.source ≡ OfNet m
    by (OfNet n) is h = aliased (alias_of c n) h
    by (OfRegister k) is h = h

source-among : (z : Literal) (v : Read) (lits : List Literal) → Among z lits → z.source ≡ v → Among v (product_reads lits)
source-among z v [] a e = absurd a
source-among z v (y ∷ ys) (inl same) e = inl (sym e ∙ ap (λ (x : Literal). x.source) same)
source-among z v (y ∷ ys) (inr a) e = inr (source-among z v ys a e)

literal-read : (c : Circuit) (lits : List Literal) (y : Literal) (m : ℕ) → Among y (variable_product c lits) → y.source ≡ OfNet m → Among (OfNet m) (product_reads lits)
literal-read c lits y m a e =
    let stands = (among-filter (λ x. list_any (same_literal x) (map (variable_literal c) lits)) y (flat_map both_literals (all_variables c)) a).0 in
    let found = any-among (same_literal y) (map (variable_literal c) lits) stands in
    let old = among-map (variable_literal c) found.0 lits found.1 in
    let same = read-same y.source found.0.source (and_parts (same_read y.source found.0.source) (same_bool y.high found.0.high) found.2).0 in
    let source : (variable_literal c old.0).source ≡ OfNet m = sym (ap (λ (x : Literal). x.source) old.2) ∙ sym same ∙ e in
    source-among old.0 (OfNet m) lits old.1 (variable-net c old.0 m source)

-- the literals of a product by their names
named-literal : (c : Circuit) (units : List ℕ) (lits : List Literal) (x : VarLit) → Among x (product_over c units lits).lits → (y : Literal) × Among y (variable_product c lits) × (x ≡ var_lit units y)
named-literal c units lits x a = among-map (var_lit units) x (variable_product c lits) a

name-net : (units : List ℕ) (s : Read) (m : ℕ) → var_by units s ≡ Net m → s ≡ OfNet m
name-net units (OfNet n) m e = ap OfNet (same-net n m e)
  where
    same-net : (i j : ℕ) → Net i ≡ Net j → i ≡ j
    same-net i j e = cc
name-net units (OfRegister k) m e = cc

-- all literals of a part are of variables of the board
over-product : (b : Joined) (lits : List Literal) (x : VarLit) → Among x (product_over (equations_of b) (register_units b.chips) lits).lits → IsVariable b x.var
over-product b lits x a =
    let y = named-literal (equations_of b) (register_units b.chips) lits x a in
    let name : x.var ≡ var_by (register_units b.chips) y.0.source = ap (λ (z : VarLit). z.var) y.2 in
    subst (IsVariable b) (sym name) (var-variable b y.0.source (literal-node (equations_of b) lits y.0 y.1))

over-none : (b : Joined) → AreOver b []
over-none b = λ x s. absurd s.among

over-sum : (b : Joined) (terms : List (List Literal)) → AreOver b (sum_over (equations_of b) (register_units b.chips) terms)
over-sum b terms = λ x s.
    let lits = among-map (product_over (equations_of b) (register_units b.chips)) s.product terms s.among in
    over-product b lits.0 x (subst (λ (p : VarProduct). Among x p.lits) lits.2 s.within)

over-row : (b : Joined) (row : Gate) → AreOver b (row_over (equations_of b) (register_units b.chips) row)
over-row b Never = over-none b
over-row b (Product lits) = λ x s. at x s.product s.within s.among
  where
    at : (x : VarLit) (p : VarProduct) → Among x p.lits → Among p (product_over (equations_of b) (register_units b.chips) lits ∷ []) → IsVariable b x.var
    at x p h (inl e) = over-product b lits x (subst (λ (q : VarProduct). Among x q.lits) e h)
    at x p h (inr none) = absurd none

over-logic : (b : Joined) (g : Gives) → AreOver b (logic_over (equations_of b) (register_units b.chips) g)
over-logic b (Sum terms) = over-sum b terms
over-logic b (Visible k) = at (slice_get (equations_of b).registers k)
  where
    at : (o : Option Register) → AreOver b (register_logic (equations_of b) (register_units b.chips) o)
    at None = over-none b
    at (Some r) = over-sum b r.terms

over-reset : (b : Joined) (g : Gives) → AreOver b (reset_over (equations_of b) (register_units b.chips) g)
over-reset b (Sum terms) = over-none b
over-reset b (Visible k) = at (slice_get (equations_of b).registers k)
  where
    at : (o : Option Register) → AreOver b (register_reset (equations_of b) (register_units b.chips) o)
    at None = over-none b
    at (Some r) = over-row b r.reset

over-preset : (b : Joined) (g : Gives) → AreOver b (preset_over (equations_of b) (register_units b.chips) g)
over-preset b (Sum terms) = over-none b
over-preset b (Visible k) = at (slice_get (equations_of b).registers k)
  where
    at : (o : Option Register) → AreOver b (register_preset (equations_of b) (register_units b.chips) o)
    at None = over-none b
    at (Some r) = over-row b r.preset

over-driver : (b : Joined) (d : Driver) (part : Part) → AreOver b (part_of (unit_products (equations_of b) (register_units b.chips) d) part)
over-driver b d Logic = over-logic b d.gives
over-driver b d Enable = over-row b d.enable
over-driver b d Reset = over-reset b d.gives
over-driver b d Preset = over-preset b d.gives

pub part-over : (b : Joined) (u : ℕ) (part : Part) → AreOver b (unit_part b u part).terms
part-over b u part = at (slice_get (equations_of b).units u)
  where
    at : (o : Option Driver) → AreOver b (part_or_none b part o).terms
    at None = over-none b
    at (Some d) = over-driver b d part

-- the products that a board lends are those of the part
products-driver : (b : Joined) (part : Part) (o : Option Driver) → part_over (equations_of b) (register_units b.chips) part o ≡ (part_or_none b part o).terms
products-driver b part None = refl
products-driver b part (Some d) = refl

pub products-part : (b : Joined) (u : ℕ) (part : Part) → part_products (equations_of b) (register_units b.chips) u part ≡ (unit_part b u part).terms
products-part b u part = products-driver b part (slice_get (equations_of b).units u)

pub products-over : (b : Joined) (u : ℕ) (part : Part) → AreOver b (part_products (equations_of b) (register_units b.chips) u part)
products-over b u part = subst (AreOver b) (sym (products-part b u part)) (part-over b u part)

-- the net of an absorbed unit reads all nets that the unit names
sum-read : (c : Circuit) (units : List ℕ) (terms : List (List Literal)) (x : VarLit) (m : ℕ) → StandsIn x (sum_over c units terms) → x.var ≡ Net m → Among (OfNet m) (sum_reads terms)
sum-read c units terms x m s e =
    let lits = among-map (product_over c units) s.product terms s.among in
    let y = named-literal c units lits.0 x (subst (λ (p : VarProduct). Among x p.lits) lits.2 s.within) in
    let source : y.0.source ≡ OfNet m = name-net units y.0.source m (sym (ap (λ (z : VarLit). z.var) y.2) ∙ e) in
    among-flat_map product_reads lits.0 (OfNet m) terms lits.1 (literal-read c lits.0 y.0 m y.1 source)

gives-read : (c : Circuit) (units : List ℕ) (g : Gives) (x : VarLit) (m : ℕ) → is_sum g ≡ true → StandsIn x (logic_over c units g) → x.var ≡ Net m → Among (OfNet m) (gives_reads g)
gives-read c units (Sum terms) x m is s e = sum-read c units terms x m s e
gives-read c units (Visible k) x m is s e = cc

driver-read : (b : Joined) (o : Option Driver) (x : VarLit) (m : ℕ) → is_plain o ≡ true → StandsIn x (part_or_none b Logic o).terms → x.var ≡ Net m → Among (OfNet m) (driver_reads o)
driver-read b None x m is s e = cc
driver-read b (Some d) x m is s e =
    among-right (OfNet m) (row_reads d.enable) (gives_reads d.gives)
    (gives-read (equations_of b) (register_units b.chips) d.gives x m (and_parts (is_always d.enable) (is_sum d.gives) is).1 s e)

pub net-read : (b : Joined) (absorbed : List ℕ) (n u m : ℕ) (x : VarLit) → AreAbsorbable b absorbed → IsAbsorbed b absorbed n u → StandsIn x (unit_part b u Logic).terms → x.var ≡ Net m →
    Among (OfNet m) (node_reads (equations_of b) (OfNet n))
net-read b absorbed n u m x may is s e =
    let plain = (may u is.listed).1.plain in
    let reads = driver-read b (slice_get (equations_of b).units u) x m plain s e in
    subst (λ (o : Option Wire). Among (OfNet m) (reads_of_wire (equations_of b) o)) (sym is.on)
    (subst (λ (us : List ℕ). Among (OfNet m) (flat_map (λ w. driver_reads (slice_get (equations_of b).units w)) us)) (sym is.alone)
    (among-left (OfNet m) (driver_reads (slice_get (equations_of b).units u)) [] reads))
