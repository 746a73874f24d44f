-- The rows of placed units read nodes of the board, each by its own variable.
use Rattle.std.proofs.Common.{ℕ, ◌≡◌, Bool, true, false, List, [], ◌∷◌, map, Option, Some, None, refl, sym, ap, ◌∙◌, subst, inl, inr, ◌⊎◌, ◌+◌}
use Rattle.std.specs.Prelude.{slice_get}
use Rattle.std.specs.List.{list_any, flat_map, filter_map}
use Rattle.std.specs.Option.{option_map}
use Rattle.std.proofs.lemmas.Bool.{and_parts}
use Rattle.std.proofs.lemmas.Option.{same_Some}
use Rattle.mig_base.specs.Among.{Among}
use Rattle.mig_base.specs.Bools.{same_bool}
use Rattle.mig_base.specs.Reads.{IsNode}
use Rattle.mig_base.specs.Structure.{same_read, same_literal, alias_of, or_alias, variable_of, variable_by, variable_literal, variable_product, variable_gate, all_variables, both_literals}
use Rattle.mig_base.specs.declared.circuit.Circuit.{Circuit}
use Rattle.mig_base.specs.declared.circuit.Driver.{Driver}
use Rattle.mig_base.specs.declared.circuit.Gate.{Gate}
use Rattle.mig_base.specs.declared.circuit.Gate.TheVariants.{Never, Product as Gated}
use Rattle.mig_base.specs.declared.circuit.Gives.{Gives}
use Rattle.mig_base.specs.declared.circuit.Gives.TheVariants.{Sum, Visible}
use Rattle.mig_base.specs.declared.circuit.Literal.{Literal}
use Rattle.mig_base.specs.declared.circuit.Read.{Read}
use Rattle.mig_base.specs.declared.circuit.Read.TheVariants.{OfNet, OfRegister}
use Rattle.mig_base.specs.declared.circuit.Register.{Register}
use Rattle.mig_base.specs.declared.nets.Var.{Var}
use Rattle.mig_base.specs.declared.nets.VarLit.{VarLit}
use Rattle.mig_base.specs.declared.nets.VarProduct.{VarProduct}
use Rattle.mig_base.specs.declared.plans.Part.{Part}
use Rattle.mig_base.specs.declared.plans.Part.TheVariants.{Logic, Enable, Reset, Preset}
use Rattle.mig_base.proofs.Amongs.{among-filter, among-get, among-node, among-split, any-among, among-map, map-among, both-among}
use Rattle.mig_base.proofs.ReadLaws.{read-same}
use Rattle.structure.specs.Products.{var_lit, product_over, sum_over, row_over, register_logic, register_preset, register_reset, logic_over, preset_over, reset_over, unit_products, part_of as unit_part_of}
use Rattle.board.specs.Joined.{Joined, equations_of}
use Rattle.board.specs.UnitLists.{register_units}
use Rattle.board.specs.Variables.{read_of}
use Rattle.board.proofs.BoardLaws.{var-back}
use Rattle.joiner.specs.Joined.{StandsIn, Names, itself, through, IsCone, part_or_none, unit_part}
use Rattle.rails.specs.declared.Rail.{Rail}
use Rattle.rails.specs.declared.Side.{Side}
use Rattle.rails.specs.Variables.{sides, rails_of, rails_from, all_rails}
use Rattle.new_board.specs.NewChip.{gate_products}
use Rattle.new_board.specs.OneForOne.{terms_over, no_rows, old_reg, old_giving, old_driving}
use Rattle.new_board.proofs.Serving.{IsOwnVariable}
use Rattle.new_board.proofs.Items.{among-unfilter_map}
use Rattle.primes.specs.Prime.{Product}
use Rattle.rails.specs.Points.{literal_of}
use Rattle.plans.specs.FirstOf.{FirstOf}
use Rattle.plans.specs.Forms.{Products, part_of, old_products, over_board, rail_literal, cover_products, reads_absorbed, Try, Old, Direct, Inverse, Room, LogicForm, IsCovered, IsOffered, IsControlBy, IsControl, Fits, IsForm, tries}

-- a node that is its own variable
pub record IsOwn (c : Circuit) (v : Read) : Type 0 where
  pub node : IsNode c v
  pub own : IsOwnVariable c v

-- all literals of products read such
abbrev pub ReadOwn : Circuit → List (List Literal) → Type 0
ReadOwn c products = (lits : List Literal) → Among lits products → (x : Literal) → Among x lits → IsOwn c x.source

-- the variable of a literal is its own
own-literal : (c : Circuit) (z : Literal) → IsOwnVariable c (variable_literal c z).source
own-literal c z = by z.source refl
  where
    aliased : (n : ℕ) (o : Option (ℕ × Bool)) → z.source ≡ OfNet n → alias_of c n ≡ o → IsOwnVariable c (or_alias o z).source
    aliased n None is e =
        let own : variable_of c n ≡ OfNet n = ap (λ (o : Option (ℕ × Bool)). (or_alias o (record { source = OfNet n; high = true })).source) e in
        subst (IsOwnVariable c) (sym is) own
    aliased n (Some a) is e = tt

    by : (s : Read) → z.source ≡ s → IsOwnVariable c (variable_by c s z).source
    by (OfNet n) is = aliased n (alias_of c n) is refl
    by (OfRegister k) is = subst (IsOwnVariable c) (sym is) tt

-- the literals of a product over variables
pub own-product : (c : Circuit) (lits : List Literal) (y : Literal) → Among y (variable_product c lits) → IsOwn c y.source
own-product c lits y a =
    let kept = among-filter (λ x. list_any (same_literal x) (map (variable_literal c) lits)) y (flat_map both_literals (all_variables c)) a in
    let found = any-among (same_literal y) (map (variable_literal c) lits) kept.0 in
    let old = among-map (variable_literal c) found.0 lits found.1 in
    let same : y.source ≡ (variable_literal c old.0).source =
    read-same y.source found.0.source (and_parts (same_read y.source found.0.source) (same_bool y.high found.0.high) found.2).0 ∙ ap (λ (x : Literal). x.source) old.2 in
    record { node = among-node c y.source (both-among y (all_variables c) kept.1); own = subst (IsOwnVariable c) (sym same) (own-literal c old.0) }

own-none : (c : Circuit) → ReadOwn c []
own-none c = λ lits a. absurd a

own-terms : (c : Circuit) (terms : List (List Literal)) → ReadOwn c (terms_over c terms)
own-terms c terms = λ lits a x ax. let old = among-map (variable_product c) lits terms a in own-product c old.0 x (subst (Among x) old.2 ax)

own-gate : (c : Circuit) (g : Gate) → ReadOwn c (gate_products (variable_gate c g))
own-gate c Never = own-none c
own-gate c (Gated lits) = λ ls a x ax. at ls a x ax
  where
    at : (ls : List Literal) → Among ls (variable_product c lits ∷ []) → (x : Literal) → Among x ls → IsOwn c x.source
    at ls (inl e) x ax = own-product c lits x (subst (Among x) e ax)
    at ls (inr none) x ax = absurd none

-- the old products of a part
pub own-old : (c : Circuit) (u : ℕ) (part : Part) → ReadOwn c (old_products c u part)
own-old c u part = at (slice_get c.units u)
  where
    bare : (u : ℕ) (q : Part) → ReadOwn c (part_of (no_rows 0 u) q)
    bare u Logic = own-none c
    bare u Enable = own-none c
    bare u Reset = own-none c
    bare u Preset = own-none c

    registered : (d : Driver) (o : Option Register) (q : Part) → ReadOwn c (part_of (old_reg c 0 u d o) q)
    registered d None q = bare u q
    registered d (Some r) Logic = own-terms c r.terms
    registered d (Some r) Enable = own-gate c d.enable
    registered d (Some r) Reset = own-gate c r.reset
    registered d (Some r) Preset = own-gate c r.preset

    giving : (d : Driver) (g : Gives) (q : Part) → ReadOwn c (part_of (old_giving c 0 u d g) q)
    giving d (Sum terms) Logic = own-terms c terms
    giving d (Sum terms) Enable = own-gate c d.enable
    giving d (Sum terms) Reset = own-none c
    giving d (Sum terms) Preset = own-none c
    giving d (Visible k) q = registered d (slice_get c.registers k) q

    at : (o : Option Driver) → ReadOwn c (part_of (old_driving c 0 u o) part)
    at None = bare u part
    at (Some d) = giving d d.gives part

-- what a part names

abbrev OwnOver : Joined → List VarProduct → Type 0
OwnOver b terms = (x : VarLit) → StandsIn x terms → IsOwn (equations_of b) (read_of b.chips x.var)

over-product : (b : Joined) (lits : List Literal) (x : VarLit) → Among x (product_over (equations_of b) (register_units b.chips) lits).lits → IsOwn (equations_of b) (read_of b.chips x.var)
over-product b lits x a =
    let y = among-map (var_lit (register_units b.chips)) x (variable_product (equations_of b) lits) a in
    let own = own-product (equations_of b) lits y.0 y.1 in
    let back : read_of b.chips x.var ≡ y.0.source = ap (λ (z : VarLit). read_of b.chips z.var) y.2 ∙ var-back b y.0.source own.node in
    subst (IsOwn (equations_of b)) (sym back) own

over-none : (b : Joined) → OwnOver b []
over-none b = λ x s. absurd s.among

over-sum : (b : Joined) (terms : List (List Literal)) → OwnOver b (sum_over (equations_of b) (register_units b.chips) terms)
over-sum b terms = λ x s.
    let lits = among-map (product_over (equations_of b) (register_units b.chips)) s.product terms s.among in
    over-product b lits.0 x (subst (λ (p : VarProduct). Among x p.lits) lits.2 s.within)

over-row : (b : Joined) (row : Gate) → OwnOver b (row_over (equations_of b) (register_units b.chips) row)
over-row b Never = over-none b
over-row b (Gated lits) = λ x s. at x s.product s.within s.among
  where
    at : (x : VarLit) (p : VarProduct) → Among x p.lits → Among p (product_over (equations_of b) (register_units b.chips) lits ∷ []) → IsOwn (equations_of b) (read_of b.chips x.var)
    at x p h (inl e) = over-product b lits x (subst (λ (q : VarProduct). Among x q.lits) e h)
    at x p h (inr none) = absurd none

over-register : (b : Joined) (o : Option Register) → OwnOver b (register_logic (equations_of b) (register_units b.chips) o)
    × OwnOver b (register_reset (equations_of b) (register_units b.chips) o) × OwnOver b (register_preset (equations_of b) (register_units b.chips) o)
over-register b None = (over-none b, over-none b, over-none b)
over-register b (Some r) = (over-sum b r.terms, over-row b r.reset, over-row b r.preset)

over-given : (b : Joined) (g : Gives) → OwnOver b (logic_over (equations_of b) (register_units b.chips) g)
    × OwnOver b (reset_over (equations_of b) (register_units b.chips) g) × OwnOver b (preset_over (equations_of b) (register_units b.chips) g)
over-given b (Sum terms) = (over-sum b terms, over-none b, over-none b)
over-given b (Visible k) = over-register b (slice_get (equations_of b).registers k)

over-driver : (b : Joined) (d : Driver) (part : Part) → OwnOver b (unit_part_of (unit_products (equations_of b) (register_units b.chips) d) part)
over-driver b d Logic = (over-given b d.gives).0
over-driver b d Enable = over-row b d.enable
over-driver b d Reset = (over-given b d.gives).1
over-driver b d Preset = (over-given b d.gives).2

over-part : (b : Joined) (u : ℕ) (part : Part) → OwnOver b (unit_part b u part).terms
over-part b u part = at (slice_get (equations_of b).units u)
  where
    at : (o : Option Driver) → OwnOver b (part_or_none b part o).terms
    at None = over-none b
    at (Some d) = over-driver b d part

over-named : (b : Joined) (absorbed : List ℕ) (v : Var) (terms : List VarProduct) → OwnOver b terms → Names b absorbed v terms → IsOwn (equations_of b) (read_of b.chips v)
over-named b absorbed v terms over (itself x stands is none) = subst (λ (w : Var). IsOwn (equations_of b) (read_of b.chips w)) is (over x stands)
over-named b absorbed v terms over (through x stands n u is by more) = over-named b absorbed v (unit_part b u Logic).terms (over-part b u Logic) more

-- the Booleans of variables are of them
pub rail-variable : (n : ℕ) (vars : List (Var × Bool)) (r : Rail) → Among r (rails_from n vars) → (w : Var × Bool) × Among w vars × (r.var ≡ w.0)
rail-variable n [] r a = absurd a
rail-variable n (w ∷ ws) r a = at (among-split r (rails_of n w) (rails_from (n + 1) ws) a) (rail-variable (n + 1) ws r)
  where
    at : Among r (rails_of n w) ⊎ Among r (rails_from (n + 1) ws) → (Among r (rails_from (n + 1) ws) → (v : Var × Bool) × Among v ws × (r.var ≡ v.0)) →
        (v : Var × Bool) × Among v (w ∷ ws) × (r.var ≡ v.0)
    at (inl h) rest =
        let side = among-map (λ (s : Side). record { var = w.0; variable = n; side = s }) r (sides w.1) h in
        (w, inl refl, ap (λ (q : Rail). q.var) side.2)
    at (inr h) rest = let v = rest h in (v.0, inr v.1, v.2)

pub rail-read : (b : Joined) (rails : List Rail) (l : ℕ × Bool) (x : Literal) → rail_literal b rails l ≡ Some x → (r : Rail) × Among r rails × (x.source ≡ read_of b.chips r.var)
rail-read b rails l x e = at (slice_get rails l.0) refl e
  where
    at : (o : Option Rail) → slice_get rails l.0 ≡ o → option_map (λ r. over_board b (literal_of r l.1)) o ≡ Some x → (r : Rail) × Among r rails × (x.source ≡ read_of b.chips r.var)
    at None is k = cc
    at (Some r) is k = (r, among-get rails l.0 r is, ap (λ (y : Literal). y.source) (sym (same_Some (over_board b (literal_of r l.1)) x k)))

-- the products of a cover
own-cover : (b : Joined) (absorbed : List ℕ) (u : ℕ) (part : Part) (vars : List (Var × Bool)) (terms : List Product) → IsCone b absorbed (unit_part b u part).terms vars →
    ReadOwn (equations_of b) (cover_products b vars terms)
own-cover b absorbed u part vars terms cone lits a x ax =
    let term = among-map (filter_map (rail_literal b (all_rails vars))) lits terms a in
    let l = among-unfilter_map (rail_literal b (all_rails vars)) x term.0 (subst (Among x) term.2 ax) in
    let rail = rail-read b (all_rails vars) l.0 x l.2 in
    let w = rail-variable 0 vars rail.0 rail.1 in
    let named : Names b absorbed w.0.0 (unit_part b u part).terms = (cone.exact w.0.0).0 (map-among (λ (v : Var × Bool). v.0) w.0 vars w.1) in
    let own = over-named b absorbed w.0.0 (unit_part b u part).terms (over-part b u part) named in
    subst (IsOwn (equations_of b)) (sym (rail.2 ∙ ap (read_of b.chips) w.2)) own

own-covered : (b : Joined) (absorbed : List ℕ) (u : ℕ) (part : Part) (inverted : Bool) (products : Products) → IsCovered b absorbed (unit_part b u part) inverted (Some products) → ReadOwn (equations_of b) products
own-covered b absorbed u part inverted products c = at c.terms c.are
  where
    at : (o : Option (List Product)) → Some products ≡ option_map (cover_products b c.vars) o → ReadOwn (equations_of b) products
    at None e = cc
    at (Some terms) e = subst (ReadOwn (equations_of b)) (sym (same_Some products (cover_products b c.vars terms) e)) (own-cover b absorbed u part c.vars terms c.joined.cone)

own-by : (b : Joined) (absorbed : List ℕ) (u : ℕ) (part : Part) (reads : Bool) (products : Products) → IsControlBy reads b absorbed u part (Some products) → ReadOwn (equations_of b) products
own-by b absorbed u part true products c = own-covered b absorbed u part false products c
own-by b absorbed u part false products e = subst (ReadOwn (equations_of b)) (sym (same_Some products (old_products (equations_of b) u part) e)) (own-old (equations_of b) u part)

-- the products of a part behind Logic
pub own-control : (b : Joined) (absorbed : List ℕ) (u : ℕ) (part : Part) (products : Products) → IsControl b absorbed u part (Some products) → ReadOwn (equations_of b) products
own-control b absorbed u part products c = own-by b absorbed u part (reads_absorbed b absorbed u part) products c

own-offered : (b : Joined) (absorbed : List ℕ) (u : ℕ) (t : Try) (products : Products) → IsOffered b absorbed u t (Some products) → ReadOwn (equations_of b) products
own-offered b absorbed u Old products e = subst (ReadOwn (equations_of b)) (sym (same_Some products (old_products (equations_of b) u Logic) e)) (own-old (equations_of b) u Logic)
own-offered b absorbed u Direct products c = own-covered b absorbed u Logic false products c
own-offered b absorbed u Inverse products c = own-covered b absorbed u Logic true products c

-- a try that gives the form
pub form-fits : (b : Joined) (absorbed : List ℕ) (u : ℕ) (room : Room) (ts : List Try) (x : LogicForm) → FirstOf (Fits b absorbed u room) ts x → (t : Try) × Among t ts × Fits b absorbed u room t x
form-fits b absorbed u room [] x h = absurd h
form-fits b absorbed u room (t ∷ ts) x (inl fits) = (t, inl refl, fits)
form-fits b absorbed u room (t ∷ ts) x (inr rest) = let more = form-fits b absorbed u room ts x rest.1 in (more.0, inr more.1, more.2)

-- the terms of a form
pub own-form : (b : Joined) (absorbed : List ℕ) (u : ℕ) (room : Room) (x : LogicForm) → IsForm b absorbed u room x → ReadOwn (equations_of b) x.terms
own-form b absorbed u room x form = let f = form-fits b absorbed u room (tries b absorbed u room) x form in own-offered b absorbed u f.0 x.terms f.2.offered
