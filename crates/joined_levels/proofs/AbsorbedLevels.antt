-- In settled levels each absorbed net has the level that its unit gives.
use Rattle.std.proofs.Common.{ℕ, ◌≡◌, ◌≢◌, Bool, true, false, cond, List, [], ◌∷◌, map, Option, Some, None, refl, sym, ap, ◌∙◌, subst, inl}
use Rattle.std.specs.List.{slice_get}
use Rattle.std.proofs.lemmas.Bool.{and_parts}
use Rattle.mig_base.specs.declared.levels.Level.{Level}
use Rattle.mig_base.specs.declared.levels.Level.TheVariants.{Zero, One, Z, X}
use Rattle.mig_base.specs.declared.plans.Part.TheVariants.{Logic}
use Rattle.mig_base.specs.declared.nets.Var.TheVariants.{Net}
use Rattle.mig_base.specs.declared.nets.VarProduct.{VarProduct}
use Rattle.mig_base.specs.declared.circuit.Literal.{Literal}
use Rattle.mig_base.specs.declared.circuit.Gate.{Gate}
use Rattle.mig_base.specs.declared.circuit.Gate.TheVariants.{Never, Product}
use Rattle.mig_base.specs.declared.circuit.Gives.{Gives}
use Rattle.mig_base.specs.declared.circuit.Gives.TheVariants.{Sum, Visible}
use Rattle.mig_base.specs.declared.circuit.Driver.{Driver}
use Rattle.mig_base.specs.declared.circuit.NetKind.{NetKind}
use Rattle.mig_base.specs.declared.circuit.NetKind.TheVariants.{Inner}
use Rattle.mig_base.specs.declared.circuit.Circuit.{Circuit}
use Rattle.mig_base.specs.declared.circuit.Levels.{Levels}
use Rattle.mig_base.specs.Accepted.{IsAccepted}
use Rattle.mig_base.specs.Among.{Among}
use Rattle.mig_base.specs.Boards.{units_from}
use Rattle.mig_base.specs.Levels.{read_level, not3, level_at, or_x}
use Rattle.mig_base.specs.Resolve.{resolved}
use Rattle.mig_base.specs.Structure.{is_shared}
use Rattle.mig_base.specs.Values.{inverted, row_value, sum_value}
use Rattle.mig_base.proofs.Aliases.{inner}
use Rattle.structure.specs.Absorbable.{AbsorbsAt, is_plain, is_sum}
use Rattle.structure.specs.Live.{DrivesWire}
use Rattle.structure.specs.Products.{part_over}
use Rattle.structure.specs.Pure.{is_always}
use Rattle.board.specs.Joined.{Joined, equations_of}
use Rattle.board.specs.UnitLists.{register_units}
use Rattle.level_laws.specs.Settled.{IsSettled, gated, drive_level, gives_level, level_by}
use Rattle.level_laws.specs.VariableLevels.{terms_level}
use Rattle.level_laws.proofs.Unique.{level_at-map}
use Rattle.level_laws.proofs.ClockLevels.{net-settled}
use Rattle.read_nodes.specs.ReadsNodes.{ReadsNodes}
use Rattle.product_levels.specs.PartLevels.{logic_value, value_or_none, variable_level}
use Rattle.product_levels.proofs.ProductLevels.{part-level}
use Rattle.joiner.specs.AbsorbedNets.{AreAbsorbable}
use Rattle.joiner.specs.Joined.{IsAbsorbed, logic_low, unit_part, part_or_none}
use Rattle.joiner.specs.JoinedLevels.{inverted_level, LevelsAbsorbed}
use Rattle.joiner.proofs.LevelLaws.{inverted_driven}
use Rattle.joined_levels.proofs.Wirings.{one-net, shared-port}

one-driver : (pull : _) (a : Level) → a ≢ Z → read_level (resolved pull (a ∷ [])) ≡ a
one-driver pull Zero h = refl
one-driver pull One h = refl
one-driver pull Z h = absurd (h refl)
one-driver pull X h = refl

always-is : (g : Gate) → is_always g ≡ true → g ≡ Product []
always-is Never e = cc
always-is (Product []) e = refl
always-is (Product (x ∷ xs)) e = cc

low-level : (low : Bool) (a : Level) → inverted low a ≡ cond low (not3 a) a
low-level true a = refl
low-level false a = refl

-- an absorbable unit, by its number
record IsPlain (c : Circuit) (u : ℕ) : Type 0 where
  driver : Driver
  at : slice_get c.units u ≡ Some driver
  always : driver.enable ≡ Product []
  terms : List (List Literal)
  gives : driver.gives ≡ Sum terms

plain-is : (c : Circuit) (u : ℕ) → is_plain (slice_get c.units u) ≡ true → IsPlain c u
plain-is c u e = at (slice_get c.units u) refl e
  where
    sum : (d : Driver) → slice_get c.units u ≡ Some d → is_always d.enable ≡ true → (g : Gives) → d.gives ≡ g → is_sum g ≡ true → IsPlain c u
    sum d is always (Sum terms) gives e = record { driver = d; at = is; always = always-is d.enable always; terms = terms; gives = gives }
    sum d is always (Visible k) gives e = cc

    at : (o : Option Driver) → slice_get c.units u ≡ o → is_plain o ≡ true → IsPlain c u
    at None is e = cc
    at (Some d) is e = let parts = and_parts (is_always d.enable) (is_sum d.gives) e in sum d is parts.0 d.gives refl parts.1

module _ (b : Joined) (absorbed : List ℕ) (stored inputs : List Level) (l : Levels) (accepted : IsAccepted (equations_of b)) (reads : ReadsNodes (equations_of b))
    (may : AreAbsorbable b absorbed) (settled : IsSettled (equations_of b) stored inputs l) where
  abbrev c : Circuit
  c = equations_of b

  -- the net of an absorbed unit is an inner one
  net-kind : (n u m : ℕ) (a : IsAbsorbed b absorbed n u) → AbsorbsAt c m u → a.wire.kind ≡ Inner
  net-kind n u m a s = inner a.wire.kind (unshared (is_shared a.wire.kind) refl) (λ e. let none : u ∷ [] ≡ [] = sym a.alone ∙ accepted.driven n a.wire a.on e in cc)
    where
      here : DrivesWire u (slice_get c.nets n)
      here = subst (DrivesWire u) (sym a.on) (subst (Among u) (sym a.alone) (inl refl))

      there : DrivesWire u (slice_get c.nets m)
      there = subst (DrivesWire u) (sym s.on) (subst (Among u) (sym s.alone) (inl refl))

      unshared : (q : Bool) → is_shared a.wire.kind ≡ q → is_shared a.wire.kind ≡ false
      unshared true is =
          absurd (s.no_port (subst (λ (j : ℕ). Among j c.ports) (one-net b.net (units_from 0 b.chips) n m u here there) (shared-port b.net (units_from 0 b.chips) n a.wire a.on is)))
      unshared false is = is

  -- the drive of an absorbable unit
  drive : (u : ℕ) (p : IsPlain c u) → level_at l.drives u ≡ inverted p.driver.low (sum_value l p.terms)
  drive u p =
      ap (λ (ds : List Level). level_at ds u) settled.drives ∙ level_at-map (drive_level l) c.units u ∙ ap (or_x (drive_level l)) p.at
      ∙ ap (λ (g : Gate). gated (row_value l g) (inverted p.driver.low (gives_level l p.driver.gives))) p.always
      ∙ ap (λ (g : Gives). inverted p.driver.low (gives_level l g)) p.gives

  -- what the unit gives, by its products over variables
  given : (u : ℕ) (p : IsPlain c u) → inverted_level (variable_level b l) (unit_part b u Logic) ≡ inverted p.driver.low (sum_value l p.terms)
  given u p =
      ap (λ (o : Option Driver). inverted_level (variable_level b l) (part_or_none b Logic o)) p.at
      ∙ sym (low-level (low p.driver.gives) (terms_level (variable_level b l) (part_products_of (Some p.driver))))
      ∙ ap (inverted (low p.driver.gives))
      (ap (λ (o : Option Driver). terms_level (variable_level b l) (part_products_of o)) (sym p.at) ∙ part-level b stored inputs l accepted reads settled u Logic
      ∙ ap (value_or_none c l Logic) p.at ∙ ap (logic_value c l) p.gives)
      ∙ ap (λ (g : Gives). inverted (low g) (sum_value l p.terms)) p.gives
    where
      low : Gives → Bool
      low g = logic_low c g p.driver.low

      part_products_of : Option Driver → List VarProduct
      part_products_of o = part_over c (register_units b.chips) Logic o

  absorbed-level : (n u : ℕ) (a : IsAbsorbed b absorbed n u) → (m : ℕ) × AbsorbsAt c m u → variable_level b l (Net n) ≡ inverted_level (variable_level b l) (unit_part b u Logic)
  absorbed-level n u a (m, s) =
      let p = plain-is c u s.plain in
      let same = drive u p ∙ sym (given u p) in
      ap read_level (net-settled c stored inputs l settled n a.wire a.on
      ∙ ap (λ (k : NetKind). level_by inputs k a.wire.pull (map (level_at l.drives) a.wire.drivers)) (net-kind n u m a s)
      ∙ ap (λ (us : List ℕ). resolved a.wire.pull (map (level_at l.drives) us)) a.alone
      ∙ ap (λ (x : Level). resolved a.wire.pull (x ∷ [])) same)
      ∙ one-driver a.wire.pull (inverted_level (variable_level b l) (unit_part b u Logic)) (inverted_driven (variable_level b l) (unit_part b u Logic))

  pub levels-absorbed : LevelsAbsorbed b absorbed (variable_level b l)
  levels-absorbed = record { each = λ n u a. absorbed-level n u a (may u a.listed) }
