-- Settled levels with pure nodes at 0 or 1 fit each other, as literals read them.
use Rattle.std.proofs.Common.{ℕ, zero, suc, ◌≡◌, ◌≢◌, Bool, true, false, not, cond, List, [], ◌∷◌, map, Option, Some, None, refl, sym, ap, ◌∙◌, subst, inl}
use Rattle.std.specs.List.{slice_get}
use Rattle.std.proofs.lemmas.Bool.{and_parts}
use Rattle.std.proofs.lemmas.Option.{same_Some}
use Rattle.mig_base.specs.declared.levels.Level.{Level}
use Rattle.mig_base.specs.declared.levels.Level.TheVariants.{Zero, One, Z, X}
use Rattle.mig_base.specs.declared.nets.Pull.{Pull}
use Rattle.mig_base.specs.declared.circuit.Read.{Read}
use Rattle.mig_base.specs.declared.circuit.Read.TheVariants.{OfNet, OfRegister}
use Rattle.mig_base.specs.declared.circuit.Literal.{Literal}
use Rattle.mig_base.specs.declared.circuit.Gate.{Gate}
use Rattle.mig_base.specs.declared.circuit.Gate.TheVariants.{Never, Product}
use Rattle.mig_base.specs.declared.circuit.Gives.{Gives}
use Rattle.mig_base.specs.declared.circuit.Gives.TheVariants.{Sum, Visible}
use Rattle.mig_base.specs.declared.circuit.Driver.{Driver}
use Rattle.mig_base.specs.declared.circuit.Register.{Register}
use Rattle.mig_base.specs.declared.circuit.NetKind.{NetKind}
use Rattle.mig_base.specs.declared.circuit.NetKind.TheVariants.{Ground, Power, Inner}
use Rattle.mig_base.specs.declared.circuit.Wire.{Wire}
use Rattle.mig_base.specs.declared.circuit.Circuit.{Circuit}
use Rattle.mig_base.specs.declared.circuit.Levels.{Levels}
use Rattle.mig_base.specs.Accepted.{IsAccepted}
use Rattle.mig_base.specs.Among.{Among}
use Rattle.mig_base.specs.Levels.{read_level, not3, and3, level_at, or_x}
use Rattle.mig_base.specs.Resolve.{resolved}
use Rattle.mig_base.specs.Structure.{is_shared, alias_of}
use Rattle.mig_base.specs.Values.{source_level, inverted, row_value}
use Rattle.mig_base.proofs.Aliases.{alias-is, inner}
use Rattle.mig_base.proofs.LevelFacts.{reads-known, or-known}
use Rattle.structure.specs.Absorbable.{IsAbsorbable, AbsorbsAt, is_plain, is_sum}
use Rattle.structure.specs.Live.{DrivesWire}
use Rattle.structure.specs.Pure.{IsPure, is_always}
use Rattle.level_laws.specs.PureLevels.{HasPureLevels}
use Rattle.level_laws.specs.SameBehaviour.{IsBit}
use Rattle.level_laws.specs.Settled.{IsSettled, gated, wire_level, level_by, visible_levels}
use Rattle.level_laws.proofs.ClockLevels.{net-settled}
use Rattle.level_laws.proofs.PureBits.{read-bit}
use Rattle.fitting_levels.specs.NodeValues.{NodeLevels, literal_by, product_by, terms_by, gate_by, gives_by, logic_by, drive_by, logic_at}
use Rattle.fitting_levels.specs.Fitting.{IsAbsorbed, AreFitting, net_kind, wire_kind}
use Rattle.fitting_levels.specs.Wired.{IsWired}
use Rattle.fitting_levels.proofs.ByLevels.{drive_at-by}

-- what is no Z

pub and-known : (a b : Level) → and3 a b ≢ Z
and-known Zero b = λ e. cc
and-known One Zero = λ e. cc
and-known One One = λ e. cc
and-known One Z = λ e. cc
and-known One X = λ e. cc
and-known Z Zero = λ e. cc
and-known Z One = λ e. cc
and-known Z Z = λ e. cc
and-known Z X = λ e. cc
and-known X Zero = λ e. cc
and-known X One = λ e. cc
and-known X Z = λ e. cc
and-known X X = λ e. cc

inverted-known : (low : Bool) (a : Level) → a ≢ Z → inverted low a ≢ Z
inverted-known true Zero h = λ e. cc
inverted-known true One h = λ e. cc
inverted-known true Z h = absurd (h refl)
inverted-known true X h = λ e. cc
inverted-known false a h = h

terms-known : (f : NodeLevels) (ts : List (List Literal)) → terms_by f ts ≢ Z
terms-known f [] = λ e. cc
terms-known f (t ∷ ts) = or-known (product_by f t) (terms_by f ts)

visible-known : (l : Levels) (rs : List Register) (ss : List Level) (k : ℕ) → level_at (visible_levels l rs ss) k ≢ Z
visible-known l [] ss k = λ e. cc
visible-known l (r ∷ rs) [] k = λ e. cc
visible-known l (r ∷ rs) (s ∷ ss) zero = and-known s (not3 (row_value l r.reset))
visible-known l (r ∷ rs) (s ∷ ss) (suc k) = visible-known l rs ss k

one-driver : (pull : Pull) (a : Level) → a ≢ Z → read_level (resolved pull (a ∷ [])) ≡ a
one-driver pull Zero h = refl
one-driver pull One h = refl
one-driver pull Z h = absurd (h refl)
one-driver pull X h = refl

low-literal : (low : Bool) (v : Level) → inverted low v ≡ cond (not low) v (not3 v)
low-literal true v = refl
low-literal false v = refl

-- a unit that is always enabled
pub record IsAlways (d : Driver) : Type 0 where
  pub enable : d.enable ≡ Product []

always-is : (d : Driver) → is_always d.enable ≡ true → IsAlways d
always-is d e = at d.enable refl e
  where
    at : (g : Gate) → d.enable ≡ g → is_always g ≡ true → IsAlways d
    at Never is e = cc
    at (Product []) is e = record { enable = is }
    at (Product (x ∷ xs)) is e = cc

always-drive : (f : NodeLevels) (d : Driver) → IsAlways d → drive_by f d ≡ logic_by f d
always-drive f d a = ap (λ (g : Gate). gated (gate_by f g) (logic_by f d)) a.enable

-- a net that is no Both port and has one driver
pub record HasOneDriver (c : Circuit) (n u : ℕ) (d : Driver) : Type 0 where
  pub wire : Wire
  pub found : slice_get c.nets n ≡ Some wire
  pub private : is_shared wire.kind ≡ false
  pub only : wire.drivers ≡ u ∷ []
  pub unit : slice_get c.units u ≡ Some d

module _ (c : Circuit) (absorbed : List ℕ) (stored inputs : List Level) (l : Levels) (accepted : IsAccepted c) (wired : IsWired c)
    (may : (u : ℕ) → Among u absorbed → IsAbsorbable c u) (settled : IsSettled c stored inputs l) where
  abbrev f : NodeLevels
  f = source_level l

  driven-kind : (n u : ℕ) (d : Driver) (o : HasOneDriver c n u d) → o.wire.kind ≡ Inner
  driven-kind n u d o = inner o.wire.kind o.private (λ e. let none : u ∷ [] ≡ [] = sym o.only ∙ accepted.driven n o.wire o.found e in cc)

  -- what a net with one such driver is read as
  one-level : (n u : ℕ) (d : Driver) → HasOneDriver c n u d → IsAlways d → logic_by f d ≢ Z → f (OfNet n) ≡ logic_by f d
  one-level n u d o always driven =
      let drive : level_at l.drives u ≡ logic_by f d = drive_at-by c l u settled.drives ∙ ap (or_x (drive_by f)) o.unit ∙ always-drive f d always in
      ap read_level (net-settled c stored inputs l settled n o.wire o.found
      ∙ ap (λ (k : NetKind). level_by inputs k o.wire.pull (map (level_at l.drives) o.wire.drivers)) (driven-kind n u d o)
      ∙ ap (λ (us : List ℕ). resolved o.wire.pull (map (level_at l.drives) us)) o.only
      ∙ ap (λ (a : Level). resolved o.wire.pull (a ∷ [])) drive)
      ∙ one-driver o.wire.pull (logic_by f d) driven

  register-driven : (k : ℕ) → level_at l.visible k ≢ Z
  register-driven k = subst (λ (vs : List Level). level_at vs k ≢ Z) (sym settled.visible) (visible-known l c.registers stored k)

  driven : (v : Read) → f v ≢ Z
  driven (OfNet n) = reads-known (level_at l.nets n)
  driven (OfRegister k) = register-driven k

  constant : (kind : NetKind) (level : Level) (n : ℕ) → net_kind c n ≡ Some kind → ((w : Wire) → w.kind ≡ kind → read_level (wire_level inputs l w) ≡ level) → f (OfNet n) ≡ level
  constant kind level n e by = at (slice_get c.nets n) refl e
    where
      at : (o : Option Wire) → slice_get c.nets n ≡ o → wire_kind o ≡ Some kind → f (OfNet n) ≡ level
      at None is e = cc
      at (Some w) is e = ap read_level (net-settled c stored inputs l settled n w is) ∙ by w (same_Some w.kind kind e)

  ground : (n : ℕ) → net_kind c n ≡ Some Ground → f (OfNet n) ≡ Zero
  ground n e = constant Ground Zero n e (λ w is. ap (λ (k : NetKind). read_level (level_by inputs k w.pull (map (level_at l.drives) w.drivers))) is)

  power : (n : ℕ) → net_kind c n ≡ Some Power → f (OfNet n) ≡ One
  power n e = constant Power One n e (λ w is. ap (λ (k : NetKind). read_level (level_by inputs k w.pull (map (level_at l.drives) w.drivers))) is)

  bits : HasPureLevels c l → (v : Read) → IsPure c v → IsBit (f v)
  bits pure (OfNet n) p = read-bit (level_at l.nets n) (pure (OfNet n) p)
  bits pure (OfRegister k) p = pure (OfRegister k) p

  gives-driven : (g : Gives) → gives_by f g ≢ Z
  gives-driven (Sum ts) = terms-known f ts
  gives-driven (Visible k) = register-driven k

  logic-driven : (d : Driver) → logic_by f d ≢ Z
  logic-driven d = inverted-known d.low (gives_by f d.gives) (gives-driven d.gives)

  aliases : (n : ℕ) (x : ℕ × Bool) → alias_of c n ≡ Some x → f (OfNet n) ≡ literal_by f (record { source = OfRegister x.0; high = x.1 })
  aliases n x e =
      let i = alias-is c n x e in
      one-level n i.unit i.driver (record { wire = i.wire; found = i.found; private = i.private; only = i.only; unit = i.unit_is }) (record { enable = i.alias.enable }) (logic-driven i.driver)
      ∙ ap (λ (g : Gives). inverted i.driver.low (gives_by f g)) i.alias.gives
      ∙ low-literal i.driver.low (level_at l.visible x.0)
      ∙ ap (λ (q : Bool). cond q (level_at l.visible x.0) (not3 (level_at l.visible x.0))) (sym i.alias.level)

  -- the driver of an absorbed net
  absorbed-one : (n u : ℕ) → IsAbsorbed c absorbed n u → (d : Driver) × HasOneDriver c n u d × IsAlways d
  absorbed-one n u a = by (may u a.listed)
    where
      drives : DrivesWire u (slice_get c.nets n)
      drives = subst (DrivesWire u) (sym a.on) (subst (Among u) (sym a.alone) (inl refl))

      unshared : (m : ℕ) → AbsorbsAt c m u → n ≡ m → (q : Bool) → is_shared a.wire.kind ≡ q → q ≡ false
      unshared m s e true is = absurd (s.no_port (subst (λ (j : ℕ). Among j c.ports) e (wired.shared n a.wire a.on is)))
      unshared m s e false is = refl

      plain : (m : ℕ) → AbsorbsAt c m u → n ≡ m → (o : Option Driver) → slice_get c.units u ≡ o → is_plain o ≡ true → (d : Driver) × HasOneDriver c n u d × IsAlways d
      plain m s e None is p = cc
      plain m s e (Some d) is p = (
        d,
        record { wire = a.wire; found = a.on; private = unshared m s e (is_shared a.wire.kind) refl; only = a.alone; unit = is },
        always-is d (and_parts (is_always d.enable) (is_sum d.gives) p).0,
      )

      by : IsAbsorbable c u → (d : Driver) × HasOneDriver c n u d × IsAlways d
      by (m, s) =
          let here : DrivesWire u (slice_get c.nets m) = subst (DrivesWire u) (sym s.on) (subst (Among u) (sym s.alone) (inl refl)) in
          plain m s (wired.one_net n m u drives here) (slice_get c.units u) refl s.plain

  absorbs : (n u : ℕ) → IsAbsorbed c absorbed n u → f (OfNet n) ≡ logic_at c f u
  absorbs n u a =
      let i = absorbed-one n u a in
      one-level n u i.0 i.1 i.2 (logic-driven i.0) ∙ sym (ap (or_x (logic_by f)) i.1.unit)

  pub settled-fit : HasPureLevels c l → AreFitting c absorbed f
  settled-fit pure = record { driven = driven; ground = ground; power = power; pure = bits pure; aliases = aliases; absorbs = absorbs }
