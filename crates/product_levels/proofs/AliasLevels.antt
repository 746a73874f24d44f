-- In settled levels a literal of an alias net has the value of that of its register.
use Rattle.std.proofs.Common.{ℕ, zero, suc, ◌≡◌, ◌≢◌, Bool, true, false, not, cond, List, [], ◌∷◌, map, Option, Some, None, refl, sym, ap, ◌∙◌, subst}
use Rattle.mig_base.specs.declared.levels.Level.{Level}
use Rattle.mig_base.specs.declared.levels.Level.TheVariants.{Zero, One, Z, X}
use Rattle.mig_base.specs.declared.nets.Pull.{Pull}
use Rattle.mig_base.specs.declared.circuit.Read.{Read}
use Rattle.mig_base.specs.declared.circuit.Read.TheVariants.{OfNet, OfRegister}
use Rattle.mig_base.specs.declared.circuit.Literal.{Literal}
use Rattle.mig_base.specs.declared.circuit.Gate.{Gate}
use Rattle.mig_base.specs.declared.circuit.Gives.{Gives}
use Rattle.mig_base.specs.declared.circuit.Register.{Register}
use Rattle.mig_base.specs.declared.circuit.NetKind.{NetKind}
use Rattle.mig_base.specs.declared.circuit.NetKind.TheVariants.{Inner}
use Rattle.mig_base.specs.declared.circuit.Circuit.{Circuit}
use Rattle.mig_base.specs.declared.circuit.Levels.{Levels}
use Rattle.mig_base.specs.Accepted.{IsAccepted}
use Rattle.mig_base.specs.Levels.{read_level, not3, level_at, or_x}
use Rattle.mig_base.specs.Resolve.{resolved}
use Rattle.mig_base.specs.Structure.{alias_of, or_alias, variable_by, variable_literal}
use Rattle.mig_base.specs.Values.{source_level, literal_value, inverted, row_value}
use Rattle.mig_base.proofs.Aliases.{alias-is, inner, IsAlias}
use Rattle.mig_base.proofs.LevelFacts.{inverted-twice, not3-twice}
use Rattle.level_laws.specs.Settled.{IsSettled, gated, drive_level, gives_level, level_by, visible_levels}
use Rattle.level_laws.proofs.Unique.{level_at-map}
use Rattle.level_laws.proofs.ClockLevels.{net-settled}
use Rattle.settle.proofs.LevelLaws.{and-known}

visible-known : (l : Levels) (rs : List Register) (ss : List Level) (k : ℕ) → level_at (visible_levels l rs ss) k ≢ Z
visible-known l [] ss k = λ e. cc
visible-known l (r ∷ rs) [] k = λ e. cc
visible-known l (r ∷ rs) (s ∷ ss) zero = and-known s (not3 (row_value l r.reset))
visible-known l (r ∷ rs) (s ∷ ss) (suc k) = visible-known l rs ss k

inverted-known : (low : Bool) (a : Level) → a ≢ Z → inverted low a ≢ Z
inverted-known true Zero h = λ e. cc
inverted-known true One h = λ e. cc
inverted-known true Z h = absurd (h refl)
inverted-known true X h = λ e. cc
inverted-known false a h = h

one-driver : (pull : Pull) (a : Level) → a ≢ Z → read_level (resolved pull (a ∷ [])) ≡ a
one-driver pull Zero h = refl
one-driver pull One h = refl
one-driver pull Z h = absurd (h refl)
one-driver pull X h = refl

low-literal : (low : Bool) (v : Level) → inverted low v ≡ cond (not low) v (not3 v)
low-literal true v = refl
low-literal false v = refl

module _ (c : Circuit) (stored inputs : List Level) (l : Levels) (accepted : IsAccepted c) (settled : IsSettled c stored inputs l) where
  pub register-known : (k : ℕ) → level_at l.visible k ≢ Z
  register-known k = subst (λ (vs : List Level). level_at vs k ≢ Z) (sym settled.visible) (visible-known l c.registers stored k)

  -- the drive of the unit of an alias net
  alias-drive : (n : ℕ) (a : ℕ × Bool) (i : IsAlias c n a) → level_at l.drives i.unit ≡ inverted i.driver.low (level_at l.visible a.0)
  alias-drive n a i =
      ap (λ (ds : List Level). level_at ds i.unit) settled.drives ∙ level_at-map (drive_level l) c.units i.unit ∙ ap (or_x (drive_level l)) i.unit_is
      ∙ ap (λ (g : Gate). gated (row_value l g) (inverted i.driver.low (gives_level l i.driver.gives))) i.alias.enable
      ∙ ap (λ (g : Gives). inverted i.driver.low (gives_level l g)) i.alias.gives

  alias-kind : (n : ℕ) (a : ℕ × Bool) (i : IsAlias c n a) → i.wire.kind ≡ Inner
  alias-kind n a i = inner i.wire.kind i.private (λ e. let none : i.unit ∷ [] ≡ [] = sym i.only ∙ accepted.driven n i.wire i.found e in cc)

  -- what is read of an alias net
  alias-level : (n : ℕ) (a : ℕ × Bool) → alias_of c n ≡ Some a → source_level l (OfNet n) ≡ cond a.1 (level_at l.visible a.0) (not3 (level_at l.visible a.0))
  alias-level n a e =
      let i = alias-is c n a e in
      let driven = inverted i.driver.low (level_at l.visible a.0) in
      ap read_level (net-settled c stored inputs l settled n i.wire i.found
      ∙ ap (λ (k : NetKind). level_by inputs k i.wire.pull (map (level_at l.drives) i.wire.drivers)) (alias-kind n a i)
      ∙ ap (λ (us : List ℕ). resolved i.wire.pull (map (level_at l.drives) us)) i.only
      ∙ ap (λ (x : Level). resolved i.wire.pull (x ∷ [])) (alias-drive n a i))
      ∙ one-driver i.wire.pull driven (inverted-known i.driver.low (level_at l.visible a.0) (register-known a.0))
      ∙ low-literal i.driver.low (level_at l.visible a.0)
      ∙ ap (λ (q : Bool). cond q (level_at l.visible a.0) (not3 (level_at l.visible a.0))) (sym i.alias.level)

  -- a literal has the value of that of its variable
  pub variable-value : (x : Literal) → literal_value l (variable_literal c x) ≡ literal_value l x
  variable-value x = by x.source refl
    where
      by_alias : (n : ℕ) (o : Option (ℕ × Bool)) → alias_of c n ≡ o → x.source ≡ OfNet n → literal_value l (or_alias o x) ≡ literal_value l x
      by_alias n None e is = refl
      by_alias n (Some a) e is =
          inverted-twice x.high a.1 (level_at l.visible a.0) (not3-twice (level_at l.visible a.0) (register-known a.0))
          ∙ ap (λ (s : Level). cond x.high s (not3 s)) (sym (alias-level n a e))
          ∙ ap (λ (s : Read). cond x.high (source_level l s) (not3 (source_level l s))) (sym is)

      by : (s : Read) → x.source ≡ s → literal_value l (variable_by c s x) ≡ literal_value l x
      by (OfNet n) is = by_alias n (alias_of c n) refl is
      by (OfRegister k) is = refl
