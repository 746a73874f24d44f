-- At settled levels each alias net has the level of its register or the complement, and no register shows Z.
use Rattle.std.proofs.Common.{ℕ, zero, suc, ◌≡◌, Bool, true, false, not, cond, List, [], ◌∷◌, map, Some, refl, sym, ap, ◌∙◌, subst}
use Rattle.std.specs.List.{slice_get}
use Rattle.mig_base.specs.declared.levels.Level.{Level}
use Rattle.mig_base.specs.declared.levels.Level.TheVariants.{Zero, One, Z, X}
use Rattle.mig_base.specs.declared.nets.Pull.{Pull}
use Rattle.mig_base.specs.declared.circuit.Read.TheVariants.{OfNet, OfRegister}
use Rattle.mig_base.specs.declared.circuit.Gate.{Gate}
use Rattle.mig_base.specs.declared.circuit.Gate.TheVariants.{Product}
use Rattle.mig_base.specs.declared.circuit.Gives.{Gives}
use Rattle.mig_base.specs.declared.circuit.Gives.TheVariants.{Visible}
use Rattle.mig_base.specs.declared.circuit.Driver.{Driver}
use Rattle.mig_base.specs.declared.circuit.Register.{Register}
use Rattle.mig_base.specs.declared.circuit.NetKind.{NetKind}
use Rattle.mig_base.specs.declared.circuit.NetKind.TheVariants.{Ground, Power, Handed, Shared, Inner}
use Rattle.mig_base.specs.declared.circuit.Wire.{Wire}
use Rattle.mig_base.specs.declared.circuit.Circuit.{Circuit}
use Rattle.mig_base.specs.declared.circuit.Levels.{Levels}
use Rattle.mig_base.specs.Levels.{read_level, not3, and3, level_at, or_x}
use Rattle.mig_base.specs.Resolve.{resolved}
use Rattle.mig_base.specs.Values.{source_level, literal_value, inverted, row_value}
use Rattle.mig_base.specs.Accepted.{is_fixed}
use Rattle.mig_base.specs.Structure.{is_shared, alias_of}
use Rattle.mig_base.proofs.Aliases.{alias-is, inner}
use Rattle.level_laws.specs.Settled.{IsSettled, gives_level, gated, drive_level, wire_level, level_by, visible_levels}
use Rattle.level_laws.proofs.Unique.{level_at-map}
use Rattle.new_board.proofs.Variables.{AliasesFit}

-- no Input port and no constant net has a driver
abbrev pub FixedFit : Circuit → Type 0
FixedFit c = (n : ℕ) (w : Wire) → slice_get c.nets n ≡ Some w → is_fixed w.kind ≡ true → w.drivers ≡ []

and-driven : (a b : Level) → not3 (not3 (and3 a b)) ≡ and3 a b
and-driven Zero b = refl
and-driven One Zero = refl
and-driven One One = refl
and-driven One Z = refl
and-driven One X = refl
and-driven Z Zero = refl
and-driven Z One = refl
and-driven Z Z = refl
and-driven Z X = refl
and-driven X Zero = refl
and-driven X One = refl
and-driven X Z = refl
and-driven X X = refl

visible-driven : (l : Levels) (rs : List Register) (ss : List Level) (k : ℕ) → not3 (not3 (level_at (visible_levels l rs ss) k)) ≡ level_at (visible_levels l rs ss) k
visible-driven l [] ss k = refl
visible-driven l (r ∷ rs) [] k = refl
visible-driven l (r ∷ rs) (s ∷ ss) zero = and-driven s (not3 (row_value l r.reset))
visible-driven l (r ∷ rs) (s ∷ ss) (suc k) = visible-driven l rs ss k

alias-level : (low : Bool) (pull : Pull) (v : Level) → not3 (not3 v) ≡ v → read_level (resolved pull (inverted low v ∷ [])) ≡ cond (not low) v (not3 v)
alias-level true pull Zero e = refl
alias-level true pull One e = refl
alias-level true pull X e = refl
alias-level true pull Z e = cc
alias-level false pull Zero e = refl
alias-level false pull One e = refl
alias-level false pull X e = refl
alias-level false pull Z e = cc

pub aliases-fit : (c : Circuit) (stored inputs : List Level) (l : Levels) → FixedFit c → IsSettled c stored inputs l → AliasesFit c l
aliases-fit c stored inputs l fixed sl = record { level = level; driven = driven }
  where
    driven_at : (k : ℕ) → not3 (not3 (level_at l.visible k)) ≡ level_at l.visible k
    driven_at k = subst (λ (vs : List Level). not3 (not3 (level_at vs k)) ≡ level_at vs k) (sym sl.visible) (visible-driven l c.registers stored k)

    driven : (k : ℕ) → not3 (not3 (level_at l.visible k)) ≡ level_at l.visible k
    driven k = driven_at k

    level : (n : ℕ) (a : ℕ × Bool) → alias_of c n ≡ Some a → source_level l (OfNet n) ≡ literal_value l (record { source = OfRegister a.0; high = a.1 })
    level n a e =
        let i = alias-is c n a e in
        let kind : i.wire.kind ≡ Inner = inner i.wire.kind i.private (λ f. let none : i.unit ∷ [] ≡ [] = sym i.only ∙ fixed n i.wire i.found f in cc) in
        let drive : level_at l.drives i.unit ≡ inverted i.driver.low (level_at l.visible a.0) =
        ap (λ (ds : List Level). level_at ds i.unit) sl.drives ∙ level_at-map (drive_level l) c.units i.unit ∙ ap (or_x (drive_level l)) i.unit_is
        ∙ ap (λ (g : Gate). gated (row_value l g) (inverted i.driver.low (gives_level l i.driver.gives))) i.alias.enable
        ∙ ap (λ (g : Gives). inverted i.driver.low (gives_level l g)) i.alias.gives in
        ap (λ (ns : List Level). read_level (level_at ns n)) sl.nets
        ∙ ap read_level (level_at-map (wire_level inputs l) c.nets n ∙ ap (or_x (wire_level inputs l)) i.found
        ∙ ap (λ (k : NetKind). level_by inputs k i.wire.pull (map (level_at l.drives) i.wire.drivers)) kind
        ∙ ap (λ (ds : List ℕ). resolved i.wire.pull (map (level_at l.drives) ds)) i.only
        ∙ ap (λ (x : Level). resolved i.wire.pull (x ∷ [])) drive)
        ∙ alias-level i.driver.low i.wire.pull (level_at l.visible a.0) (driven_at a.0)
        ∙ ap (λ (q : Bool). cond q (level_at l.visible a.0) (not3 (level_at l.visible a.0))) (sym i.alias.level)
