-- The level of a net in settled levels, and of a clock net.
use Rattle.std.proofs.Common.{ℕ, ◌≡◌, true, List, map, Some, refl, sym, ap, ◌∙◌}
use Rattle.std.specs.Prelude.{slice_get}
use Rattle.mig_base.specs.declared.levels.Level.{Level}
use Rattle.mig_base.specs.declared.circuit.NetKind.{NetKind}
use Rattle.mig_base.specs.declared.circuit.NetKind.TheVariants.{Ground, Power, Handed, Shared, Inner}
use Rattle.mig_base.specs.declared.circuit.Register.{Register}
use Rattle.mig_base.specs.declared.circuit.Wire.{Wire}
use Rattle.mig_base.specs.declared.circuit.Circuit.{Circuit}
use Rattle.mig_base.specs.declared.circuit.Levels.{Levels}
use Rattle.mig_base.specs.Accepted.{IsAccepted, is_fixed}
use Rattle.mig_base.specs.Levels.{level_at, or_x}
use Rattle.level_laws.specs.Settled.{IsSettled, level_by, wire_level}
use Rattle.level_laws.specs.Runs.{clock_by, clock_level}
use Rattle.level_laws.proofs.Unique.{level_at-map}

-- a net has the level that the drives make of it
pub net-settled : (c : Circuit) (stored inputs : List Level) (l : Levels) → IsSettled c stored inputs l → (n : ℕ) (w : Wire) → slice_get c.nets n ≡ Some w → level_at l.nets n ≡ wire_level inputs l w
net-settled c stored inputs l settled n w e =
    ap (λ (ns : List Level). level_at ns n) settled.nets ∙ level_at-map (wire_level inputs l) c.nets n ∙ ap (or_x (wire_level inputs l)) e

-- an Input port and a constant have the level that clocks take of them
fixed-level : (inputs : List Level) (w : Wire) (driven : List Level) → is_fixed w.kind ≡ true → level_by inputs w.kind w.pull driven ≡ clock_by inputs w.kind
fixed-level inputs w driven fixed = at w.kind fixed
  where
    at : (k : NetKind) → is_fixed k ≡ true → level_by inputs k w.pull driven ≡ clock_by inputs k
    at Ground e = refl
    at Power e = refl
    at (Handed j) e = refl
    at (Shared j) e = cc
    at Inner e = cc

-- a clock net has the level by which its registers are clocked
pub clock-settled : (c : Circuit) (stored inputs : List Level) (l : Levels) (k : ℕ) (r : Register) → IsAccepted c → IsSettled c stored inputs l → slice_get c.registers k ≡ Some r →
    level_at l.nets r.clock ≡ clock_level c inputs r.clock
clock-settled c stored inputs l k r accepted settled e =
    let net = accepted.clocks k r e in
    net-settled c stored inputs l settled r.clock net.0 net.1 ∙ fixed-level inputs net.0 (map (level_at l.drives) net.0.drivers) net.2
    ∙ sym (ap (or_x (λ (w : Wire). clock_by inputs w.kind)) net.1)
