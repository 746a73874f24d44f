-- Tables with an entry for each pin of each chip.
use Rattle.std.specs.Prelude.{ℕ, ◌≡◌, ◌<◌, ◌+◌, ◌*◌, List, length, Some, slice_get}
use Rattle.mig_base.specs.declared.circuit.NetKind.{NetKind}
use Rattle.mig_base.specs.declared.circuit.Wire.{Wire}
use Rattle.mig_base.specs.declared.nets.Pull.{Pull}
use Rattle.mig_base.specs.declared.nets.Net.{Net}
use Rattle.mig_base.specs.Boards.{At, place_of, privates}

-- each pin of these chips has the entry that f gives, 256 entries a chip
pub record IsTable {T : Type 0} (f : At → T) (chips : ℕ) (entries : List T) : Type 0 where
  pub size : length entries ≡ 256 * chips
  pub gives : (chip pin : ℕ) → chip < chips → pin < 256 → slice_get entries (256 * chip + pin) ≡ Some (f (chip, pin))

-- the pins with a private net, and a table of their nets
pub record NumbersPrivates (net : Net) (unwired : List At) (numbers : List ℕ) : Type 0 where
  pub unwired_are : unwired ≡ privates net
  pub numbers_are : IsTable (λ q. 2 + length net.nets + place_of q (privates net)) (length net.chips) numbers

-- a net of this kind and pull with these drivers
abbrev pub wire_of : (NetKind × Pull) × List ℕ → Wire
wire_of w = record { kind = w.0.0; pull = w.0.1; drivers = w.1 }
