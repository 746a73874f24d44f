use Rattle.std.proofs.Common.{ℕ, ◌≡◌, ◌<◌, ◌++◌, [], length, drop}
use Rattle.std.proofs.Math.ListN.{get_or}
use Rattle.mig_base.specs.Boards.{drives, places_from}
use Rattle.equations.proofs.numbers.Numbers.drivers_by_net.Given as goal

abbrev pub invariant-loop-number : goal.invariant-loop-number
invariant-loop-number l = record {
  size : length l.lists ≡ l.nets;
  drivers : (n : ℕ) → n < l.nets →
      get_or l.lists n [] ++ places_from (drives l.self.nets.now l.self.units.now n) l.number (drop l.number l.self.units.now) ≡ places_from (drives l.self.nets.now l.self.units.now n) 0 l.self.units.now;
}
