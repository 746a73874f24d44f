-- Boards that pass the checks are accepted, and have few nets.
use Rattle.std.proofs.Common.{ℕ, suc, ◌≡◌, ◌<◌, ◌≤◌, ◌+◌, ◌^◌, Bool, true, false, not, ◌&&◌, List, [], ◌∷◌, map, length, Option, Some, None, refl, ap, arith, length-append}
use Rattle.std.specs.Prelude.{slice_get, ◌==◌}
use Rattle.std.proofs.lemmas.Bool.{eqb-true}
use Rattle.std.proofs.lemmas.List.{length-map}
use Rattle.mig_base.specs.declared.circuit.Circuit.{Circuit}
use Rattle.mig_base.specs.declared.circuit.NetKind.{NetKind}
use Rattle.mig_base.specs.declared.circuit.Wire.{Wire}
use Rattle.mig_base.specs.declared.cells.ChipCells.{ChipCells}
use Rattle.mig_base.specs.declared.nets.Net.{Net}
use Rattle.mig_base.specs.declared.nets.Pull.{Pull}
use Rattle.mig_base.specs.declared.nets.Pull.TheVariants.{Free}
use Rattle.mig_base.specs.declared.circuit.NetKind.TheVariants.{Inner}
use Rattle.mig_base.specs.Accepted.{IsAccepted, is_fixed}
use Rattle.mig_base.specs.Boards.{At, ChipUnit, circuit, kinds_from, kinds_of, privates, units_from, wires_from}
use Rattle.mig_base.proofs.PlaceLaws.{length-kinds_from}
use Rattle.equations.proofs.PrivatePins.{privates-few}
use Rattle.ranks.specs.declared.Ranks.{Ranks}
use Rattle.ranks.specs.RankEquations.{rank_in}
use Rattle.ranks.proofs.RankLaws.{ranks-ranked}
use Rattle.ranks.proofs.NoLoops.{no-loop}
use Rattle.board.specs.Built.{IsPassed}
use Rattle.board.specs.Refusals.{is_derived, is_driven_input, is_input}
use Rattle.board.proofs.ListSteps.{none-passes}

not-false : (b : Bool) → not b ≡ false → b ≡ true
not-false true e = refl
not-false false e = cc

undriven : (f : Bool) (drivers : List ℕ) → f ≡ true → (f && not (length drivers == 0)) ≡ false → drivers ≡ []
undriven true [] e h = refl
undriven true (d ∷ ds) e h = let none : length (d ∷ ds) ≡ 0 = eqb-true (length (d ∷ ds)) 0 (not-false (length (d ∷ ds) == 0) h) in absurd (omega arith)
undriven false ds e h = cc

fixed-clock : (o : Option Wire) → not (is_input o) ≡ false → (w : Wire) × (o ≡ Some w) × (is_fixed w.kind ≡ true)
fixed-clock None e = cc
fixed-clock (Some w) e = (w, refl, not-false (is_fixed w.kind) e)

pub passed-accepted : (c : Circuit) (r : Ranks) → IsPassed c r → IsAccepted c
passed-accepted c r p = record {
  driven = λ n w is fixed. undriven (is_fixed w.kind) w.drivers fixed (none-passes is_driven_input c.nets n w p.driven is);
  clocks = λ k reg is. fixed-clock (slice_get c.nets reg.clock) (none-passes (is_derived c) c.registers k reg p.derived is);
  no_loop = no-loop c (rank_in r) (r.top + 1) (ranks-ranked c r p.ranks);
}

length-wires : (net : Net) (units : List ChipUnit) (n : ℕ) (ks : List (NetKind × Pull)) → length (wires_from net units n ks) ≡ length ks
length-wires net units n [] = refl
length-wires net units n (k ∷ ks) = ap suc (length-wires net units (n + 1) ks)

pub nets-few : (net : Net) (chips : List ChipCells) → length net.nets ≤ 1024 → length net.chips ≤ 64 → length (circuit net chips).nets < 2 ^ 32
nets-few net chips h k =
    let private : At → NetKind × Pull = λ q. (Inner, Free) in
    let wires : length (circuit net chips).nets ≡ length (kinds_of net) = length-wires net (units_from 0 chips) 0 (kinds_of net) in
    omega (arith, wires, length-append (kinds_from 0 net.nets) (map private (privates net)), length-kinds_from 0 net.nets, length-map (privates net) private, privates-few net)

pub equations-few : (net : Net) (chips : List ChipCells) (c : Circuit) → c ≡ circuit net chips → length net.nets ≤ 1024 → length net.chips ≤ 64 → length c.nets < 2 ^ 32
equations-few net chips c e h k = let few = nets-few net chips h k in omega (arith, ap (λ (d : Circuit). length d.nets) e, few)
