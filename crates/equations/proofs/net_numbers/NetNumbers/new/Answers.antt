use Rattle.std.proofs.Common.{arith, length, ap}
use Rattle.mig_base.specs.declared.nets.Net.{Net}
use Rattle.equations.proofs.PrivatePins.{privates-few}
use Rattle.equations.proofs.net_numbers.NetNumbers.new.Goals as goal

pub place_table-requires-clause-numbers : goal.place_table-requires-clause-numbers
place_table-requires-clause-numbers c =
    let few = privates-few c.in_ok-lines.lines in
    let lines = ap (λ (net : Net). length net.chips) c.in_ok-lines.ensures in
    omega (arith, c.requires.nets, c.requires.chips, ap length c.items.ensures, ap length c.as_slice.ensures.value, ap length c.in_ok-unwired.ensures)
