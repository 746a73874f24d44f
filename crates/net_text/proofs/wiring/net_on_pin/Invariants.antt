use Rattle.std.proofs.Common.{◌≡◌, drop}
use Rattle.mig_base.specs.BoardText.{net_at, net_names}
use Rattle.net_text.specs.Statements.{all_says}
use Rattle.net_text.proofs.wiring.net_on_pin.Given as goal

abbrev pub invariant-loop-line : goal.invariant-loop-line
invariant-loop-line l = net_at (all_says (drop l.line-index l.lines)) (net_names l.nets) l.chip l.pin ≡ net_at (all_says l.lines) (net_names l.nets) l.chip l.pin
