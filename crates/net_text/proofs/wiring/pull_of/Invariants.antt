use Rattle.std.proofs.Common.{◌≡◌, drop}
use Rattle.mig_base.specs.BoardText.{pull_in}
use Rattle.net_text.specs.Statements.{all_says}
use Rattle.net_text.proofs.wiring.pull_of.Given as goal

abbrev pub invariant-loop-line : goal.invariant-loop-line
invariant-loop-line l = pull_in (all_says (drop l.line-index l.lines)) l.net ≡ pull_in (all_says l.lines) l.net
