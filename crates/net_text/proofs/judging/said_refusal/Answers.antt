use Rattle.std.proofs.Common.{ap, ◌∙◌, sym, List, ℕ}
use Rattle.mig_base.specs.declared.nets.NetLine.{NetLine}
use Rattle.mig_base.specs.BoardText as spec
use Rattle.net_text.specs.declared.says.Said.{Said}
use Rattle.net_text.specs.Statements.{says_of, all_says}
use Rattle.net_text.proofs.judging.said_refusal.Goals as goal

pub returns-in-Pull : goal.returns-in-Pull
returns-in-Pull c =
    let n = c.args.line.now.n in
    let before = all_says c.args.before.now in
    c.pull_refusal.ensures ∙ ap (λ (nets : List NetLine). spec.pull_refusal n before nets c.bytes-in-Pull.result.now) c.requires.nets_said
    ∙ ap (λ (net : List ℕ). spec.pull_refusal n before (spec.nets_in before) net) c.bytes-in-Pull.ensures
    ∙ ap (λ (s : Said). spec.said_refusal n before (says_of s)) (sym c.in-Pull.is)
