use Rattle.std.proofs.Common.{length, sym, ap, ◌∙◌}
use Rattle.mig_base.specs.declared.nets.Net.{Net}
use Rattle.board.proofs.GivenLaws.{given-small}
use Rattle.avail.proofs.old_board.Old.of_board.Goals as goal

pub new-requires-clause-chips : goal.new-requires-clause-chips
new-requires-clause-chips c =
    ap length c.chips.ensures ∙ (given-small c.args.board.now.net c.args.board.now.chips c.net.ensures.given).cells ∙ sym (ap (λ (n : Net). length n.chips) c.net.ensures.net)
