use Rattle.std.proofs.Common.{◌<◌, length, ap, ◌∙◌}
use Rattle.std.proofs.lemmas.List.Elements.{All-same}
use Rattle.mig_base.specs.Boards.{At, privates}
use Rattle.board.proofs.UnitLaws.{privates-within}
use Rattle.board.proofs.names.net_names.Goals as goal

pub push_private-requires : goal.push_private-requires
push_private-requires c =
    let net = c.args.net.now in
    All-same (λ (q : At). q.0 < length net.chips) c.privates.result.now (privates net) (c.privates.ensures ∙ ap privates c.requires) (privates-within net)
