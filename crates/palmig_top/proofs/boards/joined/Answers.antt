use Rattle.palmig_top.proofs.HeldParts.{read-given}
use Rattle.palmig_top.proofs.boards.joined.Goals as goal

pub join-requires : goal.join-requires
join-requires c = read-given (record { net = c.args.net; chips = c.args.chips.items }) c.requires
