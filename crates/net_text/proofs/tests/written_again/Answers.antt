use Rattle.net_text.proofs.BoardGiven.{given-writable}
use Rattle.net_text.proofs.tests.written_again.Goals as goal

pub write_net-requires : goal.write_net-requires
write_net-requires c = given-writable c.args.bytes.now c.in_ok-net.net c.in_ok-net.ensures
