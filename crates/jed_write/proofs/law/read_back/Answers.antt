use Rattle.jed_write.proofs.WrittenKinds.{written-read}
use Rattle.jed_write.proofs.law.read_back.Goals as goal

pub returns : goal.returns
returns c = written-read
