use Rattle.new_wirings.proofs.WrittenWiring.{wiring-writable}
use Rattle.new_wirings.proofs.laws.new_wirings_can_be_written.Goals as goal

pub returns : goal.returns
returns c = wiring-writable
