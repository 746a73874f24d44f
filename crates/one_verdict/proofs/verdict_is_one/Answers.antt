use Rattle.one_verdict.proofs.OneOutcome.{one-verdict}
use Rattle.one_verdict.proofs.verdict_is_one.Goals as goal

pub returns : goal.returns
returns c = one-verdict
