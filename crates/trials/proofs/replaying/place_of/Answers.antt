use Rattle.std.proofs.Common.{◌≤◌, length, arith}
use Rattle.trials.proofs.Replays.{among-place}
use Rattle.trials.proofs.replaying.place_of.Goals as goal

pub returns : goal.returns
returns c =
    let h = among-place c.args.port c.args.ports.now c.requires in
    let done : length c.args.ports.now ≤ c.loop-k.k = c.loop-k-test.false in
    absurd (c.loop-k.invariant h.0 (omega (arith, h.1)) h.2)
