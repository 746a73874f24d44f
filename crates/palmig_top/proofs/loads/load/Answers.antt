use Rattle.std.proofs.Common.{arith}
use Rattle.palmig_top.proofs.Loading.{loaded-whole, loaded-long}
use Rattle.palmig_top.proofs.loads.load.Goals as goal

pub returns-then-len-most-clause-step :
    goal.returns-then-len-most-clause-step
returns-then-len-most-clause-step g c = record {
  same = c.load.ensures.held.same;
  later = c.load.ensures.causes.later;
  gives = loaded-whole (g.F.Files.held c.args.files.now) c.args.most c.args.name c.in-Ok.bytes.items c.in-Ok.ensures.held.bytes (omega arith);
}

pub returns-else-len-most-clause-step :
    goal.returns-else-len-most-clause-step
returns-else-len-most-clause-step g c = record {
  same = c.load.ensures.held.same;
  later = c.load.ensures.causes.later;
  gives = (tt, loaded-long (g.F.Files.held c.args.files.now) c.args.most c.args.name c.in-Ok.bytes.items c.in-Ok.ensures.held.bytes (omega arith));
}
