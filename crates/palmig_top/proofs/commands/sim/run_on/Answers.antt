use Rattle.std.proofs.Common.{List, subst, ap, ◌∙◌, Ok, Err}
use Rattle.mig_base.specs.declared.nets.NetLine.{NetLine}
use Rattle.mig_base.specs.declared.nets.Net.{Net}
use Rattle.answers.specs.Reports.{answer_report}
use Rattle.palmig_top.specs.Concluding.{Sink, Puts}
use Rattle.palmig_top.proofs.commands.sim.run_on.Goals as goal

pub returns-in-Ok : goal.returns-in-Ok
returns-in-Ok g c = record { script = Ok c.in-Ok.script; step = c.in-Ok.ensures.step; put = c.put_shows.ensures }

pub returns-in-Err : goal.returns-in-Err
returns-in-Err g c =
    let out : Sink = record { sent = g.O.Sink.sent c.args.out.now; after = g.O.Sink.sent c.tell.new.out; faults = g.O.Sink.faults c.args.out.now; faults_after = g.O.Sink.faults c.tell.new.out } in
    record {
      script = Err c.in-Err.e;
      step = c.in-Err.ensures.step;
      put = subst (λ (ns : List NetLine). Puts c.in-Err.e (answer_report ns c.in-Err.e) out c.tell.result) (c.items.ensures ∙ ap (λ (n : Net). n.nets) c.net.ensures.net) c.tell.ensures;
    }
