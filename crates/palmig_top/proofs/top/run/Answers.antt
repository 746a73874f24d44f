use Rattle.std.proofs.Common.{map, subst, sym, refl}
use Rattle.std.specs.Prelude.{Result}
use Rattle.answers.specs.declared.exit.Exit.{Exit}
use Rattle.answers.specs.declared.words.Command.{Command}
use Rattle.answers.specs.Commands.{command_or_refusal}
use Rattle.verdicts.specs.Answer.{Call}
use Rattle.verdicts.specs.Clauses.{Keeps}
use Rattle.palmig_top.proofs.Ending.{keeps-said}
use Rattle.palmig_top.proofs.top.run.Goals as goal

pub returns-in-Ok : goal.returns-in-Ok
returns-in-Ok g c =
    let call : Result Command Exit → Call = λ said. record {
      said = said;
      held = g.F.Files.held c.args.files.now;
      after = g.F.Files.held c.perform.new.files;
      before = g.F.Files.counts c.args.files.now;
      now = g.F.Files.counts c.perform.new.files;
      sent = g.O.Sink.sent c.args.out.now;
      sent_after = g.O.Sink.sent c.perform.new.out;
      faults = g.O.Sink.faults c.args.out.now;
      faults_after = g.O.Sink.faults c.perform.new.out;
    } in
    let done = subst (λ (said : Result Command Exit). Keeps (call said) c.perform.result) (sym c.in-Ok.ensures) c.perform.ensures in
    record { verdict = done.verdict; faults = done.faults; files = done.files; report = done.report; headline = done.headline }

pub returns-in-Err : goal.returns-in-Err
returns-in-Err g c =
    let call : Call = record {
      said = command_or_refusal (map (λ w. w.now) c.args.words.now);
      held = g.F.Files.held c.args.files.now;
      after = g.F.Files.held c.args.files.now;
      before = g.F.Files.counts c.args.files.now;
      now = g.F.Files.counts c.args.files.now;
      sent = g.O.Sink.sent c.args.out.now;
      sent_after = g.O.Sink.sent c.tell.new.out;
      faults = g.O.Sink.faults c.args.out.now;
      faults_after = g.O.Sink.faults c.tell.new.out;
    } in
    let done = keeps-said call c.in-Err.e c.tell.result c.in-Err.ensures refl refl c.tell.ensures in
    record { verdict = done.verdict; faults = done.faults; files = done.files; report = done.report; headline = done.headline }
