use Rattle.std.proofs.Common.{ℕ, List, subst, Ok, Err, map}
use Rattle.palmig_top.specs.declared.saves.NewFile.{NewFile}
use Rattle.palmig_top.specs.Saving.{SavesAll, file_of}
use Rattle.palmig_top.specs.Concluding.{Sink, Puts}
use Rattle.palmig_top.proofs.concluding.finish.Goals as goal

pub returns-in-Ok : goal.returns-in-Ok
returns-in-Ok g c =
    let held = g.F.Files.held c.args.files.now in
    let after = g.F.Files.held c.save_all.new.files in
    let out : Sink = record { sent = g.O.Sink.sent c.args.out.now; after = g.O.Sink.sent c.put_text.new.out; faults = g.O.Sink.faults c.args.out.now; faults_after = g.O.Sink.faults c.put_text.new.out } in
    record {
      saved = Ok tt;
      saves = subst (λ (fs : List NewFile). SavesAll (map file_of fs) held after (g.F.Files.counts c.args.files.now) (g.F.Files.counts c.save_all.new.files) (Ok tt)) c.items.ensures c.in-Ok.ensures.held;
      later = c.in-Ok.ensures.later;
      put = subst (λ (text : List ℕ). Puts c.args.prepared.answer text out c.put_text.result) c.deref.ensures.value c.put_text.ensures;
    }

pub returns-in-Err : goal.returns-in-Err
returns-in-Err g c =
    let held = g.F.Files.held c.args.files.now in
    let after = g.F.Files.held c.save_all.new.files in
    record {
      saved = Err c.in-Err.e;
      saves = subst (λ (fs : List NewFile). SavesAll (map file_of fs) held after (g.F.Files.counts c.args.files.now) (g.F.Files.counts c.save_all.new.files) (Err c.in-Err.e)) c.items.ensures c.in-Err.ensures.held;
      later = c.in-Err.ensures.later;
      put = c.tell.ensures;
    }
