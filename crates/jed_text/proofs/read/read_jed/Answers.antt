use Rattle.std.proofs.Common.{Bool, List, Result, subst, ap, sym, ◌∙◌}
use Rattle.mig_base.specs.declared.jedec.JedError.{JedError}
use Rattle.jed_text.specs.ReadAnswer.{IsAnswer}
use Rattle.jed_text.proofs.SentLemmas.{fuses_sent, text-sent}
use Rattle.jed_text.proofs.read.read_jed.Goals as goal

pub returns : goal.returns
returns c =
    let P : Result (List Bool) JedError → Type 0 = λ said. IsAnswer c.fuses_sent.result said in
    subst P (sym (text-sent c.args.bytes.now ∙ ap fuses_sent c.in_ok-sent_in.ensures)) c.fuses_sent.ensures
