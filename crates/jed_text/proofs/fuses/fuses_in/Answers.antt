use Rattle.std.proofs.Common.{Bool, List, Result, subst, sym, ◌∙◌}
use Rattle.std.proofs.lemmas.Result.{err_from_is_err_and}
use Rattle.mig_base.specs.declared.jedec.JedError.{JedError}
use Rattle.mig_base.specs.FuseText.{loose_of, pieces}
use Rattle.jed_text.specs.Bodies.{statements_of}
use Rattle.jed_text.specs.ReadAnswer.{IsAnswer}
use Rattle.jed_text.proofs.FuseLemmas.{counted, misplaced, loose-refused, uncounted}
use Rattle.jed_text.proofs.OverallLemmas.{overall-ok, overall-err}
use Rattle.jed_text.proofs.fuses.fuses_in.Goals as goal

pub returns-in_err-overall : goal.returns-in_err-overall
returns-in_err-overall c =
    let p = err_from_is_err_and c.from_residual.result c.from_residual.ensures.1 in
    let fields = statements_of c.args.body in
    let loose = loose_of c.args.body.at (pieces c.args.body.text.now) in
    rw (p.1, p.2) (λ memory. misplaced fields loose c.in_err-overall.field-0.0 (overall-err fields c.in_err-overall.field-0.0 c.in_err-overall.ensures))

pub returns-in-Some : goal.returns-in-Some
returns-in-Some c = λ memory.
    let fields = statements_of c.args.body in
    loose-refused fields (loose_of c.args.body.at (pieces c.args.body.text.now)) c.in-Some.at (overall-ok fields c.in_ok-overall.overall c.in_ok-overall.ensures).placed (sym c.in-Some.ensures)

pub fuses_of_count-requires : goal.fuses_of_count-requires
fuses_of_count-requires c = (overall-ok (statements_of c.args.body) c.in_ok-overall.overall c.in_ok-overall.ensures).default

pub returns-in-Some-count : goal.returns-in-Some-count
returns-in-Some-count c =
    let fields = statements_of c.args.body in
    let loose = loose_of c.args.body.at (pieces c.args.body.text.now) in
    let overall = overall-ok fields c.in_ok-overall.overall c.in_ok-overall.ensures in
    let P : Result (List Bool) JedError → Type 0 = λ said. IsAnswer c.fuses_of_count.result said in
    subst P (sym (counted fields loose c.in-Some-count.count overall.placed (sym c.in_default.ensures) (sym overall.count ∙ c.in-Some-count.is))) c.fuses_of_count.ensures

pub returns-in-None : goal.returns-in-None
returns-in-None c = λ memory.
    let fields = statements_of c.args.body in
    let overall = overall-ok fields c.in_ok-overall.overall c.in_ok-overall.ensures in
    uncounted fields (loose_of c.args.body.at (pieces c.args.body.text.now)) overall.placed (sym c.in_default.ensures) (sym overall.count ∙ c.in-None.is)
