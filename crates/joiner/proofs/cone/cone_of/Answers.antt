use Rattle.std.proofs.lemmas.Result.{IfOk-weaker}
use Rattle.std.proofs.Common.{filter}
use Rattle.joiner.specs.Marked.{all_vars, ArePaired, is_named}
use Rattle.joiner.proofs.ConeLaws.{marks-cone}
use Rattle.joiner.proofs.cone.cone_of.Goals as goal

pub returns : goal.returns
returns c =
    let b = c.args.board.now in
    let nets = c.args.nets.now in
    let marks = c.in_ok-marks.marks in
    IfOk-weaker c.marked_cone.result (λ pairs. ArePaired b (filter (is_named nets marks) (all_vars b)) pairs.items) _
    (λ pairs paired absorbed are may. marks-cone b absorbed nets c.args.terms.now marks pairs.items are (c.in_ok-marks.ensures absorbed are may) paired)
    c.marked_cone.ensures
