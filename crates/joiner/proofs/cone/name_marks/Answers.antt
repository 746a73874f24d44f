use Rattle.std.proofs.Common.{ℕ, ◌∙◌, length, ap}
use Rattle.board.specs.Joined.{equations_of}
use Rattle.joiner.specs.declared.marks.Marks.{Marks}
use Rattle.joiner.specs.Marked.{after_variables, no_marks, vars_in, with_vars}
use Rattle.joiner.proofs.Passing.{marks-named}
use Rattle.joiner.proofs.NodesByRank.{after-nodes, ranks-in_order}
use Rattle.joiner.proofs.cone.name_marks.Goals as goal

pub returns : goal.returns
returns c = λ absorbed are may.
    let b = c.args.board.now in
    let terms = c.args.terms.now in
    let began = c.add_terms.ensures ∙ ap (λ (m : Marks). with_vars m (vars_in terms))
    (c.in_ok-marks.ensures ∙ ap (λ (n : ℕ). no_marks n (length c.units.result.now)) c.nets.ensures ∙ ap (no_marks (length (equations_of b).nets)) c.units.ensures.all) in
    let by = ranks-in_order b c.by_rank.result.now c.by_rank.ensures in
    let ended = c.mark_all.ensures ∙ ap (after_variables b c.args.nets.now c.add_terms.new.self) by.2 ∙ after-nodes b c.args.nets.now c.add_terms.new.self by.0 in
    marks-named b absorbed c.args.nets.now terms c.add_terms.new.self c.mark_all.new.marks by.0 by.1 c.requires began ended are may
