use Rattle.std.proofs.Common.{◌≡◌, ◌≤◌, refl, sym, ◌∙◌, ap, subst, List, length, arith}
use Rattle.bdd.specs.Diagram.{function_of}
use Rattle.mig_base.specs.declared.nets.VarProduct.{VarProduct}
use Rattle.mig_base.proofs.ListLaws.{length-made_from}
use Rattle.board.specs.Joined.{equations_of}
use Rattle.joiner.specs.AbsorbedNets.{AreOver}
use Rattle.joiner.specs.Joined.{Inverted, unit_part}
use Rattle.joiner.specs.Marked.{needed_at}
use Rattle.joiner.proofs.AbsorbedLaws.{nets-needed}
use Rattle.joiner.proofs.NodesByRank.{ranks-in_order}
use Rattle.joiner.proofs.PartReads.{part-over}
use Rattle.joiner.proofs.JoinedLaws.{AreSteps, steps_made, refused_wide, names_absorbable, known_terms, joined_all, joined_value, cone_of_marks}
use Rattle.joiner.proofs.joined_with.Goals as goal

pub name_marks-requires : goal.name_marks-requires
name_marks-requires c = subst (AreOver c.args.board.now) (sym c.part_terms-terms.ensures) (part-over c.args.board.now c.args.unit c.args.part)

pub returns-in_err-check_width-clause-refused : goal.returns-in_err-check_width-clause-refused
returns-in_err-check_width-clause-refused c =
    let b = c.args.board.now in
    let nets = c.args.nets.now in
    refused_wide c.from_residual-in_err-check_width.result c.in_err-check_width.field-0.0 b nets (unit_part b c.args.unit c.args.part) c.in_ok-cone.cone.items c.len.result
    c.from_residual-in_err-check_width.ensures.1 (omega (arith, c.len.ensures))
    (λ absorbed table. cone_of_marks b absorbed nets c.in_ok-marks.marks c.part_terms-terms.result.now (unit_part b c.args.unit c.args.part).terms c.in_ok-cone.cone.items c.part_terms-terms.ensures table (c.in_ok-marks.ensures absorbed table.are table.may) c.in_ok-cone.ensures)
    c.in_err-check_width.ensures.many

pub new-requires-clause-rising : goal.new-requires-clause-rising
new-requires-clause-rising c =
    let table = c.requires.table.1 in
    let terms = c.part_terms-terms.result.now in
    (cone_of_marks c.args.board.now c.requires.table.0 c.args.nets.now c.in_ok-marks.marks terms terms c.in_ok-cone.cone.items refl table (c.in_ok-marks.ensures c.requires.table.0 table.are table.may) c.in_ok-cone.ensures).rising

pub joined_nets-requires-clause-order : goal.joined_nets-requires-clause-order
joined_nets-requires-clause-order c = ranks-in_order c.args.board.now c.by_rank-by_rank.result.now c.by_rank-by_rank.ensures

pub joined_nets-requires-clause-absorbable : goal.joined_nets-requires-clause-absorbable
joined_nets-requires-clause-absorbable c =
    let b = c.args.board.now in
    let absorbed = c.requires.table.0 in
    let table = c.requires.table.1 in
    names_absorbable b absorbed c.in_ok-marks.marks c.as_slice-2.result.now
    (nets-needed b absorbed c.in_ok-marks.marks c.args.nets.now c.as_slice-2.result.now table.are (c.as_slice-2.ensures.value ∙ c.in_ok-needed.ensures)) table.may

pub joined_nets-requires-clause-nets : goal.joined_nets-requires-clause-nets
joined_nets-requires-clause-nets c =
    ap length (c.as_slice-2.ensures.value ∙ c.in_ok-needed.ensures) ∙ length-made_from (needed_at c.args.nets.now c.in_ok-marks.marks) 0 (length (equations_of c.args.board.now).nets)

pub inverted_sum-requires-clause-known : goal.inverted_sum-requires-clause-known
inverted_sum-requires-clause-known c =
    let b = c.args.board.now in
    let absorbed = c.requires.table.0 in
    let table = c.requires.table.1 in
    let terms = c.part_terms-terms.result.now in
    let marks = c.in_ok-marks.marks in
    let names = c.in_ok-marks.ensures absorbed table.are table.may in
    let steps : AreSteps b absorbed c.args.nets.now c.as_slice-2.result.now marks terms c.in_ok-cone.cone.items =
    steps_made b absorbed c.args.nets.now c.as_slice-2.result.now marks terms c.in_ok-cone.cone.items table names (c.as_slice-2.ensures.value ∙ c.in_ok-needed.ensures) c.in_ok-cone.ensures in
    known_terms b absorbed c.args.nets.now c.as_slice-2.result.now marks terms c.in_ok-cone.cone.items c.in_ok-rails.rails.vars c.joined_nets.new.rails.vars c.in_ok-pairs.pairs.items c.as_slice-4.result.now
    steps c.in_ok-rails.ensures.vars c.in_ok-pairs.ensures.vars c.as_slice-4.ensures.value
    (c.in_ok-pairs.ensures.every absorbed marks steps.few_nets table.may names.behind)

pub returns-clause-joined : goal.returns-clause-joined
returns-clause-joined c = λ absorbed table.
    let b = c.args.board.now in
    let nets = c.args.nets.now in
    let sum = unit_part b c.args.unit c.args.part in
    let made : Inverted = record { terms = c.part_terms-terms.result.now; low = c.is_inverted-low.result } in
    let marks = c.in_ok-marks.marks in
    let needed = c.as_slice-2.result.now in
    let cone = c.in_ok-cone.cone.items in
    let steps : AreSteps b absorbed nets needed marks c.part_terms-terms.result.now cone =
    steps_made b absorbed nets needed marks c.part_terms-terms.result.now cone table (c.in_ok-marks.ensures absorbed table.are table.may) (c.as_slice-2.ensures.value ∙ c.in_ok-needed.ensures) c.in_ok-cone.ensures in
    let by = ranks-in_order b c.by_rank-by_rank.result.now c.by_rank-by_rank.ensures in
    let same : made ≡ sum = (λ i. record { terms = c.part_terms-terms.ensures i; low = c.is_inverted-low.ensures i }) in
    let few : length cone ≤ 32 = omega (arith, c.in_ok-check_width.ensures.few, c.len.ensures) in
    joined_all b absorbed nets needed needed marks by.0 sum made cone c.in_ok-rails.rails.vars c.joined_nets.new.rails.vars c.inverted_sum.new.rails.vars
    c.joined_nets.new.rails.graph c.inverted_sum.new.rails.graph c.in_ok-pairs.pairs.items c.as_slice-4.result.now c.in_ok-f.f
    (subst (λ (ts : List VarProduct). AreSteps b absorbed nets needed marks ts cone) c.part_terms-terms.ensures steps) by.1 few
    c.in_ok-rails.ensures.vars c.in_ok-pairs.ensures.vars c.in_ok-f.ensures.vars refl c.as_slice-4.ensures.value same
    c.in_ok-f.ensures.keeps c.in_ok-pairs.ensures.proper c.in_ok-pairs.ensures.read c.in_ok-f.ensures.sum

pub returns-clause-value : goal.returns-clause-value
returns-clause-value c = λ absorbed table.
    joined_value c.args.board.now absorbed (unit_part c.args.board.now c.args.unit c.args.part) c.inverted_sum.new.rails.vars (function_of c.inverted_sum.new.rails.graph c.in_ok-f.f) (returns-clause-joined c absorbed table)
