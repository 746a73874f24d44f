use Rattle.std.proofs.Common.{◌∙◌, ap}
use Rattle.signs.specs.Signs.{waits}
use Rattle.signs.proofs.SignLists.{SignMade, sign-made}
use Rattle.signs.proofs.registers.sign_of.Goals as goal
use Rattle.signs.proofs.registers.sign_of.Goals.{In_ok-keep_zero}

abbrev made : (c : In_ok-keep_zero) → SignMade c.args.graph.now c.and-4.new.self c.args.visible c.args.next c.low_of-low.result
    (record { one = c.args.visible.one; zero = c.args.visible.zero; clock = c.args.clock; edge_one = c.in_ok-edge_one.edge_one; edge_zero = c.in_ok-edge_zero.edge_zero; keep_one = c.in_ok-keep_one.keep_one; keep_zero = c.in_ok-keep_zero.keep_zero })
made c =
    sign-made c.args.graph.now c.and.new.self c.and-2.new.self c.and-3.new.self c.and-4.new.self c.args.visible c.args.next c.low_of-low.result c.in_ok-edge_one.edge_one c.in_ok-edge_zero.edge_zero
    c.in_ok-keep_one.keep_one c.in_ok-keep_zero.keep_zero c.args.clock c.in_ok-edge_one.ensures.keeps c.in_ok-edge_zero.ensures.keeps c.in_ok-keep_one.ensures.keeps c.in_ok-keep_zero.ensures.keeps
    c.requires.visible c.requires.next c.requires.visible_known c.requires.next_known c.low_of-low.ensures.valid c.in_ok-edge_one.ensures.conjunction c.in_ok-edge_zero.ensures.conjunction
    c.in_ok-keep_one.ensures.conjunction c.in_ok-keep_zero.ensures.conjunction

pub returns-clause-valid : goal.returns-clause-valid
returns-clause-valid c = (made (goal.at.returns-clause-valid c).In_ok-keep_zero).valid

pub returns-clause-says : goal.returns-clause-says
returns-clause-says c = λ p h v named seen taking same. (made (goal.at.returns-clause-says c).In_ok-keep_zero).says p h v (c.low_of-low.ensures.says p h named ∙ ap (λ o. waits o h) same) seen taking same
