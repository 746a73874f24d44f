use Rattle.std.proofs.Common.{List, ◌++◌, length, refl, sym, ap, ◌∙◌, subst}
use Rattle.board.specs.Joined.{equations_of}
use Rattle.matchings.specs.ByPort.{handed_names}
use Rattle.signs.specs.Signs.{AreSigns}
use Rattle.signs.specs.declared.registers.Sign.{Sign}
use Rattle.signs.proofs.Lent.{known-own}
use Rattle.signs.proofs.NamedLaws.{known-lent}
use Rattle.signs.proofs.SignLaws.{signs-told}
use Rattle.signs.proofs.SignLists.{as-signs, signs-both}
use Rattle.signs.proofs.registers.both_signs.Goals as goal
use Rattle.signs.proofs.registers.both_signs.Goals.{In_ok-extend_from_slice}

pub signs_of-requires-clause-known : goal.signs_of-requires-clause-known
signs_of-requires-clause-known c = known-own c.args.a.now.net c.as_slice-names.result.now (c.as_slice-names.ensures.value ∙ c.in_ok-names.ensures ∙ ap handed_names c.net.ensures.net)

pub signs_of-requires-2-clause-known : goal.signs_of-requires-2-clause-known
signs_of-requires-2-clause-known c =
    known-lent c.args.a.now.net c.args.b.now.net c.as_slice-names.result.now (handed_names c.args.b.now.net) c.requires.same (c.as_slice-names.ensures.value ∙ c.in_ok-names.ensures ∙ ap handed_names c.net.ensures.net) refl

abbrev signs : (c : In_ok-extend_from_slice) → AreSigns c.args.a.now c.args.b.now c.args.leaves.now c.signs_of-2.new.graph c.extend_from_slice.new.self.items
signs c =
    let a = c.args.a.now in
    let b = c.args.b.now in
    let d = c.both_triples.new.graph in
    let e = c.signs_of.new.graph in
    let f = c.signs_of-2.new.graph in
    let t = c.in_ok-triples.triples in
    let xs = c.in_ok-signs.signs.items in
    let ys = c.in_ok-others.others.items in
    subst (AreSigns a b c.args.leaves.now f) (sym (c.in_ok-extend_from_slice.ensures.items ∙ ap (λ (us : List Sign). xs ++ us) c.as_slice.ensures.value))
    (signs-both a b c.args.leaves.now d e f t xs ys c.in_ok-signs.ensures.keeps c.in_ok-others.ensures.keeps c.in_ok-triples.ensures.settled
    (as-signs d e a c.as_slice-names.result.now (handed_names a.net) c.items-ports.result.now t.ports t.left (length (equations_of a).registers) xs
    (c.as_slice-names.ensures.value ∙ c.in_ok-names.ensures ∙ ap handed_names c.net.ensures.net) c.items-ports.ensures c.in_ok-signs.ensures.signs)
    (as-signs e f b c.as_slice-names.result.now (handed_names a.net) c.items-ports.result.now t.ports t.right (length (equations_of b).registers) ys
    (c.as_slice-names.ensures.value ∙ c.in_ok-names.ensures ∙ ap handed_names c.net.ensures.net) c.items-ports.ensures c.in_ok-others.ensures.signs))

pub returns-clause-signs : goal.returns-clause-signs
returns-clause-signs c = signs (goal.at.returns-clause-signs c).In_ok-extend_from_slice

pub returns-clause-told : goal.returns-clause-told
returns-clause-told c = λ classes bits are.
    signs-told c.args.a.now c.args.b.now classes bits c.args.leaves.now c.signs_of-2.new.graph c.extend_from_slice.new.self.items c.in_ok-signs.ensures.accepted c.in_ok-others.ensures.accepted are
    (signs (goal.at.returns-clause-told c).In_ok-extend_from_slice)
