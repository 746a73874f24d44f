use Rattle.std.proofs.Common.{◌<◌, ◌+◌, length, get_or, refl, sym, ap, ◌∙◌, subst}
use Rattle.mig_base.specs.declared.nets.Net.{Net}
use Rattle.board.specs.Joined.{equations_of}
use Rattle.matchings.specs.Clocks.{clock_name}
use Rattle.reckoning.proofs.Kept.{keeps_trans}
use Rattle.signs.specs.Signs.{AreSignsOf}
use Rattle.signs.proofs.Lent.{lent-known, lent-register, lent-there, lent-triple, within-registers}
use Rattle.signs.proofs.NamedLaws.{no_three}
use Rattle.signs.proofs.SignLists.{clock-known, no-signs, signs-more}
use Rattle.signs.proofs.registers.signs_of.Goals as goal

pub loop-k-init : goal.loop-k-init
loop-k-init c = record {
  keeps = record { vars = refl; valid = λ f l. l; tree = λ f l. refl };
  canonical = c.vars-count.ensures.canonical;
  made = subst (AreSignsOf c.args.graph.now c.args.graph.now c.args.b.now c.args.names.now c.args.ports.now c.args.triples.now 0) (sym c.new-signs.ensures.items)
      (no-signs c.args.graph.now c.args.b.now c.args.names.now c.args.ports.now c.args.triples.now);
}

pub sign_of-requires-clause-known : goal.sign_of-requires-clause-known
sign_of-requires-clause-known c =
    clock-known c.args.b.now.net c.args.names.now c.index-registers-k.result.clock c.clock_of-clock.result c.requires.known
    (c.clock_of-clock.ensures ∙ ap (λ (n : Net). clock_name n c.index-registers-k.result.clock) c.net-net.ensures.net)

pub sign_of-requires-clause-visible : goal.sign_of-requires-clause-visible
sign_of-requires-clause-visible c =
    let r = c.args.triples.now in
    lent-triple c.args.graph.now c.loop-k.graph r.visible c.items-visible.result.now c.loop-k.k c.loop-k.invariant.keeps c.requires.triples.visible c.items-visible.ensures
    (within-registers c.items-registers.result.now c.circuit.result.now (equations_of c.args.b.now) c.loop-k.k (length r.visible) c.items-registers.ensures c.circuit.ensures.circuit c.loop-k-test.true c.requires.triples.visible_count)

pub sign_of-requires-clause-next : goal.sign_of-requires-clause-next
sign_of-requires-clause-next c =
    let r = c.args.triples.now in
    lent-triple c.args.graph.now c.loop-k.graph r.next c.items-next.result.now c.loop-k.k c.loop-k.invariant.keeps c.requires.triples.next c.items-next.ensures
    (within-registers c.items-registers.result.now c.circuit.result.now (equations_of c.args.b.now) c.loop-k.k (length r.next) c.items-registers.ensures c.circuit.ensures.circuit c.loop-k-test.true c.requires.triples.next_count)

pub sign_of-requires-clause-visible_known : goal.sign_of-requires-clause-visible_known
sign_of-requires-clause-visible_known c =
    let r = c.args.triples.now in
    lent-known c.args.graph.now c.loop-k.graph r.visible c.items-visible.result.now c.loop-k.k (get_or c.items-visible.result.now c.loop-k.k no_three) c.loop-k.invariant.keeps c.requires.triples.visible_known c.items-visible.ensures
    (within-registers c.items-registers.result.now c.circuit.result.now (equations_of c.args.b.now) c.loop-k.k (length r.visible) c.items-registers.ensures c.circuit.ensures.circuit c.loop-k-test.true c.requires.triples.visible_count) refl

pub sign_of-requires-clause-next_known : goal.sign_of-requires-clause-next_known
sign_of-requires-clause-next_known c =
    let r = c.args.triples.now in
    lent-known c.args.graph.now c.loop-k.graph r.next c.items-next.result.now c.loop-k.k (get_or c.items-next.result.now c.loop-k.k no_three) c.loop-k.invariant.keeps c.requires.triples.next_known c.items-next.ensures
    (within-registers c.items-registers.result.now c.circuit.result.now (equations_of c.args.b.now) c.loop-k.k (length r.next) c.items-registers.ensures c.circuit.ensures.circuit c.loop-k-test.true c.requires.triples.next_count) refl

pub loop-k-preserved : goal.loop-k-preserved
loop-k-preserved c =
    let d = c.args.graph.now in
    let g = c.loop-k.graph in
    let e = c.sign_of.new.graph in
    let b = c.args.b.now in
    let r = c.args.triples.now in
    let k = c.loop-k.k in
    let seen : k < length r.visible =
    within-registers c.items-registers.result.now c.circuit.result.now (equations_of b) k (length r.visible) c.items-registers.ensures c.circuit.ensures.circuit c.loop-k-test.true c.requires.triples.visible_count in
    let taking : k < length r.next =
    within-registers c.items-registers.result.now c.circuit.result.now (equations_of b) k (length r.next) c.items-registers.ensures c.circuit.ensures.circuit c.loop-k-test.true c.requires.triples.next_count in
    record {
      keeps = keeps_trans d g e c.loop-k.invariant.keeps c.in_ok-sign.ensures.keeps;
      canonical = c.in_ok-sign.ensures.canonical;
      made = subst (AreSignsOf d e b c.args.names.now c.args.ports.now r (k + 1)) (sym c.in_ok-push.ensures.items)
          (signs-more d g e b c.args.names.now c.args.ports.now r k c.loop-k.signs.items c.in_ok-sign.sign (get_or c.items-visible.result.now k no_three) (get_or c.items-next.result.now k no_three)
          c.index-registers-k.result c.clock_of-clock.result (lent-there r.visible c.items-visible.result.now k c.items-visible.ensures seen) (lent-there r.next c.items-next.result.now k c.items-next.ensures taking)
          (lent-register c.items-registers.result.now c.circuit.result.now (equations_of b) k c.index-registers-k.result _ c.items-registers.ensures c.circuit.ensures.circuit c.loop-k-test.true c.index-registers-k.is)
          (c.clock_of-clock.ensures ∙ ap (λ (n : Net). clock_name n c.index-registers-k.result.clock) c.net-net.ensures.net) c.requires.triples c.requires.ports c.loop-k.invariant.keeps c.in_ok-sign.ensures.keeps
          c.loop-k.invariant.made c.in_ok-sign.ensures.valid c.in_ok-sign.ensures.says);
    }
