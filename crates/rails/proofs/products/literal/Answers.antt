use Rattle.std.proofs.Common.{◌≡◌, ◌<◌, ◌∙◌, sym, arith, length, get_or, true, false}
use Rattle.std.proofs.lemmas.Result.{IfOk-weaker}
use Rattle.mig_base.specs.declared.nets.Var.TheVariants.{Net}
use Rattle.rails.specs.declared.Side.TheVariants.{Pure}
use Rattle.rails.specs.declared.Rail.{Rail}
use Rattle.rails.specs.Points.{carries}
use Rattle.rails.proofs.ProductLemmas.{passed, found, carried_on, not_past}
use Rattle.rails.proofs.products.literal.Goals as goal
use Rattle.rails.proofs.products.literal.Goals.{In-loop-place}
use Rattle.bdd.proofs.GraphLemmas.{keeps_trans}

abbrev first : Rail
first = record { var = Net 0; variable = 0; side = Pure }

within : (c : In-loop-place) → c.loop-place.place < length c.args.rails.now
within c = omega (arith, c.requires.fit, c.vars-place-end.ensures.vars, c.loop-place-test.true)

pub read_off-requires : goal.read_off-requires
read_off-requires c = omega (arith, c.loop-place.invariant.keeps.vars, c.vars-place-end.ensures.vars, c.loop-place-test.true)

pub loop-place-preserved : goal.loop-place-preserved
loop-place-preserved c =
    let l = within (goal.at.loop-place-preserved c).In-loop-place in
    let rails = c.args.rails.now in
    let n = c.loop-place.place in
    let e : carries c.args.lit (get_or rails n first) ≡ false = sym c.if-carries.ensures in
    record {
      keeps = c.loop-place.invariant.keeps;
      canonical = c.loop-place.invariant.canonical;
      passed = λ p. c.loop-place.invariant.passed p ∙ passed rails c.args.lit n first l e p;
      rest = carried_on rails c.args.lit n first l e c.loop-place.invariant.rest;
    }

pub returns-then-carries-clause-keeps : goal.returns-then-carries-clause-keeps
returns-then-carries-clause-keeps c = keeps_trans c.args.graph.now c.loop-place.graph c.read_off.new.graph c.loop-place.invariant.keeps c.read_off.ensures.keeps

pub returns-then-carries-clause-literal : goal.returns-then-carries-clause-literal
returns-then-carries-clause-literal c =
    let l = within (goal.at.returns-then-carries-clause-literal c).In-loop-place in
    let rails = c.args.rails.now in
    let n = c.loop-place.place in
    let e : carries c.args.lit (get_or rails n first) ≡ true = sym c.carries.ensures ∙ c.if-carries.true in
    IfOk-weaker c.read_off.result _ _
    (λ r is. record { valid = is.valid; means = λ p. is.means p ∙ sym (c.loop-place.invariant.passed p ∙ found rails c.args.lit n first l e p) })
    c.read_off.ensures.literal

pub unreachable-requires : goal.unreachable-requires
unreachable-requires c =
    not_past c.args.rails.now c.args.lit c.loop-place.place
    (omega (arith, c.requires.fit, c.vars-place-end.ensures.vars, c.loop-place-test.false, c.loop-place.auto.place-end)) c.loop-place.invariant.rest
