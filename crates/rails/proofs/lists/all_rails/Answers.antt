use Rattle.std.proofs.Common.{◌∙◌, ◌++◌, sym, ap, arith, length-take-le, take, get_or, false}
use Rattle.std.proofs.lemmas.List.{take_more, take_all}
use Rattle.mig_base.specs.declared.nets.Var.TheVariants.{Net}
use Rattle.rails.specs.Variables.{all_rails, rails_of}
use Rattle.rails.proofs.RailLemmas.{rails_push}
use Rattle.rails.proofs.lists.all_rails.Goals as goal

pub loop-i-preserved : goal.loop-i-preserved
loop-i-preserved c =
    let vs = c.args.vars.now in
    let i = c.loop-i.i in
    let w = get_or vs i (Net 0, false) in
    c.in_ok-push_rails.ensures ∙ ap (λ rs. rs ++ rails_of i w) c.loop-i.invariant
    ∙ ap (λ j. all_rails (take i vs) ++ rails_of j w) (omega (arith, length-take-le i vs (omega (arith, c.loop-i.auto.i-end))))
    ∙ sym (rails_push 0 (take i vs) w) ∙ sym (ap all_rails (take_more vs i (Net 0, false) c.loop-i-test.true))

pub returns : goal.returns
returns c = c.loop-i.invariant ∙ ap all_rails (take_all c.loop-i.i c.args.vars.now c.loop-i-test.false)
