use Rattle.std.proofs.Common.{sym, subst, List, Bool}
use Rattle.bdd.specs.Diagram.{function_of}
use Rattle.mig_base.specs.declared.nets.Var.{Var}
use Rattle.rails.specs.Variables.{all_rails}
use Rattle.rails.specs.Points.{inverse, Is, IsMonotone}
use Rattle.joiner.specs.Pairs.{IsPairOf}
use Rattle.joiner.proofs.PairLaws.{pairs_kept}
use Rattle.joiner.proofs.JoiningLaws.{reads_plain, reads_inverse, pair_either}
use Rattle.joiner.proofs.nets.pair_of_sum.Goals as goal

pub returns-clause-pair : goal.returns-clause-pair
returns-clause-pair c =
    let vars = c.args.rails.now.vars in
    let terms = c.args.terms.now in
    let pairs = c.args.pairs.now in
    let a = c.sum.new.rails.graph in
    let b = c.invert.new.self.graph in
    let plain = c.in_ok-plain.plain in
    let inverse_ref = c.in_ok-inverse.inverse in
    let proper = pairs_kept vars c.args.rails.now.graph a pairs c.in_ok-plain.ensures.keeps c.requires.pairs in
    let is : Is b (inverse (all_rails vars) (function_of a plain)) inverse_ref =
    subst (λ (vs : List (Var × Bool)). Is b (inverse (all_rails vs) (function_of a plain)) inverse_ref) c.in_ok-plain.ensures.vars c.in_ok-inverse.ensures.inverse in
    let monotone : IsMonotone (all_rails vars) (function_of b inverse_ref) =
    subst (λ (vs : List (Var × Bool)). IsMonotone (all_rails vs) (function_of b inverse_ref)) c.in_ok-plain.ensures.vars c.in_ok-inverse.ensures.monotone in
    subst (IsPairOf vars b pairs (record { terms = terms; low = c.args.low })) (sym c.pair_by.ensures)
    (pair_either vars b pairs terms c.args.low plain inverse_ref
    (reads_plain vars a b pairs c.in_ok-inverse.ensures.keeps proper terms plain c.in_ok-plain.ensures.sum)
    (reads_inverse vars a b pairs c.in_ok-inverse.ensures.keeps proper terms plain c.in_ok-plain.ensures.sum inverse_ref is monotone))
