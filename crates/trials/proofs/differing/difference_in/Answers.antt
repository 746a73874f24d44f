use Rattle.std.proofs.Common.{◌<◌, ◌∙◌, List, length, Option, Some, ap, refl, sym, subst, ℕ}
use Rattle.std.specs.Prelude.{MatchOption}
use Rattle.mig_base.specs.declared.circuit.Circuit.{Circuit}
use Rattle.trials.specs.Differences.{inputs_of}
use Rattle.trials.specs.Stepping.{IsFirstOver, NoneOver}
use Rattle.trials.specs.declared.differing.Uneven.{Uneven}
use Rattle.trials.proofs.FirstOnes.{difference-made, differs-port}
use Rattle.trials.proofs.differing.difference_in.Goals as goal

pub returns-in_default : goal.returns-in_default
returns-in_default c =
    let a = c.args.a.now in
    let b = c.args.b.now in
    let inputs = inputs_of c.in_ok-script.script in
    record {
      first = subst (NoneOver a b) c.in_ok-script.ensures.script (subst (λ (o : Option Uneven). MatchOption o (NoneOver a b inputs) (IsFirstOver a b inputs)) c.in_default.is c.in_ok-uneven.ensures.first);
    }

pub port_at-requires : goal.port_at-requires
port_at-requires c =
    let a = c.args.a.now in
    let b = c.args.b.now in
    let inputs = inputs_of c.in_ok-script.script in
    let u = c.in-Some.uneven in
    let f : IsFirstOver a b inputs u = subst (λ (o : Option Uneven). MatchOption o (NoneOver a b inputs) (IsFirstOver a b inputs)) c.in-Some.is c.in_ok-uneven.ensures.first in
    subst (λ (ps : List ℕ). u.place < length ps) (sym (c.items-ports.ensures ∙ ap (λ (e : Circuit). e.ports) c.circuit.ensures.circuit))
    (differs-port a b inputs u.step u.place (Some u.left) (Some u.right) f.differs)

pub returns : goal.returns
returns c =
    let a = c.args.a.now in
    let b = c.args.b.now in
    let inputs = inputs_of c.in_ok-script.script in
    let u = c.in-Some.uneven in
    let f : IsFirstOver a b inputs u = subst (λ (o : Option Uneven). MatchOption o (NoneOver a b inputs) (IsFirstOver a b inputs)) c.in-Some.is c.in_ok-uneven.ensures.first in
    record {
      first = difference-made a b c.args.k inputs u c.items-ports.result.now (record { script = c.in_ok-script-2.script; port = c.port_at.result; left = u.left; right = u.right }) c.in_ok-script.ensures.script f
          (c.items-ports.ensures ∙ ap (λ (e : Circuit). e.ports) c.circuit.ensures.circuit) c.port_at.ensures c.in_ok-script-2.ensures.script refl refl;
    }
