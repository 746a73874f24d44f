use Rattle.std.proofs.Common.{◌∙◌, ap}
use Rattle.level_laws.specs.SameBehaviour.{port_names}
use Rattle.matchings.specs.ByPort.{handed_names}
use Rattle.trials.proofs.HandedOver.{placed-as}
use Rattle.trials.proofs.pairing.pairing_of.Goals as goal

pub returns : goal.returns
returns c =
    let a = c.args.a.now in
    let b = c.args.b.now in
    record {
      wiring = c.net.ensures.given.wiring;
      accepted_a = c.circuit.ensures.accepted;
      accepted_b = c.circuit-2.ensures.accepted;
      inputs = placed-as c.as_slice.result.now c.as_slice-2.result.now (handed_names b.net) (handed_names a.net) c.new.result c.in_ok-inputs.inputs.items c.new.ensures c.in_ok-inputs.ensures
          (c.as_slice.ensures.value ∙ c.in_ok-handed_b.ensures ∙ ap handed_names c.net-2.ensures.net) (c.as_slice-2.ensures.value ∙ c.in_ok-handed_a.ensures ∙ ap handed_names c.net.ensures.net);
      shows = placed-as c.as_slice-3.result.now c.as_slice-4.result.now (port_names a.net) (port_names b.net) c.new-2.result c.in_ok-shows.shows.items c.new-2.ensures c.in_ok-shows.ensures
          (c.as_slice-3.ensures.value ∙ c.in_ok-ports_a.ensures ∙ ap port_names c.net-3.ensures.net) (c.as_slice-4.ensures.value ∙ c.in_ok-ports_b.ensures ∙ ap port_names c.net-4.ensures.net);
    }
