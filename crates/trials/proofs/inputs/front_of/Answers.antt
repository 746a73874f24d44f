use Rattle.sim_run.proofs.LawfulScripts.{script-inputs}
use Rattle.trials.proofs.TrialLaws.{front-made, front-writable}
use Rattle.trials.proofs.inputs.front_of.Goals as goal

pub returns-clause-writable : goal.returns-clause-writable
returns-clause-writable c =
    front-writable c.args.a.now.net c.args.k c.args.count (record { steps = c.new.result }) c.net.ensures.given.wiring c.requires
    (front-made c.args.a.now.net c.net.result.now c.args.k c.args.count c.new.result c.in_ok-steps.steps.items c.in_ok-ports.ports.items c.as_slice.result.now c.new.ensures c.in_ok-steps.ensures c.as_slice.ensures.value
    c.in_ok-ports.ensures c.net.ensures.net)

pub returns-clause-lawful : goal.returns-clause-lawful
returns-clause-lawful c = script-inputs c.args.a.now.net c.args.a.now.chips (record { steps = c.new.result }) (returns-clause-writable c)
