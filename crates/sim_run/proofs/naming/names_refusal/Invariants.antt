use Rattle.std.proofs.Common.{◌≡◌, take, drop, map, []}
use Rattle.mig_base.specs.First.{first_refusal}
use Rattle.sim_run.specs.ScriptText.{name_refusal}
use Rattle.sim_run.proofs.naming.names_refusal.Given as goal

abbrev pub invariant-loop-i : goal.invariant-loop-i
invariant-loop-i l = first_refusal (name_refusal l.ports l.n) (map (λ w. w.now) (take l.i l.names)) (map (λ w. w.now) (drop l.i l.names)) ≡ first_refusal (name_refusal l.ports l.n) [] (map (λ w. w.now) l.names)
