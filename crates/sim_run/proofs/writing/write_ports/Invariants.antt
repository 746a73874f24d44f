use Rattle.std.proofs.Common.{◌≡◌, ◌++◌, take, string_bytes}
use Rattle.std.specs.Prelude.{codes}
use Rattle.std.specs.List.{flat_map}
use Rattle.sim_run.proofs.WrittenSteps.{port_text}
use Rattle.sim_run.proofs.writing.write_ports.Given as goal

abbrev pub invariant-loop-line : goal.invariant-loop-line
invariant-loop-line l = string_bytes l.text ≡ string_bytes l.fn.text ++ (codes "ports" ++ flat_map port_text (take l.line-index l.nets))
