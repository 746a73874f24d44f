use Rattle.std.proofs.Common.{◌∙◌, ap, ℕ}
use Rattle.sim_run.specs.ScriptText.{port_on}
use Rattle.sim_run.proofs.Tables.{ports-more, ports-done}
use Rattle.sim_run.proofs.handed.handed_ports.Goals as goal

pub loop-k-preserved : goal.loop-k-preserved
loop-k-preserved c =
    ports-more c.items-nets.result.now c.loop-k.k c.index-nets-k.result c.handed_port.result c.loop-k.ports.items c.keep.new.items.items _ c.loop-k-test.true c.index-nets-k.is
    (c.handed_port.ensures ∙ ap (λ (n : ℕ). port_on n c.index-nets-k.result) c.in-Ok.ensures.1) c.in_ok-keep.ensures c.loop-k.invariant

pub returns : goal.returns
returns c = ports-done c.items-nets.result.now c.loop-k.k c.loop-k.ports.items _ c.loop-k-test.false c.loop-k.invariant
