use Rattle.std.proofs.Common.{◌≡◌, ◌∙◌, sym, ap, map, List, ℕ, Some}
use Rattle.mig_base.specs.BoardText.{place_named}
use Rattle.text_lines.proofs.Judging.{where-ok}
use Rattle.sim_run.proofs.Tables.{left-next, table-next}
use Rattle.sim_run.proofs.naming.slots.Goals as goal

pub loop-port-preserved : goal.loop-port-preserved
loop-port-preserved c =
    let names = map (λ w. w.now) c.args.names.now in
    let placed : place_named c.port-item.result.name names ≡ Some c.in-Some.place =
    ap (λ (n : List ℕ). place_named n names) (sym c.bytes.ensures) ∙ sym c.place.ensures ∙ c.in-Some.is in
    record {
      left = left-next names c.args.ports.now c.loop-port.port-index c.port-item.result c.in-Some.place _ c.loop-port-test.true c.port-item.is placed c.loop-port.invariant.left;
      table = table-next names c.args.ports.now c.loop-port.port-index c.port-item.result c.in-Some.place c.loop-port.slots.items _ c.loop-port-test.true c.port-item.is placed
          (where-ok c.keep.result _ (sym c.if-is_err.ensures.value) c.keep.ensures) c.loop-port.invariant.table;
    }
