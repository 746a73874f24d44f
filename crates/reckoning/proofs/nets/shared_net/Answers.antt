use Rattle.std.proofs.Common.{ℕ, List, map, subst}
use Rattle.std.specs.Prelude.{slice_get}
use Rattle.std.specs.List.{flat_map}
use Rattle.std.proofs.lemmas.Result.{IfOk-weaker}
use Rattle.mig_base.specs.Levels.{resolve2}
use Rattle.mig_base.specs.Reads.{driver_reads, wire_reads}
use Rattle.settle.specs.Rules.{wired, drive_of}
use Rattle.reckoning.specs.Tables.{IsWiredOf}
use Rattle.reckoning.proofs.Kept.{table_kept}
use Rattle.reckoning.proofs.NetLaws.{shared-made}
use Rattle.reckoning.proofs.nets.shared_net.Goals as goal

pub wired_with-requires-clause-table : goal.wired_with-requires-clause-table
wired_with-requires-clause-table c = table_kept c.args.graph.now c.wired.new.graph c.args.table.now c.in_ok-start.ensures.keeps c.requires.table

pub returns-clause-net : goal.returns-clause-net
returns-clause-net c =
    IfOk-weaker c.pulled.result _ _
    (λ r is. shared-made c.args.graph.now c.wired.new.graph c.wired_with.new.graph c.pulled.new.graph c.args.table.now c.args.wire.now.pull (wire_reads c.args.circuit.now c.args.wire.now)
    (λ l. wired (map (drive_of c.args.circuit.now l) c.args.wire.now.drivers)) c.floating-nothing.result c.args.handed c.in_ok-start.start c.in_ok-all.all r c.requires.table c.in_ok-start.ensures.keeps
    c.floating-nothing.ensures.allows c.in_ok-start.ensures.wired
    (subst (λ (us : List ℕ). IsWiredOf c.wired.new.graph c.wired_with.new.graph c.args.table.now c.in_ok-start.start (flat_map (λ u. driver_reads (slice_get c.args.circuit.now.units u)) us)
    (λ m x. resolve2 x (wired (map (drive_of c.args.circuit.now m) us))) c.in_ok-all.all) c.items.ensures c.in_ok-all.ensures.wired) is)
    c.pulled.ensures.pulled
