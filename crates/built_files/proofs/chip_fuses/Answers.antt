use Rattle.std.proofs.Common.{Bool, List, ◌≡◌, sym, subst}
use Rattle.std.specs.Prelude.{IfOk}
use Rattle.built_files.proofs.GalFuses.{fuses-v8}
use Rattle.built_files.proofs.chip_fuses.Goals as goal

pub returns-then-is_v8-clause-written : goal.returns-then-is_v8-clause-written
returns-then-is_v8-clause-written c =
    subst (λ (bits : List Bool). IfOk c.fuses_of.result (λ fuses. fuses.bits ≡ bits)) (sym (fuses-v8 c.args.cells.now (sym c.if-is_v8.ensures))) c.fuses_of.ensures.written
