use Rattle.std.proofs.Common.{arith, ◌≤◌, ◌∙◌, ap, sym, length}
use Rattle.mig_base.specs.FuseText.{fuses_of_text}
use Rattle.jed_write.proofs.FuseCount.{few-fuses}
use Rattle.palmig_top.proofs.loads.chip_in.Goals as goal

pub cells-requires : goal.cells-requires
cells-requires c =
    let few : length c.in-Ok.fuses.bits ≤ 8192 = few-fuses c.args.file.bytes.items c.in-Ok.fuses.bits (ap fuses_of_text (sym c.deref.ensures.value) ∙ c.in-Ok.ensures) in
    omega arith
