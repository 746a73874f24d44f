use Rattle.std.proofs.Common.{◌≡◌, ◌∙◌, ap, arith}
use Rattle.std.proofs.lemmas.Grind.{common_steps}
use Rattle.mig_base.specs.Cells.{cells_of}
use Rattle.mig_base.specs.Written22.{v22_fuses}
use Rattle.v22.proofs.V22Laws.{v22-again}
use Rattle.v22.proofs.fuses_of.Goals as goal

pub returns-clause-again : goal.returns-clause-again
returns-clause-again c =
    let written : c.new.result ≡ v22_fuses c.args.cells.now = grind (arith, common_steps) in
    ap (cells_of c.args.cells.now.kind) written ∙ v22-again c.args.cells.now c.requires.kind c.requires.well_formed
