use Rattle.std.proofs.Common.{◌<◌, ◌++◌, ◌∷◌, [], ◌∙◌, sym, ap, arith, take, length, List, Bool, false}
use Rattle.std.proofs.lemmas.List.{append_assoc, map_more}
use Rattle.mig_base.specs.declared.cells.Lit.{Lit}
use Rattle.mig_base.specs.declared.cells.Source.TheVariants.{Pin}
use Rattle.mig_base.specs.declared.cells.Row.TheVariants as row
use Rattle.mig_base.specs.WrittenCells.{column_fuse, row_fuses}
use Rattle.devices.proofs.writing.push_zeros.Goals as goal

pub loop-column-preserved : goal.loop-column-preserved
loop-column-preserved c =
    let columns = c.args.columns.now in
    let old = c.args.fuses.now.items in
    let i = c.loop-column._column-index in
    let within : i < length columns = omega arith in
    let any : Lit = record { source = Pin 0; high = false } in
    c.in_ok-push.ensures.items ∙ ap (λ (bits : List Bool). bits ++ false ∷ []) c.loop-column.invariant
    ∙ append_assoc old (row_fuses (take i columns) row.Never) (false ∷ [])
    ∙ ap (λ (bits : List Bool). old ++ bits) (sym (map_more (column_fuse row.Never) columns i any within))
