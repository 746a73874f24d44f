use Rattle.std.proofs.Common.{◌≡◌, ◌++◌, List, length, min, ap, sym, ◌∙◌, rules}
use Rattle.std.proofs.lemmas.List.{append-nil}
use Rattle.std.proofs.lemmas.Slice.Zip.{zip_end}
use Rattle.mig_base.specs.declared.cells.Lit.{Lit}
use Rattle.devices.proofs.RowLemmas.{lits_of-end}
use Rattle.devices.proofs.reading.literals.Goals as goal

pub returns : goal.returns
returns c =
    let columns = c.args.columns.now in
    let fuses = c.args.fuses.now in
    let n = length c.loop-column.yielded in
    let end : n ≡ min (length columns) (length fuses) = zip_end columns fuses c.loop-column.yielded c.into_iter-column-iterator.result c.loop-column.column-iterator c.next.new.self c.next.result (search rules) (search rules) c.loop-column.yielded_by c.in-None.is c.next.ensures.steps in
    sym (append-nil c.loop-column.literals.items) ∙ sym (ap (λ (lits : List Lit). c.loop-column.literals.items ++ lits) (lits_of-end columns fuses n end)) ∙ c.loop-column.invariant
