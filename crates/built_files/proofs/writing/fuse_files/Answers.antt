use Rattle.std.proofs.Common.{◌≡◌, ◌∙◌, ◌+◌, ◌∷◌, ◌++◌, [], sym, subst, ap, arith, take, map}
use Rattle.std.proofs.lemmas.List.{take_more}
use Rattle.mig_base.proofs.ListLaws.{all-at}
use Rattle.new_board.specs.declared.types.FittedChip.{FittedChip}
use Rattle.built_files.specs.BoardFiles.{IsWritableChip, as_file}
use Rattle.built_files.proofs.MoreFiles.{files-more}
use Rattle.built_files.proofs.writing.fuse_files.Goals as goal

pub add_fuse_file-requires : goal.add_fuse_file-requires
add_fuse_file-requires c =
    subst IsWritableChip (sym c.chip-item.is) (all-at IsWritableChip c.args.chips.now c.loop-chip.chip-index c.chip-item.result c.requires (omega arith))

pub loop-chip-preserved : goal.loop-chip-preserved
loop-chip-preserved c =
    let front : take (c.loop-chip.chip-index + 1) c.args.chips.now ≡ take c.loop-chip.chip-index c.args.chips.now ++ c.chip-item.result ∷ [] =
    take_more c.args.chips.now c.loop-chip.chip-index c.chip-item.result (omega arith) ∙ ap (λ (x : FittedChip). take c.loop-chip.chip-index c.args.chips.now ++ x ∷ []) (sym c.chip-item.is) in
    files-more (take c.loop-chip.chip-index c.args.chips.now) (take (c.loop-chip.chip-index + 1) c.args.chips.now) c.chip-item.result (map as_file c.loop-chip.jeds.items) (map as_file c.add_fuse_file.new.jeds.items)
    front c.loop-chip.invariant c.in_ok-add_fuse_file.ensures
