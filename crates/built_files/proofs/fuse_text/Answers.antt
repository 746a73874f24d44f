use Rattle.std.proofs.Common.{Bool, List, ◌≡◌, subst}
use Rattle.std.specs.Prelude.{IfOk}
use Rattle.mig_base.specs.WrittenFuses.{written_fuses}
use Rattle.built_files.proofs.GalFuses.{right-count}
use Rattle.built_files.proofs.fuse_text.Goals as goal

pub jed_bytes-requires : goal.jed_bytes-requires
jed_bytes-requires c = right-count c.args.cells.now.kind c.in_ok-fuses.fuses.bits c.args.cells.now c.in_ok-fuses.ensures.again

pub returns : goal.returns
returns c = subst (λ (bits : List Bool). IfOk c.jed_bytes.result (λ text. text.items ≡ written_fuses c.args.cells.now.kind bits)) c.in_ok-fuses.ensures.written c.jed_bytes.ensures
