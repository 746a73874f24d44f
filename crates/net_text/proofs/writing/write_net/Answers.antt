use Rattle.std.proofs.Common.{◌≡◌, ap, ◌∙◌, arith}
use Rattle.std.proofs.lemmas.Grind.{common_steps}
use Rattle.mig_base.specs.BoardText.{net_of_text}
use Rattle.mig_base.specs.WrittenBoard.{written_net}
use Rattle.net_text.proofs.BoardReadBack.{written-read}
use Rattle.net_text.proofs.writing.write_net.Goals as goal

pub returns-clause-read_back : goal.returns-clause-read_back
returns-clause-read_back c =
    let written : c.into_bytes.result.items ≡ written_net c.args.net.now = grind (arith, common_steps) in
    ap net_of_text written ∙ written-read c.args.net.now c.requires
