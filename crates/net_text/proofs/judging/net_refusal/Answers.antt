use Rattle.std.proofs.Common.{ap, ◌∙◌, sym, length, false}
use Rattle.std.specs.Prelude.{is_some}
use Rattle.std.proofs.lemmas.Bool.{lt-leb}
use Rattle.mig_base.specs.BoardText.{net_names}
use Rattle.text_lines.proofs.Places.{known-any}
use Rattle.net_text.proofs.Refusals.{net-refused}
use Rattle.net_text.proofs.judging.net_refusal.Goals as goal

pub returns : goal.returns
returns c =
    c.refuse.ensures ∙ sym (net-refused c.args.n c.args.nets.now c.args.name.now false c.is_some.result (lt-leb 1024 (length c.args.nets.now) c.if-nets-ge-MOST_NETS.false)
    (sym (known-any c.args.name.now (net_names c.args.nets.now)) ∙ ap is_some (sym c.place.ensures) ∙ sym c.is_some.ensures))
