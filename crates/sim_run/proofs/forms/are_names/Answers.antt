use Rattle.std.proofs.Common.{◌∙◌, sym}
use Rattle.mig_base.specs.Names.{is_name}
use Rattle.text_lines.proofs.Judging.{all_now}
use Rattle.sim_run.proofs.forms.are_names.Goals as goal

pub returns : goal.returns
returns c = c.all_are_names.ensures ∙ sym (all_now is_name c.args.words.now)
