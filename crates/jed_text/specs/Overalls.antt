-- What fields say of all fuses.
use Rattle.std.specs.Prelude.{ℕ, List, [], Result, Ok}
use Rattle.std.specs.Option.{is_some}
use Rattle.mig_base.specs.declared.jedec.JedError.{JedError}
use Rattle.mig_base.specs.First.{first_refusal, unless}
use Rattle.mig_base.specs.FuseText.{Said, Statement, count_in, count_or, default_in, default_or, field_refusal, field_refusal_by}
use Rattle.jed_text.specs.declared.overall.Overall.{Overall}

-- the same with what a field says besides
abbrev pub with_said : Overall → Said → Overall
with_said overall said = record { count = count_or said overall.count; default = default_or said overall.default }

-- the same with a field that says this at this place, unless it can't stand there
abbrev pub overall_with : Overall → ℕ → Said → Result Overall JedError
overall_with overall at said = unless (field_refusal_by (is_some overall.count) (is_some overall.default) at said) (Ok (with_said overall said))

-- what these fields say, unless one of them is refused
abbrev pub overall_in : List Statement → Result Overall JedError
overall_in fields = unless (first_refusal field_refusal [] fields) (Ok (record { count = count_in fields; default = default_in fields }))
