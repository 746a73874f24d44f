-- The line of a plan's breach.
use Rattle.std.specs.Prelude.{ℕ, List, [], ◌∷◌, Option, Some, None, Bool, true, false, codes}
use Rattle.std.specs.Fmt.{decimal}
use Rattle.mig_base.specs.declared.nets.Node.{Node}
use Rattle.mig_base.specs.declared.nets.PinName.{PinName}
use Rattle.mig_base.specs.declared.plans.Breach.{Breach}
use Rattle.mig_base.specs.declared.plans.Breach.TheVariants as breach
use Rattle.mig_base.specs.WrittenBoard.{written_line}
use Rattle.answers.specs.Reasons.{Reason, reason_words, pin_text, node_text}

-- a breach that names a unit alone
abbrev pub unit_reason : List ℕ → PinName → Reason
unit_reason variant unit = (variant, pin_text unit ∷ [])

abbrev pub node_words : Option Node → List (List ℕ)
node_words None = []
node_words (Some v) = node_text v ∷ []

-- the rule that is broken and what breaks it; the signal that gets no pin is printed by this name
abbrev pub breach_reason : Option Node → Breach → Reason
breach_reason named (breach.ChipTwice chip) = (codes "ChipTwice", chip ∷ [])
breach_reason named (breach.UnitUnknown unit) = unit_reason (codes "UnitUnknown") unit
breach_reason named (breach.UnitTwice unit) = unit_reason (codes "UnitTwice") unit
breach_reason named (breach.ChipUnknown unit chip) = (codes "ChipUnknown", pin_text unit ∷ chip ∷ [])
breach_reason named (breach.NoCell unit pin) = (codes "NoCell", pin_text unit ∷ decimal pin ∷ [])
breach_reason named (breach.PinTaken unit pin) = (codes "PinTaken", pin_text unit ∷ decimal pin ∷ [])
breach_reason named (breach.NotAbsorbable unit) = unit_reason (codes "NotAbsorbable") unit
breach_reason named (breach.Unplaced unit) = unit_reason (codes "Unplaced") unit
breach_reason named (breach.Mode unit) = unit_reason (codes "Mode") unit
breach_reason named (breach.Clock unit) = unit_reason (codes "Clock") unit
breach_reason named (breach.Phase unit) = unit_reason (codes "Phase") unit
breach_reason named (breach.ConeWide unit count) = (codes "ConeWide", pin_text unit ∷ decimal count ∷ [])
breach_reason named (breach.PrimesOver unit) = unit_reason (codes "PrimesOver") unit
breach_reason named (breach.Reset unit) = unit_reason (codes "Reset") unit
breach_reason named (breach.Enable unit) = unit_reason (codes "Enable") unit
breach_reason named (breach.TermsOver unit needed most) = (codes "TermsOver", pin_text unit ∷ decimal needed ∷ decimal most ∷ [])
breach_reason named (breach.NoInput chip variable) = (codes "NoInput", chip ∷ node_words named)
breach_reason named (breach.FullRow unit) = unit_reason (codes "FullRow") unit

abbrev pub breached_line : Option Node → Breach → List ℕ
breached_line named x = written_line (codes "breached" ∷ reason_words (breach_reason named x))

-- whether a breach is told by its own fields alone; a signal is told by its name on the board
abbrev pub is_own_breach : Breach → Bool
is_own_breach (breach.NoInput chip variable) = false
is_own_breach _ = true
