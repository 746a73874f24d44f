-- A chip by a name that a word spells.
use Rattle.std.proofs.Common.{ℕ, ◌≡◌, Bool, true, false, cond, List, Option, Some, None, ap}
use Rattle.mig_base.specs.declared.kinds.Kind.{Kind}
use Rattle.mig_base.specs.declared.kinds.Mode.{Mode}
use Rattle.mig_base.specs.Names.{is_name, name_of}
use Rattle.plan_text.specs.declared.says.Said.TheVariants.{Wrong}
use Rattle.plan_text.specs.PlanText.{chip_in}

pub named-chip : (text name : List ℕ) (kind : Option Kind) (mode : Option Mode) → Some name ≡ name_of text → chip_in name kind mode ≡ cond (is_name text) (chip_in text kind mode) Wrong
named-chip text name kind mode h = at (is_name text) h
  where
    at : (t : Bool) → Some name ≡ cond t (Some text) None → chip_in name kind mode ≡ cond t (chip_in text kind mode) Wrong
    at true e = let same : name ≡ text = cc in ap (λ (n : List ℕ). chip_in n kind mode) same
    at false e = absurd (let no : ⊥ = cc in no)
