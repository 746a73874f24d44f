-- Registers that are marked where they store another level than before.
use Rattle.std.proofs.Common.{ℕ, ◌≡◌, ◌⊎◌, ◌<◌, ◌≤◌, ◌+◌, Bool, true, List, length, sym, ap, ◌∙◌, subst, arith, inl, inr}
use Rattle.std.specs.Prelude.{slice_set, if◌then◌else◌}
use Rattle.std.proofs.lemmas.Bool.{cases_eq}
use Rattle.std.proofs.lemmas.List.{get_or-set_same, get_or-set_other}
use Rattle.mig_base.specs.declared.levels.Level.{Level}
use Rattle.mig_base.specs.declared.levels.Level.TheVariants.{X}
use Rattle.mig_base.specs.declared.circuit.Register.{Register}
use Rattle.mig_base.specs.declared.circuit.Circuit.{Circuit}
use Rattle.mig_base.specs.declared.circuit.Levels.{Levels}
use Rattle.mig_base.specs.Levels.{level_at}
use Rattle.level_laws.specs.Runs.{rises, taken}
use Rattle.settle.specs.Edges.{next_level}
use Rattle.reader_lists.specs.declared.lists.Reader.{Reader}
use Rattle.reader_lists.specs.declared.lists.Reader.TheVariants.{ByRegister}
use Rattle.reader_lists.specs.declared.marks.Marks.{Marks}
use Rattle.reader_lists.specs.Marked.{marked_in}

-- no register behind was changed
pub stored-after : (start now new : List Level) (place : ℕ) (level : Level) → new ≡ slice_set now place level → ((j : ℕ) → place ≤ j → level_at start j ≡ level_at now j) →
    (j : ℕ) → place + 1 ≤ j → level_at start j ≡ level_at new j
stored-after start now new place level put before j behind =
    before j (omega arith) ∙ sym (get_or-set_other now place j level X (λ e. absurd (omega arith))) ∙ sym (ap (λ (xs : List Level). level_at xs j) put)

-- one more level stored
pub stored-more : (start now new : List Level) (place : ℕ) (level : Level) (marks after : Marks) → place < length now → new ≡ slice_set now place level →
    ((j : ℕ) → place ≤ j → level_at start j ≡ level_at now j) → ((j : ℕ) → (level_at start j ≡ level_at now j) ⊎ (marked_in marks (ByRegister j) ≡ true)) →
    (level_at now place ≡ level) ⊎ (marked_in after (ByRegister place) ≡ true) → ((r : Reader) → marked_in marks r ≡ true → marked_in after r ≡ true) →
    (j : ℕ) → (level_at start j ≡ level_at new j) ⊎ (marked_in after (ByRegister j) ≡ true)
stored-more start now new place level marks after lt put before marked here keeps j = at (cases_eq j place)
  where
    now-here : (level_at now place ≡ level) ⊎ (marked_in after (ByRegister place) ≡ true) → (level_at start place ≡ level_at new place) ⊎ (marked_in after (ByRegister place) ≡ true)
    now-here (inl e) = inl (before place (omega arith) ∙ e ∙ sym (get_or-set_same now place level X lt) ∙ sym (ap (λ (xs : List Level). level_at xs place) put))
    now-here (inr h) = inr h

    other : (j ≡ place → ⊥) → (level_at start j ≡ level_at now j) ⊎ (marked_in marks (ByRegister j) ≡ true) → (level_at start j ≡ level_at new j) ⊎ (marked_in after (ByRegister j) ≡ true)
    other ne (inl e) = inl (e ∙ sym (get_or-set_other now place j level X ne) ∙ sym (ap (λ (xs : List Level). level_at xs j) put))
    other ne (inr h) = inr (keeps (ByRegister j) h)

    at : (j ≡ place) ⊎ (j ≡ place → ⊥) → (level_at start j ≡ level_at new j) ⊎ (marked_in after (ByRegister j) ≡ true)
    at (inl e) = subst (λ (k : ℕ). (level_at start k ≡ level_at new k) ⊎ (marked_in after (ByRegister k) ≡ true)) (sym e) (now-here here)
    at (inr ne) = other ne (marked j)

-- what a register stores next, by the edge of its clock
pub edge-level : (c : Circuit) (l : Levels) (before now : List Level) (r : Register) (b : Bool) (clock : ℕ) (x q : Level) → x ≡ (if b then taken l r else q) →
    b ≡ rises c before now clock → clock ≡ r.clock → x ≡ next_level c l before now r q
edge-level c l before now r b clock x q made up same = made ∙ ap (λ (e : Bool). if e then taken l r else q) (up ∙ ap (rises c before now) same)
