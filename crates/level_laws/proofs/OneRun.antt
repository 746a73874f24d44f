-- Every list of inputs has exactly one run.
use Rattle.std.proofs.Common.{ℕ, ◌≡◌, List, [], ◌∷◌, Option, Some, None, refl, sym, ap, ◌∙◌, subst}
use Rattle.mig_base.specs.declared.levels.Level.{Level}
use Rattle.mig_base.specs.declared.circuit.Read.{Read}
use Rattle.mig_base.specs.declared.circuit.Circuit.{Circuit}
use Rattle.mig_base.specs.declared.circuit.Levels.{Levels}
use Rattle.level_laws.specs.Settled.{IsSettled}
use Rattle.mig_base.specs.Ranked.{Ranked}
use Rattle.level_laws.specs.Runs.{IsStep, IsRunFrom, next_stored, shown_levels}
use Rattle.level_laws.proofs.Unique.{settled-unique}
use Rattle.level_laws.proofs.Exists.{settling, settled-exists}

-- the stored levels after a step are determined
step-unique : (c : Circuit) (rank : Read → ℕ) (top : ℕ) → Ranked c rank top → (stored : List Level) (last : Option (List Level)) (inputs now later : List Level) →
    IsStep c stored last inputs now → IsStep c stored last inputs later → now ≡ later
step-unique c rank top ranked stored None inputs now later a b = a ∙ sym b
step-unique c rank top ranked stored (Some last) inputs now later a b =
    a.2 ∙ ap (λ (l : Levels). next_stored c l last inputs c.registers l.visible) (settled-unique c rank top stored last a.0 b.0 ranked a.1 b.1) ∙ sym b.2

-- a run is determined
pub run-unique : (c : Circuit) (rank : Read → ℕ) (top : ℕ) → Ranked c rank top → (inputs shown_a shown_b : List (List Level)) (stored : List Level) (last : Option (List Level)) →
    IsRunFrom c stored last inputs shown_a → IsRunFrom c stored last inputs shown_b → shown_a ≡ shown_b
run-unique c rank top ranked [] [] [] stored last a b = refl
run-unique c rank top ranked [] [] (t ∷ ts) stored last a b = absurd b
run-unique c rank top ranked [] (s ∷ ss) tts stored last a b = absurd a
run-unique c rank top ranked (i ∷ is) [] tts stored last a b = absurd a
run-unique c rank top ranked (i ∷ is) (s ∷ ss) [] stored last a b = absurd b
run-unique c rank top ranked (i ∷ is) (s ∷ ss) (t ∷ ts) stored last a b =
    let now : a.0 ≡ b.0 = step-unique c rank top ranked stored last i a.0 b.0 a.2 b.2 in
    let levels : a.1 ≡ b.1 = settled-unique c rank top b.0 i a.1 b.1 ranked (subst (λ (q : List Level). IsSettled c q i a.1) now a.3) b.3 in
    let rest : IsRunFrom c b.0 (Some i) is ss = subst (λ (q : List Level). IsRunFrom c q (Some i) is ss) now a.5 in
    ap (λ (q : List Level). q ∷ ss) (a.4 ∙ ap (shown_levels c) levels ∙ sym b.4) ∙ ap (λ (q : List (List Level)). t ∷ q) (run-unique c rank top ranked is ss ts b.0 (Some i) rest b.5)

-- the stored levels after a step
after : Circuit → ℕ → List Level → Option (List Level) → List Level → List Level
after c top stored None inputs = stored
after c top stored (Some last) inputs = next_stored c (settling c top stored last) last inputs c.registers (settling c top stored last).visible

after-step : (c : Circuit) (rank : Read → ℕ) (top : ℕ) → Ranked c rank top → (stored : List Level) (last : Option (List Level)) (inputs : List Level) →
    IsStep c stored last inputs (after c top stored last inputs)
unfolding after
after-step c rank top ranked stored None inputs = refl
after-step c rank top ranked stored (Some last) inputs = (settling c top stored last, settled-exists c rank top stored last ranked, refl)

-- there is a run
pub run-exists : (c : Circuit) (rank : Read → ℕ) (top : ℕ) → Ranked c rank top → (inputs : List (List Level)) (stored : List Level) (last : Option (List Level)) →
    (shown : List (List Level)) × IsRunFrom c stored last inputs shown
run-exists c rank top ranked [] stored last = ([], tt)
run-exists c rank top ranked (i ∷ is) stored last =
    let now = after c top stored last i in
    let l = settling c top now i in
    let rest = run-exists c rank top ranked is now (Some i) in (
      shown_levels c l ∷ rest.0,
      (now, l, after-step c rank top ranked stored last i, settled-exists c rank top now i ranked, refl, rest.1),
    )
