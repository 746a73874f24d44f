-- There is one first difference.
use Rattle.std.proofs.Common.{ℕ, ◌≡◌, ◌⊎◌, ◌<◌, ◌≤◌, ◌+◌, List, [], ◌∷◌, map, take, Option, Some, refl, sym, ap, ◌∙◌, subst, arith, inl, inr}
use Rattle.std.specs.Prelude.{slice_get, slice_index_or}
use Rattle.std.proofs.lemmas.Bool.{cases_lt}
use Rattle.mig_base.specs.declared.levels.Level.{Level}
use Rattle.mig_base.specs.declared.comparing.Trace.{Trace}
use Rattle.mig_base.specs.declared.circuit.Inputs.{Inputs}
use Rattle.mig_base.specs.declared.scripts.Script.{Script}
use Rattle.mig_base.specs.Accepted.{IsAccepted}
use Rattle.board.specs.Joined.{Joined, equations_of}
use Rattle.level_laws.proofs.RanksExist.{accepted-runs-once}
use Rattle.level_laws.specs.SameBehaviour.{port_names, shown_at}
use Rattle.trials.specs.Differences.{DiffersAt, DiffersOver, IsFirstDifference, IsSooner, inputs_of}
use Rattle.trials.specs.Places.{handed_over}
use Rattle.trials.specs.Trials.{trial_of}

some-is : {T : Type 0} (x y : T) → Some x ≡ Some y → x ≡ y
some-is x y e = cc

-- both levels at one port are told by the inputs
levels-once : (a b : Joined) (inputs : List (List Level)) (n i : ℕ) (x y v w : Option Level) → IsAccepted (equations_of a) → IsAccepted (equations_of b) → DiffersOver a b inputs n i x y → DiffersOver a b inputs n i v w →
    (x ≡ v) × (y ≡ w)
levels-once a b inputs n i x y v w accepted_a accepted_b d e = (
  sym d.left_shows ∙ ap (λ (name : List ℕ). shown_at (port_names a.net) (slice_index_or d.left n []) name) named
      ∙ ap (λ (runs : List (List Level)). shown_at (port_names a.net) (slice_index_or runs n []) e.name) (accepted-runs-once (equations_of a) accepted_a inputs d.left e.left d.runs.left_run e.runs.left_run) ∙ e.left_shows,
  sym d.right_shows ∙ ap (λ (name : List ℕ). shown_at (port_names b.net) (slice_index_or d.right n []) name) named
      ∙ ap (λ (runs : List (List Level)). shown_at (port_names b.net) (slice_index_or runs n []) e.name)
      (accepted-runs-once (equations_of b) accepted_b (map (handed_over a.net b.net) inputs) d.right e.right d.runs.right_run e.runs.right_run) ∙ e.right_shows,
)
  where
    named : d.name ≡ e.name
    named = some-is d.name e.name (sym d.named ∙ e.named)

-- neither is sooner than the other
abbrev Sooner : (a b : Joined) (t u : Trace) → IsFirstDifference a b t → IsFirstDifference a b u → Type 0
Sooner a b t u f g = IsSooner f.trial_number f.step f.place g.trial_number g.step g.place

not-sooner : (a b : Joined) (t u : Trace) (f : IsFirstDifference a b t) (g : IsFirstDifference a b u) → Sooner a b t u f g → ⊥
not-sooner a b t u f g sooner = g.first f.trial_number f.step f.place (Some t.left) (Some t.right) f.trial_within f.step_within sooner f.differs

-- numbers that are not below each other
one-number : (m n : ℕ) → (m < n → ⊥) → (n < m → ⊥) → m ≡ n
one-number m n low high = at (cases_lt m n)
  where
    other : n ≤ m → (n < m) ⊎ (m ≤ n) → m ≡ n
    other le (inl lt) = absurd (high lt)
    other le (inr ge) = omega arith

    at : (m < n) ⊎ (n ≤ m) → m ≡ n
    at (inl lt) = absurd (low lt)
    at (inr le) = other le (cases_lt n m)

trial-once : (a b : Joined) (t u : Trace) (f : IsFirstDifference a b t) (g : IsFirstDifference a b u) → f.trial_number ≡ g.trial_number
trial-once a b t u f g = one-number f.trial_number g.trial_number (λ lt. not-sooner a b t u f g (inl lt)) (λ lt. not-sooner a b u t g f (inl lt))

step-once : (a b : Joined) (t u : Trace) (f : IsFirstDifference a b t) (g : IsFirstDifference a b u) → f.step ≡ g.step
step-once a b t u f g =
    let e = trial-once a b t u f g in
    one-number f.step g.step (λ lt. not-sooner a b t u f g (inr (e, inl lt))) (λ lt. not-sooner a b u t g f (inr (sym e, inl lt)))

place-once : (a b : Joined) (t u : Trace) (f : IsFirstDifference a b t) (g : IsFirstDifference a b u) → f.place ≡ g.place
place-once a b t u f g =
    let e = trial-once a b t u f g in
    let s = step-once a b t u f g in
    one-number f.place g.place (λ lt. not-sooner a b t u f g (inr (e, inr (s, lt)))) (λ lt. not-sooner a b u t g f (inr (sym e, inr (sym s, lt))))

-- scripts with the same inputs
steps-same : (xs ys : List Inputs) → map (λ given. given.levels) xs ≡ map (λ given. given.levels) ys → xs ≡ ys
steps-same [] [] e = refl
steps-same [] (y ∷ ys) e = let no : ⊥ = cc in absurd no
steps-same (x ∷ xs) [] e = let no : ⊥ = cc in absurd no
steps-same (x ∷ xs) (y ∷ ys) e =
    let first : x.levels ≡ y.levels = cc in
    let rest : map (λ (given : Inputs). given.levels) xs ≡ map (λ (given : Inputs). given.levels) ys = cc in
    let here : x ≡ y = ap (λ (levels : List Level). let s : Inputs = record { levels = levels } in s) first in
    ap (λ (s : Inputs). s ∷ xs) here ∙ ap (λ (ss : List Inputs). y ∷ ss) (steps-same xs ys rest)

script-same : (s r : Script) → inputs_of s ≡ inputs_of r → s ≡ r
script-same s r e = ap (λ (steps : List Inputs). let q : Script = record { steps = steps } in q) (steps-same s.steps r.steps e)

pub first-once : (a b : Joined) (t u : Trace) → IsAccepted (equations_of a) → IsAccepted (equations_of b) → IsFirstDifference a b t → IsFirstDifference a b u → t ≡ u
first-once a b t u accepted_a accepted_b f g = λ i. record { script = script i; port = port i; left = left i; right = right i }
  where
    script : t.script ≡ u.script
    script = script-same t.script u.script (f.script ∙ ap (λ (n : ℕ). take (n + 1) (trial_of a.net f.trial_number)) (step-once a b t u f g)
        ∙ ap (λ (k : ℕ). take (g.step + 1) (trial_of a.net k)) (trial-once a b t u f g) ∙ sym g.script)

    port : t.port ≡ u.port
    port = some-is t.port u.port (sym f.port ∙ ap (slice_get (equations_of a).ports) (place-once a b t u f g) ∙ g.port)

    here : DiffersAt a b g.trial_number g.step g.place (Some t.left) (Some t.right)
    here = subst (λ (k : ℕ). DiffersAt a b k g.step g.place (Some t.left) (Some t.right)) (trial-once a b t u f g)
        (subst (λ (n : ℕ). DiffersAt a b f.trial_number n g.place (Some t.left) (Some t.right)) (step-once a b t u f g)
        (subst (λ (i : ℕ). DiffersAt a b f.trial_number f.step i (Some t.left) (Some t.right)) (place-once a b t u f g) f.differs))

    both : (Some t.left ≡ Some u.left) × (Some t.right ≡ Some u.right)
    both = levels-once a b (trial_of a.net g.trial_number) g.step g.place (Some t.left) (Some t.right) (Some u.left) (Some u.right) accepted_a accepted_b here g.differs

    left : t.left ≡ u.left
    left = some-is t.left u.left both.0

    right : t.right ≡ u.right
    right = some-is t.right u.right both.1
