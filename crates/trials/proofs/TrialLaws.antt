-- Trials are lawful inputs, can be written, and begin with their fronts.
use Rattle.std.proofs.Common.{ℕ, zero, suc, ◌≡◌, ◌+◌, ◌≤◌, Bool, true, false, List, [], ◌∷◌, map, filter, take, length, refl, sym, ap, ◌∙◌, arith}
use Rattle.std.specs.Prelude.{◌&&◌, ◌/◌, ◌^◌, ◌==◌, if◌then◌else◌, Some, None}
use Rattle.std.specs.List.{cons_option, list_all}
use Rattle.std.proofs.lemmas.Bool.{and_from}
use Rattle.std.proofs.lemmas.List.{length-map}
use Rattle.mig_base.specs.declared.levels.Level.{Level}
use Rattle.mig_base.specs.declared.levels.Level.TheVariants.{Zero, One}
use Rattle.mig_base.specs.declared.circuit.Inputs.{Inputs}
use Rattle.mig_base.specs.declared.nets.Net.{Net}
use Rattle.mig_base.specs.declared.nets.NetLine.{NetLine}
use Rattle.mig_base.specs.declared.nets.Port.{Port}
use Rattle.mig_base.specs.declared.nets.Port.TheVariants as port
use Rattle.mig_base.specs.declared.scripts.Script.{Script}
use Rattle.mig_base.specs.Boards.{is_handed}
use Rattle.mig_base.specs.First.{made_from}
use Rattle.mig_base.specs.WrittenBoard.{IsWritable}
use Rattle.sim_run.specs.ScriptText.{ports_from, ports_of}
use Rattle.sim_run.specs.WrittenScript.{fit, takes, IsWritableScript}
use Rattle.trials.specs.Differences.{inputs_of}
use Rattle.trials.specs.Trials.{bit_level, both_level, counted, counted_from, drawn, drawn_step, drawn_steps, handed_ports, stir, stirred, trial_front}

-- each port takes its level
abbrev taken : List Port → List Level → Bool
taken [] [] = true
taken [] (x ∷ xs) = false
taken (p ∷ ps) [] = false
taken (p ∷ ps) (x ∷ xs) = takes p x && taken ps xs

fit-taken : (n : ℕ) (ls : List NetLine) (levels : List Level) → fit (ports_from n ls) levels ≡ taken (map (λ l. l.port) (filter (λ l. is_handed l.port) ls)) levels
fit-taken n [] [] = refl
fit-taken n [] (x ∷ xs) = refl
fit-taken n (l ∷ ls) levels = at (is_handed l.port) levels (λ xs. fit-taken (n + 1) ls xs)
  where
    at : (b : Bool) (levels : List Level) → ((xs : List Level) → fit (ports_from (n + 1) ls) xs ≡ taken (map (λ l. l.port) (filter (λ l. is_handed l.port) ls)) xs) →
        fit (cons_option (if b then Some (record { name = l.name; port = l.port; net = n }) else None) (ports_from (n + 1) ls)) levels
        ≡ taken (map (λ l. l.port) (if b then l ∷ filter (λ l. is_handed l.port) ls else filter (λ l. is_handed l.port) ls)) levels
    at true [] rest = refl
    at true (x ∷ xs) rest = ap (λ (b : Bool). takes l.port x && b) (rest xs)
    at false levels rest = rest levels

takes-bit : (p : Port) (n : ℕ) → takes p (bit_level n) ≡ true
takes-bit p n = at (n == 0)
  where
    at : (b : Bool) → takes p (if b then Zero else One) ≡ true
    at true = refl
    at false = refl

takes-counted : (k n j : ℕ) (p : Port) → takes p (counted k n j p) ≡ true
takes-counted zero n j port.Both = refl
takes-counted zero n j port.Input = takes-bit port.Input _
takes-counted zero n j port.Output = takes-bit port.Output _
takes-counted zero n j port.Inner = takes-bit port.Inner _
takes-counted (suc k) n j port.Both = takes-bit port.Both _
takes-counted (suc k) n j port.Input = takes-bit port.Input _
takes-counted (suc k) n j port.Output = takes-bit port.Output _
takes-counted (suc k) n j port.Inner = takes-bit port.Inner _

takes-both : (n : ℕ) → takes port.Both (both_level n) ≡ true
takes-both zero = refl
takes-both (suc zero) = refl
takes-both (suc (suc n)) = refl

takes-drawn : (p : Port) (x : ℕ) → takes p (drawn p x) ≡ true
takes-drawn port.Both x = takes-both (x / 2 ^ 62)
takes-drawn port.Input x = takes-bit port.Input _
takes-drawn port.Output x = takes-bit port.Output _
takes-drawn port.Inner x = takes-bit port.Inner _

counted-taken : (k n j : ℕ) (ps : List Port) → taken ps (counted_from k n j ps) ≡ true
counted-taken k n j [] = refl
counted-taken k n j (p ∷ ps) = and_from (takes p (counted k n j p)) (taken ps (counted_from k n (j + 1) ps)) (takes-counted k n j p) (counted-taken k n (j + 1) ps)

drawn-taken : (ps : List Port) (x : ℕ) → taken ps (drawn_step ps x) ≡ true
drawn-taken [] x = refl
drawn-taken (p ∷ ps) x = and_from (takes p (drawn p (stir x))) (taken ps (drawn_step ps (stir x))) (takes-drawn p (stir x)) (drawn-taken ps (stir x))

all-made : (q : List Level → Bool) (f : ℕ → List Level) (i n : ℕ) → ((j : ℕ) → q (f j) ≡ true) → list_all q (made_from f i n) ≡ true
all-made q f i zero h = refl
all-made q f i (suc n) h = and_from (q (f i)) (list_all q (made_from f (i + 1) n)) (h i) (all-made q f (i + 1) n h)

all-drawn : (q : List Level → Bool) (ps : List Port) (n x : ℕ) → ((y : ℕ) → q (drawn_step ps y) ≡ true) → list_all q (drawn_steps n ps x) ≡ true
all-drawn q ps zero x h = refl
all-drawn q ps (suc n) x h = and_from (q (drawn_step ps x)) (list_all q (drawn_steps n ps (stirred ps x))) (h x) (all-drawn q ps n (stirred ps x) h)

front-fits : (net : Net) (k n : ℕ) → list_all (fit (ports_of net)) (trial_front k (handed_ports net) n) ≡ true
front-fits net zero n = all-made (fit (ports_of net)) (λ i. counted_from 0 i 0 (handed_ports net)) 0 n (λ i. fit-taken 2 net.nets (counted_from 0 i 0 (handed_ports net)) ∙ counted-taken 0 i 0 (handed_ports net))
front-fits net (suc zero) n = all-made (fit (ports_of net)) (λ i. counted_from 1 i 0 (handed_ports net)) 0 n (λ i. fit-taken 2 net.nets (counted_from 1 i 0 (handed_ports net)) ∙ counted-taken 1 i 0 (handed_ports net))
front-fits net (suc (suc k)) n = all-drawn (fit (ports_of net)) (handed_ports net) n (k + 2) (λ y. fit-taken 2 net.nets (drawn_step (handed_ports net) y) ∙ drawn-taken (handed_ports net) y)

steps-fit : (q : List Level → Bool) (steps : List Inputs) → list_all q (map (λ s. s.levels) steps) ≡ list_all (λ s. q s.levels) steps
steps-fit q [] = refl
steps-fit q (s ∷ ss) = ap (λ (b : Bool). q s.levels && b) (steps-fit q ss)

made-count : (f : ℕ → List Level) (i n : ℕ) → length (made_from f i n) ≡ n
made-count f i zero = refl
made-count f i (suc n) = ap suc (made-count f (i + 1) n)

drawn-count : (ps : List Port) (n x : ℕ) → length (drawn_steps n ps x) ≡ n
drawn-count ps zero x = refl
drawn-count ps (suc n) x = ap suc (drawn-count ps n (stirred ps x))

-- a front has so many steps
pub front-count : (k n : ℕ) (ps : List Port) → length (trial_front k ps n) ≡ n
front-count zero n ps = made-count (λ i. counted_from 0 i 0 ps) 0 n
front-count (suc zero) n ps = made-count (λ i. counted_from 1 i 0 ps) 0 n
front-count (suc (suc k)) n ps = drawn-count ps n (k + 2)

made-front : (f : ℕ → List Level) (i m n : ℕ) → m ≤ n → take m (made_from f i n) ≡ made_from f i m
made-front f i zero zero h = refl
made-front f i zero (suc n) h = refl
made-front f i (suc m) zero h = absurd (omega arith)
made-front f i (suc m) (suc n) h = ap (λ (xs : List (List Level)). f i ∷ xs) (made-front f (i + 1) m n (omega arith))

drawn-front : (ps : List Port) (m n x : ℕ) → m ≤ n → take m (drawn_steps n ps x) ≡ drawn_steps m ps x
drawn-front ps zero zero x h = refl
drawn-front ps zero (suc n) x h = refl
drawn-front ps (suc m) zero x h = absurd (omega arith)
drawn-front ps (suc m) (suc n) x h = ap (λ (xs : List (List Level)). drawn_step ps x ∷ xs) (drawn-front ps m n (stirred ps x) (omega arith))

-- a front of a front is the shorter one
pub front-of-front : (k m n : ℕ) (ps : List Port) → m ≤ n → take m (trial_front k ps n) ≡ trial_front k ps m
front-of-front zero m n ps h = made-front (λ i. counted_from 0 i 0 ps) 0 m n h
front-of-front (suc zero) m n ps h = made-front (λ i. counted_from 1 i 0 ps) 0 m n h
front-of-front (suc (suc k)) m n ps h = drawn-front ps m n (k + 2) h

-- a front can be written as a script
pub front-writable : (net : Net) (k n : ℕ) (script : Script) → IsWritable net → n ≤ 64 → inputs_of script ≡ trial_front k (handed_ports net) n → IsWritableScript net script
front-writable net k n script w few e = record {
  board = w;
  few_steps = let long : length (map (λ (s : Inputs). s.levels) script.steps) ≡ length script.steps = length-map script.steps (λ (s : Inputs). s.levels) in
      let same : length (map (λ (s : Inputs). s.levels) script.steps) ≡ n = ap length e ∙ front-count k n (handed_ports net) in omega arith;
  steps_fit = sym (steps-fit (fit (ports_of net)) script.steps) ∙ ap (list_all (fit (ports_of net))) e ∙ front-fits net k n;
}

-- what counts fits the ports
pub count-fits : (net : Net) → fit (ports_of net) (counted_from 0 0 0 (handed_ports net)) ≡ true
count-fits net = fit-taken 2 net.nets (counted_from 0 0 0 (handed_ports net)) ∙ counted-taken 0 0 0 (handed_ports net)

-- the front for a wiring, by the list that is lent
pub front-made : (net wiring : Net) (k n : ℕ) (steps items : List Inputs) (ports lent : List Port) → steps ≡ items → map (λ s. s.levels) items ≡ trial_front k lent n → lent ≡ ports → ports ≡ handed_ports wiring →
    wiring ≡ net → map (λ s. s.levels) steps ≡ trial_front k (handed_ports net) n
front-made net wiring k n steps items ports lent same made is these it =
    ap (map (λ (s : Inputs). s.levels)) same ∙ made ∙ ap (λ (ps : List Port). trial_front k ps n) (is ∙ these ∙ ap handed_ports it)
