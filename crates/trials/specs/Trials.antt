-- The 64 trials: lists of inputs for the ports of a board.
use Rattle.std.specs.Prelude.{ℕ, zero, suc, ◌+◌, ◌*◌, ◌/◌, ◌%◌, ◌^◌, ◌==◌, List, [], ◌∷◌, map, filter, if◌then◌else◌}
use Rattle.mig_base.specs.declared.levels.Level.{Level}
use Rattle.mig_base.specs.declared.levels.Level.TheVariants.{Zero, One, Z}
use Rattle.mig_base.specs.declared.nets.Net.{Net}
use Rattle.mig_base.specs.declared.nets.Port.{Port}
use Rattle.mig_base.specs.declared.nets.Port.TheVariants as port
use Rattle.mig_base.specs.Boards.{is_handed}
use Rattle.mig_base.specs.First.{made_from}

-- the directions of the Input and Both ports, in board order
abbrev pub handed_ports : Net → List Port
handed_ports net = map (λ l. l.port) (filter (λ l. is_handed l.port) net.nets)

-- 0 for the number 0, else 1
abbrev pub bit_level : ℕ → Level
bit_level n = if n == 0 then Zero else One

-- bit (j mod 6) of the number of the step
abbrev pub count_bit : ℕ → ℕ → Level
count_bit n j = bit_level (n / 2 ^ (j % 6) % 2)

-- what the port number j, of this direction, is handed in step n of trial 0 and of trial 1: in trial 0 a Both port floats
abbrev pub counted : ℕ → ℕ → ℕ → Port → Level
counted zero n j port.Both = Z
counted k n j dir = count_bit n j

-- the levels of ports, the first of which has this number
abbrev pub counted_from : ℕ → ℕ → ℕ → List Port → List Level
counted_from k n j [] = []
counted_from k n j (p ∷ ps) = counted k n j p ∷ counted_from k n (j + 1) ps

-- the next number
abbrev pub stir : ℕ → ℕ
stir x = (x * 6364136223846793005 + 1442695040888963407) % 2 ^ 64

-- 0, 1, Z, Z for the two top bits
abbrev pub both_level : ℕ → Level
both_level zero = Zero
both_level (suc zero) = One
both_level (suc (suc n)) = Z

-- the level of a port of this direction by a number: an Input port gets the top bit
abbrev pub drawn : Port → ℕ → Level
drawn port.Both x = both_level (x / 2 ^ 62)
drawn _ x = bit_level (x / 2 ^ 63)

-- the number after a draw for each of these ports
abbrev pub stirred : List Port → ℕ → ℕ
stirred [] x = x
stirred (p ∷ ps) x = stirred ps (stir x)

-- the levels of the ports of one step, each drawn from the next number
abbrev pub drawn_step : List Port → ℕ → List Level
drawn_step [] x = []
drawn_step (p ∷ ps) x = drawn p (stir x) ∷ drawn_step ps (stir x)

-- so many steps; the number runs on over ports and steps
abbrev pub drawn_steps : ℕ → List Port → ℕ → List (List Level)
drawn_steps zero ps x = []
drawn_steps (suc n) ps x = drawn_step ps x ∷ drawn_steps n ps (stirred ps x)

-- the first steps, so many, of trial k for these ports: trials 0 and 1 count, the others draw
abbrev pub trial_front : ℕ → List Port → ℕ → List (List Level)
trial_front zero ps n = made_from (λ i. counted_from 0 i 0 ps) 0 n
trial_front (suc zero) ps n = made_from (λ i. counted_from 1 i 0 ps) 0 n
trial_front (suc (suc k)) ps n = drawn_steps n ps (k + 2)

-- the inputs of trial k for a board of this wiring
abbrev pub trial_of : Net → ℕ → List (List Level)
trial_of net k = trial_front k (handed_ports net) 64
