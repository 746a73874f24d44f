-- Input pins are taken in two passes; the old chip of a name is one of the board.
use Rattle.std.proofs.Common.{ℕ, ◌≡◌, ◌<◌, ◌≤◌, ◌+◌, Bool, true, false, cond, ◌||◌, List, [], ◌∷◌, length, Option, Some, None, refl, ap, ◌∙◌, arith}
use Rattle.std.specs.Option.{IfSome, option_map}
use Rattle.std.specs.Str.{bytes_eq}
use Rattle.mig_base.specs.declared.kinds.Kind.{Kind}
use Rattle.mig_base.specs.declared.nets.ChipLine.{ChipLine}
use Rattle.mig_base.specs.declared.circuit.Read.{Read}
use Rattle.new_board.specs.NewChip.{OldBoard, NewChip}
use Rattle.new_board.specs.InputPins.{Taken, chip_from, stood_on, stood, take_pins, free_pins, anywhere}
use Rattle.avail.specs.ServedVariables.{wanting, pins_for}

abbrev Within : ℕ → Option (ℕ × Kind) → Type 0
Within n o = IfSome o (λ old. old.0 < n)

pub chip-within : (j n : ℕ) (chips : List ChipLine) (name : List ℕ) → j + length chips ≤ n → IfSome (chip_from j chips name) (λ old. old.0 < n)
chip-within j n [] name h = tt
chip-within j n (c ∷ cs) name h = at (bytes_eq name c.name) (chip-within (j + 1) n cs name (omega arith))
  where
    at : (q : Bool) → Within n (chip_from (j + 1) cs name) → Within n (cond q (Some (j, c.kind)) (chip_from (j + 1) cs name))
    at true k = let here : j < n = omega arith in here
    at false k = k

abbrev suiting : Bool → OldBoard → List ℕ → Read → ℕ → Bool
suiting all b name v p = all || stood_on b v p (chip_from 0 b.net.chips name)

pub taking-both : (b : OldBoard) (chip : NewChip) (needed : List Read) (name free : List ℕ) (vs ws : List Read) (none first both : List Taken) → name ≡ chip.name → free ≡ free_pins b chip →
    vs ≡ wanting b chip needed → ws ≡ wanting b chip needed → none ≡ [] →
    first ≡ take_pins (λ v p. false || stood_on b v p (chip_from 0 b.net.chips name)) free none vs →
    both ≡ take_pins (λ v p. true || stood_on b v p (chip_from 0 b.net.chips name)) free first ws → both ≡ pins_for b chip needed
taking-both b chip needed name free vs ws none first both n f v w o t u =
    u ∙ ap (λ (ts : List Taken). take_pins anywhere free ts ws) t
    ∙ ap (λ (ts : List Taken). take_pins anywhere free (take_pins (suiting false b name) free ts vs) ws) o
    ∙ ap (λ (m : List ℕ). take_pins anywhere free (take_pins (suiting false b m) free [] vs) ws) n
    ∙ ap (λ (ps : List ℕ). take_pins anywhere ps (take_pins (stood b chip) ps [] vs) ws) f
    ∙ ap (λ (rs : List Read). take_pins anywhere (free_pins b chip) (take_pins (stood b chip) (free_pins b chip) [] rs) ws) v
    ∙ ap (λ (rs : List Read). take_pins anywhere (free_pins b chip) (take_pins (stood b chip) (free_pins b chip) [] (wanting b chip needed)) rs) w

pub none-mapped : {T U : Type 0} (f : T → U) (o : Option T) → None ≡ option_map f o → o ≡ None
none-mapped f None e = refl
none-mapped f (Some x) e = cc
