-- The steps of loading a board.
use Rattle.std.proofs.Common.{ℕ, ◌≡◌, List, Option, Result, Ok, Err, sym, subst, inl, inr}
use Rattle.std.specs.Prelude.{IfOk}
use Rattle.mig_base.specs.declared.cells.ChipCells.{ChipCells}
use Rattle.mig_base.specs.declared.nets.Net.{Net}
use Rattle.mig_base.specs.declared.nets.ChipLine.{ChipLine}
use Rattle.mig_io.specs.Counts.{Counts}
use Rattle.mig_io.specs.Holding.{Held}
use Rattle.answers.specs.declared.exit.Exit.{Exit}
use Rattle.board.specs.Joined.{Joined}
use Rattle.mig_base.specs.Given.{AreMade}
use Rattle.verdicts.specs.HeldBoard.{net_file}
use Rattle.verdicts.specs.JudgedBoard.{Joins, JudgesBoard, LoadsBoard, LoadsChips, wiring_held, chips_held, parts_held}
use Rattle.palmig_top.specs.Reading.{IsReadBoard}
use Rattle.palmig_top.specs.Steps.{Step, Finds}
use Rattle.palmig_top.proofs.Chains.{broken, then-found}
use Rattle.palmig_top.proofs.Chips.{wiring-failed, parts-failed, parts-made}

-- wiring and chips are refused
parts-refused : {X : Type 0} (view : X → Joined) (held after : Option Held) (before now : Counts) (stem : List ℕ) (e : Exit) →
    Step {X = Joined} (λ p. p) (λ h q. parts_held h stem ≡ q) (λ h f. LoadsBoard h stem f) held after before now (Err e) →
    Step view (JudgesBoard stem) (λ h f. LoadsBoard h stem f) held after before now (Err e)
parts-refused view held after before now stem e p =
    broken (λ (p : Joined). p) view (λ h q. parts_held h stem ≡ q) (λ h. Joins (net_file stem)) (JudgesBoard stem) (λ h f. LoadsBoard h stem f) (λ h f. LoadsBoard h stem f) held after before now e
    (λ h q t. t) (λ h f l. l) p

-- the wiring is refused
pub wiring-refused : {X : Type 0} (view : X → Joined) (held after : Option Held) (before now : Counts) (stem : List ℕ) (e : Exit) →
    Step {X = Net} (λ n. n) (λ h q. wiring_held h stem ≡ q) (λ h f. f ≡ net_file stem) held after before now (Err e) →
    Step view (JudgesBoard stem) (λ h f. LoadsBoard h stem f) held after before now (Err e)
wiring-refused view held after before now stem e p = parts-refused view held after before now stem e (wiring-failed (λ (p : Joined). p) held after before now stem e p)

-- the chips are refused
pub chips-refused : {X V : Type 0} (view : X → Joined) (items : V → List ChipCells) (held mid after : Option Held) (before between now : Counts) (stem : List ℕ) (net : Net) (e : Exit) →
    Step (λ (n : Net). n) (λ h q. wiring_held h stem ≡ q) (λ h f. f ≡ net_file stem) held mid before between (Ok net) →
    Step {X = V} items (λ h q. chips_held h stem net.chips ≡ q) (λ h f. LoadsChips h stem net.chips f) mid after between now (Err e) →
    Step view (JudgesBoard stem) (λ h f. LoadsBoard h stem f) held after before now (Err e)
chips-refused view items held mid after before between now stem net e p q =
    parts-refused view held after before now stem e (parts-failed (λ (p : Joined). p) items held mid after before between now stem net e p q)

-- all is read, and joined or not
pub board-found : {X V : Type 0} (view : X → Joined) (items : V → List ChipCells) (held mid after : Option Held) (before between now : Counts) (stem : List ℕ) (net : Net) (v : V) (r : Result X Exit) →
    Step (λ (n : Net). n) (λ h q. wiring_held h stem ≡ q) (λ h f. f ≡ net_file stem) held mid before between (Ok net) →
    Step items (λ h q. chips_held h stem net.chips ≡ q) (λ h f. LoadsChips h stem net.chips f) mid after between now (Ok v) →
    Finds view (Joins (net_file stem) (record { net = net; chips = items v })) r →
    Step view (JudgesBoard stem) (λ h f. LoadsBoard h stem f) held after before now r
board-found view items held mid after before between now stem net v r p q joins =
    then-found (λ (p : Joined). p) view (λ h q. parts_held h stem ≡ q) (Joins (net_file stem)) (JudgesBoard stem) (λ h f. LoadsBoard h stem f) held after before now (record { net = net; chips = items v }) r
    (λ h q t. t) (parts-made items held mid after before between now stem net v p q) joins

-- the lines are those of the wiring
pub read-lines : (lines mine : List ChipLine) (chips : List ChipCells) → lines ≡ mine → AreMade lines chips → AreMade mine chips
read-lines lines mine chips e p = subst (λ (ls : List ChipLine). AreMade ls chips) e p

-- the board is one that was read
pub board-read : (name : List ℕ) (parts : Joined) (r : Result Joined Exit) → Finds (λ b. b) (Joins name parts) r → IsReadBoard parts → IfOk r (λ b. IsReadBoard b)
board-read name parts (Ok b) joins read = subst IsReadBoard (sym joins.0) read
board-read name parts (Err e) joins read = tt
