-- The chips of a board, one behind another.
use Rattle.std.proofs.Common.{ℕ, ◌≡◌, List, [], ◌∷◌, ◌++◌, Option, Some, None, Result, Ok, Err, refl, sym, ap, ◌∙◌, subst, arith, append_assoc, inl, inr}
use Rattle.std.specs.Prelude.{IfSome}
use Rattle.mig_base.specs.declared.cells.ChipCells.{ChipCells}
use Rattle.mig_base.specs.declared.nets.ChipLine.{ChipLine}
use Rattle.mig_io.specs.Counts.{Counts, NoneFell}
use Rattle.mig_io.specs.Holding.{Held}
use Rattle.answers.specs.declared.exit.Exit.{Exit}
use Rattle.answers.specs.declared.exit.Exit.TheVariants.{Memory}
use Rattle.answers.specs.Exits.{class_of}
use Rattle.mig_base.specs.declared.nets.Net.{Net}
use Rattle.board.specs.Joined.{Joined}
use Rattle.verdicts.specs.Outcomes.{◌>>=◌, Then}
use Rattle.verdicts.specs.JudgedBoard.{chip_held, chips_held, wiring_held, parts_held, LoadsChips, LoadsBoard}
use Rattle.verdicts.specs.HeldBoard.{jed_file, net_file}
use Rattle.palmig_top.specs.Steps.{Step, FailsAs}
use Rattle.mig_base.specs.Given.{AreMade}
use Rattle.mig_base.specs.Given.{IsMade}
use Rattle.palmig_top.proofs.Chains.{fell-on, none-fell, fails-on, some-map, some-both, broken, chained, then-found, bound, wanted}

-- the chip of a line
abbrev pub chip_at : Held → List ℕ → ChipLine → Result ChipCells Exit
chip_at held stem line = chip_held held (jed_file stem line.name) line.kind

-- what was made stands before what is still to come
abbrev pub behind : List ChipCells → Result (List ChipCells) Exit → Result (List ChipCells) Exit
behind made (Ok rest) = Ok (made ++ rest)
behind made (Err e) = Err e

-- what the chips from here on are judged is what all are judged, where files are told
pub record Told (stem : List ℕ) (lines left : List ChipLine) (made : List ChipCells) (h : Held) : Type 0 where
  pub judged : behind made (chips_held h stem left) ≡ chips_held h stem lines
  pub loads : (f : List ℕ) → LoadsChips h stem left f → LoadsChips h stem lines f

pub record ChipsSoFar (held now : Option Held) (before between : Counts) (stem : List ℕ) (lines left : List ChipLine) (made : List ChipCells) : Type 0 where
  pub same : now ≡ held
  pub later : NoneFell before between
  pub told : IfSome held (λ h. Told stem lines left made h)

behind-nil : (r : Result (List ChipCells) Exit) → behind [] r ≡ r
behind-nil (Ok rest) = refl
behind-nil (Err e) = refl

pub chips-begin : (held : Option Held) (before : Counts) (stem : List ℕ) (lines : List ChipLine) → ChipsSoFar held held before before stem lines lines []
chips-begin held before stem lines = record {
  same = refl;
  later = record { read_faults = omega arith; save_faults = omega arith; misses = omega arith };
  told = at held;
}
  where
    at : (o : Option Held) → IfSome o (λ h. Told stem lines lines [] h)
    at None = tt
    at (Some h) = record { judged = behind-nil (chips_held h stem lines); loads = λ f p. p }

behind-step : (made : List ChipCells) (cells : ChipCells) (r : Result (List ChipCells) Exit) →
    behind (made ++ cells ∷ []) r ≡ behind made (r >>= λ chips. Ok (cells ∷ chips))
behind-step made cells (Ok rest) = ap (λ (q : List ChipCells). Ok q) (append_assoc made (cells ∷ []) rest)
behind-step made cells (Err e) = refl

told-step : (stem : List ℕ) (lines left : List ChipLine) (line : ChipLine) (made : List ChipCells) (cells : ChipCells) (h : Held) →
    Told stem lines (line ∷ left) made h → chip_at h stem line ≡ Ok cells → Told stem lines left (made ++ cells ∷ []) h
told-step stem lines left line made cells h t e = record {
  judged = behind-step made cells (chips_held h stem left)
      ∙ sym (ap (λ (q : Result ChipCells Exit). behind made (q >>= λ c. chips_held h stem left >>= λ chips. Ok (c ∷ chips))) e) ∙ t.judged;
  loads = λ f p. t.loads f (inr (cells, e, p));
}

pub chips-step : (held now after : Option Held) (before between later : Counts) (stem : List ℕ) (lines left : List ChipLine) (line : ChipLine) (made : List ChipCells) (cells : ChipCells) →
    ChipsSoFar held now before between stem lines (line ∷ left) made →
    Step (λ c. c) (λ h q. chip_at h stem line ≡ q) (λ h f. f ≡ jed_file stem line.name) now after between later (Ok cells) →
    ChipsSoFar held after before later stem lines left (made ++ cells ∷ [])
chips-step held now after before between later stem lines left line made cells s p = record {
  same = p.same ∙ s.same;
  later = fell-on before between later s.later p.later;
  told = at held s.told (subst (λ (o : Option Held). IfSome o (λ h. chip_at h stem line ≡ Ok cells)) s.same p.gives);
}
  where
    at : (o : Option Held) → IfSome o (λ h. Told stem lines (line ∷ left) made h) → IfSome o (λ h. chip_at h stem line ≡ Ok cells) → IfSome o (λ h. Told stem lines left (made ++ cells ∷ []) h)
    at None t e = tt
    at (Some h) t e = told-step stem lines left line made cells h t e

-- a chip that fails
chip-failed : (stem : List ℕ) (lines left : List ChipLine) (line : ChipLine) (made : List ChipCells) (h : Held) (e : Exit) →
    Told stem lines (line ∷ left) made h → chip_at h stem line ≡ Err e → chips_held h stem lines ≡ Err e
chip-failed stem lines left line made h e t p =
    sym t.judged ∙ ap (λ (q : Result ChipCells Exit). behind made (q >>= λ c. chips_held h stem left >>= λ chips. Ok (c ∷ chips))) p

pub chips-fail : {X : Type 0} (view : X → List ChipCells) (held now after : Option Held) (before between later : Counts) (stem : List ℕ) (lines left : List ChipLine) (line : ChipLine) (made : List ChipCells) (e : Exit) →
    ChipsSoFar held now before between stem lines (line ∷ left) made →
    Step {X = ChipCells} (λ c. c) (λ h q. chip_at h stem line ≡ q) (λ h f. f ≡ jed_file stem line.name) now after between later (Err e) →
    Step view (λ h q. chips_held h stem lines ≡ q) (λ h f. LoadsChips h stem lines f) held after before later (Err e)
chips-fail view held now after before between later stem lines left line made e s p = record {
  same = p.same ∙ s.same;
  later = fell-on before between later s.later p.later;
  gives = fails-on (class_of e) (λ h (q : Result ChipCells Exit). chip_at h stem line ≡ q) (λ h (q : Result (List ChipCells) Exit). chips_held h stem lines ≡ q) (λ h f. f ≡ jed_file stem line.name) (λ h f. LoadsChips h stem lines f)
      held before between later e s.later
      (some-map (Told stem lines (line ∷ left) made) (λ h. chip_at h stem line ≡ Err e → chips_held h stem lines ≡ Err e) held (λ h t q. chip-failed stem lines left line made h e t q) s.told)
      (some-map (Told stem lines (line ∷ left) made) (λ h. (f : List ℕ) → f ≡ jed_file stem line.name → LoadsChips h stem lines f) held (λ h t f q. t.loads f (inl q)) s.told)
      (subst (λ (o : Option Held). FailsAs (class_of e) (λ h (q : Result ChipCells Exit). chip_at h stem line ≡ q) (λ h f. f ≡ jed_file stem line.name) o between later e) s.same p.gives);
}

append-nil : (made : List ChipCells) → made ++ [] ≡ made
append-nil [] = refl
append-nil (x ∷ xs) = ap (λ (q : List ChipCells). x ∷ q) (append-nil xs)

pub chips-end : {X : Type 0} (view : X → List ChipCells) (held now : Option Held) (before later : Counts) (stem : List ℕ) (lines : List ChipLine) (x : X) →
    ChipsSoFar held now before later stem lines [] (view x) →
    Step view (λ h q. chips_held h stem lines ≡ q) (λ h f. LoadsChips h stem lines f) held now before later (Ok x)
chips-end view held now before later stem lines x s = record { same = s.same; later = s.later; gives = at held s.told }
  where
    at : (o : Option Held) → IfSome o (λ h. Told stem lines [] (view x) h) → IfSome o (λ h. chips_held h stem lines ≡ Ok (view x))
    at None t = tt
    at (Some h) t = sym t.judged ∙ ap (λ (q : List ChipCells). Ok q) (append-nil (view x))

-- want of memory on the way
pub chips-want : {X : Type 0} (view : X → List ChipCells) (held now : Option Held) (before later : Counts) (stem : List ℕ) (lines left : List ChipLine) (made : List ChipCells) →
    ChipsSoFar held now before later stem lines left made →
    Step {X = X} view (λ h q. chips_held h stem lines ≡ q) (λ h f. LoadsChips h stem lines f) held now before later (Err Memory)
chips-want view held now before later stem lines left made s = wanted view (λ h q. chips_held h stem lines ≡ q) (λ h f. LoadsChips h stem lines f) held now before later s.same s.later

-- some fuses make one more chip
pub read-more : (lines left : List ChipLine) (line : ChipLine) (made : List ChipCells) (cells : ChipCells) → AreMade lines made → IsMade line cells → AreMade (lines ++ line ∷ []) (made ++ cells ∷ [])
read-more [] left line [] cells p q = (q, tt)
read-more [] left line (c ∷ cs) cells p q = absurd p
read-more (l ∷ ls) left line [] cells p q = absurd p
read-more (l ∷ ls) left line (c ∷ cs) cells p q = (p.0, read-more ls left line cs cells p.1 q)

-- wiring, and then chips
abbrev pub with_net : Net → Result (List ChipCells) Exit → Result Joined Exit
with_net net r = r >>= λ chips. Ok (record { net = net; chips = chips })

-- the wiring, and then the chips
parts-bound : (stem : List ℕ) (h : Held) (q : Result Joined Exit) →
    Then (λ r. wiring_held h stem ≡ r) (λ (n : Net) r. with_net n (chips_held h stem n.chips) ≡ r) q → parts_held h stem ≡ q
parts-bound stem h q t = bound (wiring_held h stem) (λ n. with_net n (chips_held h stem n.chips)) q t

pub wiring-failed : {X : Type 0} (view : X → Joined) (held after : Option Held) (before now : Counts) (stem : List ℕ) (e : Exit) →
    Step {X = Net} (λ n. n) (λ h q. wiring_held h stem ≡ q) (λ h f. f ≡ net_file stem) held after before now (Err e) →
    Step view (λ h q. parts_held h stem ≡ q) (λ h f. LoadsBoard h stem f) held after before now (Err e)
wiring-failed view held after before now stem e p =
    broken (λ (n : Net). n) view (λ h q. wiring_held h stem ≡ q) (λ h (n : Net) r. with_net n (chips_held h stem n.chips) ≡ r) (λ h q. parts_held h stem ≡ q) (λ h f. f ≡ net_file stem) (λ h f. LoadsBoard h stem f)
    held after before now e (parts-bound stem) (λ h f l. inl l) p

pub parts-failed : {X V : Type 0} (view : X → Joined) (items : V → List ChipCells) (held mid after : Option Held) (before between now : Counts) (stem : List ℕ) (net : Net) (e : Exit) →
    Step (λ (n : Net). n) (λ h q. wiring_held h stem ≡ q) (λ h f. f ≡ net_file stem) held mid before between (Ok net) →
    Step {X = V} items (λ h q. chips_held h stem net.chips ≡ q) (λ h f. LoadsChips h stem net.chips f) mid after between now (Err e) →
    Step view (λ h q. parts_held h stem ≡ q) (λ h f. LoadsBoard h stem f) held after before now (Err e)
parts-failed view items held mid after before between now stem net e p q =
    chained (λ (n : Net). n) view (λ h r. wiring_held h stem ≡ r) (λ h (n : Net) r. with_net n (chips_held h stem n.chips) ≡ r) (λ h r. parts_held h stem ≡ r)
    (λ h f. f ≡ net_file stem) (λ h f. LoadsChips h stem net.chips f) (λ h f. LoadsBoard h stem f) held mid after before between now net (Err e)
    (parts-bound stem) (λ h f j l. inr (net, j, l)) p
    (broken items view (λ h r. chips_held h stem net.chips ≡ r) (λ h chips r. Ok (record { net = net; chips = chips }) ≡ r) (λ h r. with_net net (chips_held h stem net.chips) ≡ r)
    (λ h f. LoadsChips h stem net.chips f) (λ h f. LoadsChips h stem net.chips f) mid after between now e
    (λ h r t. bound (chips_held h stem net.chips) (λ chips. Ok (record { net = net; chips = chips })) r t) (λ h f l. l) q)

pub parts-made : {V : Type 0} (items : V → List ChipCells) (held mid after : Option Held) (before between now : Counts) (stem : List ℕ) (net : Net) (x : V) →
    Step (λ (n : Net). n) (λ h q. wiring_held h stem ≡ q) (λ h f. f ≡ net_file stem) held mid before between (Ok net) →
    Step {X = V} items (λ h q. chips_held h stem net.chips ≡ q) (λ h f. LoadsChips h stem net.chips f) mid after between now (Ok x) →
    Step (λ (p : Joined). p) (λ h q. parts_held h stem ≡ q) (λ h f. LoadsBoard h stem f) held after before now (Ok (record { net = net; chips = items x }))
parts-made items held mid after before between now stem net x p q =
    chained (λ (n : Net). n) (λ (p : Joined). p) (λ h r. wiring_held h stem ≡ r) (λ h (n : Net) r. with_net n (chips_held h stem n.chips) ≡ r) (λ h r. parts_held h stem ≡ r)
    (λ h f. f ≡ net_file stem) (λ h f. LoadsChips h stem net.chips f) (λ h f. LoadsBoard h stem f) held mid after before between now net (Ok (record { net = net; chips = items x }))
    (parts-bound stem) (λ h f j l. inr (net, j, l)) p
    (then-found items (λ (p : Joined). p) (λ h r. chips_held h stem net.chips ≡ r) (λ chips r. Ok (record { net = net; chips = chips }) ≡ r) (λ h r. with_net net (chips_held h stem net.chips) ≡ r)
    (λ h f. LoadsChips h stem net.chips f) mid after between now x (Ok (record { net = net; chips = items x }))
    (λ h r t. bound (chips_held h stem net.chips) (λ chips. Ok (record { net = net; chips = chips })) r t) q refl)
