-- What a board that was loaded keeps.
use Rattle.std.proofs.Common.{ℕ, ◌≡◌, ◌≤◌, Bool, true, false, List, [], ◌∷◌, length, Option, Some, None, Result, Ok, Err, refl, sym, ap, ◌∙◌, subst, inl, inr}
use Rattle.std.specs.Prelude.{nat_le}
use Rattle.std.proofs.lemmas.Bool.{leb-true, and_parts}
use Rattle.mig_base.specs.declared.cells.ChipCells.{ChipCells}
use Rattle.mig_base.specs.declared.nets.Net.{Net}
use Rattle.mig_base.specs.declared.nets.ChipLine.{ChipLine}
use Rattle.mig_base.specs.Limits.{most_file_bytes}
use Rattle.mig_base.specs.FuseText.{fuses_of_text}
use Rattle.mig_base.specs.Cells.{cells_of}
use Rattle.mig_base.specs.Accepted.{IsAccepted}
use Rattle.mig_base.specs.WrittenBoard.{IsWritable}
use Rattle.net_text.proofs.BoardGiven.{given-writable}
use Rattle.mig_io.specs.Holding.{Held}
use Rattle.taken_boards.specs.TakenBoards.{is_taken_wiring, is_taken_form, TakenBoard}
use Rattle.mig_base.specs.Given.{AreMade, IsGiven}
use Rattle.rebuilt_boards.proofs.BoardForms.{writable-lines}
use Rattle.answers.specs.declared.exit.Exit.{Exit}
use Rattle.answers.specs.declared.exit.Exit.TheVariants.{Refused}
use Rattle.answers.specs.declared.exit.Refusal.{Refusal}
use Rattle.answers.specs.declared.exit.Refusal.TheVariants.{TooLong, Jed, Chip}
use Rattle.board.specs.Joined.{Joined, equations_of}
use Rattle.verdicts.specs.HeldBoard.{HoldsFile, HoldsChip, HoldsChips, jed_file}
use Rattle.verdicts.specs.Outcomes.{◌>>=◌, only_if, or_refused}
use Rattle.verdicts.specs.JudgedBoard.{within_at, loaded, chip_of, chip_held, chips_held, parts_held, JudgesBoard}
use Rattle.verdicts.specs.commands.Migrate.{is_taken_board}
use Rattle.palmig_top.specs.Reading.{IsReadWiring, IsReadBoard}

-- both steps of a chain that went well
pub record Went {A B : Type 0} (first : Result A Exit) (next : A → Result B Exit) (b : B) : Type 0 where
  pub at : A
  pub begun : first ≡ Ok at
  pub then : next at ≡ Ok b

pub went : {A B : Type 0} (first : Result A Exit) (next : A → Result B Exit) (b : B) → (first >>= next) ≡ Ok b → Went first next b
went (Ok a) next b e = record { at = a; begun = refl; then = e }
went (Err x) next b e = cc

pub record Only {A : Type 0} (test : Bool) (x y : A) : Type 0 where
  pub passed : test ≡ true
  pub same : x ≡ y

pub only : {A : Type 0} (test : Bool) (x y : A) (e : Exit) → only_if test x e ≡ Ok y → Only test x y
only true x y e p = record { passed = refl; same = ok-same x y p }
  where
    ok-same : {A : Type 0} (x y : A) → (let q : Result A Exit = Ok x in q) ≡ Ok y → x ≡ y
    ok-same x y p = cc
only false x y e p = cc

pub told : {A E : Type 0} (refusal : E → Refusal) (r : Result A E) (x : A) → or_refused refusal r ≡ Ok x → r ≡ Ok x
told refusal (Ok y) x e = ap (λ q. Ok q) (ok-same y x e)
  where
    ok-same : {A : Type 0} (x y : A) → (let q : Result A Exit = Ok x in q) ≡ Ok y → x ≡ y
    ok-same x y p = cc
told refusal (Err f) x e = cc

file-at : (most : ℕ) (name bytes : List ℕ) (o : Option (List ℕ)) → within_at most name o ≡ Ok bytes → (o ≡ Some bytes) × (length bytes ≤ most)
file-at most name bytes None e = cc
file-at most name bytes (Some b) e =
    let p = only (nat_le (length b) most) b bytes (Refused (TooLong name)) e in
    (ap (λ (q : List ℕ). Some q) p.same, subst (λ (q : List ℕ). length q ≤ most) p.same (leb-true (length b) most p.passed))

pub holds-file : (h : Held) (name bytes : List ℕ) → loaded h most_file_bytes name ≡ Ok bytes → HoldsFile h name bytes
holds-file h name bytes e = let p = file-at most_file_bytes name bytes (h name) e in record { content = p.0; short = p.1 }

-- the chips that are held
pub chip-holds : (h : Held) (stem : List ℕ) (line : ChipLine) (cells : ChipCells) → chip_held h (jed_file stem line.name) line.kind ≡ Ok cells → HoldsChip h stem line cells
chip-holds h stem line cells e =
    let name = jed_file stem line.name in
    let a = went (loaded h most_file_bytes name) (λ bytes. chip_of name line.kind bytes) cells e in
    let b = went (or_refused (Jed name) (fuses_of_text a.at)) (λ bits. or_refused (Chip name) (cells_of line.kind bits)) cells a.then in
    record {
      bytes = a.at;
      bits = b.at;
      file = holds-file h name a.at a.begun;
      fuses = told (Jed name) (fuses_of_text a.at) b.at b.begun;
      made = told (Chip name) (cells_of line.kind b.at) cells b.then;
    }

pub chips-hold : (h : Held) (stem : List ℕ) (lines : List ChipLine) (chips : List ChipCells) → chips_held h stem lines ≡ Ok chips → HoldsChips h stem lines chips
chips-hold h stem [] [] e = tt
chips-hold h stem [] (c ∷ cs) e = cc
chips-hold h stem (line ∷ lines) chips e =
    let a = went (chip_held h (jed_file stem line.name) line.kind) (λ cells. chips_held h stem lines >>= λ rest. Ok (cells ∷ rest)) chips e in
    let b = went (chips_held h stem lines) (λ rest. Ok (a.at ∷ rest)) chips a.then in
    subst (HoldsChips h stem (line ∷ lines)) (ok-same (a.at ∷ b.at) chips b.then) (chip-holds h stem line a.at a.begun, chips-hold h stem lines b.at b.begun)
  where
    ok-same : (x y : List ChipCells) → (let q : Result (List ChipCells) Exit = Ok x in q) ≡ Ok y → x ≡ y
    ok-same x y p = cc

-- the board that is held is the one that was read
pub board-parts : (h : Held) (stem : List ℕ) (b : Joined) → JudgesBoard stem h (Ok b) → parts_held h stem ≡ Ok b
board-parts h stem b (inl p) = p.1 ∙ ap (λ (q : Joined). Ok q) (sym p.2.0)
board-parts h stem b (inr p) = absurd (let no : ⊥ = cc in no)

-- a board that is judged is accepted
pub board-accepted : (h : Held) (stem : List ℕ) (b : Joined) → JudgesBoard stem h (Ok b) → IsAccepted (equations_of b)
board-accepted h stem b (inl p) = p.2.1
board-accepted h stem b (inr p) = absurd (let no : ⊥ = cc in no)

-- a board that was read, and is of the form that is taken
pub read-writable : (net : Net) → IsReadWiring net → IsWritable net
read-writable net r = given-writable r.0 net r.1

-- what was read makes a board
pub read-given : (parts : Joined) → IsReadBoard parts → IsGiven parts.net parts.chips
read-given parts r = record { wiring = read-writable parts.net r.wiring; cells = r.chips }

pub taken-board : (parts : Joined) → IsReadBoard parts → is_taken_board parts ≡ true → TakenBoard parts.net parts.chips
taken-board parts r taken =
    let writable = read-writable parts.net r.wiring in
    let both = and_parts (is_taken_wiring parts.net) (is_taken_form parts.net parts.chips) taken in
    record {
      wiring = both.0;
      names = writable.distinct_chips;
      lines = writable-lines parts.net writable;
      cells = r.chips;
      form = both.1;
    }

pub chips-read : (h : Held) (stem : List ℕ) (lines : List ChipLine) (chips : List ChipCells) → chips_held h stem lines ≡ Ok chips → AreMade lines chips
chips-read h stem lines chips e = from lines chips (chips-hold h stem lines chips e)
  where
    from : (lines : List ChipLine) (chips : List ChipCells) → HoldsChips h stem lines chips → AreMade lines chips
    from [] [] p = tt
    from [] (c ∷ cs) p = p
    from (line ∷ lines) [] p = p
    from (line ∷ lines) (c ∷ cs) p = ((p.0.bits, p.0.made), from lines cs p.1)
