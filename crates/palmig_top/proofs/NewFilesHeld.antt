-- The new files are held after they were placed.
use Rattle.std.proofs.Common.{ℕ, ◌≡◌, ◌≢◌, Bool, true, false, cond, ◌||◌, not, List, [], ◌∷◌, ◌++◌, map, length, Some, Ok, Err, refl, sym, ap, ◌∙◌, arith}
use Rattle.std.specs.Prelude.{codes}
use Rattle.std.specs.List.{AllByRecursion, list_any}
use Rattle.std.specs.Str.{bytes_eq}
use Rattle.std.proofs.lemmas.List.{append_cancel_left, append_cancel_right}
use Rattle.std.proofs.lemmas.Slice.Eq.{bytes_eq-Decides}
use Rattle.std.proofs.lemmas.Bool.{and_parts, not-true}
use Rattle.mig_base.specs.declared.cells.ChipCells.{ChipCells}
use Rattle.mig_base.specs.WrittenFuses.{written_fuses}
use Rattle.mig_base.specs.WrittenBoard.{are_distinct}
use Rattle.built_files.specs.BoardFiles.{IsWritableChip}
use Rattle.built_files.proofs.GalFuses.{read-back}
use Rattle.mig_io.specs.Holding.{Held, placed}
use Rattle.new_board.specs.declared.types.FittedChip.{FittedChip}
use Rattle.new_board.specs.Files.{chip_fuses, fuse_file, file_under}
use Rattle.new_board.specs.NewFiles.{new_chip_line}
use Rattle.verdicts.specs.HeldBoard.{HoldsChip, HoldsChips, net_file, plan_file, jed_file}
use Rattle.verdicts.specs.Outcomes.{File}
use Rattle.verdicts.specs.Answer.{placed_all}

-- none of these files has the name
abbrev pub Lacks : List ℕ → List File → Type 0
Lacks name fs = AllByRecursion (λ f. bytes_eq name f.0 ≡ false) fs

pub kept : (name : List ℕ) (fs : List File) (h : Held) → Lacks name fs → placed_all fs h name ≡ h name
kept name [] h p = refl
kept name (f ∷ fs) h p = kept name fs (placed f.0 (Some f.1) h) p.1 ∙ ap (λ (b : Bool). cond b (Some f.1) (h name)) p.0

pub same-name : (name : List ℕ) → bytes_eq name name ≡ true
same-name name = (bytes_eq-Decides name name).1 refl

other-name : (a b : List ℕ) → a ≢ b → bytes_eq a b ≡ false
other-name a b other = at (bytes_eq a b) refl
  where
    at : (q : Bool) → bytes_eq a b ≡ q → bytes_eq a b ≡ false
    at true e = absurd (other ((bytes_eq-Decides a b).0 e))
    at false e = e

pub last-placed : (fs : List File) (f : File) (h : Held) → placed_all (fs ++ f ∷ []) h f.0 ≡ Some f.1
last-placed [] f h = ap (λ (b : Bool). cond b (Some f.1) (h f.0)) (same-name f.0)
last-placed (g ∷ gs) f h = last-placed gs f (placed g.0 (Some g.1) h)

-- names of different endings are different
last_of : List ℕ → ℕ
last_of [] = 0
last_of (x ∷ []) = x
last_of (x ∷ y ∷ ys) = last_of (y ∷ ys)

last-append : (xs : List ℕ) (y : ℕ) (ys : List ℕ) → last_of (xs ++ y ∷ ys) ≡ last_of (y ∷ ys)
unfolding last_of
last-append [] y ys = refl
last-append (x ∷ []) y ys = refl
last-append (x ∷ z ∷ zs) y ys = last-append (z ∷ zs) y ys

jed-last : (stem chip : List ℕ) → last_of (jed_file stem chip) ≡ 100
unfolding last_of
jed-last stem chip = last-append (stem ++ 46 ∷ chip) 46 (codes "jed")

net-last : (stem : List ℕ) → last_of (net_file stem) ≡ 116
unfolding last_of
net-last stem = last-append (stem ++ []) 46 (codes "net")

plan-last : (stem : List ℕ) → last_of (plan_file stem) ≡ 110
unfolding last_of
plan-last stem = last-append (stem ++ []) 46 (codes "plan")

jed-not-net : (stem chip : List ℕ) → bytes_eq (jed_file stem chip) (net_file stem) ≡ false
jed-not-net stem chip = other-name (jed_file stem chip) (net_file stem) (λ e.
    let no : 100 ≡ 116 = sym (jed-last stem chip) ∙ ap last_of e ∙ net-last stem in absurd (let never : ⊥ = omega arith in never))

jed-not-plan : (stem chip : List ℕ) → bytes_eq (jed_file stem chip) (plan_file stem) ≡ false
jed-not-plan stem chip = other-name (jed_file stem chip) (plan_file stem) (λ e.
    let no : 100 ≡ 110 = sym (jed-last stem chip) ∙ ap last_of e ∙ plan-last stem in absurd (let never : ⊥ = omega arith in never))

same-tail : (a b : List ℕ) → 46 ∷ a ≡ 46 ∷ b → a ≡ b
same-tail a b e = cc

jed-names : (stem a b : List ℕ) → bytes_eq a b ≡ false → bytes_eq (jed_file stem a) (jed_file stem b) ≡ false
jed-names stem a b other = other-name (jed_file stem a) (jed_file stem b) (λ e.
    let inner : stem ++ 46 ∷ a ≡ stem ++ 46 ∷ b = append_cancel_right (stem ++ 46 ∷ a) (stem ++ 46 ∷ b) (46 ∷ codes "jed") e in
    let same : a ≡ b = same-tail a b (append_cancel_left stem (46 ∷ a) (46 ∷ b) inner) in
    let yes : bytes_eq a b ≡ true = (bytes_eq-Decides a b).1 same in
    let no : true ≡ false = sym yes ∙ other in absurd (let never : ⊥ = cc in never))

-- a chip's fuse file under a stem
abbrev pub chip_file : List ℕ → FittedChip → File
chip_file stem f = file_under stem (fuse_file f)

-- a chip whose fuse file is held
pub built-chip : (k : Held) (stem : List ℕ) (f : FittedChip) → IsWritableChip f → k (jed_file stem f.name) ≡ Some (written_fuses f.cells.kind (chip_fuses f.cells)) →
    HoldsChip k stem (new_chip_line f) f.cells
built-chip k stem f w content =
    let back = read-back f.cells w.kind w.cells in
    record {
      bytes = written_fuses f.cells.kind (chip_fuses f.cells);
      bits = chip_fuses f.cells;
      file = record { content = content; short = back.short };
      fuses = back.fuses;
      made = back.made;
    }

lacks-one : (stem name : List ℕ) (f : FittedChip) (fs : List FittedChip) (rest : List File) (b : Bool) → bytes_eq name f.name ≡ b → (b || list_any (bytes_eq name) (map (λ g. g.name) fs)) ≡ false →
    (list_any (bytes_eq name) (map (λ g. g.name) fs) ≡ false → Lacks (jed_file stem name) (map (chip_file stem) fs ++ rest)) → Lacks (jed_file stem name) (map (chip_file stem) (f ∷ fs) ++ rest)
lacks-one stem name f fs rest true q e more = cc
lacks-one stem name f fs rest false q e more = (jed-names stem name f.name q, more e)

lacks-named : (stem name : List ℕ) (fs : List FittedChip) → list_any (bytes_eq name) (map (λ f. f.name) fs) ≡ false → (rest : List File) → Lacks (jed_file stem name) rest →
    Lacks (jed_file stem name) (map (chip_file stem) fs ++ rest)
lacks-named stem name [] e rest p = p
lacks-named stem name (f ∷ fs) e rest p = lacks-one stem name f fs rest (bytes_eq name f.name) refl e (λ (more : list_any (bytes_eq name) (map (λ g. g.name) fs) ≡ false). lacks-named stem name fs more rest p)

-- the fuse files of all chips
pub built-chips : (stem : List ℕ) (rest : List File) → ((name : List ℕ) → Lacks (jed_file stem name) rest) → (fs : List FittedChip) (h : Held) →
    are_distinct bytes_eq (map (λ f. f.name) fs) ≡ true → AllByRecursion IsWritableChip fs →
    HoldsChips (placed_all (map (chip_file stem) fs ++ rest) h) stem (map new_chip_line fs) (map (λ f. f.cells) fs)
built-chips stem rest apart [] h distinct w = tt
built-chips stem rest apart (f ∷ fs) h distinct w =
    let parts = and_parts (not (list_any (bytes_eq f.name) (map (λ g. g.name) fs))) (are_distinct bytes_eq (map (λ g. g.name) fs)) distinct in
    let content : placed_all (map (chip_file stem) (f ∷ fs) ++ rest) h (jed_file stem f.name) ≡ Some (written_fuses f.cells.kind (chip_fuses f.cells)) =
    kept (jed_file stem f.name) (map (chip_file stem) fs ++ rest) (placed (chip_file stem f).0 (Some (chip_file stem f).1) h) (lacks-named stem f.name fs (not-true _ parts.0) rest (apart f.name))
    ∙ ap (λ (b : Bool). cond b (Some (chip_file stem f).1) (h (jed_file stem f.name))) (same-name (jed_file stem f.name)) in (
      built-chip (placed_all (map (chip_file stem) (f ∷ fs) ++ rest) h) stem f w.0 content,
      built-chips stem rest apart fs (placed (chip_file stem f).0 (Some (chip_file stem f).1) h) parts.1 w.1,
    )

-- the plan and the wiring stand behind them
pub apart-behind : (stem plan net : List ℕ) (name : List ℕ) → Lacks (jed_file stem name) ((plan_file stem, plan) ∷ (net_file stem, net) ∷ [])
apart-behind stem plan net name = (jed-not-plan stem name, (jed-not-net stem name, tt))
