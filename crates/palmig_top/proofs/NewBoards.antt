-- The board that new files form.
use Rattle.std.proofs.Common.{ℕ, ◌≡◌, true, List, [], ◌∷◌, ◌++◌, map, Some, Result, Ok, refl, sym, ap, ◌∙◌, subst, append_assoc}
use Rattle.std.specs.List.{AllByRecursion}
use Rattle.std.specs.Str.{bytes_eq}
use Rattle.mig_base.specs.declared.nets.Net.{Net}
use Rattle.mig_base.specs.declared.plans.Plan.{Plan}
use Rattle.mig_base.specs.Accepted.{IsAccepted}
use Rattle.mig_base.specs.Boards.{circuit}
use Rattle.mig_base.specs.Limits.{most_file_bytes}
use Rattle.mig_base.specs.WrittenBoard.{written_net, are_distinct, IsWritable}
use Rattle.mig_base.specs.WrittenPlan.{written_plan}
use Rattle.mig_base.specs.BoardText.{net_of_text}
use Rattle.net_text.proofs.BoardReadBack.{written-read}
use Rattle.net_text.proofs.WrittenLength.{written-short}
use Rattle.mig_io.specs.Holding.{Held}
use Rattle.new_board.specs.declared.types.FittedChip.{FittedChip}
use Rattle.new_board.specs.Files.{file_under, files_of}
use Rattle.new_board.specs.NewFiles.{new_chip_line, new_net}
use Rattle.built_files.specs.BoardFiles.{IsWritableChip}
use Rattle.mig_base.specs.Given.{AreMade}
use Rattle.answers.specs.declared.exit.Exit.{Exit}
use Rattle.answers.specs.declared.exit.Refusal.TheVariants as refusal
use Rattle.board.specs.Joined.{Joined}
use Rattle.verdicts.specs.HeldBoard.{HoldsBoard, HoldsChips, HoldsFile, net_file, plan_file}
use Rattle.verdicts.specs.Outcomes.{◌>>=◌, File}
use Rattle.verdicts.specs.JudgedBoard.{loaded, wiring_of, wiring_held, chips_held, parts_held}
use Rattle.verdicts.specs.Answer.{placed_all}
use Rattle.palmig_top.proofs.HeldParts.{went, told, holds-file, chips-hold, chips-read}
use Rattle.palmig_top.proofs.NewFilesHeld.{chip_file, built-chips, apart-behind, last-placed}
use Rattle.palmig_top.proofs.NewFilesMade.{files-spread}

-- a board that was judged
pub record Judged (h : Held) (stem : List ℕ) (parts : Joined) : Type 0 where
  pub bytes : List ℕ
  pub file : HoldsFile h (net_file stem) bytes
  pub text : net_of_text bytes ≡ Ok parts.net
  pub chips : HoldsChips h stem parts.net.chips parts.chips
  pub read : AreMade parts.net.chips parts.chips

pub ok-same : {A : Type 0} (x y : A) → (let q : Result A Exit = Ok x in q) ≡ Ok y → x ≡ y
ok-same x y p = cc

pub judged-parts : (h : Held) (stem : List ℕ) (parts : Joined) → parts_held h stem ≡ Ok parts → Judged h stem parts
judged-parts h stem parts e =
    let a = went (wiring_held h stem) (λ net. chips_held h stem net.chips >>= λ chips. Ok (record { net = net; chips = chips })) parts e in
    let b = went (chips_held h stem a.at.chips) (λ chips. Ok (record { net = a.at; chips = chips })) parts a.then in
    let f = went (loaded h most_file_bytes (net_file stem)) (λ bytes. wiring_of (net_file stem) bytes) a.at a.begun in
    subst (Judged h stem) (ok-same (record { net = a.at; chips = b.at }) parts b.then) (record {
      bytes = f.at;
      file = holds-file h (net_file stem) f.at f.begun;
      text = told (refusal.Net (net_file stem)) (net_of_text f.at) a.at f.then;
      chips = chips-hold h stem a.at.chips b.at b.begun;
      read = chips-read h stem a.at.chips b.at b.begun;
    })

names-of : (fs : List FittedChip) → map (λ c. c.name) (map new_chip_line fs) ≡ map (λ f. f.name) fs
names-of [] = refl
names-of (f ∷ fs) = ap (λ (q : List (List ℕ)). f.name ∷ q) (names-of fs)

-- the fuse files and the plan
front : List ℕ → Plan → List FittedChip → List File
front stem p chips = map (chip_file stem) chips ++ (plan_file stem, written_plan p) ∷ []

-- the files of new chips, their plan and their wiring
abbrev pub made_files : List ℕ → Net → Plan → List FittedChip → List File
made_files stem net p chips = map (file_under stem) (files_of net p chips)

wiring-placed : (h : Held) (stem : List ℕ) (net : Net) (p : Plan) (chips : List FittedChip) → placed_all (made_files stem net p chips) h (net_file stem) ≡ Some (written_net (new_net net chips))
unfolding front
wiring-placed h stem net p chips = ap (λ (fs : List File). placed_all fs h (net_file stem)) (files-spread stem net p chips)
    ∙ ap (λ (fs : List File). placed_all fs h (net_file stem)) (sym (append_assoc (map (chip_file stem) chips) ((plan_file stem, written_plan p) ∷ []) ((net_file stem, written_net (new_net net chips)) ∷ [])))
    ∙ last-placed (front stem p chips) (net_file stem, written_net (new_net net chips)) h

chips-distinct : (net : Net) (chips : List FittedChip) → IsWritable (new_net net chips) → are_distinct bytes_eq (map (λ f. f.name) chips) ≡ true
chips-distinct net chips w = ap (are_distinct bytes_eq) (sym (names-of chips)) ∙ w.distinct_chips

-- the new files form the new board
pub new-board : (h : Held) (stem : List ℕ) (net : Net) (p : Plan) (chips : List FittedChip) → AllByRecursion IsWritableChip chips → IsWritable (new_net net chips) →
    IsAccepted (circuit (new_net net chips) (map (λ f. f.cells) chips)) → HoldsBoard (placed_all (made_files stem net p chips) h) stem (new_net net chips) (map (λ f. f.cells) chips)
new-board h stem net p chips w wiring accepted = record {
  bytes = written_net (new_net net chips);
  file = record { content = wiring-placed h stem net p chips; short = written-short (new_net net chips) wiring };
  wiring = written-read (new_net net chips) wiring;
  fuses = subst (λ (fs : List File). HoldsChips (placed_all fs h) stem (new_net net chips).chips (map (λ f. f.cells) chips)) (sym (files-spread stem net p chips))
      (built-chips stem ((plan_file stem, written_plan p) ∷ (net_file stem, written_net (new_net net chips)) ∷ [])
      (apart-behind stem (written_plan p) (written_net (new_net net chips))) chips h (chips-distinct net chips wiring) w);
  accepted = accepted;
}
