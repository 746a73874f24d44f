-- What a migration leaves.
use Rattle.std.proofs.Common.{ℕ, ◌≡◌, ◌⊎◌, true, false, List, map, Option, Some, None, Result, Ok, Err, refl, sym, ap, ◌∙◌, subst, inl, inr}
use Rattle.std.specs.Prelude.{IfSome}
use Rattle.mig_base.specs.declared.plans.Plan.{Plan}
use Rattle.mig_base.specs.Accepted.{IsAccepted}
use Rattle.mig_io.specs.Holding.{Held}
use Rattle.new_board.specs.declared.types.FittedChip.{FittedChip}
use Rattle.new_board.specs.NewFiles.{new_net}
use Rattle.new_board.specs.OneForOne.{one_for_one}
use Rattle.plans.specs.Breaches.{HasNoBreach}
use Rattle.plans.specs.Fitting.{AreFitted}
use Rattle.plan_build.proofs.PlanBuilt.{plan-built}
use Rattle.plan_build.proofs.BuiltTexts.{writable-chips}
use Rattle.taken_boards.specs.TakenBoards.{TakenBoard}
use Rattle.mig_base.specs.Given.{IsGiven}
use Rattle.rebuilt_boards.specs.RebuiltBoards.{built_chips, built_cells, built_net}
use Rattle.rebuilt_boards.proofs.TakenBoards.{taken-rebuilt}
use Rattle.rebuilt_boards.proofs.BuiltWell.{built-well}
use Rattle.answers.specs.declared.exit.Exit.{Exit}
use Rattle.answers.specs.declared.exit.Exit.TheVariants.{Done, Refused, Breached}
use Rattle.answers.specs.declared.exit.Refusal.TheVariants.{Later}
use Rattle.answers.specs.declared.exit.Refusal.TheVariants as refusal
use Rattle.answers.specs.declared.words.Command.{Command}
use Rattle.answers.specs.declared.words.Command.TheVariants.{Migrate}
use Rattle.answers.specs.declared.words.Migration.{Migration}
use Rattle.board.specs.Joined.{Joined, equations_of}
use Rattle.verdicts.specs.HeldBoard.{net_file, plan_file}
use Rattle.verdicts.specs.Outcomes.{Outcome}
use Rattle.verdicts.specs.Verdict.{JudgesSaid}
use Rattle.verdicts.specs.commands.Migrate.{JudgesMigration, PreparesMigration, MigratesBy, IsBroken, IsBuilt, migrated_or_later, migrated, saved_files, plan_files, plan_held, is_taken_board}
use Rattle.verdicts.specs.JudgedBoard.{JudgesBoard, parts_held}
use Rattle.verdicts.specs.Answer.{Call, Comes, Answers, LeavesFiles, placed_all}
use Rattle.verdicts.specs.Clauses.{IsMigrated, Migrated, MigratedBy, MigratedWith}
use Rattle.palmig_top.proofs.HeldParts.{board-parts, board-accepted, only, taken-board, read-writable}
use Rattle.palmig_top.proofs.NewFilesMade.{writable-from}
use Rattle.palmig_top.proofs.HandedPlan.{plan-read}
use Rattle.palmig_top.proofs.NotDone.{is_done, plain-only, plain-plan, board-plain}
use Rattle.palmig_top.proofs.NewBoards.{Judged, judged-parts, ok-same, new-board}

moved : (h : Held) (old new : List ℕ) (parts : Joined) → Judged h old parts → TakenBoard parts.net parts.chips → Migrated h (placed_all (saved_files new parts) h) old new
moved h old new parts j taken =
    let rebuilt = taken-rebuilt parts.net parts.chips taken in
    let well = built-well parts.net parts.chips (read-writable parts.net (j.bytes, j.text)) taken in
    record {
      old_parts = parts;
      new_net = built_net parts.net parts.chips;
      new_cells = built_cells parts.net parts.chips;
      old_board = record {
        bytes = j.bytes;
        file = j.file;
        wiring = j.text;
        fuses = j.chips;
        accepted = rebuilt.old_accepted;
      };
      new_board = new-board h new parts.net (one_for_one parts.net parts.chips) (built_chips parts.net parts.chips)
          (writable-from (built_chips parts.net parts.chips) well.kinds well.cells) well.wiring rebuilt.new_accepted;
      same = rebuilt.same;
      as_many = rebuilt.as_many;
      wiring = refl;
      cells = refl;
    }

moved-from : (m : Migration) (h : Held) (outcome : Outcome) (b : Joined) → parts_held h m.old ≡ Ok b → migrated_or_later m b ≡ Ok outcome → Migrated h (placed_all outcome.saves h) m.old m.new
moved-from m h outcome b e then =
    let o = only (is_taken_board b) (migrated m.new b) outcome (Refused (Later (net_file m.old))) then in
    let j = judged-parts h m.old b e in
    subst (λ (q : Outcome). Migrated h (placed_all q.saves h) m.old m.new) o.same
    (moved h m.old m.new b j (taken-board b (record { wiring = (j.bytes, j.text); chips = j.read }) o.passed))

-- a handed plan without breach has moved the board
moved-by : (h : Held) (old new stem : List ℕ) (b : Joined) (p : Plan) (chips : List FittedChip) → JudgesBoard old h (Ok b) → plan_held h (plan_file stem) ≡ Ok p → HasNoBreach b p → AreFitted b p chips →
    MigratedBy h (placed_all (plan_files new b p chips) h) old new stem
moved-by h old new stem b p chips judged handed free fitted =
    let j = judged-parts h old b (board-parts h old b judged) in
    let accepted : IsAccepted (equations_of b) = board-accepted h old b judged in
    let given : IsGiven b.net b.chips = record { wiring = read-writable b.net (j.bytes, j.text); cells = j.read } in
    let made = plan-built b p chips given accepted (plan-read h (plan_file stem) p handed) free fitted in
    record {
      old_parts = b;
      plan = p;
      chips = chips;
      made_net = new_net b.net chips;
      made_cells = map (λ f. f.cells) chips;
      old_board = record { bytes = j.bytes; file = j.file; wiring = j.text; fuses = j.chips; accepted = accepted };
      new_board = new-board h new b.net p chips (writable-chips chips made.well.cells made.well.gals) made.well.wiring made.accepted;
      same = made.same;
      handed = handed;
      free = free;
      fitted = fitted;
      wiring = refl;
      cells = refl;
    }

-- what a handed plan comes to has moved the board where it is done
plan-moved : (m : Migration) (stem : List ℕ) (h : Held) (b : Joined) (p : Plan) (o : Outcome) → JudgesBoard m.old h (Ok b) → plan_held h (plan_file stem) ≡ Ok p → IsBroken b p o ⊎ IsBuilt m.new b p o →
    o.answer ≡ Done → MigratedBy h (placed_all o.saves h) m.old m.new stem
plan-moved m stem h b p o judged handed (inl x) done = absurd (let e : Breached x.first ≡ Done = ap (λ (q : Outcome). q.answer) (sym x.comes) ∙ done in let no : ⊥ = cc in no)
plan-moved m stem h b p o judged handed (inr x) done =
    subst (λ (q : Outcome). MigratedBy h (placed_all q.saves h) m.old m.new stem) (sym x.comes) (moved-by h m.old m.new stem b p x.chips judged handed x.free x.fitted)

by-plan-moved : (m : Migration) (handed : Option (List ℕ)) (h : Held) (b : Joined) (o : Outcome) → JudgesBoard m.old h (Ok b) → MigratesBy m handed h b (Ok o) → o.answer ≡ Done →
    MigratedWith handed h (placed_all o.saves h) m.old m.new
by-plan-moved m None h b o judged p done = moved-from m h o b (board-parts h m.old b judged) p
by-plan-moved m (Some stem) h b o judged (inl p) done =
    plan-moved m stem h b p.0 o judged p.1 (subst (λ (q : Outcome). IsBroken b p.0 q ⊎ IsBuilt m.new b p.0 q) (sym (ok-same o p.2.0 p.2.1)) p.2.2) done
by-plan-moved m (Some stem) h b o judged (inr p) done = absurd (let no : ⊥ = cc in no)

prepared-moved : (m : Migration) (h : Held) (outcome : Outcome) → PreparesMigration m h (Ok outcome) → outcome.answer ≡ Done → MigratedWith m.plan h (placed_all outcome.saves h) m.old m.new
prepared-moved m h outcome (inl p) done = by-plan-moved m m.plan h p.0 outcome p.1 p.2 done
prepared-moved m h outcome (inr p) done = absurd (let no : ⊥ = cc in no)

-- no refusal of a migration is Done
plan-plain : (m : Migration) (handed : Option (List ℕ)) (h : Held) (b : Joined) (e : Exit) → MigratesBy m handed h b (Err e) → is_done e ≡ false
plan-plain m None h b e p = plain-only (is_taken_board b) (migrated m.new b) (Refused (Later (net_file m.old))) refl e p
plan-plain m (Some stem) h b e (inl p) = absurd (let no : ⊥ = cc in no)
plan-plain m (Some stem) h b e (inr p) = let same : e ≡ p.0 = cc in ap is_done same ∙ plain-plan h (plan_file stem) p.0 p.1

refused-plain : (m : Migration) (h : Held) (e : Exit) → PreparesMigration m h (Err e) → is_done e ≡ false
refused-plain m h e (inl p) = plan-plain m m.plan h p.0 e p.2
refused-plain m h e (inr p) = let same : e ≡ p.0 = cc in ap is_done same ∙ board-plain h m.old p.0 p.1

-- a migration that is done has moved the board
judged-moved : (m : Migration) (h : Held) (outcome : Outcome) → JudgesMigration m h outcome → outcome.answer ≡ Done → MigratedWith m.plan h (placed_all outcome.saves h) m.old m.new
judged-moved m h outcome (inl p) done = subst (λ (q : Outcome). MigratedWith m.plan h (placed_all q.saves h) m.old m.new) (sym p.2)
    (prepared-moved m h p.0 p.1 (ap (λ (q : Outcome). q.answer) (sym p.2) ∙ done))
judged-moved m h outcome (inr p) done =
    let plain : is_done p.0 ≡ false = refused-plain m h p.0 p.1 in
    let same : p.0 ≡ Done = ap (λ (q : Outcome). q.answer) (sym p.2) ∙ done in
    let wrong : true ≡ false = sym (ap is_done same) ∙ plain in
    absurd (let no : ⊥ = cc in no)

done-moved : (call : Call) (held after : Option Held) → IfSome held (λ h. (c : Comes call.said h Done) × (after ≡ Some (placed_all c.outcome.saves h))) →
    IfSome held (λ h. IfSome after (λ k. (m : Migration) → call.said ≡ Ok (Migrate m) → MigratedWith m.plan h k m.old m.new))
done-moved call None after p = tt
done-moved call (Some h) None p = tt
done-moved call (Some h) (Some k) p = λ m w.
    let same : k ≡ placed_all p.0.outcome.saves h = cc in
    subst (λ (q : Held). MigratedWith m.plan h q m.old m.new) (sym same)
    (judged-moved m h p.0.outcome (subst (λ (q : Result Command Exit). JudgesSaid q h p.0.outcome) w p.0.judged) p.0.its_answer)

pub headline : (call : Call) (e : Exit) → Answers call e → IsMigrated call e
headline call e a = λ done. done-moved call call.held call.after (subst (λ (x : Exit). LeavesFiles call x) done a.right.files)
