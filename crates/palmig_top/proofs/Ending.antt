-- From the steps of a command to its answer.
use Rattle.std.proofs.Common.{ℕ, ◌≡◌, ◌≢◌, true, List, [], Option, Some, None, Result, Ok, Err, refl, sym, ap, ◌∙◌, subst, inl, inr}
use Rattle.std.specs.Prelude.{IfSome, IfOk}
use Rattle.std.specs.Option.{option_map}
use Rattle.mig_base.specs.declared.nets.NetLine.{NetLine}
use Rattle.mig_io.specs.Counts.{Counts, Rose, NoneFell}
use Rattle.mig_io.specs.Holding.{Held}
use Rattle.answers.specs.declared.exit.Exit.{Exit}
use Rattle.answers.specs.declared.exit.Exit.TheVariants.{Memory}
use Rattle.answers.specs.declared.words.Command.{Command}
use Rattle.answers.specs.Exits.{Class, class_of, is_own}
use Rattle.answers.specs.Exits.Class.{Worded, Judged, Missed, Unread, Unsaved, Unsent, Wanting}
use Rattle.answers.specs.Commands.{IsSaid, IsRefusedAs}
use Rattle.answers.specs.Reports.{answer_report}
use Rattle.answers.proofs.OwnReports.{own-report}
use Rattle.verdicts.specs.Outcomes.{File, Outcome, Ends, EndsWith, told}
use Rattle.verdicts.specs.Verdict.{JudgesSaid, LoadsSaid, Judges, LoadsFor}
use Rattle.verdicts.specs.Answer.{Call, Answers, AnswersAs, Comes, FilesAs, Partly, ReportAs, IsReport, IsCommand, placed_all}
use Rattle.verdicts.specs.Clauses.{Keeps}
use Rattle.palmig_top.specs.declared.prepared.Prepared.{Prepared}
use Rattle.palmig_top.specs.Preparing.{outcome_in}
use Rattle.palmig_top.specs.Saving.{SavesAll, FailsAllAs}
use Rattle.palmig_top.specs.Steps.{Step, FailsAs, IsEnd}
use Rattle.palmig_top.specs.Concluding.{Puts, Finished, Refuses, Concludes, answer_of, text_of}
use Rattle.palmig_top.proofs.Chains.{fell-on, none-fell, rose-before, always, some-map, some-both}
use Rattle.palmig_top.proofs.Promises.{sink_of, keeps}

-- an answer, and its report as the verdict says it
pub record Answered (c : Class) (call : Call) (e : Exit) (text : List ℕ) : Type 0 where
  pub right : AnswersAs c call e
  pub report : IfSome call.held (λ h. ReportAs c call h e text)

-- where files are told and are as they were
unchanged : (P Q : Held → Type 0) (o after : Option Held) → after ≡ o → ((h : Held) → after ≡ Some h → P h → Q h) → IfSome o P → IfSome o Q
unchanged P Q None after same f p = tt
unchanged P Q (Some h) after same f p = f h same p

untouched : (o after : Option Held) → after ≡ o → IfSome o (λ h. after ≡ Some h)
untouched None after same = tt
untouched (Some h) after same = same

abbrev comes : (call : Call) (nets : List NetLine) (e : Exit) (h : Held) → JudgesSaid call.said h (told nets e) → Comes call.said h e
comes call nets e h j = record { outcome = told nets e; judged = j; its_answer = refl }

-- a step failed before all saves
failed : {Y : Type 0} (c : Class) (call : Call) (judge : Held → Result Y Exit → Type 0) (loads : Held → List ℕ → Type 0) (nets : List NetLine) (e : Exit) → IsCommand call.said → call.after ≡ call.held →
    ((h : Held) → judge h (Err e) → JudgesSaid call.said h (told nets e)) → ((h : Held) (f : List ℕ) → loads h f → LoadsSaid call.said h f) →
    FailsAs c judge loads call.held call.before call.now e → Answered c call e (answer_report nets e)
failed Judged call judge loads nets e command same judged loaded p = record {
  right = record {
    verdict = (command, p.0, some-map (λ h. judge h (Err e)) (λ h. Comes call.said h e) call.held (λ h j. comes call nets e h (judged h j)) p.1);
    caused = tt;
    files = unchanged (λ h. judge h (Err e)) (λ h. FilesAs Judged call h e) call.held call.after same (λ h after j. (comes call nets e h (judged h j), after)) p.1;
    reported = λ q. let no : ⊥ = cc in no;
  };
  report = some-map (λ h. judge h (Err e)) (λ h. ReportAs Judged call h e (answer_report nets e)) call.held (λ h j. (comes call nets e h (judged h j), refl)) p.1;
}
failed (Missed f) call judge loads nets e command same judged loaded p = record {
  right = record {
    verdict = (command, some-map (λ h. judge h (Err e)) (λ h. Comes call.said h e) call.held (λ h j. comes call nets e h (judged h j)) p.1);
    caused = p.0;
    files = untouched call.held call.after same;
    reported = λ q. let no : ⊥ = cc in no;
  };
  report = always (λ h. Unit {0}) call.held (λ h. tt);
}
failed (Unread f) call judge loads nets e command same judged loaded p = record {
  right = record {
    verdict = command;
    caused = p.0;
    files = unchanged (λ h. loads h f) (λ h. FilesAs (Unread f) call h e) call.held call.after same (λ h after l. (after, loaded h f l)) p.1;
    reported = λ q. let no : ⊥ = cc in no;
  };
  report = always (λ h. Unit {0}) call.held (λ h. tt);
}
failed Wanting call judge loads nets e command same judged loaded p = record {
  right = record {
    verdict = tt;
    caused = tt;
    files = unchanged (λ h. Unit {0}) (λ h. FilesAs Wanting call h e) call.held call.after same (λ h after u. inl after) (always (λ h. Unit {0}) call.held (λ h. tt));
    reported = λ q. let no : ⊥ = cc in no;
  };
  report = always (λ h. Unit {0}) call.held (λ h. tt);
}
failed Worded call judge loads nets e command same judged loaded p = absurd p
failed (Unsaved f) call judge loads nets e command same judged loaded p = absurd p
failed Unsent call judge loads nets e command same judged loaded p = absurd p

-- a step failed, and its answer was told with these names
pub keeps-failed : {Y : Type 0} (call : Call) (judge : Held → Result Y Exit → Type 0) (loads : Held → List ℕ → Type 0) (nets : List NetLine) (e result : Exit) → IsCommand call.said → call.after ≡ call.held →
    NoneFell call.before call.now → ((h : Held) → judge h (Err e) → JudgesSaid call.said h (told nets e)) → ((h : Held) (f : List ℕ) → loads h f → LoadsSaid call.said h f) →
    FailsAs (class_of e) judge loads call.held call.before call.now e → Puts e (answer_report nets e) (sink_of call) result → Keeps call result
keeps-failed call judge loads nets e result command same later judged loaded p put =
    let a = failed (class_of e) call judge loads nets e command same judged loaded p in
    keeps call e (answer_report nets e) result (record { later = later; right = a.right }) (record { own = own-report nets e; judged = a.report }) put

-- words that are refused alone
said : (c : Class) (call : Call) (e : Exit) → call.after ≡ call.held → IsRefusedAs c call.said e → AnswersAs c call e
said Worded call e same p = record { verdict = p; caused = tt; files = untouched call.held call.after same; reported = λ q. let no : ⊥ = cc in no }
said Wanting call e same p = record {
  verdict = tt;
  caused = tt;
  files = unchanged (λ h. Unit {0}) (λ h. FilesAs Wanting call h e) call.held call.after same (λ h after u. inl after) (always (λ h. Unit {0}) call.held (λ h. tt));
  reported = λ q. let no : ⊥ = cc in no;
}
said Judged call e same p = absurd p
said (Missed f) call e same p = absurd p
said (Unread f) call e same p = absurd p
said (Unsaved f) call e same p = absurd p
said Unsent call e same p = absurd p

said-report : (c : Class) (call : Call) (h : Held) (e : Exit) (text : List ℕ) → IsRefusedAs c call.said e → ReportAs c call h e text
said-report Judged call h e text p = absurd p
said-report Worded call h e text p = tt
said-report (Missed f) call h e text p = tt
said-report (Unread f) call h e text p = tt
said-report (Unsaved f) call h e text p = tt
said-report Unsent call h e text p = tt
said-report Wanting call h e text p = tt

pub keeps-said : (call : Call) (e result : Exit) → IsRefusedAs (class_of e) call.said e → call.after ≡ call.held → call.now ≡ call.before → Puts e (answer_report [] e) (sink_of call) result → Keeps call result
keeps-said call e result p same counts put =
    keeps call e (answer_report [] e) result (record {
      later = subst (λ (n : Counts). NoneFell call.before n) (sym counts) (none-fell call.before);
      right = said (class_of e) call e same p;
    })
    (record { own = λ own. refl; judged = always (λ h. ReportAs (class_of e) call h e (answer_report [] e)) call.held (λ h. said-report (class_of e) call h e (answer_report [] e) p) }) put

-- all is saved
pub saved-whole : (call : Call) (o : Outcome) → IsCommand call.said → IsEnd o → IfSome call.held (λ h. JudgesSaid call.said h o) → call.after ≡ option_map (placed_all o.saves) call.held →
    Answered Judged call o.answer o.report
saved-whole call o command end judged saved = record {
  right = record {
    verdict = (command, end.sound, some-map (JudgesHere) (λ h. Comes call.said h o.answer) call.held (λ h j. whole h j) judged);
    caused = tt;
    files = placed call.held saved judged;
    reported = λ q. let no : ⊥ = cc in no;
  };
  report = some-map (JudgesHere) (λ h. ReportAs Judged call h o.answer o.report) call.held (λ h j. (whole h j, refl)) judged;
}
  where
    JudgesHere : Held → Type 0
    JudgesHere h = JudgesSaid call.said h o

    whole : (h : Held) → JudgesSaid call.said h o → Comes call.said h o.answer
    whole h j = record { outcome = o; judged = j; its_answer = refl }

    placed : (held : Option Held) → call.after ≡ option_map (placed_all o.saves) held → IfSome held (λ h. JudgesSaid call.said h o) → IfSome held (λ h. FilesAs Judged call h o.answer)
    placed None s j = tt
    placed (Some h) s j = (whole h j, s)

partly-before : (fs : List File) (h : Held) (after : Option Held) (before between now : Counts) → NoneFell before between → Partly fs h after between now → Partly fs h after before now
partly-before fs h after before between now fell (inl p) = inl p
partly-before fs h after before between now fell (inr p) = inr (rose-before before.save_faults between.save_faults now.save_faults fell.save_faults p.0, p.1)

-- a save failed
saved-part : (c : Class) (call : Call) (between : Counts) (o : Outcome) (e : Exit) → IsCommand call.said → NoneFell call.before between → IfSome call.held (λ h. JudgesSaid call.said h o) →
    FailsAllAs c o.saves call.held call.after between call.now → Answered c call e (answer_report [] e)
saved-part (Unsaved f) call between o e command fell judged p = record {
  right = record {
    verdict = command;
    caused = rose-before call.before.save_faults between.save_faults call.now.save_faults fell.save_faults p.0;
    files = some-both (λ h. JudgesSaid call.said h o) _ (λ h. FilesAs (Unsaved f) call h e) call.held (λ h j s. (o, j, s)) judged p.1;
    reported = λ q. let no : ⊥ = cc in no;
  };
  report = always (λ h. Unit {0}) call.held (λ h. tt);
}
saved-part Wanting call between o e command fell judged p = record {
  right = record {
    verdict = tt;
    caused = tt;
    files = some-both (λ h. JudgesSaid call.said h o) (λ h. Partly o.saves h call.after between call.now) (λ h. FilesAs Wanting call h e) call.held
        (λ h j s. inr (o, j, partly-before o.saves h call.after call.before between call.now fell s)) judged p;
    reported = λ q. let no : ⊥ = cc in no;
  };
  report = always (λ h. Unit {0}) call.held (λ h. tt);
}
saved-part Worded call between o e command fell judged p = absurd p
saved-part Judged call between o e command fell judged p = absurd p
saved-part (Missed f) call between o e command fell judged p = absurd p
saved-part (Unread f) call between o e command fell judged p = absurd p
saved-part Unsent call between o e command fell judged p = absurd p

-- all was prepared, and then saved or not
pub keeps-saving : (call : Call) (between : Counts) (o : Outcome) (saved : Result (Unit {0}) Exit) (result : Exit) → IsCommand call.said → IsEnd o → IfSome call.held (λ h. JudgesSaid call.said h o) →
    NoneFell call.before between → NoneFell between call.now → SavesAll o.saves call.held call.after between call.now saved → Puts (answer_of o saved) (text_of o saved) (sink_of call) result → Keeps call result
keeps-saving call between o (Ok done) result command end judged fell later saves put =
    let a = saved-whole call o command end judged saves in
    keeps call o.answer o.report result (record {
      later = fell-on call.before between call.now fell later;
      right = subst (λ (c : Class). AnswersAs c call o.answer) (sym end.class) a.right;
    })
    (record { own = end.own; judged = subst (λ (c : Class). IfSome call.held (λ h. ReportAs c call h o.answer o.report)) (sym end.class) a.report }) put
keeps-saving call between o (Err e) result command end judged fell later saves put =
    let a = saved-part (class_of e) call between o e command fell judged saves in
    keeps call e (answer_report [] e) result (record { later = fell-on call.before between call.now fell later; right = a.right }) (record { own = λ own. refl; judged = a.report }) put

-- a command that was prepared, or why not, and then brought to its end
pub keeps-concluded : (call : Call) (c : Command) (judge : Held → Result Outcome Exit → Type 0) (mid : Option Held) (between : Counts) (r : Result Prepared Exit) (result : Exit) → call.said ≡ Ok c →
    ((h : Held) (o : Outcome) → EndsWith (judge h) o → JudgesSaid call.said h o) → ((h : Held) (f : List ℕ) → LoadsFor c h f → LoadsSaid call.said h f) →
    Step outcome_in judge (LoadsFor c) call.held mid call.before between r → IfOk r (λ p. IsEnd (outcome_in p)) →
    Concludes r mid call.after between call.now (sink_of call) result → Keeps call result
keeps-concluded call c judge mid between (Ok x) result w judged loaded p end f =
    keeps-saving call between (outcome_in x) f.saved result (c, w) end
    (some-map (λ h. judge h (Ok (outcome_in x))) (λ h. JudgesSaid call.said h (outcome_in x)) call.held (λ h j. judged h (outcome_in x) (inl (outcome_in x, j, refl))) p.gives)
    p.later f.later (subst (λ (o : Option Held). SavesAll (outcome_in x).saves o call.after between call.now f.saved) p.same f.saves) f.put
keeps-concluded call c judge mid between (Err e) result w judged loaded p end f =
    keeps-failed call judge (LoadsFor c) [] e result (c, w) (f.same ∙ p.same) (subst (λ (n : Counts). NoneFell call.before n) (sym f.counts) p.later)
    (λ h j. judged h (told [] e) (inr (e, j, refl))) loaded
    (subst (λ (n : Counts). FailsAs (class_of e) judge (LoadsFor c) call.held call.before n e) (sym f.counts) p.gives) f.put
