-- What a call promises, from its answer and the sending of its report.
use Rattle.std.proofs.Common.{ℕ, ◌≡◌, ◌≢◌, ◌⊎◌, true, List, [], ◌∷◌, length, take, Option, Some, None, Result, Ok, Err, refl, sym, ap, ◌∙◌, subst, inl, inr}
use Rattle.std.specs.Prelude.{IfSome}
use Rattle.mig_io.specs.Counts.{Counts, Rose}
use Rattle.mig_io.specs.Holding.{Held}
use Rattle.answers.specs.declared.exit.Exit.{Exit}
use Rattle.answers.specs.declared.exit.Exit.TheVariants.{Done, OutFault, Memory}
use Rattle.answers.specs.declared.words.Command.{Command}
use Rattle.answers.specs.Exits.{Class, class_of}
use Rattle.answers.specs.Exits.Class.{Worded, Judged, Missed, Unread, Unsaved, Unsent, Wanting}
use Rattle.answers.specs.Reports.{answer_report}
use Rattle.shown_runs.specs.Sending.{GetsPart}
use Rattle.verdicts.specs.Outcomes.{File}
use Rattle.verdicts.specs.Answer.{Call, Answers, AnswersAs, FilesAs, CausedAs, IsReport, placed_all}
use Rattle.verdicts.specs.Clauses.{Keeps, BySending, IsSentInParts, GetsReportPart, WantsReport}
use Rattle.palmig_top.specs.Concluding.{Sink, Puts}
use Rattle.palmig_top.proofs.Chains.{some-map}
use Rattle.palmig_top.proofs.Headline.{headline}

-- what the sink of a call was sent
abbrev pub sink_of : Call → Sink
sink_of call = record { sent = call.sent; after = call.sent_after; faults = call.faults; faults_after = call.faults_after }

-- neither a failed sink nor want of memory
sent-whole : (c : Class) (failed want whole : Type 0) → c ≢ Unsent → c ≢ Wanting → whole → BySending c failed want whole
sent-whole Unsent failed want whole other enough p = absurd (other refl)
sent-whole Wanting failed want whole other enough p = absurd (enough refl)
sent-whole Worded failed want whole other enough p = p
sent-whole Judged failed want whole other enough p = p
sent-whole (Missed f) failed want whole other enough p = p
sent-whole (Unread f) failed want whole other enough p = p
sent-whole (Unsaved f) failed want whole other enough p = p

take-all : (fs : List File) → take (length fs) fs ≡ fs
take-all [] = refl
take-all (f ∷ fs) = ap (λ (q : List File). f ∷ q) (take-all fs)

-- want of memory after any answer
want-files : (c : Class) (call : Call) (h : Held) (e : Exit) → c ≢ Unsent → CausedAs c call → FilesAs c call h e → FilesAs Wanting call h Memory
want-files Worded call h e other caused p = inl p
want-files Judged call h e other caused p =
    inr (p.0.outcome, p.0.judged, inl (length p.0.outcome.saves, p.1 ∙ ap (λ (fs : List File). Some (placed_all fs h)) (sym (take-all p.0.outcome.saves))))
want-files (Missed f) call h e other caused p = inl p
want-files (Unread f) call h e other caused p = inl p.0
want-files (Unsaved f) call h e other caused p = inr (p.0, p.1, inr (caused, (p.2.0, f, p.2.1)))
want-files Unsent call h e other caused p = absurd (other refl)
want-files Wanting call h e other caused p = p

-- memory was wanting
pub wanting : (call : Call) (e : Exit) → Answers call e → WantsReport call → Keeps call Memory
wanting call e a want = record {
  verdict = tt;
  faults = tt;
  files = some-map (λ h. FilesAs (class_of e) call h e) (λ h. FilesAs Wanting call h Memory) call.held (λ h p. want-files (class_of e) call h e a.right.reported a.right.caused p) a.right.files;
  report = want;
  headline = λ done. let no : ⊥ = cc in absurd no;
}

-- the sink failed
pub unsent : (call : Call) (e : Exit) → Answers call e → class_of e ≢ Wanting → Rose call.faults call.faults_after → GetsReportPart call e → Keeps call OutFault
unsent call e a enough rose part = record {
  verdict = tt;
  faults = rose;
  files = record { answer = e; right = a; no_want = enough };
  report = (record { answer = e; right = a; no_want = enough }, part);
  headline = λ done. let no : ⊥ = cc in absurd no;
}

-- the report of an answer was put, or a part of it, or nothing
pub keeps : (call : Call) (e : Exit) (text : List ℕ) (result : Exit) → Answers call e → IsReport call e text → Puts e text (sink_of call) result → Keeps call result
keeps call e text result a report (inl p) = subst (Keeps call) (sym p.0) (record {
  verdict = a.right.verdict;
  faults = a.right.caused;
  files = sent-whole (class_of e) _ _ _ a.right.reported p.1 a.right.files;
  report = sent-whole (class_of e) _ _ _ a.right.reported p.1 (text, report, p.2);
  headline = headline call e a;
})
keeps call e text result a report (inr (inl p)) = subst (Keeps call) (sym p.0) (unsent call e a p.1 p.2 (text, report, p.3))
keeps call e text result a report (inr (inr p)) = subst (Keeps call) (sym p.0) (wanting call e a (inl p.1))
