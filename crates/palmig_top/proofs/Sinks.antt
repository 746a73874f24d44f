-- What the sink got.
use Rattle.std.proofs.Common.{ℕ, ◌≡◌, ◌≢◌, ◌++◌, List, Option, Some, None, Result, Ok, Err, refl, sym, ap, subst, inl, inr}
use Rattle.std.specs.Option.{option_map}
use Rattle.mig_io.specs.declared.sink.PutError.{PutError}
use Rattle.mig_io.specs.declared.sink.PutError.TheVariants.{Failed, Memory as NoRoom}
use Rattle.mig_io.specs.Counts.{PutCauses}
use Rattle.mig_io.specs.Holding.{Puts as PutsBytes}
use Rattle.answers.specs.declared.exit.Exit.{Exit}
use Rattle.answers.specs.declared.exit.Exit.TheVariants.{Done, OutFault, Memory}
use Rattle.answers.specs.Exits.{class_of}
use Rattle.answers.specs.Exits.Class.{Wanting}
use Rattle.board.specs.Joined.{Joined}
use Rattle.mig_base.specs.declared.scripts.Script.{Script}
use Rattle.shown_runs.specs.Sending.{PutsRun}
use Rattle.palmig_top.specs.Concluding.{Sink, Puts, PutsShows}

-- the answer once its text was put
abbrev pub put_answer : Exit → Result (Unit {0}) PutError → Exit
put_answer answer (Ok done) = answer
put_answer answer (Err Failed) = OutFault
put_answer answer (Err NoRoom) = Memory

-- a text was put, or not
pub text-put : (answer : Exit) (text : List ℕ) (out : Sink) (r : Result (Unit {0}) PutError) → class_of answer ≢ Wanting → PutsBytes out.sent out.after text r → PutCauses out.faults out.faults_after r →
    Puts answer text out (put_answer answer r)
text-put answer text out (Ok done) want p c = inl (refl, want, p.ok)
text-put answer text out (Err Failed) want p c = inr (inl (refl, want, c.failed refl, p.failed refl))
text-put answer text out (Err NoRoom) want p c = inr (inr (refl, p.memory refl))

-- a run was put, or not
pub run-put : (b : Joined) (script : Script) (out : Sink) (r : Result (Unit {0}) PutError) → PutsRun b script out.sent out.after r → PutCauses out.faults out.faults_after r →
    PutsShows b script out (put_answer Done r)
run-put b script out (Ok done) p c = (p.0, p.1, inl (refl, p.2))
run-put b script out (Err Failed) p c = (p.0, p.1, inr (inl (refl, c.failed refl, p.2)))
run-put b script out (Err NoRoom) p c = (p.0, p.1, inr (inr (refl, p.2)))

-- nothing was put, for want of memory
pub nothing-put : (answer : Exit) (text : List ℕ) (sent : Option (List ℕ)) (faults : ℕ) →
    Puts answer text (record { sent = sent; after = sent; faults = faults; faults_after = faults }) Memory
nothing-put answer text sent faults = inr (inr (refl, refl))
