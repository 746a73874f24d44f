-- A run on its way, and what was sent of its report.
use Rattle.std.proofs.Common.{ℕ, true, ◌≡◌, ◌<◌, ◌≤◌, ◌+◌, List, [], ◌∷◌, ◌++◌, length, map, drop, get_or, Option, Some, None, Result, Ok, Err, refl, sym, ap, ◌∙◌, subst, append_assoc}
use Rattle.std.specs.List.{flat_map, list_all}
use Rattle.std.proofs.lemmas.List.{append-nil, length-map, get_or-map}
use Rattle.mig_base.specs.declared.levels.Level.{Level}
use Rattle.mig_base.specs.declared.nets.NetLine.{NetLine}
use Rattle.mig_base.specs.declared.circuit.Levels.{Levels}
use Rattle.mig_base.specs.declared.circuit.Circuit.{Circuit}
use Rattle.mig_base.specs.declared.circuit.Read.{Read}
use Rattle.mig_io.specs.declared.sink.PutError.{PutError}
use Rattle.mig_io.specs.Holding.{Puts}
use Rattle.answers.specs.Reports.{ports_line, show_line, run_report}
use Rattle.board.specs.Joined.{Joined, equations_of}
use Rattle.mig_base.specs.Accepted.{IsAccepted}
use Rattle.mig_base.specs.declared.circuit.Inputs.{Inputs}
use Rattle.mig_base.specs.declared.scripts.Script.{Script}
use Rattle.level_laws.specs.Settled.{IsSettled}
use Rattle.level_laws.specs.Runs.{IsStep, IsRunFrom, IsRun, power_up, shown_levels}
use Rattle.level_laws.proofs.RanksExist.{accepted-runs}
use Rattle.settle.specs.declared.config.Config.{Config}
use Rattle.settle.specs.Configs.{last_of}
use Rattle.settle.proofs.StepLaws.{run-more, run-ends}
use Rattle.settle.specs.Made.{IsInputFor}
use Rattle.sim_run.specs.ScriptText.{ports_of}
use Rattle.sim_run.specs.WrittenScript.{fit}
use Rattle.sim_run.proofs.LawfulScripts.{fits-inputs}
use Rattle.shown_runs.specs.Sending.{inputs_of, IsRunOf, Gets, GetsPart, Sends, Passes, PutsRun}
use Rattle.shown_runs.proofs.Sent.{gets-nothing, gets-both, gets-same, part-same, part-behind, part-longer, whole-part, sends-last}

-- so many steps were made, the board is at this place between two steps, and of the report this text is still to be sent
pub record IsOnWay (b : Joined) (script : Script) (i : ℕ) (stored : List Level) (last : Option (List Level)) (text : List ℕ) (old now : Option (List ℕ)) : Type 0 where
  pub seen : List (List Level)
  pub so_far : (rest : List (List Level)) → IsRunFrom (equations_of b) stored last (drop i (inputs_of script)) rest → IsRunOf b script (seen ++ rest)
  pub sent : List ℕ
  pub got : Gets old now sent
  pub whole : sent ++ text ≡ run_report b.net.nets seen

-- at power-up the line of the ports is still to be sent
pub on-way-begins : (b : Joined) (script : Script) (stored : List Level) (last : Option (List Level)) (text : List ℕ) (old : Option (List ℕ)) → stored ≡ power_up (equations_of b) → last ≡ None →
    text ≡ ports_line b.net.nets → IsOnWay b script 0 stored last text old old
on-way-begins b script stored last text old s l t = record {
  seen = [];
  so_far = λ rest run. begun rest run;
  sent = [];
  got = gets-nothing old;
  whole = t ∙ sym (append-nil (ports_line b.net.nets));
}
  where
    all : (xs : List (List Level)) → drop 0 xs ≡ xs
    all [] = refl
    all (x ∷ xs) = refl

    begun : (rest : List (List Level)) → IsRunFrom (equations_of b) stored last (drop 0 (inputs_of script)) rest → IsRunOf b script rest
    begun rest run = subst (λ (is : List (List Level)). IsRunFrom (equations_of b) (power_up (equations_of b)) None is rest) (all (inputs_of script))
        (subst (λ (q : List Level). IsRunFrom (equations_of b) q None (drop 0 (inputs_of script)) rest) s
        (subst (λ (o : Option (List Level)). IsRunFrom (equations_of b) stored o (drop 0 (inputs_of script)) rest) l run))

map-at : (f : Inputs → List Level) (xs : List Inputs) (i : ℕ) (x : Inputs) → i < length xs → x ≡ get_or xs i x → f x ≡ get_or (map f xs) i (f x)
map-at f xs i x lt e = ap f e ∙ sym (get_or-map f xs i x (f x) lt)

report-more : (nets : List NetLine) (seen : List (List Level)) (shown : List Level) → run_report nets (seen ++ shown ∷ []) ≡ run_report nets seen ++ show_line shown
report-more nets seen shown = ap (λ (t : List ℕ). ports_line nets ++ t) (flat-more seen) ∙ sym (append_assoc (ports_line nets) (flat_map show_line seen) (show_line shown))
  where
    flat-more : (seen : List (List Level)) → flat_map show_line (seen ++ shown ∷ []) ≡ flat_map show_line seen ++ show_line shown
    flat-more [] = append-nil (show_line shown)
    flat-more (s ∷ ss) = ap (λ (t : List ℕ). show_line s ++ t) (flat-more ss) ∙ sym (append_assoc (show_line s) (flat_map show_line ss) (show_line shown))

report-behind : (nets : List NetLine) (seen rest : List (List Level)) → run_report nets (seen ++ rest) ≡ run_report nets seen ++ flat_map show_line rest
report-behind nets seen rest = ap (λ (t : List ℕ). ports_line nets ++ t) (flat-append seen) ∙ sym (append_assoc (ports_line nets) (flat_map show_line seen) (flat_map show_line rest))
  where
    flat-append : (seen : List (List Level)) → flat_map show_line (seen ++ rest) ≡ flat_map show_line seen ++ flat_map show_line rest
    flat-append [] = refl
    flat-append (s ∷ ss) = ap (λ (t : List ℕ). show_line s ++ t) (flat-append ss) ∙ sym (append_assoc (show_line s) (flat_map show_line ss) (flat_map show_line rest))

-- one more step
pub on-way-more : (b : Joined) (script : Script) (i : ℕ) (s : Inputs) (stored : List Level) (last : Option (List Level)) (now : List Level) (after : Option (List Level)) (l : Levels) (text longer : List ℕ)
    (old mid : Option (List ℕ)) → IsOnWay b script i stored last text old mid → i < length script.steps → s ≡ get_or script.steps i s →
    IsStep (equations_of b) stored last s.levels now → after ≡ Some s.levels → IsSettled (equations_of b) now s.levels l → longer ≡ text ++ show_line (shown_levels (equations_of b) l) →
    IsOnWay b script (i + 1) now after longer old mid
on-way-more b script i s stored last now after l text longer old mid w lt item step kept settled more = record {
  seen = w.seen ++ shown_levels (equations_of b) l ∷ [];
  so_far = run-more (equations_of b) (inputs_of script) i s.levels stored last now after l (shown_levels (equations_of b) l) w.seen (within lt) (map-at (λ s. s.levels) script.steps i s lt item) step kept settled refl w.so_far;
  sent = w.sent;
  got = w.got;
  whole = ap (λ (t : List ℕ). w.sent ++ t) more ∙ sym (append_assoc w.sent text (show_line (shown_levels (equations_of b) l)))
      ∙ ap (λ (t : List ℕ). t ++ show_line (shown_levels (equations_of b) l)) w.whole ∙ sym (report-more b.net.nets w.seen (shown_levels (equations_of b) l));
}
  where
    within : i < length script.steps → i < length (inputs_of script)
    within lt = subst (λ (n : ℕ). i < n) (sym (length-map script.steps (λ (s : Inputs). s.levels))) lt

-- the same of the list of steps as it is lent
pub on-way-stepped : (b : Joined) (script : Script) (steps : List Inputs) (i : ℕ) (s : Inputs) (stored : List Level) (last : Option (List Level)) (now : List Level) (after : Option (List Level)) (l : Levels)
    (text longer : List ℕ) (old mid : Option (List ℕ)) → IsOnWay b script i stored last text old mid → steps ≡ script.steps → i < length steps → s ≡ get_or steps i s →
    IsStep (equations_of b) stored last s.levels now → after ≡ Some s.levels → IsSettled (equations_of b) now s.levels l → longer ≡ text ++ show_line (shown_levels (equations_of b) l) →
    IsOnWay b script (i + 1) now after longer old mid
on-way-stepped b script steps i s stored last now after l text longer old mid w same lt item step kept settled more =
    on-way-more b script i s stored last now after l text longer old mid w (subst (λ (xs : List Inputs). i < length xs) same lt) (subst (λ (xs : List Inputs). s ≡ get_or xs i s) same item)
    step kept settled more

-- the inputs of a step by its number, as it is lent
pub step-handed : (b : Joined) (all steps : List Inputs) (i : ℕ) (s : Inputs) → list_all (λ s. fit (ports_of b.net) s.levels) all ≡ true → steps ≡ all → i < length steps → s ≡ get_or steps i s →
    IsInputFor (equations_of b) s.levels
step-handed b all steps i s fits same lt item =
    subst (λ (q : Inputs). IsInputFor (equations_of b) q.levels) (sym (subst (λ (xs : List Inputs). s ≡ get_or xs i s) same item))
    (fits-inputs b.net b.chips all fits i s (subst (λ (xs : List Inputs). i < length xs) same lt))

-- a front of the text was sent
pub on-way-sent : (b : Joined) (script : Script) (i : ℕ) (stored : List Level) (last : Option (List Level)) (text rest : List ℕ) (old mid new : Option (List ℕ)) →
    IsOnWay b script i stored last text old mid → Passes mid new text rest (Ok tt) → IsOnWay b script i stored last rest old new
on-way-sent b script i stored last text rest old mid new w p = record {
  seen = w.seen;
  so_far = w.so_far;
  sent = w.sent ++ p.0;
  got = gets-both old mid new w.sent p.0 w.got p.2;
  whole = append_assoc w.sent p.0 rest ∙ ap (λ (t : List ℕ). w.sent ++ t) (sym p.1) ∙ w.whole;
}

-- the way breaks off: the run that it begins goes on without it
pub on-way-breaks : (b : Joined) (script : Script) (i : ℕ) (stored : List Level) (last : Option (List Level)) (text : List ℕ) (old mid new : Option (List ℕ)) (e : PutError) →
    IsAccepted (equations_of b) → IsOnWay b script i stored last text old mid → GetsPart mid new text → PutsRun b script old new (Err e)
on-way-breaks b script i stored last text old mid new e accepted w part =
    let rest = accepted-runs (equations_of b) accepted (drop i (inputs_of script)) stored last in (
      w.seen ++ rest.0,
      w.so_far rest.0 rest.1,
      part-same old new (run_report b.net.nets w.seen ++ flat_map show_line rest.0) (run_report b.net.nets (w.seen ++ rest.0)) (sym (report-behind b.net.nets w.seen rest.0))
          (part-longer old new (run_report b.net.nets w.seen) (flat_map show_line rest.0)
          (part-same old new (w.sent ++ text) (run_report b.net.nets w.seen) w.whole (part-behind old mid new w.sent text w.got part))),
    )

-- the last piece is sent
pub on-way-ends : (b : Joined) (script : Script) (i : ℕ) (stored : List Level) (last : Option (List Level)) (text : List ℕ) (old mid new : Option (List ℕ)) (r : Result (Unit {0}) PutError) →
    length script.steps ≤ i → IsOnWay b script i stored last text old mid → Puts mid new text r → PutsRun b script old new r
on-way-ends b script i stored last text old mid new r all w put = (
  w.seen,
  run-ends (equations_of b) (inputs_of script) i stored last w.seen (subst (λ (n : ℕ). n ≤ i) (sym (length-map script.steps (λ (s : Inputs). s.levels))) all) w.so_far,
  sends-last old mid new w.sent text (run_report b.net.nets w.seen) r w.got put w.whole,
)
