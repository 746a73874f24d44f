-- Two boards that are run to the end of a script, and what a port shows there.
use Rattle.std.proofs.Common.{ℕ, zero, suc, ◌≡◌, ◌+◌, ◌-◌, ◌<◌, ◌≤◌, Bool, true, false, List, [], ◌∷◌, ◌++◌, map, filter, take, length, get_or, Option, Some, None, sym, ap, ◌∙◌, subst, arith, inl, inr, append_assoc}
use Rattle.std.specs.Prelude.{codes, slice_get, slice_index_or, if◌then◌else◌}
use Rattle.std.proofs.lemmas.List.{get_or-append-add, get_or-take, length-append, length-map, length-take-le, take-map}
use Rattle.std.proofs.lemmas.Option.{slice_get_within}
use Rattle.mig_base.specs.declared.levels.Level.{Level}
use Rattle.mig_base.specs.declared.comparing.Trace.{Trace}
use Rattle.mig_base.specs.declared.circuit.Circuit.{Circuit}
use Rattle.mig_base.specs.declared.circuit.Inputs.{Inputs}
use Rattle.mig_base.specs.declared.nets.Net.{Net}
use Rattle.mig_base.specs.declared.nets.NetLine.{NetLine}
use Rattle.mig_base.specs.Among.{Among}
use Rattle.mig_base.specs.Accepted.{IsAccepted}
use Rattle.mig_base.specs.Boards.{is_port, places_from}
use Rattle.mig_base.specs.WrittenBoard.{net_name, IsWritable}
use Rattle.board.specs.Joined.{Joined, equations_of}
use Rattle.level_laws.specs.Runs.{IsRun, IsRunFrom, power_up}
use Rattle.level_laws.proofs.RanksExist.{accepted-runs-once}
use Rattle.level_laws.specs.SameBehaviour.{port_names, shown_at}
use Rattle.settle.specs.declared.config.Config.{Config}
use Rattle.settle.specs.Configs.{last_of}
use Rattle.trials.specs.Differences.{IsFirstDifference, IsReplay, IsReplayable, inputs_of, port_name, shown_in}
use Rattle.trials.specs.Places.{handed_over, level_by_place}
use Rattle.trials.specs.Stepping.{IsStarted}
use Rattle.trials.specs.Trials.{handed_ports, trial_of}
use Rattle.trials.proofs.FirstOnes.{AreOnRun, ArePaired, BothStepped, left-level, left-shown, on-run-begins, on-run-stepped, ports-count, right-level, right-shown, shows-count}
use Rattle.trials.proofs.NamedLevels.{level_or_x}
use Rattle.trials.proofs.OnWay.{run-only, run-whole, seen-last}
use Rattle.trials.proofs.TrialLaws.{front-count, front-of-front, front-writable}
use Rattle.sim_run.proofs.LawfulScripts.{script-inputs}
use Rattle.sim_run.specs.WrittenScript.{IsWritableScript}

-- both have made so many steps, and after the last of them they show these levels
pub record AreShownLast (a b : Joined) (inputs : List (List Level)) (m : ℕ) (config_a config_b : Config) (shown_a shown_b : List Level) : Type 0 where
  pub left : List (List Level)
  pub right : List (List Level)
  pub run : AreOnRun a b inputs m config_a config_b left right
  pub within : m ≤ length inputs
  pub last_left : (n : ℕ) → m ≡ n + 1 → slice_index_or left n [] ≡ shown_a
  pub last_right : (n : ℕ) → m ≡ n + 1 → slice_index_or right n [] ≡ shown_b

pub last-begins : (a b : Joined) (inputs : List (List Level)) (config_a config_b : Config) (shown_a shown_b : List Level) → IsStarted (equations_of a) config_a → IsStarted (equations_of b) config_b →
    AreShownLast a b inputs 0 config_a config_b shown_a shown_b
last-begins a b inputs config_a config_b shown_a shown_b s t = record {
  left = [];
  right = [];
  run = on-run-begins a b inputs config_a config_b s t;
  within = omega arith;
  last_left = λ n e. absurd (omega arith);
  last_right = λ n e. absurd (omega arith);
}

pub last-stepped : (a b : Joined) (inputs : List (List Level)) (i : ℕ) (given : List Level) (before_a before_b after_a after_b : Config) (old_a old_b shown_a shown_b : List Level) →
    BothStepped a b inputs i given before_a before_b after_a after_b shown_a shown_b → AreShownLast a b inputs i before_a before_b old_a old_b →
    AreShownLast a b inputs (i + 1) after_a after_b shown_a shown_b
last-stepped a b inputs i given before_a before_b after_a after_b old_a old_b shown_a shown_b s w = record {
  left = w.left ++ shown_a ∷ [];
  right = w.right ++ shown_b ∷ [];
  run = on-run-stepped a b inputs i given before_a before_b after_a after_b shown_a shown_b w.left w.right s w.run;
  within = let lt : i < length inputs = s.within in omega arith;
  last_left = λ n e. seen-last w.left shown_a n (let long : length w.left ≡ i = w.run.left_run.long in omega arith);
  last_right = λ n e. seen-last w.right shown_b n (let long : length w.right ≡ i = w.run.right_run.long in omega arith);
}

some-is : {T : Type 0} (x y : T) → Some x ≡ Some y → x ≡ y
some-is x y e = cc

-- the name of the port at a place is that of its net
named-from : (ls : List NetLine) (before : List (List ℕ)) (k p : ℕ) → slice_get (places_from is_port (length before) ls) k ≡ Some p →
    slice_get (map (λ l. l.name) (filter is_port ls)) k ≡ Some (slice_index_or (before ++ map (λ l. l.name) ls) p [])
named-from [] before k p e = cc
named-from (l ∷ ls) before k p e = at (is_port l) k e (λ j h. named-from ls (before ++ l.name ∷ []) j p h)
  where
    later : (j : ℕ) → ((i : ℕ) → slice_get (places_from is_port (length (before ++ l.name ∷ [])) ls) i ≡ Some p →
        slice_get (map (λ l. l.name) (filter is_port ls)) i ≡ Some (slice_index_or ((before ++ l.name ∷ []) ++ map (λ l. l.name) ls) p [])) →
        slice_get (places_from is_port (length before + 1) ls) j ≡ Some p → slice_get (map (λ l. l.name) (filter is_port ls)) j ≡ Some (slice_index_or (before ++ l.name ∷ map (λ l. l.name) ls) p [])
    later j rest h =
        rest j (subst (λ (n : ℕ). slice_get (places_from is_port n ls) j ≡ Some p) (sym (length-append before (l.name ∷ []))) h)
        ∙ ap (λ (xs : List (List ℕ)). Some (slice_index_or xs p [])) (append_assoc before (l.name ∷ []) (map (λ l. l.name) ls))

    at : (b : Bool) (k : ℕ) → slice_get ((if b then length before ∷ [] else []) ++ places_from is_port (length before + 1) ls) k ≡ Some p →
        ((i : ℕ) → slice_get (places_from is_port (length (before ++ l.name ∷ [])) ls) i ≡ Some p →
        slice_get (map (λ l. l.name) (filter is_port ls)) i ≡ Some (slice_index_or ((before ++ l.name ∷ []) ++ map (λ l. l.name) ls) p [])) →
        slice_get (map (λ l. l.name) (if b then l ∷ filter is_port ls else filter is_port ls)) k ≡ Some (slice_index_or (before ++ l.name ∷ map (λ l. l.name) ls) p [])
    at true zero h rest =
        let here : length before + 0 ≡ p = (let e : length before ≡ p = some-is (length before) p h in omega arith) in
        ap (λ (n : List ℕ). Some n)
        (sym (get_or-append-add before (l.name ∷ map (λ l. l.name) ls) 0 []) ∙ ap (λ (n : ℕ). slice_index_or (before ++ l.name ∷ map (λ l. l.name) ls) n []) here)
    at true (suc k) h rest = later k rest h
    at false k h rest = later k rest h

pub port-named : (a : Joined) (k p : ℕ) → slice_get (equations_of a).ports k ≡ Some p → port_name a.net k ≡ Some (net_name a.net p)
port-named a k p e = named-from a.net.nets (codes "GND" ∷ codes "VCC" ∷ []) k p e

-- what the port shows at the end of a script
pub replay-shows : (a b : Joined) (shows : List (Option ℕ)) (t : Trace) (m : ℕ) (config_a config_b : Config) (shown_a shown_b : List Level) (k : ℕ) → ArePaired a b shows →
    AreShownLast a b (inputs_of t.script) m config_a config_b shown_a shown_b → length t.script.steps ≤ m → 0 < length t.script.steps →
    length shown_a ≡ length (equations_of a).ports → length shown_b ≡ length (equations_of b).ports → slice_get (equations_of a).ports k ≡ Some t.port →
    IsReplay a b t (level_or_x (level_by_place shown_a (Some k))) (level_or_x (level_by_place shown_b (slice_index_or shows k None)))
replay-shows a b shows t m config_a config_b shown_a shown_b k p w all some long_a long_b port = record {
  left = w.left ++ whole_a.0;
  right = w.right ++ whole_b.0;
  runs = record { left_run = whole_a.1; right_run = whole_b.1 };
  left_shows = ap (λ (levels : List Level). shown_at (port_names a.net) levels name)
      (run-only (equations_of a) (inputs_of t.script) m config_a.stored (last_of config_a) w.left (w.left ++ whole_a.0) n p.accepted_a w.run.left_run whole_a.1 before ∙ w.last_left n one_more)
      ∙ left-shown a b shows shown_a k name p named ∙ left-level a b shows shown_a k p long_a within;
  right_shows = ap (λ (levels : List Level). shown_at (port_names b.net) levels name)
      (run-only (equations_of b) (map (handed_over a.net b.net) (inputs_of t.script)) m config_b.stored (last_of config_b) w.right (w.right ++ whole_b.0) n p.accepted_b w.run.right_run whole_b.1 before
      ∙ w.last_right n one_more)
      ∙ right-shown a b shows shown_b k name p named ∙ right-level a b shows shown_b k name p long_b named;
}
  where
    n : ℕ
    n = length t.script.steps - 1

    name : List ℕ
    name = net_name a.net t.port

    named : port_name a.net k ≡ Some name
    named = port-named a k t.port port

    one_more : m ≡ length t.script.steps - 1 + 1
    one_more = let long : length (inputs_of t.script) ≡ length t.script.steps = length-map t.script.steps (λ (s : Inputs). s.levels) in let w : m ≤ length (inputs_of t.script) = w.within in omega arith

    before : length t.script.steps - 1 < m
    before = let e : m ≡ length t.script.steps - 1 + 1 = one_more in omega arith

    within : k < length shows
    within =
        let lt : k < length (equations_of a).ports = slice_get_within (equations_of a).ports k t.port port in
        let e : length shows ≡ length (port_names a.net) = shows-count a b shows p in
        let f : length (equations_of a).ports ≡ length (port_names a.net) = ports-count a.net a.chips in omega arith

    whole_a : (rest : List (List Level)) × IsRun (equations_of a) (inputs_of t.script) (w.left ++ rest)
    whole_a = run-whole (equations_of a) (inputs_of t.script) m config_a.stored (last_of config_a) w.left p.accepted_a w.run.left_run

    whole_b : (rest : List (List Level)) × IsRun (equations_of b) (map (handed_over a.net b.net) (inputs_of t.script)) (w.right ++ rest)
    whole_b = run-whole (equations_of b) (map (handed_over a.net b.net) (inputs_of t.script)) m config_b.stored (last_of config_b) w.right p.accepted_b w.run.right_run

-- a run begins with the run of the first inputs
front-from : (c : Circuit) (m : ℕ) (inputs shown : List (List Level)) (stored : List Level) (last : Option (List Level)) → IsRunFrom c stored last inputs shown → IsRunFrom c stored last (take m inputs) (take m shown)
front-from c zero [] [] stored last r = tt
front-from c zero [] (s ∷ ss) stored last r = absurd r
front-from c zero (i ∷ is) [] stored last r = absurd r
front-from c zero (i ∷ is) (s ∷ ss) stored last r = tt
front-from c (suc m) [] [] stored last r = tt
front-from c (suc m) [] (s ∷ ss) stored last r = absurd r
front-from c (suc m) (i ∷ is) [] stored last r = absurd r
front-from c (suc m) (i ∷ is) (s ∷ ss) stored last r = (r.0, r.1, r.2, r.3, r.4, front-from c m is ss r.0 (Some i) r.5)

-- how many steps the trace of the first difference has
steps-count : (a b : Joined) (t : Trace) (f : IsFirstDifference a b t) → length t.script.steps ≡ f.step + 1
steps-count a b t f =
    let long : length (trial_of a.net f.trial_number) ≡ 64 = front-count f.trial_number 64 (handed_ports a.net) in
    sym (length-map t.script.steps (λ (s : Inputs). s.levels)) ∙ ap length f.script
    ∙ length-take-le (f.step + 1) (trial_of a.net f.trial_number) (let lt : f.step < 64 = f.step_within in omega arith)

-- the replay of the first difference shows its two levels
pub replay-first : (a b : Joined) (t : Trace) (x y : Level) → IsAccepted (equations_of a) → IsAccepted (equations_of b) → IsFirstDifference a b t → IsReplay a b t x y → (x ≡ t.left) × (y ≡ t.right)
replay-first a b t x y accepted_a accepted_b f r = (
  some-is x t.left (sym r.left_shows ∙ shown a.net r.left f.differs.left left_same ∙ f.differs.left_shows),
  some-is y t.right (sym r.right_shows ∙ shown b.net r.right f.differs.right right_same ∙ f.differs.right_shows),
)
  where
    left_same : r.left ≡ take (f.step + 1) f.differs.left
    left_same = accepted-runs-once (equations_of a) accepted_a (inputs_of t.script) r.left (take (f.step + 1) f.differs.left) r.runs.left_run
        (subst (λ (is : List (List Level)). IsRun (equations_of a) is (take (f.step + 1) f.differs.left)) (sym f.script)
        (front-from (equations_of a) (f.step + 1) (trial_of a.net f.trial_number) f.differs.left (power_up (equations_of a)) None f.differs.runs.left_run))

    right_same : r.right ≡ take (f.step + 1) f.differs.right
    right_same = accepted-runs-once (equations_of b) accepted_b (map (handed_over a.net b.net) (inputs_of t.script)) r.right (take (f.step + 1) f.differs.right) r.runs.right_run
        (subst (λ (is : List (List Level)). IsRun (equations_of b) is (take (f.step + 1) f.differs.right))
        (take-map (handed_over a.net b.net) (f.step + 1) (trial_of a.net f.trial_number) ∙ ap (map (handed_over a.net b.net)) (sym f.script))
        (front-from (equations_of b) (f.step + 1) (map (handed_over a.net b.net) (trial_of a.net f.trial_number)) f.differs.right (power_up (equations_of b)) None f.differs.runs.right_run))

    name_is : net_name a.net t.port ≡ f.differs.name
    name_is = some-is (net_name a.net t.port) f.differs.name (sym (port-named a f.place t.port f.port) ∙ f.differs.named)

    shown : (net : Net) (front whole : List (List Level)) → front ≡ take (f.step + 1) whole →
        shown_in net front (length t.script.steps - 1) (net_name a.net t.port) ≡ shown_in net whole f.step f.differs.name
    shown net front whole e =
        let last : length t.script.steps - 1 ≡ f.step = (let c : length t.script.steps ≡ f.step + 1 = steps-count a b t f in omega arith) in
        ap (shown_in net front (length t.script.steps - 1)) name_is ∙ ap (λ (n : ℕ). shown_in net front n f.differs.name) last
        ∙ ap (λ (levels : List Level). shown_at (port_names net) levels f.differs.name) (ap (λ (xs : List (List Level)). slice_index_or xs f.step []) e ∙ get_or-take (f.step + 1) whole f.step [] (omega arith))

-- a port among others stands at some place
pub among-place : (p : ℕ) (ports : List ℕ) → Among p ports → (k : ℕ) × (k < length ports) × (get_or ports k 0 ≡ p)
among-place p [] a = absurd a
among-place p (q ∷ qs) (inl e) = (0, omega arith, sym e)
among-place p (q ∷ qs) (inr a) = let h = among-place p qs a in (suc h.0, omega (arith, h.1), h.2)

get-among : (xs : List ℕ) (i x : ℕ) → slice_get xs i ≡ Some x → Among x xs
get-among [] i x e = cc
get-among (y ∷ ys) zero x e = inl (sym (some-is y x e))
get-among (y ∷ ys) (suc i) x e = inr (get-among ys i x e)

-- the trace of the first difference can be run again
pub first-replayable : (a b : Joined) (t : Trace) → IsWritable a.net → IsFirstDifference a b t → IsReplayable a t
first-replayable a b t w f = record {
  port = get-among (equations_of a).ports f.place t.port f.port;
  steps = let long : length t.script.steps ≡ f.step + 1 = steps-count a b t f in omega arith;
  lawful = script-inputs a.net a.chips t.script written;
  writable = written;
}
  where
    written : IsWritableScript a.net t.script
    written = front-writable a.net f.trial_number (f.step + 1) t.script w (let lt : f.step < 64 = f.step_within in omega arith)
        (f.script ∙ front-of-front f.trial_number (f.step + 1) 64 (handed_ports a.net) (let lt : f.step < 64 = f.step_within in omega arith))
