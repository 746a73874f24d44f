-- The inputs of each script that a text says are lawful for its board.
use Rattle.std.proofs.Common.{ℕ, ◌≡◌, ◌⊎◌, ◌<◌, ◌≤◌, ◌+◌, Bool, true, false, cond, ◌&&◌, List, [], ◌∷◌, ◌++◌, map, filter, drop, length, Result, Ok, Err, refl, sym, ap, ◌∙◌, arith, inl, inr}
use Rattle.std.specs.Prelude.{All, IfOk, if◌then◌else◌}
use Rattle.std.specs.List.{AllByRecursion, cons_option, list_all}
use Rattle.std.proofs.lemmas.Bool.{and_parts, cases_lt}
use Rattle.std.proofs.lemmas.List.{drop_more, drop_all}
use Rattle.std.proofs.lemmas.List.Sums.{AllPass-from_list_all}
use Rattle.mig_base.specs.declared.levels.Level.{Level}
use Rattle.mig_base.specs.declared.levels.Level.TheVariants.{Zero, One, Z, X}
use Rattle.mig_base.specs.Levels.{level_at}
use Rattle.mig_base.specs.declared.cells.ChipCells.{ChipCells}
use Rattle.mig_base.specs.declared.nets.Net.{Net}
use Rattle.mig_base.specs.declared.nets.NetLine.{NetLine}
use Rattle.mig_base.specs.declared.nets.Port.{Port}
use Rattle.mig_base.specs.declared.nets.Port.TheVariants as port
use Rattle.mig_base.specs.declared.nets.Pull.{Pull}
use Rattle.mig_base.specs.declared.nets.Pull.TheVariants as pull
use Rattle.mig_base.specs.declared.circuit.NetKind.{NetKind}
use Rattle.mig_base.specs.declared.circuit.NetKind.TheVariants.{Inner}
use Rattle.mig_base.specs.Boards.{At, ChipUnit, circuit, is_handed, kind_at, kinds_from, kinds_of, privates, units_from, wires_from}
use Rattle.mig_base.specs.WrittenBoard.{IsWritable}
use Rattle.level_laws.specs.SameBehaviour.{IsBit, IsHandable, IsLawfulAt}
use Rattle.settle.specs.Configs.{is_handed as takes_level}
use Rattle.mig_base.specs.declared.circuit.Inputs.{Inputs}
use Rattle.mig_base.specs.declared.scripts.Script.{Script}
use Rattle.mig_base.specs.declared.scripts.ScriptError.{ScriptError}
use Rattle.sim_run.specs.ScriptText.{port_on, ports_from, ports_of, script_of_text}
use Rattle.sim_run.specs.Statements.{Answers}
use Rattle.sim_run.specs.WrittenScript.{takes, fit, IsWritableScript}
use Rattle.sim_run.proofs.GivenScripts.{script-given}
use Rattle.settle.specs.Made.{IsInputFor}

-- a net of this direction
abbrev directed : NetLine → Port → NetLine
directed l dir = record { name = l.name; port = dir; pull = l.pull }

-- a private net
abbrev inner : At → NetKind × Pull
inner q = (Inner, pull.Free)

-- named nets from one on, and the private nets
abbrev kinds : ℕ → List NetLine → List At → List (NetKind × Pull)
kinds place ls qs = kinds_from place ls ++ map inner qs

-- the kind and pull of a net that is handed a level
abbrev takes_one : NetKind × Pull → Bool
takes_one k = takes_level k.0

fit-length : (n : ℕ) (ls : List NetLine) (levels : List Level) → fit (ports_from n ls) levels ≡ true → length levels ≡ length (ports_from n ls)
fit-length n [] [] h = refl
fit-length n [] (x ∷ xs) h = cc
fit-length n (l ∷ ls) levels h = at l.port levels h (λ rest fits. fit-length (n + 1) ls rest fits)
  where
    at : (dir : Port) (levels : List Level) → fit (cons_option (port_on n (directed l dir)) (ports_from (n + 1) ls)) levels ≡ true →
        ((rest : List Level) → fit (ports_from (n + 1) ls) rest ≡ true → length rest ≡ length (ports_from (n + 1) ls)) →
        length levels ≡ length (cons_option (port_on n (directed l dir)) (ports_from (n + 1) ls))
    at port.Inner levels f rest = rest levels f
    at port.Output levels f rest = rest levels f
    at port.Input [] f rest = cc
    at port.Both [] f rest = cc
    at port.Input (x ∷ xs) f rest =
        let more : length xs ≡ length (ports_from (n + 1) ls) = rest xs (and_parts (takes port.Input x) (fit (ports_from (n + 1) ls) xs) f).1 in omega arith
    at port.Both (x ∷ xs) f rest =
        let more : length xs ≡ length (ports_from (n + 1) ls) = rest xs (and_parts (takes port.Both x) (fit (ports_from (n + 1) ls) xs) f).1 in omega arith

one-more : {A B : Type 0} (b : Bool) (x : A) (xs : List A) (y : B) (ys : List B) → length xs ≡ length ys → length (cond b (x ∷ xs) xs) ≡ length (cond b (y ∷ ys) ys)
one-more true x xs y ys e = omega arith
one-more false x xs y ys e = e

wires-handed : (net : Net) (units : List ChipUnit) (n : ℕ) (ks : List (NetKind × Pull)) →
    length (filter (λ w. takes_level w.kind) (wires_from net units n ks)) ≡ length (filter takes_one ks)
wires-handed net units n [] = refl
wires-handed net units n (k ∷ ks) = one-more (takes_level k.0) _ _ k _ (wires-handed net units (n + 1) ks)

inner-handed : (qs : List At) → length (filter takes_one (map inner qs)) ≡ 0
inner-handed [] = refl
inner-handed (q ∷ qs) = inner-handed qs

kinds-handed : (place n : ℕ) (ls : List NetLine) (qs : List At) → length (filter takes_one (kinds place ls qs)) ≡ length (ports_from n ls)
kinds-handed place n [] qs = inner-handed qs
kinds-handed place n (l ∷ ls) qs = at l.port (λ p. kinds-handed p (n + 1) ls qs)
  where
    at : (dir : Port) → ((p : ℕ) → length (filter takes_one (kinds p ls qs)) ≡ length (ports_from (n + 1) ls)) →
        length (filter takes_one ((kind_at place dir, l.pull) ∷ kinds (if is_handed dir then place + 1 else place) ls qs)) ≡ length (cons_option (port_on n (directed l dir)) (ports_from (n + 1) ls))
    at port.Inner rest = rest place
    at port.Output rest = rest place
    at port.Input rest = let more : length (filter takes_one (kinds (place + 1) ls qs)) ≡ length (ports_from (n + 1) ls) = rest (place + 1) in omega arith
    at port.Both rest = let more : length (filter takes_one (kinds (place + 1) ls qs)) ≡ length (ports_from (n + 1) ls) = rest (place + 1) in omega arith

-- a test of the level in a place and of those behind it
first-of : (test rest : List Level → Bool) (first : Level → Bool) → test [] ≡ false → ((x : Level) (xs : List Level) → test (x ∷ xs) ≡ (first x && rest xs)) →
    (inputs : List Level) (place : ℕ) → test (drop place inputs) ≡ true → (first (level_at inputs place) ≡ true) × (rest (drop (place + 1) inputs) ≡ true)
first-of test rest first none more inputs place h = at (cases_lt place (length inputs))
  where
    at : (place < length inputs) ⊎ (length inputs ≤ place) → (first (level_at inputs place) ≡ true) × (rest (drop (place + 1) inputs) ≡ true)
    at (inl lt) = and_parts _ _ (sym (more (level_at inputs place) (drop (place + 1) inputs)) ∙ ap test (sym (drop_more inputs place X lt)) ∙ h)
    at (inr all) = let no : false ≡ true = sym none ∙ ap test (sym (drop_all place inputs all)) ∙ h in cc

bit-taken : (l : Level) → takes port.Input l ≡ true → IsBit l
bit-taken Zero h = tt
bit-taken One h = tt
bit-taken Z h = cc
bit-taken X h = cc

handable-taken : (l : Level) → takes port.Both l ≡ true → IsHandable l
handable-taken Zero h = tt
handable-taken One h = tt
handable-taken Z h = tt
handable-taken X h = cc

-- what is handed to a net of this kind is lawful
abbrev Suits : List Level → NetKind × Pull → Type 0
Suits inputs k = IsLawfulAt inputs k.0

inner-suits : (inputs : List Level) (qs : List At) → AllByRecursion (Suits inputs) (map inner qs)
inner-suits inputs [] = tt
inner-suits inputs (q ∷ qs) = (tt, inner-suits inputs qs)

kinds-suit : (inputs : List Level) (place n : ℕ) (ls : List NetLine) (qs : List At) → fit (ports_from n ls) (drop place inputs) ≡ true → AllByRecursion (Suits inputs) (kinds place ls qs)
kinds-suit inputs place n [] qs h = inner-suits inputs qs
kinds-suit inputs place n (l ∷ ls) qs h = at l.port h (λ p rest. kinds-suit inputs p (n + 1) ls qs rest)
  where
    at : (dir : Port) → fit (cons_option (port_on n (directed l dir)) (ports_from (n + 1) ls)) (drop place inputs) ≡ true →
        ((p : ℕ) → fit (ports_from (n + 1) ls) (drop p inputs) ≡ true → AllByRecursion (Suits inputs) (kinds p ls qs)) →
        AllByRecursion (Suits inputs) ((kind_at place dir, l.pull) ∷ kinds (if is_handed dir then place + 1 else place) ls qs)
    at port.Inner f rest = (tt, rest place f)
    at port.Output f rest = (tt, rest place f)
    at port.Input f rest =
        let p = first-of (fit (cons_option (port_on n (directed l port.Input)) (ports_from (n + 1) ls))) (fit (ports_from (n + 1) ls)) (takes port.Input) refl (λ x xs. refl) inputs place f in
        (bit-taken (level_at inputs place) p.0, rest (place + 1) p.1)
    at port.Both f rest =
        let p = first-of (fit (cons_option (port_on n (directed l port.Both)) (ports_from (n + 1) ls))) (fit (ports_from (n + 1) ls)) (takes port.Both) refl (λ x xs. refl) inputs place f in
        (handable-taken (level_at inputs place) p.0, rest (place + 1) p.1)

wires-suit : (inputs : List Level) (net : Net) (units : List ChipUnit) (n : ℕ) (ks : List (NetKind × Pull)) → AllByRecursion (Suits inputs) ks →
    AllByRecursion (λ w. IsLawfulAt inputs w.kind) (wires_from net units n ks)
wires-suit inputs net units n [] h = tt
wires-suit inputs net units n (k ∷ ks) h = (h.0, wires-suit inputs net units (n + 1) ks h.1)

-- levels that fit the ports are lawful inputs
pub fit-input : (net : Net) (chips : List ChipCells) (levels : List Level) → fit (ports_of net) levels ≡ true → IsInputFor (circuit net chips) levels
fit-input net chips levels h =
    let units = units_from 0 chips in
    record {
      lengths = fit-length 2 net.nets levels h ∙ sym (kinds-handed 0 2 net.nets (privates net)) ∙ sym (wires-handed net units 0 (kinds_of net));
      lawful = wires-suit levels net units 0 (kinds_of net) (tt, (tt, kinds-suit levels 0 2 net.nets (privates net) h));
    }

-- so are those of a script whose steps all fit
pub fits-inputs : (net : Net) (chips : List ChipCells) (steps : List Inputs) → list_all (λ given. fit (ports_of net) given.levels) steps ≡ true → All (λ given. IsInputFor (circuit net chips) given.levels) steps
fits-inputs net chips steps fits k d lt = fit-input net chips _ (AllPass-from_list_all (λ given. fit (ports_of net) given.levels) steps fits k d lt)

-- and those of a script that a text can say
pub script-inputs : (net : Net) (chips : List ChipCells) (script : Script) → IsWritableScript net script → All (λ given. IsInputFor (circuit net chips) given.levels) script.steps
script-inputs net chips script w = fits-inputs net chips script.steps w.steps_fit

-- a script that is read can be written
pub read-writable : (net : Net) (bytes : List ℕ) (read : Result Script ScriptError) → Answers (script_of_text (ports_of net) bytes) read → IsWritable net → IfOk read (IsWritableScript net)
read-writable net bytes (Ok script) said w = script-given net bytes script w said
read-writable net bytes (Err e) said w = tt

pub read-lawful : (net : Net) (chips : List ChipCells) (read : Result Script ScriptError) → IfOk read (IsWritableScript net) →
    IfOk read (λ script. All (λ given. IsInputFor (circuit net chips) given.levels) script.steps)
read-lawful net chips (Ok script) w = script-inputs net chips script w
read-lawful net chips (Err e) w = tt
