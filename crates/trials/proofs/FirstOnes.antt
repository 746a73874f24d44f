-- The first difference over a list of inputs.
use Rattle.std.proofs.Common.{ℕ, suc, ◌≡◌, ◌⊎◌, ◌+◌, ◌<◌, ◌≤◌, List, [], ◌∷◌, ◌++◌, map, filter, length, get_or, Option, Some, None, refl, sym, ap, ◌∙◌, subst, arith, inl, inr}
use Rattle.std.specs.Prelude.{slice_get, slice_index_or, if◌then◌else◌, Bool, true, false}
use Rattle.std.proofs.lemmas.Bool.{cases_lt}
use Rattle.std.proofs.lemmas.List.{length-map}
use Rattle.std.proofs.lemmas.Option.{slice_get_within, slice_get-get_or}
use Rattle.mig_base.specs.declared.levels.Level.{Level}
use Rattle.mig_base.specs.declared.levels.Level.TheVariants.{X}
use Rattle.mig_base.specs.declared.cells.ChipCells.{ChipCells}
use Rattle.mig_base.specs.declared.circuit.Inputs.{Inputs}
use Rattle.mig_base.specs.declared.nets.Net.{Net}
use Rattle.mig_base.specs.declared.nets.NetLine.{NetLine}
use Rattle.mig_base.specs.Accepted.{IsAccepted}
use Rattle.mig_base.specs.Boards.{circuit, is_port, places_from}
use Rattle.mig_base.specs.BoardText.{place_named}
use Rattle.mig_base.specs.WrittenBoard.{IsWritable}
use Rattle.board.specs.Joined.{Joined, equations_of}
use Rattle.level_laws.specs.Runs.{IsRun}
use Rattle.level_laws.specs.SameBehaviour.{SamePorts, port_names, shown_at}
use Rattle.settle.specs.declared.config.Config.{Config}
use Rattle.settle.specs.Configs.{last_of}
use Rattle.mig_base.specs.declared.comparing.Trace.{Trace}
use Rattle.trials.specs.Differences.{DiffersAt, DiffersOver, IsFirstDifference, IsSooner, NoDifference, inputs_of, port_name}
use Rattle.trials.specs.Places.{handed_over, level_by_place, places_among}
use Rattle.trials.specs.Trials.{handed_ports, trial_front, trial_of}
use Rattle.trials.proofs.TrialLaws.{front-count, front-of-front}
use Rattle.trials.specs.Stepping.{AreEven, IsDifferenceIn, IsEvenAt, IsFirstOver, IsStarted, IsStepped, IsUnevenAfter, NoneOver}
use Rattle.trials.specs.declared.differing.Uneven.{Uneven}
use Rattle.trials.proofs.NamedLevels.{level_or_x, other-place, place-of-name, ports-distinct, shown-own, shown-placed}
use Rattle.trials.proofs.OnWay.{IsOnRun, given-at, given-within, own-given-at, own-given-within, run-begins, run-only, run-stepped, run-whole, seen-before, seen-last}

-- accepted boards with the same ports, and for each port of the first one its place among those of the second
pub record ArePaired (a b : Joined) (places : List (Option ℕ)) : Type 0 where
  pub wiring : IsWritable a.net
  pub accepted_a : IsAccepted (equations_of a)
  pub accepted_b : IsAccepted (equations_of b)
  pub ports : SamePorts a.net b.net
  pub shows : places ≡ places_among (port_names a.net) (port_names b.net)

-- both have made so many steps
pub record AreOnRun (a b : Joined) (inputs : List (List Level)) (m : ℕ) (config_a config_b : Config) (left right : List (List Level)) : Type 0 where
  pub left_run : IsOnRun (equations_of a) inputs m config_a.stored (last_of config_a) left
  pub right_run : IsOnRun (equations_of b) (map (handed_over a.net b.net) inputs) m config_b.stored (last_of config_b) right

-- and have shown the same at each port
pub record AreEvenSoFar (a b : Joined) (shows : List (Option ℕ)) (inputs : List (List Level)) (m : ℕ) (config_a config_b : Config) : Type 0 where
  pub left : List (List Level)
  pub right : List (List Level)
  pub run : AreOnRun a b inputs m config_a config_b left right
  pub even : (n : ℕ) → n < m → AreEven shows (slice_index_or left n []) (slice_index_or right n [])

-- both made one step to the inputs of this place
pub record BothStepped (a b : Joined) (inputs : List (List Level)) (i : ℕ) (given : List Level) (before_a before_b after_a after_b : Config) (shown_a shown_b : List Level) : Type 0 where
  pub within : i < length inputs
  pub item : given ≡ get_or inputs i given
  pub left : IsStepped (equations_of a) given before_a after_a shown_a
  pub over_within : i < length (map (handed_over a.net b.net) inputs)
  pub over_item : handed_over a.net b.net given ≡ get_or (map (handed_over a.net b.net) inputs) i (handed_over a.net b.net given)
  pub right : IsStepped (equations_of b) (handed_over a.net b.net given) before_b after_b shown_b

pub on-run-begins : (a b : Joined) (inputs : List (List Level)) (config_a config_b : Config) → IsStarted (equations_of a) config_a → IsStarted (equations_of b) config_b → AreOnRun a b inputs 0 config_a config_b [] []
on-run-begins a b inputs config_a config_b s t = record { left_run = run-begins (equations_of a) inputs config_a s; right_run = run-begins (equations_of b) (map (handed_over a.net b.net) inputs) config_b t }

pub on-run-stepped : (a b : Joined) (inputs : List (List Level)) (i : ℕ) (given : List Level) (before_a before_b after_a after_b : Config) (shown_a shown_b : List Level) (left right : List (List Level)) →
    BothStepped a b inputs i given before_a before_b after_a after_b shown_a shown_b → AreOnRun a b inputs i before_a before_b left right →
    AreOnRun a b inputs (i + 1) after_a after_b (left ++ shown_a ∷ []) (right ++ shown_b ∷ [])
on-run-stepped a b inputs i given before_a before_b after_a after_b shown_a shown_b left right s w = record {
  left_run = run-stepped (equations_of a) inputs i given before_a after_a shown_a left s.within s.item s.left w.left_run;
  right_run = run-stepped (equations_of b) (map (handed_over a.net b.net) inputs) i (handed_over a.net b.net given) before_b after_b shown_b right s.over_within s.over_item s.right w.right_run;
}

pub even-begins : (a b : Joined) (shows : List (Option ℕ)) (inputs : List (List Level)) (config_a config_b : Config) → IsStarted (equations_of a) config_a → IsStarted (equations_of b) config_b →
    AreEvenSoFar a b shows inputs 0 config_a config_b
even-begins a b shows inputs config_a config_b s t = record { left = []; right = []; run = on-run-begins a b inputs config_a config_b s t; even = λ n lt. absurd (omega arith) }

below-split : (i m : ℕ) → i < m + 1 → (i < m) ⊎ (i ≡ m)
below-split i m lt = at (cases_lt i m)
  where
    at : (i < m) ⊎ (m ≤ i) → (i < m) ⊎ (i ≡ m)
    at (inl h) = inl h
    at (inr h) = inr (omega arith)

-- one step more at which all is even
pub even-stepped : (a b : Joined) (shows : List (Option ℕ)) (inputs : List (List Level)) (i : ℕ) (given : List Level) (before_a before_b after_a after_b : Config) (shown_a shown_b : List Level) →
    BothStepped a b inputs i given before_a before_b after_a after_b shown_a shown_b → AreEvenSoFar a b shows inputs i before_a before_b → AreEven shows shown_a shown_b →
    AreEvenSoFar a b shows inputs (i + 1) after_a after_b
even-stepped a b shows inputs i given before_a before_b after_a after_b shown_a shown_b s w here = record {
  left = w.left ++ shown_a ∷ [];
  right = w.right ++ shown_b ∷ [];
  run = on-run-stepped a b inputs i given before_a before_b after_a after_b shown_a shown_b w.left w.right s w.run;
  even = λ n lt. at n (below-split n i lt);
}
  where
    at : (n : ℕ) → (n < i) ⊎ (n ≡ i) → AreEven shows (slice_index_or (w.left ++ shown_a ∷ []) n []) (slice_index_or (w.right ++ shown_b ∷ []) n [])
    at n (inl lt) =
        subst (λ (ys : List Level). AreEven shows (slice_index_or (w.left ++ shown_a ∷ []) n []) ys) (sym (seen-before w.right shown_b n (let e : length w.right ≡ i = w.run.right_run.long in omega arith)))
        (subst (λ (xs : List Level). AreEven shows xs (slice_index_or w.right n [])) (sym (seen-before w.left shown_a n (let e : length w.left ≡ i = w.run.left_run.long in omega arith))) (w.even n lt))
    at n (inr e) =
        subst (λ (ys : List Level). AreEven shows (slice_index_or (w.left ++ shown_a ∷ []) n []) ys) (sym (seen-last w.right shown_b n (e ∙ sym w.run.right_run.long)))
        (subst (λ (xs : List Level). AreEven shows xs shown_b) (sym (seen-last w.left shown_a n (e ∙ sym w.run.left_run.long))) here)

-- what a port of the first board shows, by its place
pub left-shown : (a b : Joined) (shows : List (Option ℕ)) (left : List Level) (i : ℕ) (name : List ℕ) → ArePaired a b shows → port_name a.net i ≡ Some name → shown_at (port_names a.net) left name ≡ level_by_place left (Some i)
left-shown a b shows left i name p e = shown-own (port_names a.net) left i name (ports-distinct a.net p.wiring) e

pub right-shown : (a b : Joined) (shows : List (Option ℕ)) (right : List Level) (i : ℕ) (name : List ℕ) → ArePaired a b shows → port_name a.net i ≡ Some name →
    shown_at (port_names b.net) right name ≡ level_by_place right (slice_index_or shows i None)
right-shown a b shows right i name p e =
    shown-placed (port_names b.net) right name
    ∙ ap (level_by_place right) (sym (place-of-name (port_names a.net) (port_names b.net) i name e) ∙ ap (λ (ps : List (Option ℕ)). slice_index_or ps i None) (sym p.shows))

-- where a step was even at a port, nothing differs there
pub even-same : (a b : Joined) (shows : List (Option ℕ)) (inputs : List (List Level)) (m : ℕ) (config_a config_b : Config) (left right : List (List Level)) (n i : ℕ) (x y : Option Level) → ArePaired a b shows →
    AreOnRun a b inputs m config_a config_b left right → n < m → IsEvenAt shows (slice_index_or left n []) (slice_index_or right n []) i → DiffersOver a b inputs n i x y → ⊥
even-same a b shows inputs m config_a config_b left right n i x y p w lt even d =
    d.differ (sym d.left_shows
    ∙ ap (λ (levels : List Level). shown_at (port_names a.net) levels d.name) (run-only (equations_of a) inputs m config_a.stored (last_of config_a) left d.left n p.accepted_a w.left_run d.runs.left_run lt)
    ∙ left-shown a b shows (slice_index_or left n []) i d.name p d.named ∙ even ∙ sym (right-shown a b shows (slice_index_or right n []) i d.name p d.named)
    ∙ ap (λ (levels : List Level). shown_at (port_names b.net) levels d.name)
    (sym (run-only (equations_of b) (map (handed_over a.net b.net) inputs) m config_b.stored (last_of config_b) right d.right n p.accepted_b w.right_run d.runs.right_run lt))
    ∙ d.right_shows)

pub shows-count : (a b : Joined) (shows : List (Option ℕ)) → ArePaired a b shows → length shows ≡ length (port_names a.net)
shows-count a b shows p = ap length p.shows ∙ length-map (port_names a.net) (λ (name : List ℕ). place_named name (port_names b.net))

-- a difference is at a port
differs-within : (a b : Joined) (shows : List (Option ℕ)) (inputs : List (List Level)) (n i : ℕ) (x y : Option Level) → ArePaired a b shows → DiffersOver a b inputs n i x y → i < length shows
differs-within a b shows inputs n i x y p d = let lt : i < length (port_names a.net) = slice_get_within (port_names a.net) i d.name d.named in let e : length shows ≡ length (port_names a.net) = shows-count a b shows p in omega arith

-- before a step up to which all was even nothing differs
pub none-sooner : (a b : Joined) (shows : List (Option ℕ)) (inputs : List (List Level)) (m : ℕ) (config_a config_b : Config) → ArePaired a b shows → AreEvenSoFar a b shows inputs m config_a config_b →
    (n i : ℕ) (x y : Option Level) → n < m → DiffersOver a b inputs n i x y → ⊥
none-sooner a b shows inputs m config_a config_b p w n i x y lt d =
    even-same a b shows inputs m config_a config_b w.left w.right n i x y p w.run lt (w.even n lt i (differs-within a b shows inputs n i x y p d)) d

-- all inputs are done
pub none-over : (a b : Joined) (shows : List (Option ℕ)) (inputs : List (List Level)) (m : ℕ) (config_a config_b : Config) → ArePaired a b shows → length inputs ≤ m → AreEvenSoFar a b shows inputs m config_a config_b →
    NoneOver a b inputs
none-over a b shows inputs m config_a config_b p all w n i x y lt d = none-sooner a b shows inputs m config_a config_b p w n i x y (omega arith) d

pub ports-count : (net : Net) (chips : List ChipCells) → length (circuit net chips).ports ≡ length (port_names net)
ports-count net chips = from 2 net.nets
  where
    from : (n : ℕ) (ls : List NetLine) → length (places_from is_port n ls) ≡ length (map (λ l. l.name) (filter is_port ls))
    from n [] = refl
    from n (l ∷ ls) = at (is_port l) (from (n + 1) ls)
      where
        at : (b : Bool) → length (places_from is_port (n + 1) ls) ≡ length (map (λ l. l.name) (filter is_port ls)) →
            length ((if b then n ∷ [] else []) ++ places_from is_port (n + 1) ls) ≡ length (map (λ l. l.name) (if b then l ∷ filter is_port ls else filter is_port ls))
        at true e = ap suc e
        at false e = e

-- the level by a place, where it has one
some-level : (levels : List Level) (k : ℕ) → k < length levels → level_by_place levels (Some k) ≡ Some (level_or_x (level_by_place levels (Some k)))
some-level levels k lt =
    let e : slice_get levels k ≡ Some (get_or levels k X) = slice_get-get_or levels k X lt in
    e ∙ ap (λ (o : Option Level). Some (level_or_x o)) (sym e)

-- the levels that a pair of lists has at a port
pub left-level : (a b : Joined) (shows : List (Option ℕ)) (left : List Level) (i : ℕ) → ArePaired a b shows → length left ≡ length (equations_of a).ports → i < length shows →
    level_by_place left (Some i) ≡ Some (level_or_x (level_by_place left (Some i)))
left-level a b shows left i p long lt =
    let e : length shows ≡ length (port_names a.net) = shows-count a b shows p in
    let f : length (equations_of a).ports ≡ length (port_names a.net) = ports-count a.net a.chips in
    some-level left i (omega arith)

pub right-level : (a b : Joined) (shows : List (Option ℕ)) (right : List Level) (i : ℕ) (name : List ℕ) → ArePaired a b shows → length right ≡ length (equations_of b).ports → port_name a.net i ≡ Some name →
    level_by_place right (slice_index_or shows i None) ≡ Some (level_or_x (level_by_place right (slice_index_or shows i None)))
right-level a b shows right i name p long named =
    let h = other-place a.net b.net i name p.ports named in
    let place : slice_index_or shows i None ≡ Some h.0 =
    ap (λ (ps : List (Option ℕ)). slice_index_or ps i None) p.shows ∙ place-of-name (port_names a.net) (port_names b.net) i name named ∙ h.1 in
    let f : length (equations_of b).ports ≡ length (port_names b.net) = ports-count b.net b.chips in
    subst (λ (o : Option ℕ). level_by_place right o ≡ Some (level_or_x (level_by_place right o))) (sym place) (some-level right h.0 (omega (arith, h.2)))

pub name-there : (a b : Joined) (shows : List (Option ℕ)) (i : ℕ) → ArePaired a b shows → i < length shows → port_name a.net i ≡ Some (get_or (port_names a.net) i [])
name-there a b shows i p lt = let e : length shows ≡ length (port_names a.net) = shows-count a b shows p in slice_get-get_or (port_names a.net) i [] (omega arith)

-- the first step that isn't even
pub first-here : (a b : Joined) (shows : List (Option ℕ)) (inputs : List (List Level)) (i : ℕ) (given : List Level) (before_a before_b after_a after_b : Config) (shown_a shown_b : List Level) (u : Uneven) →
    ArePaired a b shows → BothStepped a b inputs i given before_a before_b after_a after_b shown_a shown_b → AreEvenSoFar a b shows inputs i before_a before_b →
    length shown_a ≡ length (equations_of a).ports → length shown_b ≡ length (equations_of b).ports → IsUnevenAfter shows shown_a shown_b i u → IsFirstOver a b inputs u
first-here a b shows inputs i given before_a before_b after_a after_b shown_a shown_b u p s w long_a long_b un = record {
  within = subst (λ (n : ℕ). n < length inputs) (sym un.step) s.within;
  differs = subst (λ (n : ℕ). DiffersOver a b inputs n u.place (Some u.left) (Some u.right)) (sym un.step) differs;
  sooner = λ n k x y lt d. none-sooner a b shows inputs i before_a before_b p w n k x y (let e : u.step ≡ i = un.step in omega arith) d;
  before = λ k x y lt d. even-same a b shows inputs (i + 1) after_a after_b left right u.step k x y p run (let e : u.step ≡ i = un.step in omega arith) (there k lt) d;
}
  where
    left : List (List Level)
    left = w.left ++ shown_a ∷ []

    right : List (List Level)
    right = w.right ++ shown_b ∷ []

    run : AreOnRun a b inputs (i + 1) after_a after_b left right
    run = on-run-stepped a b inputs i given before_a before_b after_a after_b shown_a shown_b w.left w.right s w.run

    last_left : (n : ℕ) → n ≡ i → slice_index_or left n [] ≡ shown_a
    last_left n e = seen-last w.left shown_a n (e ∙ sym w.run.left_run.long)

    last_right : (n : ℕ) → n ≡ i → slice_index_or right n [] ≡ shown_b
    last_right n e = seen-last w.right shown_b n (e ∙ sym w.run.right_run.long)

    there : (k : ℕ) → k < u.place → IsEvenAt shows (slice_index_or left u.step []) (slice_index_or right u.step []) k
    there k lt =
        subst (λ (ys : List Level). IsEvenAt shows (slice_index_or left u.step []) ys k) (sym (last_right u.step un.step))
        (subst (λ (xs : List Level). IsEvenAt shows xs shown_b k) (sym (last_left u.step un.step)) (un.first.before k lt))

    name : List ℕ
    name = get_or (port_names a.net) u.place []

    named : port_name a.net u.place ≡ Some name
    named = name-there a b shows u.place p un.first.within

    left_is : level_by_place shown_a (Some u.place) ≡ Some u.left
    left_is = left-level a b shows shown_a u.place p long_a un.first.within ∙ ap (λ (x : Level). Some x) (sym un.left_shows)

    right_is : level_by_place shown_b (slice_index_or shows u.place None) ≡ Some u.right
    right_is = right-level a b shows shown_b u.place name p long_b named ∙ ap (λ (x : Level). Some x) (sym un.right_shows)

    whole_a : (rest : List (List Level)) × IsRun (equations_of a) inputs (left ++ rest)
    whole_a = run-whole (equations_of a) inputs (i + 1) after_a.stored (last_of after_a) left p.accepted_a run.left_run

    whole_b : (rest : List (List Level)) × IsRun (equations_of b) (map (handed_over a.net b.net) inputs) (right ++ rest)
    whole_b = run-whole (equations_of b) (map (handed_over a.net b.net) inputs) (i + 1) after_b.stored (last_of after_b) right p.accepted_b run.right_run

    differs : DiffersOver a b inputs i u.place (Some u.left) (Some u.right)
    differs = record {
      name = name;
      left = left ++ whole_a.0;
      right = right ++ whole_b.0;
      runs = record { left_run = whole_a.1; right_run = whole_b.1 };
      named = named;
      left_shows = ap (λ (levels : List Level). shown_at (port_names a.net) levels name)
          (run-only (equations_of a) inputs (i + 1) after_a.stored (last_of after_a) left (left ++ whole_a.0) i p.accepted_a run.left_run whole_a.1 (omega arith) ∙ last_left i refl)
          ∙ left-shown a b shows shown_a u.place name p named ∙ left_is;
      right_shows = ap (λ (levels : List Level). shown_at (port_names b.net) levels name)
          (run-only (equations_of b) (map (handed_over a.net b.net) inputs) (i + 1) after_b.stored (last_of after_b) right (right ++ whole_b.0) i p.accepted_b run.right_run whole_b.1 (omega arith) ∙ last_right i refl)
          ∙ right-shown a b shows shown_b u.place name p named ∙ right_is;
      differ = λ e. un.first.uneven (left_is ∙ e ∙ sym right_is);
    }

-- a step to the inputs of a script, by the list that is lent
pub stepped-at : (a b : Joined) (steps all : List Inputs) (i : ℕ) (given : Inputs) (before_a before_b after_a after_b : Config) (shown_a shown_b : List Level) → steps ≡ all → i < length steps →
    given ≡ get_or steps i given → IsStepped (equations_of a) given.levels before_a after_a shown_a → IsStepped (equations_of b) (handed_over a.net b.net given.levels) before_b after_b shown_b →
    BothStepped a b (map (λ s. s.levels) all) i given.levels before_a before_b after_a after_b shown_a shown_b
stepped-at a b steps all i given before_a before_b after_a after_b shown_a shown_b same lt item left right = record {
  within = own-given-within steps all i same lt;
  item = own-given-at steps all i given same lt item;
  left = left;
  over_within = given-within (handed_over a.net b.net) steps all i same lt;
  over_item = given-at (handed_over a.net b.net) steps all i given same lt item;
  right = right;
}

-- a difference is at a port of the first board
pub differs-port : (a b : Joined) (inputs : List (List Level)) (n i : ℕ) (x y : Option Level) → DiffersOver a b inputs n i x y → i < length (equations_of a).ports
differs-port a b inputs n i x y d =
    let lt : i < length (port_names a.net) = slice_get_within (port_names a.net) i d.name d.named in
    let f : length (equations_of a).ports ≡ length (port_names a.net) = ports-count a.net a.chips in
    omega arith

-- the first difference over a trial
pub difference-made : (a b : Joined) (k : ℕ) (inputs : List (List Level)) (u : Uneven) (ports : List ℕ) (t : Trace) → inputs ≡ trial_of a.net k → IsFirstOver a b inputs u → ports ≡ (equations_of a).ports →
    slice_get ports u.place ≡ Some t.port → inputs_of t.script ≡ trial_front k (handed_ports a.net) (u.step + 1) → t.left ≡ u.left → t.right ≡ u.right → IsDifferenceIn a b k t
difference-made a b k inputs u ports t is f these port script left right = record {
  step = u.step;
  place = u.place;
  within = within;
  differs = subst (λ (x : Level). DiffersAt a b k u.step u.place (Some x) (Some t.right)) (sym left)
      (subst (λ (y : Level). DiffersAt a b k u.step u.place (Some u.left) (Some y)) (sym right) g.differs);
  port = subst (λ (ps : List ℕ). slice_get ps u.place ≡ Some t.port) these port;
  script = script ∙ sym (front-of-front k (u.step + 1) 64 (handed_ports a.net) (let lt : u.step < 64 = within in omega arith));
  sooner = g.sooner;
  before = g.before;
}
  where
    g : IsFirstOver a b (trial_of a.net k) u
    g = subst (λ (is : List (List Level)). IsFirstOver a b is u) is f

    within : u.step < 64
    within = let lt : u.step < length (trial_of a.net k) = (subst (λ (is : List (List Level)). IsFirstOver a b is u) is f).within in
        let e : length (trial_of a.net k) ≡ 64 = front-count k 64 (handed_ports a.net) in omega arith

-- no earlier trial differs
pub difference-first : (a b : Joined) (k : ℕ) (t : Trace) → k < 64 → IsDifferenceIn a b k t → ((j : ℕ) → j < k → NoneOver a b (trial_of a.net j)) → IsFirstDifference a b t
difference-first a b k t lt f none = record {
  trial_number = k;
  step = f.step;
  place = f.place;
  trial_within = lt;
  step_within = f.within;
  differs = f.differs;
  port = f.port;
  script = f.script;
  first = λ j n i x y jk n64 sooner d. first j n i x y n64 sooner d;
}
  where
    here : (n i : ℕ) (x y : Option Level) → (n < f.step) ⊎ ((n ≡ f.step) × (i < f.place)) → DiffersAt a b k n i x y → ⊥
    here n i x y (inl lt) d = f.sooner n i x y lt d
    here n i x y (inr p) d = f.before i x y p.1 (subst (λ (m : ℕ). DiffersAt a b k m i x y) p.0 d)

    first : (j n i : ℕ) (x y : Option Level) → n < 64 → IsSooner j n i k f.step f.place → DiffersAt a b j n i x y → ⊥
    first j n i x y lt (inl less) d = none j less n i x y (let e : length (trial_of a.net j) ≡ 64 = front-count j 64 (handed_ports a.net) in omega arith) d
    first j n i x y lt (inr p) d = here n i x y p.1 (subst (λ (m : ℕ). DiffersAt a b m n i x y) p.0 d)

pub none-differs : (a b : Joined) (m : ℕ) → 64 ≤ m → ((j : ℕ) → j < m → NoneOver a b (trial_of a.net j)) → NoDifference a b
none-differs a b m all none k n i x y klt nlt d = none k (omega arith) n i x y (let e : length (trial_of a.net k) ≡ 64 = front-count k 64 (handed_ports a.net) in omega arith) d

pub one-more-none : (a b : Joined) (k : ℕ) → ((j : ℕ) → j < k → NoneOver a b (trial_of a.net j)) → NoneOver a b (trial_of a.net k) → (j : ℕ) → j < k + 1 → NoneOver a b (trial_of a.net j)
one-more-none a b k before here j lt = at (below-split j k lt)
  where
    at : (j < k) ⊎ (j ≡ k) → NoneOver a b (trial_of a.net j)
    at (inl less) = before j less
    at (inr e) = subst (λ (m : ℕ). NoneOver a b (trial_of a.net m)) (sym e) here
