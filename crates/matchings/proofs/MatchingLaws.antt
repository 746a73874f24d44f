-- The greatest matching by rounds, and what a proving one shows.
use Rattle.std.proofs.Common.{ℕ, ◌≡◌, ◌≢◌, ◌<◌, ◌+◌, Bool, true, false, List, [], ◌∷◌, ◌++◌, map, length, replicate, Option, Some, None, refl, sym, ap, ◌∙◌, subst}
use Rattle.std.specs.Prelude.{IfSome}
use Rattle.std.specs.List.{AllByRecursion}
use Rattle.std.proofs.lemmas.List.{get_or-replicate, length-append, length-replicate, replicate-append-replicate}
use Rattle.mig_base.specs.declared.levels.Level.{Level}
use Rattle.mig_base.specs.declared.levels.Level.TheVariants.{Zero, One, Z, X}
use Rattle.mig_base.specs.Levels.{level_at, same_level}
use Rattle.mig_base.specs.Accepted.{IsAccepted}
use Rattle.level_laws.specs.Runs.{IsRunFrom, power_up}
use Rattle.level_laws.specs.SameBehaviour.{Handing, IsLawful, IsSame, SamePorts, port_names, shown_at}
use Rattle.level_laws.proofs.DriverUnits.{drivers-units}
use Rattle.board.specs.Joined.{Joined, equations_of}
use Rattle.matchings.specs.Pairs.{Agrees, AreTogether, IsLawfulFor, handed, last_handed, registers_of_both}
use Rattle.matchings.specs.Matchings.{HasInductive, IsGreatest, IsInductive, IsProving}
use Rattle.matchings.specs.Rounds.{IsParted, IsRound}
use Rattle.matchings.proofs.States.{start-state, step-state}
use Rattle.matchings.proofs.LawfulBoth.{lawful-other}

start-zero : (n m i : ℕ) → i < length (replicate n Zero ++ replicate m Zero) → level_at (replicate n Zero ++ replicate m Zero) i ≡ Zero
start-zero n m i lt =
    let same : replicate n Zero ++ replicate m Zero ≡ replicate (n + m) Zero = replicate-append-replicate n m Zero in
    let within : i < n + m = subst (λ (k : ℕ). i < k) (ap length same ∙ length-replicate (n + m) Zero) lt in
    ap (λ (ls : List Level). level_at ls i) same ∙ get_or-replicate (n + m) i Zero X within

-- power-up agrees under every matching
pub start-agrees : (a b : Joined) (classes : List ℕ) → Agrees a b classes (power_up (equations_of a)) (power_up (equations_of b)) None
start-agrees a b classes = record {
  left_state = start-state (equations_of a);
  right_state = start-state (equations_of b);
  equal = λ i j li lj together.
      start-zero (length (equations_of a).registers) (length (equations_of b).registers) i li
      ∙ sym (start-zero (length (equations_of a).registers) (length (equations_of b).registers) j lj);
  lawful = tt;
}

runs-agree : (a b : Joined) (classes : List ℕ) → IsProving a b classes → (handings : List Handing) (shown_a shown_b : List (List Level)) (left right : List Level) (last : Option Handing) →
    Agrees a b classes left right last → AllByRecursion (IsLawfulFor a) handings →
    IsRunFrom (equations_of a) left (last_handed a last) (map (handed a) handings) shown_a → IsRunFrom (equations_of b) right (last_handed b last) (map (handed b) handings) shown_b →
    (name : List ℕ) → map (λ levels. shown_at (port_names a.net) levels name) shown_a ≡ map (λ levels. shown_at (port_names b.net) levels name) shown_b
runs-agree a b classes proving [] [] [] left right last agrees lawful ra rb name = refl
runs-agree a b classes proving [] [] (t ∷ ts) left right last agrees lawful ra rb name = absurd rb
runs-agree a b classes proving [] (s ∷ ss) tts left right last agrees lawful ra rb name = absurd ra
runs-agree a b classes proving (h ∷ hs) [] tts left right last agrees lawful ra rb name = absurd ra
runs-agree a b classes proving (h ∷ hs) (s ∷ ss) [] left right last agrees lawful ra rb name = absurd rb
runs-agree a b classes proving (h ∷ hs) (s ∷ ss) (t ∷ ts) left right last agrees lawful ra rb name =
    let next : Agrees a b classes ra.0 rb.0 (Some h) = proving.inductive left right ra.0 rb.0 last h agrees (record { lawful = lawful.0; left_step = ra.2; right_step = rb.2 }) in
    let shows : shown_at (port_names a.net) s name ≡ shown_at (port_names b.net) t name =
    ap (λ (ls : List Level). shown_at (port_names a.net) ls name) ra.4 ∙ proving.shows ra.0 rb.0 h ra.1 rb.1 next ra.3 rb.3 name
    ∙ sym (ap (λ (ls : List Level). shown_at (port_names b.net) ls name) rb.4) in
    ap (λ (x : Option Level). x ∷ map (λ levels. shown_at (port_names a.net) levels name) ss) shows
    ∙ ap (λ (xs : List (Option Level)). shown_at (port_names b.net) t name ∷ xs) (runs-agree a b classes proving hs ss ts ra.0 rb.0 (Some h) next lawful.1 ra.5 rb.5 name)

pub proving-same : (a b : Joined) (classes : List ℕ) → SamePorts a.net b.net → length classes ≡ registers_of_both a b → IsProving a b classes → IsSame a.net a.chips b.net b.chips
proving-same a b classes ports count proving = record {
  ports = ports;
  shown = λ handings shown_a shown_b lawful ra rb name.
      runs-agree a b classes proving handings shown_a shown_b (power_up (equations_of a)) (power_up (equations_of b)) None (start-agrees a b classes) lawful ra rb name;
}

pub one-class : (a b : Joined) → HasInductive a b (replicate (registers_of_both a b) 0)
one-class a b others count inductive i j li lj together =
    get_or-replicate (registers_of_both a b) i 0 0 li ∙ sym (get_or-replicate (registers_of_both a b) j 0 0 lj)

pub both-length : (a b : Joined) (classes : List ℕ) (left right : List Level) (last : Option Handing) → Agrees a b classes left right last → length (left ++ right) ≡ registers_of_both a b
both-length a b classes left right last agrees =
    length-append left right ∙ ap (λ (n : ℕ). n + length right) agrees.left_state.lengths
    ∙ ap (λ (n : ℕ). length (equations_of a).registers + n) agrees.right_state.lengths

-- what agrees under a coarser matching agrees under a finer one
coarser : (a b : Joined) (old others : List ℕ) (left right : List Level) (last : Option Handing) →
    ((i j : ℕ) → i < registers_of_both a b → j < registers_of_both a b → AreTogether others i j → AreTogether old i j) →
    Agrees a b old left right last → Agrees a b others left right last
coarser a b old others left right last within agrees =
    let count : length (left ++ right) ≡ registers_of_both a b = both-length a b old left right last agrees in record {
      left_state = agrees.left_state;
      right_state = agrees.right_state;
      equal = λ i j li lj together. agrees.equal i j li lj (within i j (subst (λ (k : ℕ). i < k) count li) (subst (λ (k : ℕ). j < k) count lj) together);
      lawful = agrees.lawful;
    }

never-parted : (a b : Joined) (old others : List ℕ) → IsInductive a b others →
    ((i j : ℕ) → i < registers_of_both a b → j < registers_of_both a b → AreTogether others i j → AreTogether old i j) →
    (i j : ℕ) → i < registers_of_both a b → j < registers_of_both a b → AreTogether others i j → IsParted a b old i j → ⊥
never-parted a b old others inductive within i j li lj together p =
    let next : Agrees a b others p.next_left p.next_right (Some p.handing) =
    inductive p.left p.right p.next_left p.next_right p.last p.handing (coarser a b old others p.left p.right p.last within p.agrees) p.step in
    let count : length (p.next_left ++ p.next_right) ≡ registers_of_both a b = both-length a b others p.next_left p.next_right (Some p.handing) next in
    p.parted (next.equal i j (subst (λ (k : ℕ). i < k) (sym count) li) (subst (λ (k : ℕ). j < k) (sym count) lj) together)

pub rounds-keep : (a b : Joined) (old new : List ℕ) → HasInductive a b old → IsRound a b old new → HasInductive a b new
rounds-keep a b old new has round others count inductive i j li lj together =
    round.stays i j li lj (has others count inductive i j li lj together)
    (never-parted a b old others inductive (has others count inductive) i j li lj together)

level-eq : (x y : Level) → same_level x y ≡ true → x ≡ y
level-eq Zero Zero e = refl
level-eq Zero One e = cc
level-eq Zero Z e = cc
level-eq Zero X e = cc
level-eq One Zero e = cc
level-eq One One e = refl
level-eq One Z e = cc
level-eq One X e = cc
level-eq Z Zero e = cc
level-eq Z One e = cc
level-eq Z Z e = refl
level-eq Z X e = cc
level-eq X Zero e = cc
level-eq X One e = cc
level-eq X Z e = cc
level-eq X X e = refl

same-self : (x : Level) → same_level x x ≡ true
same-self Zero = refl
same-self One = refl
same-self Z = refl
same-self X = refl

level-apart : (x y : Level) → same_level x y ≡ false → x ≢ y
level-apart x y e eq = let wrong : true ≡ false = sym (ap (same_level x) (sym eq) ∙ same-self x) ∙ e in apart wrong
  where
    apart : true ≡ false → ⊥
    apart e = cc

-- levels that are not unequal are equal
pub level-stable : (x y : Level) → (x ≢ y → ⊥) → x ≡ y
level-stable x y h = at (same_level x y) refl
  where
    at : (s : Bool) → same_level x y ≡ s → x ≡ y
    at true e = level-eq x y e
    at false e = absurd (h (level-apart x y e))

last-lawful : (a : Joined) (last : Option Handing) → IfSome last (IsLawfulFor a) → IfSome (last_handed a last) (IsLawful (equations_of a))
last-lawful a None h = tt
last-lawful a (Some handing) h = h

other-lawful : (a b : Joined) (last : Option Handing) → SamePorts a.net b.net → IfSome last (IsLawfulFor a) → IfSome last (IsLawfulFor b)
other-lawful a b None ports h = tt
other-lawful a b (Some handing) ports h = lawful-other a b handing ports h

pub last-round : (a b : Joined) (classes : List ℕ) → IsAccepted (equations_of a) → IsAccepted (equations_of b) → SamePorts a.net b.net →
    HasInductive a b classes → IsRound a b classes classes → IsGreatest a b classes
last-round a b classes accepted_a accepted_b ports has round = record { count = round.count; inductive = inductive; every = has }
  where
    inductive : IsInductive a b classes
    inductive left right next_left next_right last handing agrees step =
        let ca = equations_of a in
        let cb = equations_of b in
        let left_state = step-state ca left (last_handed a last) (handed a handing) next_left accepted_a (drivers-units a.net a.chips) agrees.left_state
        (last-lawful a last agrees.lawful) step.left_step in
        let right_state = step-state cb right (last_handed b last) (handed b handing) next_right accepted_b (drivers-units b.net b.chips) agrees.right_state
        (last-lawful b last (other-lawful a b last ports agrees.lawful)) step.right_step in
        let count : length (next_left ++ next_right) ≡ registers_of_both a b =
        length-append next_left next_right ∙ ap (λ (n : ℕ). n + length next_right) left_state.lengths ∙ ap (λ (n : ℕ). length ca.registers + n) right_state.lengths in
        record {
          left_state = left_state;
          right_state = right_state;
          equal = λ i j li lj together. level-stable (level_at (next_left ++ next_right) i) (level_at (next_left ++ next_right) j)
              (λ apart. round.parts i j (subst (λ (k : ℕ). i < k) count li) (subst (λ (k : ℕ). j < k) count lj) together
              (record { left = left; right = right; last = last; handing = handing; next_left = next_left; next_right = next_right; agrees = agrees; step = step; parted = apart }));
          lawful = step.lawful;
        }
