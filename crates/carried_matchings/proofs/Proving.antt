-- The matching that puts each kept register with its old one, and each other register alone, is proving.
use Rattle.std.proofs.Common.{ℕ, ◌≡◌, ◌⊎◌, ◌<◌, ◌≤◌, ◌+◌, ◌-◌, Bool, true, false, cond, List, [], ◌∷◌, ◌++◌, map, filter, length, Option, Some, None, refl, sym, ap, ◌∙◌, subst, arith, inl, inr}
use Rattle.std.specs.Prelude.{IfSome}
use Rattle.std.specs.List.{slice_get}
use Rattle.std.proofs.lemmas.Bool.{cases_lt}
use Rattle.std.proofs.lemmas.List.{length-append, get_or_append_left, get_or-append-add}
use Rattle.std.proofs.lemmas.Option.{slice_get_within, slice_get-get_or}
use Rattle.mig_base.specs.declared.levels.Level.{Level}
use Rattle.mig_base.specs.declared.levels.Level.TheVariants.{X}
use Rattle.mig_base.specs.declared.nets.Net.{Net}
use Rattle.mig_base.specs.declared.nets.NetLine.{NetLine}
use Rattle.mig_base.specs.declared.nets.Port.{Port}
use Rattle.mig_base.specs.declared.nets.Port.TheVariants as port
use Rattle.mig_base.specs.declared.circuit.Read.{Read}
use Rattle.mig_base.specs.declared.circuit.Read.TheVariants.{OfRegister}
use Rattle.mig_base.specs.declared.circuit.Circuit.{Circuit}
use Rattle.mig_base.specs.declared.circuit.Levels.{Levels}
use Rattle.mig_base.specs.Accepted.{IsAccepted}
use Rattle.mig_base.specs.Boards.{is_port, is_port_kind, is_handed}
use Rattle.mig_base.specs.First.{made_from}
use Rattle.mig_base.specs.Levels.{level_at}
use Rattle.mig_base.specs.Ranked.{Ranked}
use Rattle.mig_base.proofs.ListLaws.{get_or-made_from, length-made_from}
use Rattle.level_laws.specs.Follows.{Follows, SameAt}
use Rattle.level_laws.specs.Runs.{IsStep, next_stored, shown_levels}
use Rattle.level_laws.specs.SameBehaviour.{Handing, IsLawful, handed_levels, port_names, shown_at}
use Rattle.level_laws.specs.Settled.{IsSettled}
use Rattle.level_laws.proofs.FollowsSame.{settled-same}
use Rattle.board.specs.Joined.{Joined, equations_of}
use Rattle.matchings.specs.Matchings.{BothStep, IsInductive, IsProving, ShowsAgree}
use Rattle.matchings.specs.Pairs.{Agrees, AreEqualInClasses, IsLawfulFor, IsState, class_at, handed, last_handed, registers_of_both}
use Rattle.matchings.proofs.States.{step-state}
use Rattle.fitting_levels.specs.Wired.{IsWired}
use Rattle.carried_boards.specs.Carries.{Numbers, Kept, Carries, IsKept, StoreAlike, old_node}
use Rattle.carried_boards.proofs.Keeping.{carries-follows, level-same}
use Rattle.carried_boards.proofs.Ranks.{carried_rank, carries-accepted, carries-lawful, carries-ranked}
use Rattle.carried_matchings.specs.CarriedClasses.{carried_class, carried_classes}

-- one of those that pass a test passes a weaker one
filter-within : {T : Type 0} (p q : T → Bool) → ((x : T) → p x ≡ true → q x ≡ true) → (xs : List T) → filter p xs ≡ filter p (filter q xs)
filter-within p q f [] = refl
filter-within {T} p q f (x ∷ xs) = at (p x) (q x) refl refl (filter-within p q f xs)
  where
    at : (a b : Bool) → p x ≡ a → q x ≡ b → filter p xs ≡ filter p (filter q xs) → cond a (x ∷ filter p xs) (filter p xs) ≡ filter p (cond b (x ∷ filter q xs) (filter q xs))
    at true true ea eb e = ap (λ (rest : List T). x ∷ rest) e ∙ sym (ap (λ (c : Bool). cond c (x ∷ filter p (filter q xs)) (filter p (filter q xs))) ea)
    at true false ea eb e = let wrong : true ≡ false = sym (f x ea) ∙ eb in cc
    at false true ea eb e = e ∙ sym (ap (λ (c : Bool). cond c (x ∷ filter p (filter q xs)) (filter p (filter q xs))) ea)
    at false false ea eb e = e

handed-port : (l : NetLine) → is_handed l.port ≡ true → is_port l ≡ true
handed-port l e = at l.port e
  where
    at : (p : Port) → is_handed p ≡ true → is_port_kind p ≡ true
    at port.Inner e = cc
    at port.Input e = refl
    at port.Output e = refl
    at port.Both e = refl

-- boards with the same port lines are handed the same
handed-same : (a b : Net) → filter is_port a.nets ≡ filter is_port b.nets → (handing : Handing) → handed_levels b handing ≡ handed_levels a handing
handed-same a b e handing =
    ap (map (λ (l : NetLine). handing l.name)) (filter-within (λ (l : NetLine). is_handed l.port) is_port handed-port b.nets
    ∙ ap (filter (λ (l : NetLine). is_handed l.port)) (sym e) ∙ sym (filter-within (λ (l : NetLine). is_handed l.port) is_port handed-port a.nets))

-- equal levels at places of two lists
same-place : (xs ys : List Level) (i j : ℕ) → i < length xs → j < length ys → level_at xs i ≡ level_at ys j → slice_get xs i ≡ slice_get ys j
same-place xs ys i j hi hj e = slice_get-get_or xs i X hi ∙ ap (λ (x : Level). Some x) e ∙ sym (slice_get-get_or ys j X hj)

-- a place of two lists, one behind the other
abbrev IsSide : ℕ → ℕ → ℕ → Type 0
IsSide n m i = (i < n) ⊎ ((k : ℕ) × (k < m) × (i ≡ n + k))

side : (n m i : ℕ) → i < n + m → IsSide n m i
side n m i h = at (cases_lt i n)
  where
    at : (i < n) ⊎ (n ≤ i) → IsSide n m i
    at (inl low) = inl low
    at (inr high) = inr (i - n, omega arith, omega arith)

module _ (a b : Circuit) (old : Numbers) (kept : Kept) where
  abbrev pub classes : List ℕ
  classes = carried_classes a b old kept

  abbrev firsts : List ℕ
  firsts = made_from (λ (k : ℕ). k) 0 (length a.registers)

  abbrev seconds : List ℕ
  seconds = made_from (carried_class a old kept) 0 (length b.registers)

  classes-long : length classes ≡ length a.registers + length b.registers
  classes-long =
      let long : length firsts ≡ length a.registers = length-made_from (λ (k : ℕ). k) 0 (length a.registers) in
      let more : length seconds ≡ length b.registers = length-made_from (carried_class a old kept) 0 (length b.registers) in
      length-append firsts seconds ∙ omega arith

  class-first : (i : ℕ) → i < length a.registers → class_at classes i ≡ i
  class-first i h =
      let long : length firsts ≡ length a.registers = length-made_from (λ (k : ℕ). k) 0 (length a.registers) in
      let number : 0 + i ≡ i = omega arith in
      get_or_append_left firsts seconds 0 i (omega arith) ∙ get_or-made_from (λ (k : ℕ). k) 0 (length a.registers) i 0 h ∙ number

  class-second : (i k : ℕ) → k < length b.registers → i ≡ length a.registers + k → class_at classes i ≡ carried_class a old kept k
  class-second i k h e =
      let long : length firsts ≡ length a.registers = length-made_from (λ (k : ℕ). k) 0 (length a.registers) in
      let place : i ≡ length firsts + k = omega arith in
      let number : 0 + k ≡ k = omega arith in
      ap (class_at classes) place ∙ get_or-append-add firsts seconds k 0 ∙ get_or-made_from (carried_class a old kept) 0 (length b.registers) k 0 h ∙ ap (carried_class a old kept) number

pub classes-count : (a b : Joined) (old : Numbers) (kept : Kept) → length (carried_classes (equations_of a) (equations_of b) old kept) ≡ registers_of_both a b
classes-count a b old kept = classes-long (equations_of a) (equations_of b) old kept

module _ (a b : Circuit) (absorbed : List ℕ) (old : Numbers) (kept : Kept) (c : Carries a b absorbed old kept) where
  old-within : (k : ℕ) → IsKept kept (OfRegister k) → old.register k < length a.registers
  old-within k is = slice_get_within a.registers (old.register k) (c.registers k is).register (c.registers k is).found

  new-within : (k : ℕ) → IsKept kept (OfRegister k) → k < length b.registers
  new-within k is = slice_get_within b.registers k (c.registers k is).new (c.registers k is).new_found

  class-kept : (k : ℕ) → IsKept kept (OfRegister k) → carried_class a old kept k ≡ old.register k
  class-kept k is = ap (λ (q : Bool). cond q (old.register k) (length a.registers + k)) is

  class-alone : (k : ℕ) → kept (OfRegister k) ≡ false → carried_class a old kept k ≡ length a.registers + k
  class-alone k is = ap (λ (q : Bool). cond q (old.register k) (length a.registers + k)) is

  -- stored levels of both boards
  module _ (left right : List Level) (left_long : length left ≡ length a.registers) (right_long : length right ≡ length b.registers) where
    abbrev both : List Level
    both = left ++ right

    level-first : (i : ℕ) → i < length a.registers → level_at both i ≡ level_at left i
    level-first i h = get_or_append_left left right X i (omega arith)

    level-second : (i k : ℕ) → i ≡ length a.registers + k → level_at both i ≡ level_at right k
    level-second i k e = let place : i ≡ length left + k = omega arith in ap (level_at both) place ∙ get_or-append-add left right k X

    both-long : length both ≡ length a.registers + length b.registers
    both-long = length-append left right ∙ omega arith

    equal-alike : AreEqualInClasses (carried_classes a b old kept) both → (k : ℕ) → IsKept kept (OfRegister k) → slice_get left (old.register k) ≡ slice_get right k
    equal-alike equal k is =
        let low : old.register k < length a.registers = old-within k is in
        let high : k < length b.registers = new-within k is in
        let long : length both ≡ length a.registers + length b.registers = both-long in
        let first : old.register k < length both = omega arith in
        let second : length a.registers + k < length both = omega arith in
        let together : class_at (carried_classes a b old kept) (old.register k) ≡ class_at (carried_classes a b old kept) (length a.registers + k) =
        class-first a b old kept (old.register k) low ∙ sym (class-kept k is) ∙ sym (class-second a b old kept (length a.registers + k) k high refl) in
        same-place left right (old.register k) k (omega arith) (omega arith)
        (sym (level-first (old.register k) low) ∙ equal (old.register k) (length a.registers + k) first second together ∙ level-second (length a.registers + k) k refl)

    module _ (same : (k : ℕ) → IsKept kept (OfRegister k) → slice_get left (old.register k) ≡ slice_get right k) where
      of-new : (k : ℕ) → IsKept kept (OfRegister k) → level_at left (old.register k) ≡ level_at right k
      of-new k is = level-same left right (old.register k) k (same k is)

      across : (k j : ℕ) → k < length a.registers → k ≡ carried_class a old kept j → level_at left k ≡ level_at right j
      across k j hk e = at (kept (OfRegister j)) refl
        where
          at : (q : Bool) → kept (OfRegister j) ≡ q → level_at left k ≡ level_at right j
          at true is = ap (level_at left) (e ∙ class-kept j is) ∙ of-new j is
          at false is = let out : k ≡ length a.registers + j = e ∙ class-alone j is in absurd (omega arith)

      within : (i j : ℕ) → carried_class a old kept i ≡ carried_class a old kept j → level_at right i ≡ level_at right j
      within i j e = at (kept (OfRegister i)) (kept (OfRegister j)) refl refl
        where
          at : (p q : Bool) → kept (OfRegister i) ≡ p → kept (OfRegister j) ≡ q → level_at right i ≡ level_at right j
          at true true ei ej = sym (of-new i ei) ∙ ap (level_at left) (sym (class-kept i ei) ∙ e ∙ class-kept j ej) ∙ of-new j ej
          at true false ei ej =
              let low : old.register i < length a.registers = old-within i ei in
              let out : old.register i ≡ length a.registers + j = sym (class-kept i ei) ∙ e ∙ class-alone j ej in
              absurd (omega arith)
          at false true ei ej =
              let low : old.register j < length a.registers = old-within j ej in
              let out : length a.registers + i ≡ old.register j = sym (class-alone i ei) ∙ e ∙ class-kept j ej in
              absurd (omega arith)
          at false false ei ej =
              let out : length a.registers + i ≡ length a.registers + j = sym (class-alone i ei) ∙ e ∙ class-alone j ej in
              let one : i ≡ j = omega arith in
              ap (level_at right) one

      alike-equal : AreEqualInClasses (carried_classes a b old kept) both
      alike-equal i j hi hj together =
          let long : length both ≡ length a.registers + length b.registers = both-long in
          at (side (length a.registers) (length b.registers) i (omega arith)) (side (length a.registers) (length b.registers) j (omega arith))
        where
          at : IsSide (length a.registers) (length b.registers) i → IsSide (length a.registers) (length b.registers) j → level_at both i ≡ level_at both j
          at (inl low) (inl lower) = ap (level_at both) (sym (class-first a b old kept i low) ∙ together ∙ class-first a b old kept j lower)
          at (inl low) (inr (k, hk, ek)) =
              level-first i low ∙ across i k low (sym (class-first a b old kept i low) ∙ together ∙ class-second a b old kept j k hk ek) ∙ sym (level-second j k ek)
          at (inr (k, hk, ek)) (inl low) =
              level-second i k ek ∙ sym (across j k low (sym (class-first a b old kept j low) ∙ sym together ∙ class-second a b old kept i k hk ek)) ∙ sym (level-first j low)
          at (inr (k, hk, ek)) (inr (n, hn, en)) =
              level-second i k ek ∙ within k n (sym (class-second a b old kept i k hk ek) ∙ together ∙ class-second a b old kept j n hn en) ∙ sym (level-second j n en)

module _ (a b : Joined) (absorbed : List ℕ) (old : Numbers) (kept : Kept) (rank : Read → ℕ) (top : ℕ) (ports : filter is_port a.net.nets ≡ filter is_port b.net.nets)
    (c : Carries (equations_of a) (equations_of b) absorbed old kept) (accepted : IsAccepted (equations_of a)) (wired : IsWired (equations_of a)) (new_wired : IsWired (equations_of b))
    (ranked : Ranked (equations_of a) rank top) where
  abbrev ca : Circuit
  ca = equations_of a

  abbrev cb : Circuit
  cb = equations_of b

  abbrev matching : List ℕ
  matching = carried_classes ca cb old kept

  abbrev Alike : List Level → List Level → Type 0
  Alike left right = StoreAlike ca old kept left right

  same-handed : (handing : Handing) → handed b handing ≡ handed a handing
  same-handed = handed-same a.net b.net ports

  follows : Follows ca cb (old_node old) (IsKept kept) (StoreAlike ca old kept)
  follows = carries-follows ca cb absorbed old kept c accepted wired

  new_accepted : IsAccepted cb
  new_accepted = carries-accepted ca cb absorbed old kept c rank top accepted ranked

  store-alike : (left right : List Level) (last : Option Handing) → Agrees a b matching left right last → Alike left right
  store-alike left right last g = record {
    same = equal-alike ca cb absorbed old kept c left right g.left_state.lengths g.right_state.lengths g.equal;
    pure = g.left_state.pure;
  }

  -- under one handing settled levels of kept nodes are the same
  at-settled : (left right : List Level) (handing : Handing) (l m : Levels) → Alike left right → IsLawfulFor a handing → IsSettled ca left (handed a handing) l →
      IsSettled cb right (handed a handing) m → (v : Read) → IsKept kept v → SameAt (old_node old) l m v
  at-settled left right handing l m alike lawful sl sm =
      settled-same ca cb (old_node old) (IsKept kept) (StoreAlike ca old kept) (carried_rank ca cb absorbed old kept c rank) (top + top) follows
      (carries-ranked ca cb absorbed old kept c rank top ranked) left right (handed a handing) l m alike lawful sl sm

  settled-other : (right : List Level) (handing : Handing) (m : Levels) → IsSettled cb right (handed b handing) m → IsSettled cb right (handed a handing) m
  settled-other right handing m settled = subst (λ (inputs : List Level). IsSettled cb right inputs m) (same-handed handing) settled

  last-lawful : (last : Option Handing) → IfSome last (IsLawfulFor a) → IfSome (last_handed a last) (IsLawful ca)
  last-lawful None h = tt
  last-lawful (Some handing) h = h

  other-lawful : (last : Option Handing) → IfSome last (IsLawfulFor a) → IfSome (last_handed b last) (IsLawful cb)
  other-lawful None h = tt
  other-lawful (Some handing) h = subst (IsLawful cb) (sym (same-handed handing)) (carries-lawful ca cb absorbed old kept c (handed a handing) h)

  next-alike : (left right next_left next_right : List Level) (last : Option Handing) (handing : Handing) → Agrees a b matching left right last →
      BothStep a b left right last handing next_left next_right → Alike next_left next_right
  next-alike left right next_left next_right None handing g step =
      subst (λ (s : List Level). Alike s next_right) (sym step.left_step) (subst (Alike left) (sym step.right_step) (store-alike left right None g))
  next-alike left right next_left next_right (Some before) handing g step = at step.left_step step.right_step
    where
      at : IsStep ca left (Some (handed a before)) (handed a handing) next_left → IsStep cb right (Some (handed b before)) (handed b handing) next_right → Alike next_left next_right
      at (l, sl, el) (m, sm, em) =
          let settled : IsSettled cb right (handed a before) m = settled-other right before m sm in
          let alike : Alike left right = store-alike left right (Some before) g in
          let after : next_right ≡ next_stored cb m (handed a before) (handed a handing) cb.registers m.visible =
          em ∙ (λ i. next_stored cb m (same-handed before i) (same-handed handing i) cb.registers m.visible) in
          subst (λ (s : List Level). Alike s next_right) (sym el)
          (subst (Alike (next_stored ca l (handed a before) (handed a handing) ca.registers l.visible)) (sym after)
          (follows.step left right (handed a before) (handed a handing) l m alike g.lawful step.lawful sl settled (at-settled left right before l m alike g.lawful sl settled)))

  inductive : IsInductive a b matching
  inductive left right next_left next_right last handing g step =
      let left_state : IsState ca next_left = step-state ca left (last_handed a last) (handed a handing) next_left accepted wired.units g.left_state (last-lawful last g.lawful) step.left_step in
      let right_state : IsState cb next_right =
      step-state cb right (last_handed b last) (handed b handing) next_right new_accepted new_wired.units g.right_state (other-lawful last g.lawful) step.right_step in
      let alike : Alike next_left next_right = next-alike left right next_left next_right last handing g step in
      record {
        left_state = left_state;
        right_state = right_state;
        equal = alike-equal ca cb absorbed old kept c next_left next_right left_state.lengths right_state.lengths alike.same;
        lawful = step.lawful;
      }

  shows : ShowsAgree a b matching
  shows left right handing l m g sl sm name =
      let settled : IsSettled cb right (handed a handing) m = settled-other right handing m sm in
      let alike : Alike left right = store-alike left right (Some handing) g in
      ap (λ (levels : List Level). shown_at (port_names a.net) levels name) (follows.ports l m (at-settled left right handing l m alike g.lawful sl settled))
      ∙ ap (λ (lines : List NetLine). shown_at (map (λ (n : NetLine). n.name) lines) (shown_levels cb m) name) ports

  pub carries-proving : IsProving a b matching
  carries-proving = record { inductive = inductive; shows = shows }
