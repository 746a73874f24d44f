-- Points are agreeing pairs, agreeing pairs have points, and lower pairs have earlier ones.
use Rattle.std.proofs.Common.{ℕ, ◌≡◌, ◌≢◌, ◌+◌, ◌-◌, ◌<◌, ◌≤◌, Bool, true, false, List, [], ◌∷◌, ◌++◌, map, filter, take, drop, length, Option, Some, None, refl, sym, ap, ◌∙◌, subst, arith}
use Rattle.std.specs.Prelude.{nat_lt, slice_get}
use Rattle.std.proofs.lemmas.Bool.{le-ltb, lt-ltb, ltb-false, ltb-true}
use Rattle.std.proofs.lemmas.List.{append_assoc, get_or-append-add, get_or_append_left, get_or_default, length-append, length-take-le, map-append, take-append-drop}
use Rattle.std.proofs.lemmas.Option.{slice_get_within}
use Rattle.bdd.specs.Tree.{Point}
use Rattle.bdd.specs.Diagram.{IsEarlier, point_of}
use Rattle.mig_base.specs.declared.levels.Level.{Level}
use Rattle.mig_base.specs.declared.levels.Level.TheVariants.{Zero, One, Z, X}
use Rattle.mig_base.specs.declared.circuit.Circuit.{Circuit}
use Rattle.mig_base.specs.declared.circuit.Read.TheVariants.{OfRegister}
use Rattle.mig_base.specs.declared.circuit.Register.{Register}
use Rattle.mig_base.specs.Levels.{level_at}
use Rattle.level_laws.specs.SameBehaviour.{Handing, IsBit}
use Rattle.structure.specs.Pure.{IsPure, register_rule}
use Rattle.board.specs.Joined.{Joined, equations_of}
use Rattle.matchings.specs.Pairs.{Agrees, AreEqualInClasses, IsState, class_at, handed, registers_of_both}
use Rattle.matchings.proofs.LawfulBoth.{board-lines, lines-board}
use Rattle.leaves.specs.declared.Leaf.{Leaf}
use Rattle.leaves.specs.declared.Range.{Range}
use Rattle.leaves.specs.declared.Range.TheVariants.{OrX}
use Rattle.leaves.specs.Leaves.{AllFit, Fits, leaf_levels, leaves_from, point_of_levels}
use Rattle.leaves.specs.Orders.{AreBefore}
use Rattle.leaves.specs.Spread.{AreTied, leader_levels}
use Rattle.leaves.proofs.Points.{levels-earlier, levels-points}
use Rattle.leaves.proofs.SpreadLaws.{spread}
use Rattle.class_leaves.specs.Pures.{IsPureOf, IsPureRegister, flag_at}
use Rattle.class_leaves.specs.ClassLeaves.{class_end, class_range, class_ranges}
use Rattle.class_leaves.specs.PairsAt.{AreLeaves, IsPairAt, LowerPairsAreEarlier, PairsHavePoints, PointsArePairs, all_ranges, pair_point, widths}
use Rattle.class_leaves.specs.declared.Leaves.{Leaves}
use Rattle.pairs_at.proofs.Handed.{handed-distinct, handed-fit, handing_of, leaves-long, line_name, lines-at, named-back, port_ranges, ranges-same, takes_level}
use Rattle.pairs_at.proofs.ClassLevels.{class-long, equal-tied, leaves-tied, led-within, levels-long, register-fits, tied-equal}
use Rattle.pairs_at.proofs.Leaders.{end-is, fit-append, fit-long, leaders-at, leaders-fit, leaves-append, point-long, stored-back}

-- a pure register is one of the board
pure-within : (c : Circuit) (k : ℕ) → IsPure c (OfRegister k) → k < length c.registers
pure-within c k h = at (slice_get c.registers k) refl (h.1 (OfRegister k) h.2)
  where
    at : (o : Option Register) → slice_get c.registers k ≡ o → register_rule h.0 o ≡ true → k < length c.registers
    at None e f = cc
    at (Some r) e f = slice_get_within c.registers k r e

-- a class with a pure register has two levels
pure-left : (a b : Joined) (classes : List ℕ) (bits : List Bool) (leaves : Leaves) → AreLeaves a b classes bits leaves → (k : ℕ) → IsPure (equations_of a) (OfRegister k) →
    flag_at bits (class_at classes k) ≡ true
pure-left a b classes bits leaves are k pure =
    let within : k < length (equations_of a).registers = pure-within (equations_of a) k pure in
    let all : length classes ≡ length (equations_of a).registers + length (equations_of b).registers = are.count in
    let is : IsPureRegister a b k = subst (IsPureOf a b k) (sym (lt-ltb k (length (equations_of a).registers) within)) pure in
    are.are_bits.no k (omega arith) (are.are_pures.no k (omega arith) is)

pure-right : (a b : Joined) (classes : List ℕ) (bits : List Bool) (leaves : Leaves) → AreLeaves a b classes bits leaves → (k : ℕ) → IsPure (equations_of b) (OfRegister k) →
    flag_at bits (class_at classes (length (equations_of a).registers + k)) ≡ true
pure-right a b classes bits leaves are k pure =
    let m = length (equations_of a).registers in
    let within : k < length (equations_of b).registers = pure-within (equations_of b) k pure in
    let all : length classes ≡ m + length (equations_of b).registers = are.count in
    let own : IsPure (equations_of b) (OfRegister (m + k - m)) = subst (λ (j : ℕ). IsPure (equations_of b) (OfRegister j)) (let e : k ≡ m + k - m = omega arith in e) pure in
    let is : IsPureRegister a b (m + k) = subst (IsPureOf a b (m + k)) (sym (le-ltb (m + k) m (omega arith))) own in
    are.are_bits.no (m + k) (omega arith) (are.are_pures.no (m + k) (omega arith) is)

bit-of : (q : Bool) (x : Level) → q ≡ true → Fits (class_range q) x → IsBit x
bit-of q x e h = subst (λ (r : Bool). Fits (class_range r) x) e h

known-of : (q : Bool) (x : Level) → Fits (class_range q) x → x ≢ Z
known-of true Zero h = λ e. cc
known-of true One h = λ e. cc
known-of true Z h = absurd h
known-of true X h = absurd h
known-of false Zero h = λ e. cc
known-of false One h = λ e. cc
known-of false Z h = absurd h
known-of false X h = λ e. cc

or_x-fits : (x : Level) → x ≢ Z → Fits OrX x
or_x-fits Zero h = tt
or_x-fits One h = tt
or_x-fits Z h = absurd (h refl)
or_x-fits X h = tt

-- stored levels by place
state-of : (c : Circuit) (ys : List Level) → length ys ≡ length c.registers → ((k : ℕ) → k < length ys → level_at ys k ≢ Z) → ((k : ℕ) → IsPure c (OfRegister k) → IsBit (level_at ys k)) → IsState c ys
state-of c ys long known bits = record {
  lengths = long;
  known = λ k d lt. subst (λ (x : Level). x ≢ Z) (get_or_default ys k X d lt) (known k lt);
  pure = bits;
}

register-levels : (a b : Joined) (classes : List ℕ) (bits : List Bool) (leaves : Leaves) → AreLeaves a b classes bits leaves → (p : Point) (i : ℕ) → i < length classes →
    Fits (class_range (flag_at bits (class_at classes i))) (level_at (leaf_levels p leaves.registers) i)
register-levels a b classes bits leaves are p i lt =
    subst (λ (fs : List Leaf). Fits (class_range (flag_at bits (class_at classes i))) (level_at (leaf_levels p fs) i)) (sym are.leaves_are.registers) (register-fits p bits classes are.led i lt)

registers-long : (a b : Joined) (classes : List ℕ) (bits : List Bool) (leaves : Leaves) → AreLeaves a b classes bits leaves → (p : Point) → length (leaf_levels p leaves.registers) ≡ length classes
registers-long a b classes bits leaves are p = levels-long p leaves.registers ∙ ap length are.leaves_are.registers ∙ class-long bits 0 [] classes

registers-tied : (a b : Joined) (classes : List ℕ) (bits : List Bool) (leaves : Leaves) → AreLeaves a b classes bits leaves → (p : Point) → AreTied [] classes (leaf_levels p leaves.registers)
registers-tied a b classes bits leaves are p =
    subst (λ (fs : List Leaf). AreTied [] classes (leaf_levels p fs)) (sym are.leaves_are.registers) (leaves-tied p bits 0 [] classes (led-within classes are.led))

-- two states that the leaves read at a point agree
states-agree : (a b : Joined) (classes : List ℕ) (bits : List Bool) (leaves : Leaves) → AreLeaves a b classes bits leaves → (p : Point) (left right : List Level) (h : Handing) →
    IsPairAt a b leaves p left right h → Agrees a b classes left right (Some h)
states-agree a b classes bits leaves are p left right h pair =
    let m = length (equations_of a).registers in
    let xs = leaf_levels p leaves.registers in
    let all : length classes ≡ m + length (equations_of b).registers = are.count in
    let lefts : length left ≡ m = pair.left_count in
    let rights : length right ≡ length (equations_of b).registers = pair.right_count in
    let left_at : (k : ℕ) → k < m → level_at left k ≡ level_at xs k =
    λ k lt. sym (get_or_append_left left right X k (let within : k < length left = omega arith in within)) ∙ ap (λ (ls : List Level). level_at ls k) pair.stored in
    let right_at : (k : ℕ) → level_at right k ≡ level_at xs (m + k) =
    λ k. sym (get_or-append-add left right k X) ∙ ap (λ (n : ℕ). level_at (left ++ right) (n + k)) lefts ∙ ap (λ (ls : List Level). level_at ls (m + k)) pair.stored in
    record {
      left_state = state-of (equations_of a) left lefts
          (λ k lt. subst (λ (x : Level). x ≢ Z) (sym (left_at k (omega arith))) (known-of (flag_at bits (class_at classes k)) (level_at xs k) (register-levels a b classes bits leaves are p k (omega arith))))
          (λ k pure. let within : k < m = pure-within (equations_of a) k pure in
          subst IsBit (sym (left_at k within)) (bit-of (flag_at bits (class_at classes k)) (level_at xs k) (pure-left a b classes bits leaves are k pure) (register-levels a b classes bits leaves are p k (omega arith))));
      right_state = state-of (equations_of b) right rights
          (λ k lt. subst (λ (x : Level). x ≢ Z) (sym (right_at k)) (known-of (flag_at bits (class_at classes (m + k))) (level_at xs (m + k)) (register-levels a b classes bits leaves are p (m + k) (omega arith))))
          (λ k pure. let within : k < length (equations_of b).registers = pure-within (equations_of b) k pure in
          subst IsBit (sym (right_at k))
          (bit-of (flag_at bits (class_at classes (m + k))) (level_at xs (m + k)) (pure-right a b classes bits leaves are k pure) (register-levels a b classes bits leaves are p (m + k) (omega arith))));
      equal = subst (AreEqualInClasses classes) (sym pair.stored) (tied-equal classes xs (registers-tied a b classes bits leaves are p));
      lawful = lines-board a h (lines-at h p (class_end bits 0 [] classes) a.net.nets (pair.inputs ∙ ap (leaf_levels p) (are.leaves_are.ports_are ∙ ap (leaves_from (class_end bits 0 [] classes)) (ranges-same a.net))));
    }

pub points-pairs : PointsArePairs
points-pairs a b classes bits leaves are p =
    let m = length (equations_of a).registers in
    let xs = leaf_levels p leaves.registers in
    let lines = filter takes_level a.net.nets in
    let ys = leaf_levels p leaves.ports in
    let h = handing_of (map line_name lines) ys in
    let all : length classes ≡ m + length (equations_of b).registers = are.count in
    let long : length xs ≡ length classes = registers-long a b classes bits leaves are p in
    let whole : take m xs ++ drop m xs ≡ xs = take-append-drop m xs in
    let lefts : length (take m xs) ≡ m = length-take-le m xs (omega arith) in
    let both : length xs ≡ length (take m xs) + length (drop m xs) = sym (ap length whole) ∙ length-append (take m xs) (drop m xs) in
    let ports : length ys ≡ length lines = ap (λ (fs : List Leaf). length (leaf_levels p fs)) (are.leaves_are.ports_are ∙ ap (leaves_from (class_end bits 0 [] classes)) (ranges-same a.net)) ∙ leaves-long (class_end bits 0 [] classes) p lines in
    let pair : IsPairAt a b leaves p (take m xs) (drop m xs) h = record {
      left_count = lefts;
      right_count = omega arith;
      stored = whole;
      inputs = named-back lines ys (handed-distinct a.net.nets are.given.wiring.distinct_nets) ports;
    } in (take m xs, drop m xs, h, pair, states-agree a b classes bits leaves are p (take m xs) (drop m xs) h pair)

-- the levels of an agreeing pair fit the classes
pure-bit : (a b : Joined) (classes : List ℕ) (left right : List Level) (h : Handing) → Agrees a b classes left right (Some h) → (i : ℕ) → (q : Bool) → nat_lt i (length (equations_of a).registers) ≡ q → IsPureOf a b i q →
    IsBit (level_at (left ++ right) i)
pure-bit a b classes left right h agrees i true e pure =
    let within : i < length (equations_of a).registers = ltb-true i (length (equations_of a).registers) e in
    let lefts : length left ≡ length (equations_of a).registers = agrees.left_state.lengths in
    subst IsBit (sym (get_or_append_left left right X i (omega arith))) (agrees.left_state.pure i pure)
pure-bit a b classes left right h agrees i false e pure =
    let m = length (equations_of a).registers in
    let past : m ≤ i = ltb-false i m e in
    let lefts : length left ≡ m = agrees.left_state.lengths in
    let place : length left + (i - m) ≡ i = omega arith in
    subst IsBit (sym (get_or-append-add left right (i - m) X) ∙ ap (level_at (left ++ right)) place) (agrees.right_state.pure (i - m) pure)

both-known : (a b : Joined) (classes : List ℕ) (left right : List Level) (h : Handing) → Agrees a b classes left right (Some h) → (i : ℕ) → i < length (left ++ right) → level_at (left ++ right) i ≢ Z
both-known a b classes left right h agrees i lt = at (nat_lt i (length left)) refl
  where
    at : (q : Bool) → nat_lt i (length left) ≡ q → level_at (left ++ right) i ≢ Z
    at true e =
        let within : i < length left = ltb-true i (length left) e in
        subst (λ (x : Level). x ≢ Z) (sym (get_or_append_left left right X i within)) (agrees.left_state.known i X within)
    at false e =
        let past : length left ≤ i = ltb-false i (length left) e in
        let all : length (left ++ right) ≡ length left + length right = length-append left right in
        let place : length left + (i - length left) ≡ i = omega arith in
        subst (λ (x : Level). x ≢ Z) (sym (get_or-append-add left right (i - length left) X) ∙ ap (level_at (left ++ right)) place) (agrees.right_state.known (i - length left) X (omega arith))

pair-long : (a b : Joined) (classes : List ℕ) (bits : List Bool) (leaves : Leaves) → AreLeaves a b classes bits leaves → (left right : List Level) (h : Handing) →
    Agrees a b classes left right (Some h) → length (left ++ right) ≡ length classes
pair-long a b classes bits leaves are left right h agrees =
    let lefts : length left ≡ length (equations_of a).registers = agrees.left_state.lengths in
    let rights : length right ≡ length (equations_of b).registers = agrees.right_state.lengths in
    let all : length classes ≡ length (equations_of a).registers + length (equations_of b).registers = are.count in
    let both : length (left ++ right) ≡ length left + length right = length-append left right in omega arith

class-fits : (a b : Joined) (classes : List ℕ) (bits : List Bool) (leaves : Leaves) → AreLeaves a b classes bits leaves → (left right : List Level) (h : Handing) →
    Agrees a b classes left right (Some h) → (k : ℕ) → k < length classes → Fits (class_range (flag_at bits k)) (level_at (left ++ right) k)
class-fits a b classes bits leaves are left right h agrees k lt = at (flag_at bits k) refl
  where
    long : length (left ++ right) ≡ length classes
    long = pair-long a b classes bits leaves are left right h agrees

    at : (q : Bool) → flag_at bits k ≡ q → Fits (class_range q) (level_at (left ++ right) k)
    at true e =
        let all : length classes ≡ registers_of_both a b = are.count in
        let size : length (left ++ right) ≡ length classes = pair-long a b classes bits leaves are left right h agrees in
        let y = are.are_bits.yes k e in
        let within : y.0 < length classes = y.1 in
        let pure : IsPureRegister a b y.0 = are.are_pures.yes y.0 (omega arith) y.3 in
        let bit : IsBit (level_at (left ++ right) y.0) = pure-bit a b classes left right h agrees y.0 (nat_lt y.0 (length (equations_of a).registers)) refl pure in
        let together : class_at classes y.0 ≡ class_at classes k = sym (are.led.led y.0 within) ∙ ap (class_at classes) y.2 in
        subst IsBit (agrees.equal y.0 k (omega arith) (omega arith) together) bit
    at false e =
        let size : length (left ++ right) ≡ length classes = pair-long a b classes bits leaves are left right h agrees in
        or_x-fits (level_at (left ++ right) k) (both-known a b classes left right h agrees k (omega arith))

levels-fit : (a b : Joined) (classes : List ℕ) (bits : List Bool) (leaves : Leaves) → AreLeaves a b classes bits leaves → (left right : List Level) (h : Handing) →
    Agrees a b classes left right (Some h) → AllFit (all_ranges a.net bits classes) (leader_levels 0 classes (left ++ right) ++ handed a h)
levels-fit a b classes bits leaves are left right h agrees =
    fit-append (class_ranges bits 0 classes) (port_ranges a.net) (leader_levels 0 classes (left ++ right)) (handed a h)
    (leaders-fit bits 0 classes (left ++ right) (pair-long a b classes bits leaves are left right h agrees)
    (λ k lt. subst (λ (m : ℕ). Fits (class_range (flag_at bits m)) (level_at (left ++ right) k)) (let e : k ≡ 0 + k = omega arith in e) (class-fits a b classes bits leaves are left right h agrees k lt)))
    (subst (λ (rs : List Range). AllFit rs (handed a h)) (sym (ranges-same a.net)) (handed-fit h a.net.nets (board-lines a h agrees.lawful)))

parts-left : {T : Type 0} (xs ys zs ws : List T) → length xs ≡ length zs → xs ++ ys ≡ zs ++ ws → xs ≡ zs
parts-left [] ys [] ws e f = refl
parts-left [] ys (z ∷ zs) ws e f = absurd (omega arith)
parts-left (x ∷ xs) ys [] ws e f = absurd (omega arith)
parts-left (x ∷ xs) ys (z ∷ zs) ws e f =
    let first : x ≡ z = cc in
    let rest : xs ++ ys ≡ zs ++ ws = cc in
    (λ i. first i ∷ parts-left xs ys zs ws (omega arith) rest i)

parts-right : {T : Type 0} (xs ys zs ws : List T) → length xs ≡ length zs → xs ++ ys ≡ zs ++ ws → ys ≡ ws
parts-right [] ys [] ws e f = f
parts-right [] ys (z ∷ zs) ws e f = absurd (omega arith)
parts-right (x ∷ xs) ys [] ws e f = absurd (omega arith)
parts-right (x ∷ xs) ys (z ∷ zs) ws e f = let rest : xs ++ ys ≡ zs ++ ws = cc in parts-right xs ys zs ws (omega arith) rest

pub pairs-points : PairsHavePoints
pairs-points a b classes bits leaves are left right h agrees =
    let xs = left ++ right in
    let rs = class_ranges bits 0 classes in
    let ss = port_ranges a.net in
    let p = pair_point a bits classes left right h in
    let lead = leader_levels 0 classes xs in
    let fit : AllFit (rs ++ ss) (lead ++ handed a h) = levels-fit a b classes bits leaves are left right h agrees in
    let leads : AllFit rs lead = leaders-fit bits 0 classes xs (pair-long a b classes bits leaves are left right h agrees)
    (λ k lt. subst (λ (m : ℕ). Fits (class_range (flag_at bits m)) (level_at xs k)) (let e : k ≡ 0 + k = omega arith in e) (class-fits a b classes bits leaves are left right h agrees k lt)) in
    let whole : leaf_levels p (leaves_from 0 rs) ++ leaf_levels p (leaves_from (0 + widths rs) ss) ≡ lead ++ handed a h =
    sym (ap (leaf_levels p) (leaves-append 0 rs ss) ∙ map-append _ (leaves_from 0 rs) (leaves_from (0 + widths rs) ss)) ∙ levels-points (rs ++ ss) (lead ++ handed a h) fit in
    let size : length (leaf_levels p (leaves_from 0 rs)) ≡ length lead = levels-long p (leaves_from 0 rs) ∙ fit-long rs lead leads in
    let front : leaf_levels p (leaves_from 0 rs) ≡ lead = parts-left _ _ _ _ size whole in
    let back : leaf_levels p (leaves_from (0 + widths rs) ss) ≡ handed a h = parts-right _ _ _ _ size whole in
    let tied : AreTied [] classes xs = equal-tied classes xs are.led (pair-long a b classes bits leaves are left right h agrees) agrees.equal in
    record {
      left_count = agrees.left_state.lengths;
      right_count = agrees.right_state.lengths;
      stored = sym (ap (leaf_levels p) are.leaves_are.registers ∙ stored-back p bits 0 [] classes xs tied front);
      inputs = sym (ap (leaf_levels p) (are.leaves_are.ports_are ∙ ap (λ (n : ℕ). leaves_from n ss) (end-is bits 0 [] classes)) ∙ back);
    }

more-room : (m n : ℕ) (p q : Point) → m ≤ n → IsEarlier m p q → IsEarlier n p q
more-room m n p q room h = record { var = h.var; within = (let w : h.var < m = h.within in omega arith); before = h.before; here = h.here; there = h.there }

pub lower-earlier : LowerPairsAreEarlier
lower-earlier a b classes bits leaves are p left right h pair low_left low_right low agrees before n room =
    let rs = class_ranges bits 0 classes in
    let ss = port_ranges a.net in
    let xs = low_left ++ low_right in
    let ys = left ++ right in
    let levels = leader_levels 0 classes xs ++ handed a low in
    let fit : AllFit (rs ++ ss) levels = levels-fit a b classes bits leaves are low_left low_right low agrees in
    let tied_low : AreTied [] classes xs = equal-tied classes xs are.led (pair-long a b classes bits leaves are low_left low_right low agrees) agrees.equal in
    let tied : AreTied [] classes ys = subst (AreTied [] classes) (sym pair.stored) (registers-tied a b classes bits leaves are p) in
    let less : AreBefore (xs ++ handed a low) (ys ++ handed a h) =
    subst (λ (us : List Level). AreBefore us (ys ++ handed a h)) (sym (append_assoc low_left low_right (handed a low)))
    (subst (λ (us : List Level). AreBefore (low_left ++ (low_right ++ handed a low)) us) (sym (append_assoc left right (handed a h))) before) in
    let lead : leader_levels 0 classes ys ≡ leaf_levels p (leaves_from 0 rs) =
    ap (leader_levels 0 classes) (pair.stored ∙ ap (leaf_levels p) are.leaves_are.registers) ∙ leaders-at p bits 0 [] classes in
    let inputs : handed a h ≡ leaf_levels p (leaves_from (0 + widths rs) ss) =
    pair.inputs ∙ ap (leaf_levels p) (are.leaves_are.ports_are ∙ ap (λ (m : ℕ). leaves_from m ss) (end-is bits 0 [] classes)) in
    let read : leader_levels 0 classes ys ++ handed a h ≡ leaf_levels p (leaves_from 0 (rs ++ ss)) =
    (λ i. lead i ++ inputs i) ∙ sym (ap (leaf_levels p) (leaves-append 0 rs ss) ∙ map-append _ (leaves_from 0 rs) (leaves_from (0 + widths rs) ss)) in
    let size : length (point_of_levels (rs ++ ss) levels) ≡ widths (rs ++ ss) = point-long (rs ++ ss) levels fit in
    more-room (widths (rs ++ ss)) n (point_of (point_of_levels (rs ++ ss) levels)) p room
    (levels-earlier (rs ++ ss) levels p (widths (rs ++ ss)) fit
    (subst (AreBefore levels) read (spread [] classes xs ys (handed a low) (handed a h) tied_low tied less)) size)
