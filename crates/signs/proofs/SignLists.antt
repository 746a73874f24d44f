-- Signs as they are made, and lists of them.
use Rattle.std.proofs.Common.{ℕ, zero, suc, ◌≡◌, ◌≢◌, ◌+◌, ◌-◌, ◌<◌, ◌&&◌, Bool, true, false, List, [], ◌∷◌, ◌++◌, filter, length, Option, Some, None, refl, sym, ap, ◌∙◌, subst, arith, inl, inr}
use Rattle.std.specs.Prelude.{if◌then◌else◌, slice_get, IfSome}
use Rattle.std.specs.List.{AllByRecursion}
use Rattle.std.proofs.lemmas.Bool.{le-ltb, lt-ltb}
use Rattle.std.proofs.lemmas.List.{length-append}
use Rattle.bdd.specs.Tree.{Point, holds}
use Rattle.bdd.specs.Diagram.{Diagram, IsConjunction, IsConstant, IsValid, Keeps, function_of}
use Rattle.bdd.specs.declared.Ref.{Ref}
use Rattle.mig_base.specs.Among.{Among}
use Rattle.mig_base.specs.Boards.{is_handed}
use Rattle.mig_base.specs.declared.levels.Level.{Level}
use Rattle.mig_base.specs.declared.levels.Level.TheVariants.{Zero, One, Z}
use Rattle.mig_base.specs.declared.nets.Net.{Net}
use Rattle.mig_base.specs.declared.nets.NetLine.{NetLine}
use Rattle.mig_base.specs.declared.nets.Port.{Port}
use Rattle.mig_base.specs.declared.nets.Port.TheVariants.{Inner, Input, Output, Both}
use Rattle.mig_base.specs.declared.circuit.Register.{Register}
use Rattle.mig_base.specs.Levels.{level_at, or_x, same_level}
use Rattle.mig_base.proofs.Amongs.{among-all, filter-among, map-among}
use Rattle.level_laws.specs.Runs.{taken}
use Rattle.level_laws.specs.SameBehaviour.{Handing}
use Rattle.board.specs.Joined.{Joined, equations_of}
use Rattle.matchings.specs.ByPort.{handed_names}
use Rattle.matchings.specs.Clocks.{clock_name, input_name, line_clock}
use Rattle.matchings.specs.Edges.{View}
use Rattle.matchings.specs.Views.{register_clock, view_of, view_of_both}
use Rattle.reckoning.specs.declared.triples.Three.{Three}
use Rattle.reckoning.specs.declared.triples.Triples.{Triples}
use Rattle.reckoning.specs.Triples.{AreTriples, IsTriple, Says}
use Rattle.reckoning.specs.Whole.{HasTriples}
use Rattle.reckoning.proofs.Kept.{function_kept, keeps_trans, place_kept, says_kept}
use Rattle.class_leaves.specs.declared.Leaves.{Leaves}
use Rattle.signs.specs.Named.{NamedSay}
use Rattle.signs.specs.Both.{AreBothTriples}
use Rattle.signs.specs.Signs.{AreSigns, AreSignsOf, IsSign, SignSays, waits}
use Rattle.signs.specs.declared.both.BothTriples.{BothTriples}
use Rattle.signs.specs.declared.registers.Sign.{Sign}
use Rattle.signs.proofs.NamedLaws.{place-read, triple-read}

-- a level is no Z where the third function is the constant 0
never-z : (d : Diagram) (t : Three) (p : Point) (level : Level) → IsConstant d false t.float → Says d t p level → level ≢ Z
never-z d t p level is says e =
    let off : function_of d t.float p ≡ false = ap (λ t. holds t p) is.tree in
    let on : function_of d t.float p ≡ true = says.float ∙ ap (λ (x : Level). same_level x Z) e in
    cc

-- graphs before each of the four conjunctions and after the last
pub record SignMade (a e : Diagram) (visible next : Three) (low : Ref) (s : Sign) : Type 0 where
  pub valid : IsSign e s
  pub says : (p : Point) (h : Handing) (v : View) → function_of a low p ≡ waits v.clock h → Says a visible p v.seen → Says a next p v.taken → s.clock ≡ v.clock → SignSays e s p h v

pub sign-made : (a b c d e : Diagram) (visible next : Three) (low f g j k : Ref) (clock : Option (List ℕ)) → Keeps a b → Keeps b c → Keeps c d → Keeps d e → IsTriple a visible → IsTriple a next →
    IsConstant a false visible.float → IsConstant a false next.float → IsValid a low → IsConjunction a b low next.one f → IsConjunction b c low next.zero g → IsConjunction c d low visible.one j →
    IsConjunction d e low visible.zero k → SignMade a e visible next low (record { one = visible.one; zero = visible.zero; clock = clock; edge_one = f; edge_zero = g; keep_one = j; keep_zero = k })
sign-made a b c d e visible next low f g j k clock ab bc cd de is_visible is_next visible_known next_known valid_low one two three four =
    let ac : Keeps a c = keeps_trans a b c ab bc in
    let ad : Keeps a d = keeps_trans a c d ac cd in
    let ae : Keeps a e = keeps_trans a d e ad de in
    let be : Keeps b e = keeps_trans b c e bc (keeps_trans c d e cd de) in
    let ce : Keeps c e = keeps_trans c d e cd de in
    record {
      valid = record {
        one = ae.valid visible.one is_visible.one;
        zero = ae.valid visible.zero is_visible.zero;
        edge_one = be.valid f one.valid;
        edge_zero = ce.valid g two.valid;
        keep_one = de.valid j three.valid;
        keep_zero = four.valid;
      };
      says = λ p h v waiting seen taking same.
          let and_of : (x : Diagram) → Keeps a x → (r : Ref) → IsValid a r → (q : Bool) → function_of a r p ≡ q → (function_of x low p && function_of x r p) ≡ (waits v.clock h && q) =
          λ x ax r valid q is. λ i. (function_kept a x low ax valid_low p ∙ waiting) i && (function_kept a x r ax valid p ∙ is) i in
          record {
            clock = same;
            seen = never-z a visible p v.seen visible_known seen;
            taken = never-z a next p v.taken next_known taking;
            one = function_kept a e visible.one ae is_visible.one p ∙ seen.one;
            zero = function_kept a e visible.zero ae is_visible.zero p ∙ seen.zero;
            edge_one = function_kept b e f be one.valid p ∙ one.means p ∙ (λ i. waiting i && taking.one i);
            edge_zero = function_kept c e g ce two.valid p ∙ two.means p ∙ and_of b ab next.zero is_next.zero (same_level v.taken Zero) taking.zero;
            keep_one = function_kept d e j de three.valid p ∙ three.means p ∙ and_of c ac visible.one is_visible.one (same_level v.seen One) seen.one;
            keep_zero = four.means p ∙ and_of d ad visible.zero is_visible.zero (same_level v.seen Zero) seen.zero;
          };
    }

sign_kept : (d e : Diagram) (s : Sign) → Keeps d e → IsSign d s → IsSign e s
sign_kept d e s k is = record {
  one = k.valid s.one is.one;
  zero = k.valid s.zero is.zero;
  edge_one = k.valid s.edge_one is.edge_one;
  edge_zero = k.valid s.edge_zero is.edge_zero;
  keep_one = k.valid s.keep_one is.keep_one;
  keep_zero = k.valid s.keep_zero is.keep_zero;
}

sign_says_kept : (d e : Diagram) (s : Sign) (p : Point) (h : Handing) (v : View) → Keeps d e → IsSign d s → SignSays d s p h v → SignSays e s p h v
sign_says_kept d e s p h v k is says = record {
  clock = says.clock;
  seen = says.seen;
  taken = says.taken;
  one = function_kept d e s.one k is.one p ∙ says.one;
  zero = function_kept d e s.zero k is.zero p ∙ says.zero;
  edge_one = function_kept d e s.edge_one k is.edge_one p ∙ says.edge_one;
  edge_zero = function_kept d e s.edge_zero k is.edge_zero p ∙ says.edge_zero;
  keep_one = function_kept d e s.keep_one k is.keep_one p ∙ says.keep_one;
  keep_zero = function_kept d e s.keep_zero k is.keep_zero p ∙ says.keep_zero;
}

some-map : {T : Type 0} (P Q : T → Type 0) (o : Option T) → ((x : T) → P x → Q x) → IfSome o P → IfSome o Q
some-map P Q None f h = tt
some-map P Q (Some x) f h = f x h

some-both : {T : Type 0} (P Q R : T → Type 0) (o : Option T) → ((x : T) → P x → Q x → R x) → IfSome o P → IfSome o Q → IfSome o R
some-both P Q R None f h k = tt
some-both P Q R (Some x) f h k = f x h k

some-push : {T : Type 0} (P : ℕ → T → Type 0) (xs : List T) (x : T) → ((j : ℕ) → IfSome (slice_get xs j) (P j)) → P (length xs) x → (j : ℕ) → IfSome (slice_get (xs ++ x ∷ []) j) (P j)
some-push P [] x all here zero = here
some-push P [] x all here (suc j) = tt
some-push P (y ∷ ys) x all here zero = all zero
some-push P (y ∷ ys) x all here (suc j) = some-push (λ k. P (suc k)) ys x (λ k. all (suc k)) here j

some-append : {T : Type 0} (P : ℕ → T → Type 0) (xs ys : List T) → ((j : ℕ) → j < length xs → IfSome (slice_get xs j) (P j)) → ((j : ℕ) → IfSome (slice_get ys j) (P (length xs + j))) → (j : ℕ) →
    IfSome (slice_get (xs ++ ys) j) (P j)
some-append P [] ys front back j = subst (λ (n : ℕ). IfSome (slice_get ys j) (P n)) (let e : 0 + j ≡ j = omega arith in e) (back j)
some-append P (x ∷ xs) ys front back zero = front zero (omega arith)
some-append P (x ∷ xs) ys front back (suc j) =
    some-append (λ k. P (suc k)) xs ys (λ k lt. front (suc k) (omega arith)) (λ k. subst (λ (n : ℕ). IfSome (slice_get ys k) (P n)) (let e : suc (length xs) + k ≡ suc (length xs + k) = omega arith in e) (back k)) j

-- signs after one more
signs_kept : (first mid now : Diagram) (b : Joined) (names : List (List ℕ)) (ports : List Three) (r : Triples) (n : ℕ) (signs : List Sign) → Keeps mid now → AreSignsOf first mid b names ports r n signs →
    AreSignsOf first now b names ports r n signs
signs_kept first mid now b names ports r n signs keep are = record {
  count = are.count;
  valid = λ k. some-map (IsSign mid) (IsSign now) (slice_get signs k) (λ s is. sign_kept mid now s keep is) (are.valid k);
  says = λ p h l views k. some-both (IsSign mid) (λ s. SignSays mid s p h (view_of b l k)) (λ s. SignSays now s p h (view_of b l k)) (slice_get signs k)
      (λ s is says. sign_says_kept mid now s p h (view_of b l k) keep is says) (are.valid k) (are.says p h l views k);
}

pub no-signs : (d : Diagram) (b : Joined) (names : List (List ℕ)) (ports : List Three) (r : Triples) → AreSignsOf d d b names ports r 0 []
no-signs d b names ports r = record { count = refl; valid = λ k. tt; says = λ p h l views k. tt }

pub signs-more : (first mid now : Diagram) (b : Joined) (names : List (List ℕ)) (ports : List Three) (r : Triples) (k : ℕ) (signs : List Sign) (s : Sign) (visible next : Three) (x : Register) (clock : Option (List ℕ)) →
    slice_get r.visible k ≡ Some visible → slice_get r.next k ≡ Some next → slice_get (equations_of b).registers k ≡ Some x → clock ≡ clock_name b.net x.clock → HasTriples first (equations_of b) r → AreTriples first ports →
    Keeps first mid → Keeps mid now → AreSignsOf first mid b names ports r k signs → IsSign now s →
    ((p : Point) (h : Handing) (v : View) → NamedSay mid ports names p h → Says mid visible p v.seen → Says mid next p v.taken → clock ≡ v.clock → SignSays now s p h v) →
    AreSignsOf first now b names ports r (k + 1) (signs ++ s ∷ [])
signs-more first mid now b names ports r k signs s visible next x clock seen_at next_at register own has valid_ports fm mn are valid says =
    let old = signs_kept first mid now b names ports r k signs mn are in
    record {
      count = length-append signs (s ∷ []) ∙ ap (λ (n : ℕ). n + 1) are.count;
      valid = some-push (λ j. IsSign now) signs s old.valid valid;
      says = λ p h l views.
          let see : Says mid visible p (level_at l.visible k) =
          says_kept first mid visible p (level_at l.visible k) fm (triple-read first r.visible k visible seen_at has.visible) (place-read first r.visible k p (level_at l.visible k) visible seen_at (views.visible k)) in
          let take_level : Level = or_x (taken l) (slice_get (equations_of b).registers k) in
          let take : Says mid next p (or_x (taken l) (slice_get (equations_of b).registers k)) =
          says_kept first mid next p (or_x (taken l) (slice_get (equations_of b).registers k)) fm (triple-read first r.next k next next_at has.next)
          (place-read first r.next k p (or_x (taken l) (slice_get (equations_of b).registers k)) next next_at (views.next k)) in
          let handed : NamedSay mid ports names p h = λ n. place_kept first mid ports n p (or_x h (slice_get names n)) fm valid_ports (views.handed n) in
          let clocked : clock ≡ register_clock b.net (slice_get (equations_of b).registers k) = own ∙ ap (register_clock b.net) (sym register) in
          let here : SignSays now s p h (view_of b l k) = says p h (view_of b l k) handed see take clocked in
          some-push (λ j q. SignSays now q p h (view_of b l j)) signs s (old.says p h l views) (subst (λ (n : ℕ). SignSays now s p h (view_of b l n)) (sym are.count) here);
    }

-- the clock of a register is an Input port of its board
line-at : (ls : List NetLine) (n : ℕ) (name : List ℕ) → line_clock (slice_get ls n) ≡ Some name → (l : NetLine) × Among l ls × (is_handed l.port ≡ true) × (name ≡ l.name)
line-at [] n name e = cc
line-at (l ∷ ls) zero name e = at l.port refl e
  where
    at : (dir : Port) → l.port ≡ dir → input_name l.name dir ≡ Some name → (k : NetLine) × Among k (l ∷ ls) × (is_handed k.port ≡ true) × (name ≡ k.name)
    at Inner f e = cc
    at Input f e = (l, inl refl, ap is_handed f, (let same : name ≡ l.name = cc in same))
    at Output f e = cc
    at Both f e = cc
line-at (l ∷ ls) (suc n) name e = let x = line-at ls n name e in (x.0, inr x.1, x.2, x.3)

clock-handed : (net : Net) (n : ℕ) (name : List ℕ) → clock_name net n ≡ Some name → Among name (handed_names net)
clock-handed net zero name e = cc
clock-handed net (suc zero) name e = cc
clock-handed net (suc (suc n)) name e =
    let x = line-at net.nets n name e in
    subst (λ (w : List ℕ). Among w (handed_names net)) (sym x.3) (map-among (λ (l : NetLine). l.name) x.0 (filter (λ l. is_handed l.port) net.nets) (filter-among (λ l. is_handed l.port) x.0 net.nets x.2 x.1))

pub clock-known : (net : Net) (names : List (List ℕ)) (n : ℕ) (clock : Option (List ℕ)) → AllByRecursion (λ name. Among name names) (handed_names net) → clock ≡ clock_name net n → IfSome clock (λ name. Among name names)
clock-known net names n None known e = tt
clock-known net names n (Some name) known e = among-all (λ (w : List ℕ). Among w names) name (handed_names net) known (clock-handed net n name (sym e))

-- graphs with the triples, with the first board's signs and with those of both
pub signs-both : (a b : Joined) (leaves : Leaves) (d e f : Diagram) (t : BothTriples) (xs ys : List Sign) → Keeps d e → Keeps e f → AreBothTriples a b leaves d t →
    AreSignsOf d e a (handed_names a.net) t.ports t.left (length (equations_of a).registers) xs → AreSignsOf e f b (handed_names a.net) t.ports t.right (length (equations_of b).registers) ys →
    AreSigns a b leaves f (xs ++ ys)
signs-both a b leaves d e f t xs ys de ef both left right =
    let front = signs_kept d e f a (handed_names a.net) t.ports t.left (length (equations_of a).registers) xs ef left in
    let count : length xs ≡ length (equations_of a).registers = left.count in
    record {
      count = length-append xs ys ∙ (λ i. left.count i + right.count i);
      valid = some-append (λ j. IsSign f) xs ys (λ j lt. front.valid j) right.valid;
      says = λ p us ws h l m pair settle.
          let say = both.says p us ws h l m pair settle in
          some-append (λ j s. SignSays f s p h (view_of_both a b l m j)) xs ys
          (λ j lt. subst (λ (q : Bool). IfSome (slice_get xs j) (λ s. SignSays f s p h (if q then view_of a l j else view_of b m (j - length (equations_of a).registers))))
          (sym (lt-ltb j (length (equations_of a).registers) (subst (λ (n : ℕ). j < n) count lt))) (front.says p h l (record { handed = say.ports; visible = say.left.visible; next = say.left.next }) j))
          (λ j. let place : length xs + j - length (equations_of a).registers ≡ j = omega (arith, count) in
          subst (λ (q : Bool). IfSome (slice_get ys j) (λ s. SignSays f s p h (if q then view_of a l (length xs + j) else view_of b m (length xs + j - length (equations_of a).registers))))
          (sym (le-ltb (length xs + j) (length (equations_of a).registers) (omega (arith, count))))
          (subst (λ (n : ℕ). IfSome (slice_get ys j) (λ s. SignSays f s p h (view_of b m n))) (sym place)
          (right.says p h m (record {
            handed = λ n. place_kept d e t.ports n p (or_x h (slice_get (handed_names a.net) n)) de both.ports (say.ports n);
            visible = λ n. place_kept d e t.right.visible n p (level_at m.visible n) de both.right.visible (say.right.visible n);
            next = λ n. place_kept d e t.right.next n p (or_x (taken m) (slice_get (equations_of b).registers n)) de both.right.next (say.right.next n);
          }) j)));
    }

pub as-signs : (d e : Diagram) (b : Joined) (names all : List (List ℕ)) (ports ts : List Three) (r : Triples) (n : ℕ) (signs : List Sign) → names ≡ all → ports ≡ ts → AreSignsOf d e b names ports r n signs →
    AreSignsOf d e b all ts r n signs
as-signs d e b names all ports ts r n signs x y are =
    subst (λ (us : List Three). AreSignsOf d e b all us r n signs) y (subst (λ (ns : List (List ℕ)). AreSignsOf d e b ns ports r n signs) x are)
