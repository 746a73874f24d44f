-- Signs tell which registers are alike.
use Rattle.std.proofs.Common.{ℕ, ◌≡◌, ◌≢◌, ◌&&◌, Bool, true, false, List, Option, Some, None, refl, sym, ap, ◌∙◌, subst}
use Rattle.std.specs.Prelude.{slice_get, IfSome}
use Rattle.bdd.specs.Tree.{Point}
use Rattle.bdd.specs.Diagram.{Diagram}
use Rattle.mig_base.specs.Accepted.{IsAccepted}
use Rattle.mig_base.specs.declared.levels.Level.{Level}
use Rattle.mig_base.specs.declared.levels.Level.TheVariants.{Zero, One, Z, X}
use Rattle.mig_base.specs.declared.circuit.Levels.{Levels}
use Rattle.mig_base.specs.Levels.{same_level}
use Rattle.mig_base.proofs.Distinct.{bytes-equal, same-is}
use Rattle.level_laws.specs.SameBehaviour.{Handing}
use Rattle.level_laws.proofs.Exists.{settled-exists, settling}
use Rattle.level_laws.proofs.RanksExist.{accepted-ranks}
use Rattle.board.specs.Joined.{Joined, equations_of}
use Rattle.matchings.specs.Pairs.{handed}
use Rattle.matchings.specs.Edges.{AreAlike, EdgesAlike, View, Waits, same_clock}
use Rattle.matchings.specs.Views.{AlwaysAlike, view_of_both}
use Rattle.class_leaves.specs.PairsAt.{AreLeaves, IsPairAt, pair_point}
use Rattle.class_leaves.specs.declared.Leaves.{Leaves}
use Rattle.pairs_at.proofs.PairLaws.{pairs-points, points-pairs}
use Rattle.signs.specs.Both.{BothSettle}
use Rattle.signs.specs.Signs.{AreSameEdges, AreSameSigns, AreSigns, AreTold, Keeps, SignSays, waits}
use Rattle.signs.specs.declared.registers.Sign.{Sign}

-- a level that is no Z is told by where it is 1 and where it is 0
levels-same : (x y : Level) → x ≢ Z → y ≢ Z → same_level x One ≡ same_level y One → same_level x Zero ≡ same_level y Zero → x ≡ y
levels-same Zero Zero h k e f = refl
levels-same Zero One h k e f = cc
levels-same Zero Z h k e f = absurd (k refl)
levels-same Zero X h k e f = cc
levels-same One Zero h k e f = cc
levels-same One One h k e f = refl
levels-same One Z h k e f = absurd (k refl)
levels-same One X h k e f = cc
levels-same Z y h k e f = absurd (h refl)
levels-same X Zero h k e f = cc
levels-same X One h k e f = cc
levels-same X Z h k e f = absurd (k refl)
levels-same X X h k e f = refl

waits-true : (c : Option (List ℕ)) (h : Handing) → Waits h c → waits c h ≡ true
waits-true None h w = absurd w
waits-true (Some n) h w = ap (λ (x : Level). same_level x Zero) w

-- where a clock may rise, equal functions are equal levels, and back
edge-level : (c d : Option (List ℕ)) (h : Handing) (x y : Level) → Waits h c → d ≡ c → x ≢ Z → y ≢ Z → (waits c h && same_level x One) ≡ (waits d h && same_level y One) →
    (waits c h && same_level x Zero) ≡ (waits d h && same_level y Zero) → x ≡ y
edge-level c d h x y w own kx ky ones zeros = levels-same x y kx ky (by One ones) (by Zero zeros)
  where
    by : (k : Level) → (waits c h && same_level x k) ≡ (waits d h && same_level y k) → same_level x k ≡ same_level y k
    by k e =
        let on : waits c h ≡ true = waits-true c h w in
        let off : waits d h ≡ true = ap (λ (o : Option (List ℕ)). waits o h) own ∙ on in
        sym (ap (λ (q : Bool). q && same_level x k) on) ∙ e ∙ ap (λ (q : Bool). q && same_level y k) off

level-edge : (c : Option (List ℕ)) (h : Handing) (x y k : Level) → (Waits h c → x ≡ y) → (waits c h && same_level x k) ≡ (waits c h && same_level y k)
level-edge None h x y k same = refl
level-edge (Some n) h x y k same = at (h n) same
  where
    at : (z : Level) → (z ≡ Zero → x ≡ y) → (same_level z Zero && same_level x k) ≡ (same_level z Zero && same_level y k)
    at Zero e = ap (λ (w : Level). same_level w k) (e refl)
    at One e = refl
    at Z e = refl
    at X e = refl

clocks-one : (v w : Option (List ℕ)) → same_clock v w ≡ true → w ≡ v
clocks-one None None e = refl
clocks-one None (Some n) e = cc
clocks-one (Some m) None e = cc
clocks-one (Some m) (Some n) e = ap Some (sym (same-is bytes-equal m n e))

both-clocks : (s t : Sign) (v w : View) → s.clock ≡ v.clock → t.clock ≡ w.clock → same_clock s.clock t.clock ≡ same_clock v.clock w.clock
both-clocks s t v w e f = λ i. same_clock (e i) (f i)

-- a register that keeps what it shows, at a point
keeps-level : (d : Diagram) (s : Sign) (p : Point) (h : Handing) (v : View) → SignSays d s p h v → Keeps d s → Waits h v.clock → v.taken ≡ v.seen
keeps-level d s p h v says keep w =
    edge-level v.clock v.clock h v.taken v.seen w refl says.taken says.seen (sym says.edge_one ∙ keep.0 p ∙ says.keep_one) (sym says.edge_zero ∙ keep.1 p ∙ says.keep_zero)

says-alike : (d : Diagram) (s t : Sign) (p : Point) (h : Handing) (v w : View) → SignSays d s p h v → SignSays d t p h w → AreSameSigns d s t → AreAlike h v w
says-alike d s t p h v w left right same = record {
  seen = levels-same v.seen w.seen left.seen right.seen (sym left.one ∙ same.seen.0 p ∙ right.one) (sym left.zero ∙ same.seen.1 p ∙ right.zero);
  edges = at (same_clock v.clock w.clock) refl (subst (λ (q : Bool). AreSameEdges q d s t) (both-clocks s t v w left.clock right.clock) same.edges);
}
  where
    at : (q : Bool) → same_clock v.clock w.clock ≡ q → AreSameEdges q d s t → EdgesAlike q h v w
    at true e edges = λ waiting. edge-level v.clock w.clock h v.taken w.taken waiting (clocks-one v.clock w.clock e) left.taken right.taken
        (sym left.edge_one ∙ edges.0 p ∙ right.edge_one) (sym left.edge_zero ∙ edges.1 p ∙ right.edge_zero)
    at false e edges = (keeps-level d s p h v left edges.0, keeps-level d t p h w right edges.1)

-- at a point two registers are alike, and two signs tell them
record AlikeAt (d : Diagram) (s t : Sign) (p : Point) : Type 0 where
  handing : Handing
  left : View
  right : View
  left_says : SignSays d s p handing left
  right_says : SignSays d t p handing right
  alike : AreAlike handing left right

edges-at : (d : Diagram) (s t : Sign) (p : Point) (x : AlikeAt d s t p) (q : Bool) → same_clock s.clock t.clock ≡ q → EdgesAlike q x.handing x.left x.right
edges-at d s t p x q e =
    subst (λ (r : Bool). EdgesAlike r x.handing x.left x.right) (sym (both-clocks s t x.left x.right x.left_says.clock x.right_says.clock) ∙ e) x.alike.edges

alike-same : (d : Diagram) (s t : Sign) → ((p : Point) → AlikeAt d s t p) → AreSameSigns d s t
alike-same d s t all = record {
  seen = (
    λ p. let x = all p in x.left_says.one ∙ ap (λ (y : Level). same_level y One) x.alike.seen ∙ sym x.right_says.one,
    λ p. let x = all p in x.left_says.zero ∙ ap (λ (y : Level). same_level y Zero) x.alike.seen ∙ sym x.right_says.zero,
  );
  edges = at (same_clock s.clock t.clock) refl;
}
  where
    taken-same : (k : Level) (p : Point) (x : AlikeAt d s t p) → same_clock s.clock t.clock ≡ true →
        (waits x.left.clock x.handing && same_level x.left.taken k) ≡ (waits x.right.clock x.handing && same_level x.right.taken k)
    taken-same k p x e =
        let one : x.right.clock ≡ x.left.clock = clocks-one x.left.clock x.right.clock (sym (both-clocks s t x.left x.right x.left_says.clock x.right_says.clock) ∙ e) in
        level-edge x.left.clock x.handing x.left.taken x.right.taken k (edges-at d s t p x true e) ∙ ap (λ (o : Option (List ℕ)). waits o x.handing && same_level x.right.taken k) (sym one)

    at : (q : Bool) → same_clock s.clock t.clock ≡ q → AreSameEdges q d s t
    at true e = (
      λ p. let x = all p in x.left_says.edge_one ∙ taken-same One p x e ∙ sym x.right_says.edge_one,
      λ p. let x = all p in x.left_says.edge_zero ∙ taken-same Zero p x e ∙ sym x.right_says.edge_zero,
    )
    at false e = (
      (
        λ p. let x = all p in x.left_says.edge_one ∙ level-edge x.left.clock x.handing x.left.taken x.left.seen One (edges-at d s t p x false e).0 ∙ sym x.left_says.keep_one,
        λ p. let x = all p in x.left_says.edge_zero ∙ level-edge x.left.clock x.handing x.left.taken x.left.seen Zero (edges-at d s t p x false e).0 ∙ sym x.left_says.keep_zero,
      ),
      (
        λ p. let x = all p in x.right_says.edge_one ∙ level-edge x.right.clock x.handing x.right.taken x.right.seen One (edges-at d s t p x false e).1 ∙ sym x.right_says.keep_one,
        λ p. let x = all p in x.right_says.edge_zero ∙ level-edge x.right.clock x.handing x.right.taken x.right.seen Zero (edges-at d s t p x false e).1 ∙ sym x.right_says.keep_zero,
      ),
    )

-- two accepted boards settle
pub both-settle : (a b : Joined) → IsAccepted (equations_of a) → IsAccepted (equations_of b) → (left right : List Level) (h : Handing) → (l : Levels) × (m : Levels) × BothSettle a b left right h l m
both-settle a b accepted_a accepted_b left right h =
    let x = accepted-ranks (equations_of a) accepted_a in
    let y = accepted-ranks (equations_of b) accepted_b in (
      settling (equations_of a) x.top left (handed a h),
      settling (equations_of b) y.top right (handed b h),
      record {
        left_settled = settled-exists (equations_of a) x.rank x.top left (handed a h) x.ranked;
        right_settled = settled-exists (equations_of b) y.rank y.top right (handed b h) y.ranked;
      },
    )

sign-read : (P : Sign → Type 0) (signs : List Sign) (i : ℕ) (s : Sign) → slice_get signs i ≡ Some s → IfSome (slice_get signs i) P → P s
sign-read P signs i s e h = subst (λ (o : Option Sign). IfSome o P) e h

pub signs-told : (a b : Joined) (classes : List ℕ) (bits : List Bool) (leaves : Leaves) (d : Diagram) (signs : List Sign) → IsAccepted (equations_of a) → IsAccepted (equations_of b) →
    AreLeaves a b classes bits leaves → AreSigns a b leaves d signs → AreTold a b classes d signs
signs-told a b classes bits leaves d signs accepted_a accepted_b are told i j s t si sj = (forward, backward)
  where
    says : (p : Point) (left right : List Level) (h : Handing) (l m : Levels) → IsPairAt a b leaves p left right h → BothSettle a b left right h l m → (k : ℕ) (r : Sign) → slice_get signs k ≡ Some r →
        SignSays d r p h (view_of_both a b l m k)
    says p left right h l m pair settle k r e = sign-read (λ r. SignSays d r p h (view_of_both a b l m k)) signs k r e (told.says p left right h l m pair settle k)

    forward : AreSameSigns d s t → AlwaysAlike a b classes i j
    forward same = λ left right h l m agrees sl sm.
        let p = pair_point a bits classes left right h in
        let pair = pairs-points a b classes bits leaves are left right h agrees in
        let settle : BothSettle a b left right h l m = record { left_settled = sl; right_settled = sm } in
        says-alike d s t p h (view_of_both a b l m i) (view_of_both a b l m j) (says p left right h l m pair settle i s si) (says p left right h l m pair settle j t sj) same

    alike-at : AlwaysAlike a b classes i j → (p : Point) → AlikeAt d s t p
    alike-at alike p =
        let x = points-pairs a b classes bits leaves are p in
        let y = both-settle a b accepted_a accepted_b x.0 x.1 x.2 in
        record {
          handing = x.2;
          left = view_of_both a b y.0 y.1 i;
          right = view_of_both a b y.0 y.1 j;
          left_says = says p x.0 x.1 x.2 y.0 y.1 x.3 y.2 i s si;
          right_says = says p x.0 x.1 x.2 y.0 y.1 x.3 y.2 j t sj;
          alike = alike x.0 x.1 x.2 y.0 y.1 x.4 y.2.left_settled y.2.right_settled;
        }

    backward : AlwaysAlike a b classes i j → AreSameSigns d s t
    backward alike = alike-same d s t (alike-at alike)
