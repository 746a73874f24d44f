-- An order of evaluation, node by node.
use Rattle.std.proofs.Common.{ℕ, zero, suc, ◌≡◌, ◌⊎◌, ◌<◌, ◌≤◌, false, List, [], ◌∷◌, length, Option, Some, refl, sym, ap, ◌∙◌, subst, arith, inl, inr}
use Rattle.std.specs.Prelude.{slice_get, slice_set, MatchOption}
use Rattle.std.specs.List.{AllByRecursion}
use Rattle.std.proofs.lemmas.Bool.{cases_lt}
use Rattle.std.proofs.lemmas.List.{get_or_past, length-map, length-set}
use Rattle.std.proofs.lemmas.Option.{slice_get_past}
use Rattle.bdd.specs.Tree.{Point}
use Rattle.bdd.specs.Diagram.{Diagram, IsConstant, Keeps}
use Rattle.mig_base.specs.declared.levels.Level.{Level}
use Rattle.mig_base.specs.declared.levels.Level.TheVariants.{X}
use Rattle.mig_base.specs.declared.circuit.Read.{Read}
use Rattle.mig_base.specs.declared.circuit.Read.TheVariants.{OfNet, OfRegister}
use Rattle.mig_base.specs.declared.circuit.Register.{Register}
use Rattle.mig_base.specs.declared.circuit.Circuit.{Circuit}
use Rattle.mig_base.specs.declared.circuit.Levels.{Levels}
use Rattle.mig_base.specs.Among.{Among}
use Rattle.mig_base.specs.Levels.{level_at}
use Rattle.mig_base.specs.Reads.{node_reads}
use Rattle.mig_base.specs.Values.{node_level}
use Rattle.level_laws.specs.Settled.{IsSettled, visible_levels, wire_level}
use Rattle.ranks.specs.Order.{IsOrder}
use Rattle.mig_base.specs.Reads.{IsNode}
use Rattle.reckoning.specs.declared.triples.Three.{Three}
use Rattle.reckoning.specs.declared.triples.Table.{Table}
use Rattle.reckoning.specs.Triples.{IsTriple, Says, AreTriples, NeverFloat}
use Rattle.reckoning.specs.Tables.{IsTable, NodeSays, NodesSay}
use Rattle.reckoning.specs.Made.{AllSay}
use Rattle.reckoning.specs.Reached.{HasPlaces, IsGiven, IsReckoned, IsRenewed, Reached, put}
use Rattle.reckoning.proofs.Kept.{handed_kept, node_kept, place_kept, table_kept}

set-same : {T : Type 0} (xs : List T) (n : ℕ) (x : T) → n < length xs → slice_get (slice_set xs n x) n ≡ Some x
set-same [] n x lt = absurd (omega arith)
set-same (y ∷ ys) zero x lt = refl
set-same (y ∷ ys) (suc n) x lt = set-same ys n x (omega arith)

set-other : {T : Type 0} (xs : List T) (n m : ℕ) (x : T) → (m ≡ n → ⊥) → slice_get (slice_set xs n x) m ≡ slice_get xs m
set-other [] n m x apart = refl
set-other (y ∷ ys) zero zero x apart = absurd (apart refl)
set-other (y ∷ ys) zero (suc m) x apart = refl
set-other (y ∷ ys) (suc n) zero x apart = refl
set-other (y ∷ ys) (suc n) (suc m) x apart = set-other ys n m x (λ e. apart (ap suc e))

triples-set : (d : Diagram) (ts : List Three) (n : ℕ) (x : Three) → AreTriples d ts → IsTriple d x → AreTriples d (slice_set ts n x)
triples-set d [] n x are is m = are m
triples-set d (t ∷ ts) zero x are is zero = is
triples-set d (t ∷ ts) zero x are is (suc m) = are (suc m)
triples-set d (t ∷ ts) (suc n) x are is zero = are zero
triples-set d (t ∷ ts) (suc n) x are is (suc m) = triples-set d ts n x (λ k. are (suc k)) is m

pub never-set : (d : Diagram) (ts : List Three) (n : ℕ) (x : Three) → NeverFloat d ts → IsConstant d false x.float → NeverFloat d (slice_set ts n x)
never-set d [] n x never is m = never m
never-set d (t ∷ ts) zero x never is zero = is
never-set d (t ∷ ts) zero x never is (suc m) = never (suc m)
never-set d (t ∷ ts) (suc n) x never is zero = never zero
never-set d (t ∷ ts) (suc n) x never is (suc m) = never-set d ts n x (λ k. never (suc k)) is m

put-table : (d : Diagram) (t : Table) (v : Read) (x : Three) → IsTable d t → IsTriple d x → IsTable d (put t v x)
put-table d t (OfNet n) x is valid = record { nets = triples-set d t.nets n x is.nets valid; visible = is.visible }
put-table d t (OfRegister k) x is valid = record { nets = is.nets; visible = triples-set d t.visible k x is.visible valid }

put-places : (c : Circuit) (t : Table) (v : Read) (x : Three) → HasPlaces c t → HasPlaces c (put t v x)
put-places c t (OfNet n) x has = record { nets = length-set t.nets n x ∙ has.nets; visible = has.visible }
put-places c t (OfRegister k) x has = record { nets = has.nets; visible = length-set t.visible k x ∙ has.visible }

put-same : (d : Diagram) (c : Circuit) (t : Table) (v : Read) (x : Three) (p : Point) (l : Levels) → HasPlaces c t → IsNode c v → Says d x p (node_level l v) → NodeSays d (put t v x) p l v
put-same d c t (OfNet n) x p l has node says = subst (λ (o : Option Three). MatchOption o (level_at l.nets n ≡ X) (λ q. Says d q p (level_at l.nets n)))
    (sym (set-same t.nets n x (subst (λ (m : ℕ). n < m) (sym has.nets) node))) says
put-same d c t (OfRegister k) x p l has node says = subst (λ (o : Option Three). MatchOption o (level_at l.visible k ≡ X) (λ q. Says d q p (level_at l.visible k)))
    (sym (set-same t.visible k x (subst (λ (m : ℕ). k < m) (sym has.visible) node))) says

put-other : (d : Diagram) (t : Table) (v : Read) (x : Three) (p : Point) (l : Levels) (w : Read) → (w ≡ v → ⊥) → NodeSays d t p l w → NodeSays d (put t v x) p l w
put-other d t (OfNet n) x p l (OfNet m) apart says = subst (λ (o : Option Three). MatchOption o (level_at l.nets m ≡ X) (λ q. Says d q p (level_at l.nets m)))
    (sym (set-other t.nets n m x (λ e. apart (ap OfNet e)))) says
put-other d t (OfNet n) x p l (OfRegister k) apart says = says
put-other d t (OfRegister k) x p l (OfNet m) apart says = says
put-other d t (OfRegister k) x p l (OfRegister j) apart says = subst (λ (o : Option Three). MatchOption o (level_at l.visible j ≡ X) (λ q. Says d q p (level_at l.visible j)))
    (sym (set-other t.visible k j x (λ e. apart (ap OfRegister e)))) says

visible-short : (l : Levels) (rs : List Register) (ss : List Level) → length (visible_levels l rs ss) ≤ length rs
visible-short l [] ss = omega arith
visible-short l (r ∷ rs) [] = omega arith
visible-short l (r ∷ rs) (s ∷ ss) = let rest : length (visible_levels l rs ss) ≤ length rs = visible-short l rs ss in omega arith

-- what the board doesn't have is X, and the table has nothing for it
no-node : (d : Diagram) (c : Circuit) (stored inputs : List Level) (t : Table) (p : Point) (l : Levels) (v : Read) → HasPlaces c t → IsSettled c stored inputs l → (IsNode c v → ⊥) → NodeSays d t p l v
no-node d c stored inputs t p l (OfNet n) has settled out =
    let past : length c.nets ≤ n = away (cases_lt n (length c.nets)) in
    let long : length l.nets ≡ length c.nets = ap length settled.nets ∙ length-map c.nets (wire_level inputs l) in
    let fit : length t.nets ≡ length c.nets = has.nets in
    subst (λ (o : Option Three). MatchOption o (level_at l.nets n ≡ X) (λ q. Says d q p (level_at l.nets n))) (sym (slice_get_past t.nets n (omega arith))) (get_or_past l.nets n X (omega arith))
  where
    away : (n < length c.nets) ⊎ (length c.nets ≤ n) → length c.nets ≤ n
    away (inl h) = absurd (out h)
    away (inr h) = h
no-node d c stored inputs t p l (OfRegister k) has settled out =
    let past : length c.registers ≤ k = away (cases_lt k (length c.registers)) in
    let long : length l.visible ≤ length c.registers = subst (λ (ls : List Level). length ls ≤ length c.registers) (sym settled.visible) (visible-short l c.registers stored) in
    let fit : length t.visible ≡ length c.registers = has.visible in
    subst (λ (o : Option Three). MatchOption o (level_at l.visible k ≡ X) (λ q. Says d q p (level_at l.visible k))) (sym (slice_get_past t.visible k (omega arith))) (get_or_past l.visible k X (omega arith))
  where
    away : (k < length c.registers) ⊎ (length c.registers ≤ k) → length c.registers ≤ k
    away (inl h) = absurd (out h)
    away (inr h) = h

is-node : (c : Circuit) (v : Read) → IsNode c v ⊎ (IsNode c v → ⊥)
is-node c (OfNet n) = at (cases_lt n (length c.nets))
  where
    at : (n < length c.nets) ⊎ (length c.nets ≤ n) → IsNode c (OfNet n) ⊎ (IsNode c (OfNet n) → ⊥)
    at (inl h) = inl h
    at (inr h) = inr (λ lt. absurd (omega arith))
is-node c (OfRegister k) = at (cases_lt k (length c.registers))
  where
    at : (k < length c.registers) ⊎ (length c.registers ≤ k) → IsNode c (OfRegister k) ⊎ (IsNode c (OfRegister k) → ⊥)
    at (inl h) = inl h
    at (inr h) = inr (λ lt. absurd (omega arith))

given_kept : (a b : Diagram) (c : Circuit) (stored handed : List Three) (p : Point) (l : Levels) → Keeps a b → AreTriples a stored → AreTriples a handed → IsGiven a c stored handed p l → IsGiven b c stored handed p l
given_kept a b c stored handed p l k vs vh g = record {
  levels = g.levels;
  inputs = g.inputs;
  count = g.count;
  stored_say = λ j. place_kept a b stored j p (level_at g.levels j) k vs (g.stored_say j);
  handed_say = handed_kept a b handed p g.inputs k vh g.handed_say;
  settled = g.settled;
}

pub reached-start : (d : Diagram) (c : Circuit) (stored handed : List Three) (order : List Read) (t : Table) → IsOrder c order → IsTable d t → HasPlaces c t → Reached d d c stored handed order t
reached-start d c stored handed order t is table places = record {
  done = [];
  says = λ p l g v among. absurd among;
  behind = is.behind;
  all = λ v node. inr (is.every v node);
  nodes = is.nodes;
  table = table;
  places = places;
}

-- all that a node reads says its levels
reads-say : (first now : Diagram) (c : Circuit) (stored handed : List Three) (rest : List Read) (t : Table) → Reached first now c stored handed rest t → (p : Point) (l : Levels) → IsGiven first c stored handed p l →
    (done : List Read) → ((v : Read) → Among v done → NodeSays now t p l v) → (reads : List Read) → AllByRecursion (λ w. IsNode c w → Among w done) reads → NodesSay now t p l reads
reads-say first now c stored handed rest t r p l g done says [] h = tt
reads-say first now c stored handed rest t r p l g done says (w ∷ ws) h = (at (is-node c w), reads-say first now c stored handed rest t r p l g done says ws h.1)
  where
    at : IsNode c w ⊎ (IsNode c w → ⊥) → NodeSays now t p l w
    at (inl node) = says w (h.0 node)
    at (inr out) = no-node now c g.levels g.inputs t p l w r.places g.settled out

pub reached-next : (first now new : Diagram) (c : Circuit) (stored handed : List Three) (v : Read) (vs : List Read) (t after : Table) → Keeps first now → Keeps now new → AreTriples first stored → AreTriples first handed →
    Reached first now c stored handed (v ∷ vs) t → IsRenewed now new c stored handed v t after → Reached first new c stored handed vs after
reached-next first now new c stored handed v vs t after fn nn vs_stored vs_handed r is = subst (Reached first new c stored handed vs) (sym is.placed) (record {
  done = v ∷ r.done;
  says = says;
  behind = r.behind.2;
  all = λ u node. moved u (r.all u node);
  nodes = r.nodes.1;
  table = put-table new t v is.three (table_kept now new t nn r.table) is.valid;
  places = put-places c t v is.three r.places;
})
  where
    says : (p : Point) (l : Levels) → IsGiven first c stored handed p l → (u : Read) → Among u (v ∷ r.done) → NodeSays new (put t v is.three) p l u
    says p l g u (inl e) = subst (NodeSays new (put t v is.three) p l) (sym e)
        (put-same new c t v is.three p l r.places r.nodes.0
        (is.says p l (given_kept first now c stored handed p l fn vs_stored vs_handed g)
        (reads-say first now c stored handed (v ∷ vs) t r p l g r.done (r.says p l g) (node_reads c v) r.behind.1)))
    says p l g u (inr among) =
        put-other new t v is.three p l u (λ e. r.behind.0 (subst (λ (w : Read). Among w r.done) e among)) (node_kept now new t p l u nn r.table (r.says p l g u among))

    moved : (u : Read) → Among u r.done ⊎ Among u (v ∷ vs) → Among u (v ∷ r.done) ⊎ Among u vs
    moved u (inl a) = inl (inr a)
    moved u (inr (inl e)) = inl (inl e)
    moved u (inr (inr a)) = inr a

pub reached-end : (first now : Diagram) (c : Circuit) (stored handed : List Three) (t : Table) → Reached first now c stored handed [] t → IsReckoned first now c stored handed t
reached-end first now c stored handed t r = record { table = r.table; places = r.places; says = λ p l g v node. r.says p l g v (at v (r.all v node)) }
  where
    at : (v : Read) → Among v r.done ⊎ Among v [] → Among v r.done
    at v (inl a) = a
    at v (inr a) = absurd a

-- all nodes say the levels settled at a point, and what the board does not have is X
pub all-said : (first now : Diagram) (c : Circuit) (stored handed : List Three) (t : Table) → IsReckoned first now c stored handed t → (p : Point) (l : Levels) →
    IsGiven first c stored handed p l → AllSay now t p l
all-said first now c stored handed t r p l g v = at (is-node c v)
  where
    at : IsNode c v ⊎ (IsNode c v → ⊥) → NodeSays now t p l v
    at (inl node) = r.says p l g v node
    at (inr out) = no-node now c g.levels g.inputs t p l v r.places g.settled out
