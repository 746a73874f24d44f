-- The triples of two boards at the point of a pair.
use Rattle.std.proofs.Common.{ℕ, zero, suc, ◌≡◌, List, [], ◌∷◌, ◌++◌, take, drop, length, refl, sym, ap, ◌∙◌, subst, arith}
use Rattle.std.specs.Prelude.{slice_get}
use Rattle.std.proofs.lemmas.List.{length-map}
use Rattle.bdd.specs.Tree.{Point}
use Rattle.bdd.specs.Diagram.{Diagram, Keeps}
use Rattle.mig_base.specs.declared.levels.Level.{Level}
use Rattle.mig_base.specs.declared.circuit.Circuit.{Circuit}
use Rattle.mig_base.specs.declared.circuit.Levels.{Levels}
use Rattle.mig_base.specs.Levels.{level_at, or_x}
use Rattle.level_laws.specs.Runs.{taken}
use Rattle.board.specs.Joined.{Joined, equations_of}
use Rattle.matchings.specs.Pairs.{handed}
use Rattle.matchings.specs.ByPort.{handed_names}
use Rattle.leaves.specs.declared.Leaf.{Leaf}
use Rattle.leaves.specs.Leaves.{leaf_level, leaf_levels}
use Rattle.reckoning.specs.declared.triples.Three.{Three}
use Rattle.reckoning.specs.declared.triples.Triples.{Triples}
use Rattle.reckoning.specs.Triples.{AreTriples, PlaceSays}
use Rattle.reckoning.specs.Tables.{HandedSay}
use Rattle.reckoning.specs.Reached.{StoredSay}
use Rattle.reckoning.specs.Whole.{AreSettled, HasTriples, SayAll}
use Rattle.reckoning.proofs.Kept.{handed_kept, keeps_trans, never_kept, place_kept, triples_kept}
use Rattle.class_leaves.specs.LeafTriples.{AreLeafTriples}
use Rattle.class_leaves.specs.declared.Leaves.{Leaves}
use Rattle.class_leaves.proofs.LeafLaws.{leaf-level-at}
use Rattle.signs.specs.Named.{NamedSay}
use Rattle.signs.specs.Both.{AreBothTriples, AreGivenTriples}
use Rattle.signs.specs.declared.both.GivenTriples.{GivenTriples}
use Rattle.signs.proofs.NamedLaws.{handed-named, named-handed}

-- leaves of lists and triples of fronts and backs
leaves-say : (d : Diagram) (fs : List Leaf) (ts : List Three) (p : Point) (levels : List Level) → AreLeafTriples d fs ts → levels ≡ leaf_levels p fs → (n : ℕ) → PlaceSays d ts n p (level_at levels n)
leaves-say d fs ts p levels are e n = subst (PlaceSays d ts n p) (sym (leaf-level-at p fs n) ∙ ap (λ (ls : List Level). level_at ls n) (sym e)) (are.says p n)

front-say : (d : Diagram) (p : Point) (xs ys : List Level) (ts : List Three) → length ts ≡ length (xs ++ ys) → ((n : ℕ) → PlaceSays d ts n p (level_at (xs ++ ys) n)) → (k : ℕ) → PlaceSays d (take (length xs) ts) k p (level_at xs k)
front-say d p [] ys ts e say k = refl
front-say d p (x ∷ xs) ys [] e say k = absurd (omega arith)
front-say d p (x ∷ xs) ys (t ∷ ts) e say zero = say zero
front-say d p (x ∷ xs) ys (t ∷ ts) e say (suc k) = front-say d p xs ys ts (omega arith) (λ n. say (suc n)) k

back-say : (d : Diagram) (p : Point) (xs ys : List Level) (ts : List Three) → length ts ≡ length (xs ++ ys) → ((n : ℕ) → PlaceSays d ts n p (level_at (xs ++ ys) n)) → (k : ℕ) → PlaceSays d (drop (length xs) ts) k p (level_at ys k)
back-say d p [] ys ts e say k = say k
back-say d p (x ∷ xs) ys [] e say k = absurd (omega arith)
back-say d p (x ∷ xs) ys (t ∷ ts) e say k = back-say d p xs ys ts (omega arith) (λ n. say (suc n)) k

pub front-triples : (d : Diagram) (n : ℕ) (ts : List Three) → AreTriples d ts → AreTriples d (take n ts)
front-triples d zero ts are k = tt
front-triples d (suc n) [] are k = tt
front-triples d (suc n) (t ∷ ts) are zero = are zero
front-triples d (suc n) (t ∷ ts) are (suc k) = front-triples d n ts (λ j. are (suc j)) k

pub back-triples : (d : Diagram) (n : ℕ) (ts : List Three) → AreTriples d ts → AreTriples d (drop n ts)
back-triples d zero ts are k = are k
back-triples d (suc n) [] are k = tt
back-triples d (suc n) (t ∷ ts) are k = back-triples d n ts (λ j. are (suc j)) k

pub has_kept : (d e : Diagram) (c : Circuit) (r : Triples) → Keeps d e → HasTriples d c r → HasTriples e c r
has_kept d e c r k has = record {
  nets = triples_kept d e r.nets k has.nets;
  drives = triples_kept d e r.drives k has.drives;
  visible = triples_kept d e r.visible k has.visible;
  next = triples_kept d e r.next k has.next;
  visible_known = never_kept d e r.visible k has.visible_known;
  next_known = never_kept d e r.next k has.next_known;
  net_count = has.net_count;
  drive_count = has.drive_count;
  visible_count = has.visible_count;
  next_count = has.next_count;
}

pub all_kept : (d e : Diagram) (c : Circuit) (r : Triples) (p : Point) (l : Levels) → Keeps d e → HasTriples d c r → SayAll d c r p l → SayAll e c r p l
all_kept d e c r p l k has say = record {
  nets = λ n. place_kept d e r.nets n p (level_at l.nets n) k has.nets (say.nets n);
  drives = λ u. place_kept d e r.drives u p (level_at l.drives u) k has.drives (say.drives u);
  visible = λ j. place_kept d e r.visible j p (level_at l.visible j) k has.visible (say.visible j);
  next = λ j. place_kept d e r.next j p (or_x (taken l) (slice_get c.registers j)) k has.next (say.next j);
}

-- graphs with the leaves, with the first board's triples and with those of both
pub both-made : (a b : Joined) (leaves : Leaves) (d e f : Diagram) (g : GivenTriples) (left right : Triples) (m : ℕ) → m ≡ length (equations_of a).registers → Keeps d e → Keeps e f →
    length leaves.ports ≡ length (handed_names a.net) → AreGivenTriples a b leaves d g → AreSettled d e (equations_of a) (take m g.stored) g.ports left → AreSettled e f (equations_of b) (drop m g.stored) g.others right →
    AreBothTriples a b leaves f (record { ports = g.ports; left = left; right = right })
both-made a b leaves d e f g left right m count de ef long given first second =
    let df : Keeps d f = keeps_trans d e f de ef in record {
      ports = triples_kept d f g.ports df given.ports.triples;
      count = given.ports.count ∙ long;
      left = has_kept e f (equations_of a) left ef first.triples;
      right = second.triples;
      says = λ p xs ys h l n pair settle.
          let size : length g.stored ≡ length (xs ++ ys) = given.stored.count ∙ sym (length-map leaves.registers (λ (x : Leaf). leaf_level x p)) ∙ ap length (sym pair.stored) in
          let stored : (k : ℕ) → PlaceSays d g.stored k p (level_at (xs ++ ys) k) = leaves-say d leaves.registers g.stored p (xs ++ ys) given.stored pair.stored in
          let inputs : HandedSay d g.ports p (handed a h) = leaves-say d leaves.ports g.ports p (handed a h) given.ports pair.inputs in
          let named : NamedSay d g.ports (handed_names a.net) p h = handed-named d a.net g.ports p h inputs in
          let others : HandedSay d g.others p (handed b h) = named-handed d b.net g.others p h (given.others.says p h named) in
          let same : length xs ≡ m = pair.left_count ∙ sym count in
          let back : StoredSay d (drop m g.stored) p ys = subst (λ (i : ℕ). StoredSay d (drop i g.stored) p ys) same (back-say d p xs ys g.stored size stored) in
          record {
            ports = λ k. place_kept d f g.ports k p (or_x h (slice_get (handed_names a.net) k)) df given.ports.triples (named k);
            left = all_kept e f (equations_of a) left p l ef first.triples (first.says p l (record {
              levels = xs;
              inputs = handed a h;
              count = pair.left_count;
              stored_say = subst (λ (i : ℕ). StoredSay d (take i g.stored) p xs) same (front-say d p xs ys g.stored size stored);
              handed_say = inputs;
              settled = settle.left_settled;
            }));
            right = second.says p n (record {
              levels = ys;
              inputs = handed b h;
              count = pair.right_count;
              stored_say = λ k. place_kept d e (drop m g.stored) k p (level_at ys k) de (back-triples d m g.stored given.stored.triples) (back k);
              handed_say = handed_kept d e g.others p (handed b h) de given.others.triples others;
              settled = settle.right_settled;
            });
          };
    }

-- what is settled, by the lists that were lent
pub as-settled : (d e : Diagram) (k c : Circuit) (s t h i : List Three) (r : Triples) → k ≡ c → s ≡ t → h ≡ i → AreSettled d e k s h r → AreSettled d e c t i r
as-settled d e k c s t h i r x y z made =
    subst (λ (n : Circuit). AreSettled d e n t i r) x (subst (λ (us : List Three). AreSettled d e k us i r) y (subst (λ (us : List Three). AreSettled d e k s us r) z made))
