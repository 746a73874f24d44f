-- Lists of triples, one for each unit or register.
use Rattle.std.proofs.Common.{ℕ, zero, suc, ◌≡◌, ◌+◌, ◌<◌, false, List, [], ◌∷◌, ◌++◌, take, length, get_or, refl, sym, ap, ◌∙◌, subst, arith}
use Rattle.std.specs.Prelude.{slice_get}
use Rattle.std.proofs.lemmas.List.{take_more, length-append}
use Rattle.bdd.specs.Tree.{Point, holds}
use Rattle.bdd.specs.Diagram.{Diagram, Keeps, IsConstant}
use Rattle.bdd.specs.declared.Ref.{Ref}
use Rattle.mig_base.specs.declared.levels.Level.{Level}
use Rattle.mig_base.specs.declared.circuit.Read.{Read}
use Rattle.mig_base.specs.declared.circuit.Register.{Register}
use Rattle.mig_base.specs.declared.circuit.Levels.{Levels}
use Rattle.mig_base.specs.Levels.{and3, or3, not3, or_x}
use Rattle.mig_base.specs.Reads.{edge_reads}
use Rattle.mig_base.specs.Values.{inverted, row_reads, row_value, sum_reads, sum_value}
use Rattle.level_laws.specs.Runs.{taken}
use Rattle.level_laws.proofs.Unique.{all_left, all_right}
use Rattle.settle.proofs.LevelLaws.{and-known}
use Rattle.reckoning.specs.declared.triples.Three.{Three}
use Rattle.reckoning.specs.declared.triples.Value.{Value}
use Rattle.reckoning.specs.declared.triples.Table.{Table}
use Rattle.reckoning.specs.Triples.{IsTriple, Says, Means, AreTriples, NeverFloat, PlaceSays}
use Rattle.reckoning.specs.Tables.{IsTable, IsTripleOf, IsValueOf, NodeSays, NodesSay}
use Rattle.reckoning.specs.Steps.{IsMadeBy}
use Rattle.reckoning.specs.Made.{AllSay, AreOf}
use Rattle.reckoning.proofs.Kept.{keeps_trans, means_kept, nodes_kept, place_kept, triples_kept}
use Rattle.reckoning.proofs.Units.{not-z}

all-nodes : (d : Diagram) (t : Table) (p : Point) (l : Levels) → AllSay d t p l → (reads : List Read) → NodesSay d t p l reads
all-nodes d t p l all [] = tt
all-nodes d t p l all (v ∷ vs) = (all v, all-nodes d t p l all vs)

pub triples-push : (d : Diagram) (ts : List Three) (r : Three) → AreTriples d ts → IsTriple d r → AreTriples d (ts ++ r ∷ [])
triples-push d [] r are is zero = is
triples-push d [] r are is (suc n) = tt
triples-push d (t ∷ ts) r are is zero = are zero
triples-push d (t ∷ ts) r are is (suc n) = triples-push d ts r (λ k. are (suc k)) is n

pub never-push : (d : Diagram) (ts : List Three) (r : Three) → NeverFloat d ts → IsConstant d false r.float → NeverFloat d (ts ++ r ∷ [])
never-push d [] r never is zero = is
never-push d [] r never is (suc n) = tt
never-push d (t ∷ ts) r never is zero = never zero
never-push d (t ∷ ts) r never is (suc n) = never-push d ts r (λ k. never (suc k)) is n

pub says-push : {T : Type 0} (d : Diagram) (p : Point) (f : T → Level) (xs : List T) (x : T) (ts : List Three) (r : Three) → length ts ≡ length xs →
    ((n : ℕ) → PlaceSays d ts n p (or_x f (slice_get xs n))) → Says d r p (f x) → (n : ℕ) → PlaceSays d (ts ++ r ∷ []) n p (or_x f (slice_get (xs ++ x ∷ []) n))
says-push d p f [] x [] r count each says zero = says
says-push d p f [] x [] r count each says (suc n) = refl
says-push d p f [] x (t ∷ ts) r count each says n = absurd (omega arith)
says-push d p f (y ∷ xs) x [] r count each says n = absurd (omega arith)
says-push d p f (y ∷ xs) x (t ∷ ts) r count each says zero = each zero
says-push d p f (y ∷ xs) x (t ∷ ts) r count each says (suc n) = says-push d p f xs x ts r (omega arith) (λ k. each (suc k)) says n

pub list-start : {T : Type 0} (d : Diagram) (t : Table) (rule : Levels → T → Level) → AreOf d d t rule [] []
list-start d t rule = record { triples = λ n. tt; count = refl; says = λ p l all n. refl }

list-push : {T : Type 0} (a b c : Diagram) (t : Table) (rule : Levels → T → Level) (xs : List T) (x : T) (ts : List Three) (r : Three) (reads : List Read) → IsTable a t → Keeps a b → Keeps b c →
    AreOf a b t rule xs ts → IsTripleOf b c t reads (λ l. rule l x) r → AreOf a c t rule (xs ++ x ∷ []) (ts ++ r ∷ [])
list-push a b c t rule xs x ts r reads table ab bc are is = record {
  triples = triples-push c ts r (triples_kept b c ts bc are.triples) is.valid;
  count = length-append ts (r ∷ []) ∙ ap (λ (n : ℕ). n + 1) are.count ∙ sym (length-append xs (x ∷ []));
  says = λ p l all. says-push c p (rule l) xs x ts r are.count (λ n. place_kept b c ts n p (or_x (rule l) (slice_get xs n)) bc are.triples (are.says p l all n))
      (is.says p l (nodes_kept a b t p l reads ab table (all-nodes a t p l all reads)));
}

pub list-more : {T : Type 0} (a b c : Diagram) (t : Table) (rule : Levels → T → Level) (xs : List T) (i : ℕ) (d x : T) (ts : List Three) (r : Three) (reads : List Read) → i < length xs → x ≡ get_or xs i d →
    IsTable a t → Keeps a b → Keeps b c → AreOf a b t rule (take i xs) ts → IsTripleOf b c t reads (λ l. rule l x) r → AreOf a c t rule (take (i + 1) xs) (ts ++ r ∷ [])
list-more a b c t rule xs i d x ts r reads lt e table ab bc are is = subst (λ ys. AreOf a c t rule ys (ts ++ r ∷ [])) (ap (λ y. take i xs ++ y ∷ []) e ∙ sym (take_more xs i d lt))
    (list-push a b c t rule (take i xs) x ts r reads table ab bc are is)

-- what a register takes: graphs after its terms, its preset, its reset, the OR and the AND
pub taken-made : (a b c d e f : Diagram) (t : Table) (r : Register) (terms given preset reset kept set level : Value) (float : Ref) → IsTable a t →
    Keeps a b → Keeps b c → Keeps c d → Keeps d e →
    IsValueOf a b t (sum_reads r.terms) (λ l. sum_value l r.terms) terms → IsValueOf b c t (row_reads r.preset) (λ l. row_value l r.preset) preset →
    IsValueOf c d t (row_reads r.reset) (λ l. row_value l r.reset) reset →
    ((p : Point) (x : Level) → Means d terms p x → Means d given p (inverted r.low x)) → IsMadeBy or3 d e given preset set →
    ((p : Point) (x : Level) → Means e reset p x → Means e kept p (not3 x)) → IsMadeBy and3 e f set kept level → IsConstant f false float →
    IsTripleOf a f t (edge_reads r) (λ l. taken l r) (record { one = level.one; zero = level.zero; float = float })
taken-made a b c d e f t r terms given preset reset kept set level float table ab bc cd de is_terms is_preset is_reset turned made_or turned_reset made_and never = record {
  valid = record { one = made_and.valid.one; zero = made_and.valid.zero; float = never.valid };
  says = λ p l says.
      let front : NodesSay a t p l (sum_reads r.terms ++ row_reads r.preset) = all_left (NodeSays a t p l) (sum_reads r.terms ++ row_reads r.preset) (row_reads r.reset) says in
      let back : NodesSay a t p l (row_reads r.reset) = all_right (NodeSays a t p l) (sum_reads r.terms ++ row_reads r.preset) (row_reads r.reset) says in
      let ac : Keeps a c = keeps_trans a b c ab bc in
      let x = inverted r.low (sum_value l r.terms) in
      let y = row_value l r.preset in
      let z = row_value l r.reset in
      let means_x : Means d given p x = turned p (sum_value l r.terms)
      (means_kept b d terms p (sum_value l r.terms) (keeps_trans b c d bc cd) is_terms.valid
      (is_terms.means p l (all_left (NodeSays a t p l) (sum_reads r.terms) (row_reads r.preset) front))) in
      let means_y : Means d preset p y = means_kept c d preset p y cd is_preset.valid
      (is_preset.means p l (nodes_kept a b t p l (row_reads r.preset) ab table (all_right (NodeSays a t p l) (sum_reads r.terms) (row_reads r.preset) front))) in
      let means_z : Means e reset p z = means_kept d e reset p z de is_reset.valid (is_reset.means p l (nodes_kept a c t p l (row_reads r.reset) ac table back)) in
      let m : Means f level p (and3 (or3 x y) (not3 z)) = made_and.means p (or3 x y) (not3 z) (made_or.means p x y means_x means_y) (turned_reset p z means_z) in
      record { one = m.one; zero = m.zero; float = ap (λ q. holds q p) never.tree ∙ sym (not-z (and3 (or3 x y) (not3 z)) (and-known (or3 x y) (not3 z))) };
}
