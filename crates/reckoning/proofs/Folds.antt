-- Products and sums with one more part.
use Rattle.std.proofs.Common.{ℕ, ◌≡◌, ◌+◌, ◌<◌, true, false, List, [], ◌∷◌, ◌++◌, take, length, get_or, refl, sym, ap, ◌∙◌, subst}
use Rattle.std.proofs.lemmas.List.{take_more}
use Rattle.bdd.specs.Tree.{Point, holds}
use Rattle.bdd.specs.Diagram.{Diagram, Keeps, IsConstant}
use Rattle.bdd.specs.declared.Ref.{Ref}
use Rattle.mig_base.specs.declared.levels.Level.{Level}
use Rattle.mig_base.specs.declared.levels.Level.TheVariants.{Zero, One}
use Rattle.mig_base.specs.declared.circuit.Read.{Read}
use Rattle.mig_base.specs.declared.circuit.Literal.{Literal}
use Rattle.mig_base.specs.declared.circuit.Levels.{Levels}
use Rattle.mig_base.specs.Levels.{and3, or3}
use Rattle.mig_base.specs.Values.{literal_value, product_value, sum_value, product_reads, sum_reads}
use Rattle.level_laws.proofs.Unique.{all_left, all_right}
use Rattle.reckoning.specs.declared.triples.Value.{Value}
use Rattle.reckoning.specs.declared.triples.Table.{Table}
use Rattle.reckoning.specs.Triples.{Means}
use Rattle.reckoning.specs.Tables.{IsTable, NodeSays, NodesSay, IsValueOf}
use Rattle.reckoning.specs.Steps.{IsMadeBy}
use Rattle.reckoning.proofs.Kept.{node_kept, nodes_kept}
use Rattle.reckoning.proofs.LevelTables.{and-assoc, or-assoc, and-ends, or-ends}

product-push : (l : Levels) (xs : List Literal) (x : Literal) → product_value l (xs ++ x ∷ []) ≡ and3 (product_value l xs) (literal_value l x)
product-push l [] x = and-ends (literal_value l x)
product-push l (y ∷ xs) x = ap (and3 (literal_value l y)) (product-push l xs x) ∙ and-assoc (literal_value l y) (product_value l xs) (literal_value l x)

sum-push : (l : Levels) (xs : List (List Literal)) (x : List Literal) → sum_value l (xs ++ x ∷ []) ≡ or3 (sum_value l xs) (product_value l x)
sum-push l [] x = or-ends (product_value l x)
sum-push l (y ∷ xs) x = ap (or3 (product_value l y)) (sum-push l xs x) ∙ or-assoc (product_value l y) (sum_value l xs) (product_value l x)

product_reads-push : (xs : List Literal) (x : Literal) → product_reads (xs ++ x ∷ []) ≡ product_reads xs ++ x.source ∷ []
product_reads-push [] x = refl
product_reads-push (y ∷ xs) x = ap (λ (vs : List Read). y.source ∷ vs) (product_reads-push xs x)

-- what is said of the nodes of a longer sum
sum-front : (d : Diagram) (t : Table) (p : Point) (l : Levels) (xs : List (List Literal)) (x : List Literal) → NodesSay d t p l (sum_reads (xs ++ x ∷ [])) → NodesSay d t p l (sum_reads xs)
sum-front d t p l [] x h = tt
sum-front d t p l (y ∷ xs) x h = all-join (product_reads y) (sum_reads xs) (all_left (NodeSays d t p l) (product_reads y) (sum_reads (xs ++ x ∷ [])) h)
    (sum-front d t p l xs x (all_right (NodeSays d t p l) (product_reads y) (sum_reads (xs ++ x ∷ [])) h))
  where
    all-join : (us vs : List Read) → NodesSay d t p l us → NodesSay d t p l vs → NodesSay d t p l (us ++ vs)
    all-join [] vs h k = k
    all-join (u ∷ us) vs h k = (h.0, all-join us vs h.1 k)

sum-back : (d : Diagram) (t : Table) (p : Point) (l : Levels) (xs : List (List Literal)) (x : List Literal) → NodesSay d t p l (sum_reads (xs ++ x ∷ [])) → NodesSay d t p l (product_reads x)
sum-back d t p l [] x h = all_left (NodeSays d t p l) (product_reads x) [] h
sum-back d t p l (y ∷ xs) x h = sum-back d t p l xs x (all_right (NodeSays d t p l) (product_reads y) (sum_reads (xs ++ x ∷ [])) h)

-- a value that is constant
pub constant-one : (d : Diagram) (t : Table) (one zero : Ref) (rule : Levels → Level) → IsConstant d true one → IsConstant d false zero → ((l : Levels) → rule l ≡ One) →
    IsValueOf d d t [] rule (record { one = one; zero = zero })
constant-one d t one zero rule h k e = record {
  valid = record { one = h.valid; zero = k.valid };
  means = λ p l _. subst (Means d (record { one = one; zero = zero }) p) (sym (e l)) (record { one = ap (λ t. holds t p) h.tree; zero = ap (λ t. holds t p) k.tree });
}

pub constant-zero : (d : Diagram) (t : Table) (one zero : Ref) (rule : Levels → Level) → IsConstant d false one → IsConstant d true zero → ((l : Levels) → rule l ≡ Zero) →
    IsValueOf d d t [] rule (record { one = one; zero = zero })
constant-zero d t one zero rule h k e = record {
  valid = record { one = h.valid; zero = k.valid };
  means = λ p l _. subst (Means d (record { one = one; zero = zero }) p) (sym (e l)) (record { one = ap (λ t. holds t p) h.tree; zero = ap (λ t. holds t p) k.tree });
}

pub product-more : (a b c : Diagram) (t : Table) (lits : List Literal) (i : ℕ) (d : Literal) (v x r : Value) → i < length lits → IsTable a t → Keeps a b →
    IsValueOf a b t (product_reads (take i lits)) (λ l. product_value l (take i lits)) v →
    ((p : Point) (l : Levels) → NodeSays b t p l (get_or lits i d).source → Means b x p (literal_value l (get_or lits i d))) →
    IsMadeBy and3 b c v x r → IsValueOf a c t (product_reads (take (i + 1) lits)) (λ l. product_value l (take (i + 1) lits)) r
product-more a b c t lits i d v x r lt table keeps is one made = record {
  valid = made.valid;
  means = λ p l says.
      let y = get_or lits i d in
      let all : NodesSay a t p l (product_reads (take i lits) ++ y.source ∷ []) =
      subst (NodesSay a t p l) (ap product_reads (take_more lits i d lt) ∙ product_reads-push (take i lits) y) says in
      let front : NodesSay a t p l (product_reads (take i lits)) = all_left (NodeSays a t p l) (product_reads (take i lits)) (y.source ∷ []) all in
      let back : NodesSay a t p l (y.source ∷ []) = all_right (NodeSays a t p l) (product_reads (take i lits)) (y.source ∷ []) all in
      subst (Means c r p) (sym (ap (product_value l) (take_more lits i d lt) ∙ product-push l (take i lits) y))
      (made.means p (product_value l (take i lits)) (literal_value l y) (is.means p l front) (one p l (node_kept a b t p l y.source keeps table back.0)));
}

pub sum-more : (a b m c : Diagram) (t : Table) (terms : List (List Literal)) (i : ℕ) (d : List Literal) (v x r : Value) → i < length terms → IsTable a t → Keeps a b → Keeps b m →
    IsValueOf a b t (sum_reads (take i terms)) (λ l. sum_value l (take i terms)) v → IsValueOf b m t (product_reads (get_or terms i d)) (λ l. product_value l (get_or terms i d)) x →
    ((p : Point) (level : Level) → Means b v p level → Means m v p level) →
    IsMadeBy or3 m c v x r → IsValueOf a c t (sum_reads (take (i + 1) terms)) (λ l. sum_value l (take (i + 1) terms)) r
sum-more a b m c t terms i d v x r lt table keeps more is one stays made = record {
  valid = made.valid;
  means = λ p l says.
      let y = get_or terms i d in
      let all : NodesSay a t p l (sum_reads (take i terms ++ y ∷ [])) = subst (λ (ps : List (List Literal)). NodesSay a t p l (sum_reads ps)) (take_more terms i d lt) says in
      subst (Means c r p) (sym (ap (sum_value l) (take_more terms i d lt) ∙ sum-push l (take i terms) y))
      (made.means p (sum_value l (take i terms)) (product_value l y) (stays p (sum_value l (take i terms)) (is.means p l (sum-front a t p l (take i terms) y all)))
      (one.means p l (nodes_kept a b t p l (product_reads y) keeps table (sum-back a t p l (take i terms) y all))));
}
