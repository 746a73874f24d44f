-- Nodes added to a set one by one.
use Rattle.std.proofs.Common.{ℕ, ◌≡◌, ◌<◌, ◌+◌, List, [], ◌∷◌, ◌++◌, length, take, refl, sym, ap, ◌∙◌}
use Rattle.std.proofs.Math.ListN.{get_or}
use Rattle.std.proofs.lemmas.List.{take_more, map-append, append-nil}
use Rattle.std.proofs.lemmas.Grind.{flat_map-append}
use Rattle.mig_base.specs.declared.circuit.Read.{Read}
use Rattle.mig_base.specs.declared.circuit.Literal.{Literal}
use Rattle.mig_base.specs.Values.{product_reads, sum_reads}
use Rattle.structure.specs.declared.sets.NodeSet.{NodeSet}
use Rattle.structure.specs.NodeSets.{with_node, with_nodes}

pub with_nodes-append : (s : NodeSet) (xs ys : List Read) → with_nodes s (xs ++ ys) ≡ with_nodes (with_nodes s xs) ys
with_nodes-append s [] ys = refl
with_nodes-append s (x ∷ xs) ys = with_nodes-append (with_node s x) xs ys

-- some nodes and then others
pub then-nodes : (s now next : NodeSet) (xs ys : List Read) → now ≡ with_nodes s xs → next ≡ with_nodes now ys → next ≡ with_nodes s (xs ++ ys)
then-nodes s now next xs ys first then = then ∙ ap (λ (t : NodeSet). with_nodes t ys) first ∙ sym (with_nodes-append s xs ys)

pub one-more_source : (s now next : NodeSet) (lits : List Literal) (i : ℕ) (d : Literal) → i < length lits → now ≡ with_nodes s (product_reads (take i lits)) →
    next ≡ with_node now (get_or lits i d).source → next ≡ with_nodes s (product_reads (take (i + 1) lits))
one-more_source s now next lits i d within first then =
    then-nodes s now next (product_reads (take i lits)) ((get_or lits i d).source ∷ []) first then
    ∙ ap (with_nodes s) (sym (ap product_reads (take_more lits i d within) ∙ map-append (λ (lit : Literal). lit.source) (take i lits) (get_or lits i d ∷ [])))

pub one-more_term : (s now next : NodeSet) (terms : List (List Literal)) (i : ℕ) (t : List Literal) → i < length terms → t ≡ get_or terms i t → now ≡ with_nodes s (sum_reads (take i terms)) →
    next ≡ with_nodes now (product_reads t) → next ≡ with_nodes s (sum_reads (take (i + 1) terms))
one-more_term s now next terms i t within is first then =
    then-nodes s now next (sum_reads (take i terms)) (product_reads t) first then
    ∙ ap (with_nodes s) (ap (λ (reads : List Read). sum_reads (take i terms) ++ reads) (sym (append-nil (product_reads t)))
    ∙ sym (ap sum_reads (take_more terms i t within ∙ ap (λ (last : List Literal). take i terms ++ last ∷ []) (sym is)) ∙ flat_map-append product_reads (take i terms) (t ∷ [])))
