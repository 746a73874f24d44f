-- The listed variables are the cone.
use Rattle.std.proofs.Common.{ℕ, ◌≡◌, ◌↔◌, ◌⊎◌, ◌+◌, Bool, true, false, ◌&&◌, List, [], ◌∷◌, ◌++◌, map, filter, take, Option, Some, None, refl, sym, ap, ◌∙◌, subst, inl, inr}
use Rattle.std.proofs.lemmas.Bool.{and_parts}
use Rattle.std.proofs.lemmas.List.{map-append}
use Rattle.mig_base.specs.Among.{Among}
use Rattle.mig_base.specs.declared.nets.Var.{Var}
use Rattle.mig_base.specs.declared.nets.Var.TheVariants.{Net, Reg}
use Rattle.mig_base.specs.declared.nets.VarProduct.{VarProduct}
use Rattle.mig_base.proofs.Amongs.{among-filter, filter-among}
use Rattle.structure.specs.Pure.{IsPure}
use Rattle.structure.proofs.NeededNodes.{among-last}
use Rattle.board.specs.Joined.{Joined, equations_of}
use Rattle.board.specs.Variables.{IsVariable, read_of}
use Rattle.joiner.specs.declared.marks.Marks.{Marks}
use Rattle.joiner.specs.AbsorbedNets.{AreAbsorbedNets}
use Rattle.joiner.specs.Joined.{IsAbsorbed, IsCone, Names}
use Rattle.joiner.specs.Marked.{AreNameMarks, all_vars, ArePaired, is_left, is_named, is_none, marked, unit_at}
use Rattle.joiner.proofs.Listing.{Rises, among-variable, pairs-rise, rises-filter, variable-among, variables-rise}
use Rattle.joiner.proofs.Passing.{at-entry, entry-at, named-left}

left-free : (b : Joined) (absorbed : List ℕ) (nets : List (Option ℕ)) (v : Var) → AreAbsorbedNets b absorbed nets → is_left nets v ≡ true → (n u : ℕ) → v ≡ Net n → IsAbsorbed b absorbed n u → ⊥
left-free b absorbed nets v are left n u e is =
    let here : unit_at nets n ≡ Some u = at-entry nets n u ((are.each n u).1 is) in
    let net : is_none (unit_at nets n) ≡ true = subst (λ (w : Var). is_left nets w ≡ true) e left in
    let wrong : is_none (Some u) ≡ true = sym (ap is_none here) ∙ net in
    cc

free-left : (b : Joined) (absorbed : List ℕ) (nets : List (Option ℕ)) (v : Var) → AreAbsorbedNets b absorbed nets → ((n u : ℕ) → v ≡ Net n → IsAbsorbed b absorbed n u → ⊥) → is_left nets v ≡ true
free-left b absorbed nets (Reg u) are none = refl
free-left b absorbed nets (Net n) are none = at (unit_at nets n) refl
  where
    at : (o : Option ℕ) → unit_at nets n ≡ o → is_none o ≡ true
    at None e = refl
    at (Some u) e = absurd (none n u refl ((are.each n u).0 (entry-at nets n u e)))

both-true : (p q : Bool) → p ≡ true → q ≡ true → (p && q) ≡ true
both-true true true e f = refl
both-true true false e f = f
both-true false q e f = e

-- the variables that are listed are those of the board
pub listed-variable : (b : Joined) (nets : List (Option ℕ)) (m : Marks) (vs : List Var) → vs ≡ filter (is_named nets m) (all_vars b) → (v : Var) → Among v vs → IsVariable b v
listed-variable b nets m vs is v a = among-variable b v (among-filter (is_named nets m) v (all_vars b) (subst (Among v) is a)).1

pub marks-cone : (b : Joined) (absorbed : List ℕ) (nets : List (Option ℕ)) (terms : List VarProduct) (m : Marks) (cone : List (Var × Bool)) → AreAbsorbedNets b absorbed nets → AreNameMarks b absorbed terms m →
    ArePaired b (filter (is_named nets m) (all_vars b)) cone → IsCone b absorbed terms cone
marks-cone b absorbed nets terms m cone are named paired = record {
  rising = pairs-rise cone (subst Rises (sym is) (rises-filter (is_named nets m) (all_vars b) (variables-rise b)));
  exact = λ v. (there v, back v);
  pure = paired.pure;
}
  where
    is : map (λ (w : Var × Bool). w.0) cone ≡ filter (is_named nets m) (all_vars b)
    is = paired.variables

    there : (v : Var) → Among v (map (λ (w : Var × Bool). w.0) cone) → Names b absorbed v terms
    there v a =
        let parts = and_parts (marked m v) (is_left nets v) (among-filter (is_named nets m) v (all_vars b) (subst (Among v) is a)).0 in
        named.sound v parts.0 (left-free b absorbed nets v are parts.1)

    back : (v : Var) → Names b absorbed v terms → Among v (map (λ (w : Var × Bool). w.0) cone)
    back v names =
        let mark = named.every v names in
        let left = free-left b absorbed nets v are (named-left b absorbed v terms names) in
        subst (Among v) (sym is) (filter-among (is_named nets m) v (all_vars b) (both-true (marked m v) (is_left nets v) mark left) (variable-among b v (named.variable v mark)))

-- one more pair
pub paired-more : (b : Joined) (vs : List Var) (i : ℕ) (v : Var) (pure : Bool) (pairs new : List (Var × Bool)) → ArePaired b (take i vs) pairs → take (i + 1) vs ≡ take i vs ++ v ∷ [] →
    new ≡ pairs ++ (v, pure) ∷ [] → (pure ≡ true → IsPure (equations_of b) (read_of b.chips v)) → (IsPure (equations_of b) (read_of b.chips v) → pure ≡ true) → ArePaired b (take (i + 1) vs) new
paired-more b vs i v pure pairs new are more is when_pure if_pure = subst (ArePaired b (take (i + 1) vs)) (sym is) (record {
  variables = map-append first pairs ((v, pure) ∷ []) ∙ ap (λ (ws : List Var). ws ++ v ∷ []) are.variables ∙ sym more;
  pure = λ w a. at w (among-last w (v, pure) pairs a);
})
  where
    first : Var × Bool → Var
    first w = w.0

    at : (w : Var × Bool) → Among w pairs ⊎ (w ≡ (v, pure)) → (w.1 ≡ true) ↔ IsPure (equations_of b) (read_of b.chips w.0)
    at w (inl a) = are.pure w a
    at w (inr e) = subst (λ (x : Var × Bool). (x.1 ≡ true) ↔ IsPure (equations_of b) (read_of b.chips x.0)) (sym e) (when_pure, if_pure)
