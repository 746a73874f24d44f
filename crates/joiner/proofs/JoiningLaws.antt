-- The table of pairs along an order of evaluation.
use Rattle.std.proofs.Common.{◌≡◌, ◌≢◌, ◌⊎◌, ◌<◌, ℕ, Bool, true, false, not, ◌||◌, zero, suc, refl, sym, ◌∙◌, ap, subst, List, [], ◌∷◌, length, take, get_or, set, slice_get, map, Option, None, Some, IfSome, inl, inr, arith, Result, Ok, Err, IfOk, replicate, ◌++◌}
use Rattle.std.proofs.lemmas.Bool.{cases_eq, eq-eqb}
use Rattle.std.proofs.lemmas.List.{get_or-set_same, get_or-set_other, length-set}
use Rattle.std.proofs.lemmas.Option.{slice_get_within}
use Rattle.std.proofs.Math.Bool.{or-true, not-not}
use Rattle.bdd.specs.Tree.{Point}
use Rattle.bdd.specs.Diagram.{Diagram, function_of, Keeps}
use Rattle.bdd.specs.declared.Ref.{Ref}
use Rattle.mig_base.specs.Among.{Among}
use Rattle.mig_base.specs.declared.circuit.Circuit.{Circuit}
use Rattle.mig_base.specs.declared.circuit.Driver.{Driver}
use Rattle.mig_base.specs.declared.circuit.Read.{Read}
use Rattle.mig_base.specs.declared.circuit.Read.TheVariants.{OfNet, OfRegister}
use Rattle.mig_base.specs.declared.nets.Var.{Var}
use Rattle.mig_base.specs.declared.nets.Var.TheVariants.{Net, Reg}
use Rattle.mig_base.specs.declared.nets.VarLit.{VarLit}
use Rattle.mig_base.specs.declared.nets.VarProduct.{VarProduct}
use Rattle.mig_base.specs.declared.plans.Part.TheVariants.{Logic}
use Rattle.rails.specs.Variables.{all_rails, same_var}
use Rattle.rails.specs.Points.{mirror, inverse, IsMonotone, Is}
use Rattle.ranks.specs.Order.{IsOrder}
use Rattle.mig_base.specs.Reads.{IsNode}
use Rattle.mig_base.proofs.Amongs.{among-split, pass-all}
use Rattle.structure.specs.Absorbable.{is_plain, IsAbsorbable}
use Rattle.board.specs.Joined.{Joined, equations_of}
use Rattle.joiner.specs.declared.marks.Marks.{Marks}
use Rattle.joiner.specs.AbsorbedNets.{AreAbsorbable}
use Rattle.joiner.specs.Joined.{Reading, StandsIn, itself, through, IsAbsorbed, unit_part, terms_read, inverted_read}
use Rattle.joiner.proofs.PartReads.{net-read}
use Rattle.joiner.specs.JoinedPart.{ReadsVariables}
use Rattle.joiner.specs.Marked.{AreNeededNets, marked, unit_at}
use Rattle.joiner.specs.Pairs.{AreClosed, pair_at, pair_named, pair_by, is_pair, is_listed, is_known, lits_known, terms_known, IsProperPair, AreProper, ReadsPair, Reads, ReadsEither, AreReadings, opposite_reading, IsPairOf, IsNetPair, ReadsNets, ReadPairs, IsWithin, HasPairs}
use Rattle.joiner.specs.declared.pairs.Pair.{Pair}
use Rattle.joiner.proofs.Opposites.{terms_turned, inverted_turned}
use Rattle.joiner.proofs.MirroredLaws.{literal_mirrored}
use Rattle.joiner.proofs.PairLaws.{pairs_kept, reading_before, reading_after, reads_kept}
use Rattle.joiner.proofs.OrderLaws.{read_before, new_there}

-- a net gets its pair, and a register changes nothing
abbrev pub IsJoinedNode : Joined → List (Option ℕ) → List (Var × Bool) → Diagram → List (Option Pair) → List (Option Pair) → Read → Type 0
IsJoinedNode b nets vars d old new (OfNet n) = (o : Option Pair) × (new ≡ set old n o) × IsNetPair b nets vars d old n o
IsJoinedNode b nets vars d old new (OfRegister k) = new ≡ old

module _ (vars : List (Var × Bool)) (a b : Diagram) (pairs : List (Option Pair)) (k : Keeps a b) (proper : AreProper vars a pairs) (terms : List VarProduct) (plain : Ref) (sum : Reads vars a pairs (λ r. terms_read r true terms) plain) where
  -- a sum
  pub reads_plain : ReadsEither vars b pairs (λ r. terms_read r true terms) plain
  reads_plain = let kept = reads_kept vars a b pairs k proper (λ r. terms_read r true terms) plain sum in record { proper = kept.proper; means = λ p r h. kept.means p r h.here }

  -- and its inverse
  pub reads_inverse : (i : Ref) → Is b (inverse (all_rails vars) (function_of a plain)) i → IsMonotone (all_rails vars) (function_of b i) → ReadsEither vars b pairs (λ r. terms_read r false terms) i
  reads_inverse i is m = record {
    proper = record { valid = is.valid; monotone = m };
    means = λ p r h.
        is.means p
        ∙ ap not (sum.means (mirror (all_rails vars) p) (opposite_reading r) (reading_before vars a b pairs k proper (mirror (all_rails vars) p) (opposite_reading r) h.mirrored) ∙ terms_turned r true terms)
        ∙ not-not (terms_read r false terms);
  }

-- an inverse that may have failed
pub inverse_ok : {E : Type 0} (vars vs : List (Var × Bool)) (a b : Diagram) (pairs : List (Option Pair)) (terms : List VarProduct) (plain : Ref) (o : Result Ref E) → vs ≡ vars
    → Keeps a b → AreProper vars a pairs → Reads vars a pairs (λ r. terms_read r true terms) plain
    → IfOk o (Is b (inverse (all_rails vs) (function_of a plain))) → IfOk o (λ i. IsMonotone (all_rails vs) (function_of b i))
    → IfOk o (ReadsEither vars b pairs (λ r. terms_read r false terms))
inverse_ok vars vs a b pairs terms plain (Ok i) e k proper sum is m =
    reads_inverse vars a b pairs k proper terms plain sum i
    (subst (λ (ws : List (Var × Bool)). Is b (inverse (all_rails ws) (function_of a plain)) i) e is)
    (subst (λ (ws : List (Var × Bool)). IsMonotone (all_rails ws) (function_of b i)) e m)
inverse_ok vars vs a b pairs terms plain (Err x) e k proper sum is m = tt

pub inverted_ok : {E : Type 0} (vars : List (Var × Bool)) (b : Diagram) (pairs : List (Option Pair)) (terms : List VarProduct) (low : Bool) (o : Result Ref E) → low ≡ true
    → IfOk o (ReadsEither vars b pairs (λ r. terms_read r false terms)) → IfOk o (ReadsEither vars b pairs (λ r. inverted_read r true (record { terms = terms; low = low })))
inverted_ok vars b pairs terms true o e h = h
inverted_ok vars b pairs terms false o e h = cc

pub pair_either : (vars : List (Var × Bool)) (b : Diagram) (pairs : List (Option Pair)) (terms : List VarProduct) (low : Bool) (plain i : Ref)
    → ReadsEither vars b pairs (λ r. terms_read r true terms) plain → ReadsEither vars b pairs (λ r. terms_read r false terms) i
    → IsPairOf vars b pairs (record { terms = terms; low = low }) (pair_by low plain i)
pair_either vars b pairs terms true plain i p q true = q
pair_either vars b pairs terms true plain i p q false = p
pair_either vars b pairs terms false plain i p q true = p
pair_either vars b pairs terms false plain i p q false = q

-- a listed variable passes
pub among_listed : (vs : List (Var × Bool)) (v : Var) → Among v (map (λ (w : Var × Bool). w.0) vs) → is_listed vs v ≡ true
among_listed [] v a = absurd a
among_listed (w ∷ ws) v (inl e) = ap (λ c. c || is_listed ws v) (same_self w.0 v e)
  where
    self : (v : Var) → same_var v v ≡ true
    self (Net n) = eq-eqb n n refl
    self (Reg k) = eq-eqb k k refl

    same_self : (x v : Var) → v ≡ x → same_var x v ≡ true
    same_self x v e = subst (λ y. same_var x y ≡ true) (sym e) (self x)
among_listed (w ∷ ws) v (inr a) = ap (λ c. same_var w.0 v || c) (among_listed ws v a) ∙ or-true (same_var w.0 v)

pub name_among : (w : Var × Bool) (vs : List (Var × Bool)) → Among w vs → Among w.0 (map (λ (x : Var × Bool). x.0) vs)
name_among w [] a = absurd a
name_among w (x ∷ xs) (inl e) = inl (ap (λ (y : Var × Bool). y.0) e)
name_among w (x ∷ xs) (inr a) = inr (name_among w xs a)

-- at the mirrored point the opposite is read
variables_turned : (vars : List (Var × Bool)) (p : Point) (r : Reading) → ReadsVariables vars p r → ReadsVariables vars (mirror (all_rails vars) p) (opposite_reading r)
variables_turned vars p r h = record {
  each = λ w a side. ap not (h.each w a (not side)) ∙ sym (literal_mirrored vars (record { var = w.0; high = side }) p (among_listed vars w.0 (name_among w vars a)));
}

nets_turned : (b : Joined) (nets : List (Option ℕ)) (r : Reading) → ReadsNets b nets r → ReadsNets b nets (opposite_reading r)
nets_turned b nets r h = λ n u e side. ap not (h n u e (not side)) ∙ sym (inverted_turned r side (unit_part b u Logic))

pub readings_either : (b : Joined) (nets : List (Option ℕ)) (vars : List (Var × Bool)) (d : Diagram) (pairs : List (Option Pair)) → ReadPairs b nets vars d pairs
    → (p : Point) (r : Reading) → ReadsVariables vars p r → ReadsNets b nets r → AreReadings vars d pairs p r
readings_either b nets vars d pairs right p r v h = record {
  here = right p r v h;
  mirrored = right (mirror (all_rails vars) p) (opposite_reading r) (variables_turned vars p r v) (nets_turned b nets r h);
}

pub pairs_read_kept : (b : Joined) (nets : List (Option ℕ)) (vars : List (Var × Bool)) (d e : Diagram) (pairs : List (Option Pair)) → Keeps d e → AreProper vars d pairs
    → ReadPairs b nets vars d pairs → ReadPairs b nets vars e pairs
pairs_read_kept b nets vars d e pairs k proper right = λ p r v h. reading_after vars d e pairs k proper p r (right p r v h)

-- what holds of a table with one entry put, by place
put_holds : (P : ℕ → Pair → Type 0) (pairs : List (Option Pair)) (n : ℕ) (o : Option Pair) → n < length pairs → IfSome o (P n) → ((m : ℕ) → IfSome (pair_at pairs m) (P m))
    → (m : ℕ) → IfSome (pair_at (set pairs n o) m) (P m)
put_holds P pairs n o l here rest m = by (cases_eq n m)
  where
    by : (n ≡ m) ⊎ (n ≢ m) → IfSome (pair_at (set pairs n o) m) (P m)
    by (inl e) = subst (λ j. IfSome (pair_at (set pairs n o) j) (P j)) e (subst (λ q. IfSome q (P n)) (sym (get_or-set_same pairs n o None l)) here)
    by (inr ne) = subst (λ q. IfSome q (P m)) (sym (get_or-set_other pairs n m o None (λ e. ne (sym e)))) (rest m)

module _ (b : Joined) (nets : List (Option ℕ)) (vars : List (Var × Bool)) (d e : Diagram) (old new : List (Option Pair)) (k : Keeps d e) where
  proper_of : (n : ℕ) (o : Option Pair) → IsNetPair b nets vars e old n o → IfSome o (IsProperPair vars e)
  proper_of n None h = tt
  proper_of n (Some q) h = λ side. (h.2 side).proper

  pub proper_more : (v : Read) → IsNode (equations_of b) v → length old ≡ length (equations_of b).nets → IsJoinedNode b nets vars e old new v → AreProper vars d old → AreProper vars e new
  proper_more (OfRegister j) is count same proper = subst (AreProper vars e) (sym same) (pairs_kept vars d e old k proper)
  proper_more (OfNet n) is count (o, same, pair) proper =
      subst (AreProper vars e) (sym same)
      (record { each = put_holds (λ m. IsProperPair vars e) old n o (omega (arith, count, is)) (proper_of n o pair) (pairs_kept vars d e old k proper).each })

  pair_read : (n : ℕ) (o : Option Pair) → IsNetPair b nets vars e old n o → (p : Point) (r : Reading) → AreReadings vars e old p r → ReadsNets b nets r → IfSome o (ReadsPair e p r n)
  pair_read n None h p r is right = tt
  pair_read n (Some q) (u, at, pair) p r is right = λ side. right n u at side ∙ sym ((pair side).means p r is)

  pub read_more : (v : Read) → IsNode (equations_of b) v → length old ≡ length (equations_of b).nets → IsJoinedNode b nets vars e old new v → AreProper vars d old
      → ReadPairs b nets vars d old → ReadPairs b nets vars e new
  read_more (OfRegister j) is count same proper right = subst (ReadPairs b nets vars e) (sym same) (pairs_read_kept b nets vars d e old k proper right)
  read_more (OfNet n) is count (o, same, pair) proper right =
      subst (ReadPairs b nets vars e) (sym same)
      (λ p r v h.
      let are = readings_either b nets vars e old (pairs_read_kept b nets vars d e old k proper right) p r v h in
      record { variables = v; nets = put_holds (ReadsPair e p r) old n o (omega (arith, count, is)) (pair_read n o pair p r are h) are.here.nets })

-- the table tells whether an absorbed unit drives a marked net
decided-marked : (b : Joined) (absorbed : List ℕ) (m : Marks) (nets : List (Option ℕ)) → AreNeededNets b absorbed m nets → (n : ℕ) → marked m (Net n) ≡ true
    → ((u : ℕ) × IsAbsorbed b absorbed n u) ⊎ ((u : ℕ) → IsAbsorbed b absorbed n u → ⊥)
decided-marked b absorbed m nets are n mark = by (unit_at nets n) refl
  where
    by : (o : Option ℕ) → unit_at nets n ≡ o → ((u : ℕ) × IsAbsorbed b absorbed n u) ⊎ ((u : ℕ) → IsAbsorbed b absorbed n u → ⊥)
    by None e = inr (λ u a. let f : None ≡ Some u = sym e ∙ are.every n u a mark in cc)
    by (Some u) e = inl (u, are.sound n u e)

-- all variables of these products are marked
abbrev pub HasMarked : Marks → List VarProduct → Type 0
HasMarked m terms = (x : VarLit) → StandsIn x terms → marked m x.var ≡ true

module _ (b : Joined) (absorbed : List ℕ) (marks : Marks) (nets : List (Option ℕ)) (vars : List (Var × Bool)) (pairs : List (Option Pair)) (are : AreNeededNets b absorbed marks nets) where
  -- the nets that stand in these products have their pairs
  abbrev pub HasRead : List VarProduct → Type 0
  HasRead terms = (x : VarLit) (m w : ℕ) → StandsIn x terms → x.var ≡ Net m → IsAbsorbed b absorbed m w → IsWithin b absorbed vars (unit_part b w Logic).terms → is_pair (pair_at pairs m) ≡ true

  literal_known : (terms : List VarProduct) → HasMarked marks terms → IsWithin b absorbed vars terms → HasRead terms → (x : VarLit) → StandsIn x terms → is_known vars pairs x.var ≡ true
  literal_known terms there within has x s = by x.var refl
    where
      listed : ((n u : ℕ) → x.var ≡ Net n → IsAbsorbed b absorbed n u → ⊥) → is_known vars pairs x.var ≡ true
      listed free = ap (λ c. is_pair (pair_named pairs x.var) || c) (within x.var (itself x s refl free)) ∙ or-true (is_pair (pair_named pairs x.var))

      of_net : (m : ℕ) → x.var ≡ Net m → ((u : ℕ) × IsAbsorbed b absorbed m u) ⊎ ((u : ℕ) → IsAbsorbed b absorbed m u → ⊥) → is_known vars pairs x.var ≡ true
      of_net m e (inl (u, a)) =
          subst (λ v. is_known vars pairs v ≡ true) (sym e)
          (ap (λ c. c || is_listed vars (Net m)) (has x m u s e a (λ v names. within v (through x s m u e a names))))
      of_net m e (inr none) = listed (λ n u f a. none u (subst (λ j. IsAbsorbed b absorbed j u) (number n m (sym f ∙ e)) a))
        where
          number : (i j : ℕ) → Net i ≡ Net j → i ≡ j
          number i j e = cc

      by : (v : Var) → x.var ≡ v → is_known vars pairs x.var ≡ true
      by (Net m) e = of_net m e (decided-marked b absorbed marks nets are m (subst (λ (v : Var). marked marks v ≡ true) e (there x s)))
      by (Reg u) e = listed (λ n w f a. let wrong : Reg u ≡ Net n = sym e ∙ f in cc)

  pub all_known : (terms : List VarProduct) → HasMarked marks terms → IsWithin b absorbed vars terms → HasRead terms → terms_known vars pairs terms ≡ true
  all_known terms there within has =
      pass-all (λ (t : VarProduct). lits_known vars pairs t.lits) terms
      (λ t a. pass-all (λ (x : VarLit). is_known vars pairs x.var) t.lits (λ x m. literal_known terms there within has x (record { product = t; among = a; within = m })))

-- the pairs of the marked nets that an order has had so far
abbrev pub HasPairsOf : Joined → List ℕ → Marks → List (Var × Bool) → List (Option Pair) → List Read → Type 0
HasPairsOf b absorbed marks vars pairs before =
    (n u : ℕ) → Among (OfNet n) before → marked marks (Net n) ≡ true → IsAbsorbed b absorbed n u → IsWithin b absorbed vars (unit_part b u Logic).terms → is_pair (pair_at pairs n) ≡ true

module _ (b : Joined) (absorbed : List ℕ) (marks : Marks) (nets : List (Option ℕ)) (vars : List (Var × Bool)) (e : Diagram) (old new : List (Option Pair)) (order : List Read) (i : ℕ) (may : AreAbsorbable b absorbed) (are : AreNeededNets b absorbed marks nets) (closed : AreClosed b absorbed marks) (is : IsOrder (equations_of b) order) where
  known_here : (n u : ℕ) → slice_get order i ≡ Some (OfNet n) → marked marks (Net n) ≡ true → IsAbsorbed b absorbed n u → IsWithin b absorbed vars (unit_part b u Logic).terms → HasPairsOf b absorbed marks vars old (take i order)
      → terms_known vars old (unit_part b u Logic).terms ≡ true
  known_here n u at mark a within has =
      all_known b absorbed marks nets vars old are (unit_part b u Logic).terms (closed n u a mark) within
      (λ x m w s f am inner. has m w (before (OfNet m) (read_before (equations_of b) [] order i (OfNet n) (OfNet m) is.behind at (net-read b absorbed n u m x may a s f) (omega (arith, slice_get_within (equations_of b).nets m am.wire am.on)))) (subst (λ (v : Var). marked marks v ≡ true) f (closed n u a mark x s)) am inner)
    where
      before : (w : Read) → Among w [] ⊎ Among w (take i order) → Among w (take i order)
      before w (inl h) = absurd h
      before w (inr h) = h

  has_here : (n u : ℕ) (o : Option Pair) → IsNetPair b nets vars e old n o → marked marks (Net n) ≡ true → IsAbsorbed b absorbed n u → terms_known vars old (unit_part b u Logic).terms ≡ true → is_pair o ≡ true
  has_here n u (Some q) h mark a known = refl
  has_here n u None h mark a known = let f = subst (λ q. IfSome q (λ w. terms_known vars old (unit_part b w Logic).terms ≡ false)) (are.every n u a mark) h in let wrong : true ≡ false = sym known ∙ f in cc

  -- with one more node of the order the table has its pair
  at_net : (m : ℕ) (o : Option Pair) → slice_get order i ≡ Some (OfNet m) → m < length old → IsNetPair b nets vars e old m o → HasPairsOf b absorbed marks vars old (take i order)
      → HasPairsOf b absorbed marks vars (set old m o) (take i order ++ OfNet m ∷ [])
  at_net m o at l pair has n u am mark a within = by (among-split (OfNet n) (take i order) (OfNet m ∷ []) am)
    where
      number : (i j : ℕ) → OfNet i ≡ OfNet j → i ≡ j
      number i j e = cc

      here : (k : ℕ) → k ≡ m → marked marks (Net k) ≡ true → IsAbsorbed b absorbed k u → IsWithin b absorbed vars (unit_part b u Logic).terms → is_pair (pair_at (set old m o) k) ≡ true
      here k same mark a within =
          subst (λ j. is_pair (pair_at (set old m o) j) ≡ true) (sym same)
          (ap is_pair (get_or-set_same old m o None l)
          ∙ has_here m u o pair (subst (λ (j : ℕ). marked marks (Net j) ≡ true) same mark) (subst (λ j. IsAbsorbed b absorbed j u) same a) (known_here m u at (subst (λ (j : ℕ). marked marks (Net j) ≡ true) same mark) (subst (λ j. IsAbsorbed b absorbed j u) same a) within has))

      there : Among (OfNet n) (take i order) → is_pair (pair_at (set old m o) n) ≡ true
      there h =
          ap is_pair (get_or-set_other old m n o None (λ same. new_there (equations_of b) [] order i (OfNet m) is.behind at (inr (subst (λ j. Among (OfNet j) (take i order)) same h))))
          ∙ has n u h mark a within

      by : Among (OfNet n) (take i order) ⊎ Among (OfNet n) (OfNet m ∷ []) → is_pair (pair_at (set old m o) n) ≡ true
      by (inl h) = there h
      by (inr (inl same)) = here n (number n m same) mark a within
      by (inr (inr none)) = absurd none

  pub has_more : (v : Read) → slice_get order i ≡ Some v → IsNode (equations_of b) v → length old ≡ length (equations_of b).nets → IsJoinedNode b nets vars e old new v
      → HasPairsOf b absorbed marks vars old (take i order) → HasPairsOf b absorbed marks vars new (take i order ++ v ∷ [])
  has_more (OfRegister j) at node count same has = λ n u am mark a within.
      subst (λ ps. is_pair (pair_at ps n) ≡ true) (sym same) (has n u (by n (among-split (OfNet n) (take i order) (OfRegister j ∷ []) am)) mark a within)
    where
      by : (n : ℕ) → Among (OfNet n) (take i order) ⊎ Among (OfNet n) (OfRegister j ∷ []) → Among (OfNet n) (take i order)
      by n (inl h) = h
      by n (inr (inl e)) = cc
      by n (inr (inr none)) = absurd none
  has_more (OfNet m) at node count (o, same, pair) has =
      subst (λ ps. HasPairsOf b absorbed marks vars ps (take i order ++ OfNet m ∷ [])) (sym same) (at_net m o at (omega (arith, count, node)) pair has)

-- what a whole order has
pub has_all : (b : Joined) (absorbed : List ℕ) (marks : Marks) (vars : List (Var × Bool)) (pairs : List (Option Pair)) (order : List Read) → IsOrder (equations_of b) order
    → HasPairsOf b absorbed marks vars pairs order → HasPairs b absorbed marks vars pairs
has_all b absorbed marks vars pairs order is has n u mark a within =
    has n u (is.every (OfNet n) (omega (arith, slice_get_within (equations_of b).nets n a.wire a.on))) mark a within

pub count_more : (b : Joined) (nets : List (Option ℕ)) (vars : List (Var × Bool)) (e : Diagram) (old new : List (Option Pair)) (v : Read) → IsJoinedNode b nets vars e old new v → length new ≡ length old
count_more b nets vars e old new (OfRegister j) same = ap length same
count_more b nets vars e old new (OfNet n) (o, same, pair) = ap length same ∙ length-set old n o

-- a table without pairs
abbrev no_pair : Option Pair
no_pair = None

none_at : (n m : ℕ) → get_or (replicate n no_pair) m no_pair ≡ no_pair
none_at zero m = refl
none_at (suc n) zero = refl
none_at (suc n) (suc m) = none_at n m

pub none_holds : (P : ℕ → Pair → Type 0) (pairs : List (Option Pair)) (n : ℕ) → pairs ≡ replicate n no_pair → (m : ℕ) → IfSome (pair_at pairs m) (P m)
none_holds P pairs n e m = subst (λ ps. IfSome (pair_at ps m) (P m)) (sym e) (subst (λ o. IfSome o (P m)) (sym (none_at n m)) tt)

-- a node at a place of a list
pub item_among : (d : Read) (xs : List Read) (i : ℕ) → i < length xs → Among (get_or xs i d) xs
item_among d [] i l = absurd (omega arith)
item_among d (x ∷ xs) zero l = inl refl
item_among d (x ∷ xs) (suc i) l = inr (item_among d xs i (omega arith))

-- an absorbable unit is one of the board
pub absorbable_unit : (c : Circuit) (u : ℕ) → IsAbsorbable c u → u < length c.units
absorbable_unit c u a = by (slice_get c.units u) refl a.1.plain
  where
    by : (o : Option Driver) → slice_get c.units u ≡ o → is_plain o ≡ true → u < length c.units
    by None e h = cc
    by (Some d) e h = omega (arith, slice_get_within c.units u d e)
