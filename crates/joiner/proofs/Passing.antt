-- The pass from the last node to the first: what is marked at its end.
use Rattle.std.proofs.Common.{ℕ, zero, suc, ◌≡◌, ◌⊎◌, ◌<◌, Bool, true, false, List, [], ◌∷◌, length, Option, Some, None, refl, sym, ap, ◌∙◌, subst, inl, inr, arith}
use Rattle.std.specs.Prelude.{slice_get, if◌then◌else◌}
use Rattle.std.proofs.lemmas.List.{length-map}
use Rattle.std.proofs.lemmas.Option.{slice_get_within, same_Some}
use Rattle.mig_base.specs.Among.{Among}
use Rattle.mig_base.specs.Boards.{ChipUnit, driver_of, units_from}
use Rattle.mig_base.specs.Reads.{node_reads}
use Rattle.mig_base.specs.declared.circuit.Circuit.{Circuit}
use Rattle.mig_base.specs.declared.circuit.Read.{Read}
use Rattle.mig_base.specs.declared.circuit.Read.TheVariants.{OfNet, OfRegister}
use Rattle.mig_base.specs.declared.nets.Var.{Var}
use Rattle.mig_base.specs.declared.nets.Var.TheVariants.{Net, Reg}
use Rattle.mig_base.specs.declared.nets.VarLit.{VarLit}
use Rattle.mig_base.specs.declared.nets.VarProduct.{VarProduct}
use Rattle.mig_base.specs.declared.plans.Part.TheVariants.{Logic}
use Rattle.ranks.specs.Order.{GoesOn, IsOrder}
use Rattle.mig_base.specs.Reads.{IsNode}
use Rattle.mig_base.proofs.Amongs.{among-all}
use Rattle.mig_base.proofs.ReadLaws.{same-net}
use Rattle.board.specs.Joined.{Joined, equations_of}
use Rattle.board.specs.UnitLists.{has_register}
use Rattle.board.specs.Variables.{IsVariable}
use Rattle.joiner.specs.declared.marks.Marks.{Marks}
use Rattle.joiner.specs.AbsorbedNets.{AreAbsorbedNets, AreAbsorbable, AreOver}
use Rattle.joiner.specs.Joined.{IsAbsorbed, StandsIn, Names, itself, through, unit_part}
use Rattle.joiner.specs.Marked.{AreNameMarks, marked, no_marks, with_vars, vars_in, unit_at, terms_behind, after_net}
use Rattle.joiner.proofs.Marking.{HasSize, IsWithin, size-none, size-vars, none-marked, vars-kept, vars-raised, vars-there, among-vars, vars-among}
use Rattle.joiner.proofs.PartReads.{part-over, net-read}

abbrev pub after_node : Joined → List (Option ℕ) → Marks → Read → Marks
after_node b nets m (OfNet n) = after_net b nets m n
after_node b nets m (OfRegister k) = m

-- node by node, from the last one on
abbrev pub after_nodes : Joined → List (Option ℕ) → Marks → List Read → Marks
after_nodes b nets m [] = m
after_nodes b nets m (v ∷ vs) = after_node b nets (after_nodes b nets m vs) v

-- the entry of a net
pub entry-at : (nets : List (Option ℕ)) (n u : ℕ) → unit_at nets n ≡ Some u → slice_get nets n ≡ Some (Some u)
entry-at [] n u e = cc
entry-at (o ∷ os) zero u e = ap Some e
entry-at (o ∷ os) (suc n) u e = entry-at os n u e

pub at-entry : (nets : List (Option ℕ)) (n u : ℕ) → slice_get nets n ≡ Some (Some u) → unit_at nets n ≡ Some u
at-entry [] n u e = cc
at-entry (o ∷ os) zero u e = same_Some o (Some u) e
at-entry (o ∷ os) (suc n) u e = at-entry os n u e

-- naming v names w
abbrev pub LeadsTo : Joined → List ℕ → Var → Var → Type 0
LeadsTo b absorbed w v =
    ((v ≡ w) × ((n u : ℕ) → w ≡ Net n → IsAbsorbed b absorbed n u → ⊥))
    ⊎ ((n : ℕ) × (u : ℕ) × (v ≡ Net n) × IsAbsorbed b absorbed n u × Names b absorbed w (unit_part b u Logic).terms)

leads-named : (b : Joined) (absorbed : List ℕ) (w : Var) (terms : List VarProduct) (x : VarLit) → StandsIn x terms → LeadsTo b absorbed w x.var → Names b absorbed w terms
leads-named b absorbed w terms x s (inl h) = itself x s h.0 h.1
leads-named b absorbed w terms x s (inr h) = through x s h.0 h.1 h.2 h.3 h.4

-- marks of variables that lead to named ones alone
pub record AreReached (b : Joined) (absorbed : List ℕ) (terms : List VarProduct) (m : Marks) : Type 0 where
  pub size : HasSize (length (equations_of b).nets) (length (equations_of b).units) m
  pub variable : (v : Var) → marked m v ≡ true → IsVariable b v
  pub leads : (v : Var) → marked m v ≡ true → (w : Var) → LeadsTo b absorbed w v → Names b absorbed w terms

reached-first : (b : Joined) (absorbed : List ℕ) (terms : List VarProduct) (m : Marks) → AreOver b terms →
    m ≡ with_vars (no_marks (length (equations_of b).nets) (length (equations_of b).units)) (vars_in terms) → AreReached b absorbed terms m
reached-first b absorbed terms m over is = subst (AreReached b absorbed terms) (sym is) (record {
  size = size-vars nets units (no_marks nets units) (vars_in terms) (size-none nets units);
  variable = λ v e. let x = found v e in subst (IsVariable b) x.2 (over x.0 x.1);
  leads = λ v e w leads. let x = found v e in leads-named b absorbed w terms x.0 x.1 (subst (LeadsTo b absorbed w) (sym x.2) leads);
})
  where
    nets : ℕ
    nets = length (equations_of b).nets

    units : ℕ
    units = length (equations_of b).units

    found : (v : Var) → marked (with_vars (no_marks nets units) (vars_in terms)) v ≡ true → (x : VarLit) × StandsIn x terms × (x.var ≡ v)
    found v e = at (vars-raised (no_marks nets units) (vars_in terms) v e)
      where
        at : (marked (no_marks nets units) v ≡ true) ⊎ Among v (vars_in terms) → (x : VarLit) × StandsIn x terms × (x.var ≡ v)
        at (inl h) = absurd (none-marked nets units v h)
        at (inr a) = among-vars v terms a

-- what an absorbed net that is marked marks besides
reached-behind : (b : Joined) (absorbed : List ℕ) (terms : List VarProduct) (m : Marks) (n u : ℕ) → IsAbsorbed b absorbed n u → marked m (Net n) ≡ true → AreReached b absorbed terms m →
    AreReached b absorbed terms (with_vars m (vars_in (unit_part b u Logic).terms))
reached-behind b absorbed terms m n u is mark reached = record {
  size = size-vars (length (equations_of b).nets) (length (equations_of b).units) m (vars_in behind) reached.size;
  variable = λ v e. variable v (vars-raised m (vars_in behind) v e);
  leads = λ v e. leads v (vars-raised m (vars_in behind) v e);
}
  where
    behind : List VarProduct
    behind = (unit_part b u Logic).terms

    variable : (v : Var) → (marked m v ≡ true) ⊎ Among v (vars_in behind) → IsVariable b v
    variable v (inl h) = reached.variable v h
    variable v (inr a) = let x = among-vars v behind a in subst (IsVariable b) x.2 (part-over b u Logic x.0 x.1)

    leads : (v : Var) → (marked m v ≡ true) ⊎ Among v (vars_in behind) → (w : Var) → LeadsTo b absorbed w v → Names b absorbed w terms
    leads v (inl h) w l = reached.leads v h w l
    leads v (inr a) w l =
        let x = among-vars v behind a in
        let names = leads-named b absorbed w behind x.0 x.1 (subst (LeadsTo b absorbed w) (sym x.2) l) in
        reached.leads (Net n) mark w (inr (n, u, refl, is, names))

reached-net : (b : Joined) (absorbed : List ℕ) (nets : List (Option ℕ)) (terms : List VarProduct) (m : Marks) (n : ℕ) → AreAbsorbedNets b absorbed nets → AreReached b absorbed terms m →
    AreReached b absorbed terms (after_net b nets m n)
reached-net b absorbed nets terms m n are reached = at (marked m (Net n)) refl
  where
    by : (o : Option ℕ) → unit_at nets n ≡ o → marked m (Net n) ≡ true → AreReached b absorbed terms (with_vars m (vars_in (terms_behind b o)))
    by None is mark = reached
    by (Some u) is mark = reached-behind b absorbed terms m n u ((are.each n u).0 (entry-at nets n u is)) mark reached

    at : (q : Bool) → marked m (Net n) ≡ q → AreReached b absorbed terms (if q then with_vars m (vars_in (terms_behind b (unit_at nets n))) else m)
    at true mark = by (unit_at nets n) refl mark
    at false mark = reached

reached-node : (b : Joined) (absorbed : List ℕ) (nets : List (Option ℕ)) (terms : List VarProduct) (m : Marks) (v : Read) → AreAbsorbedNets b absorbed nets → AreReached b absorbed terms m →
    AreReached b absorbed terms (after_node b nets m v)
reached-node b absorbed nets terms m (OfNet n) are reached = reached-net b absorbed nets terms m n are reached
reached-node b absorbed nets terms m (OfRegister k) are reached = reached

-- the absorbed ones of these nets that are marked have marked all that their units name
abbrev pub AreClosed : Joined → List ℕ → Marks → List Read → Type 0
AreClosed b absorbed m vs = (n u : ℕ) → Among (OfNet n) vs → IsAbsorbed b absorbed n u → marked m (Net n) ≡ true → (x : VarLit) → StandsIn x (unit_part b u Logic).terms → marked m x.var ≡ true

goes-apart : (c : Circuit) (before vs : List Read) (x : Read) → GoesOn c before vs → Among x vs → Among x before → ⊥
goes-apart c before [] x g a b = a
goes-apart c before (v ∷ vs) x g (inl e) b = g.0 (subst (λ (y : Read). Among y before) e b)
goes-apart c before (v ∷ vs) x g (inr a) b = goes-apart c (v ∷ before) vs x g.2 a (inr b)

register-within : (xs : List ChipUnit) (u : ℕ) → has_register (slice_get xs u) ≡ true → u < length xs
register-within [] u e = cc
register-within (x ∷ xs) zero e = omega arith
register-within (x ∷ xs) (suc u) e = let h : u < length xs = register-within xs u e in omega arith

within-marks : (b : Joined) (v : Var) → IsVariable b v → IsWithin (length (equations_of b).nets) (length (equations_of b).units) v
within-marks b (Net n) h = h
within-marks b (Reg u) h =
    let within : u < length (units_from 0 b.chips) = register-within (units_from 0 b.chips) u h in
    let long : length (equations_of b).units ≡ length (units_from 0 b.chips) = length-map (units_from 0 b.chips) (driver_of b.net (units_from 0 b.chips)) in
    omega arith

-- no net that stands behind k is marked by k
closed-behind : (b : Joined) (absorbed : List ℕ) (nets : List (Option ℕ)) (m : Marks) (k w : ℕ) (before vs : List Read) → AreAbsorbedNets b absorbed nets → AreAbsorbable b absorbed →
    HasSize (length (equations_of b).nets) (length (equations_of b).units) m → GoesOn (equations_of b) before (OfNet k ∷ vs) → IsAbsorbed b absorbed k w →
    AreClosed b absorbed m vs → AreClosed b absorbed (with_vars m (vars_in (unit_part b w Logic).terms)) (OfNet k ∷ vs)
closed-behind b absorbed nets m k w before vs are may size goes is closed = all
  where
    behind : List VarProduct
    behind = (unit_part b w Logic).terms

    same-unit : (n u : ℕ) → n ≡ k → IsAbsorbed b absorbed n u → u ≡ w
    same-unit n u e a =
        let here = (are.each k u).1 (subst (λ (i : ℕ). IsAbsorbed b absorbed i u) e a) in
        let there = (are.each k w).1 is in
        same_Some u w (same_Some (Some u) (Some w) (sym here ∙ there))

    later : (n u : ℕ) → Among (OfNet n) vs → IsAbsorbed b absorbed n u → (marked m (Net n) ≡ true) ⊎ Among (Net n) (vars_in behind) → (x : VarLit) → StandsIn x (unit_part b u Logic).terms →
        marked (with_vars m (vars_in behind)) x.var ≡ true
    later n u a abs (inl h) x s = vars-kept m (vars_in behind) x.var (closed n u a abs h x s)
    later n u a abs (inr r) x s =
        let y = among-vars (Net n) behind r in
        let reads = net-read b absorbed k w n y.0 may is y.1 y.2 in
        let node : IsNode (equations_of b) (OfNet n) = subst (IsVariable b) y.2 (part-over b w Logic y.0 y.1) in
        let stood = among-all (λ v. IsNode (equations_of b) v → Among v before) (OfNet n) (node_reads (equations_of b) (OfNet k)) goes.1 reads node in
        absurd (goes-apart (equations_of b) (OfNet k ∷ before) vs (OfNet n) goes.2 a (inr stood))

    all : AreClosed b absorbed (with_vars m (vars_in behind)) (OfNet k ∷ vs)
    all n u (inl e) abs mark x s =
        let same = same-unit n u (same-net n k e) abs in
        let stands : StandsIn x behind = subst (λ (i : ℕ). StandsIn x (unit_part b i Logic).terms) same s in
        vars-there (length (equations_of b).nets) (length (equations_of b).units) m (vars_in behind) x.var size (within-marks b x.var (part-over b w Logic x stands)) (vars-among x behind stands)
    all n u (inr a) abs mark x s = later n u a abs (vars-raised m (vars_in behind) (Net n) mark) x s

closed-net : (b : Joined) (absorbed : List ℕ) (nets : List (Option ℕ)) (m : Marks) (k : ℕ) (before vs : List Read) → AreAbsorbedNets b absorbed nets → AreAbsorbable b absorbed →
    HasSize (length (equations_of b).nets) (length (equations_of b).units) m → GoesOn (equations_of b) before (OfNet k ∷ vs) →
    AreClosed b absorbed m vs → AreClosed b absorbed (after_net b nets m k) (OfNet k ∷ vs)
closed-net b absorbed nets m k before vs are may size goes closed = at (marked m (Net k)) refl
  where
    bare : unit_at nets k ≡ None → AreClosed b absorbed m (OfNet k ∷ vs)
    bare none n u (inl e) abs mark x s =
        let here : unit_at nets k ≡ Some u = at-entry nets k u ((are.each k u).1 (subst (λ (i : ℕ). IsAbsorbed b absorbed i u) (same-net n k e) abs)) in
        cc
    bare none n u (inr a) abs mark x s = closed n u a abs mark x s

    unmarked : marked m (Net k) ≡ false → AreClosed b absorbed m (OfNet k ∷ vs)
    unmarked no_mark n u (inl e) abs mark x s =
        let here : marked m (Net k) ≡ true = subst (λ (i : ℕ). marked m (Net i) ≡ true) (same-net n k e) mark in
        cc
    unmarked no_mark n u (inr a) abs mark x s = closed n u a abs mark x s

    by : (o : Option ℕ) → unit_at nets k ≡ o → AreClosed b absorbed (with_vars m (vars_in (terms_behind b o))) (OfNet k ∷ vs)
    by None is = bare is
    by (Some w) is = closed-behind b absorbed nets m k w before vs are may size goes ((are.each k w).0 (entry-at nets k w is)) closed

    at : (q : Bool) → marked m (Net k) ≡ q → AreClosed b absorbed (if q then with_vars m (vars_in (terms_behind b (unit_at nets k))) else m) (OfNet k ∷ vs)
    at true mark = by (unit_at nets k) refl
    at false mark = unmarked mark

closed-node : (b : Joined) (absorbed : List ℕ) (nets : List (Option ℕ)) (m : Marks) (v : Read) (before vs : List Read) → AreAbsorbedNets b absorbed nets → AreAbsorbable b absorbed →
    HasSize (length (equations_of b).nets) (length (equations_of b).units) m → GoesOn (equations_of b) before (v ∷ vs) →
    AreClosed b absorbed m vs → AreClosed b absorbed (after_node b nets m v) (v ∷ vs)
closed-node b absorbed nets m (OfNet k) before vs are may size goes closed = closed-net b absorbed nets m k before vs are may size goes closed
closed-node b absorbed nets m (OfRegister k) before vs are may size goes closed = all
  where
    all : AreClosed b absorbed m (OfRegister k ∷ vs)
    all n u (inl e) abs mark x s = cc
    all n u (inr a) abs mark x s = closed n u a abs mark x s

-- what is marked at the end
walk : (b : Joined) (absorbed : List ℕ) (nets : List (Option ℕ)) (terms : List VarProduct) (m : Marks) (before vs : List Read) → AreAbsorbedNets b absorbed nets → AreAbsorbable b absorbed →
    AreReached b absorbed terms m → GoesOn (equations_of b) before vs → AreReached b absorbed terms (after_nodes b nets m vs) × AreClosed b absorbed (after_nodes b nets m vs) vs
walk b absorbed nets terms m before [] are may reached goes = (reached, λ n u a. absurd a)
walk b absorbed nets terms m before (v ∷ vs) are may reached goes =
    let rest = walk b absorbed nets terms m (v ∷ before) vs are may reached goes.2 in (
      reached-node b absorbed nets terms (after_nodes b nets m vs) v are rest.0,
      closed-node b absorbed nets (after_nodes b nets m vs) v before vs are may rest.0.size goes rest.1,
    )

node-kept : (b : Joined) (nets : List (Option ℕ)) (m : Marks) (v : Read) (w : Var) → marked m w ≡ true → marked (after_node b nets m v) w ≡ true
node-kept b nets m (OfNet n) w e = at (marked m (Net n))
  where
    at : (q : Bool) → marked (if q then with_vars m (vars_in (terms_behind b (unit_at nets n))) else m) w ≡ true
    at true = vars-kept m (vars_in (terms_behind b (unit_at nets n))) w e
    at false = e
node-kept b nets m (OfRegister k) w e = e

nodes-kept : (b : Joined) (nets : List (Option ℕ)) (m : Marks) (vs : List Read) (w : Var) → marked m w ≡ true → marked (after_nodes b nets m vs) w ≡ true
nodes-kept b nets m [] w e = e
nodes-kept b nets m (v ∷ vs) w e = node-kept b nets (after_nodes b nets m vs) v w (nodes-kept b nets m vs w e)

-- a named variable is no absorbed net
pub named-left : (b : Joined) (absorbed : List ℕ) (v : Var) (terms : List VarProduct) → Names b absorbed v terms → (n u : ℕ) → v ≡ Net n → IsAbsorbed b absorbed n u → ⊥
named-left b absorbed v terms (itself x s e none) = none
named-left b absorbed v terms (through x s n u e is names) = named-left b absorbed v (unit_part b u Logic).terms names

named-marked : (b : Joined) (absorbed : List ℕ) (m : Marks) (v : Var) (terms : List VarProduct) →
    ((n u : ℕ) → IsAbsorbed b absorbed n u → marked m (Net n) ≡ true → (x : VarLit) → StandsIn x (unit_part b u Logic).terms → marked m x.var ≡ true) →
    ((x : VarLit) → StandsIn x terms → marked m x.var ≡ true) → Names b absorbed v terms → marked m v ≡ true
named-marked b absorbed m v terms closed all (itself x s e none) = subst (λ (w : Var). marked m w ≡ true) e (all x s)
named-marked b absorbed m v terms closed all (through x s n u e is names) =
    named-marked b absorbed m v (unit_part b u Logic).terms closed (closed n u is (subst (λ (w : Var). marked m w ≡ true) e (all x s))) names

pub marks-named : (b : Joined) (absorbed : List ℕ) (nets : List (Option ℕ)) (terms : List VarProduct) (first last : Marks) (order : List Read) →
    IsOrder (equations_of b) order → AreOver b terms →
    first ≡ with_vars (no_marks (length (equations_of b).nets) (length (equations_of b).units)) (vars_in terms) → last ≡ after_nodes b nets first order →
    AreAbsorbedNets b absorbed nets → AreAbsorbable b absorbed → AreNameMarks b absorbed terms last
marks-named b absorbed nets terms first last order is over began ended are may = subst (AreNameMarks b absorbed terms) (sym ended) (record {
  variable = end.0.variable;
  sound = λ v mark none. end.0.leads v mark v (inl (refl, none));
  every = λ v names. named-marked b absorbed (after_nodes b nets first order) v terms closed there names;
  here = there;
  behind = closed;
})
  where
    end : AreReached b absorbed terms (after_nodes b nets first order) × AreClosed b absorbed (after_nodes b nets first order) order
    end = walk b absorbed nets terms first [] order are may (reached-first b absorbed terms first over began) is.behind

    closed : (n u : ℕ) → IsAbsorbed b absorbed n u → marked (after_nodes b nets first order) (Net n) ≡ true → (x : VarLit) → StandsIn x (unit_part b u Logic).terms →
        marked (after_nodes b nets first order) x.var ≡ true
    closed n u a mark x s = end.1 n u (is.every (OfNet n) (slice_get_within (equations_of b).nets n a.wire a.on)) a mark x s

    there : (x : VarLit) → StandsIn x terms → marked (after_nodes b nets first order) x.var ≡ true
    there x s =
        nodes-kept b nets first order x.var (subst (λ (m : Marks). marked m x.var ≡ true) (sym began)
        (vars-there (length (equations_of b).nets) (length (equations_of b).units) (no_marks (length (equations_of b).nets) (length (equations_of b).units)) (vars_in terms) x.var
        (size-none (length (equations_of b).nets) (length (equations_of b).units)) (within-marks b x.var (over x s)) (vars-among x terms s)))
