-- At each point something is read.
use Rattle.std.proofs.Common.{◌≡◌, ◌≢◌, ◌⊎◌, ℕ, Bool, true, false, not, ◌&&◌, ◌||◌, if◌then◌else◌, cond, List, [], ◌∷◌, map, Option, None, Some, slice_get, refl, sym, ◌∙◌, ap, subst, inl, inr, arith}
use Rattle.std.specs.List.{list_any, list_all}
use Rattle.std.proofs.lemmas.Bool.{eq-eqb, ne_eqb}
use Rattle.std.proofs.lemmas.Option.{slice_get_within}
use Rattle.bdd.specs.Tree.{Point}
use Rattle.mig_base.specs.Among.{Among}
use Rattle.mig_base.specs.Reads.{node_reads}
use Rattle.mig_base.specs.declared.circuit.Read.{Read}
use Rattle.mig_base.specs.declared.circuit.Read.TheVariants.{OfNet, OfRegister}
use Rattle.mig_base.specs.declared.circuit.Circuit.{Circuit}
use Rattle.mig_base.specs.declared.circuit.Wire.{Wire}
use Rattle.mig_base.specs.declared.nets.Var.{Var}
use Rattle.mig_base.specs.declared.nets.Var.TheVariants.{Net, Reg}
use Rattle.mig_base.specs.declared.nets.VarLit.{VarLit}
use Rattle.mig_base.specs.declared.nets.VarProduct.{VarProduct}
use Rattle.mig_base.specs.declared.plans.Part.TheVariants.{Logic}
use Rattle.ranks.specs.Order.{GoesOn, IsOrder}
use Rattle.mig_base.specs.Reads.{IsNode}
use Rattle.mig_base.proofs.Amongs.{among-all}
use Rattle.board.specs.Joined.{Joined, equations_of}
use Rattle.rails.specs.Variables.{all_rails, same_var}
use Rattle.rails.specs.Points.{literal_holds}
use Rattle.joiner.specs.AbsorbedNets.{AreAbsorbedNets, AreAbsorbable}
use Rattle.joiner.specs.Joined.{Inverted, Reading, StandsIn, IsAbsorbed, IsCone, ReadsAbsorbed, unit_part, literal_read, product_read, terms_read, inverted_read}
use Rattle.joiner.proofs.PartReads.{net-read}
use Rattle.joiner.proofs.Passing.{named-left}
use Rattle.joiner.specs.JoinedPart.{ReadsVariables}

-- what is read is the same where the literals that stand in it read the same
module _ (r q : Reading) where
  abbrev Agrees : VarLit → Type 0
  Agrees x = (side : Bool) → r x.var side ≡ q x.var side

  all_agree : (side : Bool) (xs : List VarLit) → ((x : VarLit) → Among x xs → Agrees x) → list_all (literal_read r side) xs ≡ list_all (literal_read q side) xs
  all_agree side [] h = refl
  all_agree side (x ∷ xs) h = (λ i. h x (inl refl) (if side then x.high else not x.high) i && all_agree side xs (λ y a. h y (inr a)) i)

  any_agree : (side : Bool) (xs : List VarLit) → ((x : VarLit) → Among x xs → Agrees x) → list_any (literal_read r side) xs ≡ list_any (literal_read q side) xs
  any_agree side [] h = refl
  any_agree side (x ∷ xs) h = (λ i. h x (inl refl) (if side then x.high else not x.high) i || any_agree side xs (λ y a. h y (inr a)) i)

  product_agrees : (side : Bool) (t : VarProduct) → ((x : VarLit) → Among x t.lits → Agrees x) → product_read r side t ≡ product_read q side t
  product_agrees true t h = all_agree true t.lits h
  product_agrees false t h = any_agree false t.lits h

  later : (t : VarProduct) (ts : List VarProduct) (x : VarLit) → StandsIn x ts → StandsIn x (t ∷ ts)
  later t ts x s = record { product = s.product; among = inr s.among; within = s.within }

  terms_agree : (side : Bool) (ts : List VarProduct) → ((x : VarLit) → StandsIn x ts → Agrees x) → terms_read r side ts ≡ terms_read q side ts
  terms_agree true [] h = refl
  terms_agree true (t ∷ ts) h =
      (λ i. product_agrees true t (λ x a. h x (record { product = t; among = inl refl; within = a })) i || terms_agree true ts (λ x s. h x (later t ts x s)) i)
  terms_agree false [] h = refl
  terms_agree false (t ∷ ts) h =
      (λ i. product_agrees false t (λ x a. h x (record { product = t; among = inl refl; within = a })) i && terms_agree false ts (λ x s. h x (later t ts x s)) i)

  inverted_agrees : (side : Bool) (sum : Inverted) → ((x : VarLit) → StandsIn x sum.terms → Agrees x) → inverted_read r side sum ≡ inverted_read q side sum
  inverted_agrees side sum h = terms_agree (if sum.low then not side else side) sum.terms h

-- the reading r with both literals of the net n at what the unit u gives
abbrev set_net : Joined → Reading → ℕ → ℕ → Reading
set_net b r n u v side = if same_var v (Net n) then inverted_read r side (unit_part b u Logic) else r v side

other_net : (v : Var) (n : ℕ) → v ≢ Net n → same_var v (Net n) ≡ false
other_net (Net m) n h = ne_eqb m n (λ e. h (ap Net e))
other_net (Reg u) n h = refl

set_here : (b : Joined) (r : Reading) (n u : ℕ) (side : Bool) → set_net b r n u (Net n) side ≡ inverted_read r side (unit_part b u Logic)
set_here b r n u side = ap (λ c. cond c (inverted_read r side (unit_part b u Logic)) (r (Net n) side)) (eq-eqb n n refl)

set_there : (b : Joined) (r : Reading) (n u : ℕ) (v : Var) (side : Bool) → v ≢ Net n → set_net b r n u v side ≡ r v side
set_there b r n u v side h = ap (λ c. cond c (inverted_read r side (unit_part b u Logic)) (r v side)) (other_net v n h)

module _ (b : Joined) (absorbed : List ℕ) (may : AreAbsorbable b absorbed) (base : Reading) where
  abbrev c : Circuit
  c = equations_of b

  -- both literals of the net read what its unit gives
  abbrev IsRight : Reading → ℕ → Type 0
  IsRight r n = (u : ℕ) → IsAbsorbed b absorbed n u → (side : Bool) → r (Net n) side ≡ inverted_read r side (unit_part b u Logic)

  -- the rest reads what it read at first
  abbrev IsFree : Reading → Type 0
  IsFree r = (v : Var) → ((n u : ℕ) → v ≡ Net n → IsAbsorbed b absorbed n u → ⊥) → (side : Bool) → r v side ≡ base v side

  record IsGrown (before : List Read) (r : Reading) : Type 0 where
    pub free : IsFree r
    pub right : (n : ℕ) → Among (OfNet n) before → IsRight r n

  record IsClosed (before : List Read) : Type 0 where
    pub each : (v w : Read) → Among v before → Among w (node_reads c v) → IsNode c w → Among w before

  abbrev Grown : List Read → Type 0
  Grown before = (r : Reading) × IsGrown before r

  closed_more : (before : List Read) (v : Read) → IsClosed before → ((w : Read) → Among w (node_reads c v) → IsNode c w → Among w before) → IsClosed (v ∷ before)
  closed_more before v h reads = record { each = by }
    where
      by : (x w : Read) → Among x (v ∷ before) → Among w (node_reads c x) → IsNode c w → Among w (v ∷ before)
      by x w (inl e) a n = inr (reads w (subst (λ y. Among w (node_reads c y)) e a) n)
      by x w (inr m) a n = inr (h.each x w m a n)

  absorbed_node : (n u : ℕ) → IsAbsorbed b absorbed n u → IsNode c (OfNet n)
  absorbed_node n u a = omega (arith, slice_get_within c.nets n a.wire a.on)

  -- nothing before a new net reads that net
  unread : (before : List Read) (n m u w : ℕ) → IsClosed (OfNet n ∷ before) → (Among (OfNet n) before → ⊥) → ((w : Read) → Among w (node_reads c (OfNet n)) → IsNode c w → Among w before)
      → IsClosed before → IsAbsorbed b absorbed n w → Among (OfNet m) (OfNet n ∷ before) → IsAbsorbed b absorbed m u → (x : VarLit) → StandsIn x (unit_part b u Logic).terms → x.var ≢ Net n
  unread before n m u w closed new reads old an (inl same) am x s e =
      new (reads (OfNet n) (subst (λ y. Among (OfNet n) (node_reads c y)) same (net-read b absorbed m u n x may am s e)) (absorbed_node n w an))
  unread before n m u w closed new reads old an (inr a) am x s e =
      new (old.each (OfNet m) (OfNet n) a (net-read b absorbed m u n x may am s e) (absorbed_node n w an))

  net_number : (m n : ℕ) → OfNet m ≡ OfNet n → n ≡ m
  net_number m n e = cc

  var_number : (m n : ℕ) → Net m ≡ Net n → OfNet n ≡ OfNet m
  var_number m n e = cc

  sole : (n u w : ℕ) → IsAbsorbed b absorbed n u → IsAbsorbed b absorbed n w → u ≡ w
  sole n u w a d = first u w (sym a.alone ∙ ap (λ (x : Wire). x.drivers) (some a.wire d.wire (sym a.on ∙ d.on)) ∙ d.alone)
    where
      some : (x y : Wire) → Some x ≡ Some y → x ≡ y
      some x y e = cc

      first : (i j : ℕ) → i ∷ [] ≡ j ∷ [] → i ≡ j
      first i j e = cc

  abbrev Reads : List Read → ℕ → Type 0
  Reads before n = (w : Read) → Among w (node_reads c (OfNet n)) → IsNode c w → Among w before

  module _ (before : List Read) (r : Reading) (n u : ℕ) (old : IsClosed before) (g : IsGrown before r) (new : Among (OfNet n) before → ⊥) (reads : Reads before n) (a : IsAbsorbed b absorbed n u) where
    abbrev next : Reading
    next = set_net b r n u

    untouched : (m w : ℕ) → Among (OfNet m) (OfNet n ∷ before) → IsAbsorbed b absorbed m w → (side : Bool) → inverted_read r side (unit_part b w Logic) ≡ inverted_read next side (unit_part b w Logic)
    untouched m w am aw side =
        inverted_agrees r next side (unit_part b w Logic)
        (λ x s k. sym (set_there b r n u x.var k (unread before n m w u (closed_more before (OfNet n) old reads) new reads old a am aw x s)))

    right_here : IsRight next n
    right_here w aw side =
        set_here b r n u side ∙ ap (λ k. inverted_read r side (unit_part b k Logic)) (sole n u w a aw) ∙ untouched n w (inl refl) aw side

    right_there : (m : ℕ) → Among (OfNet m) before → IsRight next m
    right_there m am w aw side =
        set_there b r n u (Net m) side (λ e. new (subst (λ y. Among y before) (sym (var_number m n e)) am))
        ∙ g.right m am w aw side ∙ untouched m w (inr am) aw side

    right_all : (m : ℕ) → Among (OfNet m) (OfNet n ∷ before) → IsRight next m
    right_all m (inl e) = subst (IsRight next) (net_number m n e) right_here
    right_all m (inr am) = right_there m am

    grown_net : IsGrown (OfNet n ∷ before) next
    grown_net = record {
      free = λ v f side. set_there b r n u v side (λ e. f n u e a) ∙ g.free v f side;
      right = right_all;
    }

  -- a node that no absorbed unit drives changes nothing
  grown_same : (before : List Read) (v : Read) (r : Reading) → IsGrown before r → ((n u : ℕ) → OfNet n ≡ v → IsAbsorbed b absorbed n u → ⊥) → IsGrown (v ∷ before) r
  grown_same before v r g none = record { free = g.free; right = by }
    where
      by : (n : ℕ) → Among (OfNet n) (v ∷ before) → IsRight r n
      by n (inl e) = λ u a side. absurd (none n u e a)
      by n (inr m) = g.right n m

  abbrev Decides : Type 0
  Decides = (n : ℕ) → ((u : ℕ) × IsAbsorbed b absorbed n u) ⊎ ((u : ℕ) → IsAbsorbed b absorbed n u → ⊥)

  grown_more : Decides → (before : List Read) (v : Read) → IsClosed before → (Among v before → ⊥) → ((w : Read) → Among w (node_reads c v) → IsNode c w → Among w before)
      → Grown before → Grown (v ∷ before)
  grown_more decide before (OfRegister k) old new reads (r, g) = (r, grown_same before (OfRegister k) r g (λ n u e a. cc))
  grown_more decide before (OfNet n) old new reads (r, g) = by (decide n)
    where
      by : ((u : ℕ) × IsAbsorbed b absorbed n u) ⊎ ((u : ℕ) → IsAbsorbed b absorbed n u → ⊥) → Grown (OfNet n ∷ before)
      by (inl (u, a)) = (set_net b r n u, grown_net before r n u old g new reads a)
      by (inr none) = (r, grown_same before (OfNet n) r g (λ m u e a. none u (subst (λ k. IsAbsorbed b absorbed k u) (sym (net_number m n e)) a)))

  -- a reading in which all nets of an order are right
  record IsWhole (before rest : List Read) (r : Reading) : Type 0 where
    pub free : IsFree r
    pub right : (n : ℕ) → Among (OfNet n) before ⊎ Among (OfNet n) rest → IsRight r n

  grown_all : Decides → (before rest : List Read) → GoesOn c before rest → IsClosed before → Grown before → (r : Reading) × IsWhole before rest r
  grown_all decide before [] h old (r, g) = (r, record { free = g.free; right = by })
    where
      by : (n : ℕ) → Among (OfNet n) before ⊎ Among (OfNet n) [] → IsRight r n
      by n (inl a) = g.right n a
      by n (inr a) = absurd a
  grown_all decide before (v ∷ vs) h old g = whole (grown_all decide (v ∷ before) vs h.2 (closed_more before v old reads) (grown_more decide before v old h.0 reads g))
    where
      reads : (w : Read) → Among w (node_reads c v) → IsNode c w → Among w before
      reads w a n = among-all (λ u. IsNode c u → Among u before) w (node_reads c v) h.1 a n

      moved : (n : ℕ) → Among (OfNet n) before ⊎ Among (OfNet n) (v ∷ vs) → Among (OfNet n) (v ∷ before) ⊎ Among (OfNet n) vs
      moved n (inl a) = inl (inr a)
      moved n (inr (inl e)) = inl (inl e)
      moved n (inr (inr a)) = inr a

      whole : (r : Reading) × IsWhole (v ∷ before) vs r → (r : Reading) × IsWhole before (v ∷ vs) r
      whole (r, g) = (r, record { free = g.free; right = λ n a. g.right n (moved n a) })

  -- with the other variables at anything
  pub right_exists : Decides → (order : List Read) → IsOrder c order → (r : Reading) × IsFree r × ReadsAbsorbed b absorbed r
  right_exists decide order is = by (grown_all decide [] order is.behind (record { each = λ v w a. absurd a }) (base, record { free = λ v f side. refl; right = λ n a. absurd a }))
    where
      by : (r : Reading) × IsWhole [] order r → (r : Reading) × IsFree r × ReadsAbsorbed b absorbed r
      by (r, g) = (r, g.free, record { each = λ n u a side. g.right n (inr (is.every (OfNet n) (absorbed_node n u a))) u a side })

-- the table tells whether an absorbed unit drives a net
pub decided : (b : Joined) (absorbed : List ℕ) (nets : List (Option ℕ)) → AreAbsorbedNets b absorbed nets → (n : ℕ)
    → ((u : ℕ) × IsAbsorbed b absorbed n u) ⊎ ((u : ℕ) → IsAbsorbed b absorbed n u → ⊥)
decided b absorbed nets are n = by (slice_get nets n) refl
  where
    by : (o : Option (Option ℕ)) → slice_get nets n ≡ o → ((u : ℕ) × IsAbsorbed b absorbed n u) ⊎ ((u : ℕ) → IsAbsorbed b absorbed n u → ⊥)
    by None e = inr (λ u a. let f : None ≡ Some (Some u) = sym e ∙ (are.each n u).1 a in cc)
    by (Some None) e = inr (λ u a. let f : Some None ≡ Some (Some u) = sym e ∙ (are.each n u).1 a in cc)
    by (Some (Some u)) e = inl (u, (are.each n u).0 e)

-- at each point there is a reading of the listed variables and the absorbed nets
pub reading_exists : (b : Joined) (absorbed : List ℕ) (nets : List (Option ℕ)) (terms : List VarProduct) (vars : List (Var × Bool)) (order : List Read)
    → AreAbsorbable b absorbed → AreAbsorbedNets b absorbed nets → IsOrder (equations_of b) order → IsCone b absorbed terms vars
    → (p : Point) → (r : Reading) × ReadsVariables vars p r × ReadsAbsorbed b absorbed r
reading_exists b absorbed nets terms vars order may are is cone p =
    let base : Reading = λ v side. literal_holds (all_rails vars) (record { var = v; high = side }) p in
    let made = right_exists b absorbed may base (decided b absorbed nets are) order is in (
      made.0,
      record {
        each = λ w a side. made.1 w.0
            (λ n u e. named-left b absorbed w.0 terms ((cone.exact w.0).0 (named w vars a)) n u e) side;
      },
      made.2,
    )
  where
    named : (w : Var × Bool) (vs : List (Var × Bool)) → Among w vs → Among w.0 (map (λ (x : Var × Bool). x.0) vs)
    named w [] a = absurd a
    named w (x ∷ xs) (inl e) = inl (ap (λ (y : Var × Bool). y.0) e)
    named w (x ∷ xs) (inr a) = inr (named w xs a)
