-- For all levels of a cone's variables some levels of all variables fit: as often as there are ranks, each absorbed net gets what its
-- unit gives.
use Rattle.std.proofs.Common.{ℕ, zero, suc, ◌≡◌, ◌⊎◌, ◌<◌, Bool, true, false, cond, List, [], ◌∷◌, Option, Some, None, refl, sym, ap, ◌∙◌, subst, inl, inr, arith, eqb, eqb-true, eq-eqb}
use Rattle.std.specs.Prelude.{slice_get}
use Rattle.mig_base.specs.declared.levels.Level.{Level}
use Rattle.mig_base.specs.declared.plans.Part.TheVariants.{Logic}
use Rattle.mig_base.specs.declared.nets.Var.{Var}
use Rattle.mig_base.specs.declared.nets.Var.TheVariants.{Net, Reg}
use Rattle.mig_base.specs.declared.nets.VarLit.{VarLit}
use Rattle.mig_base.specs.declared.nets.VarProduct.{VarProduct}
use Rattle.mig_base.specs.declared.circuit.Read.{Read}
use Rattle.mig_base.specs.declared.circuit.Read.TheVariants.{OfNet}
use Rattle.mig_base.specs.declared.circuit.Circuit.{Circuit}
use Rattle.mig_base.specs.declared.circuit.Wire.{Wire}
use Rattle.mig_base.specs.Accepted.{IsAccepted}
use Rattle.mig_base.specs.Among.{Among}
use Rattle.mig_base.specs.Levels.{not3, and3, or3}
use Rattle.mig_base.specs.Ranked.{Ranked}
use Rattle.mig_base.specs.Reads.{node_reads}
use Rattle.mig_base.proofs.Amongs.{among-all}
use Rattle.board.specs.Joined.{Joined, equations_of}
use Rattle.rails.specs.Levels.{level_of}
use Rattle.level_laws.specs.VariableLevels.{Levelling, product_level, terms_level}
use Rattle.level_laws.proofs.RanksExist.{accepted-ranks}
use Rattle.joiner.specs.AbsorbedNets.{AreAbsorbable}
use Rattle.joiner.specs.Joined.{Inverted, StandsIn, IsAbsorbed, IsCone, unit_part}
use Rattle.joiner.specs.JoinedLevels.{inverted_level, LevelsAbsorbed, HasLevels}
use Rattle.joiner.proofs.JoiningLaws.{name_among}
use Rattle.joiner.proofs.PartReads.{net-read}
use Rattle.joiner.proofs.Passing.{named-left}

-- levels of products are the same where the variables that stand in them have the same levels
module _ (l k : Levelling) where
  lits-agree : (xs : List VarLit) → ((x : VarLit) → Among x xs → l x.var ≡ k x.var) → product_level l xs ≡ product_level k xs
  lits-agree [] h = refl
  lits-agree (x ∷ xs) h = (λ i. and3 (cond x.high (h x (inl refl) i) (not3 (h x (inl refl) i))) (lits-agree xs (λ y a. h y (inr a)) i))

  terms-agree : (ts : List VarProduct) → ((x : VarLit) → StandsIn x ts → l x.var ≡ k x.var) → terms_level l ts ≡ terms_level k ts
  terms-agree [] h = refl
  terms-agree (t ∷ ts) h =
      (λ i. or3 (lits-agree t.lits (λ x a. h x (record { product = t; among = inl refl; within = a })) i)
      (terms-agree ts (λ x s. h x (record { product = s.product; among = inr s.among; within = s.within })) i))

  inverted-agree : (sum : Inverted) → ((x : VarLit) → StandsIn x sum.terms → l x.var ≡ k x.var) → inverted_level l sum ≡ inverted_level k sum
  inverted-agree sum h = ap (λ (a : Level). cond sum.low (not3 a) a) (terms-agree sum.terms h)

-- whether a number is listed
listed : (u : ℕ) (us : List ℕ) → Among u us ⊎ (Among u us → ⊥)
listed u [] = inr (λ a. a)
listed u (w ∷ us) = at (eqb u w) refl (listed u us)
  where
    at : (q : Bool) → eqb u w ≡ q → Among u us ⊎ (Among u us → ⊥) → Among u (w ∷ us) ⊎ (Among u (w ∷ us) → ⊥)
    at true e rest = inl (inl (eqb-true u w e))
    at false e (inl a) = inl (inr a)
    at false e (inr none) = inr (λ h. neither h)
      where
        neither : Among u (w ∷ us) → ⊥
        neither (inl same) = let wrong : true ≡ false = sym (eq-eqb u w same) ∙ e in cc
        neither (inr a) = none a

module _ (b : Joined) (absorbed : List ℕ) (may : AreAbsorbable b absorbed) (base : Levelling) where
  abbrev pub c : Circuit
  c = equations_of b

  abbrev pub Decided : ℕ → Type 0
  Decided n = ((u : ℕ) × IsAbsorbed b absorbed n u) ⊎ ((u : ℕ) → IsAbsorbed b absorbed n u → ⊥)

  same-wire : (w x : Wire) → Some w ≡ Some x → w ≡ x
  same-wire w x e = cc

  same-first : (i j : ℕ) → i ∷ [] ≡ j ∷ [] → i ≡ j
  same-first i j e = cc

  alone-on : (n u : ℕ) (w : Wire) → slice_get c.nets n ≡ Some w → IsAbsorbed b absorbed n u → w.drivers ≡ u ∷ []
  alone-on n u w is a = ap (λ (x : Wire). x.drivers) (same-wire w a.wire (sym is ∙ a.on)) ∙ a.alone

  sole : (n u w : ℕ) → IsAbsorbed b absorbed n u → IsAbsorbed b absorbed n w → u ≡ w
  sole n u w a d = same-first u w (sym a.alone ∙ alone-on n w a.wire a.on d)

  pub decide : (n : ℕ) → Decided n
  decide n = at (slice_get c.nets n) refl
    where
      by : (w : Wire) → slice_get c.nets n ≡ Some w → (ds : List ℕ) → w.drivers ≡ ds → Decided n
      by w is [] e = inr (λ u a. let f : [] ≡ u ∷ [] = sym e ∙ alone-on n u w is a in cc)
      by w is (u ∷ []) e = one (listed u absorbed)
        where
          one : Among u absorbed ⊎ (Among u absorbed → ⊥) → Decided n
          one (inl a) = inl (u, record { wire = w; on = is; alone = e; listed = a })
          one (inr none) = inr (λ v a. none (subst (λ (j : ℕ). Among j absorbed) (same-first v u (sym (alone-on n v w is a) ∙ e)) a.listed))
      by w is (u ∷ v ∷ ds) e = inr (λ x a. let f : u ∷ v ∷ ds ≡ x ∷ [] = sym e ∙ alone-on n x w is a in cc)

      at : (o : Option Wire) → slice_get c.nets n ≡ o → Decided n
      at None is = inr (λ u a. let f : None ≡ Some a.wire = sym is ∙ a.on in cc)
      at (Some w) is = by w is w.drivers refl

  -- each absorbed net gets what its unit gives
  abbrev pub net-level : (l : Levelling) (n : ℕ) → Decided n → Level
  net-level l n (inl (u, a)) = inverted_level l (unit_part b u Logic)
  net-level l n (inr none) = base (Net n)

  abbrev pub next : Levelling → Levelling
  next l (Net n) = net-level l n (decide n)
  next l (Reg k) = base (Reg k)

  next-absorbed : (l : Levelling) (n u : ℕ) → IsAbsorbed b absorbed n u → next l (Net n) ≡ inverted_level l (unit_part b u Logic)
  next-absorbed l n u a = by (decide n)
    where
      by : (d : Decided n) → net-level l n d ≡ inverted_level l (unit_part b u Logic)
      by (inl (w, d)) = ap (λ (j : ℕ). inverted_level l (unit_part b j Logic)) (sole n w u d a)
      by (inr none) = absurd (none u a)

  next-free : (l : Levelling) (v : Var) → ((n u : ℕ) → v ≡ Net n → IsAbsorbed b absorbed n u → ⊥) → next l v ≡ base v
  next-free l (Reg k) free = refl
  next-free l (Net n) free = by (decide n)
    where
      by : (d : Decided n) → net-level l n d ≡ base (Net n)
      by (inl (u, a)) = absurd (free n u refl a)
      by (inr none) = refl

  abbrev pub rounds : ℕ → Levelling
  rounds zero = base
  rounds (suc k) = next (rounds k)

  rounds-free : (k : ℕ) (v : Var) → ((n u : ℕ) → v ≡ Net n → IsAbsorbed b absorbed n u → ⊥) → rounds k v ≡ base v
  rounds-free zero v free = refl
  rounds-free (suc k) v free = next-free (rounds k) v free

  module _ (rank : Read → ℕ) (top : ℕ) (ranked : Ranked c rank top) where
    -- absorbed nets of a lesser rank stay as they are
    abbrev Stays : ℕ → Type 0
    Stays k = (n u : ℕ) → IsAbsorbed b absorbed n u → rank (OfNet n) < k → rounds (suc k) (Net n) ≡ rounds k (Net n)

    stays-next : (k : ℕ) → Stays k → Stays (suc k)
    stays-next k stays n u a low =
        next-absorbed (rounds (suc k)) n u a
        ∙ inverted-agree (rounds (suc k)) (rounds k) (unit_part b u Logic) (λ x s. at x s x.var refl)
        ∙ sym (next-absorbed (rounds k) n u a)
      where
        of_net : (x : VarLit) → StandsIn x (unit_part b u Logic).terms → (m : ℕ) → x.var ≡ Net m → Decided m → rounds (suc k) x.var ≡ rounds k x.var
        of_net x s m e (inl (w, am)) =
            let falls : rank (OfNet m) < rank (OfNet n) =
            among-all (λ v. rank v < rank (OfNet n)) (OfNet m) (node_reads c (OfNet n)) (ranked.falls (OfNet n)) (net-read b absorbed n u m x may a s e) in
            let less : rank (OfNet m) < k = omega (arith, falls, low) in
            ap (rounds (suc k)) e ∙ stays m w am less ∙ sym (ap (rounds k) e)
        of_net x s m e (inr none) =
            let free : (j w : ℕ) → Net m ≡ Net j → IsAbsorbed b absorbed j w → ⊥ = (λ j w f d. none w (subst (λ (i : ℕ). IsAbsorbed b absorbed i w) (number j m f) d)) in
            ap (rounds (suc k)) e ∙ rounds-free (suc k) (Net m) free ∙ sym (rounds-free k (Net m) free) ∙ sym (ap (rounds k) e)
          where
            number : (j m : ℕ) → Net m ≡ Net j → j ≡ m
            number j m f = cc

        at : (x : VarLit) → StandsIn x (unit_part b u Logic).terms → (v : Var) → x.var ≡ v → rounds (suc k) x.var ≡ rounds k x.var
        at x s (Net m) e = of_net x s m e (decide m)
        at x s (Reg j) e =
            let free : (i w : ℕ) → Reg j ≡ Net i → IsAbsorbed b absorbed i w → ⊥ = (λ i w f d. cc) in
            ap (rounds (suc k)) e ∙ rounds-free (suc k) (Reg j) free ∙ sym (rounds-free k (Reg j) free) ∙ sym (ap (rounds k) e)

    stays : (k : ℕ) → Stays k
    stays zero = λ n u a low. absurd (omega (arith, low))
    stays (suc k) = stays-next k (stays k)

    pub whole : LevelsAbsorbed b absorbed (rounds top)
    whole = record { each = λ n u a. sym (stays top n u a (ranked.below (OfNet n))) ∙ next-absorbed (rounds top) n u a }

pub levels-exist : (b : Joined) (absorbed : List ℕ) (terms : List VarProduct) (vars : List (Var × Bool)) (levels : List Level) → IsAccepted (equations_of b) → AreAbsorbable b absorbed →
    IsCone b absorbed terms vars → (l : Levelling) × HasLevels vars levels l × LevelsAbsorbed b absorbed l
levels-exist b absorbed terms vars levels accepted may cone =
    let base : Levelling = level_of vars levels in
    let r = accepted-ranks (equations_of b) accepted in (
      rounds b absorbed may base r.top,
      record { each = λ w a. rounds-free b absorbed may base r.top w.0 (named-left b absorbed w.0 terms ((cone.exact w.0).0 (name_among w vars a))) },
      whole b absorbed may base r.rank r.top r.ranked,
    )
