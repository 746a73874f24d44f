-- Marks that are added one by one.
use Rattle.std.proofs.Common.{ℕ, zero, suc, ◌≡◌, ◌⊎◌, ◌<◌, ◌+◌, true, false, List, [], ◌∷◌, ◌++◌, length, replicate, take, refl, sym, ap, ◌∙◌, subst, arith, inl, inr}
use Rattle.std.proofs.Math.ListN.{get_or}
use Rattle.std.proofs.lemmas.List.{length-set, length-replicate, get_or-set_same, take_more, map-append, append-nil}
use Rattle.std.proofs.lemmas.Grind.{flat_map-append}
use Rattle.mig_base.specs.Among.{Among}
use Rattle.mig_base.specs.declared.nets.Var.{Var}
use Rattle.mig_base.specs.declared.nets.Var.TheVariants.{Net, Reg}
use Rattle.mig_base.specs.declared.nets.VarLit.{VarLit}
use Rattle.mig_base.specs.declared.nets.VarProduct.{VarProduct}
use Rattle.mig_base.proofs.Amongs.{among-left, among-right, among-split}
use Rattle.structure.proofs.NeededNodes.{flag-kept, flag-raised}
use Rattle.joiner.specs.declared.marks.Marks.{Marks}
use Rattle.joiner.specs.Joined.{StandsIn}
use Rattle.joiner.specs.Marked.{marked, no_marks, with_var, with_vars, vars_of, vars_in}

-- flags for so many nets and units
pub record HasSize (nets units : ℕ) (m : Marks) : Type 0 where
  pub nets_long : length m.nets ≡ nets
  pub units_long : length m.units ≡ units

-- a variable that has a flag
abbrev pub IsWithin : ℕ → ℕ → Var → Type 0
IsWithin nets units (Net n) = n < nets
IsWithin nets units (Reg u) = u < units

pub size-none : (nets units : ℕ) → HasSize nets units (no_marks nets units)
size-none nets units = record { nets_long = length-replicate nets false; units_long = length-replicate units false }

pub size-with : (nets units : ℕ) (m : Marks) (v : Var) → HasSize nets units m → HasSize nets units (with_var m v)
size-with nets units m (Net n) has = record { nets_long = length-set m.nets n true ∙ has.nets_long; units_long = has.units_long }
size-with nets units m (Reg u) has = record { nets_long = has.nets_long; units_long = length-set m.units u true ∙ has.units_long }

pub size-vars : (nets units : ℕ) (m : Marks) (vs : List Var) → HasSize nets units m → HasSize nets units (with_vars m vs)
size-vars nets units m [] has = has
size-vars nets units m (v ∷ vs) has = size-vars nets units (with_var m v) vs (size-with nets units m v has)

-- nothing is marked at first
pub flag-none : (n i : ℕ) → get_or (replicate n false) i false ≡ true → ⊥
flag-none zero i e = cc
flag-none (suc n) zero e = cc
flag-none (suc n) (suc i) e = flag-none n i e

pub none-marked : (nets units : ℕ) (v : Var) → marked (no_marks nets units) v ≡ true → ⊥
none-marked nets units (Net n) e = flag-none nets n e
none-marked nets units (Reg u) e = flag-none units u e

-- a mark stays, and a new one is that which was added
var-kept : (m : Marks) (w v : Var) → marked m v ≡ true → marked (with_var m w) v ≡ true
var-kept m (Net i) (Net j) e = flag-kept m.nets i j e
var-kept m (Net i) (Reg j) e = e
var-kept m (Reg i) (Net j) e = e
var-kept m (Reg i) (Reg j) e = flag-kept m.units i j e

var-raised : (m : Marks) (w v : Var) → marked (with_var m w) v ≡ true → (marked m v ≡ true) ⊎ (v ≡ w)
var-raised m (Net i) (Net j) e = at (flag-raised m.nets i j e)
  where
    at : (get_or m.nets j false ≡ true) ⊎ (j ≡ i) → (get_or m.nets j false ≡ true) ⊎ (Net j ≡ Net i)
    at (inl h) = inl h
    at (inr h) = inr (ap Net h)
var-raised m (Net i) (Reg j) e = inl e
var-raised m (Reg i) (Net j) e = inl e
var-raised m (Reg i) (Reg j) e = at (flag-raised m.units i j e)
  where
    at : (get_or m.units j false ≡ true) ⊎ (j ≡ i) → (get_or m.units j false ≡ true) ⊎ (Reg j ≡ Reg i)
    at (inl h) = inl h
    at (inr h) = inr (ap Reg h)

pub vars-kept : (m : Marks) (vs : List Var) (v : Var) → marked m v ≡ true → marked (with_vars m vs) v ≡ true
vars-kept m [] v e = e
vars-kept m (w ∷ ws) v e = vars-kept (with_var m w) ws v (var-kept m w v e)

pub vars-raised : (m : Marks) (vs : List Var) (v : Var) → marked (with_vars m vs) v ≡ true → (marked m v ≡ true) ⊎ Among v vs
vars-raised m [] v e = inl e
vars-raised m (w ∷ ws) v e = at (vars-raised (with_var m w) ws v e)
  where
    now : (marked m v ≡ true) ⊎ (v ≡ w) → (marked m v ≡ true) ⊎ Among v (w ∷ ws)
    now (inl h) = inl h
    now (inr h) = inr (inl h)

    at : (marked (with_var m w) v ≡ true) ⊎ Among v ws → (marked m v ≡ true) ⊎ Among v (w ∷ ws)
    at (inl h) = now (var-raised m w v h)
    at (inr a) = inr (inr a)

-- what was added is marked
var-there : (nets units : ℕ) (m : Marks) (v : Var) → HasSize nets units m → IsWithin nets units v → marked (with_var m v) v ≡ true
var-there nets units m (Net n) has h = get_or-set_same m.nets n true false (omega (arith, has.nets_long))
var-there nets units m (Reg u) has h = get_or-set_same m.units u true false (omega (arith, has.units_long))

pub vars-there : (nets units : ℕ) (m : Marks) (vs : List Var) (v : Var) → HasSize nets units m → IsWithin nets units v → Among v vs → marked (with_vars m vs) v ≡ true
vars-there nets units m [] v has h a = absurd a
vars-there nets units m (w ∷ ws) v has h (inl e) = vars-kept (with_var m w) ws v (subst (λ (x : Var). marked (with_var m x) v ≡ true) e (var-there nets units m v has h))
vars-there nets units m (w ∷ ws) v has h (inr a) = vars-there nets units (with_var m w) ws v (size-with nets units m w has) h a

-- the variables in products are those of their literals
among-var : (v : Var) (lits : List VarLit) → Among v (vars_of lits) → (x : VarLit) × Among x lits × (x.var ≡ v)
among-var v [] a = absurd a
among-var v (x ∷ xs) (inl e) = (x, inl refl, sym e)
among-var v (x ∷ xs) (inr a) = let h = among-var v xs a in (h.0, inr h.1, h.2)

var-among : (x : VarLit) (lits : List VarLit) → Among x lits → Among x.var (vars_of lits)
var-among x [] a = absurd a
var-among x (y ∷ ys) (inl e) = inl (ap (λ (z : VarLit). z.var) e)
var-among x (y ∷ ys) (inr a) = inr (var-among x ys a)

pub among-vars : (v : Var) (terms : List VarProduct) → Among v (vars_in terms) → (x : VarLit) × StandsIn x terms × (x.var ≡ v)
among-vars v [] a = absurd a
among-vars v (p ∷ ps) a = at (among-split v (vars_of p.lits) (vars_in ps) a) (among-vars v ps)
  where
    at : Among v (vars_of p.lits) ⊎ Among v (vars_in ps) → (Among v (vars_in ps) → (x : VarLit) × StandsIn x ps × (x.var ≡ v)) → (x : VarLit) × StandsIn x (p ∷ ps) × (x.var ≡ v)
    at (inl b) rest = let h = among-var v p.lits b in (h.0, record { product = p; among = inl refl; within = h.1 }, h.2)
    at (inr b) rest = let h = rest b in (h.0, record { product = h.1.product; among = inr h.1.among; within = h.1.within }, h.2)

in-terms : (x : VarLit) (p : VarProduct) (ps : List VarProduct) → Among p ps → Among x p.lits → Among x.var (vars_in ps)
in-terms x p [] a h = absurd a
in-terms x p (q ∷ qs) (inl e) h = among-left x.var (vars_of q.lits) (vars_in qs) (var-among x q.lits (subst (λ (r : VarProduct). Among x r.lits) e h))
in-terms x p (q ∷ qs) (inr a) h = among-right x.var (vars_of q.lits) (vars_in qs) (in-terms x p qs a h)

pub vars-among : (x : VarLit) (terms : List VarProduct) → StandsIn x terms → Among x.var (vars_in terms)
vars-among x terms s = in-terms x s.product terms s.among s.within

-- some variables and then others
with_vars-append : (m : Marks) (vs ws : List Var) → with_vars m (vs ++ ws) ≡ with_vars (with_vars m vs) ws
with_vars-append m [] ws = refl
with_vars-append m (v ∷ vs) ws = with_vars-append (with_var m v) vs ws

pub then-vars : (m now next : Marks) (vs ws : List Var) → now ≡ with_vars m vs → next ≡ with_vars now ws → next ≡ with_vars m (vs ++ ws)
then-vars m now next vs ws first then = then ∙ ap (λ (t : Marks). with_vars t ws) first ∙ sym (with_vars-append m vs ws)

pub one-more_var : (m now next : Marks) (lits : List VarLit) (i : ℕ) (d : VarLit) → i < length lits → now ≡ with_vars m (vars_of (take i lits)) →
    next ≡ with_var now (get_or lits i d).var → next ≡ with_vars m (vars_of (take (i + 1) lits))
one-more_var m now next lits i d within first then =
    then-vars m now next (vars_of (take i lits)) ((get_or lits i d).var ∷ []) first then
    ∙ ap (with_vars m) (sym (ap vars_of (take_more lits i d within) ∙ map-append (λ (x : VarLit). x.var) (take i lits) (get_or lits i d ∷ [])))

abbrev product-vars : VarProduct → List Var
product-vars p = vars_of p.lits

pub one-more_product : (m now next : Marks) (terms : List VarProduct) (i : ℕ) (p : VarProduct) → i < length terms → p ≡ get_or terms i p → now ≡ with_vars m (vars_in (take i terms)) →
    next ≡ with_vars now (vars_of p.lits) → next ≡ with_vars m (vars_in (take (i + 1) terms))
one-more_product m now next terms i p within is first then =
    then-vars m now next (vars_in (take i terms)) (vars_of p.lits) first then
    ∙ ap (with_vars m) (ap (λ (vs : List Var). vars_in (take i terms) ++ vs) (sym (append-nil (vars_of p.lits)))
    ∙ sym (ap vars_in (take_more terms i p within ∙ ap (λ (last : VarProduct). take i terms ++ last ∷ []) (sym is)) ∙ flat_map-append product-vars (take i terms) (p ∷ [])))
