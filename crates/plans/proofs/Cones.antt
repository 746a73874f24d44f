-- A cone has one list of variables, and a joined part one function.
use Rattle.std.proofs.Common.{ℕ, suc, ◌≡◌, ◌<◌, ◌↔◌, Bool, true, List, [], ◌∷◌, map, refl, sym, ◌∙◌, subst, inl, inr, arith}
use Rattle.std.specs.List.{AllPairs, Contains}
use Rattle.bdd.specs.Tree.{Point}
use Rattle.mig_base.specs.Among.{Among}
use Rattle.mig_base.specs.declared.nets.Var.{Var}
use Rattle.mig_base.specs.declared.nets.Var.TheVariants.{Net, Reg}
use Rattle.mig_base.specs.declared.nets.VarProduct.{VarProduct}
use Rattle.mig_base.proofs.ListLaws.{both-ways}
use Rattle.mig_base.proofs.Amongs.{map-among, among-map}
use Rattle.rails.specs.Variables.{IsBefore}
use Rattle.structure.specs.Pure.{IsPure}
use Rattle.board.specs.Joined.{Joined, equations_of}
use Rattle.board.specs.Variables.{read_of}
use Rattle.joiner.specs.Joined.{IsCone, Inverted}
use Rattle.joiner.specs.JoinedPart.{IsJoinedPart}
use Rattle.primes.specs.Prime.{Function}

-- rising lists with the same items are the same

pub among-contains : {T : Type 0} (x : T) (xs : List T) → Among x xs → Contains xs x
among-contains x [] a = absurd a
among-contains x (y ∷ ys) (inl e) = (0, omega arith, sym e)
among-contains x (y ∷ ys) (inr a) = let c = among-contains x ys a in (suc c.0, omega arith, c.2)

module _ {T : Type 0} (Before : T → T → Type 0) (never_both : (x y : T) → Before x y → Before y x → ⊥) where
  before_rest : (x : T) (xs : List T) → AllPairs Before (x ∷ xs) → (t : T) → Among t xs → Before x t
  before_rest x xs p t a = let c = among-contains t xs a in subst (λ u. Before x u) c.2 (p 0 (suc c.0) t (omega arith) (omega arith))

  rest_rising : (x : T) (xs : List T) → AllPairs Before (x ∷ xs) → AllPairs Before xs
  rest_rising x xs p i j d l m = p (suc i) (suc j) d (omega arith) (omega arith)

  first_same : (x y : T) (xs ys : List T) → AllPairs Before (x ∷ xs) → AllPairs Before (y ∷ ys) → Among x (y ∷ ys) → Among y (x ∷ xs) → x ≡ y
  first_same x y xs ys p q (inl e) b = e
  first_same x y xs ys p q (inr k) (inl e) = sym e
  first_same x y xs ys p q (inr k) (inr l) = absurd (never_both x y (before_rest x xs p y l) (before_rest y ys q x k))

  in_rest : (x y : T) (xs ys : List T) → AllPairs Before (x ∷ xs) → x ≡ y → ((t : T) → Among t (x ∷ xs) → Among t (y ∷ ys)) → (t : T) → Among t xs → Among t ys
  in_rest x y xs ys p e put t h = at (put t (inr h))
    where
      at : Among t (y ∷ ys) → Among t ys
      at (inl k) = let less : Before x x = subst (λ u. Before x u) (k ∙ sym e) (before_rest x xs p t h) in absurd (never_both x x less less)
      at (inr m) = m

  pub rising-same : (xs ys : List T) → AllPairs Before xs → AllPairs Before ys → ((t : T) → Among t xs → Among t ys) → ((t : T) → Among t ys → Among t xs) → xs ≡ ys
  rising-same [] [] p q put back = refl
  rising-same [] (y ∷ ys) p q put back = absurd (back y (inl refl))
  rising-same (x ∷ xs) [] p q put back = absurd (put x (inl refl))
  rising-same (x ∷ xs) (y ∷ ys) p q put back =
      let e = first_same x y xs ys p q (put x (inl refl)) (back y (inl refl)) in
      let r = rising-same xs ys (rest_rising x xs p) (rest_rising y ys q) (in_rest x y xs ys p e put) (in_rest y x ys xs q (sym e) back) in
      (λ i. e i ∷ r i)

less-both : (n m : ℕ) → n < m → m < n → ⊥
less-both n m a b = omega arith

before-both : (v w : Var) → IsBefore v w → IsBefore w v → ⊥
before-both (Net n) (Net m) a b = less-both n m a b
before-both (Net n) (Reg k) a b = b
before-both (Reg k) (Net n) a b = a
before-both (Reg k) (Reg j) a b = less-both k j a b

abbrev name : Var × Bool → Var
name w = w.0

abbrev IsPureVar : Joined → Var → Type 0
IsPureVar b v = IsPure (equations_of b) (read_of b.chips v)

cone-among : (b : Joined) (absorbed : List ℕ) (terms : List VarProduct) (vs ws : List (Var × Bool)) → IsCone b absorbed terms vs → IsCone b absorbed terms ws → (w : Var × Bool) → Among w vs → Among w ws
cone-among b absorbed terms vs ws h k w a =
    let there : Among w.0 (map name ws) = (k.exact w.0).1 ((h.exact w.0).0 (map-among name w vs a)) in
    let found = among-map name w.0 ws there in
    let pure : (found.0.1 ≡ true) ↔ (w.1 ≡ true) = (
      (λ e. (h.pure w a).1 (subst (IsPureVar b) (sym found.2) ((k.pure found.0 found.1).0 e))),
      (λ e. (k.pure found.0 found.1).1 (subst (IsPureVar b) found.2 ((h.pure w a).0 e))),
    ) in
    let flag = both-ways found.0.1 w.1 pure.0 pure.1 in
    subst (λ (x : Var × Bool). Among x ws) (λ i. (sym found.2 i, flag i)) found.1

pub cone-one : (b : Joined) (absorbed : List ℕ) (terms : List VarProduct) (vs ws : List (Var × Bool)) → IsCone b absorbed terms vs → IsCone b absorbed terms ws → vs ≡ ws
cone-one b absorbed terms vs ws h k =
    rising-same (λ (v w : Var × Bool). IsBefore v.0 w.0) (λ v w. before-both v.0 w.0) vs ws h.rising k.rising
    (cone-among b absorbed terms vs ws h k) (cone-among b absorbed terms ws vs k h)

pub function-one : (b : Joined) (absorbed : List ℕ) (sum : Inverted) (vars : List (Var × Bool)) (f g : Function) → IsJoinedPart b absorbed sum vars f → IsJoinedPart b absorbed sum vars g → f ≡ g
function-one b absorbed sum vars f g h k = λ i p. at p i
  where
    at : (p : Point) → f p ≡ g p
    at p = let r = h.some p in h.means p r.0 r.1 r.2 ∙ sym (k.means p r.0 r.1 r.2)
