-- The literal of a place is read off that place.
use Rattle.std.proofs.Common.{◌≡◌, ℕ, ◌+◌, Bool, true, false, not, ◌&&◌, cond, refl, sym, ◌∙◌, ap, subst, arith, List, [], ◌∷◌, slice_get, Some, zero, suc, add-zero}
use Rattle.std.proofs.lemmas.Bool.{eq-eqb, ne_eqb}
use Rattle.std.proofs.lemmas.Option.{get_or_from_slice_get, slice_get_within, same_Some}
use Rattle.bdd.specs.Tree.{Point}
use Rattle.mig_base.specs.Bools.{same_bool}
use Rattle.mig_base.specs.declared.nets.Var.{Var}
use Rattle.mig_base.specs.declared.nets.Var.TheVariants.{Net, Reg}
use Rattle.rails.specs.declared.Side.{Side}
use Rattle.rails.specs.declared.Side.TheVariants.{Pure, High, Low}
use Rattle.rails.specs.declared.Rail.{Rail}
use Rattle.rails.specs.Variables.{rails_from, all_rails, same_var, IsBefore, AreRising}
use Rattle.rails.specs.Points.{read_off, literal_in, literal_holds, literal_of, high_of, MayStand}
use Rattle.rails.proofs.RailLemmas.{origin, is_pure}

before_differs : (v w : Var) → IsBefore v w → same_var v w ≡ false
before_differs (Net n) (Net m) l = ne_eqb n m (λ e. absurd (omega arith))
before_differs (Net n) (Reg k) l = refl
before_differs (Reg k) (Net n) l = absurd l
before_differs (Reg k) (Reg j) l = ne_eqb k j (λ e. absurd (omega arith))

pub same_self : (v : Var) → same_var v v ≡ true
same_self (Net n) = eq-eqb n n refl
same_self (Reg k) = eq-eqb k k refl

rising_rest : (v : Var × Bool) (vs : List (Var × Bool)) → AreRising (v ∷ vs) → AreRising vs
rising_rest v vs h i j d l b = h (suc i) (suc j) d (omega arith) (omega arith)

-- a Boolean of a later variable is not one of the first
other : (k : ℕ) (v : Var × Bool) (vs : List (Var × Bool)) (n : ℕ) (r : Rail) → AreRising (v ∷ vs) → slice_get (rails_from k vs) n ≡ Some r → same_var v.0 r.var ≡ false
other k v vs n r h e =
    let o = origin k vs n r e in
    let w = slice_get_within vs o.index (r.var, is_pure r.side) o.named in
    let at = get_or_from_slice_get vs o.index (r.var, is_pure r.side) v o.named in
    before_differs v.0 r.var (subst (λ (x : Var × Bool). IsBefore v.0 x.0) at (h 0 (suc o.index) v (omega arith) (omega arith)))

-- the literal of the Boolean at a place is read off that Boolean
reads : (k : ℕ) (vs : List (Var × Bool)) (n : ℕ) (r : Rail) (plain : Bool) (m : ℕ) (p : Point) → AreRising vs → slice_get (rails_from k vs) n ≡ Some r
    → literal_in m (rails_from k vs) (literal_of r plain) p ≡ read_off r.side (high_of r.side plain) (p (m + n))
reads k [] n r plain m p h e = cc
reads k ((v, true) ∷ vs) zero r plain m p h e =
    subst (λ (q : Rail). literal_in m (rails_from k ((v, true) ∷ vs)) (literal_of q plain) p ≡ read_off q.side (high_of q.side plain) (p (m + 0)))
    (same_Some (record { var = v; variable = k; side = Pure }) r e)
    (ap (λ b. cond (b && true) (same_bool plain (p m)) (literal_in (m + 1) (rails_from (k + 1) vs) (record { var = v; high = plain }) p)) (same_self v)
    ∙ ap (λ j. same_bool plain (p j)) (sym (add-zero m)))
reads k ((v, true) ∷ vs) (suc n) r plain m p h e =
    ap (λ b. cond (b && true) (same_bool (high_of r.side plain) (p m)) (literal_in (m + 1) (rails_from (k + 1) vs) (literal_of r plain) p)) (other (k + 1) (v, true) vs n r h e)
    ∙ reads (k + 1) vs n r plain (m + 1) p (rising_rest (v, true) vs h) e
    ∙ ap (λ j. read_off r.side (high_of r.side plain) (p j)) (omega arith)
reads k ((v, false) ∷ vs) zero r plain m p h e =
    subst (λ (q : Rail). literal_in m (rails_from k ((v, false) ∷ vs)) (literal_of q plain) p ≡ read_off q.side (high_of q.side plain) (p (m + 0)))
    (same_Some (record { var = v; variable = k; side = High }) r e)
    (ap (λ b. cond (b && true) (p m) (cond (b && false) (p (m + 1)) (literal_in (m + 1 + 1) (rails_from (k + 1) vs) (record { var = v; high = true }) p))) (same_self v)
    ∙ ap p (sym (add-zero m)))
reads k ((v, false) ∷ vs) (suc zero) r plain m p h e =
    subst (λ (q : Rail). literal_in m (rails_from k ((v, false) ∷ vs)) (literal_of q plain) p ≡ read_off q.side (high_of q.side plain) (p (m + 1)))
    (same_Some (record { var = v; variable = k; side = Low }) r e)
    (ap (λ b. cond (b && false) (p m) (cond (b && true) (p (m + 1)) (literal_in (m + 1 + 1) (rails_from (k + 1) vs) (record { var = v; high = false }) p))) (same_self v))
reads k ((v, false) ∷ vs) (suc (suc n)) r plain m p h e =
    ap (λ b. cond (b && high_of r.side plain) (p m) (cond (b && not (high_of r.side plain)) (p (m + 1)) (literal_in (m + 1 + 1) (rails_from (k + 1) vs) (literal_of r plain) p)))
    (other (k + 1) (v, false) vs n r h e)
    ∙ reads (k + 1) vs n r plain (m + 1 + 1) p (rising_rest (v, false) vs h) e
    ∙ ap (λ j. read_off r.side (high_of r.side plain) (p j)) (omega arith)

plainly : (s : Side) (plain b : Bool) → MayStand s plain → read_off s (high_of s plain) b ≡ same_bool plain b
plainly Pure plain b m = refl
plainly High plain b m = sym (ap (λ c. same_bool c b) m)
plainly Low plain b m = sym (ap (λ c. same_bool c b) m)

-- so it holds where the Boolean does, or does not where `plain` is not set
pub literal_means : (vs : List (Var × Bool)) (n : ℕ) (r : Rail) (plain : Bool) → AreRising vs → slice_get (all_rails vs) n ≡ Some r → MayStand r.side plain
    → (p : Point) → literal_holds (all_rails vs) (literal_of r plain) p ≡ same_bool plain (p n)
literal_means vs n r plain h e m p =
    reads 0 vs n r plain 0 p h e ∙ ap (λ j. read_off r.side (high_of r.side plain) (p j)) (omega arith) ∙ plainly r.side plain (p n) m
