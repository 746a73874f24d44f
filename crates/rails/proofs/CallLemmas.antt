-- The calls of a `Rails`, by what stands below them.
use Rattle.std.proofs.Common.{◌≡◌, Bool, sym, ◌∙◌, ap, subst, List, length, All, Result, Ok, Err, IfOk, get_or}
use Rattle.std.proofs.lemmas.Result.{IfOk-weaker}
use Rattle.bdd.specs.Tree.{Point}
use Rattle.bdd.specs.Diagram.{Diagram, function_of}
use Rattle.bdd.specs.declared.Ref.{Ref}
use Rattle.mig_base.specs.declared.levels.Level.{Level}
use Rattle.mig_base.specs.declared.nets.Var.{Var}
use Rattle.mig_base.specs.declared.nets.VarLit.{VarLit}
use Rattle.mig_base.specs.declared.nets.VarProduct.{VarProduct}
use Rattle.rails.specs.declared.Rail.{Rail}
use Rattle.rails.specs.declared.Rails.TheInside.{Inside}
use Rattle.rails.specs.Variables.{Held, all_rails, IsFit}
use Rattle.rails.specs.Inside.{seen, IsRails}
use Rattle.rails.specs.Points.{Is, IsListed, IsMonotone}
use Rattle.rails.specs.Steps.{IsCarried}
use Rattle.rails.specs.Levels.{AreLevels, value_under}
use Rattle.rails.proofs.FoundLemmas.{found}
use Rattle.rails.proofs.ValueLemmas.{AllListed, monotone_same, value_same}

-- what is made below is made
pub ok_from : {E F : Type 0} (P : Ref → Type 0) (a : Result Ref E) (b : Result Ref F) → IfOk a (λ r. b ≡ Ok r) → IfOk b P → IfOk a P
ok_from P (Ok r) b e h = subst (λ o. IfOk o P) e h
ok_from P (Err x) b e h = tt

-- the Booleans that are kept are those of the variables that are seen
pub rails_seen : (i : Inside) (h : Held) (rs : List Rail) → IsRails i → seen i ≡ h → rs ≡ i.rails.items → rs ≡ all_rails h.vars
rails_seen i h rs k v e = e ∙ k.rails ∙ ap (λ (g : Held). all_rails g.vars) v

pub fit_seen : (i : Inside) (h : Held) (rs : List Rail) → IsRails i → seen i ≡ h → rs ≡ i.rails.items → IsFit h → i.graph.vars ≡ length rs
fit_seen i h rs k v e f = ap (λ (g : Held). g.graph.vars) v ∙ f ∙ sym (ap length (rails_seen i h rs k v e))

pub carried : (vs : List (Var × Bool)) (rs : List Rail) (lits : List VarLit) → rs ≡ all_rails vs → All (λ (x : VarLit). IsListed vs x.var) lits → All (IsCarried rs) lits
carried vs rs lits e l = λ k d b. subst (λ (ys : List Rail). IsCarried ys (get_or lits k d)) (sym e) (found vs (get_or lits k d) (l k d b)).carried

pub rows_carried : (vs : List (Var × Bool)) (rs : List Rail) (rows : List VarProduct) → rs ≡ all_rails vs → All (AllListed vs) rows → All (λ (row : VarProduct). All (IsCarried rs) row.lits) rows
rows_carried vs rs rows e l = λ k d b. carried vs rs (get_or rows k d).lits e (l k d b)

-- a function that is made has the value and the growth of the one that it is
pub is_monotone : {E : Type 0} (d : Diagram) (rs : List Rail) (g : Point → Bool) (o : Result Ref E) → IsMonotone rs g → IfOk o (Is d g) → IfOk o (λ r. IsMonotone rs (function_of d r))
is_monotone d rs g o m h = IfOk-weaker o _ _ (λ r is. monotone_same rs (function_of d r) g is.means m) h

pub is_valued : {E : Type 0} (d : Diagram) (vs : List (Var × Bool)) (g : Point → Bool) (value : List Level → Level) (o : Result Ref E)
    → ((levels : List Level) → AreLevels vs levels → value_under (all_rails vs) g levels ≡ value levels) → IfOk o (Is d g)
    → IfOk o (λ r. (levels : List Level) → AreLevels vs levels → value_under (all_rails vs) (function_of d r) levels ≡ value levels)
is_valued d vs g value o v h = IfOk-weaker o _ _ (λ r is levels l. value_same (all_rails vs) (function_of d r) g levels is.means ∙ v levels l) h
