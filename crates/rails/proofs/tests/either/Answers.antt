use Rattle.std.proofs.Common.{◌≡◌, ◌∙◌, ◌++◌, sym, ap, subst, refl, arith, Bool, true, false, List, [], ◌∷◌, All, Result, Ok, Err, IfOk}
use Rattle.std.proofs.lemmas.List.Elements.{All-cons}
use Rattle.bdd.specs.declared.Ref.{Ref}
use Rattle.mig_base.specs.declared.nets.Var.{Var}
use Rattle.mig_base.specs.declared.nets.Var.TheVariants.{Net}
use Rattle.mig_base.specs.declared.nets.VarLit.{VarLit}
use Rattle.mig_base.specs.declared.nets.VarProduct.{VarProduct}
use Rattle.rails.specs.Variables.{all_rails}
use Rattle.rails.specs.Points.{IsListed, IsProper}
use Rattle.rails.proofs.ValueLemmas.{AllListed}
use Rattle.rails.proofs.tests.either.Goals as goal

abbrev two : List (Var × Bool)
two = (Net 2, false) ∷ (Net 3, true) ∷ []

none : {X : Type 0} (P : X → Type 0) → All P []
none P k d b = absurd (omega arith)

row : (high : Bool) → All (λ (x : VarLit). IsListed two x.var) (record { var = Net 2; high = high } ∷ record { var = Net 3; high = true } ∷ [])
row high =
    All-cons (λ (x : VarLit). IsListed two x.var) (record { var = Net 2; high = high }) (record { var = Net 3; high = true } ∷ []) refl
    (All-cons (λ (x : VarLit). IsListed two x.var) (record { var = Net 3; high = true }) [] refl (none (λ (x : VarLit). IsListed two x.var)))

listed : (high : Bool) (row : VarProduct) → row.lits ≡ record { var = Net 2; high = high } ∷ record { var = Net 3; high = true } ∷ [] → AllListed two row
listed high w e = subst (All (λ (x : VarLit). IsListed two x.var)) (sym e) (row high)

pub sum-requires-clause-listed : goal.sum-requires-clause-listed
sum-requires-clause-listed c =
    let v = c.in_ok-with_b.field-0 in
    let w = c.in_ok-with_b-2.field-0 in
    let rows : c.as_slice.result.now ≡ v ∷ w ∷ [] =
    c.as_slice.ensures.value ∙ c.in_ok-push-2.ensures.items ∙ ap (λ (rs : List VarProduct). rs ++ w ∷ []) (c.in_ok-push.ensures.items ∙ ap (λ (rs : List VarProduct). rs ++ v ∷ []) c.new-rows.ensures.items) in
    let both : All (AllListed two) (v ∷ w ∷ []) =
    All-cons (AllListed two) v (w ∷ []) (listed true v c.in_ok-with_b.ensures) (All-cons (AllListed two) w [] (listed false w c.in_ok-with_b-2.ensures) (none (AllListed two))) in
    subst (λ (vs : List (Var × Bool)). All (AllListed vs) c.as_slice.result.now) (sym c.requires.vars) (subst (All (AllListed two)) (sym rows) both)

proper : {E : Type 0} (P Q R : Ref → Type 0) (o : Result Ref E) → IfOk o P → IfOk o Q → ((r : Ref) → P r → Q r → R r) → IfOk o R
proper P Q R (Ok r) h k f = f r h k
proper P Q R (Err e) h k f = tt

pub returns-clause-proper : goal.returns-clause-proper
returns-clause-proper c =
    let d = c.sum.new.self.graph in
    subst (λ (vs : List (Var × Bool)). IfOk c.sum.result (IsProper (all_rails vs) d)) (sym c.sum.ensures.vars)
    (proper _ _ (IsProper (all_rails c.args.rails.now.vars) d) c.sum.result c.sum.ensures.sum c.sum.ensures.monotone (λ r is m. record { valid = is.valid; monotone = m }))
