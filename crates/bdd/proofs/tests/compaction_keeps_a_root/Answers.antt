use Rattle.std.proofs.Common.{rules, ◌≡◌, arith, sym, subst, get_or, [], ◌∷◌}
use Rattle.bdd.specs.Diagram.{IsValid}
use Rattle.bdd.proofs.tests.compaction_keeps_a_root.Goals as goal

pub compact-requires : goal.compact-requires
compact-requires c s k d l =
    let valid : IsValid s.and.new.self s.in_ok-a.a = search rules in
    let first : k ≡ 0 = omega arith in
    subst (λ i. IsValid s.and.new.self (get_or (s.in_ok-a.a ∷ []) i d)) (sym first) valid
