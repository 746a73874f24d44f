-- The fuses that are written make the cells again; parts that are written one after the other.
use Rattle.std.proofs.Common.{◌≡◌, List, [], ◌∷◌, ◌++◌, ap, ◌∙◌, Bool}
use Rattle.std.proofs.lemmas.List.{append_assoc}
use Rattle.v8.proofs.V8Laws.{v8-again}

pub ruleset again_rules = (v8-again)

-- four parts and two bits behind what was there
pub parts-written : (old a b c d e all p q r s : List Bool) (x y : Bool) →
    a ≡ old ++ p → b ≡ a ++ q → c ≡ b ++ r → d ≡ c ++ s → e ≡ d ++ x ∷ [] → all ≡ e ++ y ∷ [] → all ≡ old ++ (p ++ (q ++ (r ++ (s ++ (x ∷ y ∷ [])))))
parts-written old a b c d e all p q r s x y first second third fourth fifth last =
    last ∙ ap (λ (l : List Bool). l ++ y ∷ []) (fifth ∙ ap (λ (l : List Bool). l ++ x ∷ []) (fourth ∙ ap (λ (l : List Bool). l ++ s) (third ∙ ap (λ (l : List Bool). l ++ r) (second ∙ ap (λ (l : List Bool). l ++ q) first))))
    ∙ simp append_assoc
