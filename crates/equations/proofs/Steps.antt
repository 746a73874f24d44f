-- One step of a loop that goes on where a list is left.
use Rattle.std.proofs.Common.{ℕ, ◌≡◌, ◌<◌, ◌+◌, Bool, true, false, List, [], ◌∷◌, ◌++◌, length, drop, sym, ap, ◌∙◌, append_assoc}
use Rattle.std.specs.Prelude.{if◌then◌else◌}
use Rattle.std.proofs.Math.ListN.{get_or}
use Rattle.std.proofs.lemmas.List.{at_drop_more}

pub goes-on : {X Y : Type 0} (F : List X → List Y) (done piece rest : List Y) (xs : List X) (i : ℕ) (x : X) → i < length xs → x ≡ get_or xs i x →
    F (x ∷ drop (i + 1) xs) ≡ piece ++ rest → (done ++ piece) ++ rest ≡ done ++ F (drop i xs)
goes-on F done piece rest xs i x h is e =
    append_assoc done piece rest ∙ ap (λ r. done ++ r) (sym (at_drop_more F xs i x h ∙ ap (λ y. F (y ∷ drop (i + 1) xs)) (sym is) ∙ e))

-- one that passes a test is put last, and one that fails is left out
pub taken : {Y : Type 0} (test : Bool) (y : Y) (now done rest all : List Y) → all ≡ (if test then y ∷ rest else rest) → test ≡ true → now ≡ done ++ y ∷ [] → now ++ rest ≡ done ++ all
taken true y now done rest all e t n = ap (λ ys. ys ++ rest) n ∙ append_assoc done (y ∷ []) rest ∙ ap (λ ys. done ++ ys) (sym e)
taken false y now done rest all e t n = cc

pub left-out : {Y : Type 0} (test : Bool) (y : Y) (now done rest all : List Y) → all ≡ (if test then y ∷ rest else rest) → test ≡ false → now ≡ done → now ++ rest ≡ done ++ all
left-out true y now done rest all e t n = cc
left-out false y now done rest all e t n = ap (λ ys. ys ++ rest) n ∙ ap (λ ys. done ++ ys) (sym e)
