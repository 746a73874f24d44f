-- The items of a list.
use Rattle.std.specs.Prelude.{◌≡◌, ◌⊎◌, List, [], ◌∷◌}

-- an item of a list
abbrev pub Among : {T : Type 0} → T → List T → Type 0
Among x [] = ⊥
Among x (y ∷ ys) = (x ≡ y) ⊎ Among x ys

-- no item stands twice
abbrev pub IsApart : {T : Type 0} → List T → Type 0
IsApart [] = Unit {0}
IsApart (x ∷ xs) = (Among x xs → ⊥) × IsApart xs
