-- The tables of three-valued logic by two Booleans.
use Rattle.std.proofs.Common.{◌≡◌, Bool, true, false, not, ◌&&◌, ◌||◌, if◌then◌else◌, refl, sym, true≢false, inl, inr}
use Rattle.mig_base.specs.Levels.{not3, and3, or3}
use Rattle.mig_base.specs.declared.levels.Level.{Level}
use Rattle.mig_base.specs.declared.levels.Level.TheVariants.{Zero, One, Z, X}
use Rattle.rails.specs.declared.Side.{Side}
use Rattle.rails.specs.declared.Side.TheVariants.{Pure, High, Low}
use Rattle.rails.specs.Points.{has_literal, read_off, IsKept, side_of}
use Rattle.rails.specs.Steps.{IsPureSide}
use Rattle.rails.specs.Levels.{IsLevel, side_under, level_between}
use Rattle.rails.proofs.RailLemmas.{is_pure}

-- the value of a literal under a level
pub literal_value : (s : Side) (high : Bool) (l : Level) → has_literal s high ≡ true → IsLevel (is_pure s) l
    → level_between (read_off s high (side_under false s l)) (read_off s high (side_under true s l)) ≡ (if high then l else not3 l)
literal_value Pure true Zero c i = refl
literal_value Pure true One c i = refl
literal_value Pure true Z c i = elim i [ inl e ↦ cc | inr e ↦ cc ]
literal_value Pure true X c i = elim i [ inl e ↦ cc | inr e ↦ cc ]
literal_value Pure false Zero c i = refl
literal_value Pure false One c i = refl
literal_value Pure false Z c i = elim i [ inl e ↦ cc | inr e ↦ cc ]
literal_value Pure false X c i = elim i [ inl e ↦ cc | inr e ↦ cc ]
literal_value High true Zero c i = refl
literal_value High true One c i = refl
literal_value High true Z c i = absurd (i refl)
literal_value High true X c i = refl
literal_value High false l c i = cc
literal_value Low true l c i = cc
literal_value Low false Zero c i = refl
literal_value Low false One c i = refl
literal_value Low false Z c i = absurd (i refl)
literal_value Low false X c i = refl

-- a Boolean under its level rises with the unknowns, and a pure one does not depend on them
pub under_kept : (s : Side) (l : Level) → IsLevel (is_pure s) l → IsKept s (side_under false s l) (side_under true s l)
under_kept Pure Zero i = refl
under_kept Pure One i = refl
under_kept Pure Z i = elim i [ inl e ↦ cc | inr e ↦ cc ]
under_kept Pure X i = elim i [ inl e ↦ cc | inr e ↦ cc ]
under_kept High Zero i = λ h. h
under_kept High One i = λ h. h
under_kept High Z i = λ h. refl
under_kept High X i = λ h. refl
under_kept Low Zero i = λ h. h
under_kept Low One i = λ h. h
under_kept Low Z i = λ h. refl
under_kept Low X i = λ h. refl

-- the negated Boolean of the other literal is this one, with the unknowns the other way round
pub under_high : (u : Bool) (l : Level) → not (side_under u Low l) ≡ side_under (not u) High l
under_high true Zero = refl
under_high true One = refl
under_high true Z = refl
under_high true X = refl
under_high false Zero = refl
under_high false One = refl
under_high false Z = refl
under_high false X = refl

pub under_low : (u : Bool) (l : Level) → not (side_under u High l) ≡ side_under (not u) Low l
under_low true Zero = refl
under_low true One = refl
under_low true Z = refl
under_low true X = refl
under_low false Zero = refl
under_low false One = refl
under_low false Z = refl
under_low false X = refl

pub under_pure : (u : Bool) (l : Level) → IsLevel true l → side_under u Pure l ≡ side_under (not u) Pure l
under_pure true Zero i = refl
under_pure true One i = refl
under_pure true Z i = elim i [ inl e ↦ cc | inr e ↦ cc ]
under_pure true X i = elim i [ inl e ↦ cc | inr e ↦ cc ]
under_pure false Zero i = refl
under_pure false One i = refl
under_pure false Z i = elim i [ inl e ↦ cc | inr e ↦ cc ]
under_pure false X i = elim i [ inl e ↦ cc | inr e ↦ cc ]

-- a variable's Boolean where its literals have the values that a function takes with the unknowns false and true
pub under_between : (u : Bool) (s : Side) (a b : Bool) → (a ≡ true → b ≡ true) → (IsPureSide s → a ≡ b)
    → side_of s (if u then b else a) (not (if u then a else b)) ≡ side_under u s (level_between a b)
under_between true Pure true true h k = refl
under_between true Pure true false h k = absurd (true≢false (sym (h refl)))
under_between true Pure false true h k = absurd (true≢false (sym (k tt)))
under_between true Pure false false h k = refl
under_between true High true true h k = refl
under_between true High true false h k = absurd (true≢false (sym (h refl)))
under_between true High false true h k = refl
under_between true High false false h k = refl
under_between true Low true true h k = refl
under_between true Low true false h k = absurd (true≢false (sym (h refl)))
under_between true Low false true h k = refl
under_between true Low false false h k = refl
under_between false Pure true true h k = refl
under_between false Pure true false h k = absurd (true≢false (sym (h refl)))
under_between false Pure false true h k = absurd (true≢false (sym (k tt)))
under_between false Pure false false h k = refl
under_between false High true true h k = refl
under_between false High true false h k = absurd (true≢false (sym (h refl)))
under_between false High false true h k = refl
under_between false High false false h k = refl
under_between false Low true true h k = refl
under_between false Low true false h k = absurd (true≢false (sym (h refl)))
under_between false Low false true h k = refl
under_between false Low false false h k = refl

-- a function that does not fall has the value of a product, a sum and an inversion by its parts' values
pub level_and : (a b c d : Bool) → (a ≡ true → b ≡ true) → (c ≡ true → d ≡ true) → level_between (a && c) (b && d) ≡ and3 (level_between a b) (level_between c d)
level_and true true true true h k = refl
level_and true true true false h k = absurd (true≢false (sym (k refl)))
level_and true true false true h k = refl
level_and true true false false h k = refl
level_and true false true true h k = absurd (true≢false (sym (h refl)))
level_and true false true false h k = absurd (true≢false (sym (h refl)))
level_and true false false true h k = absurd (true≢false (sym (h refl)))
level_and true false false false h k = absurd (true≢false (sym (h refl)))
level_and false true true true h k = refl
level_and false true true false h k = absurd (true≢false (sym (k refl)))
level_and false true false true h k = refl
level_and false true false false h k = refl
level_and false false true true h k = refl
level_and false false true false h k = absurd (true≢false (sym (k refl)))
level_and false false false true h k = refl
level_and false false false false h k = refl

pub level_or : (a b c d : Bool) → (a ≡ true → b ≡ true) → (c ≡ true → d ≡ true) → level_between (a || c) (b || d) ≡ or3 (level_between a b) (level_between c d)
level_or true true true true h k = refl
level_or true true true false h k = absurd (true≢false (sym (k refl)))
level_or true true false true h k = refl
level_or true true false false h k = refl
level_or true false true true h k = absurd (true≢false (sym (h refl)))
level_or true false true false h k = absurd (true≢false (sym (h refl)))
level_or true false false true h k = absurd (true≢false (sym (h refl)))
level_or true false false false h k = absurd (true≢false (sym (h refl)))
level_or false true true true h k = refl
level_or false true true false h k = absurd (true≢false (sym (k refl)))
level_or false true false true h k = refl
level_or false true false false h k = refl
level_or false false true true h k = refl
level_or false false true false h k = absurd (true≢false (sym (k refl)))
level_or false false false true h k = refl
level_or false false false false h k = refl

pub level_not : (a b : Bool) → (a ≡ true → b ≡ true) → level_between (not b) (not a) ≡ not3 (level_between a b)
level_not true true h = refl
level_not true false h = absurd (true≢false (sym (h refl)))
level_not false true h = refl
level_not false false h = refl

-- what a function may have as its value: a pure one is 0 or 1
pub between_level : (pure a b : Bool) → (a ≡ true → b ≡ true) → (pure ≡ true → a ≡ b) → IsLevel pure (level_between a b)
between_level true true true h k = inr refl
between_level true true false h k = absurd (true≢false (sym (h refl)))
between_level true false true h k = absurd (true≢false (sym (k refl)))
between_level true false false h k = inl refl
between_level false true true h k = λ e. cc
between_level false true false h k = absurd (true≢false (sym (h refl)))
between_level false false true h k = λ e. cc
between_level false false false h k = λ e. cc
