-- What files and sinks in memory hold, and which of their calls fail.
use Rattle.std.specs.Prelude.{ℕ, ◌≡◌, ◌+◌, ◌-◌, ◌^◌, min, Bool, true, false, List, [], ◌∷◌, Option, Some, None, if◌then◌else◌, Vec, ◌==◌, Result, Ok, Err, is_none, take}
use Rattle.std.specs.Option.{option_map}
use Rattle.std.specs.List.{list_any}
use Rattle.std.specs.Str.{bytes_eq}
use Rattle.std.specs.declared.alloc.Global.{Global}
use Rattle.mig_io.specs.Holding.{Held, placed}
use Rattle.mig_io.specs.declared.files.LoadError.{LoadError}
use Rattle.mig_io.specs.declared.files.LoadError.TheVariants as loading
use Rattle.mig_io.specs.declared.files.SaveError.{SaveError}
use Rattle.mig_io.specs.declared.files.SaveError.TheVariants as saving
use Rattle.mig_io.specs.declared.sink.PutError.{PutError}
use Rattle.mig_io.specs.declared.sink.PutError.TheVariants as putting

-- the first file of this name
abbrev pub first_named : List (List ℕ × Vec ℕ Global) → Held
first_named [] name = None
first_named (f ∷ fs) name = if bytes_eq name f.0 then Some f.1.items else first_named fs name

-- the number of the next call, from 1; the last value stays
abbrev pub next_call : ℕ → ℕ
next_call calls = min (calls + 1) (2 ^ 64 - 1)

-- whether the call of this number is to fail
abbrev pub is_listed : List ℕ → ℕ → Bool
is_listed bad call = list_any (λ k. k == call) bad

-- a load fails exactly where it is listed, and else misses exactly where the name isn't held; want of memory aside
abbrev pub LoadFailsAt : Bool → Option (List ℕ) → Result (Vec ℕ Global) LoadError → Type 0
LoadFailsAt listed found (Ok v) = (listed ≡ false) × (is_none found ≡ false)
LoadFailsAt listed found (Err loading.Failed) = listed ≡ true
LoadFailsAt listed found (Err loading.Missing) = (listed ≡ false) × (is_none found ≡ true)
LoadFailsAt listed found (Err loading.Memory) = Unit {0}

-- a save fails exactly where it is listed; want of memory aside
abbrev pub SaveFailsAt : {T : Type 0} → Bool → Result T SaveError → Type 0
SaveFailsAt listed (Ok done) = listed ≡ false
SaveFailsAt listed (Err saving.Failed) = listed ≡ true
SaveFailsAt listed (Err saving.Memory) = Unit {0}

-- a put fails exactly where it is listed; want of memory aside
abbrev pub PutFailsAt : {T : Type 0} → Bool → Result T PutError → Type 0
PutFailsAt listed (Ok done) = listed ≡ false
PutFailsAt listed (Err putting.Failed) = listed ≡ true
PutFailsAt listed (Err putting.Memory) = Unit {0}

-- a part of what was found, or that nothing was
abbrev pub IsPartOf : Option (List ℕ) → ℕ → Result (Vec ℕ Global) LoadError → Type 0
IsPartOf found most (Ok v) = option_map (take (most + 1)) found ≡ Some v.items
IsPartOf found most (Err loading.Missing) = found ≡ None
IsPartOf found most (Err loading.Failed) = ⊥
IsPartOf found most (Err loading.Memory) = Unit {0}

-- the bytes stand first under the name, or nothing changed
abbrev pub PutsFirst : {T : Type 0} → List (List ℕ × Vec ℕ Global) → List (List ℕ × Vec ℕ Global) → List ℕ → List ℕ → Result T SaveError → Type 0
PutsFirst old new name bytes (Ok done) = first_named new ≡ placed name (Some bytes) (first_named old)
PutsFirst old new name bytes (Err saving.Failed) = ⊥
PutsFirst old new name bytes (Err saving.Memory) = new ≡ old
