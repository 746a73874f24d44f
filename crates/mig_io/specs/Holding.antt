-- What a files object holds and what a sink was sent, where they tell it.
use Rattle.std.specs.Prelude.{ℕ, ◌≡◌, ◌≢◌, ◌+◌, List, ◌++◌, take, Option, Some, None, if◌then◌else◌, Result, IfOk, OnOk, IfSome, IsErrOf, Vec}
use Rattle.std.specs.Option.{option_map}
use Rattle.std.specs.Str.{bytes_eq}
use Rattle.std.specs.declared.alloc.Global.{Global}
use Rattle.mig_io.specs.declared.files.LoadError.{LoadError}
use Rattle.mig_io.specs.declared.files.LoadError.TheVariants as loading
use Rattle.mig_io.specs.declared.files.SaveError.{SaveError}
use Rattle.mig_io.specs.declared.files.SaveError.TheVariants as saving
use Rattle.mig_io.specs.declared.sink.PutError.{PutError}
use Rattle.mig_io.specs.declared.sink.PutError.TheVariants as putting

-- the bytes of each file that is held, by its name
abbrev pub Held : Type 0
Held = List ℕ → Option (List ℕ)

-- the same but for this name
abbrev pub placed : List ℕ → Option (List ℕ) → Held → Held
placed name content held = λ other. if bytes_eq other name then content else held other

-- every other name holds what it held; this one's content is open
abbrev pub SameBut : List ℕ → Option Held → Option Held → Type 0
SameBut name None None = Unit {0}
SameBut name (Some old) (Some new) = (other : List ℕ) → other ≢ name → new other ≡ old other
SameBut name None (Some new) = ⊥
SameBut name (Some old) None = ⊥

-- a load gives the whole file if it has at most so many bytes, else its first bytes up to one more
pub record Loads (held now : Option Held) (name : List ℕ) (most : ℕ) (result : Result (Vec ℕ Global) LoadError) : Type 0 where
  pub same : now ≡ held
  pub bytes : IfOk result (λ v. IfSome held (λ h. option_map (take (most + 1)) (h name) ≡ Some v.items))
  pub missing : IsErrOf result loading.Missing → IfSome held (λ h. h name ≡ None)

-- a save puts the bytes under the name, or leaves its content open, or changes nothing
pub record Saves {T : Type 0} (old new : Option Held) (name bytes : List ℕ) (result : Result T SaveError) : Type 0 where
  pub ok : OnOk result (new ≡ option_map (placed name (Some bytes)) old)
  pub failed : IsErrOf result saving.Failed → SameBut name old new
  pub memory : IsErrOf result saving.Memory → new ≡ old

-- a put appends the bytes, or a part of them, or nothing
pub record Puts {T : Type 0} (old new : Option (List ℕ)) (bytes : List ℕ) (result : Result T PutError) : Type 0 where
  pub ok : OnOk result (new ≡ option_map (λ sent. sent ++ bytes) old)
  pub failed : IsErrOf result putting.Failed → (n : ℕ) × (new ≡ option_map (λ sent. sent ++ take n bytes) old)
  pub memory : IsErrOf result putting.Memory → new ≡ old
