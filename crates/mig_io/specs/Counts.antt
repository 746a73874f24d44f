-- Counts that never fall, and that rise exactly where a call answers so.
use Rattle.std.specs.Prelude.{ℕ, ◌≡◌, ◌≢◌, ◌+◌, ◌-◌, ◌^◌, ◌≤◌, min, Result, Err, IsErrOf}
use Rattle.mig_io.specs.declared.files.LoadError.{LoadError}
use Rattle.mig_io.specs.declared.files.LoadError.TheVariants as loading
use Rattle.mig_io.specs.declared.files.SaveError.{SaveError}
use Rattle.mig_io.specs.declared.files.SaveError.TheVariants as saving
use Rattle.mig_io.specs.declared.sink.PutError.{PutError}
use Rattle.mig_io.specs.declared.sink.PutError.TheVariants as putting

-- greater than before, or at the last value that it can have
abbrev pub Rose : ℕ → ℕ → Type 0
Rose before now = min (before + 1) (2 ^ 64 - 1) ≤ now

-- what a files object has counted
pub record Counts : Type 0 where
  pub read_faults : ℕ
  pub save_faults : ℕ
  pub misses : ℕ

-- no count fell
pub record NoneFell (before now : Counts) : Type 0 where
  pub read_faults : before.read_faults ≤ now.read_faults
  pub save_faults : before.save_faults ≤ now.save_faults
  pub misses : before.misses ≤ now.misses

-- a load fails or misses only where its count rose, and after every other answer the count is what it was
pub record LoadCauses {T : Type 0} (before now : Counts) (result : Result T LoadError) : Type 0 where
  pub later : NoneFell before now
  pub failed : IsErrOf result loading.Failed → Rose before.read_faults now.read_faults
  pub missing : IsErrOf result loading.Missing → Rose before.misses now.misses
  pub read_faults : result ≢ Err loading.Failed → now.read_faults ≡ before.read_faults
  pub misses : result ≢ Err loading.Missing → now.misses ≡ before.misses
  pub save_faults : now.save_faults ≡ before.save_faults

-- a save fails only where its count rose, and after every other answer the count is what it was
pub record SaveCauses {T : Type 0} (before now : Counts) (result : Result T SaveError) : Type 0 where
  pub later : NoneFell before now
  pub failed : IsErrOf result saving.Failed → Rose before.save_faults now.save_faults
  pub read_faults : now.read_faults ≡ before.read_faults
  pub save_faults : result ≢ Err saving.Failed → now.save_faults ≡ before.save_faults
  pub misses : now.misses ≡ before.misses

-- a put fails only where the count rose, and after every other answer the count is what it was
pub record PutCauses {T : Type 0} (before now : ℕ) (result : Result T PutError) : Type 0 where
  pub later : before ≤ now
  pub failed : IsErrOf result putting.Failed → Rose before now
  pub same : result ≢ Err putting.Failed → now ≡ before
