-- A result where nothing is refused.
use Rattle.std.proofs.Common.{◌≡◌, Option, Some, None, Result, Ok, Err, refl}
use Rattle.mig_base.specs.First.{unless}

pub unless-ok : {E A : Type 0} (o : Option E) (a b : A) → unless o (let r : Result A E = Ok a in r) ≡ Ok b → (o ≡ None) × (a ≡ b)
unless-ok None a b e = (refl, cc)
unless-ok (Some x) a b e = cc

pub unless-err : {E A : Type 0} (o : Option E) (a : A) (x : E) → unless o (let r : Result A E = Ok a in r) ≡ Err x → o ≡ Some x
unless-err None a x e = cc
unless-err (Some y) a x e = cc
