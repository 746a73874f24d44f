-- What holds of a result that is known.
use Rattle.std.proofs.Common.{◌≡◌, Result, Ok, Err, subst}
use Rattle.std.specs.Prelude.{IfOk, IfErr}

pub if-ok : {A E : Type 0} (r : Result A E) (x : A) (P : A → Type 0) → r ≡ Ok x → IfOk r P → P x
if-ok r x P e p = subst (λ q. IfOk q P) e p

pub if-err : {A E : Type 0} (r : Result A E) (x y : E) (P : E → Type 0) → r ≡ Err x → x ≡ y → IfErr r P → P y
if-err r x y P e f p = subst P f (subst (λ q. IfErr q P) e p)
