-- Two tests at once.
use Rattle.std.proofs.Common.{◌≡◌, ◌↔◌, ◌&&◌, Bool, true, false, refl, IsTrue}

pub both-hold : (q r s : Bool) (P Q : Type 0) → s ≡ (q && r) → (IsTrue q ↔ P) → (IsTrue r ↔ Q) → IsTrue s ↔ (P × Q)
both-hold true true s P Q e f g = (λ h. (f.0 refl, g.0 refl), λ h. e)
both-hold true false s P Q e f g = (λ h. absurd (let w : false ≡ true = cc in cc), λ h. let w : false ≡ true = g.1 h.1 in cc)
both-hold false r s P Q e f g = (λ h. absurd (let w : false ≡ true = cc in cc), λ h. let w : false ≡ true = f.1 h.0 in cc)
