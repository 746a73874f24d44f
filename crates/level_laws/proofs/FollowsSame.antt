-- A board that stands for another shown_levels the same.
use Rattle.std.proofs.Common.{ℕ, zero, suc, ◌≡◌, ◌<◌, ◌+◌, List, [], ◌∷◌, Option, Some, None, refl, sym, ap, ◌∙◌, subst, arith}
use Rattle.std.specs.List.{AllByRecursion}
use Rattle.mig_base.specs.declared.levels.Level.{Level}
use Rattle.mig_base.specs.declared.circuit.Read.{Read}
use Rattle.mig_base.specs.declared.circuit.Circuit.{Circuit}
use Rattle.mig_base.specs.declared.circuit.Levels.{Levels}
use Rattle.level_laws.specs.Settled.{IsSettled}
use Rattle.mig_base.specs.Ranked.{Ranked}
use Rattle.mig_base.specs.Reads.{node_reads}
use Rattle.level_laws.specs.Runs.{IsStep, IsRunFrom, next_stored, power_up}
use Rattle.level_laws.specs.SameBehaviour.{IsLawful, ShowsAlike}
use Rattle.level_laws.specs.Follows.{Follows, SameAt}

both : {T : Type 0} (P Q R : T → Type 0) → ((x : T) → P x → Q x → R x) → (xs : List T) → AllByRecursion P xs → AllByRecursion Q xs → AllByRecursion R xs
both P Q R f [] p q = tt
both P Q R f (x ∷ xs) p q = (f x p.0 q.0, both P Q R f xs p.1 q.1)

below : (a b : Circuit) (old : Read → Read) (Kept : Read → Type 0) (Stored : List Level → List Level → Type 0) (rank : Read → ℕ) (top : ℕ) →
    Follows a b old Kept Stored → Ranked b rank top → (sa sb inputs : List Level) (l m : Levels) → Stored sa sb → IsLawful a inputs →
    IsSettled a sa inputs l → IsSettled b sb inputs m → (k : ℕ) (v : Read) → Kept v → rank v < k → SameAt old l m v
below a b old Kept Stored rank top f ranked sa sb inputs l m s lawful sl sm zero v kept low = absurd (omega arith)
below a b old Kept Stored rank top f ranked sa sb inputs l m s lawful sl sm (suc k) v kept low =
    f.local sa sb inputs l m s lawful sl sm v kept
    (both (λ w. rank w < rank v) Kept (SameAt old l m)
    (λ w lower kept. below a b old Kept Stored rank top f ranked sa sb inputs l m s lawful sl sm k w kept (omega arith))
    (node_reads b v) (ranked.falls v) (f.closed v kept))

-- at settled levels every kept node agrees
pub settled-same : (a b : Circuit) (old : Read → Read) (Kept : Read → Type 0) (Stored : List Level → List Level → Type 0) (rank : Read → ℕ) (top : ℕ) →
    Follows a b old Kept Stored → Ranked b rank top → (sa sb inputs : List Level) (l m : Levels) → Stored sa sb → IsLawful a inputs →
    IsSettled a sa inputs l → IsSettled b sb inputs m → (v : Read) → Kept v → SameAt old l m v
settled-same a b old Kept Stored rank top f ranked sa sb inputs l m s lawful sl sm v kept =
    below a b old Kept Stored rank top f ranked sa sb inputs l m s lawful sl sm (rank v + 1) v kept (omega arith)

-- the last inputs, where there are any, were lawful
abbrev WasLawful : Circuit → Option (List Level) → Type 0
WasLawful a None = Unit {0}
WasLawful a (Some last) = IsLawful a last

steps-same : (a b : Circuit) (old : Read → Read) (Kept : Read → Type 0) (Stored : List Level → List Level → Type 0) (rank : Read → ℕ) (top : ℕ) →
    Follows a b old Kept Stored → Ranked b rank top → (sa sb : List Level) (last : Option (List Level)) (inputs ta tb : List Level) → Stored sa sb →
    WasLawful a last → IsLawful a inputs → IsStep a sa last inputs ta → IsStep b sb last inputs tb → Stored ta tb
steps-same a b old Kept Stored rank top f ranked sa sb None inputs ta tb s was lawful pa pb =
    subst (λ q. Stored ta q) (sym pb) (subst (λ q. Stored q sb) (sym pa) s)
steps-same a b old Kept Stored rank top f ranked sa sb (Some last) inputs ta tb s was lawful pa pb =
    subst (λ q. Stored ta q) (sym pb.2) (subst (λ q. Stored q (next_stored b pb.0 last inputs b.registers pb.0.visible)) (sym pa.2)
    (f.step sa sb last inputs pa.0 pb.0 s was lawful pa.1 pb.1 (settled-same a b old Kept Stored rank top f ranked sa sb last pa.0 pb.0 s was pa.1 pb.1)))

from-same : (a b : Circuit) (old : Read → Read) (Kept : Read → Type 0) (Stored : List Level → List Level → Type 0) (rank : Read → ℕ) (top : ℕ) →
    Follows a b old Kept Stored → Ranked b rank top → (inputs shown_a shown_b : List (List Level)) (sa sb : List Level) (last : Option (List Level)) →
    Stored sa sb → WasLawful a last → AllByRecursion (IsLawful a) inputs → IsRunFrom a sa last inputs shown_a → IsRunFrom b sb last inputs shown_b → shown_a ≡ shown_b
from-same a b old Kept Stored rank top f ranked [] [] [] sa sb last s was lawful ra rb = refl
from-same a b old Kept Stored rank top f ranked [] [] (t ∷ ts) sa sb last s was lawful ra rb = absurd rb
from-same a b old Kept Stored rank top f ranked [] (x ∷ xs) tts sa sb last s was lawful ra rb = absurd ra
from-same a b old Kept Stored rank top f ranked (i ∷ is) [] tts sa sb last s was lawful ra rb = absurd ra
from-same a b old Kept Stored rank top f ranked (i ∷ is) (x ∷ xs) [] sa sb last s was lawful ra rb = absurd rb
from-same a b old Kept Stored rank top f ranked (i ∷ is) (x ∷ xs) (t ∷ ts) sa sb last s was lawful ra rb =
    let kept : Stored ra.0 rb.0 = steps-same a b old Kept Stored rank top f ranked sa sb last i ra.0 rb.0 s was lawful.0 ra.2 rb.2 in
    let here : x ≡ t = ra.4 ∙ f.ports ra.1 rb.1 (settled-same a b old Kept Stored rank top f ranked ra.0 rb.0 i ra.1 rb.1 kept lawful.0 ra.3 rb.3) ∙ sym rb.4 in
    ap (λ q. q ∷ xs) here ∙ ap (λ rest. t ∷ rest) (from-same a b old Kept Stored rank top f ranked is xs ts ra.0 rb.0 (Some i) kept lawful.0 lawful.1 ra.5 rb.5)

pub follows-same : (a b : Circuit) (old : Read → Read) (Kept : Read → Type 0) (Stored : List Level → List Level → Type 0) (rank : Read → ℕ) (top : ℕ) →
    Follows a b old Kept Stored → Ranked b rank top → ShowsAlike a b
follows-same a b old Kept Stored rank top f ranked inputs shown_a shown_b lawful ra rb =
    from-same a b old Kept Stored rank top f ranked inputs shown_a shown_b (power_up a) (power_up b) None f.start tt lawful ra rb
