-- Lists that were lent.
use Rattle.std.proofs.Common.{ℕ, ◌≡◌, ◌<◌, false, List, length, get_or, Option, Some, sym, ap, ◌∙◌, subst}
use Rattle.std.specs.Prelude.{slice_get, IfSome}
use Rattle.std.specs.List.{AllByRecursion}
use Rattle.std.proofs.lemmas.Option.{slice_get-get_or}
use Rattle.bdd.specs.Diagram.{Diagram, IsConstant, Keeps}
use Rattle.mig_base.specs.Among.{Among}
use Rattle.mig_base.specs.declared.nets.Net.{Net}
use Rattle.mig_base.specs.declared.circuit.Circuit.{Circuit}
use Rattle.mig_base.specs.declared.circuit.Register.{Register}
use Rattle.matchings.specs.ByPort.{handed_names}
use Rattle.reckoning.specs.declared.triples.Three.{Three}
use Rattle.reckoning.specs.Triples.{AreTriples, IsTriple, NeverFloat}
use Rattle.reckoning.proofs.Kept.{never_kept, triples_kept}
use Rattle.signs.proofs.NamedLaws.{no_three, own-known, triple-read}

pub within-registers : (lent : List Register) (k c : Circuit) (n m : ℕ) → lent ≡ k.registers → k ≡ c → n < length lent → m ≡ length c.registers → n < m
within-registers lent k c n m e f lt g = subst (λ (q : ℕ). n < q) (ap length e ∙ ap (λ (x : Circuit). length x.registers) f ∙ sym g) lt

pub lent-register : (lent : List Register) (k c : Circuit) (n : ℕ) (x d : Register) → lent ≡ k.registers → k ≡ c → n < length lent → x ≡ get_or lent n d → slice_get c.registers n ≡ Some x
lent-register lent k c n x d e f lt is = subst (λ (rs : List Register). slice_get rs n ≡ Some x) (e ∙ ap (λ (y : Circuit). y.registers) f) (slice_get-get_or lent n d lt ∙ ap Some (sym is))

pub lent-there : (ts lent : List Three) (n : ℕ) → lent ≡ ts → n < length ts → slice_get ts n ≡ Some (get_or lent n no_three)
lent-there ts lent n e lt = slice_get-get_or ts n no_three lt ∙ ap (λ (us : List Three). Some (get_or us n no_three)) (sym e)

pub lent-triple : (d g : Diagram) (ts lent : List Three) (n : ℕ) → Keeps d g → AreTriples d ts → lent ≡ ts → n < length ts → IsTriple g (get_or lent n no_three)
lent-triple d g ts lent n keeps are e lt = triple-read g ts n (get_or lent n no_three) (lent-there ts lent n e lt) (triples_kept d g ts keeps are)

pub lent-known : (d g : Diagram) (ts lent : List Three) (n : ℕ) (t : Three) → Keeps d g → NeverFloat d ts → lent ≡ ts → n < length ts → t ≡ get_or lent n no_three → IsConstant g false t.float
lent-known d g ts lent n t keeps never e lt is =
    subst (λ (o : Option Three). IfSome o (λ u. IsConstant g false u.float)) (lent-there ts lent n e lt ∙ ap Some (sym is)) (never_kept d g ts keeps never n)

pub known-own : (a : Net) (lent : List (List ℕ)) → lent ≡ handed_names a → AllByRecursion (λ name. Among name lent) (handed_names a)
known-own a lent e = subst (λ (ns : List (List ℕ)). AllByRecursion (λ name. Among name ns) (handed_names a)) (sym e) (own-known (handed_names a))
