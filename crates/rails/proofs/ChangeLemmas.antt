-- What the two changes of a function's literals make.
use Rattle.std.proofs.Common.{◌≡◌, not, ◌∙◌, ap, List, length, Result, Ok, Err, IfOk}
use Rattle.std.specs.Prelude.{IsOkAnd}
use Rattle.bdd.specs.Tree.{Point}
use Rattle.bdd.specs.Diagram.{Diagram, IsValid, function_of, Keeps, IsNegation}
use Rattle.bdd.specs.declared.Ref.{Ref}
use Rattle.bdd.proofs.GraphLemmas.{keeps_trans}
use Rattle.mig_base.specs.declared.nets.Var.{Var}
use Rattle.rails.specs.declared.Rail.{Rail}
use Rattle.rails.specs.Points.{mirror, put, inverse, replacement, Is}
use Rattle.rails.specs.Compose.{IsComposed, AreImages}
use Rattle.rails.proofs.ComposeLemmas.{function_kept}
use Rattle.rails.proofs.ImageLemmas.{composed_is, mirror_past, put_past}

pub ok_and : {E : Type 0} (P Q : Ref → Type 0) (o : Result Ref E) → IsOkAnd o P → ((r : Ref) → P r → Q r) → IfOk o Q
ok_and P Q (Ok r) h k = k r h
ok_and P Q (Err e) h k = tt

-- the negation of f of the mirrored Booleans is the inverse
pub inverse_is : (a b c d : Diagram) (rs : List Rail) (images : List Ref) (f m r : Ref) → Keeps a b → length images ≡ length rs → AreImages b (mirror rs) images → IsValid a f
    → IsComposed b c images f m → IsNegation c d m r → Is d (inverse rs (function_of a f)) r
inverse_is a b c d rs images f m r k count h v composed negation =
    let is = composed_is b c (mirror rs) images f m h (λ p n l. mirror_past rs (length images) count p n l) composed in
    record {
      valid = negation.valid;
      means = λ p. negation.means p ∙ ap not (is.means p ∙ function_kept a b f k v (mirror rs p));
    }

-- f of the put images is f with the literals replaced
pub replacement_is : (a b c d : Diagram) (rs : List Rail) (images : List Ref) (f g i r : Ref) (v : Var) → Keeps a b → Keeps b c → IsValid a f → IsValid a g
    → Is b (inverse rs (function_of a g)) i → length images ≡ length rs → AreImages c (λ p. put rs v (function_of b g p) (function_of b i p) p) images
    → IsComposed c d images f r → Is d (replacement rs (function_of a f) v (function_of a g)) r
replacement_is a b c d rs images f g i r v kab kbc vf vg inverse_g count h composed =
    let change : Point → Point = λ p. put rs v (function_of b g p) (function_of b i p) p in
    let is = composed_is c d change images f r h (λ p n l. put_past rs v (function_of b g) (function_of b i) (length images) count p n l) composed in
    record {
      valid = is.valid;
      means = λ p. is.means p ∙ function_kept a c f (keeps_trans a b c kab kbc) vf (change p)
          ∙ (λ j. function_of a f (put rs v (function_kept a b g kab vg p j) (inverse_g.means p j) p));
    }
