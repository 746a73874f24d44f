use Rattle.std.proofs.Common.{◌≡◌, ◌+◌, ◌∙◌, sym, arith, slice_get, get_or, Some, length, length-append, subst, ◌++◌, ◌∷◌, []}
use Rattle.std.proofs.lemmas.Option.{slice_get-get_or}
use Rattle.mig_base.specs.declared.nets.Var.TheVariants.{Net}
use Rattle.bdd.specs.Tree.{Point}
use Rattle.bdd.specs.Diagram.{function_of}
use Rattle.bdd.proofs.GraphLemmas.{keeps_trans}
use Rattle.rails.specs.declared.Side.TheVariants.{Pure}
use Rattle.rails.specs.declared.Rail.{Rail}
use Rattle.rails.specs.Points.{put, put_at, Is}
use Rattle.rails.specs.Compose.{AreImages}
use Rattle.rails.proofs.ComposeLemmas.{function_kept}
use Rattle.rails.proofs.ImageLemmas.{images_kept, images_push, is_put}
use Rattle.rails.proofs.changes.put_images.Goals as goal
use Rattle.rails.proofs.changes.put_images.Goals.{In-loop-place, In_ok-image}

-- the Boolean at the place
abbrev here : In-loop-place → Rail
here c = get_or c.args.rails.now c.loop-place.place (record { var = Net 0; variable = 0; side = Pure })

here_is : (c : In-loop-place) → slice_get c.args.rails.now c.loop-place.place ≡ Some (here c)
here_is c =
    slice_get-get_or c.args.rails.now c.loop-place.place (record { var = Net 0; variable = 0; side = Pure })
    (omega (arith, c.requires.fit, c.vars-place-end.ensures.vars, c.loop-place-test.true))

abbrev change : In-loop-place → Point → Point
change c p = put c.args.rails.now c.args.v (function_of c.args.graph.now c.args.g p) (function_of c.args.graph.now c.args.inverse p) p

pub put-requires-clause-valid : goal.put-requires-clause-valid
put-requires-clause-valid c = c.loop-place.invariant.keeps.valid c.args.g c.requires.valid

pub put-requires-clause-inverse_valid : goal.put-requires-clause-inverse_valid
put-requires-clause-inverse_valid c = c.loop-place.invariant.keeps.valid c.args.inverse c.requires.inverse_valid

-- the image speaks of the functions as they were at first
image : (c : In_ok-image) → Is c.put.new.graph (λ p. put_at (Some (here (goal.at-In_ok-image c).In-loop-place)) c.args.v (function_of c.args.graph.now c.args.g p) (function_of c.args.graph.now c.args.inverse p) (p c.loop-place.place)) c.in_ok-image.image
image c =
    let k = c.loop-place.invariant.keeps in
    record {
      valid = c.in_ok-image.ensures.image.valid;
      means = λ p. c.in_ok-image.ensures.image.means p
          ∙ (λ i. put_at (Some (here (goal.at-In_ok-image c).In-loop-place)) c.args.v
          (function_kept c.args.graph.now c.loop-place.graph c.args.g k c.requires.valid p i)
          (function_kept c.args.graph.now c.loop-place.graph c.args.inverse k c.requires.inverse_valid p i) (p c.loop-place.place));
    }

pub loop-place-preserved : goal.loop-place-preserved
loop-place-preserved c =
    let s = (goal.at.loop-place-preserved c).In-loop-place in
    let images = c.loop-place.images.items in
    let count : length (images ++ c.in_ok-image.image ∷ []) ≡ c.loop-place.place + 1 = omega (arith, c.loop-place.invariant.count, length-append images (c.in_ok-image.image ∷ [])) in
    record {
      keeps = keeps_trans c.args.graph.now c.loop-place.graph c.put.new.graph c.loop-place.invariant.keeps c.put.ensures.keeps;
      canonical = c.put.ensures.canonical;
      count = rw c.in_ok-push.ensures.items count;
      images = subst (AreImages c.put.new.graph (change s)) (sym c.in_ok-push.ensures.items)
          (images_push c.put.new.graph (change s) images c.in_ok-image.image c.loop-place.place c.loop-place.invariant.count
          (images_kept c.loop-place.graph c.put.new.graph (change s) images c.put.ensures.keeps c.loop-place.invariant.images)
          (is_put c.put.new.graph c.args.rails.now c.loop-place.place (here s) c.args.v (function_of c.args.graph.now c.args.g) (function_of c.args.graph.now c.args.inverse)
          c.in_ok-image.image (here_is s) (image (goal.at.loop-place-preserved c).In_ok-image)));
    }
