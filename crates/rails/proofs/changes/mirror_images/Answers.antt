use Rattle.std.proofs.Common.{◌≡◌, ◌+◌, ◌∙◌, sym, arith, slice_get, get_or, Some, length, length-append, subst, ◌++◌, ◌∷◌, []}
use Rattle.std.proofs.lemmas.Option.{slice_get-get_or}
use Rattle.mig_base.specs.declared.nets.Var.TheVariants.{Net}
use Rattle.rails.specs.declared.Side.TheVariants.{Pure}
use Rattle.rails.specs.declared.Rail.{Rail}
use Rattle.rails.specs.Points.{mirror}
use Rattle.rails.specs.Compose.{AreImages}
use Rattle.rails.proofs.ImageLemmas.{images_kept, images_push, is_mirror, within}
use Rattle.rails.proofs.changes.mirror_images.Goals as goal
use Rattle.rails.proofs.changes.mirror_images.Goals.{In-loop-place}
use Rattle.bdd.proofs.GraphLemmas.{keeps_trans}

-- the Boolean at the place
abbrev here : In-loop-place → Rail
here c = get_or c.args.rails.now c.loop-place.place (record { var = Net 0; variable = 0; side = Pure })

here_is : (c : In-loop-place) → slice_get c.args.rails.now c.loop-place.place ≡ Some (here c)
here_is c =
    slice_get-get_or c.args.rails.now c.loop-place.place (record { var = Net 0; variable = 0; side = Pure })
    (omega (arith, c.requires.fit, c.vars-place-end.ensures.vars, c.loop-place-test.true))

pub opposite-requires-clause-within : goal.opposite-requires-clause-within
opposite-requires-clause-within c =
    within c.args.rails.now c.loop-place.place c.loop-place.graph.vars (here (goal.at.opposite-requires-clause-within c).In-loop-place)
    (c.loop-place.invariant.keeps.vars ∙ c.requires.fit) (here_is (goal.at.opposite-requires-clause-within c).In-loop-place) c.requires.paired

pub loop-place-preserved : goal.loop-place-preserved
loop-place-preserved c =
    let s = (goal.at.loop-place-preserved c).In-loop-place in
    let images = c.loop-place.images.items in
    let count : length (images ++ c.in_ok-image.image ∷ []) ≡ c.loop-place.place + 1 = omega (arith, c.loop-place.invariant.count, length-append images (c.in_ok-image.image ∷ [])) in
    record {
      keeps = keeps_trans c.args.graph.now c.loop-place.graph c.opposite.new.graph c.loop-place.invariant.keeps c.opposite.ensures.keeps;
      canonical = c.opposite.ensures.canonical;
      count = rw c.in_ok-push.ensures.items count;
      images = subst (AreImages c.opposite.new.graph (mirror c.args.rails.now)) (sym c.in_ok-push.ensures.items)
          (images_push c.opposite.new.graph (mirror c.args.rails.now) images c.in_ok-image.image c.loop-place.place c.loop-place.invariant.count
          (images_kept c.loop-place.graph c.opposite.new.graph (mirror c.args.rails.now) images c.opposite.ensures.keeps c.loop-place.invariant.images)
          (is_mirror c.opposite.new.graph c.args.rails.now c.loop-place.place (here s) c.in_ok-image.image (here_is s) c.in_ok-image.ensures.image));
    }
