use Rattle.std.proofs.Common.{◌∙◌, sym, subst, ap, length, List}
use Rattle.std.proofs.lemmas.Result.{IfOk-weaker}
use Rattle.bdd.specs.Tree.{Point}
use Rattle.bdd.specs.Diagram.{function_of, Keeps}
use Rattle.bdd.specs.declared.Ref.{Ref}
use Rattle.bdd.proofs.GraphLemmas.{keeps_trans}
use Rattle.rails.specs.Points.{put}
use Rattle.rails.specs.Compose.{AllValid, IsComposed}
use Rattle.rails.proofs.ComposeLemmas.{table_empty}
use Rattle.rails.proofs.ImageLemmas.{images_valid}
use Rattle.rails.proofs.ChangeLemmas.{replacement_is}
use Rattle.rails.proofs.changes.replaced.Goals as goal
use Rattle.rails.proofs.changes.replaced.Goals.{In_ok-images}

-- what was kept until the images were made
keeps : (c : In_ok-images) → Keeps c.args.graph.now c.put_images.new.graph
keeps c = keeps_trans c.args.graph.now c.inverted.new.graph c.put_images.new.graph c.inverted.ensures.keeps c.put_images.ensures.keeps

abbrev change : In_ok-images → Point → Point
change c p = put c.args.rails.now c.args.v (function_of c.inverted.new.graph c.args.g p) (function_of c.inverted.new.graph c.in_ok-inverse.inverse p) p

pub compose-requires : goal.compose-requires
compose-requires c =
    let e = c.put_images.new.graph in
    let s = (goal.at.compose-requires c).In_ok-images in
    record {
      valid = (keeps s).valid c.args.f c.requires.valid;
      images = subst (λ (xs : List Ref). AllValid e xs) (sym c.as_slice.ensures.value) (images_valid e (change s) c.in_ok-images.images.items c.in_ok-images.ensures.images);
      count = ap length c.as_slice.ensures.value ∙ c.in_ok-images.ensures.count ∙ sym c.requires.fit ∙ sym (keeps s).vars;
      known = table_empty e c.as_slice.result.now c.new-known.result c.new-known.ensures.empty;
    }

pub returns-clause-replacement : goal.returns-clause-replacement
returns-clause-replacement c =
    let images = c.in_ok-images.images.items in
    let e = c.put_images.new.graph in
    IfOk-weaker c.compose.result _ _
    (λ r composed. replacement_is c.args.graph.now c.inverted.new.graph e c.compose.new.graph c.args.rails.now images c.args.f c.args.g c.in_ok-inverse.inverse r c.args.v
    c.in_ok-inverse.ensures.keeps c.in_ok-images.ensures.keeps c.requires.valid c.requires.valid_g c.in_ok-inverse.ensures.inverse
    c.in_ok-images.ensures.count c.in_ok-images.ensures.images
    (subst (λ (xs : List Ref). IsComposed e c.compose.new.graph xs c.args.f r) c.as_slice.ensures.value composed))
    c.compose.ensures.composed
