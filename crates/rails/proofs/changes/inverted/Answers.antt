use Rattle.std.proofs.Common.{◌∙◌, sym, subst, ap, length, List}
use Rattle.bdd.specs.Diagram.{IsNegation, function_of}
use Rattle.bdd.specs.declared.Ref.{Ref}
use Rattle.rails.specs.Points.{mirror, inverse, Is}
use Rattle.rails.specs.Compose.{AllValid, IsComposed}
use Rattle.rails.proofs.ComposeLemmas.{table_empty}
use Rattle.rails.proofs.ImageLemmas.{images_valid}
use Rattle.rails.proofs.ChangeLemmas.{ok_and, inverse_is}
use Rattle.rails.proofs.changes.inverted.Goals as goal

pub compose-requires : goal.compose-requires
compose-requires c =
    let e = c.mirror_images.new.graph in
    record {
      valid = c.in_ok-images.ensures.keeps.valid c.args.f c.requires.valid;
      images = subst (λ (xs : List Ref). AllValid e xs) (sym c.as_slice.ensures.value) (images_valid e (mirror c.args.rails.now) c.in_ok-images.images.items c.in_ok-images.ensures.images);
      count = ap length c.as_slice.ensures.value ∙ c.in_ok-images.ensures.count ∙ sym c.requires.fit ∙ sym c.in_ok-images.ensures.keeps.vars;
      known = table_empty e c.as_slice.result.now c.new-known.result c.new-known.ensures.empty;
    }

pub returns-clause-inverse : goal.returns-clause-inverse
returns-clause-inverse c =
    let images = c.in_ok-images.images.items in
    let composed : IsComposed c.mirror_images.new.graph c.compose.new.graph images c.args.f c.in_ok-mirrored.mirrored =
    subst (λ (xs : List Ref). IsComposed c.mirror_images.new.graph c.compose.new.graph xs c.args.f c.in_ok-mirrored.mirrored) c.as_slice.ensures.value c.in_ok-mirrored.ensures.composed in
    ok_and (IsNegation c.compose.new.graph c.not.new.self c.in_ok-mirrored.mirrored) (Is c.not.new.self (inverse c.args.rails.now (function_of c.args.graph.now c.args.f)))
    c.not.result c.not.ensures.negation
    (λ r n. inverse_is c.args.graph.now c.mirror_images.new.graph c.compose.new.graph c.not.new.self c.args.rails.now images c.args.f c.in_ok-mirrored.mirrored r
    c.in_ok-images.ensures.keeps c.in_ok-images.ensures.count c.in_ok-images.ensures.images c.requires.valid composed n)
