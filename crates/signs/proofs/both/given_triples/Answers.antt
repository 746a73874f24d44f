use Rattle.std.proofs.Common.{◌∙◌, ap}
use Rattle.matchings.specs.ByPort.{handed_names}
use Rattle.signs.proofs.NamedLaws.{known-lent}
use Rattle.signs.proofs.both.given_triples.Goals as goal

pub named_triples-requires-clause-known : goal.named_triples-requires-clause-known
named_triples-requires-clause-known c =
    known-lent c.args.a.now.net c.args.b.now.net c.as_slice.result.now c.as_slice-3.result.now c.requires.same (c.as_slice.ensures.value ∙ c.in_ok-names.ensures ∙ ap handed_names c.net.ensures.net)
    (c.as_slice-3.ensures.value ∙ c.in_ok-others.ensures ∙ ap handed_names c.net-2.ensures.net)
