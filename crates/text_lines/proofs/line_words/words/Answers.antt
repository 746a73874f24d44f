use Rattle.std.proofs.Common.{rules, ap, ◌∙◌, sym, ◌≡◌, eqb, length}
use Rattle.std.specs.Prelude.{not}
use borrow.Author.Tests.{tests}
use Rattle.std.proofs.lemmas.Iterator.Consumers.{map_from_collect, YieldsList-from_filter}
use Rattle.std.proofs.lemmas.Iterator.Splits.{YieldsList-from_slice_split}
use Rattle.mig_base.specs.Lines.{is_empty, is_gap}
use Rattle.text_lines.proofs.LineSteps.{empty-length}
use Rattle.text_lines.proofs.line_words.words.Goals as goal

pub returns : goal.returns
returns c =
    map_from_collect _ c.collect.ensures.ran
    (YieldsList-from_filter _ (λ w. not (is_empty w))
    (YieldsList-from_slice_split _ is_gap c.args.line.now (cc) (cc) (cc) (λ x r q k. search (rules, tests)))
    c.filter.ensures.closure (λ x r q k. let s : (q ≡ record {}) × (r ≡ not (eqb (length x.now) 0)) = search (rules, tests) in (s.0, s.1 ∙ ap not (sym (empty-length x.now)))))
