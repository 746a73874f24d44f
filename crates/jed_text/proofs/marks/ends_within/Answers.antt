use Rattle.std.proofs.Common.{◌≡◌, ◌+◌, ℕ, length, leb, ap, sym, ◌∙◌, arith}
use Rattle.std.proofs.lemmas.Bool.{lt-leb}
use Rattle.mig_base.specs.FuseText as spec
use Rattle.jed_text.proofs.MarkLemmas.{end-within, states-count}
use Rattle.jed_text.proofs.marks.ends_within.Goals as goal

pub returns : goal.returns
returns c =
    let states : length (spec.states_of c.args.digits.now) ≡ c.state_count-states.result = states-count c.args.digits.now ∙ sym c.state_count-states.ensures in
    end-within c.args.first c.state_count-states.result c.args.count (omega arith) ∙ ap (λ (n : ℕ). leb (c.args.first + n) c.args.count) (sym states)

pub returns-then-states-count : goal.returns-then-states-count
returns-then-states-count c =
    let states : length (spec.states_of c.args.digits.now) ≡ c.state_count-states.result = states-count c.args.digits.now ∙ sym c.state_count-states.ensures in
    sym (lt-leb (c.args.first + length (spec.states_of c.args.digits.now)) c.args.count (omega arith))
