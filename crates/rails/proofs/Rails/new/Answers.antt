use Rattle.std.proofs.Common.{ap, arith, length}
use Rattle.rails.specs.Variables.{all_rails}
use Rattle.rails.proofs.RailLemmas.{rails_few}
use Rattle.rails.proofs.Rails.new.Goals as goal

pub overflow_cast-len : goal.overflow_cast-len
overflow_cast-len c = omega (arith, rails_few 0 c.args.vars.items, c.len.ensures, ap length c.in_ok-rails.ensures, ap (λ vs. length (all_rails vs)) c.as_slice.ensures.value, c.requires.few)
