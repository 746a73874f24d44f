use Rattle.std.proofs.Common.{◌≡◌, ◌+◌, ◌++◌, drop}
use Rattle.std.specs.Prelude.{filter, not}
use Rattle.std.specs.List.{list_any}
use Rattle.mig_base.specs.Boards.{is_port, places_from}
use Rattle.new_board.specs.NewFiles.{stands_on}
use Rattle.new_wirings.proofs.new_wires.push_inner.Given as goal

abbrev pub invariant-loop-place : goal.invariant-loop-place
invariant-loop-place l =
    l.numbers.items ++ filter (λ n. list_any (stands_on n) l.chips) (places_from (λ x. not (is_port x)) (2 + l.place) (drop l.place l.lines))
    ≡ l.fn.numbers.items ++ filter (λ n. list_any (stands_on n) l.chips) (places_from (λ x. not (is_port x)) 2 l.lines)
