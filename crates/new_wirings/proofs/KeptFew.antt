-- The kept nets are no more than the named ones.
use Rattle.std.proofs.Common.{ℕ, ◌≡◌, ◌≤◌, ◌+◌, List, length, refl, arith, length-append}
use Rattle.std.specs.Prelude.{filter, not}
use Rattle.std.specs.List.{list_any}
use Rattle.std.proofs.lemmas.List.Filters.{length-filter_both}
use Rattle.mig_base.specs.declared.nets.Net.{Net}
use Rattle.mig_base.specs.Boards.{is_port, places_from}
use Rattle.mig_base.proofs.PlaceLaws.{places-count}
use Rattle.new_board.specs.declared.types.FittedChip.{FittedChip}
use Rattle.new_board.specs.NewFiles.{kept_numbers, stands_on}

pub kept-few : (net : Net) (chips : List FittedChip) → length (kept_numbers net chips) ≤ length net.nets
kept-few net chips =
    let stands = λ (n : ℕ). list_any (stands_on n) chips in
    let inner = places_from (λ l. not (is_port l)) 2 net.nets in
    let split = places-count is_port 2 net.nets in
    let few = length-filter_both stands (λ n. not (stands n)) (λ n. refl) inner in
    let whole : length (kept_numbers net chips) ≡ length (places_from is_port 2 net.nets) + length (filter stands inner) = length-append (places_from is_port 2 net.nets) (filter stands inner) in
    omega arith
