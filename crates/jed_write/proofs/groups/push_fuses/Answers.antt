use Rattle.std.proofs.Common.{◌≡◌, ◌-◌, ◌*◌, ◌++◌, List, ℕ, length, sum, ap, ◌∙◌, arith, true}
use Rattle.std.specs.Prelude.{replicate}
use Rattle.mig_base.specs.DeviceTables.{array_width}
use Rattle.mig_base.specs.WrittenFuses.{array_rows, row_sizes, tail_sizes, groups_by}
use Rattle.jed_write.proofs.PartLemmas.{Fits, fits, groups_text, fuses-written}
use Rattle.jed_write.proofs.groups.push_fuses.Goals as goal

pub push_groups-requires-2-clause-whole : goal.push_groups-requires-2-clause-whole
push_groups-requires-2-clause-whole c =
    let k = c.args.kind in
    let states = c.args.states.now in
    let f : Fits k states = fits k states c.requires in
    let mid : c.array_of-rows.result.0 * c.array_of-rows.result.1 ≡ array_rows k * array_width k = cc in
    let tails : sum c.tail_of.result.now ≡ sum (tail_sizes k (length states)) = ap sum c.tail_of.ensures in
    let behind : sum (tail_sizes k (length states)) ≡ length states - array_rows k * array_width k = f.behind in
    omega arith

pub push_groups-requires-2-clause-few : goal.push_groups-requires-2-clause-few
push_groups-requires-2-clause-few c =
    let f : Fits c.args.kind c.args.states.now = fits c.args.kind c.args.states.now c.requires in
    omega arith

pub returns : goal.returns
returns c =
    let k = c.args.kind in
    let states = c.args.states.now in
    let array = c.array_of-rows.result.0 * c.array_of-rows.result.1 in
    let mid : array ≡ array_rows k * array_width k = cc in
    let sizes : c.as_slice.result.now ≡ row_sizes k =
    c.as_slice.ensures.value ∙ c.in_ok-sizes.ensures.items_if_clones_equal (λ y e. e)
    ∙ ap (λ (n : ℕ). replicate n c.array_of-rows.result.1) c.array_of-rows.ensures.rows ∙ ap (λ (w : ℕ). replicate (array_rows k) w) c.array_of-rows.ensures.width in
    c.in_ok-push_groups-2.ensures
    ∙ ap (λ (text : List ℕ). text ++ groups_text array (groups_by true c.tail_of.result.now c.split_at.result.1.now)) c.in_ok-push_groups.ensures
    ∙ fuses-written k states (fits k states c.requires) c.args.text.now.items array c.as_slice.result.now c.tail_of.result.now c.split_at.result.0.now c.split_at.result.1.now
    mid sizes c.tail_of.ensures c.split_at.ensures.front c.split_at.ensures.back
