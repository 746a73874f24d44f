use Rattle.std.proofs.Common.{◌≡◌, ◌<◌, ℕ, arith, sym, ◌∙◌, ap, slice_get, get_or, Some, length}
use Rattle.std.proofs.lemmas.Option.{slice_get-get_or}
use Rattle.bdd.specs.Diagram.{Keeps, tree}
use Rattle.bdd.proofs.GraphLemmas.{keeps_trans}
use Rattle.rails.specs.Compose.{IsComposed, IsTrueTable, height}
use Rattle.rails.proofs.ComposeLemmas.{table_same, entry_after, all_valid_kept, table_kept, table_grown, composed_choice, height_high, height_low, valid_at}
use Rattle.rails.proofs.composing.+compose.Goals as goal
use Rattle.rails.proofs.composing.+compose.Goals.{After-ite, In_ok-r}

pub compose-requires : goal.compose-requires
compose-requires t c =
    let d = c.args.graph.now in
    let s = c.in-Some-split.ensures.split in
    let f = height_low c.in-Some-split.v (tree d c.args.f) (tree d c.in-Some-split.low) (tree d c.in-Some-split.high) s.tree in
    (omega arith, (s.low_valid, (c.requires.images, (c.requires.count, c.requires.known))))

pub compose-requires-2 : goal.compose-requires-2
compose-requires-2 t c =
    let d = c.args.graph.now in
    let s = c.in-Some-split.ensures.split in
    let k = c.compose.ensures.keeps in
    let f = height_high c.in-Some-split.v (tree d c.args.f) (tree d c.in-Some-split.low) (tree d c.in-Some-split.high) s.tree in
    let e = ap height (k.tree c.in-Some-split.high s.high_valid) in (
      omega arith,
      (
        k.valid c.in-Some-split.high s.high_valid,
        (all_valid_kept d c.compose.new.graph c.args.images.now k c.requires.images, (c.requires.count ∙ sym k.vars, c.compose.ensures.known)),
      ),
    )

-- what holds after the choice was made
module _ (t : ℕ) (c : After-ite t) where
  before : Keeps c.args.graph.now c.compose-2.new.graph
  before = keeps_trans c.args.graph.now c.compose.new.graph c.compose-2.new.graph c.compose.ensures.keeps c.compose-2.ensures.keeps

  keeps : Keeps c.args.graph.now c.ite.new.self
  keeps = keeps_trans c.args.graph.now c.compose-2.new.graph c.ite.new.self before c.ite.ensures.keeps

  known : IsTrueTable c.ite.new.self c.args.images.now c.compose-2.new.known
  known = table_kept c.compose-2.new.graph c.ite.new.self c.args.images.now c.compose-2.new.known c.ite.ensures.keeps
      (all_valid_kept c.args.graph.now c.compose-2.new.graph c.args.images.now before c.requires.images) c.compose-2.ensures.known

pub returns-in_err-r-clause-known : goal.returns-in_err-r-clause-known
returns-in_err-r-clause-known t c = known t (goal.at.returns-in_err-r-clause-known t c).After-ite

pub returns-in_err-insert-clause-known : goal.returns-in_err-insert-clause-known
returns-in_err-insert-clause-known t c =
    table_same c.ite.new.self c.args.images.now c.compose-2.new.known c.insert.new.self c.in_err-insert.ensures.err
    (known t (goal.at.returns-in_err-insert-clause-known t c).After-ite)

composed : (t : ℕ) (c : In_ok-r t) → IsComposed c.args.graph.now c.ite.new.self c.args.images.now c.args.f c.in_ok-r.r
composed t c =
    let s = c.in-Some-split.ensures.split in
    let v = c.in-Some-split.v in
    let images = c.args.images.now in
    let within : v < length images = omega (arith, c.requires.count, s.var) in
    let g = get_or images v (record { 0 = 0 }) in
    let at : slice_get images v ≡ Some g = slice_get-get_or images v (record { 0 = 0 }) within in
    composed_choice c.args.graph.now c.compose.new.graph c.compose-2.new.graph c.ite.new.self images c.args.f c.in-Some-split.low c.in-Some-split.high
    c.in_ok-low.low c.in_ok-high.high g c.in_ok-r.r v c.compose.ensures.keeps c.compose-2.ensures.keeps c.requires.images s at
    (valid_at c.args.graph.now images v g c.requires.images at) c.in_ok-low.ensures.composed c.in_ok-high.ensures.composed c.in_ok-r.ensures.ite

pub returns-clause-composed : goal.returns-clause-composed
returns-clause-composed t c = composed t (goal.at.returns-clause-composed t c).In_ok-r

pub returns-clause-known : goal.returns-clause-known
returns-clause-known t c =
    let a = goal.at.returns-clause-known t c in
    table_grown c.ite.new.self c.args.images.now c.compose-2.new.known c.insert.new.self c.args.f c.in_ok-r.r c.in_ok-insert.ensures.updates
    (known t a.After-ite)
    (entry_after c.args.graph.now c.ite.new.self c.args.images.now c.args.f c.in_ok-r.r (keeps t a.After-ite) c.requires.images c.requires.valid (composed t a.In_ok-r))
