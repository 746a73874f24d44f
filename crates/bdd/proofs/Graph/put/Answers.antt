use Rattle.std.proofs.Common.{◌≡◌, refl, ap, ◌∙◌, slice_get, false}
use Rattle.std.proofs.lemmas.Result.{IfOk-weaker}
use Rattle.bdd.specs.Diagram.{place, is_marked}
use Rattle.bdd.proofs.GraphLemmas.{CanPut, HasPut, has_put, graph_grown}
use Rattle.bdd.proofs.TableLemmas.{table_canonical}
use Rattle.bdd.proofs.Graph.put.Goals as goal
use Rattle.bdd.proofs.Graph.put.Goals.{After-unmarked}

has : (c : After-unmarked) → HasPut c.args.self.now c.self.inside.vars c.args.node c.insert_full.new.self.keys
has c =
    let can : CanPut c.args.self.now c.args.node = record {
      below = c.requires.var;
      low_valid = c.requires.low_valid;
      high_valid = c.requires.high_valid;
      low_from = c.requires.low_from;
      high_from = c.requires.high_from;
      differ = c.requires.differ;
      unmarked = c.requires.high_unmarked;
    } in
    has_put c.self.inside c.args.self.now c.self.view_is c.self.invariant c.args.node can c.insert_full.new.self.keys c.in_ok-index.ensures.keys

pub invariant_of-self-2 : goal.invariant_of-self-2
invariant_of-self-2 c =
    graph_grown c.self.inside c.args.self.now c.self.view_is c.self.invariant
    (record { vars = c.self.inside.vars; nodes = c.insert_full.new.self; memo = c.self.inside.memo }) refl refl (has c).table (has c).keeps

pub returns-clause-keeps : goal.returns-clause-keeps
returns-clause-keeps c = (has c).keeps

pub returns-clause-canonical : goal.returns-clause-canonical
returns-clause-canonical c = table_canonical c.self.inside.vars c.insert_full.new.self.keys (has c).table

pub returns-clause-choice : goal.returns-clause-choice
returns-clause-choice c =
    let stored = c.in_ok-index.ensures.stored in
    IfOk-weaker c.unmarked.result (λ r. (place r ≡ c.in_ok-index.index) × (is_marked r ≡ false)) _
    (λ r at. (has c).made stored.0 r (ap (slice_get c.insert_full.new.self.keys) at.0 ∙ stored.1) stored.2 at.1) c.unmarked.ensures

pub returns-clause-adds : goal.returns-clause-adds
returns-clause-adds c =
    let stored = c.in_ok-index.ensures.stored in
    IfOk-weaker c.unmarked.result (λ r. (place r ≡ c.in_ok-index.index) × (is_marked r ≡ false)) _
    (λ r at. (has c).adds stored.0 r (ap (slice_get c.insert_full.new.self.keys) at.0 ∙ stored.1) stored.2) c.unmarked.ensures

pub returns-clause-grows : goal.returns-clause-grows
returns-clause-grows c = (has c).size
