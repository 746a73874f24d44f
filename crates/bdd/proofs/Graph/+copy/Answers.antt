use Rattle.std.proofs.Common.{ℕ, ◌∙◌}
use Rattle.bdd.specs.Diagram.{IsCopy}
use Rattle.bdd.specs.Moves.{IsMoves}
use Rattle.bdd.proofs.MoveLemmas.{copy_choice, moves_kept, moves_grown, moves_same, adds_choice}
use Rattle.bdd.proofs.Graph.+copy.Goals as goal
use Rattle.bdd.proofs.Graph.+copy.Goals.{After-mk, In_ok-r-in-Decision}

copied : (t : ℕ) (c : In_ok-r-in-Decision t) → IsCopy c.args.self.now c.mk.new.self c.args.f c.in_ok-r-in-Decision.r
copied t c =
    let s = c.in-Decision.ensures.expansion.2 in
    copy_choice c.args.self.now c.copy.new.fresh c.copy-in-Decision.new.fresh c.mk.new.self c.args.f c.in-Decision.node.low c.in-Decision.node.high
    c.in_ok-low-in-Decision.low c.in_ok-high-in-Decision.high c.in_ok-r-in-Decision.r c.in-Decision.node.var
    c.expansion-expansion.ensures.canonical c.mk.ensures.canonical c.requires.valid
    (c.mk.ensures.keeps.vars ∙ c.copy-in-Decision.ensures.keeps.vars ∙ c.copy.ensures.keeps.vars ∙ c.requires.vars)
    s.tree c.in_ok-low-in-Decision.ensures.copy c.copy-in-Decision.ensures.keeps c.in_ok-high-in-Decision.ensures.copy c.in_ok-r-in-Decision.ensures.choice

moves_then : (t : ℕ) (c : After-mk t) → IsMoves c.args.self.now c.mk.new.self c.copy-in-Decision.new.moves
moves_then t c = moves_kept c.args.self.now c.copy-in-Decision.new.fresh c.mk.new.self c.copy-in-Decision.new.moves c.mk.ensures.keeps c.copy-in-Decision.ensures.moves

pub returns-in_err-insert-in-Decision-clause-moves : goal.returns-in_err-insert-in-Decision-clause-moves
returns-in_err-insert-in-Decision-clause-moves t c =
    moves_same c.args.self.now c.mk.new.self c.copy-in-Decision.new.moves c.insert.new.self c.in_err-insert-in-Decision.ensures.err
    (moves_then t (goal.at.returns-in_err-insert-in-Decision-clause-moves t c).After-mk)

pub returns-in_ok-insert-in-Decision-clause-moves : goal.returns-in_ok-insert-in-Decision-clause-moves
returns-in_ok-insert-in-Decision-clause-moves t c =
    let a = goal.at.returns-in_ok-insert-in-Decision-clause-moves t c in
    moves_grown c.args.self.now c.mk.new.self c.copy-in-Decision.new.moves c.insert.new.self c.args.f c.in_ok-r-in-Decision.r c.in_ok-insert-in-Decision.ensures.updates
    (moves_then t a.After-mk) (copied t a.In_ok-r-in-Decision)

pub returns-in_ok-insert-in-Decision-clause-copy : goal.returns-in_ok-insert-in-Decision-clause-copy
returns-in_ok-insert-in-Decision-clause-copy t c = copied t (goal.at.returns-in_ok-insert-in-Decision-clause-copy t c).In_ok-r-in-Decision

pub returns-in_ok-insert-in-Decision-clause-adds : goal.returns-in_ok-insert-in-Decision-clause-adds
returns-in_ok-insert-in-Decision-clause-adds t c =
    let s = c.in-Decision.ensures.expansion.2 in
    adds_choice c.args.self.now c.args.fresh.now c.copy.new.fresh c.copy-in-Decision.new.fresh c.mk.new.self c.args.f c.in-Decision.node.low c.in-Decision.node.high
    c.in_ok-r-in-Decision.r c.in-Decision.node.var s.tree c.in_ok-low-in-Decision.ensures.adds c.copy-in-Decision.ensures.keeps c.in_ok-high-in-Decision.ensures.adds
    c.mk.ensures.keeps c.in_ok-r-in-Decision.ensures.adds (copied t (goal.at.returns-in_ok-insert-in-Decision-clause-adds t c).In_ok-r-in-Decision)
