use Rattle.std.proofs.Common.{ℕ, ◌≡◌, ◌⊎◌, ◌<◌, ◌≤◌, true, length}
use Rattle.mig_base.specs.Levels.{level_at}
use Rattle.level_laws.specs.Runs.{next_stored, rises}
use Rattle.reader_lists.specs.declared.lists.Reader.TheVariants.{ByRegister}
use Rattle.reader_lists.specs.Marked.{marked_in}
use Rattle.settle.proofs.edges.store_next.Given as goal

abbrev pub invariant-loop-place : goal.invariant-loop-place
invariant-loop-place l = record {
  long : length l.stored ≡ length l.circuit.registers;
  next : (j : ℕ) → j < l.place → level_at l.stored j ≡ level_at (next_stored l.circuit l.levels l.before l.now l.circuit.registers l.levels.visible) j;
  edge : l.edge.rises ≡ rises l.circuit l.before l.now l.edge.clock;
  after : (j : ℕ) → l.place ≤ j → level_at l.fn.stored j ≡ level_at l.stored j;
  marked : (j : ℕ) → (level_at l.fn.stored j ≡ level_at l.stored j) ⊎ (marked_in l.marks (ByRegister j) ≡ true);
}
