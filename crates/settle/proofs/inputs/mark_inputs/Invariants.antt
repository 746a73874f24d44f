use Rattle.std.proofs.Common.{ℕ, ◌≡◌, ◌⊎◌, true, take}
use Rattle.mig_base.specs.Among.{Among}
use Rattle.reader_lists.specs.declared.lists.Reader.{Reader}
use Rattle.reader_lists.specs.declared.lists.Reader.TheVariants.{ByNet}
use Rattle.reader_lists.specs.Marked.{marked_in}
use Rattle.settle.specs.Following.{given_at}
use Rattle.settle.proofs.inputs.mark_inputs.Given as goal

abbrev pub invariant-loop-net : goal.invariant-loop-net
invariant-loop-net l = record {
  marked : (n : ℕ) → Among n (take l.net-index l.nets) → (given_at l.circuit l.before n ≡ given_at l.circuit l.now n) ⊎ (marked_in l.marks (ByNet n) ≡ true);
  keeps : (r : Reader) → marked_in l.fn.marks r ≡ true → marked_in l.marks r ≡ true;
}
