use Rattle.std.proofs.Common.{rules, arith, ℕ, ◌≡◌, ◌≤◌, List, ◌++◌, length, drop, IsTrue, ap, ◌∙◌, refl, length-append, length-drop}
use Rattle.std.proofs.Math.Seq.{take-append_seam, drop-append_seam}
use Rattle.std.proofs.Math.ListN.{replicate}
use Rattle.std.proofs.lemmas.List.{drop-replicate, length-replicate}
use Rattle.mig_base.specs.Names.{IsPadded, is_name}
use Rattle.mig_base.proofs.names.Name.new.Goals as goal

padded : (text zeros : List ℕ) → zeros ≡ replicate 24 0 → length text ≤ 24 → IsTrue (is_name text) → IsPadded (text ++ drop (length text) zeros) (length text)
padded text zeros e short name = record {
  room = omega (arith, length-append text (drop (length text) zeros), length-drop (length text) zeros, ap length e ∙ length-replicate {A = ℕ} 24 0);
  short = short;
  zeros = drop-append_seam text _ ∙ ap (drop (length text)) e ∙ drop-replicate (length text) 24 0;
  name = rw take-append_seam name;
}

pub invariant_of-result : goal.invariant_of-result
invariant_of-result c = rw c.copy_from_slice.ensures.after (padded c.args.text.now _ refl (omega arith) (search rules))
