-- Readers that are marked one after another.
use Rattle.std.proofs.Common.{◌≡◌, ◌⊎◌, true, List, [], ◌∷◌, ◌++◌, sym, subst, inl, inr}
use Rattle.mig_base.specs.Among.{Among}
use Rattle.mig_base.proofs.Amongs.{among-split}
use Rattle.reader_lists.specs.declared.lists.Reader.{Reader}
use Rattle.reader_lists.specs.declared.marks.Marks.{Marks}
use Rattle.reader_lists.specs.Marked.{marked_in}

-- one more reader is marked
pub mark-more : (marks new : Marks) (some : List Reader) (r : Reader) → ((q : Reader) → Among q some → marked_in marks q ≡ true) →
    marked_in new r ≡ true → ((q : Reader) → marked_in marks q ≡ true → marked_in new q ≡ true) → (q : Reader) → Among q (some ++ r ∷ []) → marked_in new q ≡ true
mark-more marks new some r before here keeps q a = at (among-split q some (r ∷ []) a)
  where
    at : Among q some ⊎ Among q (r ∷ []) → marked_in new q ≡ true
    at (inl b) = keeps q (before q b)
    at (inr (inl e)) = subst (λ (p : Reader). marked_in new p ≡ true) (sym e) here
    at (inr (inr b)) = absurd b
