use Rattle.std.proofs.Common.{◌≡◌, ◌-◌, length, sym, ◌∙◌, subst, arith}
use Rattle.std.proofs.lemmas.Bool.{eqb-false}
use Rattle.mig_base.specs.Among.{Among}
use Rattle.reader_lists.specs.declared.lists.Reader.{Reader}
use Rattle.reader_lists.proofs.Putting.{among-at}
use Rattle.reader_lists.proofs.lists.ends_with.Goals as goal

pub returns : goal.returns
returns c = λ h.
    let list = c.args.list.now in
    let some : length list ≡ 0 → ⊥ = eqb-false (length list) 0 (sym c.is_empty.ensures ∙ c.if-is_empty.false) in
    subst (λ (r : Reader). Among r list) (c.same_reader.ensures h) (among-at list (length list - 1) _ (omega arith))
