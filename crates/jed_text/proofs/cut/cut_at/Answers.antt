use Rattle.std.proofs.Common.{◌+◌, ◌∙◌, sym, ap, arith, take, List, ℕ, Some}
use Rattle.jed_text.proofs.Cuts.{cut-here, cut_at-none, lacks-whole}
use Rattle.std.proofs.lemmas.Bool.{eq-eqb}
use Rattle.mig_base.proofs.ListLaws.{rest-of}
use Rattle.jed_text.proofs.cut.cut_at.Goals as goal

pub returns-then-b-byte-clause-parts : goal.returns-then-b-byte-clause-parts
returns-then-b-byte-clause-parts c =
    let bytes = c.args.bytes.now in
    let i = c.loop-i.i in
    ap (λ (rest : List ℕ). Some (take i bytes, rest)) (rest-of bytes (i + 1))
    ∙ sym (cut-here c.args.byte bytes i c.loop-i-test.true c.loop-i.invariant (eq-eqb _ _ c.if-b-byte.true))

pub returns-clause-parts : goal.returns-clause-parts
returns-clause-parts c = sym (cut_at-none c.args.byte c.args.bytes.now (lacks-whole c.args.byte c.args.bytes.now c.loop-i.i (omega arith) c.loop-i.invariant))
