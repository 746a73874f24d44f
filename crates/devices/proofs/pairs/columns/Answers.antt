use Rattle.std.proofs.Common.{◌≡◌, ◌++◌, ◌∷◌, [], ◌<◌, ◌∙◌, sym, ap, take, get_or, length, List, arith, rules, true, false}
use Rattle.std.proofs.lemmas.List.{take_more, append_assoc}
use Rattle.mig_base.specs.declared.cells.Lit.{Lit}
use Rattle.mig_base.specs.Cells.{lit_of, pair_columns}
use Rattle.devices.proofs.RowLemmas.{pair_columns-more}
use Rattle.devices.proofs.pairs.columns.Goals as goal

pub loop-pin-preserved : goal.loop-pin-preserved
loop-pin-preserved c =
    let columns = pair_columns c.args.even_q c.args.registers.now in
    let pins = c.args.pins.now in
    let i = c.loop-pin.pin-index in
    let within : i < length pins = omega arith in
    c.in_ok-push-2.ensures.items ∙ ap (λ (lits : List Lit). lits ++ c.literal-in-loop-pin.result ∷ []) (c.in_ok-push.ensures.items ∙ ap (λ (lits : List Lit). lits ++ c.literal.result ∷ []) c.loop-pin.invariant)
    ∙ append_assoc (columns (take i pins)) (c.literal.result ∷ []) (c.literal-in-loop-pin.result ∷ [])
    ∙ (let even : c.literal.result ≡ lit_of c.args.even_q c.args.registers.now (get_or pins i 0) true = search rules in
    let odd : c.literal-in-loop-pin.result ≡ lit_of c.args.even_q c.args.registers.now (get_or pins i 0) false = search rules in
    ap (λ (lit : Lit). columns (take i pins) ++ lit ∷ c.literal-in-loop-pin.result ∷ []) even
    ∙ ap (λ (lit : Lit). columns (take i pins) ++ lit_of c.args.even_q c.args.registers.now (get_or pins i 0) true ∷ lit ∷ []) odd)
    ∙ sym (ap columns (take_more pins i 0 within) ∙ pair_columns-more c.args.even_q c.args.registers.now (take i pins) (get_or pins i 0))
