use Rattle.std.proofs.Common.{ℕ, ◌++◌, ◌∷◌, [], ◌∙◌, List, sym, ap, codes, string_bytes}
use Rattle.std.specs.Fmt.{decimal}
use Rattle.std.proofs.lemmas.List.{append-nil}
use Rattle.mig_base.specs.declared.cells.Form.{Form}
use Rattle.mig_base.specs.WrittenBoard.{written_line}
use Rattle.listing.specs.ListedChip.{level_word, d_word, enable_words, form_words}
use Rattle.listing.proofs.SpacedLines.{line-of-parts}
use Rattle.listing.proofs.writing.write_cell.Goals as goal

pub returns-in_ok-write_enable-in-Comb : goal.returns-in_ok-write_enable-in-Comb
returns-in_ok-write_enable-in-Comb c =
    let cell = c.args.cell.now in
    let old = string_bytes c.args.text.now in
    line-of-parts old (string_bytes c.write.new.self) (string_bytes c.write_enable.new.text) (decimal cell.pin)
    (codes "comb" ∷ level_word cell.low ∷ []) (codes "enable" ∷ enable_words cell.enable)
    (c.in_ok-write-in-Comb.ensures.bytes ∙ ap (λ (l : List ℕ). old ++ (decimal cell.pin ++ (codes " comb " ++ l))) (c.level.ensures ∙ sym (append-nil (level_word cell.low))))
    c.in_ok-write_enable-in-Comb.ensures
    ∙ ap (λ (f : Form). old ++ written_line (decimal cell.pin ∷ form_words f cell.low cell.pin_low cell.enable)) (sym c.in-Comb.is)

pub returns-in_ok-write_enable-in-Reg : goal.returns-in_ok-write_enable-in-Reg
returns-in_ok-write_enable-in-Reg c =
    let cell = c.args.cell.now in
    let old = string_bytes c.args.text.now in
    line-of-parts old (string_bytes c.write-in-Reg.new.self) (string_bytes c.write_enable-in-Reg.new.text) (decimal cell.pin)
    (codes "reg" ∷ d_word cell.low ∷ level_word cell.pin_low ∷ []) (codes "enable" ∷ enable_words cell.enable)
    (c.in_ok-write-in-Reg.ensures.bytes
    ∙ ap (λ (l : List ℕ). old ++ (decimal cell.pin ++ (codes " reg " ++ (l ++ 32 ∷ c.level-shown.result.now)))) c.d_input-d.ensures
    ∙ ap (λ (l : List ℕ). old ++ (decimal cell.pin ++ (codes " reg " ++ (d_word cell.low ++ 32 ∷ l)))) (c.level-shown.ensures ∙ sym (append-nil (level_word cell.pin_low))))
    c.in_ok-write_enable-in-Reg.ensures
    ∙ ap (λ (f : Form). old ++ written_line (decimal cell.pin ∷ form_words f cell.low cell.pin_low cell.enable)) (sym c.in-Reg.is)
