-- The listing of a chip: its kind, its reset and preset, its cells and their terms, as lines of words.
use Rattle.std.specs.Prelude.{ℕ, Bool, true, false, List, [], ◌∷◌, ◌++◌, map, codes, if◌then◌else◌}
use Rattle.std.specs.List.{flat_map}
use Rattle.std.specs.Fmt.{decimal}
use Rattle.mig_base.specs.declared.kinds.Kind.{Kind}
use Rattle.mig_base.specs.declared.cells.Source.{Source}
use Rattle.mig_base.specs.declared.cells.Source.TheVariants.{Pin, Reg}
use Rattle.mig_base.specs.declared.cells.Lit.{Lit}
use Rattle.mig_base.specs.declared.cells.Row.{Row}
use Rattle.mig_base.specs.declared.cells.Row.TheVariants as row
use Rattle.mig_base.specs.declared.cells.Enable.{Enable}
use Rattle.mig_base.specs.declared.cells.Enable.TheVariants as enable
use Rattle.mig_base.specs.declared.cells.Form.{Form}
use Rattle.mig_base.specs.declared.cells.Form.TheVariants as form
use Rattle.mig_base.specs.declared.cells.Cell.{Cell}
use Rattle.mig_base.specs.declared.cells.ChipCells.{ChipCells}
use Rattle.mig_base.specs.DeviceTables.{kind_name, is_22}
use Rattle.mig_base.specs.WrittenBoard.{written_line}
use Rattle.mig_base.specs.WrittenPlan.{mode_words}

-- n for the net of pin n, qn for the register of pin n
abbrev pub source_word : Source → List ℕ
source_word (Pin n) = decimal n
source_word (Reg n) = codes "q" ++ decimal n

-- a source, or its complement behind a slash
abbrev pub lit_word : Lit → List ℕ
lit_word lit = if lit.high then source_word lit.source else codes "/" ++ source_word lit.source

-- the literals of a product; 1 where it has none
abbrev pub product_words : List Lit → List (List ℕ)
product_words [] = codes "1" ∷ []
product_words (lit ∷ lits) = map lit_word (lit ∷ lits)

-- a product, or 0 where the row is constant 0
abbrev pub row_words : Row → List (List ℕ)
row_words row.Never = codes "0" ∷ []
row_words (row.Product lits) = product_words lits

-- 1, 0, a product, or low and the number of an enable pin
abbrev pub enable_words : Enable → List (List ℕ)
enable_words enable.Always = codes "1" ∷ []
enable_words enable.Never = codes "0" ∷ []
enable_words (enable.Term lits) = product_words lits
enable_words (enable.LowPin n) = codes "low" ∷ decimal n ∷ []

-- how a pin shows a sum or Q: low where it is the complement
abbrev pub level_word : Bool → List ℕ
level_word true = codes "low"
level_word false = codes "high"

-- how D takes its sum: inverted where it is the complement
abbrev pub d_word : Bool → List ℕ
d_word true = codes "inverted"
d_word false = codes "direct"

-- the form of a cell, and its enable where it is not idle
abbrev pub form_words : Form → Bool → Bool → Enable → List (List ℕ)
form_words form.Idle low pin_low e = codes "idle" ∷ []
form_words form.Comb low pin_low e = codes "comb" ∷ level_word low ∷ codes "enable" ∷ enable_words e
form_words form.Reg low pin_low e = codes "reg" ∷ d_word low ∷ level_word pin_low ∷ codes "enable" ∷ enable_words e

abbrev pub cell_words : Cell → List (List ℕ)
cell_words cell = decimal cell.pin ∷ form_words cell.form cell.low cell.pin_low cell.enable

abbrev pub term_words : List Lit → List (List ℕ)
term_words term = codes "term" ∷ product_words term

-- a cell and its terms
abbrev pub cell_lines : Cell → List (List (List ℕ))
cell_lines cell = cell_words cell ∷ map term_words cell.terms

-- the reset and preset of a 22V10; other chips have none
abbrev pub control_lines : Kind → Row → Row → List (List (List ℕ))
control_lines kind reset preset =
    if is_22 kind then (codes "reset" ∷ row_words reset) ∷ (codes "preset" ∷ row_words preset) ∷ [] else []

-- the kind with the mode of a V8, reset and preset, and the cells by rising pin
abbrev pub chip_lines : ChipCells → List (List (List ℕ))
chip_lines c = (kind_name c.kind ∷ mode_words c.mode) ∷ control_lines c.kind c.reset c.preset ++ flat_map cell_lines c.cells

-- the listing of a chip
abbrev pub listed : ChipCells → List ℕ
listed c = flat_map written_line (chip_lines c)
