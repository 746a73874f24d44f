-- A product of a new chip has the value of the product over variables that it stands for.
use Rattle.std.proofs.Common.{ℕ, ◌≡◌, Bool, true, false, cond, List, [], ◌∷◌, map, Option, Some, None, is_some, refl, sym, ap, ◌∙◌, subst, inl, inr}
use Rattle.std.specs.List.{list_any, filter_map, AllByRecursion}
use Rattle.std.specs.Prelude.{option_and_then}
use Rattle.std.proofs.lemmas.Option.{same_Some}
use Rattle.mig_base.specs.declared.levels.Level.{Level}
use Rattle.mig_base.specs.declared.levels.Level.TheVariants.{Zero, One, Z, X}
use Rattle.mig_base.specs.declared.cells.Source.{Source}
use Rattle.mig_base.specs.declared.cells.Source.TheVariants.{Pin, Reg}
use Rattle.mig_base.specs.declared.cells.Lit.{Lit}
use Rattle.mig_base.specs.declared.circuit.Read.{Read}
use Rattle.mig_base.specs.declared.circuit.Read.TheVariants.{OfNet, OfRegister}
use Rattle.mig_base.specs.declared.circuit.Literal.{Literal}
use Rattle.mig_base.specs.declared.circuit.Levels.{Levels}
use Rattle.mig_base.specs.Cells.{is_among, pair_columns}
use Rattle.mig_base.specs.DeviceTables.{pair_pins, even_reads_q}
use Rattle.mig_base.specs.Levels.{not3, read_level, level_at}
use Rattle.mig_base.specs.Values.{literal_value, product_value, product_reads, source_level}
use Rattle.mig_base.specs.Among.{Among}
use Rattle.mig_base.specs.Bools.{same_bool}
use Rattle.mig_base.specs.WellFormed.{same_lit}
use Rattle.mig_base.proofs.Amongs.{map-among, among-map, any-among, among-any, among-all}
use Rattle.mig_base.proofs.ReadLaws.{read-same}
use Rattle.devices.proofs.RowLaws.{same_lit-eq}
use Rattle.devices.proofs.ReadRows.{lit-itself}
use Rattle.new_board.specs.NewChip.{OldBoard, NewChip, register_on, is_literal_of, first_of}
use Rattle.new_board.specs.InputPins.{pin_reads, reading_pin}
use Rattle.new_board.specs.NewFiles.{registered_pins, new_columns, column_lit, lit_on, new_lit, new_product}
use Rattle.new_board.proofs.Items.{among-filter, among-unfilter, among-filter_map, among-unfilter_map}
use Rattle.new_board.proofs.Products.{product-same}

pub first-among : {T : Type 0} (xs : List T) (x : T) → first_of xs ≡ Some x → Among x xs
first-among [] x e = cc
first-among (y ∷ ys) x e = inl (sym (same_Some y x e))

pub among-first : {T : Type 0} (x : T) (xs : List T) → Among x xs → (y : T) × (first_of xs ≡ Some y)
among-first x [] a = absurd a
among-first x (y ∷ ys) a = (y, refl)

-- what the columns of a pin of the new chip read there
abbrev pub source_at : OldBoard → NewChip → ℕ → Source
source_at b chip pin = cond (is_some (register_on b.circuit chip pin)) (Reg pin) (Pin pin)

-- a literal of a chip on a board on which its sources are these
abbrev pub placed_lit : (Source → Read) → Lit → Literal
placed_lit place y = record { source = place y.source; high = y.high }

-- the literal y of the new chip reads the variable of x, by the columns of a pin
pub record IsReading (b : OldBoard) (chip : NewChip) (x : Literal) (y : Lit) : Type 0 where
  pub pin : ℕ
  pub reads : Literal
  pub column : Among pin (pair_pins chip.kind chip.mode)
  pub reading : pin_reads b chip pin ≡ Some reads
  pub variable : reads.source ≡ x.source
  pub lit_is : y ≡ record { source = source_at b chip pin; high = same_bool x.high reads.high }

-- each variable of these literals is read by a pin
pub record IsReadable (b : OldBoard) (chip : NewChip) (lits : List Literal) : Type 0 where
  pub each : (x : Literal) → Among x lits → (pin : ℕ) × (reading_pin b chip x.source ≡ Some pin)

pub literal-of : (v : Read) (o : Option Literal) → is_literal_of v o ≡ true → (y : Literal) × (o ≡ Some y) × (y.source ≡ v)
literal-of v None e = cc
literal-of v (Some y) e = (y, refl, read-same y.source v e)

pub reading-lit : (b : OldBoard) (chip : NewChip) (x : Literal) (pin : ℕ) → reading_pin b chip x.source ≡ Some pin →
    (y : Lit) × (new_lit b chip x ≡ Some y) × IsReading b chip x y
reading-lit b chip x pin e =
    let kept = among-unfilter (λ p. is_literal_of x.source (pin_reads b chip p)) pin (pair_pins chip.kind chip.mode) (first-among _ pin e) in
    let found = literal-of x.source (pin_reads b chip pin) kept.1 in (
      record { source = source_at b chip pin; high = same_bool x.high found.0.high },
      ap (option_and_then (lit_on b chip x)) e ∙ ap (column_lit b chip x pin) found.1,
      record { pin = pin; reads = found.0; column = kept.0; reading = found.1; variable = found.2; lit_is = refl },
    )

-- the registered pins are those that have a register
pub record RegistersFit (b : OldBoard) (chip : NewChip) : Type 0 where
  pub each : (pin : ℕ) → is_among (registered_pins b chip) pin ≡ is_some (register_on b.circuit chip pin)

columns-have : (pin : ℕ) (registered even_q h : Bool) (rest : List Lit) → Among {T = Lit} (record { source = cond registered (Reg pin) (Pin pin); high = h }) (
    cond registered (record { source = Reg pin; high = cond even_q true false }) (record { source = Pin pin; high = true })
    ∷ cond registered (record { source = Reg pin; high = cond even_q false true }) (record { source = Pin pin; high = false }) ∷ rest)
columns-have pin true true true rest = inl refl
columns-have pin true true false rest = inr (inl refl)
columns-have pin true false true rest = inr (inl refl)
columns-have pin true false false rest = inl refl
columns-have pin false q true rest = inl refl
columns-have pin false q false rest = inr (inl refl)

among-columns : (even_q : Bool) (registers : List ℕ) (pin : ℕ) (h : Bool) (pins : List ℕ) → Among pin pins →
    Among {T = Lit} (record { source = cond (is_among registers pin) (Reg pin) (Pin pin); high = h }) (pair_columns even_q registers pins)
among-columns even_q registers pin h [] a = absurd a
among-columns even_q registers pin h (p ∷ pins) (inl e) =
    subst (λ (q : ℕ). Among {T = Lit} (record { source = cond (is_among registers q) (Reg q) (Pin q); high = h }) (pair_columns even_q registers (p ∷ pins))) (sym e)
    (columns-have p (is_among registers p) even_q h (pair_columns even_q registers pins))
among-columns even_q registers pin h (p ∷ pins) (inr a) = inr (inr (among-columns even_q registers pin h pins a))

-- each literal is read in the product
pub lit-in_product : (b : OldBoard) (chip : NewChip) (lits : List Literal) → RegistersFit b chip → IsReadable b chip lits → (x : Literal) → Among x lits →
    (y : Lit) × Among y (new_product b chip lits) × IsReading b chip x y
lit-in_product b chip lits registers readable x a =
    let pin = readable.each x a in
    let found = reading-lit b chip x pin.0 pin.1 in
    let r = found.2 in
    let column : Among found.0 (new_columns b chip) =
    subst (λ (q : Lit). Among q (new_columns b chip)) (ap (λ (q : Bool). record { source = cond q (Reg r.pin) (Pin r.pin); high = same_bool x.high r.reads.high }) (registers.each r.pin) ∙ sym r.lit_is)
    (among-columns (even_reads_q chip.kind) (registered_pins b chip) r.pin (same_bool x.high r.reads.high) (pair_pins chip.kind chip.mode) r.column) in (
      found.0,
      among-filter (λ y. list_any (same_lit y) (filter_map (new_lit b chip) lits)) found.0 (new_columns b chip) column
          (among-any (same_lit found.0) found.0 (filter_map (new_lit b chip) lits) (among-filter_map (new_lit b chip) x found.0 lits a found.1) (lit-itself found.0)),
      r,
    )

-- and nothing else stands in it
pub product-lit : (b : OldBoard) (chip : NewChip) (lits : List Literal) → IsReadable b chip lits → (y : Lit) → Among y (new_product b chip lits) →
    (x : Literal) × Among x lits × IsReading b chip x y
product-lit b chip lits readable y a =
    let kept = among-unfilter (λ y. list_any (same_lit y) (filter_map (new_lit b chip) lits)) y (new_columns b chip) a in
    let same = any-among (same_lit y) (filter_map (new_lit b chip) lits) kept.1 in
    let from = among-unfilter_map (new_lit b chip) same.0 lits same.1 in
    let pin = readable.each from.0 from.1 in
    let found = reading-lit b chip from.0 pin.0 pin.1 in
    let is : found.0 ≡ y = same_Some found.0 same.0 (sym found.1 ∙ from.2) ∙ sym (same_lit-eq y same.0 same.2) in
    (from.0, from.1, subst (λ (q : Lit). IsReading b chip from.0 q) is found.2)

-- on the new board the columns of each good pin have the value that the pin reads on the old one
pub record ReadsFit (b : OldBoard) (chip : NewChip) (place : Source → Read) (Good : Read → Type 0) (l m : Levels) : Type 0 where
  pub each : (pin : ℕ) (y : Literal) → Among pin (pair_pins chip.kind chip.mode) → pin_reads b chip pin ≡ Some y → Good (place (source_at b chip pin)) →
      source_level m (place (source_at b chip pin)) ≡ literal_value l y
  pub driven : (k : ℕ) → not3 (not3 (level_at l.visible k)) ≡ level_at l.visible k

pub read-driven : (a : Level) → not3 (not3 (read_level a)) ≡ read_level a
read-driven Zero = refl
read-driven One = refl
read-driven Z = refl
read-driven X = refl

source-driven : (l : Levels) → ((k : ℕ) → not3 (not3 (level_at l.visible k)) ≡ level_at l.visible k) → (v : Read) → not3 (not3 (source_level l v)) ≡ source_level l v
source-driven l driven (OfNet n) = read-driven (level_at l.nets n)
source-driven l driven (OfRegister k) = driven k

through : (h q : Bool) (a : Level) → not3 (not3 a) ≡ a → cond (same_bool h q) (cond q a (not3 a)) (not3 (cond q a (not3 a))) ≡ cond h a (not3 a)
through true true a e = refl
through true false a e = e
through false true a e = refl
through false false a e = refl

reading-value : (b : OldBoard) (chip : NewChip) (place : Source → Read) (Good : Read → Type 0) (l m : Levels) → ReadsFit b chip place Good l m →
    (x : Literal) (y : Lit) → IsReading b chip x y → Good (place y.source) → literal_value l x ≡ literal_value m (placed_lit place y)
reading-value b chip place Good l m fit x y r good =
    let source : y.source ≡ source_at b chip r.pin = ap (λ (q : Lit). q.source) r.lit_is in
    let read : source_level m (place (source_at b chip r.pin)) ≡ literal_value l r.reads =
    fit.each r.pin r.reads r.column r.reading (subst (λ (q : Source). Good (place q)) source good) in
    ap (λ (q : Read). cond x.high (source_level l q) (not3 (source_level l q))) (sym r.variable)
    ∙ sym (through x.high r.reads.high (source_level l r.reads.source) (source-driven l fit.driven r.reads.source))
    ∙ ap (λ (q : Level). cond (same_bool x.high r.reads.high) q (not3 q)) (sym read)
    ∙ ap (λ (q : Lit). literal_value m (placed_lit place q)) (sym r.lit_is)

-- the product has its value on the new board
pub new_product-value : (b : OldBoard) (chip : NewChip) (place : Source → Read) (Good : Read → Type 0) (l m : Levels) → ReadsFit b chip place Good l m →
    RegistersFit b chip → (lits : List Literal) → IsReadable b chip lits → AllByRecursion Good (product_reads (map (placed_lit place) (new_product b chip lits))) →
    product_value l lits ≡ product_value m (map (placed_lit place) (new_product b chip lits))
new_product-value b chip place Good l m fit registers lits readable good = product-same l m lits (map (placed_lit place) (new_product b chip lits))
    (record {
      each = λ x a.
          let found = lit-in_product b chip lits registers readable x a in
          (placed_lit place found.0, map-among (placed_lit place) found.0 (new_product b chip lits) found.1, reading-value b chip place Good l m fit x found.0 found.2 (good-at found.0 found.1));
    })
    (record {
      each = λ z a.
          let y = among-map (placed_lit place) z (new_product b chip lits) a in
          let x = product-lit b chip lits readable y.0 y.1 in
          (x.0, x.1, ap (literal_value m) y.2 ∙ sym (reading-value b chip place Good l m fit x.0 y.0 x.2 (good-at y.0 y.1)));
    })
  where
    good-at : (y : Lit) → Among y (new_product b chip lits) → Good (place y.source)
    good-at y a = among-all Good (place y.source) (product_reads (map (placed_lit place) (new_product b chip lits))) good
        (map-among (λ (z : Literal). z.source) (placed_lit place y) (map (placed_lit place) (new_product b chip lits)) (map-among (placed_lit place) y (new_product b chip lits) a))
