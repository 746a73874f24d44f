-- The words of a written plan are plain, and say what they were written for.
use Rattle.std.proofs.Common.{ℕ, ◌≡◌, ◌+◌, ◌≤◌, Bool, true, false, cond, not, ◌&&◌, eqb, List, [], ◌∷◌, ◌++◌, length, drop, refl, sym, ap, ◌∙◌, arith, Option, Some, None, length-append}
use Rattle.std.specs.Prelude.{nat_le, nat_lt, codes}
use Rattle.std.specs.List.{AllByRecursion, list_all, position, position_or_len}
use Rattle.std.specs.Option.{option_and_then}
use Rattle.std.specs.Fmt.{decimal}
use Rattle.std.proofs.Math.Seq.{take-append_seam, drop-append-add}
use Rattle.std.proofs.lemmas.Bool.{and_parts, and_from, le-leb, lt-ltb, leb-true, eqb-true}
use Rattle.std.proofs.lemmas.List.Folds.{list_all-append}
use Rattle.mig_base.specs.declared.kinds.Kind.{Kind}
use Rattle.mig_base.specs.declared.kinds.Mode.{Mode}
use Rattle.mig_base.specs.declared.kinds.Mode.TheVariants.{Fixed, Simple, Complex, Registered}
use Rattle.mig_base.specs.declared.nets.PinName.{PinName}
use Rattle.mig_base.specs.declared.plans.PlanChip.{PlanChip}
use Rattle.mig_base.specs.declared.plans.PlanLine.{PlanLine}
use Rattle.mig_base.specs.declared.plans.PlanLine.TheVariants.{Place, Absorb}
use Rattle.mig_base.specs.DeviceTables.{is_gal, kind_name}
use Rattle.mig_base.specs.Lines.{number_of}
use Rattle.mig_base.specs.Names.{is_name, is_name_byte}
use Rattle.mig_base.specs.WellFormed.{has_mode}
use Rattle.mig_base.specs.WrittenPlan.{mode_words, pin_word, plan_chip_line, plan_line}
use Rattle.mig_base.proofs.KindFacts.{kind-read}
use Rattle.mig_base.proofs.TextLemmas.{name-bytes}
use Rattle.text_lines.proofs.Numerals.{number-decimal, decimal-spells, IsDigit}
use Rattle.text_lines.proofs.WrittenLines.{is_plain_word, is_plain_line}
use Rattle.text_lines.proofs.PlainWords.{name-plain, high-bytes, kind-plain}
use Rattle.plan_text.specs.declared.says.Said.{Said}
use Rattle.plan_text.specs.declared.says.Said.TheVariants as said
use Rattle.plan_text.specs.PlanText.{if_gal, gal_named, chip_of, pin_numbered, pin_of, pin_cut, pin_named, place_of, absorb_of, says, is_plan_chip, is_plan_pin, is_plan_line}

-- what the line of a place or absorb line says
abbrev pub unit_says : PlanLine → Said
unit_says (Place unit chip pin) = said.Place unit (record { chip = chip; pin = pin })
unit_says (Absorb unit) = said.Absorb unit

digits-high : (ds : List ℕ) → AllByRecursion IsDigit ds → list_all (nat_le 33) ds ≡ true
digits-high [] h = refl
digits-high (d ∷ ds) h = and_from _ _ (le-leb 33 d (let low : 48 ≤ d = h.0.0 in omega arith)) (digits-high ds h.1)

-- whether a byte is a dot
abbrev is_dot : ℕ → Bool
is_dot b = eqb b 46

no-dot : (b : ℕ) → is_name_byte b ≡ true → is_dot b ≡ false
no-dot b h = at (is_dot b) refl
  where
    at : (t : Bool) → is_dot b ≡ t → t ≡ false
    at true e = let dot : b ≡ 46 = eqb-true b 46 e in let wrong : true ≡ false = sym h ∙ ap is_name_byte dot in absurd (let no : ⊥ = cc in no)
    at false e = refl

dot-at : (name rest : List ℕ) → list_all is_name_byte name ≡ true → position_or_len is_dot (name ++ 46 ∷ rest) ≡ length name
dot-at [] rest h = refl
dot-at (b ∷ bs) rest h =
    let parts : (is_name_byte b ≡ true) × (list_all is_name_byte bs ≡ true) = and_parts _ _ h in
    ap (λ (t : Bool). cond (not t) (1 + position_or_len is_dot (bs ++ 46 ∷ rest)) 0) (no-dot b parts.0)
    ∙ (let e : position_or_len is_dot (bs ++ 46 ∷ rest) ≡ length bs = dot-at bs rest parts.1 in omega arith)

dot-found : (name rest : List ℕ) → list_all is_name_byte name ≡ true → position is_dot (name ++ 46 ∷ rest) ≡ Some (length name)
dot-found name rest h =
    let long : length (name ++ 46 ∷ rest) ≡ length name + length (46 ∷ rest) = length-append name (46 ∷ rest) in
    let within : nat_lt (length name) (length (name ++ 46 ∷ rest)) ≡ true = lt-ltb _ _ (omega arith) in
    ap (λ (k : ℕ). cond (nat_lt k (length (name ++ 46 ∷ rest))) (Some k) None) (dot-at name rest h) ∙ ap (λ (t : Bool). cond t (Some (length name)) None) within

-- a written pin is read back
pub pin-read : (u : PinName) → is_plan_pin u ≡ true → pin_named (pin_word u) ≡ Some u
pin-read u h =
    let parts : (is_name u.chip ≡ true) × (nat_le u.pin 99 ≡ true) = and_parts _ _ h in
    let small : u.pin ≤ 99 = leb-true u.pin 99 parts.1 in
    ap (pin_cut (pin_word u)) (dot-found u.chip (decimal u.pin) (name-bytes u.chip parts.0))
    ∙ ap (λ (name : List ℕ). pin_of name (drop (length u.chip + 1) (pin_word u))) (take-append_seam u.chip (46 ∷ decimal u.pin))
    ∙ ap (pin_of u.chip) (drop-append-add u.chip (46 ∷ decimal u.pin) 1)
    ∙ ap (λ (t : Bool). cond t (option_and_then (pin_numbered u.chip) (number_of (decimal u.pin))) None) parts.0
    ∙ ap (option_and_then (pin_numbered u.chip)) (number-decimal u.pin (omega arith))
    ∙ ap (λ (t : Bool). cond t (Some u) None) parts.1

pin-plain : (u : PinName) → is_plan_pin u ≡ true → is_plain_word (pin_word u) ≡ true
pin-plain u h = some u.chip named.0
  where
    named : (is_name u.chip ≡ true) × (nat_le u.pin 99 ≡ true)
    named = and_parts _ _ h

    digits : list_all (nat_le 33) (decimal u.pin) ≡ true
    digits = let small : u.pin ≤ 99 = leb-true u.pin 99 named.1 in digits-high (decimal u.pin) (decimal-spells u.pin (omega arith)).digits

    some : (name : List ℕ) → is_name name ≡ true → is_plain_word (name ++ 46 ∷ decimal u.pin) ≡ true
    some [] e = cc
    some (b ∷ bs) e = list_all-append (nat_le 33) (b ∷ bs) (46 ∷ decimal u.pin) ∙ and_from _ _ (high-bytes (b ∷ bs) (name-bytes (b ∷ bs) e)) digits

-- a line that is plain and says this
pub record IsLineOf (words : List (List ℕ)) (s : Said) : Type 0 where
  pub plain : is_plain_line words ≡ true
  pub says : says words ≡ s

gal-read : (k : Kind) → is_gal k ≡ true → gal_named (kind_name k) ≡ Some k
gal-read k h = ap (option_and_then if_gal) (kind-read k) ∙ ap (λ (t : Bool). cond t (Some k) None) h

pub chip-line-of : (c : PlanChip) → is_plan_chip c ≡ true → IsLineOf (plan_chip_line c) (said.Chip c)
chip-line-of c h = at c.mode refl
  where
    two : (is_name c.name && is_gal c.kind ≡ true) × (has_mode c.kind c.mode ≡ true)
    two = and_parts _ _ h

    one : (is_name c.name ≡ true) × (is_gal c.kind ≡ true)
    one = and_parts _ _ two.0

    read : cond (is_name c.name) (chip_of c.name (gal_named (kind_name c.kind)) c.mode) said.Wrong ≡ said.Chip c
    read =
        ap (λ (t : Bool). cond t (chip_of c.name (gal_named (kind_name c.kind)) c.mode) said.Wrong) one.0
        ∙ ap (λ (o : Option Kind). chip_of c.name o c.mode) (gal-read c.kind one.1) ∙ ap (λ (t : Bool). cond t (said.Chip c) said.Wrong) two.1

    in-mode : (m : Mode) → c.mode ≡ m → cond (is_name c.name) (chip_of c.name (gal_named (kind_name c.kind)) m) said.Wrong ≡ said.Chip c
    in-mode m e = ap (λ (x : Mode). cond (is_name c.name) (chip_of c.name (gal_named (kind_name c.kind)) x) said.Wrong) (sym e) ∙ read

    at : (m : Mode) → c.mode ≡ m → IsLineOf (codes "chip" ∷ c.name ∷ kind_name c.kind ∷ mode_words m) (said.Chip c)
    at Fixed e = record { plain = and_from _ _ (name-plain c.name one.0) (and_from _ _ (kind-plain c.kind) refl); says = in-mode Fixed e }
    at Simple e = record { plain = and_from _ _ (name-plain c.name one.0) (and_from _ _ (kind-plain c.kind) refl); says = in-mode Simple e }
    at Complex e = record { plain = and_from _ _ (name-plain c.name one.0) (and_from _ _ (kind-plain c.kind) refl); says = in-mode Complex e }
    at Registered e = record { plain = and_from _ _ (name-plain c.name one.0) (and_from _ _ (kind-plain c.kind) refl); says = in-mode Registered e }

pub unit-line-of : (l : PlanLine) → is_plan_line l ≡ true → IsLineOf (plan_line l) (unit_says l)
unit-line-of (Place unit chip pin) h =
    let parts : (is_plan_pin unit ≡ true) × (is_plan_pin (record { chip = chip; pin = pin }) ≡ true) = and_parts _ _ h in
    record {
      plain = and_from _ _ (pin-plain unit parts.0) (and_from _ _ (pin-plain (record { chip = chip; pin = pin }) parts.1) refl);
      says = ap (λ (o : Option PinName). place_of o (pin_named (pin_word (record { chip = chip; pin = pin })))) (pin-read unit parts.0)
          ∙ ap (place_of (Some unit)) (pin-read (record { chip = chip; pin = pin }) parts.1);
    }
unit-line-of (Absorb unit) h = record { plain = and_from _ _ (pin-plain unit h) refl; says = ap absorb_of (pin-read unit h) }
