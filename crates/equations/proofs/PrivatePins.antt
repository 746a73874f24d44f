-- The pins of a chip that have no line, from one number on.
use Rattle.std.proofs.Common.{ℕ, suc, ◌≡◌, ◌+◌, ◌*◌, not, lit≤, length-append, ◌≤◌, Bool, true, false, ◌&&◌, List, [], ◌∷◌, ◌++◌, map, filter, refl, ap, ◌∙◌, arith, length}
use Rattle.std.specs.Prelude.{is_none, if◌then◌else◌}
use Rattle.std.proofs.lemmas.List.{length-map}
use Rattle.std.proofs.lemmas.List.Filters.{length-filter_both}
use Rattle.mig_base.specs.declared.kinds.Kind.{Kind}
use Rattle.mig_base.specs.declared.kinds.Kind.TheVariants.{Pal16L8}
use Rattle.mig_base.specs.declared.nets.Net.{Net}
use Rattle.mig_base.specs.declared.nets.ChipLine.{ChipLine}
use Rattle.mig_base.specs.declared.nets.PinLine.{PinLine}
use Rattle.std.proofs.lemmas.List.Elements.{filter-append}
use Rattle.mig_base.specs.First.{made_from}
use Rattle.mig_base.specs.DeviceTables.{is_ordinary, ordinary_pins}
use Rattle.mig_base.specs.Boards.{At, line_at, pins_from, privates}

abbrev pub no_line : List PinLine → At → Bool
no_line lines q = is_none (line_at lines q)

abbrev pub rest : List PinLine → ℕ → Kind → ℕ → ℕ → List At
rest lines chip kind from count = filter (no_line lines) (map (λ p. (chip, p)) (filter (is_ordinary kind) (made_from (λ p. p) from count)))

chosen : (test : At → Bool) (chip from : ℕ) (pins : List ℕ) (a : Bool) →
    filter test (map (λ p. (chip, p)) (if a then from ∷ pins else pins)) ≡ (if a && test (chip, from) then (chip, from) ∷ filter test (map (λ p. (chip, p)) pins) else filter test (map (λ p. (chip, p)) pins))
chosen test chip from pins true = refl
chosen test chip from pins false = refl

pub rest-next : (lines : List PinLine) (chip : ℕ) (kind : Kind) (from n m : ℕ) → n ≡ suc m →
    rest lines chip kind from n ≡ (if is_ordinary kind from && no_line lines (chip, from) then (chip, from) ∷ rest lines chip kind (from + 1) m else rest lines chip kind (from + 1) m)
rest-next lines chip kind from n m e = ap (rest lines chip kind from) e
    ∙ chosen (no_line lines) chip from (filter (is_ordinary kind) (made_from (λ p. p) (from + 1) m)) (is_ordinary kind from)

pub no_line-pins : (lines : List PinLine) (chip : ℕ) (line : ChipLine) (chips : List ChipLine) →
    filter (no_line lines) (pins_from chip (line ∷ chips)) ≡ filter (no_line lines) (map (λ p. (chip, p)) (ordinary_pins line.kind)) ++ filter (no_line lines) (pins_from (chip + 1) chips)
no_line-pins lines chip line chips = filter-append (no_line lines) (map (λ p. (chip, p)) (ordinary_pins line.kind)) (pins_from (chip + 1) chips)

ordinary-few : (k : Kind) → length (ordinary_pins k) ≤ 22
ordinary-few Pal16L8 = lit≤ tt
ordinary-few _ = lit≤ tt

pins-few : (j : ℕ) (chips : List ChipLine) → length (pins_from j chips) ≤ 22 * length chips
pins-few j [] = omega arith
pins-few j (c ∷ cs) =
    let here = ordinary-few c.kind in
    let later = pins-few (j + 1) cs in
    omega (arith, length-append (map (λ p. (j, p)) (ordinary_pins c.kind)) (pins_from (j + 1) cs), length-map {B = At} (ordinary_pins c.kind) (λ p. (j, p)))

pub privates-few : (net : Net) → length (privates net) ≤ 22 * length net.chips
privates-few net = let all = pins-few 0 net.chips in let few = length-filter_both (no_line net.pins) (λ q. not (no_line net.pins q)) (λ q. refl) (pins_from 0 net.chips) in omega arith
