-- What the forms of boards say of wirings and wires.
use Rattle.std.proofs.Common.{ℕ, ◌≡◌, ◌+◌, ◌<◌, ◌≤◌, Bool, true, false, suc, cond, List, [], ◌∷◌, length, Some, refl, sym, ap, ◌∙◌, subst, ltb, ltb-true, leb, leb-true, map, arith}
use Rattle.std.specs.List.{list_all}
use Rattle.std.proofs.lemmas.Bool.{and_parts}
use Rattle.std.proofs.lemmas.Option.{same_Some}
use Rattle.std.proofs.lemmas.List.{length-map}
use Rattle.mig_base.specs.declared.nets.Net.{Net}
use Rattle.mig_base.specs.declared.nets.PinLine.{PinLine}
use Rattle.mig_base.specs.declared.nets.NetLine.{NetLine}
use Rattle.mig_base.specs.declared.circuit.Wire.{Wire}
use Rattle.mig_base.specs.Accepted.{is_fixed}
use Rattle.mig_base.specs.WrittenBoard.{IsWritable}
use Rattle.mig_base.specs.Boards.{At, same_at, line_at}
use Rattle.new_board.specs.NewChip.{private_from}
use Rattle.new_board.proofs.Wiring.{LinesFit}
use Rattle.taken_boards.specs.TakenBoards.{has_few_drivers}

lines-fit : (ls : List PinLine) (top : ℕ) → list_all (λ l. ltb l.net top) ls ≡ true → (q : At) (n : ℕ) → line_at ls q ≡ Some n → n < top
lines-fit [] top h q n e = cc
lines-fit (l ∷ ls) top h q n e =
    let parts = and_parts (ltb l.net top) (list_all (λ l. ltb l.net top) ls) h in
    at (same_at q (l.chip, l.pin)) e (ltb-true l.net top parts.0) (lines-fit ls top parts.1 q n)
  where
    at : (t : Bool) → cond t (Some l.net) (line_at ls q) ≡ Some n → l.net < top → (line_at ls q ≡ Some n → n < top) → n < top
    at true e here rest = subst (λ (k : ℕ). k < top) (same_Some l.net n e) here
    at false e here rest = rest e

-- every pin line of such a wiring is on a constant or a named net
pub wiring-lines : (net : Net) → list_all (λ l. ltb l.net (2 + length net.nets)) net.pins ≡ true → LinesFit net
wiring-lines net h = record { within = λ q n e. lines-fit net.pins (private_from net) h q n e }

pub few-fixed : (w : Wire) → has_few_drivers w ≡ true → is_fixed w.kind ≡ true → w.drivers ≡ []
few-fixed w e fixed = none w.drivers (leb-true (length w.drivers) 0 (sym (ap (λ (q : Bool). leb (length w.drivers) (cond q 0 1)) fixed) ∙ e))
  where
    none : (ds : List ℕ) → length ds ≤ 0 → ds ≡ []
    none [] h = refl
    none (d ∷ ds) h = absurd (omega arith)

-- a wiring that has a text has its lines on constants and named nets
pub writable-lines : (net : Net) → IsWritable net → list_all (λ l. ltb l.net (2 + length net.nets)) net.pins ≡ true
writable-lines net w =
    let count : length (map (λ (l : NetLine). l.name) net.nets) ≡ length net.nets = length-map net.nets (λ (l : NetLine). l.name) in
    let top : suc (suc (length (map (λ (l : NetLine). l.name) net.nets))) ≡ 2 + length net.nets = omega arith in
    ap (λ (k : ℕ). list_all (λ (l : PinLine). ltb l.net k) net.pins) (sym top) ∙ w.pins_on_nets
