-- A private net of the new board that stands for an old one: the pin that it belongs to, and the old net.
use Rattle.std.proofs.Common.{ℕ, ◌≡◌, ◌⊎◌, ◌+◌, ◌<◌, ◌≤◌, true, false, List, Option, Some, is_none, sym, ap, ◌∙◌, subst, inl, inr, arith}
use Rattle.std.specs.Prelude.{option_and_then}
use Rattle.std.specs.List.{slice_get}
use Rattle.std.specs.Option.{option_map}
use Rattle.std.proofs.lemmas.Bool.{cases_lt}
use Rattle.std.proofs.lemmas.Option.{same_Some, slice_get-map}
use Rattle.mig_base.specs.declared.nets.ChipLine.{ChipLine}
use Rattle.mig_base.specs.Among.{Among}
use Rattle.mig_base.specs.Boards.{At, line_at}
use Rattle.mig_base.specs.DeviceTables.{ordinary_pins}
use Rattle.board.specs.Joined.{Joined}
use Rattle.new_board.specs.NewChip.{NewChip, private_from}
use Rattle.new_board.specs.InputPins.{pin_net}
use Rattle.new_board.specs.NewFiles.{fitted, new_chip_line}
use Rattle.plans.specs.Placings.{old}
use Rattle.plans.specs.Fitting.{fitted_chips}
use Rattle.new_circuits.specs.NewNumbers.{new_wiring, old_net}
use Rattle.planned_nets.proofs.NewNets.{IsPrivateNet}
use Rattle.planned_nets.proofs.PinLines.{named-line}
use Rattle.planned_nets.proofs.PinReasons.{then-some}
use Rattle.planned_nets.proofs.PinsApart.{has-chip, private-unlined}

-- the pin of a private net that stands for this old net, which has no name
pub record IsPinOf (b : Joined) (chips : List NewChip) (q : At) (n : ℕ) : Type 0 where
  pub chip : NewChip
  pub found : slice_get chips q.0 ≡ Some chip
  pub ordinary : Among q.1 (ordinary_pins chip.kind)
  pub net : pin_net (old b) chip q.1 ≡ Some n
  pub high : private_from b.net ≤ n

pub pin-of : (b : Joined) (chips : List NewChip) (m n : ℕ) → (own : IsPrivateNet b chips m) → old_net b chips m ≡ Some n → IsPinOf b chips own.pin n
pin-of b chips m n own stands =
    let q : At = own.pin in
    let there = private-unlined (new_wiring b chips) own.place q own.found in
    let c = then-some (λ (chip : NewChip). pin_net (old b) chip q.1) (slice_get chips q.0) n (sym (ap (option_and_then (λ (o : Option ℕ). o)) own.stands) ∙ stands) in
    let h = has-chip 0 (new_wiring b chips).chips q there.1 in
    let number : h.place ≡ q.0 = let e : q.0 ≡ 0 + h.place = h.number in omega (arith, e) in
    let line : slice_get (new_wiring b chips).chips q.0 ≡ Some (new_chip_line (fitted (old b) c.0)) =
    slice_get-map new_chip_line (fitted_chips b chips) q.0 ∙ ap (option_map new_chip_line) (slice_get-map (fitted (old b)) chips q.0 ∙ ap (option_map (fitted (old b))) c.1) in
    let same : h.line ≡ new_chip_line (fitted (old b) c.0) = same_Some h.line (new_chip_line (fitted (old b) c.0)) (sym h.found ∙ ap (slice_get (new_wiring b chips).chips) number ∙ line) in
    let ordinary : Among q.1 (ordinary_pins c.0.kind) = subst (λ (l : ChipLine). Among q.1 (ordinary_pins l.kind)) same h.ordinary in
    record { chip = c.0; found = c.1; ordinary = ordinary; net = c.2; high = at q c.0 c.1 ordinary c.2 there.0 (cases_lt n (private_from b.net)) }
  where
    at : (q : At) (chip : NewChip) → slice_get chips q.0 ≡ Some chip → Among q.1 (ordinary_pins chip.kind) → pin_net (old b) chip q.1 ≡ Some n → is_none (line_at (new_wiring b chips).pins q) ≡ true →
        (n < private_from b.net) ⊎ (private_from b.net ≤ n) → private_from b.net ≤ n
    at q chip found ordinary net bare (inr high) = high
    at q chip found ordinary net bare (inl low) =
        let wrong : true ≡ false = sym bare ∙ ap (λ (o : Option ℕ). is_none o) (named-line b chips q.0 chip q.1 n found ordinary net low) in
        cc
