-- Nets that are not absorbed, and the new nets that stand for them.
use Rattle.std.proofs.Common.{ℕ, ◌≡◌, Bool, true, false, not, ◌&&◌, List, [], Option, Some, None, refl, sym, ap, ◌∙◌, eqb, eqb-true}
use Rattle.std.specs.Prelude.{option_and_then}
use Rattle.std.specs.List.{list_any, slice_get}
use Rattle.std.proofs.lemmas.Bool.{and_parts}
use Rattle.mig_base.specs.declared.circuit.Literal.{Literal}
use Rattle.mig_base.specs.declared.circuit.Read.TheVariants.{OfNet}
use Rattle.mig_base.specs.declared.circuit.Register.{Register}
use Rattle.mig_base.specs.declared.circuit.Circuit.{Circuit}
use Rattle.mig_base.specs.Accepted.{IsAccepted}
use Rattle.mig_base.specs.Among.{Among}
use Rattle.mig_base.specs.Boards.{net_of}
use Rattle.mig_base.specs.DeviceTables.{ordinary_pins}
use Rattle.mig_base.specs.Structure.{alias_of}
use Rattle.mig_base.proofs.Aliases.{IsAlias, alias-is}
use Rattle.mig_base.proofs.Amongs.{among-any, any-among}
use Rattle.structure.specs.Absorbable.{IsAbsorbable, is_plain, is_sum}
use Rattle.structure.specs.Pure.{is_always}
use Rattle.board.specs.Joined.{Joined, equations_of}
use Rattle.new_board.specs.NewChip.{NewChip}
use Rattle.new_board.specs.InputPins.{pin_net}
use Rattle.plans.specs.Forms.{Products, is_absorbed_read, is_absorbed_wire, is_sole_absorbed, read_absorbed}
use Rattle.plans.specs.Placings.{old}
use Rattle.carried_boards.specs.Carries.{variable_at}
use Rattle.placed_boards.proofs.Naming.{variable-none}
use Rattle.new_circuits.specs.NewNumbers.{is_seen, new_wiring, stays}
use Rattle.new_circuits.proofs.PinNets.{pin-kept}

-- the literals of rows that read no absorbed net
pub literal-stays : (c : Circuit) (absorbed : List ℕ) (products : Products) → read_absorbed c absorbed products ≡ false → (t : List Literal) (x : Literal) → Among t products → Among x t →
    is_absorbed_read c absorbed x.source ≡ false
literal-stays c absorbed products none t x mt mx = at (is_absorbed_read c absorbed x.source) refl
  where
    at : (q : Bool) → is_absorbed_read c absorbed x.source ≡ q → q ≡ false
    at false e = refl
    at true e =
        let there : read_absorbed c absorbed products ≡ true =
        among-any (λ (lits : List Literal). list_any (λ (y : Literal). is_absorbed_read c absorbed y.source) lits) t products mt (among-any (λ (y : Literal). is_absorbed_read c absorbed y.source) x t mx e) in
        sym there ∙ none

module _ (c : Circuit) (absorbed : List ℕ) (absorbable : (u : ℕ) → Among u absorbed → IsAbsorbable c u) where
  -- an alias net is driven by a registered unit
  pub alias-stays : (n : ℕ) (x : ℕ × Bool) → alias_of c n ≡ Some x → is_absorbed_read c absorbed (OfNet n) ≡ false
  alias-stays n x is = ap (is_absorbed_wire absorbed) i.found ∙ ap (is_sole_absorbed absorbed) i.only ∙ at (list_any (λ a. eqb a i.unit) absorbed) refl
    where
      i : IsAlias c n x
      i = alias-is c n x is

      at : (q : Bool) → list_any (λ a. eqb a i.unit) absorbed ≡ q → q ≡ false
      at false e = refl
      at true e =
          let found = any-among (λ a. eqb a i.unit) absorbed e in
          let plain : is_plain (slice_get c.units found.0) ≡ true = (absorbable found.0 found.1).1.plain in
          let driver : slice_get c.units found.0 ≡ Some i.driver = ap (slice_get c.units) (eqb-true found.0 i.unit found.2) ∙ i.unit_is in
          let both : (is_always i.driver.enable && is_sum i.driver.gives) ≡ true = sym (ap is_plain driver) ∙ plain in
          let sum : is_sum i.driver.gives ≡ true = (and_parts (is_always i.driver.enable) (is_sum i.driver.gives) both).1 in
          let wrong : true ≡ false = sym sum ∙ ap is_sum i.alias.gives in
          cc

  -- a net whose variable isn't absorbed
  pub net-stays : (n : ℕ) → is_absorbed_read c absorbed (variable_at c (OfNet n)) ≡ false → is_absorbed_read c absorbed (OfNet n) ≡ false
  net-stays n e = at (alias_of c n) refl
    where
      at : (o : Option (ℕ × Bool)) → alias_of c n ≡ o → is_absorbed_read c absorbed (OfNet n) ≡ false
      at None is = sym (ap (is_absorbed_read c absorbed) (variable-none c n is)) ∙ e
      at (Some x) is = alias-stays n x is

-- the clock net of a register
pub clock-stays : (c : Circuit) (absorbed : List ℕ) → IsAccepted c → (k : ℕ) (r : Register) → slice_get c.registers k ≡ Some r → is_absorbed_read c absorbed (OfNet r.clock) ≡ false
clock-stays c absorbed accepted k r e =
    let clock = accepted.clocks k r e in
    let none : clock.0.drivers ≡ [] = accepted.driven r.clock clock.0 clock.1 clock.2 in
    ap (is_absorbed_wire absorbed) clock.1 ∙ ap (is_sole_absorbed absorbed) none

-- the net of a pin on a net that isn't absorbed stands for it
pub pin-seen : (b : Joined) (absorbed : List ℕ) (chips : List NewChip) (j : ℕ) (chip : NewChip) (pin n : ℕ) → slice_get chips j ≡ Some chip → Among pin (ordinary_pins chip.kind) →
    pin_net (old b) chip pin ≡ Some n → is_absorbed_read (equations_of b) absorbed (OfNet n) ≡ false → is_seen b absorbed chips (net_of (new_wiring b chips) (j, pin)) ≡ true
pin-seen b absorbed chips j chip pin n found ordinary e none =
    ap (λ (o : Option (Option ℕ)). stays b absorbed (option_and_then (λ (x : Option ℕ). x) o)) (pin-kept b chips j chip pin found ordinary)
    ∙ ap (stays b absorbed) e ∙ ap not none
