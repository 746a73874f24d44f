-- Each literal of a new row stands for the old literal that it comes from.
use Rattle.std.proofs.Common.{ℕ, zero, suc, ◌≡◌, ◌<◌, ◌+◌, Bool, true, false, not, cond, List, [], ◌∷◌, map, length, Option, Some, None, is_some, refl, sym, ap, ◌∙◌, subst, inl, inr, arith}
use Rattle.std.specs.Prelude.{option_and_then}
use Rattle.std.specs.List.{AllByRecursion, list_all, slice_get}
use Rattle.std.specs.Option.{option_map}
use Rattle.std.proofs.lemmas.List.{length-map}
use Rattle.std.proofs.lemmas.Option.{same_Some, slice_get-map}
use Rattle.mig_base.specs.declared.kinds.Kind.{Kind}
use Rattle.mig_base.specs.declared.kinds.Kind.TheVariants.{Pal16L8, Pal16R4, Pal16R6, Pal16R8, Pal20L8, Pal20R4, Pal20R6, Pal20R8, Gal16V8, Gal20V8, Gal22V10, Gal22V10Q}
use Rattle.mig_base.specs.declared.kinds.Mode.{Mode}
use Rattle.mig_base.specs.declared.kinds.Mode.TheVariants.{Simple, Complex, Registered, Fixed}
use Rattle.mig_base.specs.declared.cells.Lit.{Lit}
use Rattle.mig_base.specs.declared.cells.Source.{Source}
use Rattle.mig_base.specs.declared.cells.Source.TheVariants.{Pin, Reg}
use Rattle.mig_base.specs.declared.circuit.Read.{Read}
use Rattle.mig_base.specs.declared.circuit.Read.TheVariants.{OfNet, OfRegister}
use Rattle.mig_base.specs.declared.circuit.Literal.{Literal}
use Rattle.mig_base.specs.declared.circuit.Circuit.{Circuit}
use Rattle.mig_base.specs.Among.{Among}
use Rattle.mig_base.specs.Bools.{same_bool}
use Rattle.mig_base.specs.Cells.{is_among}
use Rattle.mig_base.specs.DeviceTables.{ordinary_pins, pair_pins}
use Rattle.mig_base.specs.Boards.{At, ChipUnit, at_of, literals_of, net_of, place_of, read_of, registers_of, same_at}
use Rattle.mig_base.specs.Reads.{IsNode}
use Rattle.mig_base.specs.Structure.{alias_of, or_alias, variable_by, variable_literal}
use Rattle.mig_base.specs.Values.{product_reads}
use Rattle.mig_base.proofs.Amongs.{among-all, among-map, map-among}
use Rattle.mig_base.proofs.ListLaws.{item-at}
use Rattle.mig_base.proofs.KindFacts.{pairs-ordinary}
use Rattle.board.specs.Joined.{Joined, equations_of}
use Rattle.new_board.specs.declared.types.PlacedUnit.{PlacedUnit}
use Rattle.new_board.specs.NewChip.{NewChip, net_literal, placed_register, read_by, register_on, unit_on, unit_register}
use Rattle.new_board.specs.InputPins.{pin_net, pin_reads}
use Rattle.new_board.specs.NewFiles.{new_product}
use Rattle.new_board.proofs.Columns.{IsReadable, IsReading, RegistersFit, lit-in_product, placed_lit, product-lit, source_at}
use Rattle.new_board.proofs.Wiring.{at-same}
use Rattle.read_nodes.proofs.Columns.{pin-among}
use Rattle.placed_boards.proofs.RowParts.{all-pass}
use Rattle.plans.specs.Placings.{old}
use Rattle.plans.specs.Fitting.{new_board}
use Rattle.carried_boards.specs.Carries.{old_node}
use Rattle.placed_boards.specs.Rows.{IsSeenAs, seen_literal}
use Rattle.new_circuits.specs.NewNumbers.{new_units, new_wiring, numbers_of, old_net, old_register, or_zero, placed_at, unit_of}
use Rattle.new_circuits.proofs.PinNets.{pin-kept}

-- a place of a list has the item that was looked for
place-found : (q : At) (qs : List At) → place_of q qs < length qs → slice_get qs (place_of q qs) ≡ Some q
place-found q [] h = absurd (omega arith)
place-found q (r ∷ rs) h = at (same_at q r) refl h (place-found q rs)
  where
    at : (same : Bool) → same_at q r ≡ same → cond same 0 (place_of q rs + 1) < suc (length rs) → (place_of q rs < length rs → slice_get rs (place_of q rs) ≡ Some q) →
        slice_get (r ∷ rs) (cond same 0 (place_of q rs + 1)) ≡ Some q
    at true e low rest = ap (λ (x : At). Some x) (sym (at-same q r e))
    at false e low rest = ap (slice_get (r ∷ rs)) next ∙ rest (omega (arith, low))
      where
        next : place_of q rs + 1 ≡ suc (place_of q rs)
        next = omega arith

pub pair-ordinary : (kind : Kind) (mode : Mode) (pin : ℕ) → Among pin (pair_pins kind mode) → Among pin (ordinary_pins kind)
pair-ordinary kind mode pin a = pin-among (ordinary_pins kind) pin (all-pass (is_among (ordinary_pins kind)) pin (pair_pins kind mode) (pairs-ordinary kind mode) a)

-- twice the same sign
sign-twice : (h q : Bool) → same_bool (same_bool h q) q ≡ h
sign-twice true true = refl
sign-twice true false = refl
sign-twice false true = refl
sign-twice false false = refl

plain-sign : (h : Bool) → h ≡ same_bool h true
plain-sign true = refl
plain-sign false = refl

-- the variable's literal, with another sign
signed : (c : Circuit) (v : Read) (h : Bool) (y : Literal) → variable_literal c (record { source = v; high = true }) ≡ y → variable_literal c (record { source = v; high = h }) ≡ record { source = y.source; high = same_bool h y.high }
signed c (OfRegister k) h y e = (λ i. record { source = (ap (λ (z : Literal). z.source) e) i; high = (plain-sign h ∙ ap (λ (z : Literal). same_bool h z.high) e) i })
signed c (OfNet n) h y e = at (alias_of c n) e
  where
    at : (o : Option (ℕ × Bool)) → or_alias o (record { source = OfNet n; high = true }) ≡ y → or_alias o (record { source = OfNet n; high = h }) ≡ record { source = y.source; high = same_bool h y.high }
    at None is = (λ i. record { source = (ap (λ (z : Literal). z.source) is) i; high = (plain-sign h ∙ ap (λ (z : Literal). same_bool h z.high) is) i })
    at (Some x) is = (λ i. record { source = (ap (λ (z : Literal). z.source) is) i; high = (ap (λ (z : Literal). same_bool h z.high) is) i })

module _ (b : Joined) (chips : List NewChip) (j : ℕ) (chip : NewChip) (found : slice_get chips j ≡ Some chip) where
  abbrev a : Circuit
  a = equations_of b

  abbrev new : Circuit
  new = equations_of (new_board b chips)

  -- what a source of the chip is on the new board
  abbrev place : Source → Read
  place s = read_of (new_wiring b chips) (new_units b chips) j s

  abbrev registers : List ChipUnit
  registers = registers_of (new_units b chips)

  -- a register that a row reads
  pub register-seen : (pin k : ℕ) → register_on a chip pin ≡ Some k → IsNode new (place (Reg pin)) → (numbers_of b chips).register (place_of (j, pin) (map at_of registers)) ≡ k
  register-seen pin k on there =
      let long : length (map at_of registers) ≡ length registers = length-map registers at_of in
      let made : length new.registers ≡ length registers = length-map registers _ in
      let low : place_of (j, pin) (map at_of registers) < length registers = omega (arith, made, there) in
      let u = item-at registers (place_of (j, pin) (map at_of registers)) low in
      let here : Some (at_of u.0) ≡ Some (j, pin) =
      ap (option_map at_of) (sym u.1) ∙ sym (slice_get-map at_of registers (place_of (j, pin) (map at_of registers))) ∙ place-found (j, pin) (map at_of registers) (omega (arith, long, low)) in
      let is : at_of u.0 ≡ (j, pin) = same_Some (at_of u.0) (j, pin) here in
      ap or_zero (slice_get-map (old_register b chips) registers (place_of (j, pin) (map at_of registers)) ∙ ap (option_map (old_register b chips)) u.1)
      ∙ ap (λ (q : At). or_zero (unit_register a (unit_of (placed_at chips q)))) is
      ∙ ap (λ (o : Option NewChip). or_zero (unit_register a (unit_of (option_and_then (λ (c : NewChip). unit_on c.units pin) o)))) found
      ∙ at (unit_on chip.units pin) on
    where
      at : (o : Option PlacedUnit) → option_and_then (placed_register a) o ≡ Some k → or_zero (unit_register a (unit_of o)) ≡ k
      at None e = cc
      at (Some x) e = ap or_zero e

  -- the net of a pin that a row reads
  pub net-seen : (pin n : ℕ) → Among pin (ordinary_pins chip.kind) → pin_net (old b) chip pin ≡ Some n → (numbers_of b chips).net (net_of (new_wiring b chips) (j, pin)) ≡ n
  net-seen pin n ordinary e = ap (λ (o : Option (Option ℕ)). or_zero (option_and_then (λ (x : Option ℕ). x) o)) (pin-kept b chips j chip pin found ordinary) ∙ ap or_zero e

  -- what the columns of a pin read
  pin-seen : (pin : ℕ) (y : Literal) → Among pin (ordinary_pins chip.kind) → pin_reads (old b) chip pin ≡ Some y → IsNode new (place (source_at (old b) chip pin)) →
      seen_literal a (numbers_of b chips) (record { source = place (source_at (old b) chip pin); high = true }) ≡ y
  pin-seen pin y ordinary reads there = at (register_on a chip pin) refl reads there
    where
      none : (o : Option ℕ) → pin_net (old b) chip pin ≡ o → read_by a None o ≡ Some y → seen_literal a (numbers_of b chips) (record { source = place (Pin pin); high = true }) ≡ y
      none None e r = cc
      none (Some n) e r = ap (λ (m : ℕ). variable_literal a (record { source = OfNet m; high = true })) (net-seen pin n ordinary e) ∙ same_Some (net_literal a n) y r

      at : (o : Option ℕ) → register_on a chip pin ≡ o → read_by a o (pin_net (old b) chip pin) ≡ Some y → IsNode new (place (cond (is_some o) (Reg pin) (Pin pin))) →
          seen_literal a (numbers_of b chips) (record { source = place (cond (is_some o) (Reg pin) (Pin pin)); high = true }) ≡ y
      at None e r t = none (pin_net (old b) chip pin) refl r
      at (Some k) e r t =
          ap (λ (m : ℕ). record { source = OfRegister m; high = true }) (register-seen pin k e t) ∙ same_Some (record { source = OfRegister k; high = true }) y r

  -- a literal of a new row
  reading-seen : (x : Literal) (y : Lit) → (r : IsReading (old b) chip x y) → Among r.pin (ordinary_pins chip.kind) → IsNode new (place y.source) → seen_literal a (numbers_of b chips) (placed_lit place y) ≡ x
  reading-seen x y r ordinary there =
      let source : y.source ≡ source_at (old b) chip r.pin = ap (λ (q : Lit). q.source) r.lit_is in
      let seen = pin-seen r.pin r.reads ordinary r.reading (subst (λ (q : Source). IsNode new (place q)) source there) in
      ap (λ (q : Lit). seen_literal a (numbers_of b chips) (placed_lit place q)) r.lit_is
      ∙ signed a (old_node (numbers_of b chips) (place (source_at (old b) chip r.pin))) (same_bool x.high r.reads.high) r.reads seen
      ∙ (λ i. record { source = r.variable i; high = sign-twice x.high r.reads.high i })

  pub product-seen : (lits : List Literal) → RegistersFit (old b) chip → IsReadable (old b) chip lits →
      AllByRecursion (IsNode new) (product_reads (literals_of (new_wiring b chips) (new_units b chips) j (new_product (old b) chip lits))) →
      IsSeenAs a (numbers_of b chips) (literals_of (new_wiring b chips) (new_units b chips) j (new_product (old b) chip lits)) lits
  product-seen lits fit readable nodes = record {
    only = λ z az.
        let y = among-map (placed_lit place) z (new_product (old b) chip lits) az in
        let x = product-lit (old b) chip lits readable y.0 y.1 in
        subst (λ (q : Literal). Among q lits) (sym (ap (seen_literal a (numbers_of b chips)) y.2 ∙ reading-seen x.0 y.0 x.2 (pair-ordinary chip.kind chip.mode x.2.pin x.2.column) (node-at y.0 y.1))) x.1;
    every = λ x ax.
        let y = lit-in_product (old b) chip lits fit readable x ax in (
          placed_lit place y.0,
          map-among (placed_lit place) y.0 (new_product (old b) chip lits) y.1,
          reading-seen x y.0 y.2 (pair-ordinary chip.kind chip.mode y.2.pin y.2.column) (node-at y.0 y.1),
        );
  }
    where
      node-at : (y : Lit) → Among y (new_product (old b) chip lits) → IsNode new (place y.source)
      node-at y ay = among-all (IsNode new) (place y.source) (product_reads (map (placed_lit place) (new_product (old b) chip lits))) nodes
          (map-among (λ (z : Literal). z.source) (placed_lit place y) (map (placed_lit place) (new_product (old b) chip lits)) (map-among (placed_lit place) y (new_product (old b) chip lits) ay))
