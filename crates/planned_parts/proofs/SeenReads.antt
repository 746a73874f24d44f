-- What a row of a new chip reads on the new board is a register, or a net that stands for an old one.
use Rattle.std.proofs.Common.{true, ℕ, ◌≡◌, ◌⊎◌, false, cond, List, [], ◌∷◌, map, Option, Some, None, is_some, refl, sym, ap, ◌∙◌, subst, inl, inr}
use Rattle.std.specs.List.{slice_get}
use Rattle.std.proofs.lemmas.Option.{same_Some}
use Rattle.mig_base.specs.declared.cells.Lit.{Lit}
use Rattle.mig_base.specs.declared.cells.Source.{Source}
use Rattle.mig_base.specs.declared.cells.Source.TheVariants.{Pin, Reg}
use Rattle.mig_base.specs.declared.circuit.Literal.{Literal}
use Rattle.mig_base.specs.declared.circuit.Read.{Read}
use Rattle.mig_base.specs.declared.circuit.Read.TheVariants.{OfNet}
use Rattle.mig_base.specs.declared.circuit.Gate.{Gate}
use Rattle.mig_base.specs.declared.circuit.Gate.TheVariants.{Never, Product}
use Rattle.mig_base.specs.declared.circuit.Circuit.{Circuit}
use Rattle.mig_base.specs.Among.{Among}
use Rattle.mig_base.specs.Boards.{enable_on, read_of, row_on}
use Rattle.mig_base.specs.Reads.{IsNode}
use Rattle.mig_base.specs.Values.{product_reads, row_reads, sum_reads}
use Rattle.mig_base.proofs.Amongs.{among-map, among-split}
use Rattle.board.specs.Joined.{Joined, equations_of}
use Rattle.joiner.specs.AbsorbedNets.{AreAbsorbable}
use Rattle.new_board.specs.NewChip.{NewChip, gate_products, net_literal, read_by, register_on}
use Rattle.new_board.specs.InputPins.{pin_net}
use Rattle.new_board.specs.NewFiles.{new_enable, new_product, new_row}
use Rattle.new_board.proofs.Columns.{IsReadable, IsReading, placed_lit, product-lit, source_at}
use Rattle.plans.specs.Placings.{old}
use Rattle.plans.specs.Fitting.{new_board}
use Rattle.plans.specs.Forms.{Products, is_absorbed_read}
use Rattle.carried_boards.specs.Carries.{variable_at}
use Rattle.placed_boards.specs.Places.{IsSeen}
use Rattle.new_circuits.specs.NewNumbers.{is_seen, new_literals, new_units, new_wiring}
use Rattle.new_circuits.proofs.SeenRows.{pair-ordinary}
use Rattle.planned_parts.proofs.Unabsorbed.{net-stays, pin-seen}

module _ (b : Joined) (absorbed : List ℕ) (absorbable : AreAbsorbable b absorbed) (chips : List NewChip) (j : ℕ) (chip : NewChip) (found : slice_get chips j ≡ Some chip) where
  abbrev a : Circuit
  a = equations_of b

  abbrev new : Circuit
  new = equations_of (new_board b chips)

  abbrev place : Source → Read
  place s = read_of (new_wiring b chips) (new_units b chips) j s

  abbrev pub Sees : Read → Type 0
  Sees w = IsSeen new (is_seen b absorbed chips) w

  -- rows that a chip's pins read, and that read no absorbed net
  pub record AreSeenRows (products : Products) : Type 0 where
    pub readable : (t : List Literal) → Among t products → IsReadable (old b) chip t
    pub stay : (t : List Literal) (x : Literal) → Among t products → Among x t → is_absorbed_read a absorbed x.source ≡ false

  -- a literal
  lit-sees : (x : Literal) (y : Lit) → IsReading (old b) chip x y → is_absorbed_read a absorbed x.source ≡ false → IsNode new (place y.source) → Sees (place y.source)
  lit-sees x y r none node =
      subst (λ (s : Source). Sees (place s)) (sym source) (at (register_on a chip r.pin) refl r.reading (subst (λ (s : Source). IsNode new (place s)) source node))
    where
      source : y.source ≡ source_at (old b) chip r.pin
      source = ap (λ (q : Lit). q.source) r.lit_is

      net : (o : Option ℕ) → pin_net (old b) chip r.pin ≡ o → read_by a None o ≡ Some r.reads → Sees (place (Pin r.pin))
      net None e h = cc
      net (Some n) e h =
          let variable : variable_at a (OfNet n) ≡ x.source = ap (λ (z : Literal). z.source) (same_Some (net_literal a n) r.reads h) ∙ r.variable in
          pin-seen b absorbed chips j chip r.pin n found (pair-ordinary chip.kind chip.mode r.pin r.column) e
          (net-stays a absorbed absorbable n (ap (is_absorbed_read a absorbed) variable ∙ none))

      at : (o : Option ℕ) → register_on a chip r.pin ≡ o → read_by a o (pin_net (old b) chip r.pin) ≡ Some r.reads → IsNode new (place (cond (is_some o) (Reg r.pin) (Pin r.pin))) →
          Sees (place (cond (is_some o) (Reg r.pin) (Pin r.pin)))
      at None e h node = net (pin_net (old b) chip r.pin) refl h
      at (Some k) e h node = node

  pub product-sees : (lits : List Literal) → AreSeenRows (lits ∷ []) → (w : Read) → Among w (product_reads (new_literals b chips j chip lits)) → IsNode new w → Sees w
  product-sees lits rows w m node =
      let z = among-map (λ (q : Literal). q.source) w (new_literals b chips j chip lits) m in
      let y = among-map (placed_lit place) z.0 (new_product (old b) chip lits) z.1 in
      let x = product-lit (old b) chip lits (rows.readable lits (inl refl)) y.0 y.1 in
      let is : w ≡ place y.0.source = z.2 ∙ ap (λ (q : Literal). q.source) y.2 in
      subst Sees (sym is) (lit-sees x.0 y.0 x.2 (rows.stay lits x.0 (inl refl) x.1) (subst (IsNode new) is node))

  -- one of these rows
  pub one-row : (t : List Literal) (ts : Products) → Among t ts → AreSeenRows ts → AreSeenRows (t ∷ [])
  one-row t ts m rows = record { readable = λ s h. rows.readable s (at s h); stay = λ s x h hx. rows.stay s x (at s h) hx }
    where
      at : (s : List Literal) → Among s (t ∷ []) → Among s ts
      at s (inl e) = subst (λ (q : List Literal). Among q ts) (sym e) m
      at s (inr h) = absurd h

  pub sum-sees : (ts : Products) → AreSeenRows ts → (w : Read) → Among w (sum_reads (map (new_literals b chips j chip) ts)) → IsNode new w → Sees w
  sum-sees [] rows w m node = absurd m
  sum-sees (t ∷ ts) rows w m node =
      at (among-split w (product_reads (new_literals b chips j chip t)) (sum_reads (map (new_literals b chips j chip) ts)) m)
      (λ h. sum-sees ts (record { readable = λ s g. rows.readable s (inr g); stay = λ s x g gx. rows.stay s x (inr g) gx }) w h node)
    where
      at : Among w (product_reads (new_literals b chips j chip t)) ⊎ Among w (sum_reads (map (new_literals b chips j chip) ts)) → (Among w (sum_reads (map (new_literals b chips j chip) ts)) → Sees w) → Sees w
      at (inl h) rest = product-sees t (one-row t (t ∷ ts) (inl refl) rows) w h node
      at (inr h) rest = rest h

  -- an enable row
  pub enable-sees : (g : Gate) → AreSeenRows (gate_products g) → (w : Read) → Among w (row_reads (enable_on (new_wiring b chips) (new_units b chips) j (new_enable (old b) chip g))) → IsNode new w → Sees w
  enable-sees Never rows w m node = absurd m
  enable-sees (Product []) rows w m node = absurd m
  enable-sees (Product (x ∷ xs)) rows w m node = product-sees (x ∷ xs) rows w m node

  -- a reset or preset row
  pub row-sees : (g : Gate) → AreSeenRows (gate_products g) → (w : Read) → Among w (row_reads (row_on (new_wiring b chips) (new_units b chips) j (new_row (old b) chip g))) → IsNode new w → Sees w
  row-sees Never rows w m node = absurd m
  row-sees (Product lits) rows w m node = product-sees lits rows w m node
