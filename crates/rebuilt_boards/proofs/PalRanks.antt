-- Boards of PAL16 chips whose combinational units read no combinational net have ranks, and so have the boards that are built for them.
use Rattle.std.proofs.Common.{ℕ, suc, ◌≡◌, ◌<◌, Bool, true, false, cond, List, [], ◌∷◌, length, Option, Some, None, refl, sym, ap, ◌∙◌, subst, inl, inr, ◌⊎◌, eqb, eqb-true, ne_eqb, arith}
use Rattle.std.specs.List.{list_any, slice_get, AllByRecursion}
use Rattle.mig_base.specs.Structure.{has_no_driver}
use Rattle.mig_base.specs.declared.cells.ChipCells.{ChipCells}
use Rattle.mig_base.specs.declared.nets.Net.{Net}
use Rattle.mig_base.specs.declared.circuit.Read.{Read}
use Rattle.mig_base.specs.declared.circuit.Read.TheVariants.{OfNet, OfRegister}
use Rattle.mig_base.specs.declared.circuit.Literal.{Literal}
use Rattle.mig_base.specs.declared.circuit.Gate.{Gate}
use Rattle.mig_base.specs.declared.circuit.Gate.TheVariants.{Never}
use Rattle.mig_base.specs.declared.circuit.Gives.TheVariants.{Sum, Visible}
use Rattle.mig_base.specs.declared.circuit.Driver.{Driver}
use Rattle.mig_base.specs.declared.circuit.Register.{Register}
use Rattle.mig_base.specs.declared.circuit.Wire.{Wire}
use Rattle.mig_base.specs.declared.circuit.Circuit.{Circuit}
use Rattle.mig_base.specs.Among.{Among}
use Rattle.mig_base.specs.Values.{row_reads, sum_reads}
use Rattle.mig_base.specs.Reads.{gives_reads, driver_reads, reads_of_wire, reads_of_register, node_reads}
use Rattle.mig_base.specs.declared.circuit.Gives.{Gives}
use Rattle.mig_base.specs.Ranked.{Ranked}
use Rattle.structure.specs.Absorbable.{is_sum}
use Rattle.taken_boards.specs.TakenBoards.{is_undriven}
use Rattle.taken_boards.specs.TakenBoards.{is_combinational, is_combinational_wire, is_combinational_net}
use Rattle.mig_base.specs.Boards.{ChipUnit, at_of, is_registered, registers_of, driver_of, register_of, units_from, circuit_on}
use Rattle.mig_base.proofs.Amongs.{all-among, among-any, among-split, among-get, among-map}
use Rattle.new_board.proofs.Items.{among-unflat_map, among-unfilter}
use Rattle.rebuilt_boards.proofs.RebuiltCircuit.{board_of}
use Rattle.rebuilt_boards.proofs.Combinational.{old_terms}
use Rattle.rebuilt_boards.proofs.PalUnits.{pal-unit}
use Rattle.rebuilt_boards.proofs.RegisterUnits.{register_number}
use Rattle.rebuilt_boards.proofs.Registered.{pal-reset}
use Rattle.rebuilt_boards.proofs.PalBoards.{IsPalBoard}

-- a register whose enable reads no net that has a driver, or logic whose rows read no net that has a combinational one
pub record DriverRanks (c : Circuit) (d : Driver) : Type 0 where
  pub registered : is_sum d.gives ≡ false → (v : Read) → Among v (row_reads d.enable) → is_undriven c v ≡ true
  pub enable : is_sum d.gives ≡ true → (v : Read) → Among v (row_reads d.enable) → is_combinational_net c v ≡ false
  pub terms : (ts : List (List Literal)) → d.gives ≡ Sum ts → (v : Read) → Among v (sum_reads ts) → is_combinational_net c v ≡ false

-- such boards without resets
pub record IsRankable (c : Circuit) : Type 0 where
  pub drivers : (i : ℕ) (d : Driver) → slice_get c.units i ≡ Some d → DriverRanks c d
  pub resets : (k : ℕ) (r : Register) → slice_get c.registers k ≡ Some r → r.reset ≡ Never

abbrev pub pal_rank : Circuit → Read → ℕ
pal_rank c (OfNet n) = cond (is_combinational_net c (OfNet n)) 2 (cond (is_undriven c (OfNet n)) 0 1)
pal_rank c (OfRegister k) = 0

-- a net without driver has no combinational one
pub undriven-plain : (c : Circuit) (v : Read) → is_undriven c v ≡ true → is_combinational_net c v ≡ false
undriven-plain c (OfRegister k) e = refl
undriven-plain c (OfNet n) e = at (slice_get c.nets n) e
  where
    empty : (ds : List ℕ) → eqb (length ds) 0 ≡ true → list_any (λ u. is_combinational (slice_get c.units u)) ds ≡ false
    empty [] e = refl
    empty (d ∷ ds) e = let wrong : suc (length ds) ≡ 0 = eqb-true (suc (length ds)) 0 e in absurd (omega arith)

    at : (o : Option Wire) → has_no_driver o ≡ true → is_combinational_wire c o ≡ false
    at None e = cc
    at (Some w) e = empty w.drivers e

undriven-rank : (c : Circuit) (v : Read) → is_undriven c v ≡ true → pal_rank c v ≡ 0
undriven-rank c (OfRegister k) e = refl
undriven-rank c (OfNet n) e =
    ap (λ (q : Bool). cond q 2 (cond (is_undriven c (OfNet n)) 0 1)) (undriven-plain c (OfNet n) e) ∙ ap (λ (q : Bool). cond q 0 1) e

registered-rank : (c : Circuit) (v : Read) → is_combinational_net c v ≡ false → pal_rank c v < 2
registered-rank c (OfRegister k) e = omega arith
registered-rank c (OfNet n) e = subst (λ (q : Bool). cond q 2 (cond (is_undriven c (OfNet n)) 0 1) < 2) (sym e) (at (is_undriven c (OfNet n)))
  where
    at : (q : Bool) → cond q 0 1 < 2
    at true = omega arith
    at false = omega arith

driven-rank : (c : Circuit) (n i : ℕ) (w : Wire) → slice_get c.nets n ≡ Some w → Among i w.drivers → 0 < pal_rank c (OfNet n)
driven-rank c n i w e a =
    let wire : cond (is_combinational_wire c (Some w)) 2 (cond (has_no_driver (Some w)) 0 1) ≡ pal_rank c (OfNet n) =
    ap (λ (o : Option Wire). cond (is_combinational_wire c o) 2 (cond (has_no_driver o) 0 1)) (sym e) in
    subst (λ (k : ℕ). 0 < k) wire (at w.drivers a (list_any (λ u. is_combinational (slice_get c.units u)) w.drivers))
  where
    at : (ds : List ℕ) → Among i ds → (q : Bool) → 0 < cond q 2 (cond (eqb (length ds) 0) 0 1)
    at [] a q = absurd a
    at (d ∷ ds) a true = omega arith
    at (d ∷ ds) a false = subst (λ (t : Bool). 0 < cond t 0 1) (sym (ne_eqb (suc (length ds)) 0 (λ e. omega arith))) (omega arith)

combinational-rank : (c : Circuit) (n i : ℕ) (w : Wire) (d : Driver) → slice_get c.nets n ≡ Some w → Among i w.drivers → slice_get c.units i ≡ Some d → is_sum d.gives ≡ true → pal_rank c (OfNet n) ≡ 2
combinational-rank c n i w d e a u s =
    ap (λ (o : Option Wire). cond (is_combinational_wire c o) 2 (cond (is_undriven c (OfNet n)) 0 1)) e
    ∙ ap (λ (q : Bool). cond q 2 (cond (is_undriven c (OfNet n)) 0 1)) (among-any (λ u. is_combinational (slice_get c.units u)) i w.drivers a (ap is_combinational u ∙ s))

pub pal-ranked : (c : Circuit) → IsRankable c → Ranked c (pal_rank c) 3
pal-ranked c h = record { falls = falls; below = below }
  where
    gives : (n i : ℕ) (w : Wire) (d : Driver) (v : Read) → slice_get c.nets n ≡ Some w → Among i w.drivers → slice_get c.units i ≡ Some d → (g : Gives) → d.gives ≡ g → Among v (gives_reads g) → pal_rank c v < pal_rank c (OfNet n)
    gives n i w d v e a u (Sum ts) is r =
        let low : pal_rank c v < 2 = registered-rank c v ((h.drivers i d u).terms ts is v r) in
        let high : pal_rank c (OfNet n) ≡ 2 = combinational-rank c n i w d e a u (ap is_sum is) in
        omega arith
    gives n i w d v e a u (Visible k) is (inl same) =
        let low : pal_rank c v ≡ 0 = ap (pal_rank c) same in
        let high : 0 < pal_rank c (OfNet n) = driven-rank c n i w e a in
        omega arith
    gives n i w d v e a u (Visible k) is (inr r) = absurd r

    driver : (n i : ℕ) (w : Wire) (v : Read) → slice_get c.nets n ≡ Some w → Among i w.drivers → (o : Option Driver) → slice_get c.units i ≡ o → Among v (driver_reads o) → pal_rank c v < pal_rank c (OfNet n)
    driver n i w v e a None u r = absurd r
    driver n i w v e a (Some d) u r = at (among-split v (row_reads d.enable) (gives_reads d.gives) r)
      where
        at : Among v (row_reads d.enable) ⊎ Among v (gives_reads d.gives) → pal_rank c v < pal_rank c (OfNet n)
        at (inl k) = by (is_sum d.gives) refl
          where
            by : (q : Bool) → is_sum d.gives ≡ q → pal_rank c v < pal_rank c (OfNet n)
            by false s =
                let low : pal_rank c v ≡ 0 = undriven-rank c v ((h.drivers i d u).registered s v k) in
                let high : 0 < pal_rank c (OfNet n) = driven-rank c n i w e a in
                omega arith
            by true s =
                let low : pal_rank c v < 2 = registered-rank c v ((h.drivers i d u).enable s v k) in
                let high : pal_rank c (OfNet n) ≡ 2 = combinational-rank c n i w d e a u s in
                omega arith
        at (inr k) = gives n i w d v e a u d.gives refl k

    falls : (v : Read) → AllByRecursion (λ w. pal_rank c w < pal_rank c v) (node_reads c v)
    falls (OfNet n) = all-among (λ w. pal_rank c w < pal_rank c (OfNet n)) (node_reads c (OfNet n)) (at (slice_get c.nets n) refl)
      where
        at : (o : Option Wire) → slice_get c.nets n ≡ o → (v : Read) → Among v (reads_of_wire c o) → pal_rank c v < pal_rank c (OfNet n)
        at None e v a = absurd a
        at (Some w) e v a =
            let i = among-unflat_map (λ (i : ℕ). driver_reads (slice_get c.units i)) v w.drivers a in
            driver n i.0 w v e i.1 (slice_get c.units i.0) refl i.2
    falls (OfRegister k) = at (slice_get c.registers k) refl
      where
        at : (o : Option Register) → slice_get c.registers k ≡ o → AllByRecursion (λ w. pal_rank c w < 0) (reads_of_register o)
        at None e = tt
        at (Some r) e = subst (λ (g : Gate). AllByRecursion (λ w. pal_rank c w < 0) (row_reads g)) (sym (h.resets k r e)) tt

    below : (v : Read) → pal_rank c v < 3
    below (OfNet n) = at (is_combinational_net c (OfNet n)) (is_undriven c (OfNet n))
      where
        at : (p q : Bool) → cond p 2 (cond q 0 1) < 3
        at true q = omega arith
        at false true = omega arith
        at false false = omega arith
    below (OfRegister k) = omega arith

-- the old board

-- no combinational unit reads a net that has a combinational driver
pub record ReadsRegistered (net : Net) (chips : List ChipCells) : Type 0 where
  pub each : (u : ChipUnit) → Among u (units_from 0 chips) → is_registered u ≡ false → (v : Read) → Among v (sum_reads (old_terms (board_of net (units_from 0 chips)) u)) →
      is_combinational_net (circuit_on net (units_from 0 chips)) v ≡ false

pub sums-same : (ts ss : List (List Literal)) → Sum ts ≡ Sum ss → ts ≡ ss
sums-same ts ss e = ap sum e
  where
    sum : Gives → List (List Literal)
    sum (Sum ts) = ts
    sum (Visible k) = []

old-ranks : (net : Net) (chips : List ChipCells) (u : ChipUnit) → IsPalBoard net chips → ReadsRegistered net chips → Among u (units_from 0 chips) → DriverRanks (circuit_on net (units_from 0 chips)) (driver_of net (units_from 0 chips) u)
old-ranks net chips u board reads a = record { registered = λ s v k. board.enables u a v k; enable = λ s v k. undriven-plain (circuit_on net (units_from 0 chips)) v (board.enables u a v k); terms = λ ts e v k. at (is_registered u) refl ts e v k }
  where
    at : (q : Bool) → is_registered u ≡ q → (ts : List (List Literal)) →
        cond q (Visible (register_number (units_from 0 chips) (at_of u))) (Sum (old_terms (board_of net (units_from 0 chips)) u)) ≡ Sum ts → (v : Read) → Among v (sum_reads ts) →
        is_combinational_net (circuit_on net (units_from 0 chips)) v ≡ false
    at true is ts e v k = cc
    at false is ts e v k = reads.each u a is v (subst (λ (ss : List (List Literal)). Among v (sum_reads ss)) (sym (sums-same (old_terms (board_of net (units_from 0 chips)) u) ts e)) k)

pub old-rankable : (net : Net) (chips : List ChipCells) → IsPalBoard net chips → ReadsRegistered net chips → IsRankable (circuit_on net (units_from 0 chips))
old-rankable net chips board reads = record {
  drivers = λ i d e.
      let u = among-map (driver_of net (units_from 0 chips)) d (units_from 0 chips) (among-get (circuit_on net (units_from 0 chips)).units i d e) in
      subst (DriverRanks (circuit_on net (units_from 0 chips))) (sym u.2) (old-ranks net chips u.0 board reads u.1);
  resets = λ k r e.
      let u = among-map (register_of net (units_from 0 chips)) r (registers_of (units_from 0 chips)) (among-get (circuit_on net (units_from 0 chips)).registers k r e) in
      ap (λ (x : Register). x.reset) u.2
      ∙ pal-reset net chips (units_from 0 chips) u.0 (pal-unit net chips u.0 board.pals (among-unfilter is_registered u.0 (units_from 0 chips) u.1).0);
}
