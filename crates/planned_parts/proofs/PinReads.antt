-- The net of the enable pin of a V8 stands for an old one, where it is read.
use Rattle.std.proofs.Common.{ℕ, zero, suc, ◌≡◌, ◌⊎◌, ◌<◌, ◌≤◌, Bool, true, false, not, cond, ◌&&◌, List, [], ◌∷◌, Option, Some, None, refl, sym, ap, ◌∙◌, inl, inr, eqb, arith}
use Rattle.std.specs.Prelude.{option_and_then}
use Rattle.std.proofs.lemmas.Bool.{cases_lt}
use Rattle.std.proofs.lemmas.Option.{same_Some}
use Rattle.mig_base.specs.declared.circuit.Literal.{Literal}
use Rattle.mig_base.specs.declared.circuit.Read.{Read}
use Rattle.mig_base.specs.declared.circuit.Read.TheVariants.{OfNet, OfRegister}
use Rattle.mig_base.specs.declared.circuit.Gate.{Gate}
use Rattle.mig_base.specs.declared.circuit.Gate.TheVariants.{Never, Product}
use Rattle.mig_base.specs.Among.{Among}
use Rattle.mig_base.specs.Boards.{low_pin}
use Rattle.mig_base.specs.Structure.{alias_of}
use Rattle.mig_base.specs.Values.{row_reads}
use Rattle.mig_base.proofs.Amongs.{among-filter}
use Rattle.board.specs.Joined.{Joined, equations_of}
use Rattle.joiner.specs.AbsorbedNets.{AreAbsorbable}
use Rattle.new_board.specs.NewChip.{alias_net, can_stand, enable_net, gate_products, is_complement_of, is_register_of, net_literal, net_of_complement, when}
use Rattle.new_board.proofs.Columns.{first-among}
use Rattle.plans.specs.Placings.{old}
use Rattle.plans.specs.Forms.{is_absorbed_read}
use Rattle.planned_boards.proofs.EnableRows.{when-is}
use Rattle.planned_parts.proofs.Unabsorbed.{alias-stays}

-- what a low-active enable pin reads
pub low-reads : (m : ℕ) (w : Read) → Among w (row_reads (low_pin m)) → (w ≡ OfNet m) × (2 ≤ m)
low-reads m w a = at (eqb m 0) refl (eqb m 1) refl a
  where
    high : eqb m 0 ≡ false → eqb m 1 ≡ false → 2 ≤ m
    high none one = by (cases_lt m 2)
      where
        by : (m < 2) ⊎ (2 ≤ m) → 2 ≤ m
        by (inr h) = h
        by (inl h) = small m h none one
          where
            small : (n : ℕ) → n < 2 → eqb n 0 ≡ false → eqb n 1 ≡ false → 2 ≤ m
            small zero h none one = cc
            small (suc zero) h none one = cc
            small (suc (suc n)) h none one = absurd (omega (arith, h))

    at : (p : Bool) → eqb m 0 ≡ p → (q : Bool) → eqb m 1 ≡ q → Among w (row_reads (cond p (Product []) (cond q Never (Product (record { source = OfNet m; high = false } ∷ []))))) → (w ≡ OfNet m) × (2 ≤ m)
    at true e q h a = absurd a
    at false e true h a = absurd a
    at false e false h (inl same) = (same, high e h)
    at false e false h (inr none) = absurd none

-- the net of an enable whose literal isn't absorbed
pub enable-stays : (b : Joined) (absorbed : List ℕ) → AreAbsorbable b absorbed → (net : ℕ) → 2 ≤ net → (g : Gate) → enable_net (old b) g ≡ Some net →
    ((t : List Literal) (x : Literal) → Among t (gate_products g) → Among x t → is_absorbed_read (equations_of b) absorbed x.source ≡ false) → is_absorbed_read (equations_of b) absorbed (OfNet net) ≡ false
enable-stays b absorbed absorbable net high Never e stay = let one : 1 ≡ net = same_Some 1 net e in absurd (omega (arith, one, high))
enable-stays b absorbed absorbable net high (Product []) e stay = let none : 0 ≡ net = same_Some 0 net e in absurd (omega (arith, none, high))
enable-stays b absorbed absorbable net high (Product (x ∷ y ∷ more)) e stay = cc
enable-stays b absorbed absorbable net high (Product (x ∷ [])) e stay = at x.source refl e
  where
    registers : (k : ℕ) (n : ℕ) → is_register_of k (alias_of (equations_of b) n) ≡ true → is_absorbed_read (equations_of b) absorbed (OfNet n) ≡ false
    registers k n r = of_alias (alias_of (equations_of b) n) refl r
      where
        of_alias : (o : Option (ℕ × Bool)) → alias_of (equations_of b) n ≡ o → is_register_of k o ≡ true → is_absorbed_read (equations_of b) absorbed (OfNet n) ≡ false
        of_alias None is r = cc
        of_alias (Some z) is r = alias-stays (equations_of b) absorbed absorbable n z is

    at : (s : Read) → x.source ≡ s → net_of_complement (old b) s x ≡ Some net → is_absorbed_read (equations_of b) absorbed (OfNet net) ≡ false
    at (OfNet k) is h =
        let w = when-is (not x.high && can_stand (old b) k) k net h in
        ap (λ (i : ℕ). is_absorbed_read (equations_of b) absorbed (OfNet i)) (sym w.1) ∙ ap (is_absorbed_read (equations_of b) absorbed) (sym is) ∙ stay (x ∷ []) x (inl refl) (inl refl)
    at (OfRegister k) is h = by (alias_net (old b) k) refl h
      where
        by : (o : Option ℕ) → alias_net (old b) k ≡ o → option_and_then (λ n. when (is_complement_of x (net_literal (equations_of b) n)) (Some n)) o ≡ Some net → is_absorbed_read (equations_of b) absorbed (OfNet net) ≡ false
        by None there r = cc
        by (Some n) there r =
            let w = when-is (is_complement_of x (net_literal (equations_of b) n)) n net r in
            ap (λ (i : ℕ). is_absorbed_read (equations_of b) absorbed (OfNet i)) (sym w.1)
            ∙ registers k n (among-filter (λ (i : ℕ). is_register_of k (alias_of (equations_of b) i)) n _ (first-among _ n there)).0
