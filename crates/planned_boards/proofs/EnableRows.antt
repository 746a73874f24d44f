-- The enable pin of a V8 stands for the row that it is of.
use Rattle.std.proofs.Common.{ℕ, zero, suc, ◌≡◌, ◌+◌, ◌≤◌, Bool, true, false, not, cond, eqb, ◌&&◌, List, [], ◌∷◌, Option, Some, None, refl, sym, ap, ◌∙◌, subst, inl, inr, arith, ne_eqb}
use Rattle.std.specs.Prelude.{option_and_then}
use Rattle.std.proofs.lemmas.Bool.{and_parts}
use Rattle.std.proofs.lemmas.Option.{same_Some}
use Rattle.mig_base.specs.declared.levels.Level.{Level}
use Rattle.mig_base.specs.declared.circuit.Read.{Read}
use Rattle.mig_base.specs.declared.circuit.Read.TheVariants.{OfNet, OfRegister}
use Rattle.mig_base.specs.declared.circuit.Literal.{Literal}
use Rattle.mig_base.specs.declared.circuit.Gate.{Gate}
use Rattle.mig_base.specs.declared.circuit.Gate.TheVariants.{Never, Product}
use Rattle.mig_base.specs.declared.circuit.Circuit.{Circuit}
use Rattle.mig_base.specs.Among.{Among}
use Rattle.mig_base.specs.Boards.{low_pin}
use Rattle.mig_base.specs.Bools.{same_bool}
use Rattle.mig_base.specs.First.{made_from}
use Rattle.mig_base.specs.Structure.{alias_of, or_alias, same_read, variable_literal}
use Rattle.mig_base.specs.Values.{row_reads}
use Rattle.mig_base.proofs.Amongs.{among-filter}
use Rattle.mig_base.proofs.ReadLaws.{bool-same, read-same}
use Rattle.board.specs.Joined.{Joined, equations_of}
use Rattle.new_board.specs.NewChip.{alias_net, can_stand, enable_net, gate_products, is_complement_of, is_register_of, net_literal, net_of_complement, when}
use Rattle.new_board.proofs.Columns.{first-among}
use Rattle.plans.specs.Placings.{old}
use Rattle.fitting_levels.specs.NodeValues.{NodeLevels, gate_by}
use Rattle.carried_boards.specs.Carries.{Numbers, variable_at}
use Rattle.placed_boards.specs.Places.{IsPart, Named}
use Rattle.placed_boards.specs.Places.Named.{itself, behind}
use Rattle.placed_boards.specs.Rows.{AreRows, seen_literal}
use Rattle.placed_boards.proofs.Naming.{variable-none, variable-some}
use Rattle.placed_boards.proofs.RowParts.{gate-part, ground-part, power-part}
use Rattle.planned_boards.specs.Planned.{IsEnablePin}

pub when-is : (q : Bool) (k n : ℕ) → when q (Some k) ≡ Some n → (q ≡ true) × (k ≡ n)
when-is true k n e = (refl, same_Some k n e)
when-is false k n e = cc

pub made-from : (n start count : ℕ) → Among n (made_from (λ k. k) start count) → start ≤ n
made-from n start zero m = absurd m
made-from n start (suc count) (inl e) = omega (arith, e)
made-from n start (suc count) (inr m) = omega (arith, made-from n (start + 1) count m)

-- what is named is its own variable
named-own : (c : Circuit) (absorbed : List ℕ) (v : Read) (reads : List Read) → Named c absorbed v reads → variable_at c v ≡ v
named-own c absorbed v reads (itself w m e) = subst (λ (r : Read). variable_at c r ≡ r) e (at w)
  where
    at : (r : Read) → variable_at c (variable_at c r) ≡ variable_at c r
    at (OfRegister k) = refl
    at (OfNet n) = by (alias_of c n) refl
      where
        by : (o : Option (ℕ × Bool)) → alias_of c n ≡ o → variable_at c (variable_at c (OfNet n)) ≡ variable_at c (OfNet n)
        by None is = ap (variable_at c) (variable-none c n is)
        by (Some x) is = ap (variable_at c) (variable-some c n x is) ∙ sym (variable-some c n x is)
named-own c absorbed v reads (behind n u m b rest) = named-own c absorbed v _ rest

-- a net that is its own variable is no alias net
own-literal : (c : Circuit) (n : ℕ) (h : Bool) → variable_at c (OfNet n) ≡ OfNet n → variable_literal c (record { source = OfNet n; high = h }) ≡ record { source = OfNet n; high = h }
own-literal c n h own = at (alias_of c n) refl
  where
    at : (o : Option (ℕ × Bool)) → alias_of c n ≡ o → or_alias o (record { source = OfNet n; high = h }) ≡ record { source = OfNet n; high = h }
    at None is = refl
    at (Some x) is = let wrong : OfRegister x.0 ≡ OfNet n = sym (variable-some c n x is) ∙ own in cc

-- the complement of a net's literal
complement : (c : Circuit) (n : ℕ) → variable_literal c (record { source = OfNet n; high = false }) ≡ record { source = (net_literal c n).source; high = not (net_literal c n).high }
complement c n = at (alias_of c n)
  where
    at : (o : Option (ℕ × Bool)) → or_alias o (record { source = OfNet n; high = false }) ≡ record { source = (or_alias o (record { source = OfNet n; high = true })).source; high = not (or_alias o (record { source = OfNet n; high = true })).high }
    at None = refl
    at (Some x) = refl

low-pin : (m : ℕ) → 2 ≤ m → low_pin m ≡ Product (record { source = OfNet m; high = false } ∷ [])
low-pin m high =
    let no_zero : eqb m 0 ≡ false = ne_eqb m 0 (λ e. omega (arith, high, e)) in
    let no_one : eqb m 1 ≡ false = ne_eqb m 1 (λ e. omega (arith, high, e)) in
    ap (λ (q : Bool). cond q (Product []) (cond (eqb m 1) Never (Product (record { source = OfNet m; high = false } ∷ [])))) no_zero
    ∙ ap (λ (q : Bool). cond q Never (Product (record { source = OfNet m; high = false } ∷ []))) no_one

module _ (b : Joined) (absorbed : List ℕ) (numbers : Numbers) (m net : ℕ) (pin : IsEnablePin numbers m net) (level : NodeLevels → Level) (reads : List Read) where
  abbrev a : Circuit
  a = equations_of b

  abbrev IsPin : ℕ → Type 0
  IsPin k = IsPart a absorbed numbers level reads (λ f. gate_by f (low_pin k)) (row_reads (low_pin k))

  -- a pin on a net that is no constant
  on-net : (x : Literal) → 2 ≤ net → variable_literal a (record { source = OfNet net; high = false }) ≡ x → AreRows a absorbed level reads ((x ∷ []) ∷ []) false → IsPin m
  on-net x high is rows =
      subst (λ (g : Gate). IsPart a absorbed numbers level reads (λ f. gate_by f g) (row_reads g)) (sym (low-pin m (pin.high high)))
      (gate-part a absorbed numbers level reads ((x ∷ []) ∷ []) (Product (lit ∷ [])) rows (record {
        only = λ z h. at z h;
        every = λ y h. (lit, inl refl, seen ∙ back y h);
      }))
    where
      lit : Literal
      lit = record { source = OfNet m; high = false }

      seen : seen_literal a numbers (record { source = OfNet m; high = false }) ≡ x
      seen = ap (λ (k : ℕ). variable_literal a (record { source = OfNet k; high = false })) pin.number ∙ is

      at : (z : Literal) → Among z (record { source = OfNet m; high = false } ∷ []) → Among (seen_literal a numbers z) (x ∷ [])
      at z (inl e) = inl (ap (seen_literal a numbers) e ∙ seen)
      at z (inr h) = absurd h

      back : (y : Literal) → Among y (x ∷ []) → x ≡ y
      back y (inl e) = sym e
      back y (inr h) = absurd h

  -- a pin on the net of a complement
  on-complement : (k : ℕ) → k ≡ net → variable_at a (OfNet k) ≡ OfNet k → AreRows a absorbed level reads ((record { source = OfNet k; high = false } ∷ []) ∷ []) false → IsPin m
  on-complement zero e own rows = subst IsPin (sym (pin.low (omega (arith, e)) ∙ sym e)) (ground-part a absorbed numbers level reads 0 refl rows)
  on-complement (suc zero) e own rows = subst IsPin (sym (pin.low (omega (arith, e)) ∙ sym e)) (power-part a absorbed numbers level reads 1 refl rows)
  on-complement (suc (suc k)) e own rows =
      on-net (record { source = OfNet (suc (suc k)); high = false }) (omega (arith, e))
      (ap (λ (i : ℕ). variable_literal a (record { source = OfNet i; high = false })) (sym e) ∙ own-literal a (suc (suc k)) false own) rows

  pub enable-row : (g : Gate) → enable_net (old b) g ≡ Some net → AreRows a absorbed level reads (gate_products g) false → IsPin m
  enable-row Never e rows = let one : 1 ≡ net = same_Some 1 net e in subst IsPin (sym (pin.low (omega (arith, one)) ∙ sym one)) (gate-part a absorbed numbers level reads [] Never rows tt)
  enable-row (Product []) e rows =
      let none : 0 ≡ net = same_Some 0 net e in
      subst IsPin (sym (pin.low (omega (arith, none)) ∙ sym none)) (gate-part a absorbed numbers level reads ([] ∷ []) (Product []) rows (record { only = λ x h. absurd h; every = λ y h. absurd h }))
  enable-row (Product (x ∷ [])) e rows = at x.source refl e
    where
      at : (s : Read) → x.source ≡ s → net_of_complement (old b) s x ≡ Some net → IsPin m
      at (OfNet k) is h =
          let w = when-is (not x.high && can_stand (old b) k) k net h in
          let low : x.high ≡ false = negated x.high (and_parts (not x.high) (can_stand (old b) k) w.0).0 in
          let lit : x ≡ record { source = OfNet k; high = false } = (λ i. record { source = is i; high = low i }) in
          on-complement k w.1 (named-own a absorbed (OfNet k) reads (rows.named (OfNet k) (inl (sym is)))) (subst (λ (y : Literal). AreRows a absorbed level reads ((y ∷ []) ∷ []) false) lit rows)
        where
          negated : (q : Bool) → not q ≡ true → q ≡ false
          negated true r = sym r
          negated false r = refl
      at (OfRegister k) is h = by (alias_net (old b) k) refl h
        where
          by : (o : Option ℕ) → alias_net (old b) k ≡ o → option_and_then (λ n. when (is_complement_of x (net_literal a n)) (Some n)) o ≡ Some net → IsPin m
          by None there r = cc
          by (Some n) there r =
              let w = when-is (is_complement_of x (net_literal a n)) n net r in
              let parts = and_parts (same_read x.source (net_literal a n).source) (same_bool x.high (not (net_literal a n).high)) w.0 in
              let source = read-same x.source (net_literal a n).source parts.0 in
              let high = bool-same x.high (not (net_literal a n).high) parts.1 in
              let whole : x ≡ record { source = (net_literal a n).source; high = not (net_literal a n).high } = (λ i. record { source = source i; high = high i }) in
              let named : 2 ≤ n = made-from n 2 _ (among-filter (λ (i : ℕ). is_register_of k (alias_of a i)) n _ (first-among _ n there)).1 in
              on-net x (omega (arith, named, w.1)) (ap (λ (i : ℕ). variable_literal a (record { source = OfNet i; high = false })) (sym w.1) ∙ complement a n ∙ sym whole) rows
  enable-row (Product (x ∷ y ∷ more)) e rows = cc
