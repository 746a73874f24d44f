-- The products of the cover of a joined part, or of the inverted part, are rows of that part.
use Rattle.std.proofs.Common.{ℕ, zero, suc, ◌≡◌, ◌⊎◌, ◌<◌, ◌≤◌, ◌+◌, ◌-◌, Bool, true, false, cond, not, List, [], ◌∷◌, length, map, Option, Some, None, refl, sym, ap, ◌∙◌, subst, inl, inr, arith, All, get_or}
use Rattle.std.specs.Prelude.{IfSome}
use Rattle.std.specs.List.{slice_get, filter_map, cons_option}
use Rattle.std.specs.Option.{option_map}
use Rattle.std.proofs.lemmas.Option.{same_Some, slice_get_within}
use Rattle.std.proofs.lemmas.List.Elements.{All-head, All-tail}
use Rattle.bdd.specs.Tree.{Point}
use Rattle.mig_base.specs.declared.nets.Var.{Var}
use Rattle.mig_base.specs.declared.nets.VarLit.{VarLit}
use Rattle.mig_base.specs.declared.nets.VarProduct.{VarProduct}
use Rattle.mig_base.specs.declared.plans.Part.{Part}
use Rattle.mig_base.specs.declared.circuit.Literal.{Literal as NodeLiteral}
use Rattle.mig_base.specs.declared.circuit.Driver.{Driver}
use Rattle.mig_base.specs.Among.{Among}
use Rattle.mig_base.specs.Values.{sum_reads}
use Rattle.mig_base.proofs.ListLaws.{item-at}
use Rattle.primes.specs.Prime.{Function, Product}
use Rattle.primes.specs.Prime.{Literal}
use Rattle.cover.specs.Cover.{IsCover}
use Rattle.rails.specs.declared.Side.{Side}
use Rattle.rails.specs.declared.Side.TheVariants.{Pure, High, Low}
use Rattle.rails.specs.declared.Rail.{Rail}
use Rattle.rails.specs.Variables.{all_rails}
use Rattle.rails.specs.Steps.{IsPairedBy, ArePaired}
use Rattle.rails.specs.Points.{carries, read_off, literal_in, literal_of, opposite, mirror, mirror_at, inverse, IsMonotone}
use Rattle.rails.proofs.RailLemmas.{all_paired}
use Rattle.rails.proofs.ValueLemmas.{AllListed, inverse_monotone}
use Rattle.board.specs.Joined.{Joined, equations_of}
use Rattle.joiner.specs.AbsorbedNets.{AreAbsorbable}
use Rattle.joiner.specs.Joined.{Inverted, unit_part, ReadsAbsorbed, Reading}
use Rattle.joiner.specs.JoinedPart.{IsJoinedPart, ReadsVariables}
use Rattle.joiner.proofs.JoinedLaws.{joined_value}
use Rattle.plans.specs.Forms.{Products, IsCoverOf, IsCovered, over_board, rail_literal, cover_products}
use Rattle.placed_boards.specs.Rows.{AreRows}
use Rattle.joined_rows.specs.PartRows.{raw_part, part_level, row_of, HasOwnLiterals}
use Rattle.joined_rows.specs.Terms.{literal_or_none, literal_at, term_row}
use Rattle.joined_rows.proofs.CoverRows.{cover-rows}
use Rattle.joined_rows.proofs.JoinedRows.{direct-rows, inverted-rows}
use Rattle.planned_rows.proofs.CoverPrimes.{ReadsBelow, cover-primes, cover-function, cover-within}

-- what a joined part's function reads

literal-below : (n : ℕ) (rs : List Rail) (x : VarLit) (p q : Point) → ((w : ℕ) → n ≤ w → w < n + length rs → p w ≡ q w) → literal_in n rs x p ≡ literal_in n rs x q
literal-below n [] x p q same = refl
literal-below n (r ∷ rs) x p q same =
    let here : p n ≡ q n = same n (omega arith) (omega arith) in
    let rest = literal-below (n + 1) rs x p q (λ w low high. same w (omega (arith, low)) (omega (arith, high))) in
    (λ i. cond (carries x r) (read_off r.side x.high (here i)) (rest i))

module _ (b : Joined) (absorbed : List ℕ) (sum : Inverted) (vars : List (Var × Bool)) (f : Function) (part : IsJoinedPart b absorbed sum vars f) where
  pub joined-below : ReadsBelow (length (all_rails vars)) f
  joined-below p q same =
      let r = part.some p in
      part.means p r.0 r.1 r.2
      ∙ sym (part.means q r.0 (record { each = λ w a side. r.1.each w a side ∙ literal-below 0 (all_rails vars) (record { var = w.0; high = side }) p q (λ v low high. same v (omega (arith, high))) }) r.2)

mirror-below : (rs : List Rail) → ArePaired rs → (p q : Point) → ((w : ℕ) → w < length rs → p w ≡ q w) → (n : ℕ) → n < length rs → mirror rs p n ≡ mirror rs q n
mirror-below rs paired p q same n low =
    let r = item-at rs n low in
    ap (λ (o : Option Rail). mirror_at o p n) r.1 ∙ sided r.0 r.0.side (subst (λ (o : Option Rail). IfSome o (λ x. IsPairedBy rs n x x.side)) r.1 (paired.each n))
    ∙ sym (ap (λ (o : Option Rail). mirror_at o q n) r.1)
  where
    sided : (r : Rail) (s : Side) → IsPairedBy rs n r s → opposite s p n ≡ opposite s q n
    sided r Pure h = same n low
    sided r High h = ap not (same (n + 1) (slice_get_within rs (n + 1) (record { var = r.var; variable = r.variable; side = Low }) h))
    sided r Low h = ap not (same (n - 1) (slice_get_within rs (n - 1) (record { var = r.var; variable = r.variable; side = High }) h.1))

inverse-below : (vars : List (Var × Bool)) (f : Function) → ReadsBelow (length (all_rails vars)) f → ReadsBelow (length (all_rails vars)) (inverse (all_rails vars) f)
inverse-below vars f below p q same =
    ap not (below (mirror (all_rails vars) p) (mirror (all_rails vars) q) (mirror-below (all_rails vars) (all_paired vars) p q same))

-- the products of a cover as rows

module _ (b : Joined) (vars : List (Var × Bool)) where
  abbrev rails : List Rail
  rails = all_rails vars

  cover-row : (t : Product) → ((i : ℕ) (l : Literal) → slice_get t i ≡ Some l → l.0 < length rails) → filter_map (rail_literal b rails) t ≡ row_of b (term_row rails t)
  cover-row [] within = refl
  cover-row (l ∷ t) within = at (slice_get rails l.0) (item-at rails l.0 (within zero l refl)) refl (cover-row t (λ i x e. within (suc i) x e))
    where
      at : (o : Option Rail) → (r : Rail) × (slice_get rails l.0 ≡ Some r) → slice_get rails l.0 ≡ o → filter_map (rail_literal b rails) t ≡ row_of b (term_row rails t) →
          cons_option (option_map (λ r. over_board b (literal_of r l.1)) o) (filter_map (rail_literal b rails) t) ≡ over_board b (literal_or_none o l.1) ∷ row_of b (term_row rails t)
      at None r e rest = let wrong : None ≡ Some r.0 = sym e ∙ r.1 in cc
      at (Some x) r e rest = ap (λ (xs : List NodeLiteral). over_board b (literal_of x l.1) ∷ xs) rest

  pub cover-rows-are : (ts : List Product) → ((t : Product) (i : ℕ) (l : Literal) → Among t ts → slice_get t i ≡ Some l → l.0 < length rails) →
      cover_products b vars ts ≡ map (row_of b) (map (term_row rails) ts)
  cover-rows-are [] within = refl
  cover-rows-are (t ∷ ts) within = (λ i. cover-row t (λ j l e. within t j l (inl refl) e) i ∷ cover-rows-are ts (λ u j l a e. within u j l (inr a) e) i)

-- rows of a unit's part

module _ (b : Joined) (absorbed : List ℕ) (own : HasOwnLiterals b) (may : AreAbsorbable b absorbed) (u : ℕ) (d : Driver) (is : slice_get (equations_of b).units u ≡ Some d) (part : Part) where
  abbrev IsRows : Products → Bool → Type 0
  IsRows rows low = AreRows (equations_of b) absorbed (part_level (equations_of b) d part) (sum_reads (raw_part (equations_of b) d part)) rows low

  module _ (vars : List (Var × Bool)) (f : Function) (joined : IsJoinedPart b absorbed (unit_part b u part) vars f) where
    within-of : (g : Function) → ReadsBelow (length (all_rails vars)) g → (ts : List Product) → IsCover g ts → (t : Product) (i : ℕ) (l : Literal) → Among t ts → slice_get t i ≡ Some l → l.0 < length (all_rails vars)
    within-of g below ts is-cover t i l a e = item-all t i l ((cover-within g ts is-cover (length (all_rails vars)) below t a).each) e
      where
        item-all : (s : Product) (j : ℕ) (x : Literal) → All (λ (y : Literal). y.0 < length (all_rails vars)) s → slice_get s j ≡ Some x → x.0 < length (all_rails vars)
        item-all [] j x h k = cc
        item-all (y ∷ s) zero x h k = subst (λ (z : Literal). z.0 < length (all_rails vars)) (same_Some y x k) (All-head (λ (z : Literal). z.0 < length (all_rails vars)) y s h)
        item-all (y ∷ s) (suc j) x h k = item-all s j x (All-tail (λ (z : Literal). z.0 < length (all_rails vars)) y s h) k

    direct : (ts : List Product) → IsCover f ts → IsRows (cover_products b vars ts) false
    direct ts c =
        let below = joined-below b absorbed (unit_part b u part) vars f joined in
        let within = within-of f below ts c in
        let rows = cover-rows vars joined.cone.rising f ts joined.monotone (cover-primes f ts c) within (cover-function f ts c (length (all_rails vars)) below) in
        subst (λ (ps : Products). IsRows ps false) (sym (cover-rows-are b vars ts within))
        (direct-rows b absorbed own may u d part is vars f joined.cone (joined_value b absorbed (unit_part b u part) vars f joined) (map (term_row (all_rails vars)) ts) rows.0 rows.1)

    inverted : (ts : List Product) → IsCover (inverse (all_rails vars) f) ts → IsRows (cover_products b vars ts) true
    inverted ts c =
        let g = inverse (all_rails vars) f in
        let below = inverse-below vars f (joined-below b absorbed (unit_part b u part) vars f joined) in
        let within = within-of g below ts c in
        let rows = cover-rows vars joined.cone.rising g ts (inverse_monotone (all_rails vars) (all_paired vars) f joined.monotone) (cover-primes g ts c) within (cover-function g ts c (length (all_rails vars)) below) in
        subst (λ (ps : Products). IsRows ps true) (sym (cover-rows-are b vars ts within))
        (inverted-rows b absorbed own may u d part is vars f joined.cone (joined_value b absorbed (unit_part b u part) vars f joined) (map (term_row (all_rails vars)) ts) rows.0 joined.monotone rows.1)

  -- what a cover gives
  pub covered-rows : (low : Bool) (rows : Products) → IsCovered b absorbed (unit_part b u part) low (Some rows) → IsRows rows low
  covered-rows low rows h = at low h.terms h.cover h.are
    where
      at : (side : Bool) (o : Option (List Product)) → IsCoverOf (cond side (inverse (all_rails h.vars) h.function) h.function) o → Some rows ≡ option_map (cover_products b h.vars) o → IsRows rows side
      at side None c e = cc
      at true (Some ts) c e = subst (λ (ps : Products). IsRows ps true) (sym (same_Some rows (cover_products b h.vars ts) e)) (inverted h.vars h.function h.joined ts c.0)
      at false (Some ts) c e = subst (λ (ps : Products). IsRows ps false) (sym (same_Some rows (cover_products b h.vars ts) e)) (direct h.vars h.function h.joined ts c.0)
