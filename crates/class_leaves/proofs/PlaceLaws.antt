-- The leaves of registers and ports, one more at a time, and their variables.
use Rattle.std.proofs.Common.{ℕ, ◌≡◌, ◌⊎◌, ◌+◌, ◌*◌, ◌-◌, ◌<◌, ◌≤◌, Bool, true, false, List, [], ◌∷◌, ◌++◌, length, get_or, take, drop, map, refl, sym, ap, ◌∙◌, subst, arith, inl, inr}
use Rattle.std.specs.Prelude.{◌==◌, if◌then◌else◌}
use Rattle.std.specs.List.{AllByRecursion}
use Rattle.std.proofs.lemmas.Bool.{eq-eqb, ne_eqb, cases_eq}
use Rattle.std.proofs.lemmas.List.{append-nil, append_assoc, at_drop_all, drop_more, length-append}
use Rattle.mig_base.specs.declared.nets.Port.{Port}
use Rattle.mig_base.specs.declared.nets.Port.TheVariants.{Inner}
use Rattle.mig_base.proofs.ListLaws.{all-append, all-at, all-map}
use Rattle.leaves.specs.declared.Leaf.{Leaf}
use Rattle.leaves.specs.declared.Range.{Range}
use Rattle.leaves.specs.declared.Range.TheVariants.{Bit, OrX, OrZ}
use Rattle.leaves.specs.Leaves.{leaves_from, width}
use Rattle.class_leaves.specs.Pures.{AreLed, flag_at}
use Rattle.class_leaves.specs.ClassLeaves.{class_end, class_leaves, class_range, leaf_at, new_leaf, next_leaf, next_place, port_range}
use Rattle.class_leaves.specs.PairsAt.{AreWithin}
use Rattle.class_leaves.proofs.PureLaws.{led-here}

width-most : (r : Range) → width r ≤ 2
width-most Bit = omega arith
width-most OrX = omega arith
width-most OrZ = omega arith

pub place-grows : (bits : List Bool) (place : ℕ) (done : List Leaf) (c : ℕ) → place ≤ next_place bits place done c
place-grows bits place done c = at (c == length done)
  where
    at : (b : Bool) → place ≤ (if b then place + width (class_range (flag_at bits c)) else place)
    at true = omega arith
    at false = omega arith

pub place-most : (bits : List Bool) (place : ℕ) (done : List Leaf) (c : ℕ) → next_place bits place done c ≤ place + 2
place-most bits place done c = at (c == length done)
  where
    at : (b : Bool) → (if b then place + width (class_range (flag_at bits c)) else place) ≤ place + 2
    at true = let w : width (class_range (flag_at bits c)) ≤ 2 = width-most (class_range (flag_at bits c)) in omega (arith, w)
    at false = omega arith

pub within-more : (m n : ℕ) (fs : List Leaf) → m ≤ n → AreWithin m fs → AreWithin n fs
within-more m n fs le h = all-map (λ f. f.place + width f.range ≤ m) (λ f. f.place + width f.range ≤ n) fs h (λ f l. let r : f.place + width f.range ≤ n = omega (arith, l, le) in r)

-- the leaf of one more register has its variables before the next place
pub next-within : (bits : List Bool) (place : ℕ) (done : List Leaf) (c : ℕ) → c ≤ length done → AreWithin place done →
    AreWithin (next_place bits place done c) (done ++ next_leaf bits place done c ∷ [])
next-within bits place done c le within = at (cases_eq c (length done))
  where
    fresh : AreWithin (place + width (class_range (flag_at bits c))) (done ++ new_leaf bits place c ∷ [])
    fresh =
        let ends : place + width (class_range (flag_at bits c)) ≤ place + width (class_range (flag_at bits c)) = omega arith in
        let grows : place ≤ place + width (class_range (flag_at bits c)) = omega arith in
        all-append (λ f. f.place + width f.range ≤ place + width (class_range (flag_at bits c))) done (new_leaf bits place c ∷ [])
        (within-more place (place + width (class_range (flag_at bits c))) done grows within) (ends, tt)

    old : c < length done → AreWithin place (done ++ leaf_at done c ∷ [])
    old lt = all-append (λ f. f.place + width f.range ≤ place) done (leaf_at done c ∷ []) within (all-at (λ f. f.place + width f.range ≤ place) done c (record { place = 0; range = Bit }) within lt, tt)

    by : (b : Bool) → (c == length done) ≡ b → AreWithin (if b then place + width (class_range (flag_at bits c)) else place) (done ++ (if b then new_leaf bits place c else leaf_at done c) ∷ []) →
        AreWithin (next_place bits place done c) (done ++ next_leaf bits place done c ∷ [])
    by b e h = subst (λ (t : Bool). AreWithin (if t then place + width (class_range (flag_at bits c)) else place) (done ++ (if t then new_leaf bits place c else leaf_at done c) ∷ [])) (sym e) h

    at : (c ≡ length done) ⊎ (c ≡ length done → ⊥) → AreWithin (next_place bits place done c) (done ++ next_leaf bits place done c ∷ [])
    at (inl e) = by true (eq-eqb c (length done) e) fresh
    at (inr apart) = by false (ne_eqb c (length done) apart) (old (below (cases_eq c (length done)) apart))
      where
        below : (c ≡ length done) ⊎ (c ≡ length done → ⊥) → (c ≡ length done → ⊥) → c < length done
        below s a = omega (arith, le, a)

-- behind one more register
pub leaves-next : (bits : List Bool) (place : ℕ) (done : List Leaf) (classes : List ℕ) (i c : ℕ) → i < length classes → c ≡ get_or classes i 0 →
    (done ++ next_leaf bits place done c ∷ []) ++ class_leaves bits (next_place bits place done c) (done ++ next_leaf bits place done c ∷ []) (drop (i + 1) classes)
    ≡ done ++ class_leaves bits place done (drop i classes)
leaves-next bits place done classes i c lt e =
    append_assoc done (next_leaf bits place done c ∷ []) (class_leaves bits (next_place bits place done c) (done ++ next_leaf bits place done c ∷ []) (drop (i + 1) classes))
    ∙ ap (λ (cs : List ℕ). done ++ class_leaves bits place done cs) (ap (λ (k : ℕ). k ∷ drop (i + 1) classes) e ∙ sym (drop_more classes i 0 lt))

pub end-next : (bits : List Bool) (place : ℕ) (done : List Leaf) (classes : List ℕ) (i c : ℕ) → i < length classes → c ≡ get_or classes i 0 →
    class_end bits (next_place bits place done c) (done ++ next_leaf bits place done c ∷ []) (drop (i + 1) classes) ≡ class_end bits place done (drop i classes)
end-next bits place done classes i c lt e = ap (class_end bits place done) (ap (λ (k : ℕ). k ∷ drop (i + 1) classes) e ∙ sym (drop_more classes i 0 lt))

pub leaves-end : (bits : List Bool) (place : ℕ) (done : List Leaf) (classes : List ℕ) (i : ℕ) → length classes ≤ i → done ++ class_leaves bits place done (drop i classes) ≡ done
leaves-end bits place done classes i le = ap (λ (fs : List Leaf). done ++ fs) (at_drop_all (class_leaves bits place done) classes i le) ∙ append-nil done

pub end-end : (bits : List Bool) (place : ℕ) (done : List Leaf) (classes : List ℕ) (i : ℕ) → length classes ≤ i → class_end bits place done (drop i classes) ≡ place
end-end bits place done classes i le = at_drop_all (class_end bits place done) classes i le

abbrev pub ranges_of : List Port → List Range
ranges_of ports = map port_range ports

-- behind one more port
pub ports-next : (place : ℕ) (done : List Leaf) (ports : List Port) (i : ℕ) (p d : Port) → i < length ports → p ≡ get_or ports i d →
    (done ++ record { place = place; range = port_range p } ∷ []) ++ leaves_from (place + width (port_range p)) (ranges_of (drop (i + 1) ports)) ≡ done ++ leaves_from place (ranges_of (drop i ports))
ports-next place done ports i p d lt e =
    append_assoc done (record { place = place; range = port_range p } ∷ []) (leaves_from (place + width (port_range p)) (ranges_of (drop (i + 1) ports)))
    ∙ ap (λ (ps : List Port). done ++ leaves_from place (ranges_of ps)) (ap (λ (q : Port). q ∷ drop (i + 1) ports) e ∙ sym (drop_more ports i d lt))

pub ports-end : (place : ℕ) (done : List Leaf) (ports : List Port) (i : ℕ) → length ports ≤ i → done ++ leaves_from place (ranges_of (drop i ports)) ≡ done
ports-end place done ports i le = ap (λ (fs : List Leaf). done ++ fs) (at_drop_all (λ (ps : List Port). leaves_from place (ranges_of ps)) ports i le) ∙ append-nil done

-- one more leaf before the next place
pub one-within : (place : ℕ) (done : List Leaf) (r : Range) → AreWithin place done → AreWithin (place + width r) (done ++ record { place = place; range = r } ∷ [])
one-within place done r within =
    let ends : place + width r ≤ place + width r = omega arith in
    let grows : place ≤ place + width r = omega arith in
    all-append (λ f. f.place + width f.range ≤ place + width r) done (record { place = place; range = r } ∷ []) (within-more place (place + width r) done grows within) (ends, tt)

-- the leaves of the first registers
pub record ClassesSoFar (bits : List Bool) (classes : List ℕ) (i place : ℕ) (leaves : List Leaf) : Type 0 where
  pub count : length leaves ≡ i
  pub most : place ≤ 2 * i
  pub within : AreWithin place leaves
  pub made : leaves ++ class_leaves bits place leaves (drop i classes) ≡ class_leaves bits 0 [] classes
  pub ends : class_end bits place leaves (drop i classes) ≡ class_end bits 0 [] classes

classes-next : (bits : List Bool) (classes : List ℕ) (i place c : ℕ) (leaves : List Leaf) → AreLed classes → i < length classes → c ≡ get_or classes i 0 → ClassesSoFar bits classes i place leaves →
    ClassesSoFar bits classes (i + 1) (next_place bits place leaves c) (leaves ++ next_leaf bits place leaves c ∷ [])
classes-next bits classes i place c leaves led lt e so_far =
    let step : next_place bits place leaves c ≤ place + 2 = place-most bits place leaves c in
    let old : place ≤ 2 * i = so_far.most in
    let low : c ≤ i = led-here classes i c led lt e in
    let below : c ≤ length leaves = omega (arith, low, so_far.count) in
    record {
      count = length-append leaves (next_leaf bits place leaves c ∷ []) ∙ ap (λ (n : ℕ). n + 1) so_far.count;
      most = omega (arith, step, old);
      within = next-within bits place leaves c below so_far.within;
      made = leaves-next bits place leaves classes i c lt e ∙ so_far.made;
      ends = end-next bits place leaves classes i c lt e ∙ so_far.ends;
    }

-- one more register, whose leaf, place and list are these
pub classes-more : (bits : List Bool) (classes : List ℕ) (i place next c : ℕ) (leaves first second new : List Leaf) (leaf : Leaf) → AreLed classes → i < length classes → c ≡ get_or classes i 0 →
    first ≡ leaves → second ≡ leaves → leaf ≡ next_leaf bits place first c → next ≡ next_place bits place second c → new ≡ leaves ++ leaf ∷ [] →
    ClassesSoFar bits classes i place leaves → ClassesSoFar bits classes (i + 1) next new
classes-more bits classes i place next c leaves first second new leaf led lt e is_first is_second is_leaf is_next is_new so_far =
    subst (λ (xs : List Leaf). ClassesSoFar bits classes (i + 1) next xs) (sym is_new)
    (subst (λ (n : ℕ). ClassesSoFar bits classes (i + 1) n (leaves ++ leaf ∷ [])) (sym (is_next ∙ ap (λ (xs : List Leaf). next_place bits place xs c) is_second))
    (subst (λ (f : Leaf). ClassesSoFar bits classes (i + 1) (next_place bits place leaves c) (leaves ++ f ∷ [])) (sym (is_leaf ∙ ap (λ (xs : List Leaf). next_leaf bits place xs c) is_first))
    (classes-next bits classes i place c leaves led lt e so_far)))

-- the leaves of the first ports
pub record PortsSoFar (first : ℕ) (ports : List Port) (i place : ℕ) (leaves : List Leaf) : Type 0 where
  pub most : place ≤ first + 2 * i
  pub within : AreWithin place leaves
  pub made : leaves ++ leaves_from place (ranges_of (drop i ports)) ≡ leaves_from first (ranges_of ports)

pub ports-more : (first : ℕ) (ports : List Port) (i place wide : ℕ) (p d : Port) (range : Range) (leaves new : List Leaf) → i < length ports → p ≡ get_or ports i d → range ≡ port_range p → wide ≡ width range →
    new ≡ leaves ++ record { place = place; range = range } ∷ [] → PortsSoFar first ports i place leaves → PortsSoFar first ports (i + 1) (place + wide) new
ports-more first ports i place wide p d range leaves new lt e is_range is_wide is_new so_far =
    subst (λ (xs : List Leaf). PortsSoFar first ports (i + 1) (place + wide) xs) (sym is_new)
    (subst (λ (w : ℕ). PortsSoFar first ports (i + 1) (place + w) (leaves ++ record { place = place; range = range } ∷ [])) (sym is_wide)
    (subst (λ (r : Range). PortsSoFar first ports (i + 1) (place + width r) (leaves ++ record { place = place; range = r } ∷ [])) (sym is_range) next))
  where
    next : PortsSoFar first ports (i + 1) (place + width (port_range p)) (leaves ++ record { place = place; range = port_range p } ∷ [])
    next =
        let old : place ≤ first + 2 * i = so_far.most in
        let w : width (port_range p) ≤ 2 = width-most (port_range p) in
        record {
          most = omega (arith, old, w);
          within = one-within place leaves (port_range p) so_far.within;
          made = ports-next place leaves ports i p d lt e ∙ so_far.made;
        }
