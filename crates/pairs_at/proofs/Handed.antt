-- What is handed in by port name, against a list of levels.
use Rattle.std.proofs.Common.{ℕ, suc, ◌≡◌, ◌+◌, Bool, true, false, cond, ◌&&◌, ◌||◌, List, [], ◌∷◌, map, filter, length, refl, sym, ap, ◌∙◌, subst, arith}
use Rattle.std.specs.Prelude.{codes, not, if◌then◌else◌}
use Rattle.std.specs.List.{AllByRecursion, list_any}
use Rattle.std.specs.Str.{bytes_eq}
use Rattle.std.proofs.lemmas.Bool.{and_parts, not-true}
use Rattle.bdd.specs.Tree.{Point}
use Rattle.mig_base.specs.declared.levels.Level.{Level}
use Rattle.mig_base.specs.declared.levels.Level.TheVariants.{Zero, One, Z, X}
use Rattle.mig_base.specs.declared.nets.Net.{Net}
use Rattle.mig_base.specs.declared.nets.NetLine.{NetLine}
use Rattle.mig_base.specs.declared.nets.Port.{Port}
use Rattle.mig_base.specs.declared.nets.Port.TheVariants as port
use Rattle.mig_base.specs.Boards.{is_handed}
use Rattle.mig_base.specs.BoardText.{net_names}
use Rattle.mig_base.specs.WrittenBoard.{are_distinct}
use Rattle.mig_base.proofs.Distinct.{bytes-equal, distinct-behind, same-refl, same-sym}
use Rattle.level_laws.specs.SameBehaviour.{Handing, IsBit, IsHandable}
use Rattle.matchings.proofs.LawfulBoth.{LawfulAs, LawfulLine}
use Rattle.leaves.specs.declared.Range.{Range}
use Rattle.leaves.specs.declared.Range.TheVariants.{Bit, OrZ}
use Rattle.leaves.specs.Leaves.{AllFit, Fits, bit, leaf_levels, leaves_from, level_by, width}
use Rattle.class_leaves.specs.ClassLeaves.{handed_ports, port_range}

abbrev pub takes_level : NetLine → Bool
takes_level l = is_handed l.port

abbrev pub line_name : NetLine → List ℕ
line_name l = l.name

abbrev pub line_range : NetLine → Range
line_range l = port_range l.port

-- the ranges of the handed ports
abbrev pub port_ranges : Net → List Range
port_ranges net = map port_range (handed_ports net)

pub ranges-same : (net : Net) → port_ranges net ≡ map line_range (filter takes_level net.nets)
ranges-same net = both (filter takes_level net.nets)
  where
    both : (ls : List NetLine) → map port_range (map (λ (l : NetLine). l.port) ls) ≡ map line_range ls
    both [] = refl
    both (l ∷ ls) = ap (λ (rs : List Range). line_range l ∷ rs) (both ls)

-- the level beside a name
abbrev pub handing_of : List (List ℕ) → List Level → Handing
handing_of [] xs name = Zero
handing_of (n ∷ ns) [] name = Zero
handing_of (n ∷ ns) (x ∷ xs) name = if bytes_eq name n then x else handing_of ns xs name

skip : (n : List ℕ) (x : Level) (ns : List (List ℕ)) (xs : List Level) (ls : List NetLine) → list_any (bytes_eq n) (map line_name ls) ≡ false →
    map (λ (l : NetLine). handing_of (n ∷ ns) (x ∷ xs) l.name) ls ≡ map (λ (l : NetLine). handing_of ns xs l.name) ls
skip n x ns xs [] e = refl
skip n x ns xs (l ∷ ls) e =
    let both = neither (bytes_eq n l.name) (list_any (bytes_eq n) (map line_name ls)) e in
    (λ i. cond ((same-sym bytes-equal l.name n ∙ both.0) i) x (handing_of ns xs l.name) ∷ skip n x ns xs ls both.1 i)
  where
    neither : (a b : Bool) → (a || b) ≡ false → (a ≡ false) × (b ≡ false)
    neither true b e = cc
    neither false b e = (refl, e)

-- distinct names tell the levels
pub named-back : (ls : List NetLine) (xs : List Level) → are_distinct bytes_eq (map line_name ls) ≡ true → length xs ≡ length ls → map (λ (l : NetLine). handing_of (map line_name ls) xs l.name) ls ≡ xs
named-back [] [] d e = refl
named-back [] (x ∷ xs) d e = absurd (omega arith)
named-back (l ∷ ls) [] d e = absurd (omega arith)
named-back (l ∷ ls) (x ∷ xs) d e =
    let parts = and_parts (not (list_any (bytes_eq l.name) (map line_name ls))) (are_distinct bytes_eq (map line_name ls)) d in
    (λ i. cond (same-refl bytes-equal l.name i) x (handing_of (map line_name ls) xs l.name) ∷ skip l.name x (map line_name ls) xs ls (not-true (list_any (bytes_eq l.name) (map line_name ls)) parts.0) i)
    ∙ ap (λ (ys : List Level). x ∷ ys) (named-back ls xs parts.1 (omega arith))

any-filter : (n : List ℕ) (ls : List NetLine) → list_any (bytes_eq n) (map line_name ls) ≡ false → list_any (bytes_eq n) (map line_name (filter takes_level ls)) ≡ false
any-filter n [] e = refl
any-filter n (l ∷ ls) e = at (takes_level l) (bytes_eq n l.name) refl e (any-filter n ls)
  where
    at : (q a : Bool) → bytes_eq n l.name ≡ a → (a || list_any (bytes_eq n) (map line_name ls)) ≡ false →
        (list_any (bytes_eq n) (map line_name ls) ≡ false → list_any (bytes_eq n) (map line_name (filter takes_level ls)) ≡ false) →
        list_any (bytes_eq n) (map line_name (cond q (l ∷ filter takes_level ls) (filter takes_level ls))) ≡ false
    at q true f e rest = cc
    at true false f e rest = (λ i. f i || rest e i)
    at false false f e rest = rest e

distinct-filter : (ls : List NetLine) → are_distinct bytes_eq (map line_name ls) ≡ true → are_distinct bytes_eq (map line_name (filter takes_level ls)) ≡ true
distinct-filter [] d = refl
distinct-filter (l ∷ ls) d =
    let parts = and_parts (not (list_any (bytes_eq l.name) (map line_name ls))) (are_distinct bytes_eq (map line_name ls)) d in
    at (takes_level l) (any-filter l.name ls (not-true (list_any (bytes_eq l.name) (map line_name ls)) parts.0)) (distinct-filter ls parts.1)
  where
    at : (q : Bool) → list_any (bytes_eq l.name) (map line_name (filter takes_level ls)) ≡ false → are_distinct bytes_eq (map line_name (filter takes_level ls)) ≡ true →
        are_distinct bytes_eq (map line_name (cond q (l ∷ filter takes_level ls) (filter takes_level ls))) ≡ true
    at true e rest = (λ i. not (e i) && rest i)
    at false e rest = rest

pub handed-distinct : (ls : List NetLine) → are_distinct bytes_eq (net_names ls) ≡ true → are_distinct bytes_eq (map line_name (filter takes_level ls)) ≡ true
handed-distinct ls d = distinct-filter ls (distinct-behind bytes_eq (codes "GND" ∷ codes "VCC" ∷ []) (map line_name ls) d)

pub leaves-long : (n : ℕ) (p : Point) (ls : List NetLine) → length (leaf_levels p (leaves_from n (map line_range ls))) ≡ length ls
leaves-long n p [] = refl
leaves-long n p (l ∷ ls) = ap suc (leaves-long (n + width (line_range l)) p ls)

-- the levels of leaves are lawful
bit-is : (b : Bool) → IsBit (bit b)
bit-is true = tt
bit-is false = tt

or_z-is : (a b : Bool) → IsHandable (level_by OrZ a b)
or_z-is true b = tt
or_z-is false true = tt
or_z-is false false = tt

pub lines-at : (h : Handing) (p : Point) (n : ℕ) (ls : List NetLine) → map (λ (l : NetLine). h l.name) (filter takes_level ls) ≡ leaf_levels p (leaves_from n (map line_range (filter takes_level ls))) →
    AllByRecursion (LawfulLine h) ls
lines-at h p n [] e = tt
lines-at h p n (l ∷ ls) e = at l.port refl e (lines-at h p n ls) (lines-at h p (n + width (line_range l)) ls)
  where
    given : List NetLine → List Level
    given ks = map (λ (k : NetLine). h k.name) ks

    read : ℕ → List NetLine → List Level
    read m ks = leaf_levels p (leaves_from m (map line_range ks))

    head : (x y : Level) (xs ys : List Level) → (let a : List Level = x ∷ xs in a) ≡ y ∷ ys → x ≡ y
    head x y xs ys f = cc

    tail : (x y : Level) (xs ys : List Level) → (let a : List Level = x ∷ xs in a) ≡ y ∷ ys → xs ≡ ys
    tail x y xs ys f = cc

    at : (dir : Port) → l.port ≡ dir →
        map (λ (k : NetLine). h k.name) (cond (is_handed dir) (l ∷ filter takes_level ls) (filter takes_level ls)) ≡
        leaf_levels p (leaves_from n (map line_range (cond (is_handed dir) (l ∷ filter takes_level ls) (filter takes_level ls)))) →
        (map (λ (k : NetLine). h k.name) (filter takes_level ls) ≡ leaf_levels p (leaves_from n (map line_range (filter takes_level ls))) → AllByRecursion (LawfulLine h) ls) →
        (map (λ (k : NetLine). h k.name) (filter takes_level ls) ≡ leaf_levels p (leaves_from (n + width (line_range l)) (map line_range (filter takes_level ls))) → AllByRecursion (LawfulLine h) ls) →
        LawfulAs h l.name l.port × AllByRecursion (LawfulLine h) ls
    at port.Inner f g same next = (subst (LawfulAs h l.name) (sym f) tt, same g)
    at port.Output f g same next = (subst (LawfulAs h l.name) (sym f) tt, same g)
    at port.Input f g same next = (
      subst (LawfulAs h l.name) (sym f)
          (subst IsBit (sym (head _ _ _ _ g ∙ ap (λ (dir : Port). level_by (port_range dir) (p n) (p (n + 1))) f)) (bit-is (p n))),
      next (tail _ _ _ _ g),
    )
    at port.Both f g same next = (
      subst (LawfulAs h l.name) (sym f)
          (subst IsHandable (sym (head _ _ _ _ g ∙ ap (λ (dir : Port). level_by (port_range dir) (p n) (p (n + 1))) f)) (or_z-is (p n) (p (n + 1)))),
      next (tail _ _ _ _ g),
    )

-- lawful levels fit the leaves
bit-fits : (x : Level) → IsBit x → Fits Bit x
bit-fits x h = h

or_z-fits : (x : Level) → IsHandable x → Fits OrZ x
or_z-fits Zero h = tt
or_z-fits One h = tt
or_z-fits Z h = tt
or_z-fits X h = absurd h

pub handed-fit : (h : Handing) (ls : List NetLine) → AllByRecursion (LawfulLine h) ls → AllFit (map line_range (filter takes_level ls)) (map (λ (l : NetLine). h l.name) (filter takes_level ls))
handed-fit h [] all = tt
handed-fit h (l ∷ ls) all = at l.port refl all.0 (handed-fit h ls all.1)
  where
    at : (dir : Port) → l.port ≡ dir → LawfulAs h l.name dir → AllFit (map line_range (filter takes_level ls)) (map (λ (k : NetLine). h k.name) (filter takes_level ls)) →
        AllFit (map line_range (cond (is_handed dir) (l ∷ filter takes_level ls) (filter takes_level ls))) (map (λ (k : NetLine). h k.name) (cond (is_handed dir) (l ∷ filter takes_level ls) (filter takes_level ls)))
    at port.Inner f lawful rest = rest
    at port.Output f lawful rest = rest
    at port.Input f lawful rest = (subst (λ (d : Port). Fits (port_range d) (h l.name)) (sym f) (bit-fits (h l.name) lawful), rest)
    at port.Both f lawful rest = (subst (λ (d : Port). Fits (port_range d) (h l.name)) (sym f) (or_z-fits (h l.name) lawful), rest)
