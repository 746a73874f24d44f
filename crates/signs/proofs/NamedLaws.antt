-- Triples by the names of ports.
use Rattle.std.proofs.Common.{ℕ, zero, suc, ◌≡◌, ◌+◌, ◌<◌, true, false, List, [], ◌∷◌, ◌++◌, map, filter, length, take, drop, get_or, Option, Some, refl, sym, ap, ◌∙◌, subst, inl, inr}
use Rattle.std.specs.Prelude.{slice_get, IfSome, MatchOption}
use Rattle.std.specs.List.{AllByRecursion}
use Rattle.std.specs.Str.{bytes_eq}
use Rattle.std.proofs.lemmas.List.{drop_more, length-append, take_more}
use Rattle.std.proofs.lemmas.Option.{slice_get-get_or}
use Rattle.bdd.specs.Tree.{Point}
use Rattle.bdd.specs.Diagram.{Diagram}
use Rattle.mig_base.specs.declared.levels.Level.{Level}
use Rattle.mig_base.specs.declared.levels.Level.TheVariants.{X}
use Rattle.mig_base.specs.declared.nets.Net.{Net}
use Rattle.mig_base.specs.declared.nets.NetLine.{NetLine}
use Rattle.mig_base.specs.declared.nets.Port.{Port}
use Rattle.mig_base.specs.declared.nets.Port.TheVariants.{Inner, Input, Output, Both}
use Rattle.mig_base.specs.Among.{Among}
use Rattle.mig_base.specs.Boards.{is_handed, is_port, is_port_kind}
use Rattle.mig_base.specs.Levels.{level_at, or_x}
use Rattle.mig_base.proofs.Amongs.{all-among, among-filter, among-map, filter-among, map-among}
use Rattle.mig_base.proofs.Distinct.{bytes-equal, same-is, same-refl}
use Rattle.level_laws.specs.SameBehaviour.{Handing, SamePorts, handed_levels}
use Rattle.matchings.specs.ByPort.{handed_names}
use Rattle.reckoning.specs.declared.triples.Three.{Three}
use Rattle.reckoning.specs.Triples.{AreTriples, IsTriple, PlaceSays, Says}
use Rattle.reckoning.specs.Tables.{HandedSay}
use Rattle.reckoning.proofs.ListLaws.{says-push, triples-push}
use Rattle.signs.specs.Named.{AreNamedFrom, NamedSay}

abbrev pub no_three : Three
no_three = record { one = record { 0 = 0 }; zero = record { 0 = 0 }; float = record { 0 = 0 } }

-- what is said at a place, said of the triple there
pub place-read : (d : Diagram) (ts : List Three) (n : ℕ) (p : Point) (level : Level) (t : Three) → slice_get ts n ≡ Some t → PlaceSays d ts n p level → Says d t p level
place-read d ts n p level t e says = subst (λ (o : Option Three). MatchOption o (level ≡ X) (λ u. Says d u p level)) e says

pub triple-read : (d : Diagram) (ts : List Three) (n : ℕ) (t : Three) → slice_get ts n ≡ Some t → AreTriples d ts → IsTriple d t
triple-read d ts n t e are = subst (λ (o : Option Three). IfSome o (IsTriple d)) e (are n)

-- the triple at the place of a name
pub name-found : (d : Diagram) (names : List (List ℕ)) (ts : List Three) (k : ℕ) (t e : Three) (name other f : List ℕ) → k < length ts → k < length names → t ≡ get_or ts k e → other ≡ get_or names k f →
    bytes_eq name other ≡ true → (p : Point) (h : Handing) → NamedSay d ts names p h → Says d t p (h name)
name-found d names ts k t e name other f lt ln is named same p h say =
    let there : slice_get ts k ≡ Some t = slice_get-get_or ts k e lt ∙ ap Some (sym is) in
    let here : slice_get names k ≡ Some name = slice_get-get_or names k f ln ∙ ap Some (sym named ∙ sym (same-is bytes-equal name other same)) in
    place-read d ts k p (h name) t there (subst (λ (o : Option (List ℕ)). PlaceSays d ts k p (or_x h o)) here (say k))

pub triple-found : (d : Diagram) (ts : List Three) (k : ℕ) (t e : Three) → k < length ts → t ≡ get_or ts k e → AreTriples d ts → IsTriple d t
triple-found d ts k t e lt is are = triple-read d ts k t (slice_get-get_or ts k e lt ∙ ap Some (sym is)) are

-- a name that isn't the first one is among the rest
pub not-first : (name other f : List ℕ) (names : List (List ℕ)) (k : ℕ) → k < length names → other ≡ get_or names k f → bytes_eq name other ≡ false → Among name (drop k names) → Among name (drop (k + 1) names)
not-first name other f names k lt is apart among = at (subst (Among name) (drop_more names k f lt) among)
  where
    at : Among name (get_or names k f ∷ drop (k + 1) names) → Among name (drop (k + 1) names)
    at (inl e) = let same : bytes_eq name other ≡ true = subst (λ (w : List ℕ). bytes_eq name w ≡ true) (e ∙ sym is) (same-refl bytes-equal name) in cc
    at (inr a) = a

pub no-names : (d : Diagram) (names : List (List ℕ)) (ports : List Three) → AreNamedFrom d names ports [] []
no-names d names ports = record { triples = λ n. tt; count = refl; says = λ p h say n. refl }

pub names-more : (d : Diagram) (names : List (List ℕ)) (ports : List Three) (others : List (List ℕ)) (k : ℕ) (other f : List ℕ) (made : List Three) (t : Three) → k < length others → other ≡ get_or others k f →
    AreNamedFrom d names ports (take k others) made → IsTriple d t → ((p : Point) (h : Handing) → NamedSay d ports names p h → Says d t p (h other)) →
    AreNamedFrom d names ports (take (k + 1) others) (made ++ t ∷ [])
names-more d names ports others k other f made t lt is are valid says =
    subst (λ (xs : List (List ℕ)). AreNamedFrom d names ports xs (made ++ t ∷ [])) (ap (λ (x : List ℕ). take k others ++ x ∷ []) is ∙ sym (take_more others k f lt)) (record {
      triples = triples-push d made t are.triples valid;
      count = length-append made (t ∷ []) ∙ ap (λ (n : ℕ). n + 1) are.count ∙ sym (length-append (take k others) (other ∷ []));
      says = λ p h say. says-push d p h (take k others) other made t are.count (are.says p h say) (says p h say);
    })

-- levels by the names of ports and by their places
pub named-level : (net : Net) (h : Handing) (n : ℕ) → level_at (handed_levels net h) n ≡ or_x h (slice_get (handed_names net) n)
named-level net h = at (filter (λ l. is_handed l.port) net.nets)
  where
    at : (ls : List NetLine) (n : ℕ) → level_at (map (λ l. h l.name) ls) n ≡ or_x h (slice_get (map (λ l. l.name) ls) n)
    at [] n = refl
    at (l ∷ ls) zero = refl
    at (l ∷ ls) (suc n) = at ls n

pub named-handed : (d : Diagram) (net : Net) (ts : List Three) (p : Point) (h : Handing) → NamedSay d ts (handed_names net) p h → HandedSay d ts p (handed_levels net h)
named-handed d net ts p h say n = subst (PlaceSays d ts n p) (sym (named-level net h n)) (say n)

pub handed-named : (d : Diagram) (net : Net) (ts : List Three) (p : Point) (h : Handing) → HandedSay d ts p (handed_levels net h) → NamedSay d ts (handed_names net) p h
handed-named d net ts p h say n = subst (PlaceSays d ts n p) (named-level net h n) (say n)

-- what the second board is handed the first one is handed too
handed-port : (dir : Port) → is_handed dir ≡ true → is_port_kind dir ≡ true
handed-port Inner e = cc
handed-port Input e = refl
handed-port Output e = cc
handed-port Both e = refl

abbrev directed : NetLine → List ℕ × Port
directed l = (l.name, l.port)

pub names-known : (a b : Net) → SamePorts a b → AllByRecursion (λ name. Among name (handed_names a)) (handed_names b)
names-known a b same = all-among (λ name. Among name (handed_names a)) (handed_names b) (λ name among. each name among)
  where
    from : (name : List ℕ) (dir : Port) → is_handed dir ≡ true → Among {T = List ℕ × Port} (name, dir) (map directed (filter is_port a.nets)) → Among name (handed_names a)
    from name dir on among =
        let line = among-map directed (name, dir) (filter is_port a.nets) among in
        let l = line.0 in
        let own : name ≡ l.name = ap (λ (s : List ℕ × Port). s.0) line.2 in
        let way : dir ≡ l.port = ap (λ (s : List ℕ × Port). s.1) line.2 in
        let takes : is_handed l.port ≡ true = subst (λ (q : Port). is_handed q ≡ true) way on in
        subst (λ (w : List ℕ). Among w (handed_names a)) (sym own)
        (map-among (λ (k : NetLine). k.name) l (filter (λ k. is_handed k.port) a.nets) (filter-among (λ k. is_handed k.port) l a.nets takes (among-filter is_port l a.nets line.1).1))

    each : (name : List ℕ) → Among name (handed_names b) → Among name (handed_names a)
    each name among =
        let line = among-map (λ (k : NetLine). k.name) name (filter (λ k. is_handed k.port) b.nets) among in
        let l = line.0 in
        let parts = among-filter (λ k. is_handed k.port) l b.nets line.1 in
        let there : Among {T = List ℕ × Port} (directed l) (map directed (filter is_port b.nets)) =
        map-among directed l (filter is_port b.nets) (filter-among is_port l b.nets (handed-port l.port parts.0) parts.1) in
        subst (λ (w : List ℕ). Among w (handed_names a)) (sym line.2) (from l.name l.port parts.0 (same.right l.name l.port there))

pub known-lent : (a b : Net) (lent lent_other : List (List ℕ)) → SamePorts a b → lent ≡ handed_names a → lent_other ≡ handed_names b → AllByRecursion (λ name. Among name lent) lent_other
known-lent a b lent lent_other same e f =
    subst (λ (ns : List (List ℕ)). AllByRecursion (λ name. Among name ns) lent_other) (sym e) (subst (λ (ns : List (List ℕ)). AllByRecursion (λ name. Among name (handed_names a)) ns) (sym f) (names-known a b same))

pub own-known : (names : List (List ℕ)) → AllByRecursion (λ name. Among name names) names
own-known names = all-among (λ name. Among name names) names (λ name among. among)
