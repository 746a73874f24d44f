-- What drivers, a handed level and a pull make of a net.
use Rattle.std.proofs.Common.{ℕ, ◌≡◌, ◌+◌, ◌<◌, List, [], ◌∷◌, ◌++◌, map, take, length, get_or, refl, sym, ap, ◌∙◌, subst}
use Rattle.std.specs.List.{flat_map}
use Rattle.std.proofs.lemmas.List.{take_more}
use Rattle.bdd.specs.Tree.{Point}
use Rattle.bdd.specs.Diagram.{Diagram, Keeps}
use Rattle.mig_base.specs.declared.levels.Level.{Level}
use Rattle.mig_base.specs.declared.levels.Level.TheVariants.{Zero, One, Z, X}
use Rattle.mig_base.specs.declared.nets.Pull.{Pull}
use Rattle.mig_base.specs.declared.circuit.Read.{Read}
use Rattle.mig_base.specs.declared.circuit.NetKind.{NetKind}
use Rattle.mig_base.specs.declared.circuit.NetKind.TheVariants.{Handed, Shared, Inner}
use Rattle.mig_base.specs.declared.circuit.Wire.{Wire}
use Rattle.mig_base.specs.declared.circuit.Circuit.{Circuit}
use Rattle.mig_base.specs.declared.circuit.Levels.{Levels}
use Rattle.mig_base.specs.Levels.{level_at, resolve2}
use Rattle.mig_base.specs.Reads.{wire_reads}
use Rattle.level_laws.specs.Settled.{level_by}
use Rattle.level_laws.proofs.Unique.{all_left, all_right}
use Rattle.settle.specs.Rules.{wired, drive_of, net_level, pulled_from}
use Rattle.settle.proofs.LevelLaws.{resolve-next, shared-net, inner-net}
use Rattle.reckoning.specs.declared.triples.Three.{Three}
use Rattle.reckoning.specs.declared.triples.Table.{Table}
use Rattle.reckoning.specs.Triples.{IsTriple, Says, Allows, PlaceSays}
use Rattle.reckoning.specs.Tables.{IsTable, NodeSays, NodesSay, IsTripleOf, IsWiredOf, IsPulled, IsSharedOf, IsNetOf}
use Rattle.reckoning.specs.Steps.{IsWired}
use Rattle.reckoning.proofs.Kept.{function_kept, nodes_kept}

resolve-ends : (x : Level) → resolve2 x Z ≡ x
resolve-ends Zero = refl
resolve-ends One = refl
resolve-ends Z = refl
resolve-ends X = refl

ends-resolve : (y : Level) → resolve2 y Z ≡ resolve2 Z y
ends-resolve y = resolve-ends y

wired-push : (f : ℕ → Level) (xs : List ℕ) (u : ℕ) → wired (map f (xs ++ u ∷ [])) ≡ resolve2 (wired (map f xs)) (f u)
wired-push f [] u = ends-resolve (f u)
wired-push f (x ∷ xs) u = ap (resolve2 (f x)) (wired-push f xs u) ∙ sym (resolve-next (f x) (wired (map f xs)) (f u))

pub allows_kept : (a b : Diagram) (t : Three) (p : Point) (level : Level) → Keeps a b → IsTriple a t → Allows a t p level → Allows b t p level
allows_kept a b t p level k is h = record {
  one = function_kept a b t.one k is.one p ∙ h.one;
  zero = function_kept a b t.zero k is.zero p ∙ h.zero;
  float = function_kept a b t.float k is.float p ∙ h.float;
}

join : (d : Diagram) (t : Table) (p : Point) (l : Levels) (us vs : List Read) → NodesSay d t p l us → NodesSay d t p l vs → NodesSay d t p l (us ++ vs)
join d t p l [] vs h k = k
join d t p l (u ∷ us) vs h k = (h.0, join d t p l us vs h.1 k)

front : (d : Diagram) (t : Table) (p : Point) (l : Levels) (f : ℕ → List Read) (xs : List ℕ) (x : ℕ) → NodesSay d t p l (flat_map f (xs ++ x ∷ [])) → NodesSay d t p l (flat_map f xs)
front d t p l f [] x h = tt
front d t p l f (y ∷ xs) x h = join d t p l (f y) (flat_map f xs) (all_left (NodeSays d t p l) (f y) (flat_map f (xs ++ x ∷ [])) h)
    (front d t p l f xs x (all_right (NodeSays d t p l) (f y) (flat_map f (xs ++ x ∷ [])) h))

back : (d : Diagram) (t : Table) (p : Point) (l : Levels) (f : ℕ → List Read) (xs : List ℕ) (x : ℕ) → NodesSay d t p l (flat_map f (xs ++ x ∷ [])) → NodesSay d t p l (f x)
back d t p l f [] x h = all_left (NodeSays d t p l) (f x) [] h
back d t p l f (y ∷ xs) x h = back d t p l f xs x (all_right (NodeSays d t p l) (f y) (flat_map f (xs ++ x ∷ [])) h)

pub wired-none : (d : Diagram) (t : Table) (start : Three) → IsTriple d start → IsWiredOf d d t start [] (λ l x. resolve2 x Z) start
wired-none d t start is = record { valid = is; allows = λ p l x allows says. subst (Allows d start p) (sym (resolve-ends x)) allows }

pub wired-more : (a b m c : Diagram) (t : Table) (start so_far drive r : Three) (f : ℕ → List Read) (g : Levels → ℕ → Level) (us : List ℕ) (i d : ℕ) → i < length us → IsTable a t →
    Keeps a b → Keeps b m → IsWiredOf a b t start (flat_map f (take i us)) (λ l x. resolve2 x (wired (map (g l) (take i us)))) so_far →
    IsTripleOf b m t (f (get_or us i d)) (λ l. g l (get_or us i d)) drive → IsWired m c so_far drive r →
    IsWiredOf a c t start (flat_map f (take (i + 1) us)) (λ l x. resolve2 x (wired (map (g l) (take (i + 1) us)))) r
wired-more a b m c t start so_far drive r f g us i d lt table ab bm is one made = record {
  valid = made.valid;
  allows = λ p l x allows says.
      let u = get_or us i d in
      let all : NodesSay a t p l (flat_map f (take i us ++ u ∷ [])) = subst (λ (xs : List ℕ). NodesSay a t p l (flat_map f xs)) (take_more us i d lt) says in
      subst (Allows c r p)
      (resolve-next x (wired (map (g l) (take i us))) (g l u) ∙ sym (ap (resolve2 x) (ap (λ (xs : List ℕ). wired (map (g l) xs)) (take_more us i d lt) ∙ wired-push (g l) (take i us) u)))
      (made.allows p (resolve2 x (wired (map (g l) (take i us)))) (g l u)
      (allows_kept b m so_far p (resolve2 x (wired (map (g l) (take i us)))) bm is.valid (is.allows p l x allows (front a t p l f (take i us) u all)))
      (one.says p l (nodes_kept a b t p l (f u) ab table (back a t p l f (take i us) u all))));
}

pub inner-made : (a b c : Diagram) (t : Table) (pull : Pull) (reads : List Read) (g : Levels → Level) (nothing all r : Three) →
    ((p : Point) → Allows a nothing p Z) → IsWiredOf a b t nothing reads (λ l x. resolve2 x (g l)) all → IsPulled b c pull all r → IsTripleOf a c t reads (λ l. pulled_from pull (g l)) r
inner-made a b c t pull reads g nothing all r none is pulled = record {
  valid = pulled.valid;
  says = λ p l says. pulled.says p (g l) (is.allows p l Z (none p) says);
}

pub shared-made : (a b c d : Diagram) (t : Table) (pull : Pull) (reads : List Read) (g : Levels → Level) (nothing handed start all r : Three) → IsTable a t → Keeps a b →
    ((p : Point) → Allows a nothing p Z) → IsWired a b nothing handed start → IsWiredOf b c t start reads (λ l x. resolve2 x (g l)) all → IsPulled c d pull all r →
    IsSharedOf a d t handed reads (λ l x. pulled_from pull (resolve2 x (g l))) r
shared-made a b c d t pull reads g nothing handed start all r table ab none first is pulled = record {
  valid = pulled.valid;
  says = λ p l x given says. pulled.says p (resolve2 x (g l)) (is.allows p l x (first.allows p Z x (none p) given) (nodes_kept a b t p l reads ab table says));
}

-- the kinds of nets
pub fixed-net : (a b : Diagram) (t : Table) (handed : List Three) (c : Circuit) (w : Wire) (k : NetKind) (level : Level) (r : Three) → w.kind ≡ k →
    ((inputs : List Level) (l : Levels) → level_by inputs k w.pull (map (drive_of c l) w.drivers) ≡ level) → IsTriple b r → ((p : Point) → Says b r p level) →
    IsNetOf a b t handed (wire_reads c w) (λ inputs l. net_level c inputs l w) r
fixed-net a b t handed c w k level r e same is says = record {
  valid = is;
  says = λ p l inputs _ _. subst (Says b r p) (sym (ap (λ (q : NetKind). level_by inputs q w.pull (map (drive_of c l) w.drivers)) e ∙ same inputs l)) (says p);
}

pub handed-net : (a : Diagram) (t : Table) (handed : List Three) (c : Circuit) (w : Wire) (j : ℕ) (r : Three) → w.kind ≡ Handed j → IsTriple a r →
    ((p : Point) (level : Level) → PlaceSays a handed j p level → Says a r p level) → IsNetOf a a t handed (wire_reads c w) (λ inputs l. net_level c inputs l w) r
handed-net a t handed c w j r e is says = record {
  valid = is;
  says = λ p l inputs given _. subst (Says a r p) (sym (ap (λ (q : NetKind). level_by inputs q w.pull (map (drive_of c l) w.drivers)) e)) (says p (level_at inputs j) (given j));
}

pub shared-is-net : (a b : Diagram) (t : Table) (handed : List Three) (c : Circuit) (w : Wire) (j : ℕ) (given r : Three) → w.kind ≡ Shared j →
    ((p : Point) (level : Level) → PlaceSays a handed j p level → Says a given p level) →
    IsSharedOf a b t given (wire_reads c w) (λ l x. pulled_from w.pull (resolve2 x (wired (map (drive_of c l) w.drivers)))) r → IsNetOf a b t handed (wire_reads c w) (λ inputs l. net_level c inputs l w) r
shared-is-net a b t handed c w j given r e says is = record {
  valid = is.valid;
  says = λ p l inputs given_says nodes. subst (Says b r p) (shared-net inputs w (drive_of c l) j e) (is.says p l (level_at inputs j) (says p (level_at inputs j) (given_says j)) nodes);
}

pub inner-is-net : (a b : Diagram) (t : Table) (handed : List Three) (c : Circuit) (w : Wire) (r : Three) → w.kind ≡ Inner →
    IsTripleOf a b t (wire_reads c w) (λ l. pulled_from w.pull (wired (map (drive_of c l) w.drivers))) r → IsNetOf a b t handed (wire_reads c w) (λ inputs l. net_level c inputs l w) r
inner-is-net a b t handed c w r e is = record {
  valid = is.valid;
  says = λ p l inputs _ nodes. subst (Says b r p) (inner-net inputs w (drive_of c l) e) (is.says p l nodes);
}
