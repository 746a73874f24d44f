-- What is said stays said where a graph keeps its functions.
use Rattle.std.proofs.Common.{ℕ, ◌≡◌, Bool, false, List, [], ◌∷◌, Option, Some, None, refl, ap, ◌∙◌}
use Rattle.std.specs.Prelude.{slice_get, MatchOption, IfSome}
use Rattle.bdd.specs.Tree.{Point, holds}
use Rattle.bdd.specs.Diagram.{Diagram, IsConstant, IsValid, function_of, Keeps}
use Rattle.bdd.specs.declared.Ref.{Ref}
use Rattle.mig_base.specs.declared.levels.Level.{Level}
use Rattle.mig_base.specs.declared.levels.Level.TheVariants.{X}
use Rattle.mig_base.specs.declared.circuit.Read.{Read}
use Rattle.mig_base.specs.declared.circuit.Read.TheVariants.{OfNet, OfRegister}
use Rattle.mig_base.specs.declared.circuit.Levels.{Levels}
use Rattle.mig_base.specs.Levels.{level_at}
use Rattle.reckoning.specs.declared.triples.Three.{Three}
use Rattle.reckoning.specs.declared.triples.Value.{Value}
use Rattle.reckoning.specs.declared.triples.Table.{Table}
use Rattle.reckoning.specs.Triples.{IsTriple, IsValue, Says, Means, AreTriples, NeverFloat, PlaceSays}
use Rattle.reckoning.specs.Tables.{IsTable, NodeSays, NodesSay, HandedSay, triples_of}

pub keeps_refl : (d : Diagram) → Keeps d d
keeps_refl d = record { vars = refl; valid = λ f l. l; tree = λ f l. refl }

pub keeps_trans : (a b c : Diagram) → Keeps a b → Keeps b c → Keeps a c
keeps_trans a b c k l = record {
  vars = l.vars ∙ k.vars;
  valid = λ f v. l.valid f (k.valid f v);
  tree = λ f v. l.tree f (k.valid f v) ∙ k.tree f v;
}

pub function_kept : (a b : Diagram) (r : Ref) → Keeps a b → IsValid a r → (p : Point) → function_of b r p ≡ function_of a r p
function_kept a b r k v p = ap (λ t. holds t p) (k.tree r v)

pub triple_kept : (a b : Diagram) (t : Three) → Keeps a b → IsTriple a t → IsTriple b t
triple_kept a b t k is = record { one = k.valid t.one is.one; zero = k.valid t.zero is.zero; float = k.valid t.float is.float }

pub value_kept : (a b : Diagram) (v : Value) → Keeps a b → IsValue a v → IsValue b v
value_kept a b v k is = record { one = k.valid v.one is.one; zero = k.valid v.zero is.zero }

pub says_kept : (a b : Diagram) (t : Three) (p : Point) (level : Level) → Keeps a b → IsTriple a t → Says a t p level → Says b t p level
says_kept a b t p level k is says = record {
  one = function_kept a b t.one k is.one p ∙ says.one;
  zero = function_kept a b t.zero k is.zero p ∙ says.zero;
  float = function_kept a b t.float k is.float p ∙ says.float;
}

pub means_kept : (a b : Diagram) (v : Value) (p : Point) (level : Level) → Keeps a b → IsValue a v → Means a v p level → Means b v p level
means_kept a b v p level k is means = record {
  one = function_kept a b v.one k is.one p ∙ means.one;
  zero = function_kept a b v.zero k is.zero p ∙ means.zero;
}

pub triples_kept : (a b : Diagram) (ts : List Three) → Keeps a b → AreTriples a ts → AreTriples b ts
triples_kept a b ts k are n = at (slice_get ts n) (are n)
  where
    at : (o : Option Three) → IfSome o (IsTriple a) → IfSome o (IsTriple b)
    at None h = tt
    at (Some t) h = triple_kept a b t k h

pub constant_kept : (a b : Diagram) (bit : Bool) (f : Ref) → Keeps a b → IsConstant a bit f → IsConstant b bit f
constant_kept a b bit f k is = record { valid = k.valid f is.valid; tree = k.tree f is.valid ∙ is.tree }

pub never_kept : (a b : Diagram) (ts : List Three) → Keeps a b → NeverFloat a ts → NeverFloat b ts
never_kept a b ts k never n = at (slice_get ts n) (never n)
  where
    at : (o : Option Three) → IfSome o (λ t. IsConstant a false t.float) → IfSome o (λ t. IsConstant b false t.float)
    at None h = tt
    at (Some t) h = constant_kept a b false t.float k h

pub table_kept : (a b : Diagram) (t : Table) → Keeps a b → IsTable a t → IsTable b t
table_kept a b t k is = record { nets = triples_kept a b t.nets k is.nets; visible = triples_kept a b t.visible k is.visible }

pub place_kept : (a b : Diagram) (ts : List Three) (n : ℕ) (p : Point) (level : Level) → Keeps a b → AreTriples a ts → PlaceSays a ts n p level → PlaceSays b ts n p level
place_kept a b ts n p level k are says = at (slice_get ts n) (are n) says
  where
    at : (o : Option Three) → IfSome o (IsTriple a) → MatchOption o (level ≡ X) (λ t. Says a t p level) → MatchOption o (level ≡ X) (λ t. Says b t p level)
    at None h says = says
    at (Some t) h says = says_kept a b t p level k h says

node_triples : (d : Diagram) (t : Table) (v : Read) → IsTable d t → AreTriples d (triples_of t v)
node_triples d t (OfNet n) is = is.nets
node_triples d t (OfRegister k) is = is.visible

pub node_kept : (a b : Diagram) (t : Table) (p : Point) (l : Levels) (v : Read) → Keeps a b → IsTable a t → NodeSays a t p l v → NodeSays b t p l v
node_kept a b t p l (OfNet n) k is says = place_kept a b t.nets n p (level_at l.nets n) k is.nets says
node_kept a b t p l (OfRegister j) k is says = place_kept a b t.visible j p (level_at l.visible j) k is.visible says

pub nodes_kept : (a b : Diagram) (t : Table) (p : Point) (l : Levels) (vs : List Read) → Keeps a b → IsTable a t → NodesSay a t p l vs → NodesSay b t p l vs
nodes_kept a b t p l [] k is says = tt
nodes_kept a b t p l (v ∷ vs) k is says = (node_kept a b t p l v k is says.0, nodes_kept a b t p l vs k is says.1)

pub handed_kept : (a b : Diagram) (handed : List Three) (p : Point) (inputs : List Level) → Keeps a b → AreTriples a handed → HandedSay a handed p inputs → HandedSay b handed p inputs
handed_kept a b handed p inputs k are says j = place_kept a b handed j p (level_at inputs j) k are (says j)
