-- The signs of registers.
use Rattle.std.specs.Prelude.{ℕ, ◌≡◌, ◌≢◌, ◌↔◌, ◌&&◌, Bool, true, false, List, length, Option, Some, None, slice_get, IfSome}
use Rattle.bdd.specs.Tree.{Point}
use Rattle.bdd.specs.Diagram.{Diagram, IsValid, function_of}
use Rattle.bdd.specs.declared.Ref.{Ref}
use Rattle.mig_base.specs.declared.levels.Level.{Level}
use Rattle.mig_base.specs.declared.levels.Level.TheVariants.{Zero, One, Z}
use Rattle.mig_base.specs.declared.circuit.Levels.{Levels}
use Rattle.mig_base.specs.Levels.{level_at, or_x, same_level}
use Rattle.level_laws.specs.Runs.{taken}
use Rattle.level_laws.specs.SameBehaviour.{Handing}
use Rattle.board.specs.Joined.{Joined, equations_of}
use Rattle.matchings.specs.Pairs.{registers_of_both}
use Rattle.matchings.specs.Edges.{View, same_clock}
use Rattle.matchings.specs.Views.{AlwaysAlike, view_of, view_of_both}
use Rattle.reckoning.specs.declared.triples.Three.{Three}
use Rattle.reckoning.specs.declared.triples.Triples.{Triples}
use Rattle.reckoning.specs.Triples.{PlaceSays}
use Rattle.class_leaves.specs.PairsAt.{IsPairAt}
use Rattle.class_leaves.specs.declared.Leaves.{Leaves}
use Rattle.signs.specs.Named.{NamedSay}
use Rattle.signs.specs.Both.{BothSettle}
use Rattle.signs.specs.declared.registers.Sign.{Sign}

-- a clock may rise in the next step
abbrev pub waits : Option (List ℕ) → Handing → Bool
waits None h = false
waits (Some name) h = same_level (h name) Zero

pub record IsSign (d : Diagram) (s : Sign) : Type 0 where
  pub one : IsValid d s.one
  pub zero : IsValid d s.zero
  pub edge_one : IsValid d s.edge_one
  pub edge_zero : IsValid d s.edge_zero
  pub keep_one : IsValid d s.keep_one
  pub keep_zero : IsValid d s.keep_zero

-- at a point a sign tells what a register shows and, where its clock may rise, what it takes and what it shows
pub record SignSays (d : Diagram) (s : Sign) (p : Point) (h : Handing) (v : View) : Type 0 where
  pub clock : s.clock ≡ v.clock
  pub seen : v.seen ≢ Z
  pub taken : v.taken ≢ Z
  pub one : function_of d s.one p ≡ same_level v.seen One
  pub zero : function_of d s.zero p ≡ same_level v.seen Zero
  pub edge_one : function_of d s.edge_one p ≡ (waits v.clock h && same_level v.taken One)
  pub edge_zero : function_of d s.edge_zero p ≡ (waits v.clock h && same_level v.taken Zero)
  pub keep_one : function_of d s.keep_one p ≡ (waits v.clock h && same_level v.seen One)
  pub keep_zero : function_of d s.keep_zero p ≡ (waits v.clock h && same_level v.seen Zero)

-- at a point the triples say what a board's registers show and take, and what is handed to ports of these names
pub record ViewsSay (d : Diagram) (b : Joined) (names : List (List ℕ)) (ports : List Three) (r : Triples) (p : Point) (h : Handing) (l : Levels) : Type 0 where
  pub handed : NamedSay d ports names p h
  pub visible : (k : ℕ) → PlaceSays d r.visible k p (level_at l.visible k)
  pub next : (k : ℕ) → PlaceSays d r.next k p (or_x (taken l) (slice_get (equations_of b).registers k))

-- the signs of a board's first n registers
pub record AreSignsOf (first now : Diagram) (b : Joined) (names : List (List ℕ)) (ports : List Three) (r : Triples) (n : ℕ) (signs : List Sign) : Type 0 where
  pub count : length signs ≡ n
  pub valid : (k : ℕ) → IfSome (slice_get signs k) (IsSign now)
  pub says : (p : Point) (h : Handing) (l : Levels) → ViewsSay first b names ports r p h l → (k : ℕ) → IfSome (slice_get signs k) (λ s. SignSays now s p h (view_of b l k))

-- the signs of the registers of both boards: at the point of each pair they tell the registers there
pub record AreSigns (a b : Joined) (leaves : Leaves) (d : Diagram) (signs : List Sign) : Type 0 where
  pub count : length signs ≡ registers_of_both a b
  pub valid : (i : ℕ) → IfSome (slice_get signs i) (IsSign d)
  pub says : (p : Point) (left right : List Level) (h : Handing) (l m : Levels) → IsPairAt a b leaves p left right h → BothSettle a b left right h l m →
      (i : ℕ) → IfSome (slice_get signs i) (λ s. SignSays d s p h (view_of_both a b l m i))

abbrev pub SameFunctions : Diagram → Ref → Ref → Type 0
SameFunctions d f g = (p : Point) → function_of d f p ≡ function_of d g p

-- a register takes what it shows wherever its clock may rise
abbrev pub Keeps : Diagram → Sign → Type 0
Keeps d s = SameFunctions d s.edge_one s.keep_one × SameFunctions d s.edge_zero s.keep_zero

-- with one clock, both take the same where it may rise; with two, each takes what it shows where its own may rise
abbrev pub AreSameEdges : Bool → Diagram → Sign → Sign → Type 0
AreSameEdges true d s t = SameFunctions d s.edge_one t.edge_one × SameFunctions d s.edge_zero t.edge_zero
AreSameEdges false d s t = Keeps d s × Keeps d t

pub record AreSameSigns (d : Diagram) (s t : Sign) : Type 0 where
  pub seen : SameFunctions d s.one t.one × SameFunctions d s.zero t.zero
  pub edges : AreSameEdges (same_clock s.clock t.clock) d s t

-- two registers have the same signs exactly where they are alike at every agreeing pair
abbrev pub AreTold : Joined → Joined → List ℕ → Diagram → List Sign → Type 0
AreTold a b classes d signs = (i j : ℕ) (s t : Sign) → slice_get signs i ≡ Some s → slice_get signs j ≡ Some t → AreSameSigns d s t ↔ AlwaysAlike a b classes i j
