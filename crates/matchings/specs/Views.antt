-- The registers of a board at settled levels.
use Rattle.std.specs.Prelude.{ℕ, ◌-◌, nat_lt, if◌then◌else◌, List, length, Option, Some, None, slice_get}
use Rattle.mig_base.specs.declared.levels.Level.{Level}
use Rattle.mig_base.specs.declared.circuit.Register.{Register}
use Rattle.mig_base.specs.declared.circuit.Levels.{Levels}
use Rattle.mig_base.specs.declared.nets.Net.{Net}
use Rattle.mig_base.specs.Levels.{level_at, or_x}
use Rattle.level_laws.specs.Runs.{taken}
use Rattle.board.specs.Joined.{Joined, equations_of}
use Rattle.matchings.specs.Clocks.{clock_name}
use Rattle.level_laws.specs.Settled.{IsSettled}
use Rattle.level_laws.specs.SameBehaviour.{Handing}
use Rattle.matchings.specs.Pairs.{Agrees, handed}
use Rattle.matchings.specs.Edges.{AreAlike, View}

abbrev pub register_clock : Net → Option Register → Option (List ℕ)
register_clock net None = None
register_clock net (Some r) = clock_name net r.clock

-- what register k shows, takes and waits for
abbrev pub view_of : Joined → Levels → ℕ → View
view_of b l k = record {
  seen = level_at l.visible k;
  taken = or_x (taken l) (slice_get (equations_of b).registers k);
  clock = register_clock b.net (slice_get (equations_of b).registers k);
}

-- the registers of both boards
abbrev pub view_of_both : Joined → Joined → Levels → Levels → ℕ → View
view_of_both a b l m i = if nat_lt i (length (equations_of a).registers) then view_of a l i else view_of b m (i - length (equations_of a).registers)

-- at every agreeing pair with last inputs the two registers are alike
abbrev pub AlwaysAlike : Joined → Joined → List ℕ → ℕ → ℕ → Type 0
AlwaysAlike a b classes i j = (left right : List Level) (handing : Handing) (l m : Levels) → Agrees a b classes left right (Some handing) →
    IsSettled (equations_of a) left (handed a handing) l → IsSettled (equations_of b) right (handed b handing) m → AreAlike handing (view_of_both a b l m i) (view_of_both a b l m j)
