-- What the fields of a `Rails` keep.
use Rattle.std.specs.Prelude.{◌≡◌}
use Rattle.rails.specs.declared.Rails.TheInside.{Inside}
use Rattle.rails.specs.Variables.{Held, all_rails, AreRising}

-- the graph and the variables; the list of Booleans is not seen
abbrev pub seen : Inside → Held
seen r = record { graph = r.graph; vars = r.vars.items }

-- the Booleans are those of the variables, which rise
pub record IsRails (r : Inside) : Type 0 where
  pub rails : r.rails.items ≡ all_rails r.vars.items
  pub rising : AreRising r.vars.items
