-- Equality of Booleans.
use Rattle.std.specs.Prelude.{Bool, true, false, not}

-- whether two are the same
abbrev pub same_bool : Bool → Bool → Bool
same_bool true b = b
same_bool false b = not b
