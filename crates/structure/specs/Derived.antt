-- What follows from a board's equations, in one record.
use Rattle.std.specs.Prelude.{ℕ, ◌≡◌, List, map}
use Rattle.mig_base.specs.declared.circuit.Circuit.{Circuit}
use Rattle.structure.specs.declared.derived.Structure.{Structure}
use Rattle.structure.specs.Pure.{IsPurity}
use Rattle.structure.specs.Live.{IsLiveness}
use Rattle.structure.specs.Absorbable.{AreAbsorbable}
use Rattle.structure.specs.Aliases.{AreAliases}
use Rattle.structure.specs.Products.{unit_products}

-- what follows from these equations, where the units of the registers are these
pub record IsStructure (c : Circuit) (registers : List ℕ) (s : Structure) : Type 0 where
  pub purity : IsPurity c s.purity
  pub live : IsLiveness c s.live
  pub absorbable : AreAbsorbable c s.absorbable
  pub aliases : AreAliases c s.aliases
  pub products : s.products ≡ map (unit_products c registers) c.units
