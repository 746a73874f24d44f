-- What is made for a board: stored levels, inputs, settled levels and configurations.
use Rattle.std.specs.Prelude.{◌≡◌, ◌≢◌, true, List, length, All}
use Rattle.mig_base.specs.declared.levels.Level.{Level}
use Rattle.mig_base.specs.declared.levels.Level.TheVariants.{Z}
use Rattle.mig_base.specs.declared.circuit.Circuit.{Circuit}
use Rattle.mig_base.specs.declared.circuit.Levels.{Levels}
use Rattle.level_laws.specs.SameBehaviour.{IsLawful}
use Rattle.level_laws.specs.PureLevels.{HasPureStored, HasPureLevels}
use Rattle.settle.specs.declared.config.Config.{Config}
use Rattle.settle.specs.Configs.{IsMadeFor, handed_count}
use Rattle.settle.specs.Rules.{HasLengths}

-- no level floats: each is 0, 1 or X
abbrev pub AreKnown : List Level → Type 0
AreKnown levels = All (λ level. level ≢ Z) levels

-- a level that does not float for each register
pub record IsStateFor (c : Circuit) (stored : List Level) : Type 0 where
  pub lengths : length stored ≡ length c.registers
  pub known : AreKnown stored

-- a lawful level for each Input and Both port
pub record IsInputFor (c : Circuit) (inputs : List Level) : Type 0 where
  pub lengths : length inputs ≡ handed_count c
  pub lawful : IsLawful c inputs

-- a level for each net, drive and register, where no visible Q floats
pub record AreLevelsFor (c : Circuit) (levels : Levels) : Type 0 where
  pub lengths : HasLengths c levels
  pub known : AreKnown levels.visible

-- its state and levels are made for the board and, once a step was made, its last inputs are lawful and its levels settled
pub record IsConfigFor (c : Circuit) (config : Config) : Type 0 where
  pub made : IsMadeFor c config
  pub stored : AreKnown config.stored
  pub visible : AreKnown config.levels.visible
  pub lawful : config.stepped ≡ true → IsLawful c config.last

-- its pure registers store 0 or 1 and, once a step was made, all its pure nodes are 0 or 1
pub record IsPureConfig (c : Circuit) (config : Config) : Type 0 where
  pub stored : HasPureStored c config.stored
  pub levels : config.stepped ≡ true → HasPureLevels c config.levels
