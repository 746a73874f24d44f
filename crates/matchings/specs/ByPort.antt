-- Inputs in the order of one board, handed to another by port name.
use Rattle.std.specs.Prelude.{ℕ, List, map, filter}
use Rattle.mig_base.specs.declared.levels.Level.{Level}
use Rattle.mig_base.specs.declared.nets.Net.{Net}
use Rattle.mig_base.specs.Levels.{or_x}
use Rattle.mig_base.specs.Boards.{is_handed}
use Rattle.level_laws.specs.SameBehaviour.{Handing, shown_at}

-- the names of the Input and Both ports, in board order
abbrev pub handed_names : Net → List (List ℕ)
handed_names net = map (λ l. l.name) (filter (λ l. is_handed l.port) net.nets)

-- levels in a board's order, by port name
abbrev pub by_port : Net → List Level → Handing
by_port net inputs name = or_x (λ (level : Level). level) (shown_at (handed_names net) inputs name)
