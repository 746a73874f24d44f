-- The text that is written for a script, and which scripts have one.
use Rattle.std.specs.Prelude.{ℕ, ◌≤◌, Bool, true, false, ◌&&◌, List, [], ◌∷◌, ◌++◌, length, map, IsTrue, codes}
use Rattle.std.specs.List.{list_all, flat_map}
use Rattle.mig_base.specs.declared.levels.Level.{Level}
use Rattle.mig_base.specs.declared.levels.Level.TheVariants.{Zero, One, Z, X}
use Rattle.mig_base.specs.declared.nets.Net.{Net}
use Rattle.mig_base.specs.declared.nets.Port.{Port}
use Rattle.mig_base.specs.WrittenBoard.{written_line, IsWritable}
use Rattle.sim_run.specs.declared.handed.HandedPort.{HandedPort}
use Rattle.mig_base.specs.declared.scripts.Script.{Script}
use Rattle.sim_run.specs.ScriptText.{ports_of, most_steps}
use Rattle.mig_base.specs.Levels.{level_code}
use Rattle.mig_base.specs.BoardText.{is_both}

-- the word `step` and a word of the levels; the first alone where there are none
abbrev pub step_line : List Level → List (List ℕ)
step_line [] = codes "step" ∷ []
step_line (l ∷ ls) = codes "step" ∷ map level_code (l ∷ ls) ∷ []

-- the word `ports` and the names
abbrev pub ports_line : List HandedPort → List (List ℕ)
ports_line ports = codes "ports" ∷ map (λ p. p.name) ports

-- the words of the lines: the head, the ports, the steps, the end
abbrev pub script_lines : List HandedPort → Script → List (List (List ℕ))
script_lines ports script =
    (codes "script" ∷ codes "1" ∷ []) ∷ ports_line ports ∷ map (λ s. step_line s.levels) script.steps ++ (codes "end" ∷ []) ∷ []

-- the text that is written, with the Input and Both ports in board order
abbrev pub written_script : Net → Script → List ℕ
written_script net script = flat_map written_line (script_lines (ports_of net) script)

-- every port takes 0 and 1, a Both port Z too
abbrev pub takes : Port → Level → Bool
takes dir Zero = true
takes dir One = true
takes dir Z = is_both dir
takes dir X = false

-- one level for each port, which it takes
abbrev pub fit : List HandedPort → List Level → Bool
fit [] [] = true
fit [] (l ∷ ls) = false
fit (p ∷ ps) [] = false
fit (p ∷ ps) (l ∷ ls) = takes p.port l && fit ps ls

-- what each script keeps that a text says for a wiring, and what is asked of one that is written
pub record IsWritableScript (net : Net) (script : Script) : Type 0 where
  pub board : IsWritable net
  pub few_steps : length script.steps ≤ most_steps
  pub steps_fit : IsTrue (list_all (λ s. fit (ports_of net) s.levels) script.steps)
