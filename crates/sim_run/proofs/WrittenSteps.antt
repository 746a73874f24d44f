-- The lines that are written, piece by piece.
use Rattle.std.proofs.Common.{ℕ, ◌≡◌, ◌+◌, Bool, true, false, cond, List, [], ◌∷◌, ◌++◌, map, refl, ap, ◌∙◌, Some, None}
use Rattle.std.specs.Prelude.{codes}
use Rattle.std.specs.List.{flat_map, cons_option}
use Rattle.mig_base.specs.declared.nets.NetLine.{NetLine}
use Rattle.mig_base.specs.Boards.{is_handed}
use Rattle.mig_base.specs.WrittenBoard.{written_line}
use Rattle.sim_run.specs.ScriptText.{ports_from}
use Rattle.sim_run.specs.WrittenScript.{ports_line}
use Rattle.text_lines.proofs.PlainWords.{spaced}

-- a space and the name of a port that is handed a level
abbrev pub port_text : NetLine → List ℕ
port_text l = cond (is_handed l.port) (32 ∷ l.name) []

names-text : (nets : List NetLine) (n : ℕ) → flat_map (λ w. 32 ∷ w) (map (λ p. p.name) (ports_from n nets)) ≡ flat_map port_text nets
names-text [] n = refl
names-text (l ∷ nets) n = at (is_handed l.port) ∙ ap (λ (bs : List ℕ). port_text l ++ bs) (names-text nets (n + 1))
  where
    at : (t : Bool) → flat_map (λ w. 32 ∷ w) (map (λ p. p.name) (cons_option (cond t (Some (record { name = l.name; port = l.port; net = n })) None) (ports_from (n + 1) nets)))
        ≡ cond t (32 ∷ l.name) [] ++ flat_map (λ w. 32 ∷ w) (map (λ p. p.name) (ports_from (n + 1) nets))
    at true = refl
    at false = refl

-- the line of the ports
pub ports-text : (nets : List NetLine) → written_line (ports_line (ports_from 2 nets)) ≡ (codes "ports" ++ flat_map port_text nets) ++ 10 ∷ []
ports-text nets = ap (λ (bs : List ℕ). bs ++ 10 ∷ []) (spaced (codes "ports") (map (λ p. p.name) (ports_from 2 nets)) ∙ ap (λ (bs : List ℕ). codes "ports" ++ bs) (names-text nets 2))
