-- What is handed over from one board to another is lawful there.
use Rattle.std.proofs.Common.{ℕ, ◌≡◌, ◌+◌, List, [], ◌∷◌, map, filter, length, suc, refl, sym, ap, ◌∙◌, subst}
use Rattle.std.specs.Prelude.{Option}
use Rattle.std.proofs.lemmas.List.{length-map}
use Rattle.mig_base.specs.declared.levels.Level.{Level}
use Rattle.mig_base.specs.declared.cells.ChipCells.{ChipCells}
use Rattle.mig_base.specs.declared.nets.Net.{Net}
use Rattle.mig_base.specs.declared.nets.NetLine.{NetLine}
use Rattle.mig_base.specs.declared.nets.Port.{Port}
use Rattle.mig_base.specs.BoardText.{place_named}
use Rattle.mig_base.specs.Boards.{circuit, is_handed}
use Rattle.mig_base.specs.Levels.{or_x}
use Rattle.mig_base.specs.WrittenBoard.{IsWritable}
use Rattle.board.specs.Joined.{Joined, equations_of}
use Rattle.level_laws.specs.SameBehaviour.{IsLawful, SamePorts, handed_levels}
use Rattle.matchings.proofs.LawfulBoth.{lawful-other}
use Rattle.settle.specs.Configs.{handed_count}
use Rattle.settle.specs.Made.{IsInputFor}
use Rattle.sim_run.proofs.LawfulScripts.{fit-input}
use Rattle.matchings.specs.ByPort.{by_port, handed_names}
use Rattle.trials.specs.Places.{handed_over, level_by_place, places_among}
use Rattle.trials.specs.Stepping.{IsPairing}
use Rattle.trials.specs.Trials.{counted_from, handed_ports}
use Rattle.trials.specs.declared.pairing.Pairing.{Pairing}
use Rattle.trials.proofs.FirstOnes.{ArePaired}
use Rattle.trials.proofs.NamedLevels.{over-placed, own-inputs}
use Rattle.trials.proofs.TrialLaws.{count-fits}

counted-count : (k n j : ℕ) (ps : List Port) → length (counted_from k n j ps) ≡ length ps
counted-count k n j [] = refl
counted-count k n j (p ∷ ps) = ap suc (counted-count k n (j + 1) ps)

-- a board is handed a level for each Input and Both port
pub handed-count : (net : Net) (chips : List ChipCells) → handed_count (circuit net chips) ≡ length (filter (λ l. is_handed l.port) net.nets)
handed-count net chips =
    sym (fit-input net chips (counted_from 0 0 0 (handed_ports net)) (count-fits net)).lengths ∙ counted-count 0 0 0 (handed_ports net) ∙ length-map (filter (λ l. is_handed l.port) net.nets) (λ (l : NetLine). l.port)

pub over-input : (a b : Joined) (inputs : List Level) → SamePorts a.net b.net → IsWritable a.net → IsInputFor (equations_of a) inputs → IsInputFor (equations_of b) (handed_over a.net b.net inputs)
over-input a b inputs ports w given = record {
  lengths = length-map (filter (λ l. is_handed l.port) b.net.nets) (λ (l : NetLine). by_port a.net inputs l.name) ∙ sym (handed-count b.net b.chips);
  lawful = lawful-other a b (by_port a.net inputs) ports (subst (IsLawful (equations_of a)) (sym own) given.lawful);
}
  where
    own : handed_levels a.net (by_port a.net inputs) ≡ inputs
    own = own-inputs a.net inputs w (given.lengths ∙ handed-count a.net a.chips ∙ sym (length-map (filter (λ l. is_handed l.port) a.net.nets) (λ (l : NetLine). l.name)))

pub paired : (a b : Joined) (p : Pairing) → SamePorts a.net b.net → IsPairing a b p → ArePaired a b p.shows
paired a b p ports w = record { wiring = w.wiring; accepted_a = w.accepted_a; accepted_b = w.accepted_b; ports = ports; shows = w.shows }

-- there is room for what is handed over
pub over-room : (a b : Joined) (p : Pairing) (items : List (Option ℕ)) → IsPairing a b p → items ≡ p.inputs → length items ≡ handed_count (equations_of b)
over-room a b p items w e =
    ap length (e ∙ w.inputs) ∙ length-map (handed_names b.net) (λ (name : List ℕ). place_named name (handed_names a.net))
    ∙ length-map (filter (λ l. is_handed l.port) b.net.nets) (λ (l : NetLine). l.name) ∙ sym (handed-count b.net b.chips)

-- what is handed over by places is what is handed over by names
pub over-made : (a b : Joined) (p : Pairing) (items : List (Option ℕ)) (levels inputs to : List Level) → IsPairing a b p → items ≡ p.inputs → levels ≡ inputs →
    to ≡ map (λ place. or_x (λ (level : Level). level) (level_by_place levels place)) items → to ≡ handed_over a.net b.net inputs
over-made a b p items levels inputs to w same lent made =
    made ∙ ap (λ (ps : List (Option ℕ)). map (λ place. or_x (λ (level : Level). level) (level_by_place levels place)) ps) (same ∙ w.inputs)
    ∙ over-placed a.net b.net levels ∙ ap (handed_over a.net b.net) lent

-- places by the lists that are lent
pub placed-as : (lent lent_other names others : List (List ℕ)) (made items : List (Option ℕ)) → made ≡ items → items ≡ places_among lent lent_other → lent ≡ names → lent_other ≡ others → made ≡ places_among names others
placed-as lent lent_other names others made items same placed one other =
    same ∙ placed ∙ ap (λ (ns : List (List ℕ)). places_among ns lent_other) one ∙ ap (places_among names) other
