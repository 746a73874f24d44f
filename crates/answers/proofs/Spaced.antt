-- Lines of words, piece by piece.
use Rattle.std.proofs.Common.{ℕ, ◌≡◌, Bool, true, false, cond, List, [], ◌∷◌, ◌++◌, map, filter, refl, ap, ◌∙◌}
use Rattle.std.specs.Prelude.{codes}
use Rattle.std.specs.List.{flat_map}
use Rattle.mig_base.specs.declared.nets.NetLine.{NetLine}
use Rattle.mig_base.specs.declared.nets.Node.{Node}
use Rattle.mig_base.specs.Boards.{is_port}
use Rattle.mig_base.specs.WrittenBoard.{written_line}
use Rattle.std.specs.Fmt.{decimal}
use Rattle.std.proofs.Common.{append_assoc}
use Rattle.answers.specs.Reasons.{node_text}
use Rattle.answers.specs.Reports.{ports_line, accepted_line}
use Rattle.text_lines.proofs.PlainWords.{spaced}

-- a space and the name of a port
abbrev pub port_text : NetLine → List ℕ
port_text l = cond (is_port l) (32 ∷ l.name) []

-- a space and the name of a node
abbrev pub next_node : Node → List ℕ
next_node v = 32 ∷ node_text v

names-text : (nets : List NetLine) → flat_map (λ w. 32 ∷ w) (map (λ l. l.name) (filter is_port nets)) ≡ flat_map port_text nets
names-text [] = refl
names-text (l ∷ nets) = at (is_port l) ∙ ap (λ (bs : List ℕ). port_text l ++ bs) (names-text nets)
  where
    at : (t : Bool) → flat_map (λ w. 32 ∷ w) (map (λ m. m.name) (cond t (l ∷ filter is_port nets) (filter is_port nets)))
        ≡ cond t (32 ∷ l.name) [] ++ flat_map (λ w. 32 ∷ w) (map (λ m. m.name) (filter is_port nets))
    at true = refl
    at false = refl

-- the line of the ports
pub ports-text : (nets : List NetLine) → ports_line nets ≡ (codes "ports" ++ flat_map port_text nets) ++ 10 ∷ []
ports-text nets = ap (λ (bs : List ℕ). bs ++ 10 ∷ []) (spaced (codes "ports") (map (λ l. l.name) (filter is_port nets)) ∙ ap (λ (bs : List ℕ). codes "ports" ++ bs) (names-text nets))

nodes-text : (cycle : List Node) → flat_map (λ w. 32 ∷ w) (map node_text cycle) ≡ flat_map next_node cycle
nodes-text [] = refl
nodes-text (v ∷ vs) = ap (λ (bs : List ℕ). next_node v ++ bs) (nodes-text vs)

-- the end of the line of a loop
pub loop-text : (cycle : List Node) → written_line (codes "Loop" ∷ map node_text cycle) ≡ (codes "Loop" ++ flat_map next_node cycle) ++ 10 ∷ []
loop-text cycle = ap (λ (bs : List ℕ). bs ++ 10 ∷ []) (spaced (codes "Loop") (map node_text cycle) ∙ ap (λ (bs : List ℕ). codes "Loop" ++ bs) (nodes-text cycle))

-- a space, what is counted, a space and the number
abbrev pub count_text : List ℕ → ℕ → List ℕ
count_text what n = 32 ∷ (what ++ 32 ∷ decimal n)

five-behind : (p a b c d e : List ℕ) → ((((p ++ a) ++ b) ++ c) ++ d) ++ e ≡ p ++ (a ++ (b ++ (c ++ (d ++ e))))
five-behind p a b c d e = simp append_assoc

-- the line of an accepted board, number by number
pub accepted-text : (empty a b c d e f g : List ℕ) (chips nets units registers rank : ℕ) → empty ≡ [] → a ≡ empty ++ codes "accepted" → b ≡ a ++ count_text (codes "chips") chips →
    c ≡ b ++ count_text (codes "nets") nets → d ≡ c ++ count_text (codes "units") units → e ≡ d ++ count_text (codes "registers") registers → f ≡ e ++ count_text (codes "rank") rank →
    g ≡ f ++ 10 ∷ [] → g ≡ accepted_line chips nets units registers rank
accepted-text empty a b c d e f g chips nets units registers rank p0 p1 p2 p3 p4 p5 p6 p7 =
    let q1 : a ≡ codes "accepted" = p1 ∙ ap (λ (t : List ℕ). t ++ codes "accepted") p0 in
    let q2 = p2 ∙ ap (λ (t : List ℕ). t ++ count_text (codes "chips") chips) q1 in
    let q3 = p3 ∙ ap (λ (t : List ℕ). t ++ count_text (codes "nets") nets) q2 in
    let q4 = p4 ∙ ap (λ (t : List ℕ). t ++ count_text (codes "units") units) q3 in
    let q5 = p5 ∙ ap (λ (t : List ℕ). t ++ count_text (codes "registers") registers) q4 in
    let q6 = p6 ∙ ap (λ (t : List ℕ). t ++ count_text (codes "rank") rank) q5 in
    p7 ∙ ap (λ (t : List ℕ). t ++ 10 ∷ []) (q6 ∙ five-behind (codes "accepted") (count_text (codes "chips") chips) (count_text (codes "nets") nets) (count_text (codes "units") units) (count_text (codes "registers") registers) (count_text (codes "rank") rank))
