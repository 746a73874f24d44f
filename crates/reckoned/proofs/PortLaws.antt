-- The variables of the ports: their order, how many there are, and that lawful inputs fit them.
use Rattle.std.proofs.Common.{ℕ, suc, ◌≡◌, ◌+◌, ◌≤◌, Bool, cond, List, [], ◌∷◌, ◌++◌, map, filter, length, refl, sym, ap, ◌∙◌, subst, arith}
use Rattle.std.specs.List.{AllByRecursion}
use Rattle.std.proofs.lemmas.List.{append_assoc, append-nil, get_or-append-add, length-append}
use Rattle.mig_base.specs.declared.levels.Level.{Level}
use Rattle.mig_base.specs.declared.levels.Level.TheVariants.{X}
use Rattle.mig_base.specs.declared.nets.Var.{Var}
use Rattle.mig_base.specs.declared.nets.Net.{Net as Wiring}
use Rattle.mig_base.specs.declared.nets.NetLine.{NetLine}
use Rattle.mig_base.specs.declared.nets.Port.{Port}
use Rattle.mig_base.specs.declared.nets.Port.TheVariants as port
use Rattle.mig_base.specs.declared.nets.Pull.{Pull}
use Rattle.mig_base.specs.declared.nets.Pull.TheVariants.{Free}
use Rattle.mig_base.specs.declared.circuit.NetKind.{NetKind}
use Rattle.mig_base.specs.declared.circuit.NetKind.TheVariants.{Ground, Power, Handed, Shared, Inner}
use Rattle.mig_base.specs.declared.circuit.Wire.{Wire}
use Rattle.mig_base.specs.Boards.{At, ChipUnit, circuit, is_handed as is_handed_port, kind_at, kinds_from, privates, units_from, wires_from}
use Rattle.mig_base.specs.Levels.{level_at}
use Rattle.mig_base.specs.declared.cells.ChipCells.{ChipCells}
use Rattle.level_laws.specs.SameBehaviour.{IsBit, IsHandable, IsLawfulAt}
use Rattle.settle.specs.Configs.{is_handed}
use Rattle.reckoned.specs.Variables.{AllFit, port_variable, port_variables}

pub ports-push : (n : ℕ) (ws : List Wire) (w : Wire) → port_variables n (ws ++ w ∷ []) ≡ port_variables n ws ++ port_variable (n + length ws) w.kind
ports-push n [] w = append-nil (port_variable n w.kind) ∙ ap (λ (m : ℕ). port_variable m w.kind) (let e : n ≡ n + 0 = omega arith in e)
ports-push n (v ∷ ws) w =
    ap (λ (vs : List (Var × Bool)). port_variable n v.kind ++ vs) (ports-push (n + 1) ws w)
    ∙ sym (append_assoc (port_variable n v.kind) (port_variables (n + 1) ws) (port_variable (n + 1 + length ws) w.kind))
    ∙ ap (λ (m : ℕ). (port_variable n v.kind ++ port_variables (n + 1) ws) ++ port_variable m w.kind) (let e : n + 1 + length ws ≡ n + suc (length ws) = omega arith in e)

-- handed levels are numbered from a place on
abbrev NumberedAt : ℕ → NetKind → Type 0 → Type 0 → Type 0
NumberedAt j (Handed k) same next = (k ≡ j) × next
NumberedAt j (Shared k) same next = (k ≡ j) × next
NumberedAt j Ground same next = same
NumberedAt j Power same next = same
NumberedAt j Inner same next = same

abbrev Numbered : ℕ → List Wire → Type 0
Numbered j [] = Unit {0}
Numbered j (w ∷ ws) = NumberedAt j w.kind (Numbered j ws) (Numbered (j + 1) ws)

abbrev private_kind : At → NetKind × Pull
private_kind q = (Inner, Free)

private-numbered : (net : Wiring) (units : List ChipUnit) (n j : ℕ) (qs : List At) → Numbered j (wires_from net units n (map private_kind qs))
private-numbered net units n j [] = tt
private-numbered net units n j (q ∷ qs) = private-numbered net units (n + 1) j qs

lines-numbered : (net : Wiring) (units : List ChipUnit) (n j : ℕ) (ls : List NetLine) (qs : List At) → Numbered j (wires_from net units n (kinds_from j ls ++ map private_kind qs))
lines-numbered net units n j [] qs = private-numbered net units n j qs
lines-numbered net units n j (l ∷ ls) qs = at l.port (lines-numbered net units (n + 1) j ls qs) (lines-numbered net units (n + 1) (j + 1) ls qs)
  where
    at : (dir : Port) → Numbered j (wires_from net units (n + 1) (kinds_from j ls ++ map private_kind qs)) → Numbered (j + 1) (wires_from net units (n + 1) (kinds_from (j + 1) ls ++ map private_kind qs)) →
        NumberedAt j (kind_at j dir) (Numbered j (wires_from net units (n + 1) (kinds_from (cond (is_handed_port dir) (j + 1) j) ls ++ map private_kind qs)))
        (Numbered (j + 1) (wires_from net units (n + 1) (kinds_from (cond (is_handed_port dir) (j + 1) j) ls ++ map private_kind qs)))
    at port.Inner same next = same
    at port.Output same next = same
    at port.Input same next = (refl, next)
    at port.Both same next = (refl, next)

nets-numbered : (net : Wiring) (chips : List ChipCells) → Numbered 0 (circuit net chips).nets
nets-numbered net chips = lines-numbered net (units_from 0 chips) 2 0 net.nets (privates net)

abbrev takes_level : Wire → Bool
takes_level w = is_handed w.kind

-- as many as there are handed levels
pub ports-count : (n : ℕ) (ws : List Wire) → length (port_variables n ws) ≡ length (filter takes_level ws)
ports-count n [] = refl
ports-count n (w ∷ ws) = at w.kind (ports-count (n + 1) ws)
  where
    at : (k : NetKind) → length (port_variables (n + 1) ws) ≡ length (filter takes_level ws) →
        length (port_variable n k ++ port_variables (n + 1) ws) ≡ length (cond (is_handed k) (w ∷ filter takes_level ws) (filter takes_level ws))
    at Ground e = e
    at Power e = e
    at Inner e = e
    at (Handed j) e = ap suc e
    at (Shared j) e = ap suc e

private-none : (net : Wiring) (units : List ChipUnit) (n : ℕ) (qs : List At) → length (filter takes_level (wires_from net units n (map private_kind qs))) ≡ 0
private-none net units n [] = refl
private-none net units n (q ∷ qs) = private-none net units (n + 1) qs

lines-few : (net : Wiring) (units : List ChipUnit) (n j : ℕ) (ls : List NetLine) (qs : List At) → length (filter takes_level (wires_from net units n (kinds_from j ls ++ map private_kind qs))) ≤ length ls
lines-few net units n j [] qs = let e = private-none net units n qs in omega arith
lines-few net units n j (l ∷ ls) qs = at l.port (lines-few net units (n + 1) j ls qs) (lines-few net units (n + 1) (j + 1) ls qs)
  where
    at : (dir : Port) → length (filter takes_level (wires_from net units (n + 1) (kinds_from j ls ++ map private_kind qs))) ≤ length ls →
        length (filter takes_level (wires_from net units (n + 1) (kinds_from (j + 1) ls ++ map private_kind qs))) ≤ length ls →
        length (filter takes_level (wires_from net units n ((kind_at j dir, l.pull) ∷ kinds_from (cond (is_handed_port dir) (j + 1) j) ls ++ map private_kind qs))) ≤ suc (length ls)
    at port.Inner same next = omega arith
    at port.Output same next = omega arith
    at port.Input same next = omega arith
    at port.Both same next = omega arith

-- no more than there are named nets
pub ports-few : (net : Wiring) (chips : List ChipCells) → length (port_variables 0 (circuit net chips).nets) ≤ length net.nets
ports-few net chips = let few = lines-few net (units_from 0 chips) 2 0 net.nets (privates net) in omega (arith, ports-count 0 (circuit net chips).nets)

here : (before : List Level) (x : Level) (rest : List Level) → level_at (before ++ x ∷ rest) (length before) ≡ x
here before x rest =
    ap (λ (n : ℕ). level_at (before ++ x ∷ rest) n) (let e : length before ≡ length before + 0 = omega arith in e) ∙ get_or-append-add before (x ∷ rest) 0 X

abbrev LawfulWire : List Level → Wire → Type 0
LawfulWire inputs w = IsLawfulAt inputs w.kind

ports-step : (n : ℕ) (w : Wire) (ws : List Wire) (before rest : List Level) (k : NetKind) → NumberedAt (length before) k (Numbered (length before) ws) (Numbered (length before + 1) ws) →
    IsLawfulAt (before ++ rest) k → AllByRecursion (LawfulWire (before ++ rest)) ws → length rest ≡ length (cond (is_handed k) (w ∷ filter takes_level ws) (filter takes_level ws)) →
    (Numbered (length before) ws → length rest ≡ length (filter takes_level ws) → AllFit (port_variables (n + 1) ws) rest) →
    ((x : Level) (r : List Level) → Numbered (length before + 1) ws → AllByRecursion (LawfulWire (before ++ x ∷ r)) ws → length r ≡ length (filter takes_level ws) →
    AllFit (port_variables (n + 1) ws) r) → AllFit (port_variable n k ++ port_variables (n + 1) ws) rest
ports-step n w ws before rest Ground num lawful all long same next = same num long
ports-step n w ws before rest Power num lawful all long same next = same num long
ports-step n w ws before rest Inner num lawful all long same next = same num long
ports-step n w ws before [] (Handed j) num lawful all long same next = absurd (omega arith)
ports-step n w ws before [] (Shared j) num lawful all long same next = absurd (omega arith)
ports-step n w ws before (x ∷ r) (Handed j) num lawful all long same next =
    (subst IsBit (ap (level_at (before ++ x ∷ r)) num.0 ∙ here before x r) lawful, next x r num.1 all (omega arith))
ports-step n w ws before (x ∷ r) (Shared j) num lawful all long same next =
    (subst IsHandable (ap (level_at (before ++ x ∷ r)) num.0 ∙ here before x r) lawful, next x r num.1 all (omega arith))

ports-fit : (n : ℕ) (ws : List Wire) (before rest : List Level) → Numbered (length before) ws → AllByRecursion (LawfulWire (before ++ rest)) ws → length rest ≡ length (filter takes_level ws) →
    AllFit (port_variables n ws) rest
ports-fit n [] before [] num all long = tt
ports-fit n [] before (x ∷ rest) num all long = absurd (omega arith)
ports-fit n (w ∷ ws) before rest num all long = ports-step n w ws before rest w.kind num all.0 all.1 long
    (λ num_more long_more. ports-fit (n + 1) ws before rest num_more all.1 long_more)
    (λ x r num_more all_more long_more. ports-fit (n + 1) ws (before ++ x ∷ []) r
    (subst (λ (m : ℕ). Numbered m ws) (sym (length-append before (x ∷ []))) num_more)
    (subst (λ (ins : List Level). AllByRecursion (LawfulWire ins) ws) (sym (append_assoc before (x ∷ []) r)) all_more) long_more)

-- lawful inputs fit the variables of the ports
pub inputs-fit : (net : Wiring) (chips : List ChipCells) (inputs : List Level) → AllByRecursion (LawfulWire inputs) (circuit net chips).nets →
    length inputs ≡ length (filter takes_level (circuit net chips).nets) → AllFit (port_variables 0 (circuit net chips).nets) inputs
inputs-fit net chips inputs lawful long = ports-fit 0 (circuit net chips).nets [] inputs (nets-numbered net chips) lawful long
