-- The triples of a board at the point of a state and lawful inputs.
use Rattle.std.proofs.Common.{ℕ, zero, suc, ◌≡◌, ◌+◌, ◌≤◌, Bool, false, List, ◌++◌, [], ◌∷◌, refl, take, drop, map, length, sym, ap, ◌∙◌, subst, arith}
use Rattle.std.specs.Prelude.{slice_get, IfSome}
use Rattle.std.proofs.lemmas.List.{length-append}
use Rattle.bdd.specs.Tree.{Point}
use Rattle.bdd.specs.Diagram.{Diagram}
use Rattle.mig_base.specs.declared.nets.Var.{Var}
use Rattle.mig_base.specs.Levels.{read_level}
use Rattle.rails.specs.Variables.{all_rails}
use Rattle.rails.specs.Levels.{AreLevels, point_under}
use Rattle.board.specs.Joined.{Joined, equations_of}
use Rattle.board.specs.UnitLists.{register_units}
use Rattle.reckoning.specs.declared.triples.Three.{Three}
use Rattle.reckoning.specs.declared.triples.Triples.{Triples}
use Rattle.reckoning.specs.Triples.{AreTriples, IsTriple}
use Rattle.reckoning.specs.Whole.{AreSettled, SayAll}
use Rattle.joiner.proofs.Listing.{Rises}
use Rattle.reckoned.specs.Variables.{AllFit, AreRegisters, AreVariables, port_variables}
use Rattle.reckoned.specs.VariableTriples.{AreTriplesOf}
use Rattle.reckoned.specs.Reckoned.{SaySettled}
use Rattle.reckoned.proofs.PortLaws.{inputs-fit}
use Rattle.reckoned.proofs.RegisterLaws.{all-rise, name, stored-fit}
use Rattle.reckoned.proofs.LevelLists.{LevelsAre, fit-both, levels-are, levels-fit, levels-left, levels-right, point-read}
use Rattle.reckoned.proofs.TripleLaws.{each-says, of-left, of-right, of-valid}

pub triples-count : (d : Diagram) (vars vs : List (Var × Bool)) (ts : List Three) → AreTriplesOf d vars vs ts → length ts ≡ length vs
triples-count d vars [] [] are = refl
triples-count d vars [] (t ∷ ts) are = absurd are
triples-count d vars (v ∷ vs) [] are = absurd are
triples-count d vars (v ∷ vs) (t ∷ ts) are = ap suc (triples-count d vars vs ts are.1)

-- there are triples for all ports
pub handed-within : (d : Diagram) (vars ports registers : List (Var × Bool)) (ts : List Three) (n : ℕ) → n ≡ length ports → vars ≡ ports ++ registers → AreTriplesOf d vars vars ts → n ≤ length ts
handed-within d vars ports registers ts n e f are =
    let all : length ts ≡ length vars = triples-count d vars vars ts are in
    let long : length vars ≡ length ports + length registers = ap length f ∙ length-append ports registers in
    omega (arith, e)

settled-says : (b : Joined) (d e : Diagram) (rs : List (Var × Bool)) (ts : List Three) (r : Triples) → AreRegisters b (register_units b.chips) rs →
    Rises (map name (port_variables 0 (equations_of b).nets ++ rs)) →
    AreTriplesOf d (port_variables 0 (equations_of b).nets ++ rs) (port_variables 0 (equations_of b).nets ++ rs) ts →
    AreSettled d e (equations_of b) (drop (length (port_variables 0 (equations_of b).nets)) ts) (take (length (port_variables 0 (equations_of b).nets)) ts) r →
    SaySettled b (port_variables 0 (equations_of b).nets ++ rs) e r
settled-says b d e rs ts r registers rise are made = λ stored inputs l state pure input settled.
    let ports = port_variables 0 (equations_of b).nets in
    let vars = ports ++ rs in
    let levels = map read_level (inputs ++ stored) in
    let p = point_under false (all_rails vars) levels in
    let fit_ports : AllFit ports inputs = inputs-fit b.net b.chips inputs input.lawful input.lengths in
    let fit_registers : AllFit rs stored = stored-fit b rs stored registers state pure in
    let fit : AllFit vars (inputs ++ stored) = fit-both ports rs inputs stored fit_ports fit_registers in
    let all : AreLevels vars levels = levels-fit vars (inputs ++ stored) fit in
    let is : LevelsAre vars levels vars (inputs ++ stored) = levels-are vars (inputs ++ stored) rise fit in
    subst (λ (q : Point). SayAll e (equations_of b) r q l) (point-read (all_rails vars) (inputs ++ stored))
    (made.says p l (record {
      levels = stored;
      inputs = inputs;
      count = state.lengths;
      stored_say = λ k. each-says d vars levels rs stored (drop (length ports) ts) all (of-right d vars ports rs ts are) fit_registers (levels-right vars levels ports rs inputs stored fit_ports is) k;
      handed_say = λ j. each-says d vars levels ports inputs (take (length ports) ts) all (of-left d vars ports rs ts are) fit_ports (levels-left vars levels ports rs inputs stored fit_ports is) j;
      settled = settled;
    }))

-- the graph that is lent is the one that the triples were made in
pub valid-back : (d lent : Diagram) (vars : List (Var × Bool)) (ts back : List Three) (n : ℕ) → lent ≡ d → back ≡ drop n ts → AreTriplesOf d vars vars ts → AreTriples lent back
valid-back d lent vars ts back n loan e are =
    subst (λ (g : Diagram). AreTriples g back) (sym loan) (subst (AreTriples d) (sym e) (λ k. some-back n k ts (of-valid d vars vars ts are)))
  where
    some-back : (m k : ℕ) (us : List Three) → AreTriples d us → IfSome (slice_get (drop m us) k) (IsTriple d)
    some-back zero k us h = h k
    some-back (suc m) k [] h = tt
    some-back (suc m) k (u ∷ us) h = some-back m k us (λ j. h (suc j))

pub valid-front : (d lent : Diagram) (vars : List (Var × Bool)) (ts front : List Three) (n : ℕ) → lent ≡ d → front ≡ take n ts → AreTriplesOf d vars vars ts → AreTriples lent front
valid-front d lent vars ts front n loan e are =
    subst (λ (g : Diagram). AreTriples g front) (sym loan) (subst (AreTriples d) (sym e) (λ k. some-front n k ts (of-valid d vars vars ts are)))
  where
    some-front : (m k : ℕ) (us : List Three) → AreTriples d us → IfSome (slice_get (take m us) k) (IsTriple d)
    some-front zero k us h = tt
    some-front (suc m) k [] h = tt
    some-front (suc m) zero (u ∷ us) h = h zero
    some-front (suc m) (suc k) (u ∷ us) h = some-front m k us (λ j. h (suc j))

pub board-says : (b : Joined) (d lent e : Diagram) (vars : List (Var × Bool)) (ts : List Three) (n : ℕ) (r : Triples) → AreVariables b vars → n ≡ length (port_variables 0 (equations_of b).nets) →
    lent ≡ d → AreTriplesOf d vars vars ts → AreSettled lent e (equations_of b) (drop n ts) (take n ts) r → SaySettled b vars e r
board-says b d lent e vars ts n r x count loan are made =
    let ports = port_variables 0 (equations_of b).nets in
    subst (λ (vs : List (Var × Bool)). SaySettled b vs e r) (sym x.added)
    (settled-says b d e x.registers ts r x.each (subst (λ (vs : List (Var × Bool)). Rises (map name vs)) x.added (all-rise b ports vars refl x))
    (subst (λ (vs : List (Var × Bool)). AreTriplesOf d vs vs ts) x.added are)
    (subst (λ (m : ℕ). AreSettled d e (equations_of b) (drop m ts) (take m ts) r) count
    (subst (λ (g : Diagram). AreSettled g e (equations_of b) (drop n ts) (take n ts) r) loan made)))
