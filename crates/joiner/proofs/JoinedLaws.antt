-- A joined part, put together.
use Rattle.std.proofs.Common.{arith, filter, IfErr, IsErrAnd, Result, Ok, Err, ◌≡◌, ◌≤◌, ℕ, Bool, true, false, refl, sym, ◌∙◌, ap, subst, List, length, Option, None, Some, IfSome}
use Rattle.bdd.specs.Tree.{Point}
use Rattle.bdd.specs.Diagram.{Diagram, function_of, Keeps}
use Rattle.bdd.specs.declared.Ref.{Ref}
use Rattle.mig_base.specs.First.{made_from}
use Rattle.mig_base.specs.declared.circuit.Read.{Read}
use Rattle.mig_base.specs.declared.nets.Var.{Var}
use Rattle.mig_base.specs.declared.nets.VarProduct.{VarProduct}
use Rattle.mig_base.specs.declared.plans.Part.TheVariants.{Logic}
use Rattle.rails.specs.Variables.{all_rails}
use Rattle.rails.specs.Levels.{point_under, level_between}
use Rattle.ranks.specs.Order.{IsOrder}
use Rattle.structure.specs.Absorbable.{IsAbsorbable}
use Rattle.board.specs.Joined.{Joined, equations_of}
use Rattle.joiner.specs.declared.marks.Marks.{Marks}
use Rattle.joiner.specs.AbsorbedNets.{AreAbsorbable, IsAbsorbedTable}
use Rattle.joiner.specs.Joined.{Inverted, Reading, IsCone, ReadsAbsorbed, unit_part, inverted_read}
use Rattle.joiner.specs.JoinedLevels.{inverted_level}
use Rattle.joiner.specs.JoinedPart.{ReadsVariables, IsJoinedPart, HasJoinedValue, IsJoinRefusal, IsTooMany}
use Rattle.joiner.specs.declared.JoinError.{JoinError}
use Rattle.joiner.specs.declared.JoinError.TheVariants.{ConeWide, Memory}
use Rattle.joiner.specs.Marked.{AreNameMarks, AreNeededNets, ArePaired, all_vars, is_named, marked, needed_at, unit_at}
use Rattle.joiner.specs.Pairs.{NamesAbsorbable, AreProper, ReadsEither, ReadsNets, ReadPairs, IsWithin, HasPairs, terms_known}
use Rattle.joiner.specs.declared.pairs.Pair.{Pair}
use Rattle.joiner.proofs.AbsorbedLaws.{nets-needed}
use Rattle.joiner.proofs.ConeLaws.{marks-cone}
use Rattle.joiner.proofs.LevelLaws.{read_under, levels_read, inverted_under, inverted_driven, between_under, holds_under}
use Rattle.joiner.proofs.Existence.{reading_exists}
use Rattle.joiner.proofs.JoiningLaws.{among_listed, name_among, readings_either, pairs_read_kept, all_known}

pub nets_read : (b : Joined) (absorbed : List ℕ) (m : Marks) (nets : List (Option ℕ)) (r : Reading) → AreNeededNets b absorbed m nets → ReadsAbsorbed b absorbed r → ReadsNets b nets r
nets_read b absorbed m nets r are h = λ n u e side. h.each n u (are.sound n u e) side

pub names_absorbable : (b : Joined) (absorbed : List ℕ) (m : Marks) (nets : List (Option ℕ)) → AreNeededNets b absorbed m nets → AreAbsorbable b absorbed → NamesAbsorbable (equations_of b) nets
names_absorbable b absorbed m nets are may n = by (unit_at nets n) refl
  where
    by : (o : Option ℕ) → unit_at nets n ≡ o → IfSome o (IsAbsorbable (equations_of b))
    by None e = tt
    by (Some u) e = may u (are.sound n u e).listed

-- the cone lists all that the products name
pub within_cone : (b : Joined) (absorbed : List ℕ) (terms : List VarProduct) (vars : List (Var × Bool)) → IsCone b absorbed terms vars → IsWithin b absorbed vars terms
within_cone b absorbed terms vars cone = λ v names. among_listed vars v ((cone.exact v).1 names)

-- what the steps of `joined_with` made, with the names that they have there
pub record AreSteps (b : Joined) (absorbed : List ℕ) (nets needed : List (Option ℕ)) (marks : Marks) (terms : List VarProduct) (vars : List (Var × Bool)) : Type 0 where
  pub table : IsAbsorbedTable b absorbed nets
  pub marked_terms : AreNameMarks b absorbed terms marks
  pub few_nets : AreNeededNets b absorbed marks needed
  pub cone : IsCone b absorbed terms vars

pub steps_made : (b : Joined) (absorbed : List ℕ) (nets needed : List (Option ℕ)) (marks : Marks) (terms : List VarProduct) (vars : List (Var × Bool))
    → IsAbsorbedTable b absorbed nets → AreNameMarks b absorbed terms marks → needed ≡ made_from (needed_at nets marks) 0 (length (equations_of b).nets)
    → ArePaired b (filter (is_named nets marks) (all_vars b)) vars → AreSteps b absorbed nets needed marks terms vars
steps_made b absorbed nets needed marks terms vars table names made paired = record {
  table = table;
  marked_terms = names;
  few_nets = nets-needed b absorbed marks nets needed table.are made;
  cone = marks-cone b absorbed nets terms marks vars table.are names paired;
}

-- the cone of these marks
pub cone_of_marks : (b : Joined) (absorbed : List ℕ) (nets : List (Option ℕ)) (marks : Marks) (terms ts : List VarProduct) (vars : List (Var × Bool)) → terms ≡ ts
    → IsAbsorbedTable b absorbed nets → AreNameMarks b absorbed terms marks → ArePaired b (filter (is_named nets marks) (all_vars b)) vars → IsCone b absorbed ts vars
cone_of_marks b absorbed nets marks terms ts vars e table names paired =
    subst (λ (xs : List VarProduct). IsCone b absorbed xs vars) e (marks-cone b absorbed nets terms marks vars table.are names paired)

-- a cone that is too wide
pub refused_wide : {T : Type 0} (r : Result T JoinError) (e : JoinError) (b : Joined) (nets : List (Option ℕ)) (sum : Inverted) (vars : List (Var × Bool)) (count : ℕ)
    → IsErrAnd r (λ x. x ≡ e) → count ≡ length vars → ((absorbed : List ℕ) → IsAbsorbedTable b absorbed nets → IsCone b absorbed sum.terms vars) → IsTooMany count e
    → IfErr r (λ x. (absorbed : List ℕ) → IsAbsorbedTable b absorbed nets → IsJoinRefusal b absorbed sum x)
refused_wide (Ok x) e b nets sum vars count h long cone many = tt
refused_wide (Err (ConeWide n)) (ConeWide k) b nets sum vars count h long cone many =
    let same : n ≡ k = same_count n k h in
    λ absorbed table. record { variables = vars; cone = cone absorbed table; many = omega (arith, many.1, long); number = same ∙ many.0 ∙ long }
  where
    same_count : (n k : ℕ) → ConeWide n ≡ ConeWide k → n ≡ k
    same_count n k e = cc
refused_wide (Err (ConeWide n)) Memory b nets sum vars count h long cone many = cc
refused_wide (Err Memory) e b nets sum vars count h long cone many = λ absorbed table. tt

-- so all that stands in the products is known
pub cone_known : (b : Joined) (absorbed : List ℕ) (nets needed : List (Option ℕ)) (marks : Marks) (terms : List VarProduct) (vars : List (Var × Bool)) (pairs : List (Option Pair))
    → AreSteps b absorbed nets needed marks terms vars → HasPairs b absorbed marks vars pairs → terms_known vars pairs terms ≡ true
cone_known b absorbed nets needed marks terms vars pairs steps has =
    all_known b absorbed marks needed vars pairs steps.few_nets terms steps.marked_terms.here (within_cone b absorbed terms vars steps.cone)
    (λ x m w s e a within. has m w (subst (λ (v : Var). marked marks v ≡ true) e (steps.marked_terms.here x s)) a within)

pub joined_part : (b : Joined) (absorbed : List ℕ) (nets needed : List (Option ℕ)) (marks : Marks) (order : List Read) (sum : Inverted) (vars : List (Var × Bool)) (d e : Diagram) (pairs : List (Option Pair)) (f : Ref)
    → AreSteps b absorbed nets needed marks sum.terms vars → IsOrder (equations_of b) order → length vars ≤ 32
    → Keeps d e → AreProper vars d pairs → ReadPairs b needed vars d pairs → ReadsEither vars e pairs (λ r. inverted_read r true sum) f
    → IsJoinedPart b absorbed sum vars (function_of e f)
joined_part b absorbed nets needed marks order sum vars d e pairs f steps is few k proper right reads = record {
  cone = steps.cone;
  few = few;
  some = reading_exists b absorbed nets sum.terms vars order steps.table.may steps.table.are is steps.cone;
  means = λ p r v h. reads.means p r (readings_either b needed vars e pairs (pairs_read_kept b needed vars d e pairs k proper right) p r v (nets_read b absorbed marks needed r steps.few_nets h));
  monotone = reads.proper.monotone;
}

-- the same where variables, pairs and products have other names
pub known_terms : (b : Joined) (absorbed : List ℕ) (nets needed : List (Option ℕ)) (marks : Marks) (terms : List VarProduct) (cone vars ws : List (Var × Bool)) (pairs ps : List (Option Pair))
    → AreSteps b absorbed nets needed marks terms cone → vars ≡ cone → ws ≡ vars → ps ≡ pairs → HasPairs b absorbed marks vars pairs → terms_known ws ps terms ≡ true
known_terms b absorbed nets needed marks terms cone vars ws pairs ps steps e f g has =
    (λ i. terms_known ((f ∙ e) i) (g i) terms) ∙ cone_known b absorbed nets needed marks terms cone pairs steps (subst (λ vs. HasPairs b absorbed marks vs pairs) e has)

pub joined_all : (b : Joined) (absorbed : List ℕ) (nets needed ns : List (Option ℕ)) (marks : Marks) (order : List Read) (sum made : Inverted) (cone vars ws us : List (Var × Bool)) (d e : Diagram) (pairs ps : List (Option Pair)) (f : Ref)
    → AreSteps b absorbed nets needed marks sum.terms cone → IsOrder (equations_of b) order → length cone ≤ 32
    → vars ≡ cone → ws ≡ vars → us ≡ ws → ns ≡ needed → ps ≡ pairs → made ≡ sum
    → Keeps d e → AreProper vars d pairs → ReadPairs b ns vars d pairs → ReadsEither ws e ps (λ r. inverted_read r true made) f
    → IsJoinedPart b absorbed sum us (function_of e f)
joined_all b absorbed nets needed ns marks order sum made cone vars ws us d e pairs ps f steps is few ev ew eu en ep em k proper right reads =
    subst (λ vs. IsJoinedPart b absorbed sum vs (function_of e f)) (sym (eu ∙ ew ∙ ev))
    (joined_part b absorbed nets needed marks order sum cone d e pairs f steps is few k
    (subst (λ vs. AreProper vs d pairs) ev proper)
    (subst (λ vs. ReadPairs b needed vs d pairs) ev (subst (λ xs. ReadPairs b xs vars d pairs) en right))
    (subst (λ vs. ReadsEither vs e pairs (λ r. inverted_read r true sum) f) (ew ∙ ev)
    (subst (λ qs. ReadsEither ws e qs (λ r. inverted_read r true sum) f) ep
    (subst (λ (s : Inverted). ReadsEither ws e ps (λ r. inverted_read r true s) f) em reads))))

-- what is read of levels, with unknowns false and true, gives the level
pub joined_value : (b : Joined) (absorbed : List ℕ) (sum : Inverted) (vars : List (Var × Bool)) (f : Point → Bool) → IsJoinedPart b absorbed sum vars f → HasJoinedValue b absorbed sum vars f
joined_value b absorbed sum vars f part levels l lawful has nets =
    (λ i. level_between (at false i) (at true i)) ∙ between_under (inverted_level l sum) (inverted_driven l sum)
  where
    variables : (u : Bool) → ReadsVariables vars (point_under u (all_rails vars) levels) (levels_read u l)
    variables u = record {
      each = λ w a side. ap (read_under u side) (has.each w a) ∙ sym (holds_under vars levels lawful u (record { var = w.0; high = side }) (among_listed vars w.0 (name_among w vars a)));
    }

    absorbs : (u : Bool) → ReadsAbsorbed b absorbed (levels_read u l)
    absorbs u = record { each = λ n w a side. ap (read_under u side) (nets.each n w a) ∙ sym (inverted_under u l side (unit_part b w Logic)) }

    at : (u : Bool) → f (point_under u (all_rails vars) levels) ≡ read_under u true (inverted_level l sum)
    at u = part.means (point_under u (all_rails vars) levels) (levels_read u l) (variables u) (absorbs u) ∙ inverted_under u l true sum
