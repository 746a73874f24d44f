-- Registers are parted exactly where they are not alike at some agreeing pair.
use Rattle.std.proofs.Common.{ℕ, ◌≡◌, ◌⊎◌, ◌<◌, ◌≤◌, ◌+◌, ◌-◌, Bool, List, ◌++◌, length, Option, Some, None, refl, sym, ap, ◌∙◌, subst, arith, inl, inr}
use Rattle.std.specs.Prelude.{if◌then◌else◌}
use Rattle.std.proofs.lemmas.Bool.{cases_lt, lt-ltb, le-ltb}
use Rattle.std.proofs.lemmas.List.{get_or_append_left, get_or-append-add}
use Rattle.mig_base.specs.declared.levels.Level.{Level}
use Rattle.mig_base.specs.declared.levels.Level.TheVariants.{X}
use Rattle.mig_base.specs.declared.circuit.Levels.{Levels}
use Rattle.mig_base.specs.Levels.{level_at}
use Rattle.level_laws.specs.Runs.{IsStep, next_stored}
use Rattle.level_laws.specs.SameBehaviour.{Handing}
use Rattle.board.specs.Joined.{Joined, equations_of}
use Rattle.matchings.specs.Pairs.{Agrees, AreTogether, IsLawfulFor, handed, last_handed, registers_of_both}
use Rattle.matchings.specs.Rounds.{IsParted}
use Rattle.matchings.specs.Edges.{raised, stores}
use Rattle.matchings.specs.Views.{AlwaysAlike, view_of, view_of_both}
use Rattle.matchings.proofs.States.{next-length, settled-length}
use Rattle.matchings.proofs.EdgeLaws.{alike-stores, stores-alike}
use Rattle.matchings.proofs.ViewLaws.{raised-lawful, view-stores}
use Rattle.matchings.proofs.MatchingLaws.{both-length, level-stable}

abbrev after : Joined → Levels → Handing → Handing → List Level
after b l before now = next_stored (equations_of b) l (handed b before) (handed b now) (equations_of b).registers l.visible

-- what register i of both boards stores after a step
both-store : (a b : Joined) (l m : Levels) (before now : Handing) (i : ℕ) → i < registers_of_both a b → length l.visible ≡ length (equations_of a).registers → length m.visible ≡ length (equations_of b).registers →
    level_at (after a l before now ++ after b m before now) i ≡ stores (view_of_both a b l m i) before now
both-store a b l m before now i within la lb = at (cases_lt i (length (equations_of a).registers))
  where
    long : length (after a l before now) ≡ length (equations_of a).registers
    long = next-length (equations_of a) l (handed a before) (handed a now) (equations_of a).registers l.visible la

    at : (i < length (equations_of a).registers) ⊎ (length (equations_of a).registers ≤ i) → level_at (after a l before now ++ after b m before now) i ≡ stores (view_of_both a b l m i) before now
    at (inl lt) =
        get_or_append_left (after a l before now) (after b m before now) X i (subst (λ (n : ℕ). i < n) (sym long) lt)
        ∙ view-stores a l before now i lt la
        ∙ sym (ap (λ (t : Bool). stores (if t then view_of a l i else view_of b m (i - length (equations_of a).registers)) before now) (lt-ltb i (length (equations_of a).registers) lt))
    at (inr le) =
        let k : ℕ = i - length (equations_of a).registers in
        let sum : i ≡ length (after a l before now) + k = omega (arith, le, long) in
        ap (level_at (after a l before now ++ after b m before now)) sum
        ∙ get_or-append-add (after a l before now) (after b m before now) k X
        ∙ view-stores b m before now k (omega (arith, le, within)) lb
        ∙ sym (ap (λ (t : Bool). stores (if t then view_of a l i else view_of b m (i - length (equations_of a).registers)) before now) (le-ltb i (length (equations_of a).registers) le))

pub alike-not-parted : (a b : Joined) (classes : List ℕ) (i j : ℕ) → i < registers_of_both a b → j < registers_of_both a b → AreTogether classes i j → AlwaysAlike a b classes i j → IsParted a b classes i j → ⊥
alike-not-parted a b classes i j li lj together alike p = at p.last p.agrees p.step.left_step p.step.right_step
  where
    at : (last : Option Handing) → Agrees a b classes p.left p.right last → IsStep (equations_of a) p.left (last_handed a last) (handed a p.handing) p.next_left →
        IsStep (equations_of b) p.right (last_handed b last) (handed b p.handing) p.next_right → ⊥
    at None agrees sa sb =
        let count : length (p.left ++ p.right) ≡ registers_of_both a b = both-length a b classes p.left p.right None agrees in
        let same : p.next_left ++ p.next_right ≡ p.left ++ p.right = (λ t. sa t ++ sb t) in
        p.parted (ap (λ (ls : List Level). level_at ls i) same
        ∙ agrees.equal i j (subst (λ (n : ℕ). i < n) (sym count) li) (subst (λ (n : ℕ). j < n) (sym count) lj) together
        ∙ sym (ap (λ (ls : List Level). level_at ls j) same))
    at (Some before) agrees sa sb =
        let la = settled-length (equations_of a) p.left (handed a before) sa.0 agrees.left_state sa.1 in
        let lb = settled-length (equations_of b) p.right (handed b before) sb.0 agrees.right_state sb.1 in
        let same : p.next_left ++ p.next_right ≡ after a sa.0 before p.handing ++ after b sb.0 before p.handing = (λ t. sa.2 t ++ sb.2 t) in
        p.parted (ap (λ (ls : List Level). level_at ls i) same ∙ both-store a b sa.0 sb.0 before p.handing i li la lb
        ∙ alike-stores before p.handing (view_of_both a b sa.0 sb.0 i) (view_of_both a b sa.0 sb.0 j) (alike p.left p.right before sa.0 sb.0 agrees sa.1 sb.1)
        ∙ sym (ap (λ (ls : List Level). level_at ls j) same ∙ both-store a b sa.0 sb.0 before p.handing j lj la lb))

pub not-parted-alike : (a b : Joined) (classes : List ℕ) (i j : ℕ) → i < registers_of_both a b → j < registers_of_both a b → (IsParted a b classes i j → ⊥) → AlwaysAlike a b classes i j
not-parted-alike a b classes i j li lj never left right before l m agrees sl sm =
    stores-alike before (view_of_both a b l m i) (view_of_both a b l m j) (same before agrees.lawful)
    (λ name e. same (raised name before) (raised-lawful a name before agrees.lawful)) (λ name e. same (raised name before) (raised-lawful a name before agrees.lawful))
  where
    same : (now : Handing) → IsLawfulFor a now → stores (view_of_both a b l m i) before now ≡ stores (view_of_both a b l m j) before now
    same now lawful =
        let la = settled-length (equations_of a) left (handed a before) l agrees.left_state sl in
        let lb = settled-length (equations_of b) right (handed b before) m agrees.right_state sm in
        level-stable (stores (view_of_both a b l m i) before now) (stores (view_of_both a b l m j) before now)
        (λ apart. never (record {
          left = left;
          right = right;
          last = Some before;
          handing = now;
          next_left = after a l before now;
          next_right = after b m before now;
          agrees = agrees;
          step = record { lawful = lawful; left_step = (l, sl, refl); right_step = (m, sm, refl) };
          parted = λ e. apart (sym (both-store a b l m before now i li la lb) ∙ e ∙ both-store a b l m before now j lj la lb);
        }))
