-- What a register stores after a step, by its view; and inputs with one clock raised.
use Rattle.std.proofs.Common.{ℕ, zero, suc, ◌≡◌, ◌<◌, Bool, true, false, List, [], ◌∷◌, length, Option, Some, None, refl, sym, ap, ◌∙◌, arith}
use Rattle.std.specs.Prelude.{slice_get, if◌then◌else◌}
use Rattle.std.specs.Str.{bytes_eq}
use Rattle.std.specs.List.{AllByRecursion}
use Rattle.mig_base.specs.declared.levels.Level.{Level}
use Rattle.mig_base.specs.declared.levels.Level.TheVariants.{One}
use Rattle.mig_base.specs.declared.circuit.Register.{Register}
use Rattle.mig_base.specs.declared.circuit.Circuit.{Circuit}
use Rattle.mig_base.specs.declared.circuit.Levels.{Levels}
use Rattle.mig_base.specs.declared.nets.NetLine.{NetLine}
use Rattle.mig_base.specs.declared.nets.Port.{Port}
use Rattle.mig_base.specs.declared.nets.Port.TheVariants as port
use Rattle.mig_base.specs.Levels.{level_at, or_x}
use Rattle.level_laws.specs.Runs.{next_stored, rises, taken}
use Rattle.level_laws.specs.SameBehaviour.{Handing, IsBit, IsHandable}
use Rattle.board.specs.Joined.{Joined, equations_of}
use Rattle.matchings.specs.Pairs.{IsLawfulFor, handed}
use Rattle.matchings.specs.Edges.{raised, rises_by, stores}
use Rattle.matchings.specs.Views.{register_clock, view_of}
use Rattle.matchings.proofs.ClockLaws.{clock-rises}
use Rattle.matchings.proofs.LawfulBoth.{LawfulAs, LawfulLine, board-lines, lines-board}

same-register : (a b : Register) → Some a ≡ Some b → a ≡ b
same-register a b e = cc

next-at : (c : Circuit) (l : Levels) (before now : List Level) (rs : List Register) (qs : List Level) (k : ℕ) (r : Register) → slice_get rs k ≡ Some r → length qs ≡ length rs →
    level_at (next_stored c l before now rs qs) k ≡ (if rises c before now r.clock then taken l r else level_at qs k)
next-at c l before now [] qs k r e long = cc
next-at c l before now (p ∷ rs) [] k r e long = absurd (omega arith)
next-at c l before now (p ∷ rs) (q ∷ qs) zero r e long = ap (λ (s : Register). if rises c before now s.clock then taken l s else q) (same-register p r e)
next-at c l before now (p ∷ rs) (q ∷ qs) (suc k) r e long = next-at c l before now rs qs k r e (omega arith)

missing : (rs : List Register) (k : ℕ) → k < length rs → slice_get rs k ≡ None → ⊥
missing [] k lt e = absurd (omega arith)
missing (r ∷ rs) zero lt e = cc
missing (r ∷ rs) (suc k) lt e = missing rs k (omega arith) e

pub view-stores : (b : Joined) (l : Levels) (before now : Handing) (k : ℕ) → k < length (equations_of b).registers → length l.visible ≡ length (equations_of b).registers →
    level_at (next_stored (equations_of b) l (handed b before) (handed b now) (equations_of b).registers l.visible) k ≡ stores (view_of b l k) before now
view-stores b l before now k within long = at (slice_get (equations_of b).registers k) refl
  where
    at : (o : Option Register) → slice_get (equations_of b).registers k ≡ o →
        level_at (next_stored (equations_of b) l (handed b before) (handed b now) (equations_of b).registers l.visible) k
        ≡ (if rises_by (register_clock b.net (slice_get (equations_of b).registers k)) before now then or_x (taken l) (slice_get (equations_of b).registers k) else level_at l.visible k)
    at None e = absurd (missing (equations_of b).registers k within e)
    at (Some r) e =
        next-at (equations_of b) l (handed b before) (handed b now) (equations_of b).registers l.visible k r e long
        ∙ ap (λ (s : Bool). if s then taken l r else level_at l.visible k) (clock-rises b before now r.clock)
        ∙ sym (ap (λ (o : Option Register). if rises_by (register_clock b.net o) before now then or_x (taken l) o else level_at l.visible k) e)

-- a raised clock is lawful
raised-as : (name other : List ℕ) (h : Handing) (dir : Port) → LawfulAs h other dir → LawfulAs (raised name h) other dir
raised-as name other h port.Inner is = tt
raised-as name other h port.Output is = tt
raised-as name other h port.Input is = at (bytes_eq name other)
  where
    at : (b : Bool) → IsBit (if b then One else h other)
    at true = tt
    at false = is
raised-as name other h port.Both is = at (bytes_eq name other)
  where
    at : (b : Bool) → IsHandable (if b then One else h other)
    at true = tt
    at false = is

raised-lines : (name : List ℕ) (h : Handing) (ls : List NetLine) → AllByRecursion (LawfulLine h) ls → AllByRecursion (LawfulLine (raised name h)) ls
raised-lines name h [] all = tt
raised-lines name h (l ∷ ls) all = (raised-as name l.name h l.port all.0, raised-lines name h ls all.1)

pub raised-lawful : (b : Joined) (name : List ℕ) (h : Handing) → IsLawfulFor b h → IsLawfulFor b (raised name h)
raised-lawful b name h lawful = lines-board b (raised name h) (raised-lines name h b.net.nets (board-lines b h lawful))
