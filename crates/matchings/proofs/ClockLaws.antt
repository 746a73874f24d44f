-- A clock rises by the level at its port.
use Rattle.std.proofs.Common.{ℕ, zero, suc, ◌≡◌, ◌+◌, ◌&&◌, List, [], ◌∷◌, ◌++◌, map, filter, length, Option, Some, None, refl, ◌∙◌, subst}
use Rattle.std.specs.Prelude.{slice_get, if◌then◌else◌}
use Rattle.std.proofs.lemmas.List.{length-append}
use Rattle.mig_base.specs.declared.levels.Level.{Level}
use Rattle.mig_base.specs.declared.levels.Level.TheVariants.{Zero, One, X}
use Rattle.mig_base.specs.Levels.{or_x, same_level}
use Rattle.mig_base.specs.declared.nets.Net.{Net}
use Rattle.mig_base.specs.declared.nets.NetLine.{NetLine}
use Rattle.mig_base.specs.declared.nets.Port.{Port}
use Rattle.mig_base.specs.declared.nets.Port.TheVariants as port
use Rattle.mig_base.specs.declared.nets.Pull.{Pull}
use Rattle.mig_base.specs.declared.nets.Pull.TheVariants as pull
use Rattle.mig_base.specs.declared.circuit.NetKind.{NetKind}
use Rattle.mig_base.specs.declared.circuit.NetKind.TheVariants.{Inner}
use Rattle.mig_base.specs.Boards.{At, ChipUnit, is_handed, kind_at, kinds_from, kinds_of, privates, units_from, wires_from}
use Rattle.level_laws.specs.Runs.{clock_by, clock_level, rises}
use Rattle.level_laws.specs.SameBehaviour.{Handing, handed_levels}
use Rattle.board.specs.Joined.{Joined, equations_of}
use Rattle.matchings.specs.Pairs.{handed}
use Rattle.matchings.specs.Clocks.{clock_name, input_name, line_clock}
use Rattle.matchings.specs.Edges.{rises_by}
use Rattle.matchings.proofs.LawfulBoth.{handed_of, here, one_more}

-- the level of a clock on a line
abbrev port_level : Handing → List ℕ → Port → Level
port_level h name port.Input = h name
port_level h name port.Inner = X
port_level h name port.Output = X
port_level h name port.Both = X

abbrev line_level : Handing → Option NetLine → Level
line_level h None = X
line_level h (Some l) = port_level h l.name l.port

abbrev kind_level : List Level → Option (NetKind × Pull) → Level
kind_level inputs o = or_x (λ (k : NetKind × Pull). clock_by inputs k.0) o

abbrev inners : List At → List (NetKind × Pull)
inners qs = map (λ q. (Inner, pull.Free)) qs

inner-level : (inputs : List Level) (qs : List At) (n : ℕ) → kind_level inputs (slice_get (inners qs) n) ≡ X
inner-level inputs [] n = refl
inner-level inputs (q ∷ qs) zero = refl
inner-level inputs (q ∷ qs) (suc n) = inner-level inputs qs n

named-level : (h : Handing) (ls : List NetLine) (qs : List At) (before : List Level) (n : ℕ) →
    kind_level (before ++ handed_of h ls) (slice_get (kinds_from (length before) ls ++ inners qs) n) ≡ line_level h (slice_get ls n)
named-level h [] qs before n = inner-level (before ++ []) qs n
named-level h (l ∷ ls) qs before zero = at l.port
  where
    at : (dir : Port) → clock_by (before ++ map (λ k. h k.name) (if is_handed dir then l ∷ filter (λ k. is_handed k.port) ls else filter (λ k. is_handed k.port) ls)) (kind_at (length before) dir)
        ≡ port_level h l.name dir
    at port.Inner = refl
    at port.Output = refl
    at port.Input = here before (h l.name) (handed_of h ls)
    at port.Both = refl
named-level h (l ∷ ls) qs before (suc n) =
    at l.port (named-level h ls qs before n)
    (subst (λ (ins : List Level). kind_level ins (slice_get (kinds_from (length before + 1) ls ++ inners qs) n) ≡ line_level h (slice_get ls n)) (one_more h l ls before)
    (subst (λ (m : ℕ). kind_level ((before ++ h l.name ∷ []) ++ handed_of h ls) (slice_get (kinds_from m ls ++ inners qs) n) ≡ line_level h (slice_get ls n)) (length-append before (h l.name ∷ []))
    (named-level h ls qs (before ++ h l.name ∷ []) n)))
  where
    at : (dir : Port) → kind_level (before ++ handed_of h ls) (slice_get (kinds_from (length before) ls ++ inners qs) n) ≡ line_level h (slice_get ls n) →
        kind_level (before ++ h l.name ∷ handed_of h ls) (slice_get (kinds_from (length before + 1) ls ++ inners qs) n) ≡ line_level h (slice_get ls n) →
        kind_level (before ++ map (λ k. h k.name) (if is_handed dir then l ∷ filter (λ k. is_handed k.port) ls else filter (λ k. is_handed k.port) ls))
        (slice_get (kinds_from (if is_handed dir then length before + 1 else length before) ls ++ inners qs) n) ≡ line_level h (slice_get ls n)
    at port.Inner off on = off
    at port.Output off on = off
    at port.Input off on = on
    at port.Both off on = on

wire-level : (net : Net) (units : List ChipUnit) (inputs : List Level) (i : ℕ) (ks : List (NetKind × Pull)) (n : ℕ) →
    or_x (λ w. clock_by inputs w.kind) (slice_get (wires_from net units i ks) n) ≡ kind_level inputs (slice_get ks n)
wire-level net units inputs i [] n = refl
wire-level net units inputs i (k ∷ ks) zero = refl
wire-level net units inputs i (k ∷ ks) (suc n) = wire-level net units inputs (i + 1) ks n

-- the level of a clock net
abbrev net_clock_level : Joined → Handing → ℕ → Level
net_clock_level b h zero = Zero
net_clock_level b h (suc zero) = One
net_clock_level b h (suc (suc n)) = line_level h (slice_get b.net.nets n)

clock-level : (b : Joined) (h : Handing) (n : ℕ) → clock_level (equations_of b) (handed b h) n ≡ net_clock_level b h n
clock-level b h n = wire-level b.net (units_from 0 b.chips) (handed_levels b.net h) 0 (kinds_of b.net) n ∙ at n
  where
    at : (n : ℕ) → kind_level (handed_levels b.net h) (slice_get (kinds_of b.net) n) ≡ net_clock_level b h n
    at zero = refl
    at (suc zero) = refl
    at (suc (suc n)) = named-level h b.net.nets (privates b.net) [] n

-- a clock rises exactly where its port does
pub clock-rises : (b : Joined) (before now : Handing) (n : ℕ) → rises (equations_of b) (handed b before) (handed b now) n ≡ rises_by (clock_name b.net n) before now
clock-rises b before now n = (λ i. (same_level (clock-level b before n i) Zero && same_level (clock-level b now n i) One)) ∙ at n
  where
    line : (o : Option NetLine) → (same_level (line_level before o) Zero && same_level (line_level now o) One) ≡ rises_by (line_clock o) before now
    line None = refl
    line (Some l) = by l.port
      where
        by : (dir : Port) → (same_level (port_level before l.name dir) Zero && same_level (port_level now l.name dir) One) ≡ rises_by (input_name l.name dir) before now
        by port.Inner = refl
        by port.Output = refl
        by port.Input = refl
        by port.Both = refl

    at : (n : ℕ) → (same_level (net_clock_level b before n) Zero && same_level (net_clock_level b now n) One) ≡ rises_by (clock_name b.net n) before now
    at zero = refl
    at (suc zero) = refl
    at (suc (suc n)) = line (slice_get b.net.nets n)
