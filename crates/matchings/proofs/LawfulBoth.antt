-- What is lawful for a board by port name is lawful for each board with the same ports.
use Rattle.std.proofs.Common.{ℕ, ◌≡◌, ◌+◌, Bool, true, false, List, [], ◌∷◌, ◌++◌, map, filter, length, refl, sym, ap, ◌∙◌, subst, arith, inl, inr}
use Rattle.std.specs.Prelude.{if◌then◌else◌}
use Rattle.std.specs.List.{AllByRecursion}
use Rattle.std.proofs.lemmas.List.{append_assoc, get_or-append-add, length-append}
use Rattle.mig_base.specs.declared.levels.Level.{Level}
use Rattle.mig_base.specs.declared.levels.Level.TheVariants.{X}
use Rattle.mig_base.specs.Levels.{level_at}
use Rattle.mig_base.specs.declared.nets.Net.{Net}
use Rattle.mig_base.specs.declared.nets.NetLine.{NetLine}
use Rattle.mig_base.specs.declared.nets.Port.{Port}
use Rattle.mig_base.specs.declared.nets.Port.TheVariants as port
use Rattle.mig_base.specs.declared.nets.Pull.{Pull}
use Rattle.mig_base.specs.declared.nets.Pull.TheVariants as pull
use Rattle.mig_base.specs.declared.circuit.NetKind.{NetKind}
use Rattle.mig_base.specs.declared.circuit.NetKind.TheVariants.{Inner}
use Rattle.mig_base.specs.Among.{Among}
use Rattle.mig_base.specs.Boards.{At, ChipUnit, is_handed, is_port, is_port_kind, kind_at, kinds_from, kinds_of, privates, units_from, wires_from}
use Rattle.level_laws.specs.SameBehaviour.{Handing, IsBit, IsHandable, IsLawfulAt, SamePorts, handed_levels}
use Rattle.board.specs.Joined.{Joined}
use Rattle.matchings.specs.Pairs.{IsLawfulFor}

-- lawful for a net of this direction and name
abbrev pub LawfulAs : Handing → List ℕ → Port → Type 0
LawfulAs h name port.Inner = Unit {0}
LawfulAs h name port.Output = Unit {0}
LawfulAs h name port.Input = IsBit (h name)
LawfulAs h name port.Both = IsHandable (h name)

abbrev pub LawfulLine : Handing → NetLine → Type 0
LawfulLine h l = LawfulAs h l.name l.port

abbrev pub handed_of : Handing → List NetLine → List Level
handed_of h ls = map (λ l. h l.name) (filter (λ l. is_handed l.port) ls)

abbrev LawfulKind : List Level → NetKind × Pull → Type 0
LawfulKind inputs k = IsLawfulAt inputs k.0

pub here : (before : List Level) (x : Level) (rest : List Level) → level_at (before ++ x ∷ rest) (length before) ≡ x
here before x rest =
    ap (λ (n : ℕ). level_at (before ++ x ∷ rest) n) (let e : length before ≡ length before + 0 = omega arith in e) ∙ get_or-append-add before (x ∷ rest) 0 X

-- the levels before one more
pub one_more : (h : Handing) (l : NetLine) (ls : List NetLine) (before : List Level) → (before ++ h l.name ∷ []) ++ handed_of h ls ≡ before ++ h l.name ∷ handed_of h ls
one_more h l ls before = append_assoc before (h l.name ∷ []) (handed_of h ls)

-- kinds, read by the lines
lines-lawful : (h : Handing) (ls : List NetLine) (before : List Level) → AllByRecursion (LawfulKind (before ++ handed_of h ls)) (kinds_from (length before) ls) →
    AllByRecursion (LawfulLine h) ls
lines-lawful h [] before all = tt
lines-lawful h (l ∷ ls) before all =
    at l.port all (lines-lawful h ls before)
    (λ rest. lines-lawful h ls (before ++ h l.name ∷ [])
    (subst (λ (n : ℕ). AllByRecursion (LawfulKind ((before ++ h l.name ∷ []) ++ handed_of h ls)) (kinds_from n ls)) (sym (length-append before (h l.name ∷ [])))
    (subst (λ (ins : List Level). AllByRecursion (LawfulKind ins) (kinds_from (length before + 1) ls)) (sym (one_more h l ls before)) rest)))
  where
    at : (dir : Port) → (LawfulKind (before ++ map (λ k. h k.name) (if is_handed dir then l ∷ filter (λ k. is_handed k.port) ls else filter (λ k. is_handed k.port) ls)) (kind_at (length before) dir, l.pull)
        × AllByRecursion (LawfulKind (before ++ map (λ k. h k.name) (if is_handed dir then l ∷ filter (λ k. is_handed k.port) ls else filter (λ k. is_handed k.port) ls))) (kinds_from (if is_handed dir then length before + 1 else length before) ls)) →
        (AllByRecursion (LawfulKind (before ++ handed_of h ls)) (kinds_from (length before) ls) → AllByRecursion (LawfulLine h) ls) →
        (AllByRecursion (LawfulKind (before ++ h l.name ∷ handed_of h ls)) (kinds_from (length before + 1) ls) → AllByRecursion (LawfulLine h) ls) →
        LawfulAs h l.name dir × AllByRecursion (LawfulLine h) ls
    at port.Inner p off on = (tt, off p.1)
    at port.Output p off on = (tt, off p.1)
    at port.Input p off on = (subst IsBit (here before (h l.name) (handed_of h ls)) p.0, on p.1)
    at port.Both p off on = (subst IsHandable (here before (h l.name) (handed_of h ls)) p.0, on p.1)

-- and back
kinds-lawful : (h : Handing) (ls : List NetLine) (before : List Level) → AllByRecursion (LawfulLine h) ls →
    AllByRecursion (LawfulKind (before ++ handed_of h ls)) (kinds_from (length before) ls)
kinds-lawful h [] before all = tt
kinds-lawful h (l ∷ ls) before all =
    at l.port all.0 (kinds-lawful h ls before all.1)
    (subst (λ (ins : List Level). AllByRecursion (LawfulKind ins) (kinds_from (length before + 1) ls)) (one_more h l ls before)
    (subst (λ (n : ℕ). AllByRecursion (LawfulKind ((before ++ h l.name ∷ []) ++ handed_of h ls)) (kinds_from n ls)) (length-append before (h l.name ∷ []))
    (kinds-lawful h ls (before ++ h l.name ∷ []) all.1)))
  where
    at : (dir : Port) → LawfulAs h l.name dir → AllByRecursion (LawfulKind (before ++ handed_of h ls)) (kinds_from (length before) ls) →
        AllByRecursion (LawfulKind (before ++ h l.name ∷ handed_of h ls)) (kinds_from (length before + 1) ls) →
        LawfulKind (before ++ map (λ k. h k.name) (if is_handed dir then l ∷ filter (λ k. is_handed k.port) ls else filter (λ k. is_handed k.port) ls)) (kind_at (length before) dir, l.pull)
        × AllByRecursion (LawfulKind (before ++ map (λ k. h k.name) (if is_handed dir then l ∷ filter (λ k. is_handed k.port) ls else filter (λ k. is_handed k.port) ls))) (kinds_from (if is_handed dir then length before + 1 else length before) ls)
    at port.Inner p off on = (tt, off)
    at port.Output p off on = (tt, off)
    at port.Input p off on = (subst IsBit (sym (here before (h l.name) (handed_of h ls))) p, on)
    at port.Both p off on = (subst IsHandable (sym (here before (h l.name) (handed_of h ls))) p, on)

wires-kinds : (net : Net) (units : List ChipUnit) (inputs : List Level) (n : ℕ) (ks : List (NetKind × Pull)) →
    AllByRecursion (λ w. IsLawfulAt inputs w.kind) (wires_from net units n ks) → AllByRecursion (LawfulKind inputs) ks
wires-kinds net units inputs n [] h = tt
wires-kinds net units inputs n (k ∷ ks) h = (h.0, wires-kinds net units inputs (n + 1) ks h.1)

kinds-wires : (net : Net) (units : List ChipUnit) (inputs : List Level) (n : ℕ) (ks : List (NetKind × Pull)) →
    AllByRecursion (LawfulKind inputs) ks → AllByRecursion (λ w. IsLawfulAt inputs w.kind) (wires_from net units n ks)
kinds-wires net units inputs n [] h = tt
kinds-wires net units inputs n (k ∷ ks) h = (h.0, kinds-wires net units inputs (n + 1) ks h.1)

inner-lawful : (inputs : List Level) (qs : List At) → AllByRecursion (LawfulKind inputs) (map (λ q. (Inner, pull.Free)) qs)
inner-lawful inputs [] = tt
inner-lawful inputs (q ∷ qs) = (tt, inner-lawful inputs qs)

all-first : {T : Type 0} (P : T → Type 0) (xs ys : List T) → AllByRecursion P (xs ++ ys) → AllByRecursion P xs
all-first P [] ys h = tt
all-first P (x ∷ xs) ys h = (h.0, all-first P xs ys h.1)

all-append : {T : Type 0} (P : T → Type 0) (xs ys : List T) → AllByRecursion P xs → AllByRecursion P ys → AllByRecursion P (xs ++ ys)
all-append P [] ys h k = k
all-append P (x ∷ xs) ys h k = (h.0, all-append P xs ys h.1 k)

-- lawful for a board exactly where it is so at each of its lines
pub board-lines : (b : Joined) (h : Handing) → IsLawfulFor b h → AllByRecursion (LawfulLine h) b.net.nets
board-lines b h lawful =
    let kinds = wires-kinds b.net (units_from 0 b.chips) (handed_levels b.net h) 0 (kinds_of b.net) lawful in
    lines-lawful h b.net.nets [] (all-first (LawfulKind (handed_levels b.net h)) (kinds_from 0 b.net.nets) (map (λ q. (Inner, pull.Free)) (privates b.net)) kinds.1.1)

pub lines-board : (b : Joined) (h : Handing) → AllByRecursion (LawfulLine h) b.net.nets → IsLawfulFor b h
lines-board b h all =
    kinds-wires b.net (units_from 0 b.chips) (handed_levels b.net h) 0 (kinds_of b.net) (
      tt,
      (
        tt,
        all-append (LawfulKind (handed_levels b.net h)) (kinds_from 0 b.net.nets) (map (λ q. (Inner, pull.Free)) (privates b.net)) (kinds-lawful h b.net.nets [] all)
            (inner-lawful (handed_levels b.net h) (privates b.net)),
      ),
    )

abbrev sign : NetLine → List ℕ × Port
sign l = (l.name, l.port)

-- a port of the lines
found : (h : Handing) (ls : List NetLine) (s : List ℕ × Port) → Among s (map sign (filter is_port ls)) → AllByRecursion (LawfulLine h) ls → LawfulAs h s.0 s.1
found h [] s among all = absurd among
found h (l ∷ ls) s among all = at (is_port l) among (λ rest. found h ls s rest all.1)
  where
    at : (b : Bool) → Among s (map sign (if b then l ∷ filter is_port ls else filter is_port ls)) → (Among s (map sign (filter is_port ls)) → LawfulAs h s.0 s.1) → LawfulAs h s.0 s.1
    at true (inl e) on = subst (λ (q : List ℕ × Port). LawfulAs h q.0 q.1) (sym e) all.0
    at true (inr rest) on = on rest
    at false rest on = on rest

-- a line that is a port is one of the ports
put : (l : NetLine) (ks : List NetLine) → Among l ks → is_port_kind l.port ≡ true → Among {T = List ℕ × Port} (sign l) (map sign (filter is_port ks))
put l [] among e = absurd among
put l (k ∷ ks) (inl same) e =
    let yes : is_port k ≡ true = ap is_port (sym same) ∙ e in
    subst (λ (b : Bool). Among {T = List ℕ × Port} (sign l) (map sign (if b then k ∷ filter is_port ks else filter is_port ks))) (sym yes) (inl (ap sign same))
put l (k ∷ ks) (inr among) e = skip (is_port k) (put l ks among e)
  where
    skip : (b : Bool) → Among {T = List ℕ × Port} (sign l) (map sign (filter is_port ks)) → Among {T = List ℕ × Port} (sign l) (map sign (if b then k ∷ filter is_port ks else filter is_port ks))
    skip true h = inr h
    skip false h = h

lawful-line : (h : Handing) (all : List NetLine) (l : NetLine) → Among l all →
    ((name : List ℕ) (dir : Port) → Among {T = List ℕ × Port} (name, dir) (map sign (filter is_port all)) → LawfulAs h name dir) → LawfulLine h l
lawful-line h all l among by_port = at l.port refl (λ e. by_port l.name l.port (put l all among e))
  where
    at : (dir : Port) → l.port ≡ dir → (is_port_kind l.port ≡ true → LawfulAs h l.name l.port) → LawfulAs h l.name dir
    at port.Inner e on = tt
    at port.Output e on = tt
    at port.Input e on = subst (LawfulAs h l.name) e (on (ap is_port_kind e))
    at port.Both e on = subst (LawfulAs h l.name) e (on (ap is_port_kind e))

lawful-among : (h : Handing) (ls all : List NetLine) → ((l : NetLine) → Among l ls → Among l all) →
    ((name : List ℕ) (dir : Port) → Among {T = List ℕ × Port} (name, dir) (map sign (filter is_port all)) → LawfulAs h name dir) → AllByRecursion (LawfulLine h) ls
lawful-among h [] all in_all by_port = tt
lawful-among h (l ∷ ls) all in_all by_port = (lawful-line h all l (in_all l (inl refl)) by_port, lawful-among h ls all (λ k among. in_all k (inr among)) by_port)

pub lawful-other : (a b : Joined) (h : Handing) → SamePorts a.net b.net → IsLawfulFor a h → IsLawfulFor b h
lawful-other a b h ports lawful =
    lines-board b h (lawful-among h b.net.nets b.net.nets (λ l among. among)
    (λ name dir has. found h a.net.nets (name, dir) (ports.right name dir has) (board-lines a h lawful)))
