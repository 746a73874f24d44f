-- What is made of 0 and 1 is 0 or 1.
use Rattle.std.proofs.Common.{◌≡◌, Bool, true, false, cond, ◌||◌, List, [], ◌∷◌, ◌++◌, refl, sym, ap, subst}
use Rattle.std.specs.List.{AllByRecursion}
use Rattle.mig_base.specs.declared.levels.Level.{Level}
use Rattle.mig_base.specs.declared.levels.Level.TheVariants.{Zero, One, Z, X}
use Rattle.mig_base.specs.declared.nets.Pull.{Pull}
use Rattle.mig_base.specs.declared.nets.Pull.TheVariants.{Free, Up, Down}
use Rattle.mig_base.specs.declared.circuit.Read.{Read}
use Rattle.mig_base.specs.declared.circuit.Read.TheVariants.{OfNet, OfRegister}
use Rattle.mig_base.specs.declared.circuit.Literal.{Literal}
use Rattle.mig_base.specs.declared.circuit.Gate.{Gate}
use Rattle.mig_base.specs.declared.circuit.Gate.TheVariants.{Never, Product}
use Rattle.mig_base.specs.declared.circuit.Gives.{Gives}
use Rattle.mig_base.specs.declared.circuit.Gives.TheVariants.{Sum, Visible}
use Rattle.mig_base.specs.declared.circuit.Driver.{Driver}
use Rattle.mig_base.specs.declared.circuit.Register.{Register}
use Rattle.mig_base.specs.declared.circuit.Levels.{Levels}
use Rattle.mig_base.specs.Levels.{read_level, not3, and3, or3, level_at}
use Rattle.mig_base.specs.Reads.{gives_reads, edge_reads}
use Rattle.mig_base.specs.Resolve.{pulled, resolved}
use Rattle.mig_base.specs.Values.{node_level, source_level, literal_value, product_value, sum_value, row_value, inverted, product_reads, sum_reads, row_reads}
use Rattle.level_laws.specs.Runs.{taken}
use Rattle.level_laws.specs.SameBehaviour.{IsBit, IsHandable}
use Rattle.level_laws.specs.Settled.{gives_level, gated, drive_level}
use Rattle.level_laws.proofs.Unique.{all_left, all_right}
use Rattle.mig_base.specs.WrittenBoard.{is_pulled}
use Rattle.structure.specs.Pure.{is_always}

-- a node at 0 or 1
abbrev pub IsBitAt : Levels → Read → Type 0
IsBitAt l v = IsBit (node_level l v)

pub read-bit : (a : Level) → IsBit a → IsBit (read_level a)
read-bit Zero h = tt
read-bit One h = tt
read-bit Z h = absurd h
read-bit X h = absurd h

not-bit : (a : Level) → IsBit a → IsBit (not3 a)
not-bit Zero h = tt
not-bit One h = tt
not-bit Z h = absurd h
not-bit X h = absurd h

pub and-bit : (a b : Level) → IsBit a → IsBit b → IsBit (and3 a b)
and-bit Zero b h k = tt
and-bit One Zero h k = tt
and-bit One One h k = tt
and-bit One Z h k = absurd k
and-bit One X h k = absurd k
and-bit Z b h k = absurd h
and-bit X b h k = absurd h

or-bit : (a b : Level) → IsBit a → IsBit b → IsBit (or3 a b)
or-bit One b h k = tt
or-bit Zero One h k = tt
or-bit Zero Zero h k = tt
or-bit Zero Z h k = absurd k
or-bit Zero X h k = absurd k
or-bit Z b h k = absurd h
or-bit X b h k = absurd h

inverted-bit : (low : Bool) (a : Level) → IsBit a → IsBit (inverted low a)
inverted-bit true a h = not-bit a h
inverted-bit false a h = h

source-bit : (l : Levels) (v : Read) → IsBitAt l v → IsBit (source_level l v)
source-bit l (OfNet n) h = read-bit (level_at l.nets n) h
source-bit l (OfRegister k) h = h

literal-bit : (l : Levels) (x : Literal) → IsBitAt l x.source → IsBit (literal_value l x)
literal-bit l x h = at x.high (source-bit l x.source h)
  where
    at : (high : Bool) → IsBit (source_level l x.source) → IsBit (cond high (source_level l x.source) (not3 (source_level l x.source)))
    at true k = k
    at false k = not-bit (source_level l x.source) k

product-bit : (l : Levels) (xs : List Literal) → AllByRecursion (IsBitAt l) (product_reads xs) → IsBit (product_value l xs)
product-bit l [] h = tt
product-bit l (x ∷ xs) h = and-bit (literal_value l x) (product_value l xs) (literal-bit l x h.0) (product-bit l xs h.1)

sum-bit : (l : Levels) (ps : List (List Literal)) → AllByRecursion (IsBitAt l) (sum_reads ps) → IsBit (sum_value l ps)
sum-bit l [] h = tt
sum-bit l (p ∷ ps) h =
    or-bit (product_value l p) (sum_value l ps) (product-bit l p (all_left (IsBitAt l) (product_reads p) (sum_reads ps) h))
    (sum-bit l ps (all_right (IsBitAt l) (product_reads p) (sum_reads ps) h))

pub row-bit : (l : Levels) (r : Gate) → AllByRecursion (IsBitAt l) (row_reads r) → IsBit (row_value l r)
row-bit l Never h = tt
row-bit l (Product xs) h = product-bit l xs h

gives-bit : (l : Levels) (g : Gives) → AllByRecursion (IsBitAt l) (gives_reads g) → IsBit (gives_level l g)
gives-bit l (Sum ps) h = sum-bit l ps h
gives-bit l (Visible k) h = h.0

-- a register's visible Q
pub seen-bit : (l : Levels) (r : Register) (s : Level) → IsBit s → AllByRecursion (IsBitAt l) (row_reads r.reset) → IsBit (and3 s (not3 (row_value l r.reset)))
seen-bit l r s h reads = and-bit s (not3 (row_value l r.reset)) h (not-bit (row_value l r.reset) (row-bit l r.reset reads))

-- what a register takes
pub taken-bit : (l : Levels) (r : Register) → AllByRecursion (IsBitAt l) (edge_reads r) → IsBit (taken l r)
taken-bit l r h =
    let front : AllByRecursion (IsBitAt l) (sum_reads r.terms ++ row_reads r.preset) = all_left (IsBitAt l) (sum_reads r.terms ++ row_reads r.preset) (row_reads r.reset) h in
    let reset : AllByRecursion (IsBitAt l) (row_reads r.reset) = all_right (IsBitAt l) (sum_reads r.terms ++ row_reads r.preset) (row_reads r.reset) h in
    let sum : IsBit (inverted r.low (sum_value l r.terms)) =
    inverted-bit r.low (sum_value l r.terms) (sum-bit l r.terms (all_left (IsBitAt l) (sum_reads r.terms) (row_reads r.preset) front)) in
    let preset : IsBit (row_value l r.preset) = row-bit l r.preset (all_right (IsBitAt l) (sum_reads r.terms) (row_reads r.preset) front) in
    and-bit (or3 (inverted r.low (sum_value l r.terms)) (row_value l r.preset)) (not3 (row_value l r.reset))
    (or-bit (inverted r.low (sum_value l r.terms)) (row_value l r.preset) sum preset)
    (not-bit (row_value l r.reset) (row-bit l r.reset reset))

gated-handable : (e a : Level) → IsBit e → IsBit a → IsHandable (gated e a)
gated-handable One Zero h k = tt
gated-handable One One h k = tt
gated-handable One Z h k = absurd k
gated-handable One X h k = absurd k
gated-handable Zero a h k = tt
gated-handable Z a h k = absurd h
gated-handable X a h k = absurd h

-- a pull without driver
pub pulled-bit : (pull : Pull) → is_pulled pull ≡ true → IsBit (pulled pull)
pulled-bit Free e = cc
pulled-bit Up e = tt
pulled-bit Down e = tt

pull-makes : (pull : Pull) (a : Level) → is_pulled pull ≡ true → IsHandable a → IsBit (resolved pull (a ∷ []))
pull-makes Free a e h = cc
pull-makes Up Zero e h = tt
pull-makes Up One e h = tt
pull-makes Up Z e h = tt
pull-makes Up X e h = absurd h
pull-makes Down Zero e h = tt
pull-makes Down One e h = tt
pull-makes Down Z e h = tt
pull-makes Down X e h = absurd h

bit-stays : (pull : Pull) (a : Level) → IsBit a → IsBit (resolved pull (a ∷ []))
bit-stays pull Zero h = tt
bit-stays pull One h = tt
bit-stays pull Z h = absurd h
bit-stays pull X h = absurd h

always-one : (l : Levels) (g : Gate) → is_always g ≡ true → row_value l g ≡ One
always-one l Never e = cc
always-one l (Product []) e = refl
always-one l (Product (x ∷ xs)) e = cc

-- a net with one driver, which is always enabled, or with a pull
pub driven-bit : (l : Levels) (pull : Pull) (d : Driver) → (is_always d.enable || is_pulled pull) ≡ true → AllByRecursion (IsBitAt l) (row_reads d.enable ++ gives_reads d.gives) →
    IsBit (resolved pull (drive_level l d ∷ []))
driven-bit l pull d can reads = at (is_always d.enable) refl can
  where
    gives : IsBit (inverted d.low (gives_level l d.gives))
    gives = inverted-bit d.low (gives_level l d.gives) (gives-bit l d.gives (all_right (IsBitAt l) (row_reads d.enable) (gives_reads d.gives) reads))

    enable : IsBit (row_value l d.enable)
    enable = row-bit l d.enable (all_left (IsBitAt l) (row_reads d.enable) (gives_reads d.gives) reads)

    at : (always : Bool) → is_always d.enable ≡ always → (always || is_pulled pull) ≡ true → IsBit (resolved pull (drive_level l d ∷ []))
    at true e h =
        let on : drive_level l d ≡ inverted d.low (gives_level l d.gives) = ap (λ (a : Level). gated a (inverted d.low (gives_level l d.gives))) (always-one l d.enable e) in
        subst (λ (a : Level). IsBit (resolved pull (a ∷ []))) (sym on) (bit-stays pull (inverted d.low (gives_level l d.gives)) gives)
    at false e h = pull-makes pull (drive_level l d) h (gated-handable (row_value l d.enable) (inverted d.low (gives_level l d.gives)) enable gives)
