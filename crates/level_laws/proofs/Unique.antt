-- A board whose nodes have ranks has one settling at most.
use Rattle.std.proofs.Common.{ℕ, zero, suc, ◌≡◌, ◌<◌, ◌+◌, cond, List, [], ◌∷◌, ◌++◌, map, Option, Some, None, refl, sym, ap, ◌∙◌, arith}
use Rattle.std.specs.List.{flat_map, AllByRecursion, slice_get}
use Rattle.mig_base.specs.declared.levels.Level.{Level}
use Rattle.mig_base.specs.Levels.{read_level, not3, and3, or3, level_at, or_x}
use Rattle.mig_base.specs.declared.circuit.Read.{Read}
use Rattle.mig_base.specs.declared.circuit.Literal.{Literal}
use Rattle.mig_base.specs.declared.circuit.Gate.{Gate}
use Rattle.mig_base.specs.declared.circuit.Gives.{Gives}
use Rattle.mig_base.specs.declared.circuit.Driver.{Driver}
use Rattle.mig_base.specs.declared.circuit.Register.{Register}
use Rattle.mig_base.specs.declared.circuit.Wire.{Wire}
use Rattle.mig_base.specs.declared.circuit.Circuit.{Circuit}
use Rattle.mig_base.specs.declared.circuit.Levels.{Levels}
use Rattle.mig_base.specs.declared.circuit.Read.TheVariants.{OfNet, OfRegister}
use Rattle.mig_base.specs.declared.circuit.Gate.TheVariants.{Never, Product}
use Rattle.mig_base.specs.declared.circuit.Gives.TheVariants.{Sum, Visible}
use Rattle.mig_base.specs.Values.{node_level, source_level, literal_value, product_value, sum_value, row_value, inverted, product_reads, sum_reads, row_reads}
use Rattle.ranks.proofs.NoLoops.{all_mono}
use Rattle.level_laws.specs.Settled.{IsSettled, gives_level, gated, drive_level, visible_level, visible_levels, wire_level, level_by}
use Rattle.mig_base.specs.Ranked.{Ranked}
use Rattle.mig_base.specs.Reads.{gives_reads, driver_reads, wire_reads, node_reads, reads_of_wire, reads_of_register}

-- both have the same at a node
abbrev pub Agree : Levels → Levels → Read → Type 0
Agree l m v = node_level l v ≡ node_level m v

pub all_left : {T : Type 0} (P : T → Type 0) (xs ys : List T) → AllByRecursion P (xs ++ ys) → AllByRecursion P xs
all_left P [] ys h = tt
all_left P (x ∷ xs) ys h = (h.0, all_left P xs ys h.1)

pub all_right : {T : Type 0} (P : T → Type 0) (xs ys : List T) → AllByRecursion P (xs ++ ys) → AllByRecursion P ys
all_right P [] ys h = h
all_right P (x ∷ xs) ys h = all_right P xs ys h.1

pub source-agree : (l m : Levels) (v : Read) → Agree l m v → source_level l v ≡ source_level m v
source-agree l m (OfNet n) e = ap read_level e
source-agree l m (OfRegister k) e = e

pub literal-agree : (l m : Levels) (x : Literal) → Agree l m x.source → literal_value l x ≡ literal_value m x
literal-agree l m x e = let s = source-agree l m x.source e in
    ap (λ a. cond x.high a (not3 a)) s

pub product-agree : (l m : Levels) (xs : List Literal) → AllByRecursion (Agree l m) (product_reads xs) → product_value l xs ≡ product_value m xs
product-agree l m [] h = refl
product-agree l m (x ∷ xs) h =
    ap (λ a. and3 a (product_value l xs)) (literal-agree l m x h.0) ∙ ap (λ a. and3 (literal_value m x) a) (product-agree l m xs h.1)

pub sum-agree : (l m : Levels) (ps : List (List Literal)) → AllByRecursion (Agree l m) (sum_reads ps) → sum_value l ps ≡ sum_value m ps
sum-agree l m [] h = refl
sum-agree l m (p ∷ ps) h =
    ap (λ a. or3 a (sum_value l ps)) (product-agree l m p (all_left _ (product_reads p) (sum_reads ps) h))
    ∙ ap (λ a. or3 (product_value m p) a) (sum-agree l m ps (all_right _ (product_reads p) (sum_reads ps) h))

pub row-agree : (l m : Levels) (r : Gate) → AllByRecursion (Agree l m) (row_reads r) → row_value l r ≡ row_value m r
row-agree l m Never h = refl
row-agree l m (Product xs) h = product-agree l m xs h

pub gives-agree : (l m : Levels) (g : Gives) → AllByRecursion (Agree l m) (gives_reads g) → gives_level l g ≡ gives_level m g
gives-agree l m (Sum ps) h = sum-agree l m ps h
gives-agree l m (Visible k) h = h.0

pub drive-agree : (l m : Levels) (d : Driver) → AllByRecursion (Agree l m) (row_reads d.enable ++ gives_reads d.gives) → drive_level l d ≡ drive_level m d
drive-agree l m d h =
    ap (λ a. gated a (inverted d.low (gives_level l d.gives))) (row-agree l m d.enable (all_left _ (row_reads d.enable) (gives_reads d.gives) h))
    ∙ ap (λ a. gated (row_value m d.enable) (inverted d.low a)) (gives-agree l m d.gives (all_right _ (row_reads d.enable) (gives_reads d.gives) h))

-- the level at a place of a mapped list
pub level_at-map : {T : Type 0} (f : T → Level) (ts : List T) (i : ℕ) → level_at (map f ts) i ≡ or_x f (slice_get ts i)
level_at-map f [] i = refl
level_at-map f (t ∷ ts) zero = refl
level_at-map f (t ∷ ts) (suc i) = level_at-map f ts i

pub drive_at-agree : (l m : Levels) (o : Option Driver) → AllByRecursion (Agree l m) (driver_reads o) → or_x (drive_level l) o ≡ or_x (drive_level m) o
drive_at-agree l m None h = refl
drive_at-agree l m (Some d) h = drive-agree l m d h

pub drives-agree : (c : Circuit) (l m : Levels) → l.drives ≡ map (drive_level l) c.units → m.drives ≡ map (drive_level m) c.units →
    (us : List ℕ) → AllByRecursion (Agree l m) (flat_map (λ u. driver_reads (slice_get c.units u)) us) →
    map (level_at l.drives) us ≡ map (level_at m.drives) us
drives-agree c l m el em [] h = refl
drives-agree c l m el em (u ∷ us) h =
    let here : level_at l.drives u ≡ level_at m.drives u =
    ap (λ ds. level_at ds u) el ∙ level_at-map (drive_level l) c.units u
    ∙ drive_at-agree l m (slice_get c.units u) (all_left _ (driver_reads (slice_get c.units u)) _ h)
    ∙ sym (level_at-map (drive_level m) c.units u) ∙ sym (ap (λ ds. level_at ds u) em) in
    let there : map (level_at l.drives) us ≡ map (level_at m.drives) us =
    drives-agree c l m el em us (all_right _ (driver_reads (slice_get c.units u)) _ h) in
    ap (λ a. a ∷ map (level_at l.drives) us) here ∙ ap (λ rest. level_at m.drives u ∷ rest) there

pub wire-agree : (c : Circuit) (inputs : List Level) (l m : Levels) → l.drives ≡ map (drive_level l) c.units → m.drives ≡ map (drive_level m) c.units →
    (w : Wire) → AllByRecursion (Agree l m) (wire_reads c w) → wire_level inputs l w ≡ wire_level inputs m w
wire-agree c inputs l m el em w h = ap (level_by inputs w.kind w.pull) (drives-agree c l m el em w.drivers h)

pub visible-agree : (l m : Levels) (rs : List Register) (ss : List Level) (k : ℕ) →
    AllByRecursion (Agree l m) (reads_of_register (slice_get rs k)) →
    level_at (visible_levels l rs ss) k ≡ level_at (visible_levels m rs ss) k
visible-agree l m [] ss k h = refl
visible-agree l m (r ∷ rs) [] k h = refl
visible-agree l m (r ∷ rs) (s ∷ ss) zero h = ap (λ a. and3 s (not3 a)) (row-agree l m r.reset h)
visible-agree l m (r ∷ rs) (s ∷ ss) (suc k) h = visible-agree l m rs ss k h

-- where all that a node reads agrees, it agrees
node-agree : (c : Circuit) (stored inputs : List Level) (l m : Levels) → IsSettled c stored inputs l → IsSettled c stored inputs m →
    (v : Read) → AllByRecursion (Agree l m) (node_reads c v) → Agree l m v
node-agree c stored inputs l m sl sm (OfNet n) h =
    ap (λ ns. level_at ns n) sl.nets ∙ level_at-map (wire_level inputs l) c.nets n
    ∙ at (slice_get c.nets n) h
    ∙ sym (level_at-map (wire_level inputs m) c.nets n) ∙ sym (ap (λ ns. level_at ns n) sm.nets)
  where
    at : (o : Option Wire) → AllByRecursion (Agree l m) (reads_of_wire c o) →
        or_x (wire_level inputs l) o ≡ or_x (wire_level inputs m) o
    at None h = refl
    at (Some w) h = wire-agree c inputs l m sl.drives sm.drives w h
node-agree c stored inputs l m sl sm (OfRegister k) h =
    ap (λ vs. level_at vs k) sl.visible ∙ visible-agree l m c.registers stored k h ∙ sym (ap (λ vs. level_at vs k) sm.visible)

-- every node below a bound agrees
below-agree : (c : Circuit) (rank : Read → ℕ) (top : ℕ) (stored inputs : List Level) (l m : Levels) → Ranked c rank top →
    IsSettled c stored inputs l → IsSettled c stored inputs m → (k : ℕ) (v : Read) → rank v < k → Agree l m v
below-agree c rank top stored inputs l m ranked sl sm zero v h = absurd (omega arith)
below-agree c rank top stored inputs l m ranked sl sm (suc k) v h =
    node-agree c stored inputs l m sl sm v
    (all_mono (λ w. rank w < rank v) (Agree l m) (λ w lower. below-agree c rank top stored inputs l m ranked sl sm k w (omega arith)) (node_reads c v) (ranked.falls v))

pub nodes-agree : (c : Circuit) (rank : Read → ℕ) (top : ℕ) (stored inputs : List Level) (l m : Levels) → Ranked c rank top →
    IsSettled c stored inputs l → IsSettled c stored inputs m → (v : Read) → Agree l m v
nodes-agree c rank top stored inputs l m ranked sl sm v = below-agree c rank top stored inputs l m ranked sl sm (rank v + 1) v (omega arith)

pub every : (T : Type 0) (P : T → Type 0) → ((t : T) → P t) → (ts : List T) → AllByRecursion P ts
every T P f [] = tt
every T P f (t ∷ ts) = (f t, every T P f ts)

pub map-agree : {T S : Type 0} (f g : T → S) → ((t : T) → f t ≡ g t) → (ts : List T) → map f ts ≡ map g ts
map-agree f g e [] = refl
map-agree f g e (t ∷ ts) = ap (λ a. a ∷ map f ts) (e t) ∙ ap (λ rest. g t ∷ rest) (map-agree f g e ts)

pub visible_all-agree : (l m : Levels) → ((v : Read) → Agree l m v) → (rs : List Register) (ss : List Level) → visible_levels l rs ss ≡ visible_levels m rs ss
visible_all-agree l m all [] ss = refl
visible_all-agree l m all (r ∷ rs) [] = refl
visible_all-agree l m all (r ∷ rs) (s ∷ ss) =
    ap (λ a. and3 s (not3 a) ∷ visible_levels l rs ss) (row-agree l m r.reset (every _ _ all (row_reads r.reset)))
    ∙ ap (λ rest. visible_level m r s ∷ rest) (visible_all-agree l m all rs ss)

-- a board whose nodes have ranks has one settling at most
pub settled-unique : (c : Circuit) (rank : Read → ℕ) (top : ℕ) (stored inputs : List Level) (l m : Levels) → Ranked c rank top →
    IsSettled c stored inputs l → IsSettled c stored inputs m → l ≡ m
settled-unique c rank top stored inputs l m ranked sl sm =
    let all : (v : Read) → Agree l m v = nodes-agree c rank top stored inputs l m ranked sl sm in
    let drives : l.drives ≡ m.drives = sl.drives
    ∙ map-agree (drive_level l) (drive_level m) (λ d. drive-agree l m d (every _ _ all (row_reads d.enable ++ gives_reads d.gives))) c.units ∙ sym sm.drives in
    let nets : l.nets ≡ m.nets = sl.nets
    ∙ map-agree (wire_level inputs l) (wire_level inputs m) (λ w. wire-agree c inputs l m sl.drives sm.drives w (every _ _ all (wire_reads c w))) c.nets ∙ sym sm.nets in
    let visible : l.visible ≡ m.visible = sl.visible ∙ visible_all-agree l m all c.registers stored ∙ sym sm.visible in
    λ i. record { nets = nets i; drives = drives i; visible = visible i }
