-- Nodes made anew in an order of evaluation.
use Rattle.std.proofs.Common.{ℕ, zero, suc, ◌≡◌, ◌<◌, ◌≤◌, ◌+◌, ◌⊎◌, ◌++◌, List, [], ◌∷◌, map, take, drop, length, get_or, Option, Some, None, refl, sym, ap, ◌∙◌, subst, arith, inl, inr}
use Rattle.std.specs.Prelude.{slice_get, slice_set}
use Rattle.std.specs.List.{AllByRecursion, flat_map}
use Rattle.std.proofs.lemmas.List.{get_or-set_same, get_or-set_other, ext_get_or, length-map, length-set, drop_more, take_more, set_at, map-append, append_assoc, length-take-le}
use Rattle.mig_base.specs.declared.levels.Level.{Level}
use Rattle.mig_base.specs.declared.levels.Level.TheVariants.{X}
use Rattle.mig_base.specs.declared.circuit.Read.{Read}
use Rattle.mig_base.specs.declared.circuit.Read.TheVariants.{OfNet, OfRegister}
use Rattle.mig_base.specs.declared.circuit.Driver.{Driver}
use Rattle.mig_base.specs.declared.circuit.Register.{Register}
use Rattle.mig_base.specs.declared.circuit.Wire.{Wire}
use Rattle.mig_base.specs.declared.circuit.Circuit.{Circuit}
use Rattle.mig_base.specs.declared.circuit.Levels.{Levels}
use Rattle.mig_base.specs.Levels.{level_at, or_x}
use Rattle.mig_base.specs.Values.{node_level, row_reads}
use Rattle.mig_base.specs.Reads.{gives_reads, driver_reads, node_reads, reads_of_wire}
use Rattle.mig_base.specs.Among.{Among}
use Rattle.level_laws.specs.Settled.{IsSettled, drive_level, visible_level, visible_levels, wire_level, level_by}
use Rattle.level_laws.proofs.Unique.{Agree, all_left, all_right, level_at-map, drive-agree, drive_at-agree, visible-agree, every, map-agree, visible_all-agree}
use Rattle.ranks.proofs.NoLoops.{all_mono}
use Rattle.ranks.specs.Order.{GoesOn, IsOrder}
use Rattle.mig_base.specs.Reads.{IsNode}
use Rattle.settle.specs.Rules.{visible_of, drive_of, net_level, new_level, placed, with_drives, HasLengths}

-- where all that a node reads agrees, it is made the same
pub rule-agree : (c : Circuit) (stored inputs : List Level) (l m : Levels) (v : Read) → AllByRecursion (Agree l m) (node_reads c v) →
    new_level c stored inputs l v ≡ new_level c stored inputs m v
rule-agree c stored inputs l m (OfNet n) h = at (slice_get c.nets n) h
  where
    drives-of : (us : List ℕ) → AllByRecursion (Agree l m) (flat_map (λ u. driver_reads (slice_get c.units u)) us) →
        map (drive_of c l) us ≡ map (drive_of c m) us
    drives-of [] h = refl
    drives-of (u ∷ us) h =
        ap (λ (a : Level). a ∷ map (drive_of c l) us) (drive_at-agree l m (slice_get c.units u) (all_left _ (driver_reads (slice_get c.units u)) _ h))
        ∙ ap (λ (rest : List Level). drive_of c m u ∷ rest) (drives-of us (all_right _ (driver_reads (slice_get c.units u)) _ h))

    at : (o : Option Wire) → AllByRecursion (Agree l m) (reads_of_wire c o) → or_x (net_level c inputs l) o ≡ or_x (net_level c inputs m) o
    at None h = refl
    at (Some w) h = ap (level_by inputs w.kind w.pull) (drives-of w.drivers h)
rule-agree c stored inputs l m (OfRegister k) h = visible-agree l m c.registers stored k h

pub placed-other : (l : Levels) (v : Read) (x : Level) (w : Read) → (w ≡ v → ⊥) → node_level (placed l v x) w ≡ node_level l w
placed-other l (OfNet n) x (OfNet m) h = get_or-set_other l.nets n m x X (λ e. h (ap OfNet e))
placed-other l (OfNet n) x (OfRegister k) h = refl
placed-other l (OfRegister k) x (OfNet n) h = refl
placed-other l (OfRegister k) x (OfRegister j) h = get_or-set_other l.visible k j x X (λ e. h (ap OfRegister e))

pub placed-same : (c : Circuit) (l : Levels) (v : Read) (x : Level) → HasLengths c l → IsNode c v → node_level (placed l v x) v ≡ x
placed-same c l (OfNet n) x long node = get_or-set_same l.nets n x X (omega (arith, long.nets))
placed-same c l (OfRegister k) x long node = get_or-set_same l.visible k x X (omega (arith, long.visible))

pub placed-lengths : (c : Circuit) (l : Levels) (v : Read) (x : Level) → HasLengths c l → HasLengths c (placed l v x)
placed-lengths c l (OfNet n) x long = record { nets = length-set l.nets n x ∙ long.nets; drives = long.drives; visible = long.visible }
placed-lengths c l (OfRegister k) x long = record { nets = long.nets; drives = long.drives; visible = length-set l.visible k x ∙ long.visible }

-- a node of the board that is read is done
abbrev pub Done : Circuit → List Read → Read → Type 0
Done c done w = IsNode c w → Among w done

-- the nodes that are done are what the others make of them, and read no other nodes
pub record Progress (c : Circuit) (stored inputs : List Level) (rest : List Read) (l : Levels) : Type 0 where
  pub done : List Read
  pub fits : (v : Read) → Among v done → node_level l v ≡ new_level c stored inputs l v
  pub closed : (v : Read) → Among v done → AllByRecursion (Done c done) (node_reads c v)
  pub behind : GoesOn c done rest
  pub all : (v : Read) → IsNode c v → Among v done ⊎ Among v rest
  pub nodes : AllByRecursion (IsNode c) rest
  pub lengths : HasLengths c l

pub progress-start : (c : Circuit) (stored inputs : List Level) (order : List Read) (l : Levels) → IsOrder c order → HasLengths c l → Progress c stored inputs order l
progress-start c stored inputs order l is long = record {
  done = [];
  fits = λ v a. absurd a;
  closed = λ v a. absurd a;
  behind = is.behind;
  all = λ v node. inr (is.every v node);
  nodes = is.nodes;
  lengths = long;
}

-- a node that is done stays as it is where a new one is placed
pub reads-agree : (c : Circuit) (l : Levels) (v : Read) (x : Level) (done : List Read) → IsNode c v → (Among v done → ⊥) → (reads : List Read) →
    AllByRecursion (Done c done) reads → AllByRecursion (Agree l (placed l v x)) reads
reads-agree c l v x done node new reads h =
    all_mono (Done c done) (Agree l (placed l v x)) (λ w a. sym (placed-other l v x w (λ e. new (subst (Done c done) e a node)))) reads h

pub progress-next : (c : Circuit) (stored inputs : List Level) (v : Read) (vs : List Read) (l : Levels) →
    Progress c stored inputs (v ∷ vs) l → Progress c stored inputs vs (placed l v (new_level c stored inputs l v))
progress-next c stored inputs v vs l p = record {
  done = v ∷ p.done;
  fits = fits;
  closed = closed;
  behind = p.behind.2;
  all = λ u node. moved u (p.all u node);
  nodes = p.nodes.1;
  lengths = placed-lengths c l v _ p.lengths;
}
  where
    m : Levels
    m = placed l v (new_level c stored inputs l v)

    same : (u : Read) → AllByRecursion (Done c p.done) (node_reads c u) → new_level c stored inputs l u ≡ new_level c stored inputs (placed l v (new_level c stored inputs l v)) u
    same u h = rule-agree c stored inputs l (placed l v (new_level c stored inputs l v)) u (reads-agree c l v (new_level c stored inputs l v) p.done p.nodes.0 p.behind.0 (node_reads c u) h)

    fits : (u : Read) → Among u (v ∷ p.done) → node_level (placed l v (new_level c stored inputs l v)) u ≡ new_level c stored inputs (placed l v (new_level c stored inputs l v)) u
    fits u (inl e) = subst (λ (w : Read). node_level (placed l v (new_level c stored inputs l v)) w ≡ new_level c stored inputs (placed l v (new_level c stored inputs l v)) w) (sym e)
        (placed-same c l v (new_level c stored inputs l v) p.lengths p.nodes.0 ∙ same v p.behind.1)
    fits u (inr a) =
        placed-other l v (new_level c stored inputs l v) u (λ e. p.behind.0 (subst (λ (w : Read). Among w p.done) e a))
        ∙ p.fits u a ∙ same u (p.closed u a)

    wider : (reads : List Read) → AllByRecursion (Done c p.done) reads → AllByRecursion (Done c (v ∷ p.done)) reads
    wider reads h = all_mono (Done c p.done) (Done c (v ∷ p.done)) (λ w a node. inr (a node)) reads h

    closed : (u : Read) → Among u (v ∷ p.done) → AllByRecursion (Done c (v ∷ p.done)) (node_reads c u)
    closed u (inl e) = subst (λ (w : Read). AllByRecursion (Done c (v ∷ p.done)) (node_reads c w)) (sym e) (wider (node_reads c v) p.behind.1)
    closed u (inr a) = wider (node_reads c u) (p.closed u a)

    moved : (u : Read) → Among u p.done ⊎ Among u (v ∷ vs) → Among u (v ∷ p.done) ⊎ Among u vs
    moved u (inl a) = inl (inr a)
    moved u (inr (inl e)) = inl (inl e)
    moved u (inr (inr a)) = inr a

visible-length : (l : Levels) (rs : List Register) (ss : List Level) → length ss ≡ length rs → length (visible_levels l rs ss) ≡ length rs
visible-length l [] ss e = refl
visible-length l (r ∷ rs) [] e = absurd (omega arith)
visible-length l (r ∷ rs) (s ∷ ss) e = let rest : length (visible_levels l rs ss) ≡ length rs = visible-length l rs ss (omega arith) in omega arith

pub visible-at : (l : Levels) (rs : List Register) (ss : List Level) (k : ℕ) (d : Register) (s : Level) → k < length rs → k < length ss →
    level_at (visible_levels l rs ss) k ≡ visible_level l (get_or rs k d) (get_or ss k s)
visible-at l [] ss k d s lt within = absurd (omega arith)
visible-at l (r ∷ rs) [] k d s lt within = absurd (omega arith)
visible-at l (r ∷ rs) (q ∷ ss) zero d s lt within = refl
visible-at l (r ∷ rs) (q ∷ ss) (suc k) d s lt within = visible-at l rs ss k d s (omega arith) (omega arith)

agree-drives : (l : Levels) (drives : List Level) (v : Read) → Agree l (with_drives l drives) v
agree-drives l drives (OfNet n) = refl
agree-drives l drives (OfRegister k) = refl

-- a drive reads no other drive
pub same-drive : (l : Levels) (drives : List Level) (d : Driver) → drive_level l d ≡ drive_level (with_drives l drives) d
same-drive l drives d = drive-agree l (with_drives l drives) d (every _ _ (agree-drives l drives) (row_reads d.enable ++ gives_reads d.gives))

-- where all nodes fit and all drives are made anew, the levels are settled
pub nodes-settled : (c : Circuit) (stored inputs : List Level) (l : Levels) → length stored ≡ length c.registers → HasLengths c l → ((v : Read) → IsNode c v → node_level l v ≡ new_level c stored inputs l v) →
    IsSettled c stored inputs (with_drives l (map (drive_level l) c.units))
nodes-settled c stored inputs l long lengths node = record {
  nets = ext_get_or X l.nets (map (wire_level inputs m) c.nets) (lengths.nets ∙ sym (length-map c.nets (wire_level inputs m)))
      (λ n lt. node (OfNet n) (omega (arith, lengths.nets)) ∙ nets-at (slice_get c.nets n) ∙ sym (level_at-map (wire_level inputs m) c.nets n));
  drives = map-agree (drive_level l) (drive_level m) (same-drive l m.drives) c.units;
  visible = ext_get_or X l.visible (visible_levels l c.registers stored) (lengths.visible ∙ sym (visible-length l c.registers stored long))
      (λ k lt. node (OfRegister k) (omega (arith, lengths.visible)))
      ∙ visible_all-agree l m (agree-drives l m.drives) c.registers stored;
}
  where
    m : Levels
    m = with_drives l (map (drive_level l) c.units)

    nets-at : (o : Option Wire) → or_x (net_level c inputs l) o ≡ or_x (wire_level inputs (with_drives l (map (drive_level l) c.units))) o
    nets-at None = refl
    nets-at (Some w) = ap (level_by inputs w.kind w.pull) (map-agree (drive_of c l) (level_at (map (drive_level l) c.units)) (λ u. sym (level_at-map (drive_level l) c.units u)) w.drivers)

-- with all nodes done and all drives made anew, the levels are settled
pub progress-settled : (c : Circuit) (stored inputs : List Level) (l : Levels) → length stored ≡ length c.registers → Progress c stored inputs [] l →
    IsSettled c stored inputs (with_drives l (map (drive_level l) c.units))
progress-settled c stored inputs l long p = nodes-settled c stored inputs l long p.lengths (λ v is. by v (p.all v is))
  where
    by : (v : Read) → Among v p.done ⊎ Among v [] → node_level l v ≡ new_level c stored inputs l v
    by v (inl a) = p.fits v a
    by v (inr a) = absurd a

-- one drive on
pub drives-next : (f : Driver → Level) (units : List Driver) (old : List Level) (i : ℕ) (d : Driver) → i < length units → i < length old →
    slice_set (map f (take i units) ++ drop i old) i (f (get_or units i d)) ≡ map f (take (i + 1) units) ++ drop (i + 1) old
drives-next f units old i d lt within =
    let long : length (map f (take i units)) ≡ i = length-map (take i units) f ∙ length-take-le i units (omega arith) in
    ap (λ (rest : List Level). slice_set (map f (take i units) ++ rest) i (f (get_or units i d))) (drop_more old i X within)
    ∙ set_at (map f (take i units)) (get_or old i X) (drop (i + 1) old) (f (get_or units i d)) i long
    ∙ sym (append_assoc (map f (take i units)) (f (get_or units i d) ∷ []) (drop (i + 1) old))
    ∙ ap (λ (made : List Level). made ++ drop (i + 1) old) (sym (map-append f (take i units) (get_or units i d ∷ [])))
    ∙ ap (λ (some : List Driver). map f some ++ drop (i + 1) old) (sym (take_more units i d lt))

-- one more of the drives made anew
pub drives-more : (start out : Levels) (units items : List Driver) (i : ℕ) (d : Driver) (x : Level) (drives : List Level) →
    items ≡ units → i < length items → length start.drives ≡ length units →
    out ≡ with_drives start (map (drive_level start) (take i units) ++ drop i start.drives) →
    d ≡ get_or items i d → x ≡ drive_level out d → drives ≡ slice_set out.drives i x →
    with_drives out drives ≡ with_drives start (map (drive_level start) (take (i + 1) units) ++ drop (i + 1) start.drives)
drives-more start out units items i d x drives same lt long before item made placed =
    let so_far = map (drive_level start) (take i units) ++ drop i start.drives in
    let within : i < length units = omega (arith, ap length same) in
    let here : d ≡ get_or units i d = item ∙ ap (λ (us : List Driver). get_or us i d) same in
    let level : x ≡ drive_level start (get_or units i d) =
    made ∙ ap (λ (l : Levels). drive_level l d) before ∙ sym (same-drive start so_far d) ∙ ap (drive_level start) here in
    let next : drives ≡ map (drive_level start) (take (i + 1) units) ++ drop (i + 1) start.drives =
    placed ∙ ap (λ (l : Levels). slice_set l.drives i x) before ∙ ap (slice_set so_far i) level
    ∙ drives-next (drive_level start) units start.drives i d within (omega (arith, within, long)) in
    ap (λ (l : Levels). with_drives l drives) before ∙ ap (with_drives start) next

-- a register made anew
pub register-renewed : (c : Circuit) (stored inputs : List Level) (l : Levels) (items : List Register) (k : ℕ) (r : Register) (x d : Level) (seen : List Level) →
    length stored ≡ length c.registers → k < length c.registers → items ≡ c.registers → r ≡ get_or items k r →
    x ≡ visible_level l r (get_or stored k d) → seen ≡ slice_set l.visible k x →
    ◌≡◌ {A = Levels} (record { nets = l.nets; drives = l.drives; visible = seen }) (placed l (OfRegister k) (new_level c stored inputs l (OfRegister k)))
register-renewed c stored inputs l items k r x d seen long lt same item level put =
    let here : r ≡ get_or c.registers k r = item ∙ ap (λ (rs : List Register). get_or rs k r) same in
    let made : x ≡ level_at (visible_levels l c.registers stored) k =
    level ∙ ap (λ (q : Register). visible_level l q (get_or stored k d)) here ∙ sym (visible-at l c.registers stored k r d lt (omega arith)) in
    let whole : seen ≡ slice_set l.visible k (level_at (visible_levels l c.registers stored) k) = put ∙ ap (slice_set l.visible k) made in
    λ i. record { nets = l.nets; drives = l.drives; visible = whole i }

-- the visible Q of a register that is there
pub visible-here : (c : Circuit) (stored : List Level) (l : Levels) (items : List Register) (k : ℕ) (r : Register) (x d : Level) → items ≡ c.registers → k < length items → k < length stored →
    r ≡ get_or items k r → x ≡ visible_level l r (get_or stored k d) → x ≡ visible_of c stored l k
visible-here c stored l items k r x d same lt within item level =
    let here : r ≡ get_or c.registers k r = item ∙ ap (λ (rs : List Register). get_or rs k r) same in
    level ∙ ap (λ (q : Register). visible_level l q (get_or stored k d)) here
    ∙ sym (visible-at l c.registers stored k r d (subst (λ (rs : List Register). k < length rs) same lt) within)

-- there is none behind the registers, nor behind what is stored
pub visible-past : (l : Levels) (rs : List Register) (ss : List Level) (k : ℕ) → length rs ≤ k ⊎ length ss ≤ k → X ≡ level_at (visible_levels l rs ss) k
visible-past l [] ss k past = refl
visible-past l (r ∷ rs) [] k past = refl
visible-past l (r ∷ rs) (s ∷ ss) zero (inl past) = absurd (omega arith)
visible-past l (r ∷ rs) (s ∷ ss) zero (inr past) = absurd (omega arith)
visible-past l (r ∷ rs) (s ∷ ss) (suc k) (inl past) = visible-past l rs ss k (inl (omega arith))
visible-past l (r ∷ rs) (s ∷ ss) (suc k) (inr past) = visible-past l rs ss k (inr (omega arith))

pub visible-past_registers : (c : Circuit) (stored : List Level) (l : Levels) (items : List Register) (k : ℕ) → items ≡ c.registers → length items ≤ k → X ≡ visible_of c stored l k
visible-past_registers c stored l items k same past = visible-past l c.registers stored k (inl (subst (λ (rs : List Register). length rs ≤ k) same past))
