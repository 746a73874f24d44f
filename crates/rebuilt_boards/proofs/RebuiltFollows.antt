-- A rebuilt board stands for the old one, where each of its units and registers does.
use Rattle.std.proofs.Common.{ℕ, zero, suc, ◌≡◌, ◌<◌, cond, ◌&&◌, List, [], ◌∷◌, map, length, Option, Some, None, refl, sym, ap, ◌∙◌, subst, inl, inr}
use Rattle.std.specs.List.{flat_map, AllByRecursion, slice_get}
use Rattle.std.specs.Prelude.{replicate}
use Rattle.std.specs.Option.{option_map}
use Rattle.std.proofs.lemmas.Option.{slice_get-map}
use Rattle.mig_base.specs.declared.levels.Level.{Level}
use Rattle.mig_base.specs.declared.levels.Level.TheVariants.{Zero, One}
use Rattle.mig_base.specs.declared.nets.Net.{Net}
use Rattle.mig_base.specs.declared.circuit.Read.{Read}
use Rattle.mig_base.specs.declared.circuit.Read.TheVariants.{OfNet, OfRegister}
use Rattle.mig_base.specs.declared.circuit.Driver.{Driver}
use Rattle.mig_base.specs.declared.circuit.Register.{Register}
use Rattle.mig_base.specs.declared.circuit.Wire.{Wire}
use Rattle.mig_base.specs.declared.circuit.Circuit.{Circuit}
use Rattle.mig_base.specs.declared.circuit.Levels.{Levels}
use Rattle.mig_base.specs.Levels.{not3, and3, level_at, same_level, or_x}
use Rattle.mig_base.specs.Values.{row_value, row_reads}
use Rattle.mig_base.specs.Reads.{driver_reads, reads_of_wire, reads_of_register, node_reads, edge_reads}
use Rattle.mig_base.specs.Among.{Among}
use Rattle.mig_base.specs.Boards.{ChipUnit, is_registered, registers_of, driver_of, register_of, circuit_on}
use Rattle.mig_base.proofs.ListLaws.{all-append}
use Rattle.mig_base.proofs.Amongs.{among-get}
use Rattle.level_laws.specs.Settled.{IsSettled, drive_level, wire_level, level_by, visible_levels}
use Rattle.level_laws.specs.Runs.{clock_by, clock_level, rises, taken, next_stored, shown_levels, power_up}
use Rattle.level_laws.specs.SameBehaviour.{IsLawful}
use Rattle.level_laws.specs.Follows.{SameAt, Follows}
use Rattle.level_laws.proofs.Unique.{level_at-map, all_left, all_right}
use Rattle.new_board.specs.NewChip.{OldBoard, NewChip, private_from}
use Rattle.new_board.proofs.Items.{filter-map, map-twice}
use Rattle.new_board.proofs.Variables.{AliasesFit}
use Rattle.rebuilt_boards.proofs.RebuiltCircuit.{board_of, rebuilt_unit, rebuilt_units, rebuilt_circuit, old_net, old-named, UnitsFit, named-wire}
use Rattle.new_board.proofs.NewWiring.{rebuilt_net, NumbersFit}

-- the old node of a node of the new board
abbrev pub old_read : OldBoard → List NewChip → (ℕ → ℕ) → Read → Read
old_read b news old (OfNet n) = OfNet (old_net b news old n)
old_read b news old (OfRegister k) = OfRegister k

-- a net that has the wire of its old net, and each register
abbrev pub IsKept : OldBoard → List NewChip → (ℕ → ℕ) → Read → Type 0
IsKept b news old (OfNet n) = slice_get (rebuilt_circuit b news).nets n ≡ slice_get b.circuit.nets (old_net b news old n)
IsKept b news old (OfRegister k) = Unit {0}

-- a driver of the new board has the level of the old one, as far as what it reads has
pub record DriverFits (b : OldBoard) (news : List NewChip) (old : ℕ → ℕ) (d new : Driver) : Type 0 where
  pub reads : AllByRecursion (IsKept b news old) (driver_reads (Some new))
  pub level : (l m : Levels) → AliasesFit b.circuit l → AllByRecursion (SameAt (old_read b news old) l m) (driver_reads (Some new)) → drive_level l d ≡ drive_level m new

-- a register likewise
pub record RegisterFits (b : OldBoard) (news : List NewChip) (old : ℕ → ℕ) (r new : Register) : Type 0 where
  pub resets : AllByRecursion (IsKept b news old) (row_reads new.reset)
  pub reads : AllByRecursion (IsKept b news old) (edge_reads new)
  pub reset : (l m : Levels) → AliasesFit b.circuit l → AllByRecursion (SameAt (old_read b news old) l m) (row_reads new.reset) → row_value l r.reset ≡ row_value m new.reset
  pub next : (l m : Levels) → AliasesFit b.circuit l → AllByRecursion (SameAt (old_read b news old) l m) (edge_reads new) → taken l r ≡ taken m new
  pub clock : slice_get (rebuilt_circuit b news).nets new.clock ≡ slice_get b.circuit.nets r.clock

-- what makes a rebuilt board stand for the old one
pub record BoardFits (net : Net) (units : List ChipUnit) (news : List NewChip) (old : ℕ → ℕ) : Type 0 where
  pub numbers : NumbersFit (board_of net units) news old
  pub units_fit : UnitsFit (board_of net units) news
  pub drivers : (u : ChipUnit) → Among u units → DriverFits (board_of net units) news old (driver_of net units u)
      (driver_of (rebuilt_net (board_of net units) news) (rebuilt_units (board_of net units) news) (rebuilt_unit (board_of net units) news u))
  pub registered : (u : ChipUnit) → Among u units → is_registered (rebuilt_unit (board_of net units) news u) ≡ is_registered u
  pub registers : (u : ChipUnit) → Among u (registers_of units) → RegisterFits (board_of net units) news old (register_of net units u)
      (register_of (rebuilt_net (board_of net units) news) (rebuilt_units (board_of net units) news) (rebuilt_unit (board_of net units) news u))
  pub aliases : (stored inputs : List Level) (l : Levels) → IsSettled (circuit_on net units) stored inputs l → AliasesFit (circuit_on net units) l
  pub ports : (circuit_on net units).ports ≡ map old (rebuilt_circuit (board_of net units) news).ports
  pub ports_named : (n : ℕ) → Among n (rebuilt_circuit (board_of net units) news).ports → n < private_from (rebuilt_net (board_of net units) news)

-- visible levels of registers that are made from the same list

visible-at : {T : Type 0} (P : Read → Type 0) (f g : T → Register) (l m : Levels) (us : List T) (ss : List Level) (k : ℕ) →
    ((u : T) → Among u us → AllByRecursion P (row_reads (g u).reset) → row_value l (f u).reset ≡ row_value m (g u).reset) →
    AllByRecursion P (reads_of_register (slice_get (map g us) k)) →
    level_at (visible_levels l (map f us) ss) k ≡ level_at (visible_levels m (map g us) ss) k
visible-at P f g l m [] ss k h reads = refl
visible-at P f g l m (u ∷ us) [] k h reads = refl
visible-at P f g l m (u ∷ us) (s ∷ ss) zero h reads = ap (λ (a : Level). and3 s (not3 a)) (h u (inl refl) reads)
visible-at P f g l m (u ∷ us) (s ∷ ss) (suc k) h reads = visible-at P f g l m us ss k (λ v a. h v (inr a)) reads

visible-all : {T : Type 0} (f g : T → Register) (l m : Levels) (us : List T) (ss : List Level) →
    ((u : T) → Among u us → row_value l (f u).reset ≡ row_value m (g u).reset) → visible_levels l (map f us) ss ≡ visible_levels m (map g us) ss
visible-all f g l m [] ss h = refl
visible-all f g l m (u ∷ us) [] h = refl
visible-all f g l m (u ∷ us) (s ∷ ss) h =
    ap (λ (a : Level). and3 s (not3 a) ∷ visible_levels l (map f us) ss) (h u (inl refl))
    ∙ ap (λ (rest : List Level). and3 s (not3 (row_value m (g u).reset)) ∷ rest) (visible-all f g l m us ss (λ v a. h v (inr a)))

next-all : {T : Type 0} (a c : Circuit) (f g : T → Register) (l m : Levels) (last inputs : List Level) (us : List T) (qs : List Level) →
    ((u : T) → Among u us → taken l (f u) ≡ taken m (g u)) → ((u : T) → Among u us → slice_get c.nets (g u).clock ≡ slice_get a.nets (f u).clock) →
    next_stored a l last inputs (map f us) qs ≡ next_stored c m last inputs (map g us) qs
next-all a c f g l m last inputs [] qs h clock = refl
next-all a c f g l m last inputs (u ∷ us) [] h clock = refl
next-all a c f g l m last inputs (u ∷ us) (q ∷ qs) h clock =
    let same : (now : List Level) → clock_level a now (f u).clock ≡ clock_level c now (g u).clock = λ now. ap (or_x (λ w. clock_by now w.kind)) (sym (clock u (inl refl))) in
    ap (λ (t : Level). cond (rises a last inputs (f u).clock) t q ∷ next_stored a l last inputs (map f us) qs) (h u (inl refl))
    ∙ ap (λ (t : Level). cond (same_level t Zero && same_level (clock_level a inputs (f u).clock) One) (taken m (g u)) q ∷ next_stored a l last inputs (map f us) qs) (same last)
    ∙ ap (λ (t : Level). cond (same_level (clock_level c last (g u).clock) Zero && same_level t One) (taken m (g u)) q ∷ next_stored a l last inputs (map f us) qs) (same inputs)
    ∙ ap (λ (rest : List Level). cond (rises c last inputs (g u).clock) (taken m (g u)) q ∷ rest) (next-all a c f g l m last inputs us qs (λ v a. h v (inr a)) (λ v a. clock v (inr a)))

length-mapped : {T S R : Type 0} (f : T → S) (g : T → R) (xs : List T) → length (map f xs) ≡ length (map g xs)
length-mapped f g [] = refl
length-mapped f g (x ∷ xs) = ap suc (length-mapped f g xs)

abbrev new_driver : Net → List ChipUnit → List NewChip → ChipUnit → Driver
new_driver net units news u = driver_of (rebuilt_net (board_of net units) news) (rebuilt_units (board_of net units) news) (rebuilt_unit (board_of net units) news u)

abbrev new_register : Net → List ChipUnit → List NewChip → ChipUnit → Register
new_register net units news u = register_of (rebuilt_net (board_of net units) news) (rebuilt_units (board_of net units) news) (rebuilt_unit (board_of net units) news u)

-- a rebuilt board that fits stands for the old one
pub rebuilt-follows : (net : Net) (units : List ChipUnit) (news : List NewChip) (old : ℕ → ℕ) → BoardFits net units news old →
    Follows (circuit_on net units) (rebuilt_circuit (board_of net units) news) (old_read (board_of net units) news old) (IsKept (board_of net units) news old) (λ sa sb. sa ≡ sb)
rebuilt-follows net units news old fit = record { closed = closed; local = local; ports = ports; step = step; start = start }
  where
    new_units : (rebuilt_circuit (board_of net units) news).units ≡ map (new_driver net units news) units
    new_units = map-twice (driver_of (rebuilt_net (board_of net units) news) (rebuilt_units (board_of net units) news)) (rebuilt_unit (board_of net units) news) units

    new_registers : (rebuilt_circuit (board_of net units) news).registers ≡ map (new_register net units news) (registers_of units)
    new_registers =
        ap (map (register_of (rebuilt_net (board_of net units) news) (rebuilt_units (board_of net units) news))) (filter-map is_registered is_registered (rebuilt_unit (board_of net units) news) units fit.registered)
        ∙ map-twice (register_of (rebuilt_net (board_of net units) news) (rebuilt_units (board_of net units) news)) (rebuilt_unit (board_of net units) news) (registers_of units)

    unit_at : (i : ℕ) → slice_get (rebuilt_circuit (board_of net units) news).units i ≡ option_map (new_driver net units news) (slice_get units i)
    unit_at i = ap (λ (us : List Driver). slice_get us i) new_units ∙ slice_get-map (new_driver net units news) units i

    register_at : (k : ℕ) → slice_get (rebuilt_circuit (board_of net units) news).registers k ≡ option_map (new_register net units news) (slice_get (registers_of units) k)
    register_at k = ap (λ (rs : List Register). slice_get rs k) new_registers ∙ slice_get-map (new_register net units news) (registers_of units) k

    unit_kept : (i : ℕ) → AllByRecursion (IsKept (board_of net units) news old) (driver_reads (slice_get (rebuilt_circuit (board_of net units) news).units i))
    unit_kept i = subst (λ (o : Option Driver). AllByRecursion (IsKept (board_of net units) news old) (driver_reads o)) (sym (unit_at i)) (at (slice_get units i) refl)
      where
        at : (o : Option ChipUnit) → slice_get units i ≡ o → AllByRecursion (IsKept (board_of net units) news old) (driver_reads (option_map (new_driver net units news) o))
        at None e = tt
        at (Some u) e = (fit.drivers u (among-get units i u e)).reads

    units_kept : (is : List ℕ) → AllByRecursion (IsKept (board_of net units) news old) (flat_map (λ i. driver_reads (slice_get (rebuilt_circuit (board_of net units) news).units i)) is)
    units_kept [] = tt
    units_kept (i ∷ is) = all-append (IsKept (board_of net units) news old) (driver_reads (slice_get (rebuilt_circuit (board_of net units) news).units i)) _ (unit_kept i) (units_kept is)

    closed : (v : Read) → IsKept (board_of net units) news old v → AllByRecursion (IsKept (board_of net units) news old) (node_reads (rebuilt_circuit (board_of net units) news) v)
    closed (OfNet n) kept = at (slice_get (rebuilt_circuit (board_of net units) news).nets n)
      where
        at : (o : Option Wire) → AllByRecursion (IsKept (board_of net units) news old) (reads_of_wire (rebuilt_circuit (board_of net units) news) o)
        at None = tt
        at (Some w) = units_kept w.drivers
    closed (OfRegister k) kept = subst (λ (o : Option Register). AllByRecursion (IsKept (board_of net units) news old) (reads_of_register o)) (sym (register_at k)) (at (slice_get (registers_of units) k) refl)
      where
        at : (o : Option ChipUnit) → slice_get (registers_of units) k ≡ o → AllByRecursion (IsKept (board_of net units) news old) (reads_of_register (option_map (new_register net units news) o))
        at None e = tt
        at (Some u) e = (fit.registers u (among-get (registers_of units) k u e)).resets

    drive_at : (sa sb inputs : List Level) (l m : Levels) → IsSettled (circuit_on net units) sa inputs l → IsSettled (rebuilt_circuit (board_of net units) news) sb inputs m → (i : ℕ) →
        AllByRecursion (SameAt (old_read (board_of net units) news old) l m) (driver_reads (slice_get (rebuilt_circuit (board_of net units) news).units i)) → level_at l.drives i ≡ level_at m.drives i
    drive_at sa sb inputs l m sl sm i reads =
        ap (λ (ds : List Level). level_at ds i) sl.drives ∙ level_at-map (drive_level l) (circuit_on net units).units i
        ∙ ap (or_x (drive_level l)) (slice_get-map (driver_of net units) units i)
        ∙ at (slice_get units i) refl (subst (λ (o : Option Driver). AllByRecursion (SameAt (old_read (board_of net units) news old) l m) (driver_reads o)) (unit_at i) reads)
        ∙ ap (or_x (drive_level m)) (sym (unit_at i))
        ∙ sym (level_at-map (drive_level m) (rebuilt_circuit (board_of net units) news).units i) ∙ sym (ap (λ (ds : List Level). level_at ds i) sm.drives)
      where
        at : (o : Option ChipUnit) → slice_get units i ≡ o → AllByRecursion (SameAt (old_read (board_of net units) news old) l m) (driver_reads (option_map (new_driver net units news) o)) →
            or_x (drive_level l) (option_map (driver_of net units) o) ≡ or_x (drive_level m) (option_map (new_driver net units news) o)
        at None e reads = refl
        at (Some u) e reads = (fit.drivers u (among-get units i u e)).level l m (fit.aliases sa inputs l sl) reads

    drives_at : (sa sb inputs : List Level) (l m : Levels) → IsSettled (circuit_on net units) sa inputs l → IsSettled (rebuilt_circuit (board_of net units) news) sb inputs m → (is : List ℕ) →
        AllByRecursion (SameAt (old_read (board_of net units) news old) l m) (flat_map (λ i. driver_reads (slice_get (rebuilt_circuit (board_of net units) news).units i)) is) → map (level_at l.drives) is ≡ map (level_at m.drives) is
    drives_at sa sb inputs l m sl sm [] reads = refl
    drives_at sa sb inputs l m sl sm (i ∷ is) reads =
        ap (λ (d : Level). d ∷ map (level_at l.drives) is) (drive_at sa sb inputs l m sl sm i (all_left _ (driver_reads (slice_get (rebuilt_circuit (board_of net units) news).units i)) _ reads))
        ∙ ap (λ (rest : List Level). level_at m.drives i ∷ rest) (drives_at sa sb inputs l m sl sm is (all_right _ (driver_reads (slice_get (rebuilt_circuit (board_of net units) news).units i)) _ reads))

    local : (sa sb inputs : List Level) (l m : Levels) → sa ≡ sb → IsLawful (circuit_on net units) inputs → IsSettled (circuit_on net units) sa inputs l → IsSettled (rebuilt_circuit (board_of net units) news) sb inputs m →
        (v : Read) → IsKept (board_of net units) news old v → AllByRecursion (SameAt (old_read (board_of net units) news old) l m) (node_reads (rebuilt_circuit (board_of net units) news) v) → SameAt (old_read (board_of net units) news old) l m v
    local sa sb inputs l m s lawful sl sm (OfNet n) kept reads =
        ap (λ (ns : List Level). level_at ns (old_net (board_of net units) news old n)) sl.nets ∙ level_at-map (wire_level inputs l) (circuit_on net units).nets (old_net (board_of net units) news old n)
        ∙ ap (or_x (wire_level inputs l)) (sym kept)
        ∙ at (slice_get (rebuilt_circuit (board_of net units) news).nets n) reads
        ∙ sym (level_at-map (wire_level inputs m) (rebuilt_circuit (board_of net units) news).nets n) ∙ sym (ap (λ (ns : List Level). level_at ns n) sm.nets)
      where
        at : (o : Option Wire) → AllByRecursion (SameAt (old_read (board_of net units) news old) l m) (reads_of_wire (rebuilt_circuit (board_of net units) news) o) → or_x (wire_level inputs l) o ≡ or_x (wire_level inputs m) o
        at None reads = refl
        at (Some w) reads = ap (level_by inputs w.kind w.pull) (drives_at sa sb inputs l m sl sm w.drivers reads)
    local sa sb inputs l m s lawful sl sm (OfRegister k) kept reads =
        ap (λ (vs : List Level). level_at vs k) sl.visible
        ∙ visible-at (SameAt (old_read (board_of net units) news old) l m) (register_of net units) (new_register net units news) l m (registers_of units) sa k
        (λ u a reads. (fit.registers u a).reset l m (fit.aliases sa inputs l sl) reads)
        (subst (λ (rs : List Register). AllByRecursion (SameAt (old_read (board_of net units) news old) l m) (reads_of_register (slice_get rs k))) new_registers reads)
        ∙ ap (λ (rs : List Register). level_at (visible_levels m rs sa) k) (sym new_registers)
        ∙ ap (λ (ss : List Level). level_at (visible_levels m (rebuilt_circuit (board_of net units) news).registers ss) k) s
        ∙ sym (ap (λ (vs : List Level). level_at vs k) sm.visible)

    ports : (l m : Levels) → ((v : Read) → IsKept (board_of net units) news old v → SameAt (old_read (board_of net units) news old) l m v) → shown_levels (circuit_on net units) l ≡ shown_levels (rebuilt_circuit (board_of net units) news) m
    ports l m same = ap (map (level_at l.nets)) fit.ports ∙ at (rebuilt_circuit (board_of net units) news).ports fit.ports_named
      where
        at : (ns : List ℕ) → ((n : ℕ) → Among n ns → n < private_from (rebuilt_net (board_of net units) news)) → map (level_at l.nets) (map old ns) ≡ map (level_at m.nets) ns
        at [] named = refl
        at (n ∷ ns) named =
            let is : old_net (board_of net units) news old n ≡ old n = old-named (board_of net units) news old n (named n (inl refl)) in
            let kept : IsKept (board_of net units) news old (OfNet n) = named-wire (board_of net units) news old n fit.numbers fit.units_fit (named n (inl refl)) ∙ ap (slice_get (circuit_on net units).nets) (sym is) in
            ap (λ (x : Level). x ∷ map (level_at l.nets) (map old ns)) (ap (level_at l.nets) (sym is) ∙ same (OfNet n) kept)
            ∙ ap (λ (rest : List Level). level_at m.nets n ∷ rest) (at ns (λ k a. named k (inr a)))

    step : (sa sb last inputs : List Level) (l m : Levels) → sa ≡ sb → IsLawful (circuit_on net units) last → IsLawful (circuit_on net units) inputs →
        IsSettled (circuit_on net units) sa last l → IsSettled (rebuilt_circuit (board_of net units) news) sb last m → ((v : Read) → IsKept (board_of net units) news old v → SameAt (old_read (board_of net units) news old) l m v) →
        next_stored (circuit_on net units) l last inputs (circuit_on net units).registers l.visible ≡ next_stored (rebuilt_circuit (board_of net units) news) m last inputs (rebuilt_circuit (board_of net units) news).registers m.visible
    step sa sb last inputs l m s was lawful sl sm same =
        let fit_l : AliasesFit (circuit_on net units) l = fit.aliases sa last l sl in
        let kept : (reads : List Read) → AllByRecursion (IsKept (board_of net units) news old) reads → AllByRecursion (SameAt (old_read (board_of net units) news old) l m) reads = λ reads h. all_same reads h in
        let visible : l.visible ≡ m.visible =
        sl.visible
        ∙ visible-all (register_of net units) (new_register net units news) l m (registers_of units) sa
        (λ u a. (fit.registers u a).reset l m fit_l (kept (row_reads (new_register net units news u).reset) (fit.registers u a).resets))
        ∙ ap (λ (rs : List Register). visible_levels m rs sa) (sym new_registers)
        ∙ ap (visible_levels m (rebuilt_circuit (board_of net units) news).registers) s ∙ sym sm.visible in
        next-all (circuit_on net units) (rebuilt_circuit (board_of net units) news) (register_of net units) (new_register net units news) l m last inputs (registers_of units) l.visible
        (λ u a. (fit.registers u a).next l m fit_l (kept (edge_reads (new_register net units news u)) (fit.registers u a).reads))
        (λ u a. (fit.registers u a).clock)
        ∙ ap (λ (rs : List Register). next_stored (rebuilt_circuit (board_of net units) news) m last inputs rs l.visible) (sym new_registers)
        ∙ ap (next_stored (rebuilt_circuit (board_of net units) news) m last inputs (rebuilt_circuit (board_of net units) news).registers) visible
      where
        all_same : (reads : List Read) → AllByRecursion (IsKept (board_of net units) news old) reads → AllByRecursion (SameAt (old_read (board_of net units) news old) l m) reads
        all_same [] h = tt
        all_same (v ∷ vs) h = (same v h.0, all_same vs h.1)

    start : power_up (circuit_on net units) ≡ power_up (rebuilt_circuit (board_of net units) news)
    start = ap (λ (n : ℕ). replicate n Zero) (length-mapped (register_of net units) (new_register net units news) (registers_of units) ∙ ap length (sym new_registers))
