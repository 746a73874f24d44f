-- A board that carries another follows it: kept nodes have the levels of their old ones.
use Rattle.std.proofs.Common.{ℕ, zero, suc, ◌≡◌, ◌<◌, true, false, cond, ◌&&◌, List, [], ◌∷◌, map, length, Option, Some, None, refl, sym, ap, ◌∙◌, subst, inl, inr}
use Rattle.std.specs.Prelude.{replicate}
use Rattle.std.specs.List.{AllByRecursion, flat_map, slice_get}
use Rattle.std.specs.Option.{option_map, unwrap_or}
use Rattle.std.proofs.lemmas.Option.{same_Some, slice_get_within, slice_get_read, unwrap_or-slice_get}
use Rattle.std.proofs.lemmas.List.{get_or-replicate, length-replicate}
use Rattle.mig_base.specs.declared.levels.Level.{Level}
use Rattle.mig_base.specs.declared.levels.Level.TheVariants.{Zero, One, X}
use Rattle.mig_base.specs.declared.nets.Pull.{Pull}
use Rattle.mig_base.specs.declared.circuit.Read.{Read}
use Rattle.mig_base.specs.declared.circuit.Read.TheVariants.{OfNet, OfRegister}
use Rattle.mig_base.specs.declared.circuit.Register.{Register}
use Rattle.mig_base.specs.declared.circuit.NetKind.{NetKind}
use Rattle.mig_base.specs.declared.circuit.Wire.{Wire}
use Rattle.mig_base.specs.declared.circuit.Circuit.{Circuit}
use Rattle.mig_base.specs.declared.circuit.Levels.{Levels}
use Rattle.mig_base.specs.Accepted.{IsAccepted}
use Rattle.mig_base.specs.Among.{Among}
use Rattle.mig_base.specs.Levels.{read_level, not3, and3, level_at, or_x, is_driven, same_level}
use Rattle.mig_base.specs.Reads.{driver_reads, reads_of_wire, reads_of_register, node_reads, edge_reads}
use Rattle.mig_base.specs.Values.{source_level, row_value, row_reads}
use Rattle.level_laws.specs.Follows.{Follows, SameAt}
use Rattle.level_laws.specs.Runs.{clock_by, clock_level, rises, taken, next_stored, power_up}
use Rattle.level_laws.specs.SameBehaviour.{IsLawful}
use Rattle.level_laws.specs.Settled.{IsSettled, level_by, visible_level, visible_levels}
use Rattle.level_laws.proofs.Unique.{all_left, all_right}
use Rattle.level_laws.proofs.ClockLevels.{net-settled}
use Rattle.ranks.proofs.NoLoops.{all_mono}
use Rattle.level_laws.proofs.PureNodes.{settled-pure}
use Rattle.level_laws.proofs.PureSteps.{step-pure, start-pure}
use Rattle.mig_base.proofs.Amongs.{among-map, map-among}
use Rattle.fitting_levels.specs.Fitting.{AreFitting, net_kind, wire_kind}
use Rattle.fitting_levels.specs.Wired.{IsWired}
use Rattle.carried_boards.specs.Carries.{Numbers, old_node, through, Kept, IsKept, StandsFor, IsCarriedNet, Carries, StoreAlike}
use Rattle.carried_boards.proofs.Resolving.{IsWithin, net-same}
use Rattle.fitting_levels.proofs.ByLevels.{gate-by, taken-by, drive_at-by, drive_at-alike, gate-alike, taken-alike}
use Rattle.fitting_levels.proofs.Fitting.{settled-fit}

-- lists

all-part : {T S : Type 0} (P : S → Type 0) (f : T → List S) (x : T) (xs : List T) → AllByRecursion P (flat_map f xs) → Among x xs → AllByRecursion P (f x)
all-part P f x [] h a = absurd a
all-part P f x (y ∷ ys) h (inl e) = subst (λ z. AllByRecursion P (f z)) (sym e) (all_left P (f y) (flat_map f ys) h)
all-part P f x (y ∷ ys) h (inr a) = all-part P f x ys (all_right P (f y) (flat_map f ys) h) a

replicate-get : {T : Type 0} (n k : ℕ) (x : T) → k < n → slice_get (replicate n x) k ≡ Some x
replicate-get n k x h = slice_get_read (replicate n x) n k x (sym (length-replicate n x)) h (sym (get_or-replicate n k x x h))

-- levels at places that hold the same
pub level-same : (xs ys : List Level) (i j : ℕ) → slice_get xs i ≡ slice_get ys j → level_at xs i ≡ level_at ys j
level-same xs ys i j e = sym (unwrap_or-slice_get xs i X) ∙ ap (λ (o : Option Level). unwrap_or o X) e ∙ unwrap_or-slice_get ys j X

-- what a register shows and what it stores next, by its number

visible-get : (l : Levels) (rs : List Register) (ss : List Level) (k : ℕ) (r : Register) → slice_get rs k ≡ Some r →
    slice_get (visible_levels l rs ss) k ≡ option_map (visible_level l r) (slice_get ss k)
visible-get l [] ss k r e = cc
visible-get l (p ∷ rs) [] k r e = refl
visible-get l (p ∷ rs) (s ∷ ss) zero r e = ap (λ (q : Register). Some (visible_level l q s)) (same_Some p r e)
visible-get l (p ∷ rs) (s ∷ ss) (suc k) r e = visible-get l rs ss k r e

next-get : (c : Circuit) (l : Levels) (before now : List Level) (rs : List Register) (qs : List Level) (k : ℕ) (r : Register) → slice_get rs k ≡ Some r →
    slice_get (next_stored c l before now rs qs) k ≡ option_map (λ (q : Level). cond (rises c before now r.clock) (taken l r) q) (slice_get qs k)
next-get c l before now [] qs k r e = cc
next-get c l before now (p ∷ rs) [] k r e = refl
next-get c l before now (p ∷ rs) (q ∷ qs) zero r e = ap (λ (x : Register). Some (cond (rises c before now x.clock) (taken l x) q)) (same_Some p r e)
next-get c l before now (p ∷ rs) (q ∷ qs) (suc k) r e = next-get c l before now rs qs k r e

clock-kind : (c : Circuit) (now : List Level) (n : ℕ) → clock_level c now n ≡ or_x (clock_by now) (net_kind c n)
clock-kind c now n = at (slice_get c.nets n)
  where
    at : (o : Option Wire) → or_x (λ (w : Wire). clock_by now w.kind) o ≡ or_x (clock_by now) (wire_kind o)
    at None = refl
    at (Some w) = refl

clock-same : (a b : Circuit) (now : List Level) (n m : ℕ) → net_kind a n ≡ net_kind b m → clock_level a now n ≡ clock_level b now m
clock-same a b now n m e = clock-kind a now n ∙ ap (or_x (clock_by now)) e ∙ sym (clock-kind b now m)

module _ (a b : Circuit) (absorbed : List ℕ) (old : Numbers) (kept : Kept) (c : Carries a b absorbed old kept) (accepted : IsAccepted a) (wired : IsWired a) where
  abbrev Alike : Levels → Levels → Read → Type 0
  Alike l m v = SameAt (old_node old) l m v

  source-same : (l m : Levels) (v : Read) → Alike l m v → through old (source_level l) v ≡ source_level m v
  source-same l m (OfNet n) e = ap read_level e
  source-same l m (OfRegister k) e = e

  module _ (sa sb inputs : List Level) (l m : Levels) (alike : StoreAlike a old kept sa sb) (lawful : IsLawful a inputs)
      (sl : IsSettled a sa inputs l) (sm : IsSettled b sb inputs m) where
    fit : AreFitting a absorbed (source_level l)
    fit = settled-fit a absorbed sa inputs l accepted wired c.absorbable sl (settled-pure a sa inputs l accepted wired.units alike.pure lawful sl)

    seen : (vs : List Read) → AllByRecursion (Alike l m) vs → AllByRecursion (λ v. through old (source_level l) v ≡ source_level m v) vs
    seen vs h = all_mono (Alike l m) (λ v. through old (source_level l) v ≡ source_level m v) (source-same l m) vs h

    drive-same : (v u : ℕ) → AllByRecursion (Alike l m) (driver_reads (slice_get b.units v)) → StandsFor a b absorbed old v u → level_at l.drives u ≡ level_at m.drives v
    drive-same v u reads stands =
        drive_at-by a l u sl.drives ∙ stands (source_level l) fit
        ∙ drive_at-alike (through old (source_level l)) (source_level m) b v (seen (driver_reads (slice_get b.units v)) reads)
        ∙ sym (drive_at-by b m v sm.drives)

    net-local : (n : ℕ) → IsKept kept (OfNet n) → AllByRecursion (Alike l m) (node_reads b (OfNet n)) → Alike l m (OfNet n)
    net-local n is reads =
        let i = c.nets n is in
        net-settled a sa inputs l sl (old.net n) i.wire i.found
        ∙ ap (λ (k : NetKind). level_by inputs k i.wire.pull (map (level_at l.drives) i.wire.drivers)) i.kind
        ∙ ap (λ (p : Pull). level_by inputs i.new.kind p (map (level_at l.drives) i.wire.drivers)) i.pull
        ∙ net-same inputs i.new.kind i.new.pull (map (level_at l.drives) i.wire.drivers) (map (level_at m.drives) i.new.drivers) (forth i) (back i)
        ∙ sym (net-settled b sb inputs m sm n i.new i.new_found)
      where
        reads_of : (i : IsCarriedNet a b absorbed old n) (v : ℕ) → Among v i.new.drivers → AllByRecursion (Alike l m) (driver_reads (slice_get b.units v))
        reads_of i v av =
            all-part (Alike l m) (λ (u : ℕ). driver_reads (slice_get b.units u)) v i.new.drivers
            (subst (λ (o : Option Wire). AllByRecursion (Alike l m) (reads_of_wire b o)) i.new_found reads) av

        forth : (i : IsCarriedNet a b absorbed old n) → IsWithin (map (level_at l.drives) i.wire.drivers) (map (level_at m.drives) i.new.drivers)
        forth i = record { each = by }
          where
            by : (x : Level) → is_driven x ≡ true → Among x (map (level_at l.drives) i.wire.drivers) → Among x (map (level_at m.drives) i.new.drivers)
            by x d ax = at (among-map (level_at l.drives) x i.wire.drivers ax)
              where
                at : (u : ℕ) × Among u i.wire.drivers × (x ≡ level_at l.drives u) → Among x (map (level_at m.drives) i.new.drivers)
                at (u, au, e) = elim (i.every u au) [
                  | inl floats ↦
                      let wrong : true ≡ false = sym d ∙ ap is_driven (e ∙ drive_at-by a l u sl.drives ∙ floats (source_level l) fit) in cc
                  | inr found ↦ subst (λ (y : Level). Among y (map (level_at m.drives) i.new.drivers))
                      (sym (e ∙ drive-same found.0 u (reads_of i found.0 found.1) found.2)) (map-among (level_at m.drives) found.0 i.new.drivers found.1)
                ]

        back : (i : IsCarriedNet a b absorbed old n) → IsWithin (map (level_at m.drives) i.new.drivers) (map (level_at l.drives) i.wire.drivers)
        back i = record { each = by }
          where
            by : (x : Level) → is_driven x ≡ true → Among x (map (level_at m.drives) i.new.drivers) → Among x (map (level_at l.drives) i.wire.drivers)
            by x d ax = at (among-map (level_at m.drives) x i.new.drivers ax)
              where
                at : (v : ℕ) × Among v i.new.drivers × (x ≡ level_at m.drives v) → Among x (map (level_at l.drives) i.wire.drivers)
                at (v, av, e) =
                    let found = i.only v av in
                    subst (λ (y : Level). Among y (map (level_at l.drives) i.wire.drivers))
                    (drive-same v found.0 (reads_of i v av) found.2 ∙ sym e) (map-among (level_at l.drives) found.0 i.wire.drivers found.1)

    -- the visible Q of a register, where its reset reads the same
    visible-same : (k : ℕ) → IsKept kept (OfRegister k) → AllByRecursion (Alike l m) (node_reads b (OfRegister k)) → slice_get l.visible (old.register k) ≡ slice_get m.visible k
    visible-same k is reads =
        let i = c.registers k is in
        let resets : AllByRecursion (Alike l m) (row_reads i.new.reset) = subst (λ (o : Option Register). AllByRecursion (Alike l m) (reads_of_register o)) i.new_found reads in
        let reset : row_value l i.register.reset ≡ row_value m i.new.reset =
        gate-by l i.register.reset ∙ i.reset (source_level l) fit
        ∙ gate-alike (through old (source_level l)) (source_level m) i.new.reset (seen (row_reads i.new.reset) resets) ∙ sym (gate-by m i.new.reset) in
        ap (λ (vs : List Level). slice_get vs (old.register k)) sl.visible
        ∙ visible-get l a.registers sa (old.register k) i.register i.found
        ∙ ap (option_map (visible_level l i.register)) (alike.same k is)
        ∙ ap (λ (x : Level). option_map (λ (s : Level). and3 s (not3 x)) (slice_get sb k)) reset
        ∙ sym (visible-get m b.registers sb k i.new i.new_found)
        ∙ sym (ap (λ (vs : List Level). slice_get vs k) sm.visible)

    local : (v : Read) → IsKept kept v → AllByRecursion (Alike l m) (node_reads b v) → Alike l m v
    local (OfNet n) is reads = net-local n is reads
    local (OfRegister k) is reads =
        level-same l.visible m.visible (old.register k) k (visible-same k is reads)

    all-alike : ((v : Read) → IsKept kept v → Alike l m v) → (vs : List Read) → AllByRecursion (IsKept kept) vs → AllByRecursion (Alike l m) vs
    all-alike h vs are = all_mono (IsKept kept) (Alike l m) h vs are

    next-same : (now : List Level) → ((v : Read) → IsKept kept v → Alike l m v) → (k : ℕ) → IsKept kept (OfRegister k) →
        slice_get (next_stored a l inputs now a.registers l.visible) (old.register k) ≡ slice_get (next_stored b m inputs now b.registers m.visible) k
    next-same now h k is =
        let i = c.registers k is in
        let takes : taken l i.register ≡ taken m i.new =
        taken-by l i.register ∙ i.takes (source_level l) fit
        ∙ taken-alike (through old (source_level l)) (source_level m) i.new (seen (edge_reads i.new) (all-alike h (edge_reads i.new) i.reads)) ∙ sym (taken-by m i.new) in
        let clock : rises a inputs now i.register.clock ≡ rises b inputs now i.new.clock =
        (λ j. same_level (clock-same a b inputs i.register.clock i.new.clock i.clock j) Zero && same_level (clock-same a b now i.register.clock i.new.clock i.clock j) One) in
        next-get a l inputs now a.registers l.visible (old.register k) i.register i.found
        ∙ (λ j. option_map (λ (q : Level). cond (clock j) (takes j) q) (visible-same k is (all-alike h (node_reads b (OfRegister k)) (c.closed (OfRegister k) is)) j))
        ∙ sym (next-get b m inputs now b.registers m.visible k i.new i.new_found)

  shown-same : (l m : Levels) (ns : List ℕ) → ((n : ℕ) → Among n ns → Alike l m (OfNet n)) → map (level_at l.nets) (map old.net ns) ≡ map (level_at m.nets) ns
  shown-same l m [] h = refl
  shown-same l m (n ∷ ns) h = (λ i. h n (inl refl) i ∷ shown-same l m ns (λ k ak. h k (inr ak)) i)

  start : StoreAlike a old kept (power_up a) (power_up b)
  start = record {
    same = λ k is.
        let i = c.registers k is in
        replicate-get (length a.registers) (old.register k) Zero (slice_get_within a.registers (old.register k) i.register i.found)
        ∙ sym (replicate-get (length b.registers) k Zero (slice_get_within b.registers k i.new i.new_found));
    pure = start-pure a;
  }

  pub carries-follows : Follows a b (old_node old) (IsKept kept) (StoreAlike a old kept)
  carries-follows = record {
    closed = c.closed;
    local = λ sa sb inputs l m alike lawful sl sm v is reads. local sa sb inputs l m alike lawful sl sm v is reads;
    ports = λ l m h. ap (map (level_at l.nets)) c.ports ∙ shown-same l m b.ports (λ n an. h (OfNet n) (c.shown n an));
    step = λ sa sb last inputs l m alike was lawful sl sm h. record {
      same = λ k is. next-same sa sb last l m alike was sl sm inputs h k is;
      pure = step-pure a sa (Some last) inputs (next_stored a l last inputs a.registers l.visible) accepted wired.units alike.pure was (l, sl, refl);
    };
    start = start;
  }
