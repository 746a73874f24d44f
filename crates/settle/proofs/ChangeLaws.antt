-- What fits under other stored levels and inputs, where what changes is marked.
use Rattle.std.proofs.Common.{ℕ, zero, suc, ◌≡◌, ◌⊎◌, ◌<◌, ◌+◌, Bool, true, false, List, [], ◌∷◌, ◌++◌, map, length, get_or, Option, Some, None, refl, sym, ap, ◌∙◌, subst, arith, inl, inr}
use Rattle.std.specs.Prelude.{slice_get, if◌then◌else◌}
use Rattle.mig_base.specs.declared.levels.Level.{Level}
use Rattle.mig_base.specs.declared.levels.Level.TheVariants.{X}
use Rattle.mig_base.specs.declared.circuit.Read.{Read}
use Rattle.mig_base.specs.declared.circuit.Read.TheVariants.{OfNet, OfRegister}
use Rattle.mig_base.specs.declared.circuit.NetKind.{NetKind}
use Rattle.mig_base.specs.declared.circuit.NetKind.TheVariants.{Ground, Power, Handed, Shared, Inner}
use Rattle.mig_base.specs.declared.circuit.Register.{Register}
use Rattle.mig_base.specs.declared.circuit.Wire.{Wire}
use Rattle.mig_base.specs.declared.circuit.Circuit.{Circuit}
use Rattle.mig_base.specs.declared.circuit.Levels.{Levels}
use Rattle.mig_base.specs.declared.nets.Pull.{Pull}
use Rattle.mig_base.specs.Levels.{level_at, or_x}
use Rattle.mig_base.specs.Resolve.{resolved}
use Rattle.mig_base.specs.Values.{node_level}
use Rattle.mig_base.specs.Boards.{places_from}
use Rattle.mig_base.specs.Among.{Among}
use Rattle.mig_base.specs.Reads.{IsNode}
use Rattle.mig_base.proofs.Amongs.{among-right, among-split}
use Rattle.level_laws.specs.Settled.{IsSettled, drive_level, visible_level, visible_levels, wire_level, level_by}
use Rattle.level_laws.proofs.Unique.{level_at-map, map-agree}
use Rattle.reader_lists.specs.declared.lists.Reader.{Reader}
use Rattle.reader_lists.specs.declared.lists.Reader.TheVariants.{ByNet, ByRegister}
use Rattle.reader_lists.specs.declared.marks.Marks.{Marks}
use Rattle.reader_lists.specs.Marked.{marked_in}
use Rattle.settle.specs.Configs.{handed_nets, is_handed}
use Rattle.settle.specs.Rules.{drive_of, net_level, new_level}
use Rattle.settle.specs.Following.{given_at, given_by, AreMarked, Fits}
use Rattle.settle.proofs.OrderLaws.{visible-at}

-- what passes stands among the places that pass
pub passes-among : {T : Type 0} (test : T → Bool) (i : ℕ) (xs : List T) (m : ℕ) (x : T) → slice_get xs m ≡ Some x → test x ≡ true → Among (i + m) (places_from test i xs)
passes-among test i [] m x e h = absurd (none e)
  where
    none : None ≡ Some x → ⊥
    none e = cc
passes-among test i (y ∷ ys) zero x e h = rw (ap test (same e) ∙ h) (inl (omega arith))
  where
    same : Some y ≡ Some x → y ≡ x
    same e = cc
passes-among test i (y ∷ ys) (suc m) x e h =
    let far : i + 1 + m ≡ i + suc m = omega arith in
    among-right (i + suc m) (if test y then i ∷ [] else []) (places_from test (i + 1) ys)
    (subst (λ (j : ℕ). Among j (places_from test (i + 1) ys)) far (passes-among test (i + 1) ys m x e h))

-- settled levels fit
pub settled-drive : (c : Circuit) (stored inputs : List Level) (l : Levels) → IsSettled c stored inputs l → (u : ℕ) → level_at l.drives u ≡ drive_of c l u
settled-drive c stored inputs l settled u = ap (λ (ds : List Level). level_at ds u) settled.drives ∙ level_at-map (drive_level l) c.units u

pub settled-node : (c : Circuit) (stored inputs : List Level) (l : Levels) → IsSettled c stored inputs l → (v : Read) → node_level l v ≡ new_level c stored inputs l v
settled-node c stored inputs l settled (OfNet n) =
    ap (λ (ns : List Level). level_at ns n) settled.nets ∙ level_at-map (wire_level inputs l) c.nets n ∙ at (slice_get c.nets n)
  where
    at : (o : Option Wire) → or_x (wire_level inputs l) o ≡ or_x (net_level c inputs l) o
    at None = refl
    at (Some w) = ap (level_by inputs w.kind w.pull) (map-agree (level_at l.drives) (drive_of c l) (settled-drive c stored inputs l settled) w.drivers)
settled-node c stored inputs l settled (OfRegister k) = ap (λ (vs : List Level). level_at vs k) settled.visible

-- a net that is handed the same level has the same level
level-given : (before now driven : List Level) (kind : NetKind) (pull : Pull) → (is_handed kind ≡ true → given_by before kind ≡ given_by now kind) →
    level_by before kind pull driven ≡ level_by now kind pull driven
level-given before now driven Ground pull same = refl
level-given before now driven Power pull same = refl
level-given before now driven Inner pull same = refl
level-given before now driven (Handed j) pull same = same refl
level-given before now driven (Shared j) pull same = ap (λ (x : Level). resolved pull (x ∷ driven)) (same refl)

net-given : (c : Circuit) (stored next before now : List Level) (l : Levels) (n : ℕ) (marks : Marks) →
    ((m : ℕ) → Among m (handed_nets c) → (given_at c before m ≡ given_at c now m) ⊎ (marked_in marks (ByNet m) ≡ true)) →
    (new_level c stored before l (OfNet n) ≡ new_level c next now l (OfNet n)) ⊎ (marked_in marks (ByNet n) ≡ true)
net-given c stored next before now l n marks handed = at (slice_get c.nets n) refl
  where
    given : (w : Wire) → slice_get c.nets n ≡ Some w → given_at c before n ≡ given_at c now n → given_by before w.kind ≡ given_by now w.kind
    given w e same =
        sym (ap (or_x (λ (x : Wire). given_by before x.kind)) e) ∙ same ∙ ap (or_x (λ (x : Wire). given_by now x.kind)) e

    whole : (o : Option Wire) → slice_get c.nets n ≡ o → or_x (net_level c before l) o ≡ or_x (net_level c now l) o →
        or_x (net_level c before l) (slice_get c.nets n) ≡ or_x (net_level c now l) (slice_get c.nets n)
    whole o e same = ap (or_x (net_level c before l)) e ∙ same ∙ sym (ap (or_x (net_level c now l)) e)

    passes-here : {w : Wire} → slice_get c.nets n ≡ Some w → is_handed w.kind ≡ true → Among n (handed_nets c)
    passes-here {w = w} e h =
        let here : 0 + n ≡ n = omega arith in subst (λ (j : ℕ). Among j (handed_nets c)) here (passes-among (λ (x : Wire). is_handed x.kind) 0 c.nets n w e h)

    by : (w : Wire) → slice_get c.nets n ≡ Some w → (b : Bool) → is_handed w.kind ≡ b →
        (or_x (net_level c before l) (slice_get c.nets n) ≡ or_x (net_level c now l) (slice_get c.nets n)) ⊎ (marked_in marks (ByNet n) ≡ true)
    by w e false none = inl (whole (Some w) e (level-given before now (map (drive_of c l) w.drivers) w.kind w.pull (λ h. absurd (wrong h none))))
      where
        wrong : {b : Bool} → b ≡ true → b ≡ false → ⊥
        wrong h none = cc
    by w e true h = mark (handed n (passes-here e h))
      where
        mark : (given_at c before n ≡ given_at c now n) ⊎ (marked_in marks (ByNet n) ≡ true) →
            (or_x (net_level c before l) (slice_get c.nets n) ≡ or_x (net_level c now l) (slice_get c.nets n)) ⊎ (marked_in marks (ByNet n) ≡ true)
        mark (inl same) = inl (whole (Some w) e (level-given before now (map (drive_of c l) w.drivers) w.kind w.pull (λ h. given w e same)))
        mark (inr m) = inr m

    at : (o : Option Wire) → slice_get c.nets n ≡ o →
        (or_x (net_level c before l) (slice_get c.nets n) ≡ or_x (net_level c now l) (slice_get c.nets n)) ⊎ (marked_in marks (ByNet n) ≡ true)
    at None e = inl (whole None e refl)
    at (Some w) e = by w e (is_handed w.kind) refl

register-given : (c : Circuit) (stored next : List Level) (l : Levels) (k : ℕ) (d : Register) → k < length c.registers → length stored ≡ length c.registers → length next ≡ length c.registers →
    level_at stored k ≡ level_at next k → level_at (visible_levels l c.registers stored) k ≡ level_at (visible_levels l c.registers next) k
register-given c stored next l k d lt long same e =
    visible-at l c.registers stored k d X lt (omega arith)
    ∙ ap (visible_level l (get_or c.registers k d)) e
    ∙ sym (visible-at l c.registers next k d X lt (omega arith))

-- settled levels fit other stored levels and inputs, but for what is marked
pub changes-marked : (c : Circuit) (stored next before now : List Level) (marks : Marks) (l : Levels) → IsSettled c stored before l →
    length stored ≡ length c.registers → length next ≡ length c.registers →
    ((k : ℕ) → (level_at stored k ≡ level_at next k) ⊎ (marked_in marks (ByRegister k) ≡ true)) →
    ((n : ℕ) → Among n (handed_nets c) → (given_at c before n ≡ given_at c now n) ⊎ (marked_in marks (ByNet n) ≡ true)) → AreMarked c next now marks l
changes-marked c stored next before now marks l settled long same registers nets = record {
  nodes = nodes;
  units = λ u lt. inl (settled-drive c stored before l settled u);
}
  where
    nodes : (v : Read) → IsNode c v → Fits c next now marks l v
    nodes (OfNet n) node = at (net-given c stored next before now l n marks nets)
      where
        at : (new_level c stored before l (OfNet n) ≡ new_level c next now l (OfNet n)) ⊎ (marked_in marks (ByNet n) ≡ true) → Fits c next now marks l (OfNet n)
        at (inl e) = inl (settled-node c stored before l settled (OfNet n) ∙ e)
        at (inr m) = inr m
    nodes (OfRegister k) node = at c.registers refl (registers k)
      where
        at : (rs : List Register) → c.registers ≡ rs → (level_at stored k ≡ level_at next k) ⊎ (marked_in marks (ByRegister k) ≡ true) → Fits c next now marks l (OfRegister k)
        at rs e (inr m) = inr m
        at [] e (inl h) = absurd (let none : length c.registers ≡ 0 = ap length e in omega arith)
        at (r ∷ rs) e (inl h) = inl (settled-node c stored before l settled (OfRegister k) ∙ register-given c stored next l k r node long same h)

-- one net more that is handed the same level as before or is marked
pub inputs-more : (c : Circuit) (before now : List Level) (some : List ℕ) (n : ℕ) (marks after : Marks) →
    ((m : ℕ) → Among m some → (given_at c before m ≡ given_at c now m) ⊎ (marked_in marks (ByNet m) ≡ true)) →
    (given_at c before n ≡ given_at c now n) ⊎ (marked_in after (ByNet n) ≡ true) → ((r : Reader) → marked_in marks r ≡ true → marked_in after r ≡ true) →
    (m : ℕ) → Among m (some ++ n ∷ []) → (given_at c before m ≡ given_at c now m) ⊎ (marked_in after (ByNet m) ≡ true)
inputs-more c before now some n marks after so_far here keeps m a = at (among-split m some (n ∷ []) a)
  where
    kept : (given_at c before m ≡ given_at c now m) ⊎ (marked_in marks (ByNet m) ≡ true) → (given_at c before m ≡ given_at c now m) ⊎ (marked_in after (ByNet m) ≡ true)
    kept (inl e) = inl e
    kept (inr h) = inr (keeps (ByNet m) h)

    at : Among m some ⊎ Among m (n ∷ []) → (given_at c before m ≡ given_at c now m) ⊎ (marked_in after (ByNet m) ≡ true)
    at (inl b) = kept (so_far m b)
    at (inr (inl e)) = subst (λ (j : ℕ). (given_at c before j ≡ given_at c now j) ⊎ (marked_in after (ByNet j) ≡ true)) (sym e) here
    at (inr (inr b)) = absurd b

-- what a step stores and is handed is marked where it changes
pub follow-marked : (c : Circuit) (stored new next last before now : List Level) (handed nets : List ℕ) (mid after : Marks) (l : Levels) → IsSettled c stored last l →
    length stored ≡ length c.registers → length next ≡ length c.registers → next ≡ new → before ≡ last → nets ≡ handed → handed ≡ handed_nets c →
    ((k : ℕ) → (level_at stored k ≡ level_at new k) ⊎ (marked_in mid (ByRegister k) ≡ true)) →
    ((n : ℕ) → Among n nets → (given_at c before n ≡ given_at c now n) ⊎ (marked_in after (ByNet n) ≡ true)) →
    ((r : Reader) → marked_in mid r ≡ true → marked_in after r ≡ true) → AreMarked c next now after l
follow-marked c stored new next last before now handed nets mid after l settled long same is was are all registers inputs keeps =
    changes-marked c stored next before now after l (subst (λ (q : List Level). IsSettled c stored q l) (sym was) settled) long same (λ k. at k (registers k))
    (λ n a. inputs n (subst (Among n) (sym (are ∙ all)) a))
  where
    at : (k : ℕ) → (level_at stored k ≡ level_at new k) ⊎ (marked_in mid (ByRegister k) ≡ true) → (level_at stored k ≡ level_at next k) ⊎ (marked_in after (ByRegister k) ≡ true)
    at k (inl e) = inl (e ∙ ap (λ (xs : List Level). level_at xs k) (sym is))
    at k (inr h) = inr (keeps (ByRegister k) h)
