-- Two registers store the same after every step exactly where they are alike.
use Rattle.std.proofs.Common.{ℕ, ◌≡◌, Bool, true, false, ◌&&◌, List, Option, Some, None, refl, sym, ap, ◌∙◌}
use Rattle.std.specs.Prelude.{if◌then◌else◌}
use Rattle.std.specs.Str.{bytes_eq}
use Rattle.mig_base.proofs.Distinct.{bytes-equal, same-is, same-refl}
use Rattle.mig_base.specs.declared.levels.Level.{Level}
use Rattle.mig_base.specs.declared.levels.Level.TheVariants.{Zero, One, Z, X}
use Rattle.mig_base.specs.Levels.{same_level}
use Rattle.level_laws.specs.SameBehaviour.{Handing}
use Rattle.matchings.specs.Edges.{AreAlike, EdgesAlike, View, Waits, raised, rises_by, same_clock, stores}

waits-if : (a b : Level) → (same_level a Zero && same_level b One) ≡ true → a ≡ Zero
waits-if Zero b e = refl
waits-if One b e = cc
waits-if Z b e = cc
waits-if X b e = cc

rises-waits : (c : Option (List ℕ)) (before now : Handing) → rises_by c before now ≡ true → Waits before c
rises-waits None before now e = cc
rises-waits (Some n) before now e = waits-if (before n) (now n) e

clock-same : (v w : Option (List ℕ)) → same_clock v w ≡ true → v ≡ w
clock-same None None e = refl
clock-same None (Some n) e = cc
clock-same (Some m) None e = cc
clock-same (Some m) (Some n) e = ap Some (same-is bytes-equal m n e)

pick : (b : Bool) (x y : Level) → x ≡ y → (if b then x else y) ≡ y
pick true x y e = e
pick false x y e = refl

pub alike-stores : (before now : Handing) (v w : View) → AreAlike before v w → stores v before now ≡ stores w before now
alike-stores before now v w alike = at (same_clock v.clock w.clock) refl alike.edges
  where
    own : (u : View) → (Waits before u.clock → u.taken ≡ u.seen) → stores u before now ≡ u.seen
    own u h = on (rises_by u.clock before now) refl
      where
        on : (b : Bool) → rises_by u.clock before now ≡ b → (if b then u.taken else u.seen) ≡ u.seen
        on true e = h (rises-waits u.clock before now e)
        on false e = refl

    at : (s : Bool) → same_clock v.clock w.clock ≡ s → EdgesAlike s before v w → stores v before now ≡ stores w before now
    at false e h = own v h.0 ∙ alike.seen ∙ sym (own w h.1)
    at true e h = on (rises_by v.clock before now) refl (ap (λ (c : Option (List ℕ)). rises_by c before now) (sym (clock-same v.clock w.clock e)))
      where
        on : (b : Bool) → rises_by v.clock before now ≡ b → rises_by w.clock before now ≡ rises_by v.clock before now → stores v before now ≡ stores w before now
        on true r f = ap (λ (b : Bool). if b then v.taken else v.seen) r ∙ h (rises-waits v.clock before now r) ∙ sym (ap (λ (b : Bool). if b then w.taken else w.seen) (f ∙ r))
        on false r f = ap (λ (b : Bool). if b then v.taken else v.seen) r ∙ alike.seen ∙ sym (ap (λ (b : Bool). if b then w.taken else w.seen) (f ∙ r))

-- nothing rises where nothing changes
steady : (c : Option (List ℕ)) (before : Handing) → rises_by c before before ≡ false
steady None before = refl
steady (Some n) before = at (before n)
  where
    at : (x : Level) → (same_level x Zero && same_level x One) ≡ false
    at Zero = refl
    at One = refl
    at Z = refl
    at X = refl

bytes-self : (n : List ℕ) → bytes_eq n n ≡ true
bytes-self n = same-refl bytes-equal n

-- the raised clock rises, and no other one does
risen : (n : List ℕ) (before : Handing) → before n ≡ Zero → rises_by (Some n) before (raised n before) ≡ true
risen n before e = (λ i. (same_level (e i) Zero && same_level (if bytes-self n i then One else before n) One))

others-stay : (n : List ℕ) (c : Option (List ℕ)) (before : Handing) → same_clock (Some n) c ≡ false → rises_by c before (raised n before) ≡ false
others-stay n None before e = refl
others-stay n (Some m) before e = (λ i. (same_level (before m) Zero && same_level (if e i then One else before m) One)) ∙ steady (Some m) before

clock-sym : (v w : Option (List ℕ)) → same_clock v w ≡ false → same_clock w v ≡ false
clock-sym v w e = at (same_clock w v) refl
  where
    self : (c : Option (List ℕ)) → same_clock c c ≡ true
    self None = refl
    self (Some n) = bytes-self n

    at : (b : Bool) → same_clock w v ≡ b → b ≡ false
    at false f = refl
    at true f = sym (self w) ∙ ap (λ (c : Option (List ℕ)). same_clock c w) (clock-same w v f) ∙ e

pub stores-alike : (before : Handing) (v w : View) → stores v before before ≡ stores w before before →
    ((name : List ℕ) → v.clock ≡ Some name → stores v before (raised name before) ≡ stores w before (raised name before)) →
    ((name : List ℕ) → w.clock ≡ Some name → stores v before (raised name before) ≡ stores w before (raised name before)) → AreAlike before v w
stores-alike before v w here hv hw = record { seen = seen; edges = at (same_clock v.clock w.clock) refl }
  where
    seen : v.seen ≡ w.seen
    seen = sym (ap (λ (b : Bool). if b then v.taken else v.seen) (steady v.clock before)) ∙ here ∙ ap (λ (b : Bool). if b then w.taken else w.seen) (steady w.clock before)

    -- where the clocks differ, raising one leaves the other
    one : (x y : View) → same_clock x.clock y.clock ≡ false → ((name : List ℕ) → x.clock ≡ Some name → stores x before (raised name before) ≡ stores y before (raised name before)) → y.seen ≡ x.seen →
        Waits before x.clock → x.taken ≡ x.seen
    one x y e same back waits = on x.clock refl waits
      where
        on : (c : Option (List ℕ)) → x.clock ≡ c → Waits before c → x.taken ≡ x.seen
        on None f wait = absurd wait
        on (Some n) f wait =
            let up : rises_by x.clock before (raised n before) ≡ true = ap (λ (c : Option (List ℕ)). rises_by c before (raised n before)) f ∙ risen n before wait in
            let off : rises_by y.clock before (raised n before) ≡ false = others-stay n y.clock before (sym (ap (λ (c : Option (List ℕ)). same_clock c y.clock) f) ∙ e) in
            sym (ap (λ (b : Bool). if b then x.taken else x.seen) up) ∙ same n f ∙ ap (λ (b : Bool). if b then y.taken else y.seen) off ∙ back

    both : same_clock v.clock w.clock ≡ true → Waits before v.clock → v.taken ≡ w.taken
    both e waits = on v.clock refl waits
      where
        on : (c : Option (List ℕ)) → v.clock ≡ c → Waits before c → v.taken ≡ w.taken
        on None f wait = absurd wait
        on (Some n) f wait =
            let up : rises_by v.clock before (raised n before) ≡ true = ap (λ (c : Option (List ℕ)). rises_by c before (raised n before)) f ∙ risen n before wait in
            let up_w : rises_by w.clock before (raised n before) ≡ true = ap (λ (c : Option (List ℕ)). rises_by c before (raised n before)) (sym (clock-same v.clock w.clock e)) ∙ up in
            sym (ap (λ (b : Bool). if b then v.taken else v.seen) up) ∙ hv n f ∙ ap (λ (b : Bool). if b then w.taken else w.seen) up_w

    at : (s : Bool) → same_clock v.clock w.clock ≡ s → EdgesAlike s before v w
    at true e = both e
    at false e = (one v w e hv (sym seen), one w v (clock-sym v.clock w.clock e) (λ name f. sym (hw name f)) seen)
