-- Marked drives made anew, unit by unit.
use Rattle.std.proofs.Common.{ℕ, zero, suc, ◌≡◌, ◌⊎◌, ◌<◌, ◌≤◌, ◌+◌, true, false, List, map, length, get_or, refl, sym, ap, ◌∙◌, subst, arith, inl, inr}
use Rattle.std.specs.Prelude.{slice_get, slice_set}
use Rattle.std.proofs.lemmas.Bool.{cases_eq}
use Rattle.std.proofs.lemmas.List.{get_or-set_same, get_or-set_other, ext_get_or, length-map, length-set}
use Rattle.std.proofs.lemmas.Option.{slice_get_read}
use Rattle.mig_base.specs.declared.levels.Level.TheVariants.{X}
use Rattle.mig_base.specs.declared.circuit.Driver.{Driver}
use Rattle.mig_base.specs.declared.circuit.Circuit.{Circuit}
use Rattle.mig_base.specs.declared.circuit.Levels.{Levels}
use Rattle.mig_base.specs.Levels.{level_at, or_x}
use Rattle.level_laws.specs.Settled.{drive_level}
use Rattle.level_laws.proofs.Unique.{level_at-map}
use Rattle.reader_lists.specs.declared.lists.Reader.TheVariants.{ByUnit}
use Rattle.reader_lists.specs.declared.marks.Marks.{Marks}
use Rattle.reader_lists.specs.Marked.{marked_in}
use Rattle.settle.specs.Rules.{drive_of, with_drives}
use Rattle.settle.specs.Following.{DriveFits, Renewed}
use Rattle.settle.proofs.OrderLaws.{same-drive}

-- the drives below i are right, and all others are or are marked
pub record Renewing (c : Circuit) (start : Levels) (i : ℕ) (marks : Marks) (l : Levels) : Type 0 where
  pub is : l ≡ with_drives start l.drives
  pub long : length l.drives ≡ length c.units
  pub below : (u : ℕ) → u < i → level_at l.drives u ≡ drive_of c start u
  pub fits : (u : ℕ) → u < length c.units → (level_at l.drives u ≡ drive_of c start u) ⊎ (marked_in marks (ByUnit u) ≡ true)

pub renewing-start : (c : Circuit) (marks : Marks) (l : Levels) → length l.drives ≡ length c.units → ((u : ℕ) → u < length c.units → DriveFits c marks l u) → Renewing c l 0 marks l
renewing-start c marks l long fits = record { is = refl; long = long; below = λ u lt. absurd (omega arith); fits = fits }

split-last : (u n : ℕ) → u < n + 1 → (u < n) ⊎ (u ≡ n)
split-last zero zero h = inr refl
split-last zero (suc n) h = inl (omega arith)
split-last (suc u) zero h = absurd (omega arith)
split-last (suc u) (suc n) h = up (split-last u n (omega arith))
  where
    up : (u < n) ⊎ (u ≡ n) → (suc u < suc n) ⊎ (suc u ≡ suc n)
    up (inl a) = inl (omega arith)
    up (inr e) = inr (ap suc e)

unit-same : (u i : ℕ) → ByUnit u ≡ ByUnit i → u ≡ i
unit-same u i e = cc

-- the drive of a unit that is there
drive-here : (c : Circuit) (start l : Levels) (items : List Driver) (i : ℕ) (d : Driver) → items ≡ c.units → i < length items → d ≡ get_or items i d → l ≡ with_drives start l.drives → drive_level l d ≡ drive_of c start i
drive-here c start l items i d same lt item is =
    ap (λ (m : Levels). drive_level m d) is ∙ sym (same-drive start l.drives d)
    ∙ ap (or_x (drive_level start)) (sym (slice_get_read items (length items) i d refl lt item) ∙ ap (λ (us : List Driver). slice_get us i) same)

-- one more unit
pub renewing-next : (c : Circuit) (start : Levels) (items : List Driver) (i : ℕ) (d : Driver) (marks after : Marks) (l m : Levels) → items ≡ c.units → i < length items → d ≡ get_or items i d →
    Renewing c start i marks l → Renewed i d marks l after m → Renewing c start (i + 1) after m
renewing-next c start items i d marks after l m same lt item p step = at step.levels
  where
    within : i < length l.drives
    within = omega (arith, ap length same, p.long)

    here : drive_level l d ≡ drive_of c start i
    here = drive-here c start l items i d same lt item p.is

    other : (u : ℕ) → (u ≡ i → ⊥) → marked_in marks (ByUnit u) ≡ true → marked_in after (ByUnit u) ≡ true
    other u ne h = step.keeps (ByUnit u) (λ e. ne (unit-same u i e)) h

    apart : marked_in marks (ByUnit i) ≡ false → marked_in marks (ByUnit i) ≡ true → ⊥
    apart e h = wrong (sym h ∙ e)
      where
        wrong : true ≡ false → ⊥
        wrong x = cc

    kept : marked_in marks (ByUnit i) ≡ false → Renewing c start (i + 1) after l
    kept none = record { is = p.is; long = p.long; below = λ u h. below u (split-last u i h); fits = λ u h. fits u h (cases_eq u i) }
      where
        right : (level_at l.drives i ≡ drive_of c start i) ⊎ (marked_in marks (ByUnit i) ≡ true) → level_at l.drives i ≡ drive_of c start i
        right (inl e) = e
        right (inr h) = absurd (apart none h)

        now : level_at l.drives i ≡ drive_of c start i
        now = right (p.fits i (omega (arith, ap length same)))

        below : (u : ℕ) → (u < i) ⊎ (u ≡ i) → level_at l.drives u ≡ drive_of c start u
        below u (inl h) = p.below u h
        below u (inr e) = subst (λ (j : ℕ). level_at l.drives j ≡ drive_of c start j) (sym e) now

        fits : (u : ℕ) → u < length c.units → (u ≡ i) ⊎ (u ≡ i → ⊥) → (level_at l.drives u ≡ drive_of c start u) ⊎ (marked_in after (ByUnit u) ≡ true)
        fits u h (inl e) = inl (below u (inr e))
        fits u h (inr ne) = on (p.fits u h)
          where
            on : (level_at l.drives u ≡ drive_of c start u) ⊎ (marked_in marks (ByUnit u) ≡ true) → (level_at l.drives u ≡ drive_of c start u) ⊎ (marked_in after (ByUnit u) ≡ true)
            on (inl e) = inl e
            on (inr h) = inr (other u ne h)

    made : Renewing c start (i + 1) after (with_drives l (slice_set l.drives i (drive_level l d)))
    made = record {
      is = ap (λ (x : Levels). with_drives x (slice_set l.drives i (drive_level l d))) p.is;
      long = length-set l.drives i (drive_level l d) ∙ p.long;
      below = λ u h. below u (split-last u i h);
      fits = λ u h. fits u h (cases_eq u i);
    }
      where
        now : level_at (slice_set l.drives i (drive_level l d)) i ≡ drive_of c start i
        now = get_or-set_same l.drives i (drive_level l d) X within ∙ here

        apart-other : (u : ℕ) → (u ≡ i → ⊥) → level_at (slice_set l.drives i (drive_level l d)) u ≡ level_at l.drives u
        apart-other u ne = get_or-set_other l.drives i u (drive_level l d) X ne

        below : (u : ℕ) → (u < i) ⊎ (u ≡ i) → level_at (slice_set l.drives i (drive_level l d)) u ≡ drive_of c start u
        below u (inl h) = apart-other u (λ e. absurd (omega arith)) ∙ p.below u h
        below u (inr e) = subst (λ (j : ℕ). level_at (slice_set l.drives i (drive_level l d)) j ≡ drive_of c start j) (sym e) now

        fits : (u : ℕ) → u < length c.units → (u ≡ i) ⊎ (u ≡ i → ⊥) → (level_at (slice_set l.drives i (drive_level l d)) u ≡ drive_of c start u) ⊎ (marked_in after (ByUnit u) ≡ true)
        fits u h (inl e) = inl (below u (inr e))
        fits u h (inr ne) = on (p.fits u h)
          where
            on : (level_at l.drives u ≡ drive_of c start u) ⊎ (marked_in marks (ByUnit u) ≡ true) →
                (level_at (slice_set l.drives i (drive_level l d)) u ≡ drive_of c start u) ⊎ (marked_in after (ByUnit u) ≡ true)
            on (inl e) = inl (apart-other u ne ∙ e)
            on (inr h) = inr (other u ne h)

    at : ((marked_in marks (ByUnit i) ≡ false) × (m ≡ l)) ⊎ (m ≡ with_drives l (slice_set l.drives i (drive_level l d))) → Renewing c start (i + 1) after m
    at (inl (none, e)) = subst (Renewing c start (i + 1) after) (sym e) (kept none)
    at (inr e) = subst (Renewing c start (i + 1) after) (sym e) made

-- all units
pub renewing-all : (c : Circuit) (start : Levels) (i : ℕ) (marks : Marks) (l : Levels) → length c.units ≤ i → Renewing c start i marks l → l ≡ with_drives start (map (drive_level start) c.units)
renewing-all c start i marks l all p =
    p.is ∙ ap (with_drives start) (ext_get_or X l.drives (map (drive_level start) c.units) (p.long ∙ sym (length-map c.units (drive_level start)))
    (λ u lt. p.below u (omega (arith, p.long)) ∙ sym (level_at-map (drive_level start) c.units u)))
