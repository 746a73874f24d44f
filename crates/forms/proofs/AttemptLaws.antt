-- The tries of a form, one behind the other.
use Rattle.std.proofs.Common.{ℕ, ◌≡◌, ◌⊎◌, ◌<◌, ◌≤◌, Bool, true, false, List, [], ◌∷◌, ◌++◌, length, Option, Some, None, refl, sym, ap, ◌∙◌, subst, inl, inr, arith}
use Rattle.std.specs.Prelude.{min}
use Rattle.std.proofs.Math.Nat.{min-eq_left, min-eq_right}
use Rattle.std.proofs.lemmas.Bool.{ltb-true, ltb-false}
use Rattle.std.proofs.Math.Dec.{ltb}
use Rattle.mig_base.specs.Among.{Among}
use Rattle.mig_base.specs.declared.plans.Part.TheVariants.{Logic}
use Rattle.board.specs.Joined.{Joined, equations_of}
use Rattle.plans.specs.FirstOf.{NoneOf}
use Rattle.plans.specs.Forms.{Products, Try, Room, LogicForm, IsOffered, Fits, low_by, old_low, tries, tries_by, reads_absorbed}
use Rattle.std.proofs.lemmas.Option.{same_Some}
use Rattle.plans.proofs.FormLaws.{offered-one}
use Rattle.forms.specs.declared.attempts.Failure.{Failure}
use Rattle.forms.specs.declared.attempts.Failure.TheVariants.{PrimesOver, TermsOver}
use Rattle.forms.specs.declared.attempts.Attempt.{Attempt}
use Rattle.forms.specs.declared.attempts.Attempt.TheVariants as attempt
use Rattle.forms.specs.Attempts.{IsLeastIn, IsLeastOfAll, IsReason, IsFailure, IsAttempt, IsOffering, both_failures, behind_failure}
use Rattle.forms.specs.Outcomes.{IsFormOf, form_by, old_tries, cover_tries}

module _ (b : Joined) (absorbed : List ℕ) (u : ℕ) (room : Room) where
  abbrev FitsHere : Try → LogicForm → Type 0
  FitsHere t x = Fits b absorbed u room t x

  -- one try

  over-none : (t : Try) → IsOffered b absorbed u t None → NoneOf FitsHere (t ∷ [])
  over-none t h x (inl g) = let wrong = offered-one b absorbed u t None (Some x.terms) h g.offered in cc
  over-none t h x (inr g) = g.1

  many-none : (t : Try) (ps : Products) → IsOffered b absorbed u t (Some ps) → room.most < length ps → NoneOf FitsHere (t ∷ [])
  many-none t ps h many x (inl g) =
      let same : ps ≡ x.terms = same_Some ps x.terms (offered-one b absorbed u t (Some ps) (Some x.terms) h g.offered) in
      let few : length ps ≤ room.most = subst (λ (qs : Products). length qs ≤ room.most) (sym same) g.few in
      omega arith
  many-none t ps h many x (inr g) = g.1

  same-try : (s t : Try) → Among s (t ∷ []) → s ≡ t
  same-try s t (inl e) = e
  same-try s t (inr a) = absurd a

  least-one : (t : Try) (ps : Products) → IsOffered b absorbed u t (Some ps) → IsLeastOfAll b absorbed u (t ∷ []) (length ps)
  least-one t ps h = record {
    least = record {
      form = t;
      allowed = inl refl;
      products = ps;
      offered = h;
      count = refl;
      least = λ s qs a k. at s qs (same-try s t a) k;
    };
    no_over = λ k. none k.form (same-try k.form t k.allowed) k.over;
  }
    where
      at : (s : Try) (qs : Products) → s ≡ t → IsOffered b absorbed u s (Some qs) → length ps ≤ length qs
      at s qs e k =
          let same : ps ≡ qs = same_Some ps qs (offered-one b absorbed u t (Some ps) (Some qs) h (subst (λ (r : Try). IsOffered b absorbed u r (Some qs)) e k)) in
          let long : length ps ≡ length qs = ap length same in
          omega arith

      none : (s : Try) → s ≡ t → IsOffered b absorbed u s None → ⊥
      none s e k = let wrong = offered-one b absorbed u t None (Some ps) (subst (λ (r : Try). IsOffered b absorbed u r None) e k) h in cc

  -- what a try offers that has this inversion
  pub try-attempt : (t : Try) (low : Bool) (o : Option Products) (made : Attempt) → IsOffered b absorbed u t o → low ≡ low_by (old_low (equations_of b) u) t → IsOffering low o room.most made → IsAttempt b absorbed u room (t ∷ []) made
  try-attempt t low None (attempt.Fits is_low terms) h e k = absurd k
  try-attempt t low None (attempt.Fails f) h e k = subst (λ (g : Failure). IsFailure b absorbed u room (t ∷ []) g) (sym k) (record {
    none_fits = over-none t h;
    reason = record { form = t; allowed = inl refl; over = h };
  })
  try-attempt t low (Some ps) (attempt.Fits is_low terms) h e k = inl (record {
    offered = subst (λ (qs : Products). IsOffered b absorbed u t (Some qs)) (sym k.1) h;
    few = subst (λ (qs : Products). length qs ≤ room.most) (sym k.1) k.2;
    inversion = k.0 ∙ e;
  })
  try-attempt t low (Some ps) (attempt.Fails f) h e k = subst (λ (g : Failure). IsFailure b absorbed u room (t ∷ []) g) (sym k.0) (record {
    none_fits = many-none t ps h k.1;
    reason = least-one t ps h;
  })

  -- a try that fails, and others behind it

  here : (t : Try) (us : List Try) (s : Try) → Among s (t ∷ []) → Among s (t ∷ us)
  here t us s (inl e) = inl e
  here t us s (inr a) = absurd a

  least-behind : (t : Try) (us : List Try) (n m : ℕ) → IsLeastIn b absorbed u (t ∷ []) n → IsLeastIn b absorbed u us m → IsLeastIn b absorbed u (t ∷ us) (min n m)
  least-behind t us n m h k = at (order (ltb n m) refl)
    where
      order : (q : Bool) → ltb n m ≡ q → (n ≤ m) ⊎ (m ≤ n)
      order true e = let less = ltb-true n m e in inl (omega arith)
      order false e = inr (ltb-false n m e)

      at : (n ≤ m) ⊎ (m ≤ n) → IsLeastIn b absorbed u (t ∷ us) (min n m)
      at (inl le) = subst (λ (l : ℕ). IsLeastIn b absorbed u (t ∷ us) l) (sym (min-eq_left le)) (record {
        form = h.form;
        allowed = here t us h.form h.allowed;
        products = h.products;
        offered = h.offered;
        count = h.count;
        least = below;
      })
        where
          below : (s : Try) (ps : Products) → Among s (t ∷ us) → IsOffered b absorbed u s (Some ps) → n ≤ length ps
          below s ps (inl e) g = h.least s ps (inl e) g
          below s ps (inr a) g = let lower : m ≤ length ps = k.least s ps a g in omega arith
      at (inr le) = subst (λ (l : ℕ). IsLeastIn b absorbed u (t ∷ us) l) (sym (min-eq_right le)) (record {
        form = k.form;
        allowed = inr k.allowed;
        products = k.products;
        offered = k.offered;
        count = k.count;
        least = below;
      })
        where
          below : (s : Try) (ps : Products) → Among s (t ∷ us) → IsOffered b absorbed u s (Some ps) → m ≤ length ps
          below s ps (inl e) g = let lower : n ≤ length ps = h.least s ps (inl e) g in omega arith
          below s ps (inr a) g = k.least s ps a g

  reason-behind : (t : Try) (us : List Try) (f g : Failure) → IsReason b absorbed u (t ∷ []) f → IsReason b absorbed u us g → IsReason b absorbed u (t ∷ us) (both_failures f g)
  reason-behind t us PrimesOver g h k = record { form = h.form; allowed = here t us h.form h.allowed; over = h.over }
  reason-behind t us (TermsOver n) PrimesOver h k = record { form = k.form; allowed = inr k.allowed; over = k.over }
  reason-behind t us (TermsOver n) (TermsOver m) h k = record {
    least = least-behind t us n m h.least k.least;
    no_over = λ o. none o.form o.allowed o.over;
  }
    where
      none : (s : Try) → Among s (t ∷ us) → IsOffered b absorbed u s None → ⊥
      none s (inl e) over = h.no_over (record { form = s; allowed = inl e; over = over })
      none s (inr a) over = k.no_over (record { form = s; allowed = a; over = over })

  pub attempt-behind : (t : Try) (us : List Try) (f : Failure) (made : Attempt) → IsFailure b absorbed u room (t ∷ []) f → IsAttempt b absorbed u room us made → IsAttempt b absorbed u room (t ∷ us) (behind_failure f made)
  attempt-behind t us f (attempt.Fits low terms) h k = inr ((λ x g. h.none_fits x (inl g)), k)
  attempt-behind t us f (attempt.Fails g) h k = record {
    none_fits = none;
    reason = reason-behind t us f g h.reason k.reason;
  }
    where
      none : NoneOf FitsHere (t ∷ us)
      none x (inl y) = h.none_fits x (inl y)
      none x (inr y) = k.none_fits x y.1

  -- what all tries come to
  pub form-made : (ts : List Try) (made : Attempt) → tries b absorbed u room ≡ ts → IsAttempt b absorbed u room ts made → IsFormOf b absorbed u room (form_by made)
  form-made ts made e h = at made (subst (λ (us : List Try). IsAttempt b absorbed u room us made) (sym e) h)
    where
      at : (m : Attempt) → IsAttempt b absorbed u room (tries b absorbed u room) m → IsFormOf b absorbed u room (form_by m)
      at (attempt.Fits low terms) k = k
      at (attempt.Fails PrimesOver) k = record { none_fits = k.none_fits; form = k.reason.form; allowed = k.reason.allowed; over = k.reason.over }
      at (attempt.Fails (TermsOver n)) k = record {
        none_fits = k.none_fits;
        no_over = λ o. k.reason.no_over (record { form = o.form; allowed = o.allowed; over = o.over });
        least = record {
          form = k.reason.least.form;
          allowed = k.reason.least.allowed;
          products = k.reason.least.products;
          offered = k.reason.least.offered;
          count = k.reason.least.count;
          least = k.reason.least.least;
        };
      }

  pub tries-reading : reads_absorbed b absorbed u Logic ≡ true → tries b absorbed u room ≡ cover_tries room.may_invert
  tries-reading e = ap (λ (reads : Bool). tries_by reads (old_low (equations_of b) u) room.may_invert) e

  pub tries-old : reads_absorbed b absorbed u Logic ≡ false → tries b absorbed u room ≡ old_tries (old_low (equations_of b) u) room.may_invert ++ cover_tries room.may_invert
  tries-old e = ap (λ (reads : Bool). tries_by reads (old_low (equations_of b) u) room.may_invert) e
