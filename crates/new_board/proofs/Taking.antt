-- Variables take input pins: each that stood on a free pin of its own gets one.
use Rattle.std.proofs.Common.{ℕ, ◌≡◌, Bool, true, false, not, cond, ◌&&◌, ◌||◌, List, [], ◌∷◌, ◌++◌, Option, Some, None, refl, sym, ap, ◌∙◌, subst, inl, inr, ◌⊎◌, eqb, eqb-true, eq-eqb}
use Rattle.std.specs.List.{filter}
use Rattle.std.proofs.lemmas.Bool.{and_parts, not-true}
use Rattle.mig_base.specs.declared.circuit.Read.{Read}
use Rattle.mig_base.specs.Among.{Among}
use Rattle.mig_base.specs.Structure.{same_read}
use Rattle.mig_base.proofs.Amongs.{among-left, among-right, among-split, any-among, among-any}
use Rattle.mig_base.proofs.ReadLaws.{read-same, same-read}
use Rattle.new_board.specs.NewChip.{first_of}
use Rattle.new_board.specs.InputPins.{Taken, has_pin, is_taken, taking, take_pins, input_at}
use Rattle.new_board.proofs.Items.{among-filter, among-unfilter}
use Rattle.new_board.proofs.Columns.{first-among, among-first}

-- each variable stands on a pin of these, and on each pin one at most
pub record IsTaking (pins : List ℕ) (taken : List Taken) : Type 0 where
  pub within : (t : Taken) → Among t taken → Among t.1 pins
  pub found : (t : Taken) → Among t taken → input_at taken t.1 ≡ Some t.0

pub none-taking : (pins : List ℕ) → IsTaking pins []
none-taking pins = record { within = λ t a. absurd a; found = λ t a. absurd a }

-- what stands there stays there
input_at-more : (taken more : List Taken) (pin : ℕ) (v : Read) → input_at taken pin ≡ Some v → input_at (taken ++ more) pin ≡ Some v
input_at-more [] more pin v e = cc
input_at-more (t ∷ ts) more pin v e = at (eqb t.1 pin) e (input_at-more ts more pin v)
  where
    at : (q : Bool) → cond q (Some t.0) (input_at ts pin) ≡ Some v → (input_at ts pin ≡ Some v → input_at (ts ++ more) pin ≡ Some v) →
        cond q (Some t.0) (input_at (ts ++ more) pin) ≡ Some v
    at true e rest = e
    at false e rest = rest e

input_at-new : (taken : List Taken) (v : Read) (pin : ℕ) → is_taken taken pin ≡ false → input_at (taken ++ (v, pin) ∷ []) pin ≡ Some v
input_at-new [] v pin e = ap (λ (q : Bool). cond q (Some v) None) (eq-eqb pin pin refl)
input_at-new (t ∷ ts) v pin e = at (eqb t.1 pin) e (input_at-new ts v pin)
  where
    at : (q : Bool) → (q || is_taken ts pin) ≡ false → (is_taken ts pin ≡ false → input_at (ts ++ (v, pin) ∷ []) pin ≡ Some v) →
        cond q (Some t.0) (input_at (ts ++ (v, pin) ∷ []) pin) ≡ Some v
    at true e rest = cc
    at false e rest = rest e

-- the pins that a variable may take
abbrev open_pins : (Read → ℕ → Bool) → List ℕ → List Taken → Read → List ℕ
open_pins suits pins taken v = filter (λ p. not (is_taken taken p) && suits v p) pins

abbrev pub step : (Read → ℕ → Bool) → List ℕ → List Taken → Read → List Taken
step suits pins taken v = cond (has_pin taken v) taken (taking taken v (first_of (open_pins suits pins taken v)))

pub record IsOpen (suits : Read → ℕ → Bool) (pins : List ℕ) (taken : List Taken) (v : Read) (pin : ℕ) : Type 0 where
  pub within : Among pin pins
  pub free : is_taken taken pin ≡ false
  pub suited : suits v pin ≡ true

first-open : (suits : Read → ℕ → Bool) (pins : List ℕ) (taken : List Taken) (v : Read) (pin : ℕ) → first_of (open_pins suits pins taken v) ≡ Some pin → IsOpen suits pins taken v pin
first-open suits pins taken v pin e =
    let kept = among-unfilter (λ p. not (is_taken taken p) && suits v p) pin pins (first-among (open_pins suits pins taken v) pin e) in
    let parts = and_parts (not (is_taken taken pin)) (suits v pin) kept.1 in
    record { within = kept.0; free = not-true (is_taken taken pin) parts.0; suited = parts.1 }

-- a step leaves the list as it is, or adds the variable on an open pin
pub step-cases : (P : List Taken → Type 0) (suits : Read → ℕ → Bool) (pins : List ℕ) (taken : List Taken) (v : Read) →
    P taken → ((pin : ℕ) → IsOpen suits pins taken v pin → P (taken ++ (v, pin) ∷ [])) → P (step suits pins taken v)
step-cases P suits pins taken v stays adds = at (has_pin taken v) (first_of (open_pins suits pins taken v)) refl
  where
    at : (q : Bool) (o : Option ℕ) → first_of (open_pins suits pins taken v) ≡ o → P (cond q taken (taking taken v o))
    at true o e = stays
    at false None e = stays
    at false (Some pin) e = adds pin (first-open suits pins taken v pin e)

add-taking : (suits : Read → ℕ → Bool) (pins : List ℕ) (taken : List Taken) (v : Read) (pin : ℕ) → IsTaking pins taken → IsOpen suits pins taken v pin → IsTaking pins (taken ++ (v, pin) ∷ [])
add-taking suits pins taken v pin t open_ = record {
  within = λ x a. within_at x (among-split x taken ((v, pin) ∷ []) a);
  found = λ x a. found_at x (among-split x taken ((v, pin) ∷ []) a);
}
  where
    within_at : (x : Taken) → Among x taken ⊎ Among x ((v, pin) ∷ []) → Among x.1 pins
    within_at x (inl a) = t.within x a
    within_at x (inr (inl e)) = subst (λ (q : Taken). Among q.1 pins) (sym e) open_.within
    within_at x (inr (inr a)) = absurd a

    found_at : (x : Taken) → Among x taken ⊎ Among x ((v, pin) ∷ []) → input_at (taken ++ (v, pin) ∷ []) x.1 ≡ Some x.0
    found_at x (inl a) = input_at-more taken ((v, pin) ∷ []) x.1 x.0 (t.found x a)
    found_at x (inr (inl e)) = subst (λ (q : Taken). input_at (taken ++ (v, pin) ∷ []) q.1 ≡ Some q.0) (sym e) (input_at-new taken v pin open_.free)
    found_at x (inr (inr a)) = absurd a

pub take-taking : (suits : Read → ℕ → Bool) (pins : List ℕ) (taken : List Taken) (vs : List Read) → IsTaking pins taken → IsTaking pins (take_pins suits pins taken vs)
take-taking suits pins taken [] t = t
take-taking suits pins taken (v ∷ vs) t = take-taking suits pins (step suits pins taken v) vs
    (step-cases (IsTaking pins) suits pins taken v t (λ pin o. add-taking suits pins taken v pin t o))

step-grows : (suits : Read → ℕ → Bool) (pins : List ℕ) (taken : List Taken) (v : Read) (t : Taken) → Among t taken → Among t (step suits pins taken v)
step-grows suits pins taken v t a = step-cases (Among t) suits pins taken v a (λ pin o. among-left t taken ((v, pin) ∷ []) a)

-- what is taken stays taken
pub take-grows : (suits : Read → ℕ → Bool) (pins : List ℕ) (taken : List Taken) (vs : List Read) (t : Taken) → Among t taken → Among t (take_pins suits pins taken vs)
take-grows suits pins taken [] t a = a
take-grows suits pins taken (v ∷ vs) t a = take-grows suits pins (step suits pins taken v) vs t (step-grows suits pins taken v t a)

-- each variable suits its pin
pub record IsSuited (suits : Read → ℕ → Bool) (taken : List Taken) : Type 0 where
  pub each : (t : Taken) → Among t taken → suits t.0 t.1 ≡ true

pub none-suited : (suits : Read → ℕ → Bool) → IsSuited suits []
none-suited suits = record { each = λ t a. absurd a }

add-suited : (suits : Read → ℕ → Bool) (pins : List ℕ) (taken : List Taken) (v : Read) (pin : ℕ) → IsSuited suits taken → IsOpen suits pins taken v pin → IsSuited suits (taken ++ (v, pin) ∷ [])
add-suited suits pins taken v pin s open_ = record { each = λ x a. at x (among-split x taken ((v, pin) ∷ []) a) }
  where
    at : (x : Taken) → Among x taken ⊎ Among x ((v, pin) ∷ []) → suits x.0 x.1 ≡ true
    at x (inl a) = s.each x a
    at x (inr (inl e)) = subst (λ (q : Taken). suits q.0 q.1 ≡ true) (sym e) open_.suited
    at x (inr (inr a)) = absurd a

step-suited : (suits : Read → ℕ → Bool) (pins : List ℕ) (taken : List Taken) (v : Read) → IsSuited suits taken → IsSuited suits (step suits pins taken v)
step-suited suits pins taken v s = step-cases (IsSuited suits) suits pins taken v s (λ pin o. add-suited suits pins taken v pin s o)

-- the pin suits this variable alone
pub record IsOwn (suits : Read → ℕ → Bool) (pins : List ℕ) (v : Read) (pin : ℕ) : Type 0 where
  pub within : Among pin pins
  pub suited : suits v pin ≡ true
  pub alone : (w : Read) → suits w pin ≡ true → w ≡ v

-- the variable has a pin
abbrev pub IsPlaced : List Taken → Read → Type 0
IsPlaced taken v = (pin : ℕ) × Among {T = Taken} (v, pin) taken

taken-by : (suits : Read → ℕ → Bool) (pins : List ℕ) (taken : List Taken) (v : Read) (pin : ℕ) → IsSuited suits taken → IsOwn suits pins v pin → is_taken taken pin ≡ true → has_pin taken v ≡ true
taken-by suits pins taken v pin s own e =
    let t = any-among (λ t. eqb t.1 pin) taken e in
    let same : t.0.1 ≡ pin = eqb-true t.0.1 pin t.2 in
    let is : t.0.0 ≡ v = own.alone t.0.0 (subst (λ (q : ℕ). suits t.0.0 q ≡ true) same (s.each t.0 t.1)) in
    among-any (λ t. same_read t.0 v) t.0 taken t.1 (ap (λ (q : Read). same_read q v) is ∙ same-read v)

pub has-placed : (taken : List Taken) (v : Read) → has_pin taken v ≡ true → IsPlaced taken v
has-placed taken v e =
    let t = any-among (λ t. same_read t.0 v) taken e in
    let is : t.0.0 ≡ v = read-same t.0.0 v t.2 in
    (t.0.1, subst (λ (q : Read). Among {T = Taken} (q, t.0.1) taken) is t.1)

step-places : (suits : Read → ℕ → Bool) (pins : List ℕ) (taken : List Taken) (v : Read) (pin : ℕ) → IsSuited suits taken → IsOwn suits pins v pin → IsPlaced (step suits pins taken v) v
step-places suits pins taken v pin s own = at (has_pin taken v) refl
  where
    not_taken : (q : Bool) → has_pin taken v ≡ false → is_taken taken pin ≡ q → q ≡ false
    not_taken true none e = sym (taken-by suits pins taken v pin s own e) ∙ none
    not_taken false none e = refl

    at : (q : Bool) → has_pin taken v ≡ q → IsPlaced (cond q taken (taking taken v (first_of (open_pins suits pins taken v)))) v
    at true e = has-placed taken v e
    at false e =
        let free : is_taken taken pin ≡ false = not_taken (is_taken taken pin) e refl in
        let test : (not (is_taken taken pin) && suits v pin) ≡ true = ap (λ (q : Bool). not q && suits v pin) free ∙ own.suited in
        let first = among-first pin (open_pins suits pins taken v) (among-filter (λ p. not (is_taken taken p) && suits v p) pin pins own.within test) in
        subst (λ (o : Option ℕ). IsPlaced (taking taken v o) v) (sym first.1) (first.0, among-right (v, first.0) taken ((v, first.0) ∷ []) (inl refl))

-- a variable that has a pin of its own gets a pin
pub take-places : (suits : Read → ℕ → Bool) (pins : List ℕ) (taken : List Taken) (vs : List Read) (v : Read) (pin : ℕ) → IsSuited suits taken → IsOwn suits pins v pin →
    Among v vs → IsPlaced (take_pins suits pins taken vs) v
take-places suits pins taken [] v pin s own a = absurd a
take-places suits pins taken (w ∷ vs) v pin s own (inl e) =
    let here = subst (λ (q : Read). IsPlaced (step suits pins taken q) v) e (step-places suits pins taken v pin s own) in
    (here.0, take-grows suits pins (step suits pins taken w) vs (v, here.0) here.1)
take-places suits pins taken (w ∷ vs) v pin s own (inr a) =
    take-places suits pins (step suits pins taken w) vs v pin (step-suited suits pins taken w s) own a
