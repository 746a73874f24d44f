-- Texts that are sent in parts.
use Rattle.std.proofs.Common.{ℕ, zero, suc, ◌≡◌, ◌≢◌, ◌+◌, List, [], ◌∷◌, ◌++◌, length, take, Option, Some, None, Result, Ok, Err, refl, sym, ap, ◌∙◌, subst, append_assoc, arith}
use Rattle.std.specs.Option.{option_map}
use Rattle.std.proofs.lemmas.List.{append-nil}
use Rattle.mig_io.specs.declared.sink.PutError.{PutError}
use Rattle.mig_io.specs.declared.sink.PutError.TheVariants.{Failed, Memory}
use Rattle.mig_io.specs.Counts.{Rose, PutCauses}
use Rattle.mig_io.specs.Holding.{Puts}
use Rattle.shown_runs.specs.Sending.{Gets, GetsPart, Sends, Passes}

pub gets-nothing : (old : Option (List ℕ)) → Gets old old []
gets-nothing None = refl
gets-nothing (Some s) = ap (λ (t : List ℕ). Some t) (sym (append-nil s))

behind : (o : Option (List ℕ)) (x y : List ℕ) → option_map (λ s. s ++ y) (option_map (λ s. s ++ x) o) ≡ option_map (λ s. s ++ (x ++ y)) o
behind None x y = refl
behind (Some s) x y = ap (λ (t : List ℕ). Some t) (append_assoc s x y)

-- a text, and then another
pub gets-both : (a b c : Option (List ℕ)) (x y : List ℕ) → Gets a b x → Gets b c y → Gets a c (x ++ y)
gets-both a b c x y p q = q ∙ ap (option_map (λ s. s ++ y)) p ∙ behind a x y

take-over : (x y : List ℕ) (n : ℕ) → take (length x + n) (x ++ y) ≡ x ++ take n y
take-over [] y n = let e : zero + n ≡ n = omega arith in ap (λ (k : ℕ). take k y) e
take-over (b ∷ bs) y n = let e : suc (length bs) + n ≡ suc (length bs + n) = omega arith in ap (λ (k : ℕ). take k (b ∷ (bs ++ y))) e ∙ ap (λ (t : List ℕ). b ∷ t) (take-over bs y n)

take-none : (x : List ℕ) → take 0 x ≡ []
take-none [] = refl
take-none (b ∷ bs) = refl

-- a text, and then a part of another
pub part-behind : (a b c : Option (List ℕ)) (x y : List ℕ) → Gets a b x → GetsPart b c y → GetsPart a c (x ++ y)
part-behind a b c x y p q = (
  length x + q.0,
  q.1 ∙ ap (option_map (λ s. s ++ take q.0 y)) p ∙ behind a x (take q.0 y) ∙ ap (λ (t : List ℕ). option_map (λ s. s ++ t) a) (sym (take-over x y q.0)),
)

pub nothing-part : (a : Option (List ℕ)) (x : List ℕ) → GetsPart a a x
nothing-part a x = (0, gets-nothing a ∙ ap (λ (t : List ℕ). option_map (λ s. s ++ t) a) (sym (take-none x)))

-- a text is a part of a longer one
pub whole-part : (a b : Option (List ℕ)) (x y : List ℕ) → Gets a b x → GetsPart a b (x ++ y)
whole-part a b x y p = part-behind a b b x y p (nothing-part b y)

-- a part of a text is one of a longer one
shorter : (n : ℕ) (x y : List ℕ) → (m : ℕ) × (take n x ≡ take m (x ++ y))
shorter n [] y = (0, none n ∙ sym (take-none y))
  where
    none : (n : ℕ) → take n (let e : List ℕ = [] in e) ≡ []
    none zero = refl
    none (suc n) = refl
shorter zero (b ∷ bs) y = (0, refl)
shorter (suc n) (b ∷ bs) y = let rest = shorter n bs y in (suc rest.0, ap (λ (t : List ℕ). b ∷ t) rest.1)

pub part-longer : (a b : Option (List ℕ)) (x y : List ℕ) → GetsPart a b x → GetsPart a b (x ++ y)
part-longer a b x y p = let m = shorter p.0 x y in (m.0, p.1 ∙ ap (λ (t : List ℕ). option_map (λ s. s ++ t) a) m.1)

pub gets-same : (a b : Option (List ℕ)) (x y : List ℕ) → x ≡ y → Gets a b x → Gets a b y
gets-same a b x y e p = subst (Gets a b) e p

pub part-same : (a b : Option (List ℕ)) (x y : List ℕ) → x ≡ y → GetsPart a b x → GetsPart a b y
part-same a b x y e p = subst (GetsPart a b) e p

-- a put that failed
pub put-part : (old new : Option (List ℕ)) (bytes : List ℕ) (e : PutError) → Puts {T = Unit {0}} old new bytes (Err e) → GetsPart old new bytes
put-part old new bytes Failed p = p.failed refl
put-part old new bytes Memory p = (0, p.memory refl ∙ gets-nothing old ∙ ap (λ (t : List ℕ). option_map (λ s. s ++ t) old) (sym (take-none bytes)))

-- the last put, behind what was sent
pub sends-last : (old mid new : Option (List ℕ)) (sent bytes text : List ℕ) (r : Result (Unit {0}) PutError) → Gets old mid sent → Puts mid new bytes r → sent ++ bytes ≡ text → Sends old new text r
sends-last old mid new sent bytes text (Ok done) p q e = gets-same old new (sent ++ bytes) text e (gets-both old mid new sent bytes p q.ok)
sends-last old mid new sent bytes text (Err x) p q e = part-same old new (sent ++ bytes) text e (part-behind old mid new sent bytes p (put-part mid new bytes x q))

-- no put so far, and one that may fail
pub causes-later : {T : Type 0} (before between now : ℕ) (r : Result T PutError) → between ≡ before → PutCauses between now r → PutCauses before now r
causes-later before between now r e p = subst (λ (n : ℕ). PutCauses n now r) e p

pub no-causes : {T : Type 0} (before now : ℕ) (r : Result T PutError) → now ≡ before → r ≢ Err Failed → PutCauses before now r
no-causes before now r e other = record { later = omega arith; failed = λ f. absurd (other f); same = λ _. e }
