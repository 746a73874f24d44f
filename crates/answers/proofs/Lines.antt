-- Lines written in pieces.
use Rattle.std.proofs.Common.{ℕ, ◌≡◌, ◌<◌, ◌/◌, ◌%◌, ◌^◌, ◌-◌, true, false, List, [], ◌∷◌, ◌++◌, refl, sym, ap, ◌∙◌, subst, append_assoc, arith, Result, Ok, Err, Option, Some, Fits, w16}
use Rattle.std.specs.Prelude.{OnOk}
use Rattle.std.specs.List.{join_with_byte}
use Rattle.std.specs.Fmt.{digits, padded_integral, format_spec, AppendsText, ◌++?◌}
use Rattle.std.proofs.lemmas.Fmt.{hex_byte}
use Rattle.mig_base.specs.WrittenBoard.{written_line}
use Rattle.answers.specs.Reasons.{Reason, reason_words}
use Rattle.mig_base.specs.WrittenFuses.{hex_digit, four_hex}

-- a front, a file and a space, and then the words of a reason
pub refused-line : {E : Type 0} (old mid new front file : List ℕ) (reason : Reason) (r : Result (Unit {0}) E) →
    mid ≡ old ++ (front ++ (file ++ 32 ∷ [])) → OnOk r (new ≡ mid ++ written_line (reason_words reason)) → OnOk r (new ≡ old ++ (front ++ written_line (file ∷ reason_words reason)))
refused-line old mid new front file reason (Err e) begun ended = tt
refused-line old mid new front file reason (Ok done) begun ended =
    let words = join_with_byte 32 (reason_words reason) in
    ended ∙ ap (λ (t : List ℕ). t ++ (words ++ 10 ∷ [])) begun ∙ append_assoc old (front ++ (file ++ 32 ∷ [])) (words ++ 10 ∷ [])
    ∙ ap (λ (t : List ℕ). old ++ t) (append_assoc front (file ++ 32 ∷ []) (words ++ 10 ∷ [])
    ∙ ap (λ (t : List ℕ). front ++ t) (append_assoc file (32 ∷ []) (words ++ 10 ∷ []) ∙ sym (append_assoc file (32 ∷ words) (10 ∷ []))))

-- a front, and a file's name
pub file-line : {E : Type 0} (old new front name file : List ℕ) (r : Result (Unit {0}) E) → name ≡ file →
    OnOk r (new ≡ old ++ (front ++ (name ++ 10 ∷ []))) → OnOk r (new ≡ old ++ (front ++ (file ++ 10 ∷ [])))
file-line old new front name file r same written = subst (λ (f : List ℕ). OnOk r (new ≡ old ++ (front ++ (f ++ 10 ∷ [])))) same written

-- what is printed of a byte
abbrev pub byte_text : ℕ → List ℕ
byte_text n = padded_integral (format_spec 32 0 4 2 (2 ^ 64 - 1)) false [] (digits 16 true n)

byte-digits : (n : ℕ) → n < 256 → byte_text n ≡ hex_digit (n / 16) ∷ hex_digit (n % 16) ∷ []
byte-digits n low = hex_byte true n low

-- the digits of both bytes of a number
sum-digits : (n : ℕ) → n < 65536 → byte_text (n / 256) ++ byte_text (n % 256) ≡ four_hex n
sum-digits n fits =
    let a : n / 256 / 16 ≡ n / 4096 % 16 = omega arith in
    let b : n % 256 / 16 ≡ n / 16 % 16 = omega arith in
    let c : n % 256 % 16 ≡ n % 16 = omega arith in
    let high : n / 256 < 256 = omega arith in
    let low : n % 256 < 256 = omega arith in
    rw (byte-digits (n / 256) high, byte-digits (n % 256) low, a, b, c) refl

-- a space and both bytes, as they are printed
pub sum-written : {E : Type 0} (old new : List ℕ) (n : ℕ) (high low : Option (List ℕ)) (r : Result (Unit {0}) E) → Fits w16 n →
    high ≡ Some (byte_text (n / 256)) → low ≡ Some (byte_text (n % 256)) → OnOk r (AppendsText old new (Some (32 ∷ []) ++? (high ++? low))) → OnOk r (new ≡ old ++ 32 ∷ four_hex n)
sum-written old new n high low (Err e) fits h l written = tt
sum-written old new n high low (Ok done) fits h l written =
    let text : AppendsText old new (Some (32 ∷ []) ++? (Some (byte_text (n / 256)) ++? Some (byte_text (n % 256)))) =
    subst (λ (q : Option (List ℕ)). AppendsText old new (Some (32 ∷ []) ++? (Some (byte_text (n / 256)) ++? q))) l (subst (λ (q : Option (List ℕ)). AppendsText old new (Some (32 ∷ []) ++? (q ++? low))) h written) in
    text ∙ ap (λ (t : List ℕ). old ++ 32 ∷ t) (sum-digits n fits.fits)
