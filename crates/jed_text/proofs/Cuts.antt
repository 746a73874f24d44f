-- Cutting a list of bytes.
use Rattle.std.proofs.Common.{ℕ, ◌≡◌, ◌<◌, ◌+◌, Bool, true, false, cond, List, [], ◌∷◌, ◌++◌, take, drop, length, get_or, Option, Some, None, eqb, refl, sym, ap, ◌∙◌, subst, arith}
use Rattle.std.specs.Option.{option_map}
use Rattle.std.proofs.lemmas.List.{take_more, take-append-drop}
use Rattle.std.proofs.lemmas.Bool.{eqb-true}
use Rattle.mig_base.specs.FuseText.{Lacks, cut_at, pieces, with_front}
use Rattle.jed_write.proofs.FuseTextLaws.{cut_at-append}
use Rattle.jed_write.proofs.WrittenFusesLaws.{lacks-append}
use Rattle.jed_write.proofs.PartLemmas.{drop_one}
use Rattle.std.proofs.Math.Seq.{take-length}
use Rattle.std.proofs.Common.{◌-◌}

pub lacks-more : (byte : ℕ) (bytes : List ℕ) (i : ℕ) → i < length bytes → Lacks byte (take i bytes) → eqb (get_or bytes i 0) byte ≡ false → Lacks byte (take (i + 1) bytes)
lacks-more byte bytes i lt before ne =
    subst (λ (bs : List ℕ). Lacks byte bs) (sym (take_more bytes i 0 lt)) (lacks-append byte (take i bytes) (get_or bytes i 0 ∷ []) before (ne, tt))

pub cut_at-none : (byte : ℕ) (bytes : List ℕ) → Lacks byte bytes → cut_at byte bytes ≡ None
cut_at-none byte [] h = refl
cut_at-none byte (b ∷ bs) h = rw (h.0, cut_at-none byte bs h.1) refl

-- a list, cut at a place where the byte stands
pub split-here : (byte : ℕ) (bytes : List ℕ) (i : ℕ) → i < length bytes → eqb (get_or bytes i 0) byte ≡ true → bytes ≡ take i bytes ++ byte ∷ drop (i + 1) bytes
split-here byte bytes i lt e =
    sym (take-append-drop i bytes) ∙ ap (λ (bs : List ℕ). take i bytes ++ bs) (drop_one bytes i lt) ∙ ap (λ (b : ℕ). take i bytes ++ b ∷ drop (i + 1) bytes) (eqb-true (get_or bytes i 0) byte e)

pub cut-here : (byte : ℕ) (bytes : List ℕ) (i : ℕ) → i < length bytes → Lacks byte (take i bytes) → eqb (get_or bytes i 0) byte ≡ true → cut_at byte bytes ≡ Some (take i bytes, drop (i + 1) bytes)
cut-here byte bytes i lt before e = ap (cut_at byte) (split-here byte bytes i lt e) ∙ cut_at-append byte (take i bytes) (drop (i + 1) bytes) before

-- the pieces begin with what stands before the first asterisk
abbrev pub after_cut : List ℕ → Option (List ℕ × List ℕ) → List (List ℕ)
after_cut bytes None = bytes ∷ []
after_cut bytes (Some p) = p.0 ∷ pieces p.1

onto : ℕ → Option (List ℕ × List ℕ) → Option (List ℕ × List ℕ)
onto b o = option_map (λ p. (b ∷ p.0, p.1)) o

pub pieces-cut : (bytes : List ℕ) → pieces bytes ≡ after_cut bytes (cut_at 42 bytes)
pieces-cut [] = refl
pieces-cut (b ∷ bs) = at (eqb b 42) (cut_at 42 bs) (pieces-cut bs)
  where
    at : (t : Bool) (o : Option (List ℕ × List ℕ)) → pieces bs ≡ after_cut bs o →
        cond t ([] ∷ pieces bs) (with_front b (pieces bs)) ≡ after_cut (b ∷ bs) (cond t (Some ([], bs)) (option_map (λ p. (b ∷ p.0, p.1)) o))
    at true o e = refl
    at false None e = ap (with_front b) e
    at false (Some p) e = ap (with_front b) e

pub lacks-whole : (byte : ℕ) (bytes : List ℕ) (i : ℕ) → i ≡ length bytes → Lacks byte (take i bytes) → Lacks byte bytes
lacks-whole byte bytes i e h = subst (λ (bs : List ℕ). Lacks byte bs) (ap (λ (n : ℕ). take n bytes) e ∙ take-length bytes) h

pub cut-shorter : (byte : ℕ) (bytes : List ℕ) (p : List ℕ × List ℕ) → cut_at byte bytes ≡ Some p → length p.1 < length bytes
cut-shorter byte [] p e = cc
cut-shorter byte (b ∷ bs) p e = at (eqb b byte) (cut_at byte bs) (λ q. cut-shorter byte bs q) e
  where
    at : (t : Bool) (o : Option (List ℕ × List ℕ)) → ((q : List ℕ × List ℕ) → o ≡ Some q → length q.1 < length bs) →
        cond t (Some ([], bs)) (option_map (λ p. (b ∷ p.0, p.1)) o) ≡ Some p → length p.1 < length (b ∷ bs)
    at true o later e = let same : bs ≡ p.1 = cc in let n : length bs ≡ length p.1 = ap length same in omega arith
    at false None later e = cc
    at false (Some q) later e = let same : q.1 ≡ p.1 = cc in let n : length q.1 ≡ length p.1 = ap length same in let lt : length q.1 < length bs = later q refl in omega arith
