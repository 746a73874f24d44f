-- A fuse text has at most 8,192 fuses.
use Rattle.std.proofs.Common.{ℕ, ◌≡◌, ◌≤◌, ◌+◌, Bool, true, false, cond, map, List, [], ◌∷◌, ◌++◌, length, Option, Some, None, Result, Ok, refl, sym, ap, ◌∙◌, subst, arith}
use Rattle.std.specs.Prelude.{nat_le}
use Rattle.std.specs.Option.{option_map}
use Rattle.std.proofs.lemmas.Bool.{leb-true}
use Rattle.mig_base.specs.declared.jedec.JedError.{JedError}
use Rattle.mig_base.specs.declared.jedec.JedError.TheVariants.{BadField, CountTwice, CountOver, NoCount, NoStx, NoEtx}
use Rattle.mig_base.specs.First.{or_else, first_refusal, unless, needed}
use Rattle.mig_base.specs.FuseText.{Said, Count, Default, Listing, FuseSum, Kept, Other, Formless, Statement, any_before, counts, defaults, field_refusal_by, field_refusal, count_or, count_in, states_in, sum_refusal, fuse_sum, address_refusal, default_in, fuses_in, fuses_of_text, cut_at, fields_of, pieces, loose_of, statement_of, fuses_of_count, twice_refusal, unset_refusal}
use Rattle.mig_base.proofs.ListLaws.{length-made_from}

-- where nothing is refused
pub record Passed {E A : Type 0} (refusal : Option E) (rest : Result A E) (a : A) : Type 0 where
  pub none : refusal ≡ None
  pub then : rest ≡ Ok a

pub unless-ok : {E A : Type 0} (refusal : Option E) (rest : Result A E) (a : A) → unless refusal rest ≡ Ok a → Passed refusal rest a
unless-ok None rest a h = record { none = refl; then = h }
unless-ok (Some e) rest a h = cc

pub needed-ok : {E A B : Type 0} (e : E) (o : Option A) (go : A → Result B E) (b : B) → needed e o go ≡ Ok b → (a : A) × (o ≡ Some a) × (go a ≡ Ok b)
needed-ok e None go b h = cc
needed-ok e (Some a) go b h = (a, refl, h)

or-none : {E : Type 0} (a b : Option E) → or_else a b ≡ None → (a ≡ None) × (b ≡ None)
or-none None b h = (refl, h)
or-none (Some e) b h = cc

few-at : (b c : Bool) (n at : ℕ) → c ≡ nat_le n 8192 → cond b (Some (CountTwice at)) (cond c None (Some (CountOver n))) ≡ None → n ≤ 8192
few-at true c n at e h = cc
few-at false true n at e h = leb-true n 8192 (sym e)
few-at false false n at e h = cc

few-field : (counted defaulted : Bool) (at : ℕ) (s : Said) (later : Option ℕ) (n : ℕ) → field_refusal_by counted defaulted at s ≡ None → (later ≡ Some n → n ≤ 8192) → count_or s later ≡ Some n → n ≤ 8192
few-field counted defaulted at (Count m) later n none rest e =
    let same : m ≡ n = cc in
    subst (λ (k : ℕ). k ≤ 8192) same (few-at counted (nat_le m 8192) m at refl none)
few-field counted defaulted at (Default s) later n none rest e = rest e
few-field counted defaulted at (Listing first states) later n none rest e = rest e
few-field counted defaulted at (FuseSum said) later n none rest e = rest e
few-field counted defaulted at Kept later n none rest e = rest e
few-field counted defaulted at Other later n none rest e = rest e
few-field counted defaulted at Formless later n none rest e = rest e

few-fields : (before fs : List Statement) (n : ℕ) → first_refusal field_refusal before fs ≡ None → count_in fs ≡ Some n → n ≤ 8192
few-fields before [] n none e = cc
few-fields before (f ∷ fs) n none e =
    let parts = or-none (field_refusal before f) (first_refusal field_refusal (before ++ f ∷ []) fs) none in
    few-field (any_before counts before) (any_before defaults before) f.at f.says (count_in fs) n parts.0 (λ (later : count_in fs ≡ Some n). few-fields (before ++ f ∷ []) fs n parts.1 later) e

few-of-count : (fs : List Statement) (n : ℕ) (bits : List Bool) → fuses_of_count fs n ≡ Ok bits → length bits ≡ n
few-of-count fs n bits h =
    let c = unless-ok (first_refusal (λ before f. address_refusal n f) [] fs) _ bits h in
    let d = unless-ok (twice_refusal fs n) _ bits c.then in
    let e = unless-ok (unset_refusal fs (default_in fs) n) _ bits d.then in
    let told : Result (List Bool) JedError = Ok (states_in fs n) in
    let s = unless-ok (first_refusal (λ before f. sum_refusal (fuse_sum (states_in fs n)) f) [] fs) told bits e.then in
    let same : states_in fs n ≡ bits = same-ok (states_in fs n) bits s.then in
    ap length (sym same) ∙ length-made_from _ 0 n
  where
    same-ok : (x y : List Bool) → (let q : Result (List Bool) JedError = Ok x in q) ≡ Ok y → x ≡ y
    same-ok x y e = cc

few-in : (fs : List Statement) (loose : Option ℕ) (bits : List Bool) → fuses_in fs loose ≡ Ok bits → length bits ≤ 8192
few-in fs loose bits h =
    let a = unless-ok (first_refusal field_refusal [] fs) _ bits h in
    let l = unless-ok (option_map BadField loose) _ bits a.then in
    let b = needed-ok NoCount (count_in fs) (fuses_of_count fs) bits l.then in
    let count : length bits ≡ b.0 = few-of-count fs b.0 bits b.2 in
    let few : b.0 ≤ 8192 = few-fields [] fs b.0 a.none b.1 in
    omega arith

-- at most 8,192
pub few-fuses : (bytes : List ℕ) (bits : List Bool) → fuses_of_text bytes ≡ Ok bits → length bits ≤ 8192
few-fuses bytes bits h =
    let a = needed-ok NoStx (cut_at 2 bytes) _ bits h in
    let b = needed-ok NoEtx (cut_at 3 a.0.1) _ bits a.2 in
    let c = unless-ok _ (fuses_in (map statement_of (fields_of (length a.0.0 + 1) (pieces b.0.0))) (loose_of (length a.0.0 + 1) (pieces b.0.0))) bits b.2 in
    few-in (map statement_of (fields_of (length a.0.0 + 1) (pieces b.0.0))) (loose_of (length a.0.0 + 1) (pieces b.0.0)) bits c.then
