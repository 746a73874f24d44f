-- What fields say of all fuses, one after the other.
use Rattle.std.proofs.Common.{ℕ, ◌≡◌, Bool, ◌||◌, List, [], ◌∷◌, ◌++◌, Option, Some, None, Result, Ok, Err, refl, sym, ap, ◌∙◌}
use Rattle.std.specs.Option.{is_some}
use Rattle.std.proofs.lemmas.List.Folds.{list_any-append}
use Rattle.std.proofs.Math.Bool.{or-false, or-true}
use Rattle.mig_base.specs.declared.jedec.JedError.{JedError}
use Rattle.mig_base.specs.First.{first_refusal, or_else, unless}
use Rattle.mig_base.specs.FuseText.{Said, Count, Default, Listing, FuseSum, Kept, Other, Formless, Statement, any_before, counts, defaults, count_in, count_or, default_in, default_or, field_refusal, field_refusal_by}
use Rattle.jed_text.specs.declared.overall.Overall.{Overall}
use Rattle.jed_text.specs.Overalls.{with_said, overall_with, overall_in}
use Rattle.jed_text.proofs.Unless.{unless-ok, unless-err}

-- the same with what these fields say besides, unless one of them can't stand there
abbrev pub overall_on : Overall → List Statement → Result Overall JedError
overall_on overall [] = Ok overall
overall_on overall (f ∷ fs) = unless (field_refusal_by (is_some overall.count) (is_some overall.default) f.at f.says) (overall_on (with_said overall f.says) fs)

or-none : {E : Type 0} (o : Option E) → or_else o None ≡ o
or-none None = refl
or-none (Some e) = refl

-- a second number of fuses is refused, so it does not matter which one is kept
count-kept : (said : Said) (count later : Option ℕ) (defaulted : Bool) (place : ℕ) → field_refusal_by (is_some count) defaulted place said ≡ None → or_else (count_or said count) later ≡ or_else count (count_or said later)
count-kept (Count n) None later defaulted place h = refl
count-kept (Count n) (Some m) later defaulted place h = cc
count-kept (Default s) count later defaulted place h = refl
count-kept (Listing first states) count later defaulted place h = refl
count-kept (FuseSum n) count later defaulted place h = refl
count-kept Kept count later defaulted place h = refl
count-kept Other count later defaulted place h = refl
count-kept Formless count later defaulted place h = refl

default-kept : (said : Said) (default later : Option Bool) (counted : Bool) (place : ℕ) → field_refusal_by counted (is_some default) place said ≡ None → or_else (default_or said default) later ≡ or_else default (default_or said later)
default-kept (Default s) None later counted place h = refl
default-kept (Default s) (Some t) later counted place h = cc
default-kept (Count n) default later counted place h = refl
default-kept (Listing first states) default later counted place h = refl
default-kept (FuseSum n) default later counted place h = refl
default-kept Kept default later counted place h = refl
default-kept Other default later counted place h = refl
default-kept Formless default later counted place h = refl

count-said : (said : Said) (count : Option ℕ) → is_some (count_or said count) ≡ (is_some count || counts said)
count-said (Count n) count = sym (or-true (is_some count))
count-said (Default s) count = sym (or-false (is_some count))
count-said (Listing first states) count = sym (or-false (is_some count))
count-said (FuseSum n) count = sym (or-false (is_some count))
count-said Kept count = sym (or-false (is_some count))
count-said Other count = sym (or-false (is_some count))
count-said Formless count = sym (or-false (is_some count))

default-said : (said : Said) (default : Option Bool) → is_some (default_or said default) ≡ (is_some default || defaults said)
default-said (Default s) default = sym (or-true (is_some default))
default-said (Count n) default = sym (or-false (is_some default))
default-said (Listing first states) default = sym (or-false (is_some default))
default-said (FuseSum n) default = sym (or-false (is_some default))
default-said Kept default = sym (or-false (is_some default))
default-said Other default = sym (or-false (is_some default))
default-said Formless default = sym (or-false (is_some default))

any-more : (test : Said → Bool) (before : List Statement) (f : Statement) → any_before test (before ++ f ∷ []) ≡ (any_before test before || test f.says)
any-more test before f = list_any-append (λ g. test g.says) before (f ∷ []) ∙ ap (λ b. any_before test before || b) (or-false (test f.says))

-- what is said so far is what the fields before say
record IsSoFar (overall : Overall) (before : List Statement) : Type 0 where
  pub count : is_some overall.count ≡ any_before counts before
  pub default : is_some overall.default ≡ any_before defaults before

so-far-more : (overall : Overall) (before : List Statement) (f : Statement) → IsSoFar overall before → IsSoFar (with_said overall f.says) (before ++ f ∷ [])
so-far-more overall before f h = record {
  count = count-said f.says overall.count ∙ ap (λ b. b || counts f.says) h.count ∙ sym (any-more counts before f);
  default = default-said f.says overall.default ∙ ap (λ b. b || defaults f.says) h.default ∙ sym (any-more defaults before f);
}

-- what is said so far, or else by these fields
abbrev either : Overall → Option ℕ → Option Bool → Overall
either overall count default = record { count = or_else overall.count count; default = or_else overall.default default }

either-said : (overall : Overall) (f : Statement) (count : Option ℕ) (default : Option Bool) → field_refusal_by (is_some overall.count) (is_some overall.default) f.at f.says ≡ None →
    either (with_said overall f.says) count default ≡ either overall (count_or f.says count) (default_or f.says default)
either-said overall f count default h =
    ap (λ n. let o : Overall = record { count = n; default = or_else (default_or f.says overall.default) default } in o) (count-kept f.says overall.count count (is_some overall.default) f.at h)
    ∙ ap (λ s. let o : Overall = record { count = or_else overall.count (count_or f.says count); default = s } in o) (default-kept f.says overall.default default (is_some overall.count) f.at h)

overall_rest : (overall : Overall) (before fields : List Statement) → IsSoFar overall before →
    overall_on overall fields ≡ unless (first_refusal field_refusal before fields) (Ok (either overall (count_in fields) (default_in fields)))
overall_rest overall before [] h =
    sym (ap (λ n. let r : Result Overall JedError = Ok (record { count = n; default = or_else overall.default None }) in r) (or-none overall.count)
    ∙ ap (λ s. let r : Result Overall JedError = Ok (record { count = overall.count; default = s }) in r) (or-none overall.default))
overall_rest overall before (f ∷ fs) h =
    at (field_refusal_by (is_some overall.count) (is_some overall.default) f.at f.says) refl (overall_rest (with_said overall f.says) (before ++ f ∷ []) fs (so-far-more overall before f h))
    ∙ ap (λ o. unless (or_else o later) (Ok (either overall (count_or f.says (count_in fs)) (default_or f.says (default_in fs))))) same
  where
    later : Option JedError
    later = first_refusal field_refusal (before ++ f ∷ []) fs

    same : field_refusal_by (is_some overall.count) (is_some overall.default) f.at f.says ≡ field_refusal before f
    same = ap (λ b. field_refusal_by b (is_some overall.default) f.at f.says) h.count ∙ ap (λ b. field_refusal_by (any_before counts before) b f.at f.says) h.default

    at : (o : Option JedError) → field_refusal_by (is_some overall.count) (is_some overall.default) f.at f.says ≡ o →
        overall_on (with_said overall f.says) fs ≡ unless later (Ok (either (with_said overall f.says) (count_in fs) (default_in fs))) →
        unless o (overall_on (with_said overall f.says) fs) ≡ unless (or_else o later) (Ok (either overall (count_or f.says (count_in fs)) (default_or f.says (default_in fs))))
    at (Some e) n rest = refl
    at None n rest = rest ∙ ap (λ o. unless later (let r : Result Overall JedError = Ok o in r)) (either-said overall f (count_in fs) (default_in fs) n)

-- nothing is said at first
pub overall-start : (fields : List Statement) → overall_on (record { count = None; default = None }) fields ≡ overall_in fields
overall-start fields = overall_rest (record { count = None; default = None }) [] fields (record { count = refl; default = refl })

-- a field that can stand there
pub overall-step : (overall next : Overall) (f : Statement) (fields : List Statement) → Ok next ≡ overall_with overall f.at f.says → overall_on next fields ≡ overall_on overall (f ∷ fields)
overall-step overall next f fields e =
    let h = unless-ok (field_refusal_by (is_some overall.count) (is_some overall.default) f.at f.says) (with_said overall f.says) next (sym e) in
    ap (λ o. overall_on o fields) (sym h.1) ∙ sym (ap (λ o. unless o (overall_on (with_said overall f.says) fields)) h.0)

-- a field that can't
pub overall-stop : (overall : Overall) (e : JedError) (f : Statement) (fields : List Statement) → Err e ≡ overall_with overall f.at f.says → overall_on overall (f ∷ fields) ≡ Err e
overall-stop overall e f fields h =
    ap (λ o. unless o (overall_on (with_said overall f.says) fields)) (unless-err (field_refusal_by (is_some overall.count) (is_some overall.default) f.at f.says) (with_said overall f.says) e (sym h))

-- what the fields say where none is refused
pub record IsOverall (overall : Overall) (fields : List Statement) : Type 0 where
  pub placed : first_refusal field_refusal [] fields ≡ None
  pub count : overall.count ≡ count_in fields
  pub default : overall.default ≡ default_in fields

pub overall-ok : (fields : List Statement) (overall : Overall) → Ok overall ≡ overall_in fields → IsOverall overall fields
overall-ok fields overall e =
    let h = unless-ok (first_refusal field_refusal [] fields) (record { count = count_in fields; default = default_in fields }) overall (sym e) in
    record { placed = h.0; count = ap (λ o. o.count) (sym h.1); default = ap (λ o. o.default) (sym h.1) }

pub overall-err : (fields : List Statement) (e : JedError) → Err e ≡ overall_in fields → first_refusal field_refusal [] fields ≡ Some e
overall-err fields e h = unless-err (first_refusal field_refusal [] fields) (record { count = count_in fields; default = default_in fields }) e (sym h)
