-- One more line that is judged and kept.
use Rattle.std.proofs.Common.{ℕ, ◌≡◌, ◌+◌, ◌<◌, ◌≤◌, List, [], ◌∷◌, ◌++◌, length, take, drop, get_or, Option, Some, None, sym, ap, ◌∙◌}
use Rattle.std.specs.List.{filter_map}
use Rattle.std.proofs.lemmas.List.{take_more, drop_more, drop_all}
use Rattle.std.proofs.lemmas.List.Elements.{filter_map-append}
use Rattle.mig_base.specs.declared.plans.PlanError.{PlanError}
use Rattle.mig_base.specs.First.{or_else, first_refusal}
use Rattle.plan_text.specs.declared.lines.SaidLine.{SaidLine}
use Rattle.plan_text.specs.PlanText.{line_refusal}

-- the lines that are left, judged behind those before them
abbrev pub judged_from : List SaidLine → ℕ → Option PlanError
judged_from lines i = first_refusal line_refusal (take i lines) (drop i lines)

judged-at : (lines : List SaidLine) (i : ℕ) (line : SaidLine) → i < length lines → line ≡ get_or lines i line →
    judged_from lines i ≡ or_else (line_refusal (take i lines) line) (judged_from lines (i + 1))
judged-at lines i line lt is =
    ap (first_refusal line_refusal (take i lines)) (drop_more lines i line lt)
    ∙ ap (λ (l : SaidLine). or_else (line_refusal (take i lines) l) (first_refusal line_refusal (take i lines ++ l ∷ []) (drop (i + 1) lines))) (sym is)
    ∙ ap (λ (before : List SaidLine). or_else (line_refusal (take i lines) line) (first_refusal line_refusal before (drop (i + 1) lines)))
    (ap (λ (l : SaidLine). take i lines ++ l ∷ []) is ∙ sym (take_more lines i line lt))

-- a line that passes, and one that is refused
pub judged-more : (lines : List SaidLine) (i : ℕ) (line : SaidLine) (all : Option PlanError) → i < length lines → line ≡ get_or lines i line → None ≡ line_refusal (take i lines) line →
    judged_from lines i ≡ all → judged_from lines (i + 1) ≡ all
judged-more lines i line all lt is none h = ap (λ (o : Option PlanError). or_else o (judged_from lines (i + 1))) none ∙ sym (judged-at lines i line lt is) ∙ h

pub judged-here : (lines : List SaidLine) (i : ℕ) (line : SaidLine) (all : Option PlanError) (e : PlanError) → i < length lines → line ≡ get_or lines i line → Some e ≡ line_refusal (take i lines) line →
    judged_from lines i ≡ all → all ≡ Some e
judged-here lines i line all e lt is some h = sym h ∙ judged-at lines i line lt is ∙ ap (λ (o : Option PlanError). or_else o (judged_from lines (i + 1))) (sym some)

pub judged-all : (lines : List SaidLine) (i : ℕ) (all : Option PlanError) → length lines ≤ i → judged_from lines i ≡ all → all ≡ None
judged-all lines i all done h = sym h ∙ ap (first_refusal line_refusal (take i lines)) (drop_all i lines done)

-- one more line whose item is kept
pub kept-more : {T : Type 0} (f : SaidLine → Option T) (lines : List SaidLine) (i : ℕ) (line : SaidLine) (before after : List T) → i < length lines → line ≡ get_or lines i line →
    before ≡ filter_map f (take i lines) → after ≡ before ++ filter_map f (line ∷ []) → after ≡ filter_map f (take (i + 1) lines)
kept-more {T} f lines i line before after lt is h k =
    k ∙ ap (λ (xs : List T). xs ++ filter_map f (line ∷ [])) h ∙ sym (filter_map-append f (take i lines) (line ∷ []))
    ∙ ap (filter_map f) (ap (λ (l : SaidLine). take i lines ++ l ∷ []) is ∙ sym (take_more lines i line lt))
