-- Looking up an item, one by one.
use Rattle.std.proofs.Common.{ℕ, ◌≡◌, ◌+◌, ◌<◌, ◌≤◌, Bool, true, false, cond, ◌||◌, List, [], ◌∷◌, length, drop, get_or, Some, None, refl, sym, ap, ◌∙◌}
use Rattle.std.specs.List.{find, list_any}
use Rattle.std.proofs.lemmas.List.{drop_more, drop_all}
use Rattle.mig_base.specs.BoardText.{Says}
use Rattle.net_text.specs.declared.lines.BoardLine.{BoardLine}
use Rattle.net_text.specs.Statements.{says_of, all_says}

pub find-here : {T : Type 0} (p : T → Bool) (xs : List T) (i : ℕ) (x : T) → i < length xs → x ≡ get_or xs i x → p x ≡ true → find p (drop i xs) ≡ Some x
find-here {T} p xs i x lt is h =
    ap (find p) (drop_more xs i x lt) ∙ ap (λ (y : T). cond (p y) (Some y) (find p (drop (i + 1) xs))) (sym is) ∙ ap (λ (t : Bool). cond t (Some x) (find p (drop (i + 1) xs))) h

pub find-next : {T : Type 0} (p : T → Bool) (xs : List T) (i : ℕ) (x : T) → i < length xs → x ≡ get_or xs i x → p x ≡ false → find p (drop i xs) ≡ find p (drop (i + 1) xs)
find-next {T} p xs i x lt is h =
    ap (find p) (drop_more xs i x lt) ∙ ap (λ (y : T). cond (p y) (Some y) (find p (drop (i + 1) xs))) (sym is) ∙ ap (λ (t : Bool). cond t (Some x) (find p (drop (i + 1) xs))) h

pub find-past : {T : Type 0} (p : T → Bool) (xs : List T) (i : ℕ) → length xs ≤ i → find p (drop i xs) ≡ None
find-past p xs i h = ap (find p) (drop_all i xs h)

-- a test of what lines say
pub any-said : (p : Says → Bool) (ls : List BoardLine) → list_any p (all_says ls) ≡ list_any (λ l. p (says_of l.says)) ls
any-said p [] = refl
any-said p (l ∷ ls) = ap (λ (t : Bool). p (says_of l.says) || t) (any-said p ls)
