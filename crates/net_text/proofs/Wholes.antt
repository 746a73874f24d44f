-- From judged lines to the wiring of a text.
use Rattle.std.proofs.Common.{ℕ, ◌≡◌, ◌+◌, ◌<◌, Bool, true, false, cond, List, [], ◌∷◌, ◌++◌, map, length, take, drop, get_or, Option, Some, None, Result, Ok, Err, sym, ap, ◌∙◌, subst}
use Rattle.std.specs.Prelude.{not}
use Rattle.std.specs.List.{list_any, cons_option}
use Rattle.std.specs.Option.{option_map}
use Rattle.std.proofs.lemmas.List.{take_more, map-append}
use Rattle.std.proofs.lemmas.List.Elements.{filter_map-append}
use Rattle.mig_base.specs.declared.nets.Net.{Net}
use Rattle.mig_base.specs.declared.nets.NetLine.{NetLine}
use Rattle.mig_base.specs.declared.nets.ChipLine.{ChipLine}
use Rattle.mig_base.specs.declared.nets.PinLine.{PinLine}
use Rattle.mig_base.specs.declared.nets.NetError.{NetError}
use Rattle.mig_base.specs.declared.nets.NetError.TheVariants.{NoEnd}
use Rattle.mig_base.specs.DeviceTables.{is_ordinary}
use Rattle.mig_base.specs.First.{or_else, first_refusal, unless}
use Rattle.mig_base.specs.BoardText.{Says, SaidLine, said_lines, all_said, ends, refuse, line_refusal, text_refusal, nets_in, chips_in, net_said, chip_said, net_names, names_of_nets, net_at, net_in, net_of_text}
use Rattle.net_text.proofs.BoardKept.{Keeps, lines-keep}
use Rattle.net_text.specs.declared.lines.BoardLine.{BoardLine}
use Rattle.net_text.specs.Statements.{says_of, line_of, all_says}
use Rattle.net_text.proofs.Refusals.{said-of, ends-of}
use Rattle.net_text.proofs.Wirings.{lines_at_pin}
use Rattle.text_lines.proofs.Judging.{judged-more}

-- a line that passes
pub judge-step : (lines : List BoardLine) (i : ℕ) (line : BoardLine) (all : Option NetError) → i < length lines → line ≡ get_or lines i line → None ≡ line_refusal (map line_of (take i lines)) (line_of line) →
    first_refusal line_refusal (map line_of (take i lines)) (map line_of (drop i lines)) ≡ all →
    first_refusal line_refusal (map line_of (take (i + 1) lines)) (map line_of (drop (i + 1) lines)) ≡ all
judge-step lines i line all lt is none h =
    judged-more line_of line_refusal lines i line all lt (ap (λ (l : BoardLine). line_refusal (map line_of (take i lines)) (line_of l)) (sym is) ∙ sym none) h

says-more : (lines : List BoardLine) (i : ℕ) (line : BoardLine) → i < length lines → line ≡ get_or lines i line → all_says (take (i + 1) lines) ≡ all_says (take i lines) ++ says_of line.says ∷ []
says-more lines i line lt is =
    ap all_says (take_more lines i line lt) ∙ map-append (λ l. says_of l.says) (take i lines) (get_or lines i line ∷ []) ∙ ap (λ (l : BoardLine). all_says (take i lines) ++ says_of l.says ∷ []) (sym is)

pub nets-step : (lines : List BoardLine) (i : ℕ) (line : BoardLine) (before after : List NetLine) → i < length lines → line ≡ get_or lines i line → before ≡ nets_in (all_says (take i lines)) →
    after ≡ before ++ nets_in (says_of line.says ∷ []) → after ≡ nets_in (all_says (take (i + 1) lines))
nets-step lines i line before after lt is h k =
    k ∙ ap (λ (ns : List NetLine). ns ++ nets_in (says_of line.says ∷ [])) h ∙ sym (ap nets_in (says-more lines i line lt is) ∙ filter_map-append net_said (all_says (take i lines)) (says_of line.says ∷ []))

pub chips-step : (lines : List BoardLine) (i : ℕ) (line : BoardLine) (before after : List ChipLine) → i < length lines → line ≡ get_or lines i line → before ≡ chips_in (all_says (take i lines)) →
    after ≡ before ++ chips_in (says_of line.says ∷ []) → after ≡ chips_in (all_says (take (i + 1) lines))
chips-step lines i line before after lt is h k =
    k ∙ ap (λ (cs : List ChipLine). cs ++ chips_in (says_of line.says ∷ [])) h ∙ sym (ap chips_in (says-more lines i line lt is) ∙ filter_map-append chip_said (all_says (take i lines)) (says_of line.says ∷ []))

-- what a pin adds, by the two tests
pub pin-put : (ss : List Says) (nets : List NetLine) (j : ℕ) (c : ChipLine) (p : ℕ) (t : Bool) (o : Option ℕ) → nets ≡ nets_in ss → is_ordinary c.kind p ≡ t → o ≡ net_at ss (net_names nets) c.name p →
    lines_at_pin ss j c p ≡ cond t (cons_option (option_map (λ n. let l : PinLine = record { chip = j; pin = p; net = n } in l) o) []) []
pin-put ss nets j c p t o e h k =
    ap (λ (b : Bool). cond b (cons_option (option_map (λ n. let l : PinLine = record { chip = j; pin = p; net = n } in l) (net_at ss (names_of_nets ss) c.name p)) []) []) h
    ∙ ap (λ (x : Option ℕ). cond t (cons_option (option_map (λ n. let l : PinLine = record { chip = j; pin = p; net = n } in l) x) []) []) (sym (k ∙ ap (λ (ns : List NetLine). net_at ss (net_names ns) c.name p) e))

pub not-on-pin : (ss : List Says) (j : ℕ) (c : ChipLine) (p : ℕ) → is_ordinary c.kind p ≡ false → lines_at_pin ss j c p ≡ []
not-on-pin ss j c p h = ap (λ (b : Bool). cond b (cons_option (option_map (λ n. let l : PinLine = record { chip = j; pin = p; net = n } in l) (net_at ss (names_of_nets ss) c.name p)) []) []) h

text-by : (bytes : List ℕ) (lines : List BoardLine) → map line_of lines ≡ said_lines bytes → net_of_text bytes ≡ unless (text_refusal (map line_of lines)) (Ok (net_in (all_says lines)))
text-by bytes lines e =
    ap (λ (ls : List SaidLine). let r : Result Net NetError = unless (text_refusal ls) (Ok (net_in (all_said ls))) in r) (sym e)
    ∙ ap (λ (ss : List Says). let r : Result Net NetError = unless (text_refusal (map line_of lines)) (Ok (net_in ss)) in r) (said-of lines)

-- a text without an end, a whole one, and a refused one
pub text-endless : (bytes : List ℕ) (lines : List BoardLine) → map line_of lines ≡ said_lines bytes → first_refusal line_refusal [] (map line_of lines) ≡ None → list_any (λ l. ends (says_of l.says)) lines ≡ false →
    net_of_text bytes ≡ Err NoEnd
text-endless bytes lines e h k =
    text-by bytes lines e
    ∙ ap (λ (o : Option NetError). let r : Result Net NetError = unless (or_else o (refuse (not (list_any (λ l. ends l.said) (map line_of lines))) NoEnd)) (Ok (net_in (all_says lines))) in r) h
    ∙ ap (λ (t : Bool). let r : Result Net NetError = unless (refuse (not t) NoEnd) (Ok (net_in (all_says lines))) in r) (ends-of lines ∙ k)

pub text-whole : (bytes : List ℕ) (lines : List BoardLine) → map line_of lines ≡ said_lines bytes → first_refusal line_refusal [] (map line_of lines) ≡ None → list_any (λ l. ends (says_of l.says)) lines ≡ true →
    net_of_text bytes ≡ Ok (net_in (all_says lines))
text-whole bytes lines e h k =
    text-by bytes lines e
    ∙ ap (λ (o : Option NetError). let r : Result Net NetError = unless (or_else o (refuse (not (list_any (λ l. ends l.said) (map line_of lines))) NoEnd)) (Ok (net_in (all_says lines))) in r) h
    ∙ ap (λ (t : Bool). let r : Result Net NetError = unless (refuse (not t) NoEnd) (Ok (net_in (all_says lines))) in r) (ends-of lines ∙ k)

pub text-refused : (bytes : List ℕ) (lines : List BoardLine) (error : NetError) → map line_of lines ≡ said_lines bytes → first_refusal line_refusal [] (map line_of lines) ≡ Some error → net_of_text bytes ≡ Err error
text-refused bytes lines error e h =
    text-by bytes lines e
    ∙ ap (λ (o : Option NetError). let r : Result Net NetError = unless (or_else o (refuse (not (list_any (λ l. ends l.said) (map line_of lines))) NoEnd)) (Ok (net_in (all_says lines))) in r) h

pub lines-kept : (lines : List BoardLine) → first_refusal line_refusal [] (map line_of lines) ≡ None → Keeps (all_says lines)
lines-kept lines h = subst Keeps (said-of lines) (lines-keep (map line_of lines) h)
