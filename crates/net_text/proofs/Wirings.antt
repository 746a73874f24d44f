-- The pins and pulls of lines, one by one.
use Rattle.std.proofs.Common.{ℕ, suc, ◌≡◌, ◌+◌, ◌-◌, ◌<◌, ◌≤◌, Bool, true, false, cond, List, [], ◌∷◌, ◌++◌, length, drop, get_or, Option, Some, None, refl, sym, ap, ◌∙◌, arith, append_assoc}
use Rattle.std.specs.Prelude.{filter}
use Rattle.std.specs.List.{filter_map, cons_option}
use Rattle.std.specs.Option.{option_map}
use Rattle.std.proofs.lemmas.List.{drop_more, drop_all, append-nil}
use Rattle.mig_base.specs.declared.nets.ChipLine.{ChipLine}
use Rattle.mig_base.specs.declared.nets.PinLine.{PinLine}
use Rattle.mig_base.specs.declared.nets.Pull.TheVariants.{Free}
use Rattle.mig_base.specs.DeviceTables.{is_ordinary}
use Rattle.mig_base.specs.First.{made_from}
use Rattle.mig_base.specs.BoardText.{Says, names_of_nets, net_at, net_on, has_pin, pulls, pull_in, pull_on, pins_of_chip, pins_in}
use Rattle.net_text.specs.declared.lines.BoardLine.{BoardLine}
use Rattle.net_text.specs.Statements.{says_of, all_says}

-- the line of a pin, where it is on a net
abbrev pub line_of_pin : List Says → ℕ → ChipLine → ℕ → Option PinLine
line_of_pin ss j c p = option_map (λ n. record { chip = j; pin = p; net = n }) (net_at ss (names_of_nets ss) c.name p)

-- the lines of so many pins from one on
abbrev pub lines_from_pin : List Says → ℕ → ChipLine → ℕ → ℕ → List PinLine
lines_from_pin ss j c start count = filter_map (line_of_pin ss j c) (filter (is_ordinary c.kind) (made_from (λ p. p) start count))

-- what one pin adds
abbrev pub lines_at_pin : List Says → ℕ → ChipLine → ℕ → List PinLine
lines_at_pin ss j c p = cond (is_ordinary c.kind p) (cons_option (line_of_pin ss j c p) []) []

pub pin-step : (ss : List Says) (j : ℕ) (c : ChipLine) (p last : ℕ) → p < last → lines_from_pin ss j c p (last - p) ≡ lines_at_pin ss j c p ++ lines_from_pin ss j c (p + 1) (last - (p + 1))
pin-step ss j c p last lt =
    let e : last - p ≡ suc (last - (p + 1)) = omega arith in
    ap (lines_from_pin ss j c p) e ∙ at (is_ordinary c.kind p) (line_of_pin ss j c p) (made_from (λ q. q) (p + 1) (last - (p + 1)))
  where
    cons : (o : Option PinLine) (xs : List PinLine) → cons_option o xs ≡ cons_option o [] ++ xs
    cons None xs = refl
    cons (Some x) xs = refl

    at : (t : Bool) (o : Option PinLine) (ps : List ℕ) → filter_map (line_of_pin ss j c) (cond t (p ∷ filter (is_ordinary c.kind) ps) (filter (is_ordinary c.kind) ps)) ≡
        cond t (cons_option (line_of_pin ss j c p) []) [] ++ filter_map (line_of_pin ss j c) (filter (is_ordinary c.kind) ps)
    at true o ps = cons (line_of_pin ss j c p) (filter_map (line_of_pin ss j c) (filter (is_ordinary c.kind) ps))
    at false o ps = refl

-- one more pin
pub pins-more : (ss : List Says) (j : ℕ) (c : ChipLine) (p last : ℕ) (before after all : List PinLine) → p < last → after ≡ before ++ lines_at_pin ss j c p →
    before ++ lines_from_pin ss j c p (last - p) ≡ all → after ++ lines_from_pin ss j c (p + 1) (last - (p + 1)) ≡ all
pins-more ss j c p last before after all lt put h =
    ap (λ (ls : List PinLine). ls ++ lines_from_pin ss j c (p + 1) (last - (p + 1))) put ∙ append_assoc before (lines_at_pin ss j c p) (lines_from_pin ss j c (p + 1) (last - (p + 1)))
    ∙ ap (λ (ls : List PinLine). before ++ ls) (sym (pin-step ss j c p last lt)) ∙ h

pub pins-done : (ss : List Says) (j : ℕ) (c : ChipLine) (p last : ℕ) (before all : List PinLine) → last ≤ p → before ++ lines_from_pin ss j c p (last - p) ≡ all → before ≡ all
pins-done ss j c p last before all done h =
    let e : last - p ≡ 0 = omega arith in sym (append-nil before) ∙ ap (λ (k : ℕ). before ++ lines_from_pin ss j c p k) (sym e) ∙ h

pub chip-more : (ss : List Says) (cs : List ChipLine) (j : ℕ) (c : ChipLine) (before after all : List PinLine) → j < length cs → c ≡ get_or cs j c → after ≡ before ++ pins_of_chip ss j c →
    before ++ pins_in ss j (drop j cs) ≡ all → after ++ pins_in ss (j + 1) (drop (j + 1) cs) ≡ all
chip-more ss cs j c before after all lt is put h =
    ap (λ (ls : List PinLine). ls ++ pins_in ss (j + 1) (drop (j + 1) cs)) put ∙ append_assoc before (pins_of_chip ss j c) (pins_in ss (j + 1) (drop (j + 1) cs))
    ∙ ap (λ (x : ChipLine). before ++ (pins_of_chip ss j x ++ pins_in ss (j + 1) (drop (j + 1) cs))) is
    ∙ ap (λ (ds : List ChipLine). before ++ pins_in ss j ds) (sym (drop_more cs j c lt)) ∙ h

pub chips-done : (ss : List Says) (cs : List ChipLine) (j : ℕ) (before all : List PinLine) → length cs ≤ j → before ++ pins_in ss j (drop j cs) ≡ all → before ≡ all
chips-done ss cs j before all done h = sym (append-nil before) ∙ ap (λ (ds : List ChipLine). before ++ pins_in ss j ds) (sym (drop_all j cs done)) ∙ h

-- pulls

pub pull-at : (ls : List BoardLine) (i : ℕ) (l : BoardLine) (net : List ℕ) (t : Bool) → i < length ls → l ≡ get_or ls i l → pulls net (says_of l.says) ≡ t →
    pull_in (all_says (drop i ls)) net ≡ cond t (pull_on (says_of l.says)) (pull_in (all_says (drop (i + 1) ls)) net)
pull-at ls i l net t lt is h =
    ap (λ (xs : List BoardLine). pull_in (all_says xs) net) (drop_more ls i l lt)
    ∙ ap (λ (x : BoardLine). cond (pulls net (says_of x.says)) (pull_on (says_of x.says)) (pull_in (all_says (drop (i + 1) ls)) net)) (sym is)
    ∙ ap (λ (b : Bool). cond b (pull_on (says_of l.says)) (pull_in (all_says (drop (i + 1) ls)) net)) h

pub pull-past : (ls : List BoardLine) (i : ℕ) (net : List ℕ) → length ls ≤ i → pull_in (all_says (drop i ls)) net ≡ Free
pull-past ls i net h = ap (λ (xs : List BoardLine). pull_in (all_says xs) net) (drop_all i ls h)

-- the net of a pin

pub net-at : (ls : List BoardLine) (i : ℕ) (l : BoardLine) (names : List (List ℕ)) (chip : List ℕ) (pin : ℕ) (t : Bool) → i < length ls → l ≡ get_or ls i l → has_pin chip pin (says_of l.says) ≡ t →
    net_at (all_says (drop i ls)) names chip pin ≡ cond t (net_on names (says_of l.says)) (net_at (all_says (drop (i + 1) ls)) names chip pin)
net-at ls i l names chip pin t lt is h =
    ap (λ (xs : List BoardLine). net_at (all_says xs) names chip pin) (drop_more ls i l lt)
    ∙ ap (λ (x : BoardLine). cond (has_pin chip pin (says_of x.says)) (net_on names (says_of x.says)) (net_at (all_says (drop (i + 1) ls)) names chip pin)) (sym is)
    ∙ ap (λ (b : Bool). cond b (net_on names (says_of l.says)) (net_at (all_says (drop (i + 1) ls)) names chip pin)) h

pub net-past : (ls : List BoardLine) (i : ℕ) (names : List (List ℕ)) (chip : List ℕ) (pin : ℕ) → length ls ≤ i → net_at (all_says (drop i ls)) names chip pin ≡ None
net-past ls i names chip pin h = ap (λ (xs : List BoardLine). net_at (all_says xs) names chip pin) (drop_all i ls h)
