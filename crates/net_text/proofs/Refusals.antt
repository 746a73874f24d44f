-- What is refused, by the tests that a line fails.
use Rattle.std.proofs.Common.{ℕ, suc, ◌≡◌, Bool, true, false, ◌&&◌, ◌||◌, eqb, List, [], ◌∷◌, map, length, Option, Some, refl, sym, ap, ◌∙◌, arith}
use Rattle.std.specs.Prelude.{is_none, not, nat_le, ◌==◌}
use Rattle.std.specs.List.{list_any}
use Rattle.std.specs.Str.{bytes_eq}
use Rattle.std.proofs.lemmas.Bool.{ne_eqb}
use Rattle.mig_base.specs.declared.nets.NetLine.{NetLine}
use Rattle.mig_base.specs.declared.nets.ChipLine.{ChipLine}
use Rattle.mig_base.specs.declared.nets.NetError.{NetError}
use Rattle.mig_base.specs.declared.nets.NetError.TheVariants.{Line as BadLine, NetsOver, NameTwice, NetUnknown, PinUnknown, PinTwice, PowerPin, PullTwice, PullNet}
use Rattle.mig_base.specs.DeviceTables.{pins_of, ground_of}
use Rattle.mig_base.specs.First.{or_else}
use Rattle.mig_base.specs.BoardText.{Says, all_said, is_first, is_head, ends, refuse, said_refusal, line_refusal, net_names, place_named, has_pin, pulls, is_version, cant_pull, net_refusal, pull_refusal, pin_refusal_at}
use Rattle.net_text.specs.declared.lines.BoardLine.{BoardLine}
use Rattle.net_text.specs.Statements.{says_of, all_says, line_of}
use Rattle.net_text.proofs.Lookups.{any-said}

pub net-refused : (n : ℕ) (nets : List NetLine) (name : List ℕ) (over twice : Bool) → nat_le 1024 (length nets) ≡ over → list_any (bytes_eq name) (net_names nets) ≡ twice →
    net_refusal n nets name ≡ or_else (refuse over (NetsOver n)) (refuse twice (NameTwice n))
net-refused n nets name over twice a b =
    ap (λ (t : Bool). or_else (refuse t (NetsOver n)) (refuse (list_any (bytes_eq name) (net_names nets)) (NameTwice n))) a ∙ ap (λ (t : Bool). or_else (refuse over (NetsOver n)) (refuse t (NameTwice n))) b

abbrev pub pull_tests : ℕ → Bool → Bool → Bool → Bool → Option NetError
pull_tests n old unknown twice other = or_else (refuse old (BadLine n)) (or_else (refuse unknown (NetUnknown n)) (or_else (refuse twice (PullTwice n)) (refuse other (PullNet n))))

pub pull-refused : (n : ℕ) (before : List BoardLine) (nets : List NetLine) (net : List ℕ) (old unknown twice other : Bool) →
    list_any (λ l. is_version 1 (says_of l.says)) before ≡ old → is_none (place_named net (net_names nets)) ≡ unknown → list_any (λ l. pulls net (says_of l.says)) before ≡ twice → cant_pull nets net ≡ other →
    pull_refusal n (all_says before) nets net ≡ pull_tests n old unknown twice other
pull-refused n before nets net old unknown twice other a b c d =
    ap (λ (t : Bool). pull_tests n t (is_none (place_named net (net_names nets))) (list_any (pulls net) (all_says before)) (cant_pull nets net)) (any-said (is_version 1) before ∙ a)
    ∙ ap (λ (t : Bool). pull_tests n old t (list_any (pulls net) (all_says before)) (cant_pull nets net)) b
    ∙ ap (λ (t : Bool). pull_tests n old unknown t (cant_pull nets net)) (any-said (pulls net) before ∙ c) ∙ ap (λ (t : Bool). pull_tests n old unknown twice t) d

abbrev pub pin_tests : ℕ → Bool → Bool → Bool → Option NetError
pin_tests n there twice power = or_else (refuse (not there) (PinUnknown n)) (or_else (refuse twice (PinTwice n)) (refuse power (PowerPin n)))

pub pin-refused : (n : ℕ) (before : List BoardLine) (chip : List ℕ) (pin : ℕ) (line : Option ChipLine) (net : Option ℕ) (c : ChipLine) (k : ℕ) (there twice power : Bool) → line ≡ Some c → net ≡ Some k →
    (nat_le 1 pin && nat_le pin (pins_of c.kind)) ≡ there → list_any (λ l. has_pin chip pin (says_of l.says)) before ≡ twice →
    (((pin == ground_of c.kind) && not (k == 0)) || ((pin == pins_of c.kind) && not (k == 1))) ≡ power →
    pin_refusal_at n (all_says before) chip pin line net ≡ pin_tests n there twice power
pin-refused n before chip pin line net c k there twice power e f a b d =
    ap (λ (o : Option ChipLine). pin_refusal_at n (all_says before) chip pin o net) e ∙ ap (pin_refusal_at n (all_says before) chip pin (Some c)) f
    ∙ ap (λ (t : Bool). pin_tests n t (list_any (has_pin chip pin) (all_says before)) (((pin == ground_of c.kind) && not (k == 0)) || ((pin == pins_of c.kind) && not (k == 1)))) a
    ∙ ap (λ (t : Bool). pin_tests n there t (((pin == ground_of c.kind) && not (k == 0)) || ((pin == pins_of c.kind) && not (k == 1)))) (any-said (has_pin chip pin) before ∙ b)
    ∙ ap (λ (t : Bool). pin_tests n there twice t) d

none-first : (before : List BoardLine) → is_first (map line_of before) ≡ eqb (length before) 0
none-first [] = refl
none-first (l ∷ before) = sym (ne_eqb (suc (length before)) 0 (λ e. absurd (omega arith)))

pub said-of : (before : List BoardLine) → all_said (map line_of before) ≡ all_says before
said-of [] = refl
said-of (l ∷ before) = ap (λ (ss : List Says). says_of l.says ∷ ss) (said-of before)

pub ends-of : (before : List BoardLine) → list_any (λ b. ends b.said) (map line_of before) ≡ list_any (λ l. ends (says_of l.says)) before
ends-of [] = refl
ends-of (l ∷ before) = ap (λ (t : Bool). ends (says_of l.says) || t) (ends-of before)

two-tests : (n : ℕ) (a b : Bool) (o : Option NetError) → or_else (refuse a (BadLine n)) (or_else (refuse b (BadLine n)) o) ≡ or_else (refuse (a || b) (BadLine n)) o
two-tests n true b o = refl
two-tests n false b o = refl

pub line-refused : (before : List BoardLine) (line : BoardLine) (out : Bool) → (((length before == 0) && not (is_head (says_of line.says))) || list_any (λ l. ends (says_of l.says)) before) ≡ out →
    line_refusal (map line_of before) (line_of line) ≡ or_else (refuse out (BadLine line.n)) (said_refusal line.n (all_says before) (says_of line.says))
line-refused before line out h =
    let n = line.n in
    let s = says_of line.says in
    ap (λ (t : Bool). or_else (refuse (t && not (is_head s)) (BadLine n)) (or_else (refuse (list_any (λ b. ends b.said) (map line_of before)) (BadLine n)) (said_refusal n (all_said (map line_of before)) s))) (none-first before)
    ∙ ap (λ (t : Bool). or_else (refuse (eqb (length before) 0 && not (is_head s)) (BadLine n)) (or_else (refuse t (BadLine n)) (said_refusal n (all_said (map line_of before)) s))) (ends-of before)
    ∙ ap (λ (ss : List Says). or_else (refuse (eqb (length before) 0 && not (is_head s)) (BadLine n)) (or_else (refuse (list_any (λ l. ends (says_of l.says)) before) (BadLine n)) (said_refusal n ss s))) (said-of before)
    ∙ two-tests n (eqb (length before) 0 && not (is_head s)) (list_any (λ l. ends (says_of l.says)) before) (said_refusal n (all_says before) s)
    ∙ ap (λ (t : Bool). or_else (refuse t (BadLine n)) (said_refusal n (all_says before) s)) h
