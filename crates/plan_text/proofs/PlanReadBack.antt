-- A written plan is read back.
use Rattle.std.proofs.Common.{ℕ, ◌≡◌, ◌+◌, ◌<◌, ◌≤◌, Bool, true, false, not, ◌&&◌, ◌||◌, List, [], ◌∷◌, ◌++◌, map, length, refl, ap, ◌∙◌, arith, Option, Some, None, Result, Ok, length-append, append_assoc}
use Rattle.std.specs.Prelude.{codes, ◌==◌, nat_le}
use Rattle.std.specs.List.{list_all, list_any, filter_map, cons_option}
use Rattle.std.proofs.lemmas.Bool.{and_parts, and_from, ne_eqb, lt-leb}
use Rattle.std.proofs.lemmas.List.{map-append, append-nil}
use Rattle.std.proofs.lemmas.List.Folds.{list_all-append, list_any-append}
use Rattle.std.proofs.lemmas.List.Elements.{filter_map-append}
use Rattle.mig_base.specs.declared.plans.Plan.{Plan}
use Rattle.mig_base.specs.declared.plans.PlanChip.{PlanChip}
use Rattle.mig_base.specs.declared.plans.PlanLine.{PlanLine}
use Rattle.mig_base.specs.declared.plans.PlanLine.TheVariants as line
use Rattle.mig_base.specs.declared.plans.PlanError.{PlanError}
use Rattle.mig_base.specs.declared.plans.PlanError.TheVariants.{Line as BadLine, ChipsOver, LinesOver, NoEnd}
use Rattle.mig_base.specs.First.{or_else, first_refusal, unless}
use Rattle.mig_base.specs.WrittenPlan.{plan_chip_line, plan_line, plan_lines, written_plan}
use Rattle.text_lines.proofs.WrittenLines.{is_plain_line, numbered, lines-written}
use Rattle.plan_text.specs.declared.says.Said.{Said}
use Rattle.plan_text.specs.declared.says.Said.TheVariants.{Head, Chip, End}
use Rattle.plan_text.specs.declared.lines.SaidLine.{SaidLine}
use Rattle.plan_text.specs.PlanText.{says, said_line, said_lines, chip_said, chips_in, unit_said, units_in, ends, any_ends, is_open, refuse, line_refusal, text_refusal, plan_in, plan_of_text, is_plan_chip, is_plan_line, IsPlan}
use Rattle.plan_text.proofs.WrittenWords.{unit_says, IsLineOf, chip-line-of, unit-line-of}

-- what the lines of a written plan say, from the chips on and from the units on
abbrev units_behind : List PlanLine → List Said
units_behind ls = map unit_says ls ++ End ∷ []

abbrev chips_behind : List PlanChip → List PlanLine → List Said
chips_behind cs ls = map (λ c. Chip c) cs ++ units_behind ls

abbrev plan_says : Plan → List Said
plan_says p = Head ∷ chips_behind p.chips p.lines

-- these, numbered from n on
abbrev said_from : ℕ → List Said → List SaidLine
said_from n [] = []
said_from n (s ∷ ss) = record { n = n; says = s } ∷ said_from (n + 1) ss

-- lines that are plain and say these
record IsTextOf (lines : List (List (List ℕ))) (said : List Said) : Type 0 where
  plain : list_all is_plain_line lines ≡ true
  says : map says lines ≡ said

text-one : (ws : List (List ℕ)) (s : Said) → IsLineOf ws s → IsTextOf (ws ∷ []) (s ∷ [])
text-one ws s h = record { plain = and_from _ _ h.plain refl; says = ap (λ (x : Said). x ∷ []) h.says }

text-append : (a b : List (List (List ℕ))) (x y : List Said) → IsTextOf a x → IsTextOf b y → IsTextOf (a ++ b) (x ++ y)
text-append a b x y h k = record {
  plain = list_all-append is_plain_line a b ∙ and_from _ _ h.plain k.plain;
  says = map-append says a b ∙ ap (λ (s : List Said). s ++ map says b) h.says ∙ ap (λ (s : List Said). x ++ s) k.says;
}

text-map : {T : Type 0} (f : T → List (List ℕ)) (g : T → Said) (p : T → Bool) → ((t : T) → p t ≡ true → IsLineOf (f t) (g t)) → (ts : List T) → list_all p ts ≡ true → IsTextOf (map f ts) (map g ts)
text-map f g p each [] h = record { plain = refl; says = refl }
text-map f g p each (t ∷ ts) h =
    let parts : (p t ≡ true) × (list_all p ts ≡ true) = and_parts _ _ h in
    text-append (f t ∷ []) (map f ts) (g t ∷ []) (map g ts) (text-one (f t) (g t) (each t parts.0)) (text-map f g p each ts parts.1)

plan-text : (p : Plan) → IsPlan p → IsTextOf (plan_lines p) (Head ∷ (map (λ c. Chip c) p.chips ++ map unit_says p.lines) ++ End ∷ [])
plan-text p h =
    text-append _ _ _ _
    (text-append ((codes "plan" ∷ codes "1" ∷ []) ∷ []) _ (Head ∷ []) _ (text-one _ Head (record { plain = refl; says = refl }))
    (text-append _ _ _ _ (text-map plan_chip_line (λ c. Chip c) is_plan_chip chip-line-of p.chips h.named_chips) (text-map plan_line unit_says is_plan_line unit-line-of p.lines h.named_lines)))
    (text-one (codes "end" ∷ []) End (record { plain = refl; says = refl }))

-- what a written text says
said-written : (p : Plan) → IsPlan p → said_lines (written_plan p) ≡ said_from 1 (plan_says p)
said-written p h =
    let t = plan-text p h in
    ap (map said_line) (lines-written (plan_lines p) t.plain) ∙ count 1 (plan_lines p) ∙ ap (said_from 1) t.says
    ∙ ap (λ (ss : List Said). said_from 1 (Head ∷ ss)) (append_assoc (map (λ c. Chip c) p.chips) (map unit_says p.lines) (End ∷ []))
  where
    count : (n : ℕ) (wss : List (List (List ℕ))) → map said_line (numbered n wss) ≡ said_from n (map says wss)
    count n [] = refl
    count n (ws ∷ wss) = ap (λ (ls : List SaidLine). record { n = n; says = says ws } ∷ ls) (count (n + 1) wss)

-- lines of an open text with so many chips and units
record Has (lines : List SaidLine) (c u : ℕ) : Type 0 where
  some : not (length lines == 0) ≡ true
  going : not (any_ends lines) ≡ true
  chips : length (chips_in lines) ≡ c
  units : length (units_in lines) ≡ u

still-some : (b : List SaidLine) (l : SaidLine) → not (length (b ++ l ∷ []) == 0) ≡ true
still-some b l =
    let more : length (b ++ l ∷ []) ≡ length b + 1 = length-append b (l ∷ []) in
    ap not (ne_eqb (length (b ++ l ∷ [])) 0 (λ e. absurd (omega arith)))

still-going : (b : List SaidLine) (l : SaidLine) → not (any_ends b) ≡ true → ends l.says ≡ false → not (any_ends (b ++ l ∷ [])) ≡ true
still-going b l h e = ap not (list_any-append (λ k. ends k.says) b (l ∷ []) ∙ ap (λ (t : Bool). any_ends b || (t || false)) e) ∙ at (any_ends b) h
  where
    at : (t : Bool) → not t ≡ true → not (t || (false || false)) ≡ true
    at true k = k
    at false k = refl

one-more : {T : Type 0} (f : SaidLine → Option T) (b : List SaidLine) (l : SaidLine) (x : T) (k : ℕ) → f l ≡ Some x → length (filter_map f b) ≡ k → length (filter_map f (b ++ l ∷ [])) ≡ k + 1
one-more {T} f b l x k e h =
    ap length (filter_map-append f b (l ∷ []) ∙ ap (λ (o : Option T). filter_map f b ++ cons_option o []) e) ∙ length-append (filter_map f b) (x ∷ []) ∙ ap (λ (m : ℕ). m + 1) h

no-more : {T : Type 0} (f : SaidLine → Option T) (b : List SaidLine) (l : SaidLine) (k : ℕ) → f l ≡ None → length (filter_map f b) ≡ k → length (filter_map f (b ++ l ∷ [])) ≡ k
no-more {T} f b l k e h = ap length (filter_map-append f b (l ∷ []) ∙ ap (λ (o : Option T). filter_map f b ++ cons_option o []) e ∙ append-nil (filter_map f b)) ∙ h

has-chip : (b : List SaidLine) (n : ℕ) (x : PlanChip) (c : ℕ) → Has b c 0 → Has (b ++ record { n = n; says = Chip x } ∷ []) (c + 1) 0
has-chip b n x c h = record {
  some = still-some b _;
  going = still-going b _ h.going refl;
  chips = one-more (λ l. chip_said l.says) b _ x c refl h.chips;
  units = no-more (λ l. unit_said l.says) b _ 0 refl h.units;
}

has-unit : (b : List SaidLine) (n : ℕ) (l : PlanLine) (c u : ℕ) → Has b c u → Has (b ++ record { n = n; says = unit_says l } ∷ []) c (u + 1)
has-unit b n (line.Place unit chip pin) c u h = record {
  some = still-some b _;
  going = still-going b _ h.going refl;
  chips = no-more (λ l. chip_said l.says) b _ c refl h.chips;
  units = one-more (λ l. unit_said l.says) b _ _ u refl h.units;
}
has-unit b n (line.Absorb unit) c u h = record {
  some = still-some b _;
  going = still-going b _ h.going refl;
  chips = no-more (λ l. chip_said l.says) b _ c refl h.chips;
  units = one-more (λ l. unit_said l.says) b _ _ u refl h.units;
}

open-yet : (b : List SaidLine) (c u : ℕ) → Has b c u → is_open b ≡ true
open-yet b c u h = and_from _ _ h.some h.going

not-over : (xs : ℕ) (k most : ℕ) (e : PlanError) → xs ≡ k → k < most → refuse (nat_le most xs) e ≡ None
not-over xs k most e h lt = ap (λ (t : Bool). refuse t e) (lt-leb most xs (omega arith))

passes : (may : Bool) (n : ℕ) (o : Option PlanError) → may ≡ true → o ≡ None → or_else (refuse (not may) (BadLine n)) o ≡ None
passes may n o h k = ap (λ (t : Bool). or_else (refuse (not t) (BadLine n)) o) h ∙ k

chip-passes : (b : List SaidLine) (n : ℕ) (x : PlanChip) (c : ℕ) → Has b c 0 → c < 64 → line_refusal b (record { n = n; says = Chip x }) ≡ None
chip-passes b n x c h lt = passes (is_open b && (length (units_in b) == 0)) n _ (and_from _ _ (open-yet b c 0 h) (ap (λ (k : ℕ). k == 0) h.units)) (not-over _ c 64 (ChipsOver n) h.chips lt)

unit-passes : (b : List SaidLine) (n : ℕ) (l : PlanLine) (c u : ℕ) → Has b c u → u < 1024 → line_refusal b (record { n = n; says = unit_says l }) ≡ None
unit-passes b n (line.Place unit chip pin) c u h lt = passes (is_open b) n _ (open-yet b c u h) (not-over _ u 1024 (LinesOver n) h.units lt)
unit-passes b n (line.Absorb unit) c u h lt = passes (is_open b) n _ (open-yet b c u h) (not-over _ u 1024 (LinesOver n) h.units lt)

units-pass : (b : List SaidLine) (n : ℕ) (ls : List PlanLine) (c u : ℕ) → Has b c u → u + length ls ≤ 1024 → first_refusal line_refusal b (said_from n (units_behind ls)) ≡ None
units-pass b n [] c u h few = ap (λ (o : Option PlanError). or_else o None) (passes (is_open b) n None (open-yet b c u h) refl)
units-pass b n (l ∷ ls) c u h few =
    ap (λ (o : Option PlanError). or_else o (first_refusal line_refusal (b ++ record { n = n; says = unit_says l } ∷ []) (said_from (n + 1) (units_behind ls)))) (unit-passes b n l c u h (omega arith))
    ∙ units-pass (b ++ record { n = n; says = unit_says l } ∷ []) (n + 1) ls c (u + 1) (has-unit b n l c u h) (omega arith)

chips-pass : (b : List SaidLine) (n : ℕ) (cs : List PlanChip) (ls : List PlanLine) (c : ℕ) → Has b c 0 → c + length cs ≤ 64 → length ls ≤ 1024 → first_refusal line_refusal b (said_from n (chips_behind cs ls)) ≡ None
chips-pass b n [] ls c h few few_units = units-pass b n ls c 0 h (omega arith)
chips-pass b n (x ∷ cs) ls c h few few_units =
    ap (λ (o : Option PlanError). or_else o (first_refusal line_refusal (b ++ record { n = n; says = Chip x } ∷ []) (said_from (n + 1) (chips_behind cs ls)))) (chip-passes b n x c h (omega arith))
    ∙ chips-pass (b ++ record { n = n; says = Chip x } ∷ []) (n + 1) cs ls (c + 1) (has-chip b n x c h) (omega arith) few_units

lines-pass : (p : Plan) → IsPlan p → first_refusal line_refusal [] (said_from 1 (plan_says p)) ≡ None
lines-pass p h =
    chips-pass (record { n = 1; says = Head } ∷ []) 2 p.chips p.lines 0 (record { some = refl; going = refl; chips = refl; units = refl })
    (let few : length p.chips ≤ 64 = h.few_chips in omega arith) h.few_lines

-- the chips, the units and the end of numbered lines
kept-from : {T : Type 0} (f : Said → Option T) (n : ℕ) (ss : List Said) → filter_map (λ l. f l.says) (said_from n ss) ≡ filter_map f ss
kept-from f n [] = refl
kept-from {T} f n (s ∷ ss) = ap (cons_option (f s)) (kept-from f (n + 1) ss)

ends-from : (n : ℕ) (ss : List Said) → any_ends (said_from n ss) ≡ list_any ends ss
ends-from n [] = refl
ends-from n (s ∷ ss) = ap (λ (t : Bool). ends s || t) (ends-from (n + 1) ss)

chips-back : (cs : List PlanChip) (ls : List PlanLine) → filter_map chip_said (chips_behind cs ls) ≡ cs
chips-back [] [] = refl
chips-back [] (line.Place unit chip pin ∷ ls) = chips-back [] ls
chips-back [] (line.Absorb unit ∷ ls) = chips-back [] ls
chips-back (c ∷ cs) ls = ap (λ (ds : List PlanChip). c ∷ ds) (chips-back cs ls)

units-back : (cs : List PlanChip) (ls : List PlanLine) → filter_map unit_said (chips_behind cs ls) ≡ ls
units-back [] [] = refl
units-back [] (line.Place unit chip pin ∷ ls) = ap (λ (ms : List PlanLine). line.Place unit chip pin ∷ ms) (units-back [] ls)
units-back [] (line.Absorb unit ∷ ls) = ap (λ (ms : List PlanLine). line.Absorb unit ∷ ms) (units-back [] ls)
units-back (c ∷ cs) ls = units-back cs ls

plan-ends : (cs : List PlanChip) (ls : List PlanLine) → list_any ends (chips_behind cs ls) ≡ true
plan-ends [] [] = refl
plan-ends [] (line.Place unit chip pin ∷ ls) = plan-ends [] ls
plan-ends [] (line.Absorb unit ∷ ls) = plan-ends [] ls
plan-ends (c ∷ cs) ls = plan-ends cs ls

plan-back : (p : Plan) → plan_in (said_from 1 (plan_says p)) ≡ p
plan-back p =
    ap (λ (cs : List PlanChip). let q : Plan = record { chips = cs; lines = units_in (said_from 1 (plan_says p)) } in q) (kept-from chip_said 1 (plan_says p) ∙ chips-back p.chips p.lines)
    ∙ ap (λ (ls : List PlanLine). let q : Plan = record { chips = p.chips; lines = ls } in q) (kept-from unit_said 1 (plan_says p) ∙ units-back p.chips p.lines)

-- what is written is read back
pub plan-read : (p : Plan) → IsPlan p → plan_of_text (written_plan p) ≡ Ok p
plan-read p h =
    ap (λ (ls : List SaidLine). let r : Result Plan PlanError = unless (text_refusal ls) (Ok (plan_in ls)) in r) (said-written p h)
    ∙ ap (λ (o : Option PlanError). let r : Result Plan PlanError = unless (or_else o (refuse (not (any_ends (said_from 1 (plan_says p)))) NoEnd)) (Ok (plan_in (said_from 1 (plan_says p)))) in r) (lines-pass p h)
    ∙ ap (λ (t : Bool). let r : Result Plan PlanError = unless (refuse (not t) NoEnd) (Ok (plan_in (said_from 1 (plan_says p)))) in r) (ends-from 1 (plan_says p) ∙ plan-ends p.chips p.lines)
    ∙ ap (λ (q : Plan). let r : Result Plan PlanError = Ok q in r) (plan-back p)
