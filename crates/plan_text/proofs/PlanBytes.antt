-- The text of a short plan fits a file.
use Rattle.std.proofs.Common.{ℕ, ◌≡◌, ◌+◌, ◌*◌, ◌<◌, ◌≤◌, List, [], ◌∷◌, ◌++◌, length, map, refl, arith, lit≤, length-append}
use Rattle.std.specs.Prelude.{codes}
use Rattle.std.specs.List.{AllByRecursion, flat_map, join_with_byte}
use Rattle.std.specs.Fmt.{decimal}
use Rattle.std.proofs.lemmas.Fmt.{length-decimal-le}
use Rattle.std.proofs.lemmas.List.{length-map}
use Rattle.mig_base.specs.declared.kinds.Mode.{Mode}
use Rattle.mig_base.specs.declared.kinds.Mode.TheVariants.{Fixed, Simple, Complex, Registered}
use Rattle.mig_base.specs.declared.nets.PinName.{PinName}
use Rattle.mig_base.specs.declared.plans.Plan.{Plan}
use Rattle.mig_base.specs.declared.plans.PlanChip.{PlanChip}
use Rattle.mig_base.specs.declared.plans.PlanLine.{PlanLine}
use Rattle.mig_base.specs.declared.plans.PlanLine.TheVariants.{Place, Absorb}
use Rattle.mig_base.specs.Limits.{most_file_bytes}
use Rattle.mig_base.specs.WrittenBoard.{written_line}
use Rattle.mig_base.specs.WrittenPlan.{mode_words, pin_word, plan_chip_line, plan_line, plan_lines, written_plan}
use Rattle.mig_base.proofs.ListLaws.{all-append}
use Rattle.mig_base.proofs.KindFacts.{kind-name-length}
use Rattle.plan_text.specs.PlanSize.{IsShortPin, IsShortLine, IsShort}

-- the bytes of words, and one behind each
abbrev words_size : List (List ℕ) → ℕ
words_size [] = 0
words_size (w ∷ ws) = length w + 1 + words_size ws

join-size : (ws : List (List ℕ)) → length (join_with_byte 32 ws) ≤ words_size ws
join-size [] = lit≤ tt
join-size (w ∷ []) = omega arith
join-size (w ∷ v ∷ ws) =
    let rest = join-size (v ∷ ws) in
    let whole : length (w ++ 32 ∷ join_with_byte 32 (v ∷ ws)) ≡ length w + length (32 ∷ join_with_byte 32 (v ∷ ws)) = length-append w (32 ∷ join_with_byte 32 (v ∷ ws)) in
    omega arith

line-size : (ws : List (List ℕ)) → length (written_line ws) ≤ words_size ws + 1
line-size ws =
    let joined = join-size ws in
    let whole : length (written_line ws) ≡ length (join_with_byte 32 ws) + 1 = length-append (join_with_byte 32 ws) (10 ∷ []) in
    omega arith

abbrev IsShortWords : List (List ℕ) → Type 0
IsShortWords ws = words_size ws ≤ 64

text-size : (ls : List (List (List ℕ))) → AllByRecursion IsShortWords ls → length (flat_map written_line ls) ≤ 65 * length ls
text-size [] h = lit≤ tt
text-size (ws ∷ ls) h =
    let here = line-size ws in
    let short : words_size ws ≤ 64 = h.0 in
    let later = text-size ls h.1 in
    let whole : length (written_line ws ++ flat_map written_line ls) ≡ length (written_line ws) + length (flat_map written_line ls) = length-append (written_line ws) (flat_map written_line ls) in
    omega arith

mode-size : (m : Mode) → words_size (mode_words m) ≤ 11
mode-size Fixed = lit≤ tt
mode-size Simple = lit≤ tt
mode-size Complex = lit≤ tt
mode-size Registered = lit≤ tt

chip-short : (c : PlanChip) → length c.name ≤ 24 → IsShortWords (plan_chip_line c)
chip-short c small = let k = kind-name-length c.kind in let m = mode-size c.mode in let w : length (codes "chip") ≡ 4 = refl in omega arith

pin-size : (u : PinName) → IsShortPin u → length (pin_word u) ≤ 28
pin-size u h =
    let name : length u.chip ≤ 24 = h.0 in
    let small : u.pin < 256 = h.1 in
    let digits = length-decimal-le 3 u.pin (omega arith) (omega arith) (omega arith) in
    let whole : length (pin_word u) ≡ length u.chip + length (46 ∷ decimal u.pin) = length-append u.chip (46 ∷ decimal u.pin) in
    omega arith

line-short : (l : PlanLine) → IsShortLine l → IsShortWords (plan_line l)
line-short (Place unit chip pin) h =
    let old = pin-size unit h.0 in
    let new = pin-size (record { chip = chip; pin = pin }) h.1 in
    let w : length (codes "place") ≡ 5 = refl in
    omega arith
line-short (Absorb unit) h = let old = pin-size unit h in let w : length (codes "absorb") ≡ 6 = refl in omega arith

all-map : {S T : Type 0} (P : S → Type 0) (Q : T → Type 0) (f : S → T) (xs : List S) → ((x : S) → P x → Q (f x)) → AllByRecursion P xs → AllByRecursion Q (map f xs)
all-map P Q f [] g h = tt
all-map P Q f (x ∷ xs) g h = (g x h.0, all-map P Q f xs g h.1)

-- a short plan has few bytes
pub plan-bytes : (p : Plan) → IsShort p → length (written_plan p) ≤ most_file_bytes
plan-bytes p short =
    let chips = map plan_chip_line p.chips in
    let lines = map plan_line p.lines in
    let last : List (List (List ℕ)) = (codes "end" ∷ []) ∷ [] in
    let few : AllByRecursion IsShortWords (plan_lines p) = (
      lit≤ tt,
      all-append IsShortWords (chips ++ lines) last (all-append IsShortWords chips lines (all-map _ IsShortWords plan_chip_line p.chips chip-short short.chips)
          (all-map IsShortLine IsShortWords plan_line p.lines line-short short.lines)) (lit≤ tt, tt),
    ) in
    let size = text-size (plan_lines p) few in
    let a : length ((chips ++ lines) ++ last) ≡ length (chips ++ lines) + 1 = length-append (chips ++ lines) last in
    let b : length (chips ++ lines) ≡ length chips + length lines = length-append chips lines in
    let c : length chips ≡ length p.chips = length-map p.chips plan_chip_line in
    let d : length lines ≡ length p.lines = length-map p.lines plan_line in
    let e = short.few_chips in
    let f = short.few_lines in
    omega arith
