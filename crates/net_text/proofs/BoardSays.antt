-- What the lines of a written board say.
use Rattle.std.proofs.Common.{ℕ, zero, suc, ◌≡◌, ◌+◌, ◌<◌, ◌≤◌, Bool, true, false, cond, ◌&&◌, List, [], ◌∷◌, ◌++◌, map, length, refl, ap, ◌∙◌, subst, arith, Option, Some, None, get_or, append_assoc}
use Rattle.std.specs.Prelude.{nat_le, nat_lt, codes}
use Rattle.std.specs.List.{AllByRecursion, list_any, list_all, filter_map, slice_get, cons_option}
use Rattle.std.specs.Fmt.{decimal}
use Rattle.std.proofs.lemmas.Bool.{and_parts, and_from, ltb-true, leb-true, le-leb}
use Rattle.std.proofs.lemmas.List.{map-append, length_push}
use Rattle.std.proofs.lemmas.List.Folds.{list_all-append}
use Rattle.std.proofs.lemmas.Fmt.{length-decimal-le}
use Rattle.mig_base.specs.declared.kinds.Kind.{Kind}
use Rattle.mig_base.specs.declared.nets.Net.{Net}
use Rattle.mig_base.specs.declared.nets.NetLine.{NetLine}
use Rattle.mig_base.specs.declared.nets.ChipLine.{ChipLine}
use Rattle.mig_base.specs.declared.nets.PinLine.{PinLine}
use Rattle.mig_base.specs.declared.nets.Port.{Port}
use Rattle.mig_base.specs.declared.nets.Port.TheVariants as port
use Rattle.mig_base.specs.declared.nets.Pull.{Pull}
use Rattle.mig_base.specs.declared.nets.Pull.TheVariants as pull
use Rattle.mig_base.specs.DeviceTables.{kind_name, pins_of, ordinary_pins}
use Rattle.mig_base.specs.Names.{is_name, is_name_byte}
use Rattle.mig_base.specs.Lines.{number_of}
use Rattle.mig_base.specs.BoardText.{Says, Head, NetOf, ChipOf, PinOf, PullOf, End, Wrong, or_wrong, says, SaidLine, said_lines, net_names}
use Rattle.mig_base.specs.WrittenBoard.{net_line, port_words, pull_line, pull_line_at, chip_line, chip_name, net_name, pin_line, is_pulled, head_line, board_lines, written_net, Place, place_of, board_places, IsWritable}
use Rattle.mig_base.proofs.KindFacts.{member-passes, every-kind, is_proper, ordinary-proper, pins-few, kind-read}
use Rattle.text_lines.proofs.Numerals.{number-decimal, decimal-spells, IsDigit}
use Rattle.text_lines.proofs.WrittenLines.{is_plain_word, is_plain_line, numbered, lines-written}
use Rattle.text_lines.proofs.PlainWords.{name-plain, kind-plain}
use Rattle.mig_base.proofs.Distinct.{part-all, places-equal}
use Rattle.mig_base.proofs.ListLaws.{all-append, all-each}

abbrev pub net_says : NetLine → Says
net_says l = NetOf l.name l.port

abbrev pub pull_says_at : List ℕ → Pull → Option Says
pull_says_at name pull.Free = None
pull_says_at name pull.Up = Some (PullOf name pull.Up)
pull_says_at name pull.Down = Some (PullOf name pull.Down)

abbrev pub pull_says : NetLine → Option Says
pull_says l = pull_says_at l.name l.pull

abbrev pub chip_says : ChipLine → Says
chip_says c = ChipOf c.name (Some c.kind)

abbrev pub pin_says : Net → PinLine → Says
pin_says net l = PinOf (chip_name net l.chip) l.pin (net_name net l.net)

abbrev pub version_of : Net → ℕ
version_of net = cond (list_any (λ l. is_pulled l.pull) net.nets) 2 1

-- what the lines of a written board say
abbrev pub board_says : Net → List Says
board_says net =
    Head (version_of net) ∷ map net_says net.nets ++ filter_map pull_says net.nets ++ map chip_says net.chips ++ map (pin_says net) net.pins ++ End ∷ []

-- the place is that of an ordinary pin of this chip
pub record IsOf (chips : List ChipLine) (q : Place) : Type 0 where
  pub chip : ChipLine
  pub there : slice_get chips q.0 ≡ Some chip
  pub proper : is_proper chip.kind q.1 ≡ true

get-behind : (done : List ChipLine) (c : ChipLine) (cs : List ChipLine) → slice_get (done ++ c ∷ cs) (length done) ≡ Some c
get-behind [] c cs = refl
get-behind (d ∷ done) c cs = get-behind done c cs

places-of : (done cs : List ChipLine) → AllByRecursion (IsOf (done ++ cs)) (board_places (length done) cs)
places-of done [] = tt
places-of done (c ∷ cs) =
    all-append (IsOf (done ++ c ∷ cs)) (map (λ p. (length done, p)) (ordinary_pins c.kind)) (board_places (length done + 1) cs)
    (here (ordinary_pins c.kind) (ordinary-proper c.kind))
    (subst (λ (cs' : List ChipLine). AllByRecursion (IsOf cs') (board_places (length done + 1) cs)) (append_assoc done (c ∷ []) cs)
    (subst (λ (j : ℕ). AllByRecursion (IsOf ((done ++ c ∷ []) ++ cs)) (board_places j cs)) (length_push done c) (places-of (done ++ c ∷ []) cs)))
  where
    here : (ps : List ℕ) → list_all (is_proper c.kind) ps ≡ true → AllByRecursion (IsOf (done ++ c ∷ cs)) (map (λ p. (length done, p)) ps)
    here [] h = tt
    here (p ∷ ps) h =
        let parts : (is_proper c.kind p ≡ true) × (list_all (is_proper c.kind) ps ≡ true) = and_parts _ _ h in
        (record { chip = c; there = get-behind done c cs; proper = parts.0 }, here ps parts.1)

-- what a written pin keeps
pub record IsWired (net : Net) (l : PinLine) : Type 0 where
  pub place : IsOf net.chips (place_of l)
  pub on : l.net < length (net_names net.nets)

pub pins-wired : (net : Net) → IsWritable net → AllByRecursion (IsWired net) net.pins
pins-wired net w = join net.pins (from-map net.pins (part-all places-equal (IsOf net.chips) (map place_of net.pins) (board_places 0 net.chips) w.pins_in_order (places-of [] net.chips))) w.pins_on_nets
  where
    from-map : (ls : List PinLine) → AllByRecursion (IsOf net.chips) (map place_of ls) → AllByRecursion (λ l. IsOf net.chips (place_of l)) ls
    from-map [] h = tt
    from-map (l ∷ ls) h = (h.0, from-map ls h.1)

    join : (ls : List PinLine) → AllByRecursion (λ l. IsOf net.chips (place_of l)) ls → list_all (λ l. nat_lt l.net (length (net_names net.nets))) ls ≡ true → AllByRecursion (IsWired net) ls
    join [] h on = tt
    join (l ∷ ls) h on =
        let parts : (nat_lt l.net (length (net_names net.nets)) ≡ true) × (list_all (λ m. nat_lt m.net (length (net_names net.nets))) ls ≡ true) = and_parts _ _ on in
        (record { place = h.0; on = ltb-true _ _ parts.0 }, join ls h.1 parts.1)

-- the name at a number passes where all do
all-at : (p : List ℕ → Bool) (ws : List (List ℕ)) (k : ℕ) → list_all p ws ≡ true → k < length ws → p (get_or ws k []) ≡ true
all-at p [] k h lt = absurd (omega arith)
all-at p (w ∷ ws) zero h lt = (and_parts _ _ h).0
all-at p (w ∷ ws) (suc k) h lt = all-at p ws k (and_parts (p w) _ h).1 (omega arith)

map-all : {T : Type 0} (f : T → List ℕ) (ts : List T) → list_all (λ t. is_name (f t)) ts ≡ true → list_all is_name (map f ts) ≡ true
map-all f [] h = refl
map-all f (t ∷ ts) h = let parts : (is_name (f t) ≡ true) × (list_all (λ t. is_name (f t)) ts ≡ true) = and_parts _ _ h in and_from _ _ parts.0 (map-all f ts parts.1)

pub net-name-named : (net : Net) → IsWritable net → (k : ℕ) → k < length (net_names net.nets) → is_name (net_name net k) ≡ true
net-name-named net w k lt = all-at is_name (net_names net.nets) k (map-all (λ l. l.name) net.nets w.named_nets) lt

pub chip-name-is : (net : Net) (j : ℕ) (c : ChipLine) → slice_get net.chips j ≡ Some c → chip_name net j ≡ c.name
chip-name-is net j c e = named net.chips j e
  where
    named : (cs : List ChipLine) (i : ℕ) → slice_get cs i ≡ Some c → get_or (map (λ d. d.name) cs) i [] ≡ c.name
    named [] i e = cc
    named (d ∷ cs) zero e = let same : d ≡ c = cc in ap (λ (x : ChipLine). x.name) same
    named (d ∷ cs) (suc i) e = named cs i e

pub chip-name-named : (net : Net) → IsWritable net → (j : ℕ) (c : ChipLine) → slice_get net.chips j ≡ Some c → is_name (chip_name net j) ≡ true
chip-name-named net w j c e = ap is_name (chip-name-is net j c e) ∙ member-passes (λ d. is_name d.name) net.chips j c w.named_chips e

decimal-plain : (n : ℕ) → n < 1000000000 → is_plain_word (decimal n) ≡ true
decimal-plain n h = plain (decimal n) (decimal-spells n (omega arith)).digits (decimal-spells n (omega arith)).some
  where
    bytes : (ds : List ℕ) → AllByRecursion IsDigit ds → list_all (nat_le 33) ds ≡ true
    bytes [] h = refl
    bytes (d ∷ ds) h = and_from _ _ (le-leb 33 d (omega arith)) (bytes ds h.1)

    plain : (ds : List ℕ) → AllByRecursion IsDigit ds → 1 ≤ length ds → is_plain_word ds ≡ true
    plain [] h some = absurd (omega arith)
    plain (d ∷ ds) h some = bytes (d ∷ ds) h

-- a short word, as names, kinds and numbers are
abbrev pub is_short_word : List ℕ → Bool
is_short_word w = nat_le (length w) 24

abbrev pub is_short_line : List (List ℕ) → Bool
is_short_line ws = nat_le (length ws) 4 && list_all is_short_word ws

name-short : (text : List ℕ) → is_name text ≡ true → is_short_word text ≡ true
name-short text h = (and_parts (nat_le 1 (length text)) _ (and_parts _ (list_all is_name_byte text) h).0).1

decimal-short : (n : ℕ) → n < 1000000000 → is_short_word (decimal n) ≡ true
decimal-short n h = let e : length (decimal n) ≤ 9 = length-decimal-le 9 n (omega arith) (omega arith) (omega arith) in le-leb _ _ (omega arith)

kind-short : (k : Kind) → is_short_word (kind_name k) ≡ true
kind-short k = every-kind (λ j. is_short_word (kind_name j)) refl k

-- a line that is plain and short and says this
pub record IsLineOf (words : List (List ℕ)) (s : Says) : Type 0 where
  pub plain : is_plain_line words ≡ true
  pub short : is_short_line words ≡ true
  pub says : says words ≡ s

if-named : (name : List ℕ) (s : Says) → is_name name ≡ true → cond (is_name name) s Wrong ≡ s
if-named name s h = ap (λ (t : Bool). cond t s Wrong) h

net-line-of : (l : NetLine) → is_name l.name ≡ true → IsLineOf (net_line l) (net_says l)
net-line-of l h = at l.port
  where
    at : (p : Port) → IsLineOf (codes "net" ∷ l.name ∷ port_words p) (NetOf l.name p)
    at port.Inner = record { plain = and_from _ _ (name-plain l.name h) refl; short = and_from _ _ (name-short l.name h) refl; says = if-named l.name _ h }
    at port.Input = record { plain = and_from _ _ (name-plain l.name h) refl; short = and_from _ _ (name-short l.name h) refl; says = if-named l.name _ h }
    at port.Output = record { plain = and_from _ _ (name-plain l.name h) refl; short = and_from _ _ (name-short l.name h) refl; says = if-named l.name _ h }
    at port.Both = record { plain = and_from _ _ (name-plain l.name h) refl; short = and_from _ _ (name-short l.name h) refl; says = if-named l.name _ h }

chip-line-of : (c : ChipLine) → is_name c.name ≡ true → IsLineOf (chip_line c) (chip_says c)
chip-line-of c h = record {
  plain = and_from _ _ (name-plain c.name h) (and_from _ _ (kind-plain c.kind) refl);
  short = and_from _ _ (name-short c.name h) (and_from _ _ (kind-short c.kind) refl);
  says = if-named c.name _ h ∙ ap (ChipOf c.name) (kind-read c.kind);
}

pin-line-of : (net : Net) → IsWritable net → (l : PinLine) → IsWired net l → IsLineOf (pin_line net l) (pin_says net l)
pin-line-of net w l h =
    let chip : is_name (chip_name net l.chip) ≡ true = chip-name-named net w l.chip h.place.chip h.place.there in
    let on : is_name (net_name net l.net) ≡ true = net-name-named net w l.net h.on in
    let low : l.pin < 1000000000 = small in
    record {
      plain = and_from _ _ (name-plain (chip_name net l.chip) chip) (and_from _ _ (decimal-plain l.pin low) (and_from _ _ (name-plain (net_name net l.net) on) refl));
      short = and_from _ _ (name-short (chip_name net l.chip) chip) (and_from _ _ (decimal-short l.pin low) (and_from _ _ (name-short (net_name net l.net) on) refl));
      says = ap (λ (t : Bool). cond t (or_wrong (λ n. PinOf (chip_name net l.chip) n (net_name net l.net)) (number_of (decimal l.pin))) Wrong) (and_from _ _ chip on)
          ∙ ap (or_wrong (λ n. PinOf (chip_name net l.chip) n (net_name net l.net))) (number-decimal l.pin low);
    }
  where
    small : l.pin < 1000000000
    small =
        let most : pins_of h.place.chip.kind ≤ 24 = pins-few h.place.chip.kind in
        let high : l.pin ≤ pins_of h.place.chip.kind = leb-true _ _ (and_parts (nat_le 1 l.pin) _ (and_parts _ _ (and_parts _ _ h.place.proper).0).0).1 in
        omega arith

-- lines that are plain and short and say these
pub record IsTextOf (lines : List (List (List ℕ))) (said : List Says) : Type 0 where
  pub plain : list_all is_plain_line lines ≡ true
  pub short : list_all is_short_line lines ≡ true
  pub says : map says lines ≡ said

text-one : (ws : List (List ℕ)) (s : Says) → IsLineOf ws s → IsTextOf (ws ∷ []) (s ∷ [])
text-one ws s h = record { plain = and_from _ _ h.plain refl; short = and_from _ _ h.short refl; says = ap (λ (x : Says). x ∷ []) h.says }

text-append : (a b : List (List (List ℕ))) (x y : List Says) → IsTextOf a x → IsTextOf b y → IsTextOf (a ++ b) (x ++ y)
text-append a b x y h k = record {
  plain = list_all-append is_plain_line a b ∙ and_from _ _ h.plain k.plain;
  short = list_all-append is_short_line a b ∙ and_from _ _ h.short k.short;
  says = map-append says a b ∙ ap (λ (s : List Says). s ++ map says b) h.says ∙ ap (λ (s : List Says). x ++ s) k.says;
}

text-cons : (ws : List (List ℕ)) (s : Says) (b : List (List (List ℕ))) (y : List Says) → IsLineOf ws s → IsTextOf b y → IsTextOf (ws ∷ b) (s ∷ y)
text-cons ws s b y h k = text-append (ws ∷ []) b (s ∷ []) y (text-one ws s h) k

text-map : {T : Type 0} (f : T → List (List ℕ)) (g : T → Says) (ts : List T) → AllByRecursion (λ t. IsLineOf (f t) (g t)) ts → IsTextOf (map f ts) (map g ts)
text-map f g [] h = record { plain = refl; short = refl; says = refl }
text-map f g (t ∷ ts) h = text-cons (f t) (g t) (map f ts) (map g ts) h.0 (text-map f g ts h.1)

pub all-from : {T : Type 0} (p : T → Bool) (P : T → Type 0) (ts : List T) → ((t : T) → p t ≡ true → P t) → list_all p ts ≡ true → AllByRecursion P ts
all-from p P [] each h = tt
all-from p P (t ∷ ts) each h = let parts : (p t ≡ true) × (list_all p ts ≡ true) = and_parts _ _ h in (each t parts.0, all-from p P ts each parts.1)

pulls-text : (ls : List NetLine) → list_all (λ l. is_name l.name) ls ≡ true → IsTextOf (filter_map pull_line ls) (filter_map pull_says ls)
pulls-text [] h = record { plain = refl; short = refl; says = refl }
pulls-text (l ∷ ls) h =
    let parts : (is_name l.name ≡ true) × (list_all (λ m. is_name m.name) ls ≡ true) = and_parts _ _ h in
    at l.pull parts.0 (pulls-text ls parts.1)
  where
    at : (p : Pull) → is_name l.name ≡ true → IsTextOf (filter_map pull_line ls) (filter_map pull_says ls) →
        IsTextOf (cons_option (pull_line_at l.name p) (filter_map pull_line ls)) (cons_option (pull_says_at l.name p) (filter_map pull_says ls))
    at pull.Free k rest = rest
    at pull.Up k rest = text-cons _ _ _ _ (record { plain = and_from _ _ (name-plain l.name k) refl; short = and_from _ _ (name-short l.name k) refl; says = if-named l.name _ k }) rest
    at pull.Down k rest = text-cons _ _ _ _ (record { plain = and_from _ _ (name-plain l.name k) refl; short = and_from _ _ (name-short l.name k) refl; says = if-named l.name _ k }) rest

head-line-of : (net : Net) → IsLineOf (head_line net) (Head (version_of net))
head-line-of net = at (list_any (λ l. is_pulled l.pull) net.nets)
  where
    at : (t : Bool) → IsLineOf (codes "board" ∷ cond t (codes "2") (codes "1") ∷ []) (Head (cond t 2 1))
    at true = record { plain = refl; short = refl; says = refl }
    at false = record { plain = refl; short = refl; says = refl }

pub board-text : (net : Net) → IsWritable net → IsTextOf (board_lines net) (board_says net)
board-text net w =
    text-append _ _ _ _
    (text-append _ _ _ _
    (text-append _ _ _ _
    (text-append _ _ _ _
    (text-cons (head_line net) (Head (version_of net)) _ _ (head-line-of net)
    (text-map net_line net_says net.nets (all-from (λ l. is_name l.name) _ net.nets net-line-of w.named_nets)))
    (pulls-text net.nets w.named_nets))
    (text-map chip_line chip_says net.chips (all-from (λ c. is_name c.name) _ net.chips chip-line-of w.named_chips)))
    (text-map (pin_line net) (pin_says net) net.pins (all-each (IsWired net) _ net.pins (pin-line-of net w) (pins-wired net w))))
    (text-one (codes "end" ∷ []) End (record { plain = refl; short = refl; says = refl }))

-- these, numbered from n on
abbrev pub said_from : ℕ → List Says → List SaidLine
said_from n [] = []
said_from n (s ∷ ss) = record { n = n; said = s } ∷ said_from (n + 1) ss

-- what a written text says
pub said-written : (net : Net) → IsWritable net → said_lines (written_net net) ≡ said_from 1 (board_says net)
said-written net w =
    let t : IsTextOf (board_lines net) (board_says net) = board-text net w in
    ap (map (λ l. let s : SaidLine = record { n = l.n; said = says l.words } in s)) (lines-written (board_lines net) t.plain) ∙ count 1 (board_lines net) ∙ ap (said_from 1) t.says
  where
    count : (n : ℕ) (wss : List (List (List ℕ))) → map (λ l. let s : SaidLine = record { n = l.n; said = says l.words } in s) (numbered n wss) ≡ said_from n (map says wss)
    count n [] = refl
    count n (ws ∷ wss) = ap (λ (ls : List SaidLine). record { n = n; said = says ws } ∷ ls) (count (n + 1) wss)
