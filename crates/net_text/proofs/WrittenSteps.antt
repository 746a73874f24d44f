-- One more line of a text.
use Rattle.std.proofs.Common.{ℕ, zero, suc, ◌≡◌, ◌+◌, ◌<◌, ◌≤◌, List, [], ◌∷◌, ◌++◌, map, length, take, get_or, refl, sym, ap, ◌∙◌, arith, append_assoc, ◌-◌}
use Rattle.std.specs.Prelude.{codes}
use Rattle.std.specs.Fmt.{decimal}
use Rattle.std.proofs.lemmas.List.{length-map, get_or-map}
use Rattle.std.proofs.lemmas.Option.{slice_get_within, get_or_from_slice_get}
use Rattle.mig_base.specs.declared.nets.ChipLine.{ChipLine}
use Rattle.mig_base.specs.BoardText.{net_names}
use Rattle.std.specs.List.{flat_map, filter_map, cons_option, AllByRecursion}
use Rattle.std.proofs.lemmas.List.{take_more, append-nil, map_more}
use Rattle.std.proofs.lemmas.List.Elements.{filter_map-append}
use Rattle.std.proofs.lemmas.List.Concat.{flat_map-append}
use Rattle.mig_base.specs.declared.nets.Net.{Net}
use Rattle.mig_base.specs.declared.nets.NetLine.{NetLine}
use Rattle.mig_base.specs.declared.nets.PinLine.{PinLine}
use Rattle.mig_base.specs.declared.nets.Pull.{Pull}
use Rattle.mig_base.specs.declared.nets.Pull.TheVariants.{Free, Up, Down}
use Rattle.mig_base.specs.WrittenBoard.{written_line, pull_line, pull_line_at, pin_line, chip_name, net_name, IsWritable}
use Rattle.net_text.proofs.BoardSays.{IsWired, pins-wired, chip-name-is}

-- one more pulled net, or one that isn't
pub pulls-more : (lines : List NetLine) (i : ℕ) (d : NetLine) → i < length lines →
    flat_map written_line (filter_map pull_line (take (i + 1) lines)) ≡ flat_map written_line (filter_map pull_line (take i lines)) ++ flat_map written_line (cons_option (pull_line (get_or lines i d)) [])
pulls-more lines i d lt =
    ap (λ (ls : List NetLine). flat_map written_line (filter_map pull_line ls)) (take_more lines i d lt)
    ∙ ap (flat_map written_line) (filter_map-append pull_line (take i lines) (get_or lines i d ∷ []))
    ∙ flat_map-append written_line (filter_map pull_line (take i lines)) (cons_option (pull_line (get_or lines i d)) [])

-- what the pin at an index keeps
pub wired-at : (net : Net) → IsWritable net → (i : ℕ) (d : PinLine) → i < length net.pins → IsWired net (get_or net.pins i d)
wired-at net w i d lt = at net.pins i (pins-wired net w) lt
  where
    at : (ls : List PinLine) (k : ℕ) → AllByRecursion (IsWired net) ls → k < length ls → IsWired net (get_or ls k d)
    at [] k h lt = absurd (omega arith)
    at (l ∷ ls) zero h lt = h.0
    at (l ∷ ls) (suc k) h lt = at ls k h.1 (omega arith)

-- the text of a net's pull
abbrev pub pulled_text : List ℕ → Pull → List ℕ
pulled_text name Free = []
pulled_text name Up = written_line (codes "pull" ∷ name ∷ codes "up" ∷ [])
pulled_text name Down = written_line (codes "pull" ∷ name ∷ codes "down" ∷ [])

pub pull-step : (lines : List NetLine) (i : ℕ) (l : NetLine) (name : List ℕ) (p : Pull) (start before after : List ℕ) → i < length lines → l ≡ get_or lines i l →
    name ≡ l.name → l.pull ≡ p → before ≡ start ++ flat_map written_line (filter_map pull_line (take i lines)) → after ≡ before ++ pulled_text name p →
    after ≡ start ++ flat_map written_line (filter_map pull_line (take (i + 1) lines))
pull-step lines i l name p start before after lt is named pulled h k =
    k ∙ ap (λ (bs : List ℕ). bs ++ pulled_text name p) h ∙ append_assoc start (flat_map written_line (filter_map pull_line (take i lines))) (pulled_text name p)
    ∙ ap (λ (bs : List ℕ). start ++ (flat_map written_line (filter_map pull_line (take i lines)) ++ bs)) text
    ∙ ap (λ (bs : List ℕ). start ++ bs) (sym (pulls-more lines i l lt))
  where
    whole : (n : List ℕ) (q : Pull) → pulled_text n q ≡ flat_map written_line (cons_option (pull_line_at n q) [])
    whole n Free = refl
    whole n Up = sym (append-nil (written_line (codes "pull" ∷ n ∷ codes "up" ∷ [])))
    whole n Down = sym (append-nil (written_line (codes "pull" ∷ n ∷ codes "down" ∷ [])))

    text : pulled_text name p ≡ flat_map written_line (cons_option (pull_line (get_or lines i l)) [])
    text = whole name p ∙ ap (λ (n : List ℕ). flat_map written_line (cons_option (pull_line_at n p) [])) named
        ∙ ap (λ (q : Pull). flat_map written_line (cons_option (pull_line_at l.name q) [])) (sym pulled) ∙ ap (λ (m : NetLine). flat_map written_line (cons_option (pull_line m) [])) is

pub named-at : (nets : List NetLine) (k : ℕ) (d : NetLine) → 2 ≤ k → k < length (net_names nets) → (get_or nets (k - 2) d).name ≡ get_or (net_names nets) k []
named-at nets zero d low lt = absurd (omega arith)
named-at nets (suc zero) d low lt = absurd (omega arith)
named-at nets (suc (suc k)) d low lt =
    let e : suc (suc k) - 2 ≡ k = omega arith in
    let same : length (map (λ l. l.name) nets) ≡ length nets = length-map nets (λ l. l.name) in
    ap (λ (j : ℕ). (get_or nets j d).name) e ∙ sym (get_or-map (λ l. l.name) nets k d [] (omega arith))

pub chip-in : (net : Net) → IsWritable net → (pins : List PinLine) (chips : List ChipLine) → pins ≡ net.pins → chips ≡ net.chips → (i : ℕ) (d : PinLine) → i < length pins →
    (get_or pins i d).chip < length chips
chip-in net w pins chips e f i d lt =
    let same : length pins ≡ length net.pins = ap length e in
    let h : IsWired net (get_or net.pins i d) = wired-at net w i d (omega arith) in
    let long : length chips ≡ length net.chips = ap length f in
    let here : (get_or pins i d).chip ≡ (get_or net.pins i d).chip = ap (λ (ls : List PinLine). (get_or ls i d).chip) e in
    let in_chips : (get_or net.pins i d).chip < length net.chips = slice_get_within net.chips _ h.place.chip h.place.there in
    omega arith

pub pin-step : (net : Net) → IsWritable net → (pins : List PinLine) (chips : List ChipLine) (nets : List NetLine) → pins ≡ net.pins → chips ≡ net.chips → nets ≡ net.nets →
    (i : ℕ) (d : PinLine) (x : ChipLine) (chip pin on : List ℕ) (start before after : List ℕ) → i < length pins →
    chip ≡ (get_or chips (get_or pins i d).chip x).name → pin ≡ decimal (get_or pins i d).pin → on ≡ get_or (net_names nets) (get_or pins i d).net [] →
    before ≡ start ++ flat_map written_line (map (pin_line net) (take i net.pins)) → after ≡ before ++ written_line (codes "pin" ∷ chip ∷ pin ∷ on ∷ []) →
    after ≡ start ++ flat_map written_line (map (pin_line net) (take (i + 1) net.pins))
pin-step net w pins chips nets e f g i d x chip pin on start before after lt hc hp hn h k =
    let same : length pins ≡ length net.pins = ap length e in
    let inside : i < length net.pins = omega arith in
    let l = get_or net.pins i d in
    let wired : IsWired net l = wired-at net w i d inside in
    let named : chip ≡ chip_name net l.chip =
    hc ∙ ap (λ (cs : List ChipLine). (get_or cs (get_or pins i d).chip x).name) f ∙ ap (λ (ls : List PinLine). (get_or net.chips (get_or ls i d).chip x).name) e
    ∙ ap (λ (c : ChipLine). c.name) (get_or_from_slice_get net.chips l.chip wired.place.chip x wired.place.there) ∙ sym (chip-name-is net l.chip wired.place.chip wired.place.there) in
    let numbered : pin ≡ decimal l.pin = hp ∙ ap (λ (ls : List PinLine). decimal (get_or ls i d).pin) e in
    let put : on ≡ net_name net l.net = hn ∙ ap (λ (ls : List PinLine). get_or (net_names nets) (get_or ls i d).net []) e ∙ ap (λ (ns : List NetLine). get_or (net_names ns) l.net []) g in
    let line : written_line (codes "pin" ∷ chip ∷ pin ∷ on ∷ []) ≡ written_line (pin_line net l) =
    ap (λ (a : List ℕ). written_line (codes "pin" ∷ a ∷ pin ∷ on ∷ [])) named ∙ ap (λ (a : List ℕ). written_line (codes "pin" ∷ chip_name net l.chip ∷ a ∷ on ∷ [])) numbered
    ∙ ap (λ (a : List ℕ). written_line (codes "pin" ∷ chip_name net l.chip ∷ decimal l.pin ∷ a ∷ [])) put in
    let more : flat_map written_line (map (pin_line net) (take (i + 1) net.pins)) ≡ flat_map written_line (map (pin_line net) (take i net.pins)) ++ (written_line (pin_line net l) ++ []) =
    ap (flat_map written_line) (map_more (pin_line net) net.pins i d inside) ∙ flat_map-append written_line (map (pin_line net) (take i net.pins)) (pin_line net l ∷ []) in
    k ∙ ap (λ (bs : List ℕ). bs ++ written_line (codes "pin" ∷ chip ∷ pin ∷ on ∷ [])) h
    ∙ append_assoc start (flat_map written_line (map (pin_line net) (take i net.pins))) (written_line (codes "pin" ∷ chip ∷ pin ∷ on ∷ []))
    ∙ ap (λ (bs : List ℕ). start ++ (flat_map written_line (map (pin_line net) (take i net.pins)) ++ bs)) (line ∙ sym (append-nil (written_line (pin_line net l))))
    ∙ ap (λ (bs : List ℕ). start ++ bs) (sym more)
