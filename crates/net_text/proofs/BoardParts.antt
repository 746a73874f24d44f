-- The nets and chips that the parts of a written board's lines say.
use Rattle.std.proofs.Common.{ℕ, zero, suc, ◌≡◌, ◌+◌, ◌<◌, Bool, true, false, cond, ◌||◌, List, [], ◌∷◌, ◌++◌, map, length, refl, sym, ap, ◌∙◌, arith, Option, Some, None, get_or}
use Rattle.std.specs.Prelude.{not, codes}
use Rattle.std.specs.List.{list_any, filter_map, slice_get, cons_option}
use Rattle.std.specs.Str.{bytes_eq}
use Rattle.std.specs.Option.{option_map}
use Rattle.std.proofs.lemmas.Bool.{and_parts, or_parts, or_from, not-true}
use Rattle.std.proofs.lemmas.List.{append-nil}
use Rattle.std.proofs.lemmas.List.Folds.{list_any-append}
use Rattle.std.proofs.lemmas.List.Elements.{filter_map-append}
use Rattle.mig_base.specs.declared.nets.Net.{Net}
use Rattle.mig_base.specs.declared.nets.NetLine.{NetLine}
use Rattle.mig_base.specs.declared.nets.ChipLine.{ChipLine}
use Rattle.mig_base.specs.declared.nets.PinLine.{PinLine}
use Rattle.mig_base.specs.declared.nets.Pull.{Pull}
use Rattle.mig_base.specs.declared.nets.Pull.TheVariants as pull
use Rattle.mig_base.specs.BoardText.{Says, Head, PullOf, net_said, nets_in, net_names, chip_said, chips_in, has_pin, ends, place_named, chip_named}
use Rattle.mig_base.specs.WrittenBoard.{are_distinct}
use Rattle.mig_base.proofs.Distinct.{bytes-equal, same-refl, same-sym}
use Rattle.net_text.proofs.BoardSays.{net_says, pull_says_at, pull_says, chip_says, pin_says, version_of}

-- a net before its pull
abbrev pub unpulled : NetLine → NetLine
unpulled l = record { name = l.name; port = l.port; pull = pull.Free }

pub none-mapped : {T S A : Type 0} (f : S → Option A) (g : T → S) (ts : List T) → ((t : T) → f (g t) ≡ None) → filter_map f (map g ts) ≡ []
none-mapped f g [] h = refl
none-mapped {T} {S} {A} f g (t ∷ ts) h = ap (λ (o : Option A). cons_option o (filter_map f (map g ts))) (h t) ∙ none-mapped f g ts h

pub none-passes : {T S : Type 0} (p : S → Bool) (g : T → S) (ts : List T) → ((t : T) → p (g t) ≡ false) → list_any p (map g ts) ≡ false
none-passes p g [] h = refl
none-passes p g (t ∷ ts) h = or_from _ _ (h t) (none-passes p g ts h)

pub none-pulled : {A : Type 0} (f : Says → Option A) (ls : List NetLine) → ((n : List ℕ) (d : Pull) → f (PullOf n d) ≡ None) → filter_map f (filter_map pull_says ls) ≡ []
none-pulled f [] h = refl
none-pulled {A} f (l ∷ ls) h = at l.pull (none-pulled f ls h)
  where
    at : (p : Pull) → filter_map f (filter_map pull_says ls) ≡ [] → filter_map f (cons_option (pull_says_at l.name p) (filter_map pull_says ls)) ≡ []
    at pull.Free e = e
    at pull.Up e = ap (λ (o : Option A). cons_option o (filter_map f (filter_map pull_says ls))) (h l.name pull.Up) ∙ e
    at pull.Down e = ap (λ (o : Option A). cons_option o (filter_map f (filter_map pull_says ls))) (h l.name pull.Down) ∙ e

pub none-pulls : (p : Says → Bool) (ls : List NetLine) → ((n : List ℕ) (d : Pull) → p (PullOf n d) ≡ false) → list_any p (filter_map pull_says ls) ≡ false
none-pulls p [] h = refl
none-pulls p (l ∷ ls) h = at l.pull (none-pulls p ls h)
  where
    at : (d : Pull) → list_any p (filter_map pull_says ls) ≡ false → list_any p (cons_option (pull_says_at l.name d) (filter_map pull_says ls)) ≡ false
    at pull.Free e = e
    at pull.Up e = or_from _ _ (h l.name pull.Up) e
    at pull.Down e = or_from _ _ (h l.name pull.Down) e

nets-unpulled : (ls : List NetLine) → filter_map net_said (map net_says ls) ≡ map unpulled ls
nets-unpulled [] = refl
nets-unpulled (l ∷ ls) = ap (λ (ms : List NetLine). unpulled l ∷ ms) (nets-unpulled ls)

chips-same : (cs : List ChipLine) → filter_map chip_said (map chip_says cs) ≡ cs
chips-same [] = refl
chips-same (c ∷ cs) = ap (λ (ds : List ChipLine). c ∷ ds) (chips-same cs)

pub names-unpulled : (ls : List NetLine) → net_names (map unpulled ls) ≡ net_names ls
names-unpulled ls = ap (λ (ns : List (List ℕ)). codes "GND" ∷ codes "VCC" ∷ ns) (names ls)
  where
    names : (ms : List NetLine) → map (λ l. l.name) (map unpulled ms) ≡ map (λ l. l.name) ms
    names [] = refl
    names (m ∷ ms) = ap (λ (ns : List (List ℕ)). m.name ∷ ns) (names ms)

-- the first lines of a written board, part by part
abbrev pub first_two : Net → List NetLine → List Says
first_two net ls = Head (version_of net) ∷ map net_says ls

abbrev pub first_three : Net → List NetLine → List Says
first_three net ls = first_two net net.nets ++ filter_map pull_says ls

abbrev pub first_four : Net → List ChipLine → List Says
first_four net cs = first_three net net.nets ++ map chip_says cs

abbrev pub first_five : Net → List PinLine → List Says
first_five net qs = first_four net net.chips ++ map (pin_says net) qs

pub two-nets : (net : Net) (ls : List NetLine) → nets_in (first_two net ls) ≡ map unpulled ls
two-nets net ls = nets-unpulled ls

pub three-nets : (net : Net) (ls : List NetLine) → nets_in (first_three net ls) ≡ map unpulled net.nets
three-nets net ls =
    filter_map-append net_said (first_two net net.nets) (filter_map pull_says ls)
    ∙ ap (λ (x : List NetLine). nets_in (first_two net net.nets) ++ x) (none-pulled net_said ls (λ n d. refl)) ∙ append-nil _ ∙ two-nets net net.nets

pub four-nets : (net : Net) (cs : List ChipLine) → nets_in (first_four net cs) ≡ map unpulled net.nets
four-nets net cs =
    filter_map-append net_said (first_three net net.nets) (map chip_says cs)
    ∙ ap (λ (x : List NetLine). nets_in (first_three net net.nets) ++ x) (none-mapped net_said chip_says cs (λ c. refl)) ∙ append-nil _ ∙ three-nets net net.nets

pub five-nets : (net : Net) (qs : List PinLine) → nets_in (first_five net qs) ≡ map unpulled net.nets
five-nets net qs =
    filter_map-append net_said (first_four net net.chips) (map (pin_says net) qs)
    ∙ ap (λ (x : List NetLine). nets_in (first_four net net.chips) ++ x) (none-mapped net_said (pin_says net) qs (λ q. refl)) ∙ append-nil _ ∙ four-nets net net.chips

pub three-chips : (net : Net) (ls : List NetLine) → chips_in (first_three net ls) ≡ []
three-chips net ls =
    filter_map-append chip_said (first_two net net.nets) (filter_map pull_says ls)
    ∙ ap (λ (x : List ChipLine). x ++ filter_map chip_said (filter_map pull_says ls)) (none-mapped chip_said net_says net.nets (λ l. refl))
    ∙ none-pulled chip_said ls (λ n d. refl)

pub four-chips : (net : Net) (cs : List ChipLine) → chips_in (first_four net cs) ≡ cs
four-chips net cs =
    filter_map-append chip_said (first_three net net.nets) (map chip_says cs)
    ∙ ap (λ (x : List ChipLine). x ++ filter_map chip_said (map chip_says cs)) (three-chips net net.nets) ∙ chips-same cs

pub five-chips : (net : Net) (qs : List PinLine) → chips_in (first_five net qs) ≡ net.chips
five-chips net qs =
    filter_map-append chip_said (first_four net net.chips) (map (pin_says net) qs)
    ∙ ap (λ (x : List ChipLine). chips_in (first_four net net.chips) ++ x) (none-mapped chip_said (pin_says net) qs (λ q. refl)) ∙ append-nil _ ∙ four-chips net net.chips

-- a test that no line but a pin line passes
pub record IsOfPins (p : Says → Bool) : Type 0 where
  pub head : (v : ℕ) → p (Head v) ≡ false
  pub net : (l : NetLine) → p (net_says l) ≡ false
  pub pull : (n : List ℕ) (d : Pull) → p (PullOf n d) ≡ false
  pub chip : (c : ChipLine) → p (chip_says c) ≡ false

pub three-none : (net : Net) (p : Says → Bool) → IsOfPins p → (ls : List NetLine) → list_any p (first_three net ls) ≡ false
three-none net p h ls =
    list_any-append p (first_two net net.nets) (filter_map pull_says ls)
    ∙ or_from _ _ (or_from _ _ (h.head (version_of net)) (none-passes p net_says net.nets h.net)) (none-pulls p ls h.pull)

pub four-none : (net : Net) (p : Says → Bool) → IsOfPins p → (cs : List ChipLine) → list_any p (first_four net cs) ≡ false
four-none net p h cs =
    list_any-append p (first_three net net.nets) (map chip_says cs) ∙ or_from _ _ (three-none net p h net.nets) (none-passes p chip_says cs h.chip)

pub five-any : (net : Net) (p : Says → Bool) → IsOfPins p → (qs : List PinLine) → list_any p (first_five net qs) ≡ list_any p (map (pin_says net) qs)
five-any net p h qs =
    list_any-append p (first_four net net.chips) (map (pin_says net) qs) ∙ ap (λ (t : Bool). t || list_any p (map (pin_says net) qs)) (four-none net p h net.chips)

pub pins-of-pins : (chip : List ℕ) (pin : ℕ) → IsOfPins (has_pin chip pin)
pins-of-pins chip pin = record { head = λ v. refl; net = λ l. refl; pull = λ n d. refl; chip = λ c. refl }

pub ends-of-pins : IsOfPins ends
ends-of-pins = record { head = λ v. refl; net = λ l. refl; pull = λ n d. refl; chip = λ c. refl }

-- names that are told apart are found at their places
pub place-found : (names : List (List ℕ)) (k : ℕ) → are_distinct bytes_eq names ≡ true → k < length names → place_named (get_or names k []) names ≡ Some k
place-found [] k h lt = absurd (omega arith)
place-found (n ∷ names) zero h lt = ap (λ (t : Bool). cond t (Some 0) (option_map (λ i. i + 1) (place_named n names))) (same-refl bytes-equal n)
place-found (n ∷ names) (suc k) h lt =
    let parts : (not (list_any (bytes_eq n) names) ≡ true) × (are_distinct bytes_eq names ≡ true) = and_parts _ _ h in
    let other : bytes_eq (get_or names k []) n ≡ false =
    same-sym bytes-equal (get_or names k []) n ∙ not-at (bytes_eq n) names k (not-true _ parts.0) (omega arith) in
    ap (λ (t : Bool). cond t (Some 0) (option_map (λ i. i + 1) (place_named (get_or names k []) names))) other
    ∙ ap (option_map (λ i. i + 1)) (place-found names k parts.1 (omega arith))
    ∙ (let e : k + 1 ≡ suc k = omega arith in ap (λ (i : ℕ). Some i) e)
  where
    not-at : (p : List ℕ → Bool) (ns : List (List ℕ)) (i : ℕ) → list_any p ns ≡ false → i < length ns → p (get_or ns i []) ≡ false
    not-at p [] i none lt = absurd (omega arith)
    not-at p (m ∷ ns) zero none lt = (or_parts _ _ none).0
    not-at p (m ∷ ns) (suc i) none lt = not-at p ns i (or_parts (p m) _ none).1 (omega arith)

pub chip-found : (cs : List ChipLine) (j : ℕ) (c : ChipLine) → are_distinct bytes_eq (map (λ d. d.name) cs) ≡ true → slice_get cs j ≡ Some c → chip_named c.name cs ≡ Some c
chip-found [] j c h e = cc
chip-found (d ∷ cs) zero c h e =
    let same : d ≡ c = cc in
    ap (λ (x : ChipLine). cond (bytes_eq c.name x.name) (Some x) (chip_named c.name cs)) same
    ∙ ap (λ (t : Bool). cond t (Some c) (chip_named c.name cs)) (same-refl bytes-equal c.name)
chip-found (d ∷ cs) (suc j) c h e =
    let parts : (not (list_any (bytes_eq d.name) (map (λ d. d.name) cs)) ≡ true) × (are_distinct bytes_eq (map (λ d. d.name) cs) ≡ true) = and_parts _ _ h in
    let other : bytes_eq c.name d.name ≡ false = same-sym bytes-equal c.name d.name ∙ not-named cs j e (not-true _ parts.0) in
    ap (λ (t : Bool). cond t (Some d) (chip_named c.name cs)) other ∙ chip-found cs j c parts.1 e
  where
    not-named : (ds : List ChipLine) (i : ℕ) → slice_get ds i ≡ Some c → list_any (bytes_eq d.name) (map (λ x. x.name) ds) ≡ false → bytes_eq d.name c.name ≡ false
    not-named [] i e none = cc
    not-named (x ∷ ds) zero e none = let same : x ≡ c = cc in ap (λ (y : ChipLine). bytes_eq d.name y.name) (sym same) ∙ (or_parts _ _ none).0
    not-named (x ∷ ds) (suc i) e none = not-named ds i e (or_parts (bytes_eq d.name x.name) _ none).1
