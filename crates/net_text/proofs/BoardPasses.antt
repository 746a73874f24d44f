-- No line of a written board is refused.
use Rattle.std.proofs.Common.{ℕ, suc, ◌≡◌, ◌+◌, ◌<◌, ◌≤◌, Bool, true, false, cond, ◌&&◌, ◌||◌, eqb, List, [], ◌∷◌, ◌++◌, map, length, refl, sym, ap, ◌∙◌, subst, arith, Option, Some, None, get_or, length-append, append_assoc}
use Rattle.std.specs.Prelude.{not, ◌==◌, nat_le, is_none, codes}
use Rattle.std.specs.List.{AllByRecursion, list_any, list_all, filter_map, cons_option}
use Rattle.std.specs.Str.{bytes_eq}
use Rattle.std.proofs.lemmas.Bool.{and_parts, and_left, or_parts, or_from, not-true, lt-leb}
use Rattle.std.proofs.lemmas.Bool.Decides.{same_from_decides, Decides-eqb, Decides-like}
use Rattle.std.proofs.lemmas.List.{map-append, append-nil, map_push}
use Rattle.std.proofs.lemmas.List.Folds.{list_any-append}
use Rattle.std.proofs.lemmas.List.Elements.{filter_map-append}
use Rattle.std.proofs.lemmas.Option.{slice_get_within}
use Rattle.mig_base.specs.declared.nets.Net.{Net}
use Rattle.mig_base.specs.declared.nets.NetLine.{NetLine}
use Rattle.mig_base.specs.declared.nets.ChipLine.{ChipLine}
use Rattle.mig_base.specs.declared.nets.PinLine.{PinLine}
use Rattle.mig_base.specs.declared.nets.NetError.{NetError}
use Rattle.mig_base.specs.declared.nets.NetError.TheVariants.{Line, NetsOver, ChipsOver, NameTwice, NetUnknown, PinUnknown, PinTwice, PowerPin, PullTwice, PullNet}
use Rattle.mig_base.specs.declared.nets.Pull.{Pull}
use Rattle.mig_base.specs.declared.nets.Pull.TheVariants as pull
use Rattle.mig_base.specs.DeviceTables.{pins_of, ground_of}
use Rattle.mig_base.specs.First.{or_else, first_refusal}
use Rattle.mig_base.specs.BoardText.{Says, Head, PullOf, End, SaidLine, all_said, is_first, is_head, ends, refuse, said_refusal, line_refusal, nets_in, net_names, names_of_nets, chips_in, place_named, chip_named, has_pin, pulls, is_version, cant_pull, is_input_port, pin_refusal_at}
use Rattle.mig_base.specs.WrittenBoard.{are_distinct, chip_name, net_name, is_pulled, same_place, place_of, board_places, IsWritable}
use Rattle.mig_base.proofs.KindFacts.{is_proper}
use Rattle.mig_base.proofs.Distinct.{bytes-equal, places-equal, distinct-before, distinct-behind, part-distinct, places-distinct}
use Rattle.mig_base.proofs.ListLaws.{all-append}
use Rattle.net_text.proofs.BoardSays.{net_says, pull_says_at, pull_says, chip_says, pin_says, version_of, board_says, said_from, IsWired, pins-wired, chip-name-is}
use Rattle.net_text.proofs.BoardParts.{unpulled, none-passes, none-pulls, names-unpulled, first_two, first_three, first_four, first_five, two-nets, three-nets, five-nets, four-chips, five-chips, three-none, four-none, five-any, pins-of-pins, ends-of-pins, place-found, chip-found}

abbrev pub is_start : List Says → Bool
is_start [] = true
is_start (s ∷ ss) = false

-- a line that nothing refuses behind these
pub record Passes (before : List Says) (s : Says) : Type 0 where
  pub first : (is_start before && not (is_head s)) ≡ false
  pub open_yet : list_any ends before ≡ false
  pub right : (n : ℕ) → said_refusal n before s ≡ None

abbrev pub AllPass : List Says → List Says → Type 0
AllPass before [] = Unit {0}
AllPass before (s ∷ ss) = Passes before s × AllPass (before ++ s ∷ []) ss

start-said : (ls : List SaidLine) → is_first ls ≡ is_start (all_said ls)
start-said [] = refl
start-said (l ∷ ls) = refl

ends-said : (ls : List SaidLine) → list_any (λ l. ends l.said) ls ≡ list_any ends (all_said ls)
ends-said [] = refl
ends-said (l ∷ ls) = ap (λ (t : Bool). ends l.said || t) (ends-said ls)

pub line-passes : (before : List SaidLine) (n : ℕ) (s : Says) → Passes (all_said before) s → line_refusal before (record { n = n; said = s }) ≡ None
line-passes before n s h =
    ap (λ (t : Bool). or_else (refuse (t && not (is_head s)) (Line n)) (or_else (refuse (list_any (λ b. ends b.said) before) (Line n)) (said_refusal n (all_said before) s))) (start-said before)
    ∙ ap (λ (t : Bool). or_else (refuse t (Line n)) (or_else (refuse (list_any (λ b. ends b.said) before) (Line n)) (said_refusal n (all_said before) s))) h.first
    ∙ ap (λ (t : Bool). or_else (refuse t (Line n)) (said_refusal n (all_said before) s)) (ends-said before ∙ h.open_yet)
    ∙ h.right n

pub lines-pass : (before : List SaidLine) (n : ℕ) (ss : List Says) → AllPass (all_said before) ss → first_refusal line_refusal before (said_from n ss) ≡ None
lines-pass before n [] h = refl
lines-pass before n (s ∷ ss) h =
    let l : SaidLine = record { n = n; said = s } in
    ap (λ (o : Option NetError). or_else o (first_refusal line_refusal (before ++ l ∷ []) (said_from (n + 1) ss))) (line-passes before n s h.0)
    ∙ lines-pass (before ++ l ∷ []) (n + 1) ss (subst (λ (b : List Says). AllPass b ss) (sym (map_push (λ x. x.said) before l)) h.1)

pub pass-append : (before xs ys : List Says) → AllPass before xs → AllPass (before ++ xs) ys → AllPass before (xs ++ ys)
pass-append before [] ys hx hy = subst (λ (b : List Says). AllPass b ys) (append-nil before) hy
pass-append before (x ∷ xs) ys hx hy = (hx.0, pass-append (before ++ x ∷ []) xs ys hx.1 (subst (λ (b : List Says). AllPass b ys) (sym (append_assoc before (x ∷ []) xs)) hy))

none-of : (a b : Bool) (e f : NetError) → a ≡ false → b ≡ false → or_else (refuse a e) (refuse b f) ≡ None
none-of a b e f ha hb = ap (λ (t : Bool). or_else (refuse t e) (refuse b f)) ha ∙ ap (λ (t : Bool). refuse t f) hb

net-line-passes : (net : Net) → IsWritable net → (done : List NetLine) (l : NetLine) (rest : List NetLine) → net.nets ≡ done ++ l ∷ rest → Passes (first_two net done) (net_says l)
net-line-passes net w done l rest e = record {
  first = refl;
  open_yet = none-passes ends net_says done (λ m. refl);
  right = λ n. none-of _ _ (NetsOver n) (NameTwice n)
      (ap (λ (ms : List NetLine). nat_le 1024 (length ms)) (two-nets net done) ∙ ap (nat_le 1024) (length-unpulled done) ∙ lt-leb 1024 (length done) few)
      (ap (λ (ms : List NetLine). list_any (bytes_eq l.name) (net_names ms)) (two-nets net done) ∙ ap (list_any (bytes_eq l.name)) (names-unpulled done)
      ∙ distinct-before bytes-equal (net_names done) l.name (map (λ m. m.name) rest) names);
}
  where
    length-unpulled : (ms : List NetLine) → length (map unpulled ms) ≡ length ms
    length-unpulled [] = refl
    length-unpulled (m ∷ ms) = ap suc (length-unpulled ms)

    few : length done < 1024
    few = let all : length net.nets ≡ length done + length (l ∷ rest) = ap length e ∙ length-append done (l ∷ rest) in let most : length net.nets ≤ 1024 = w.few_nets in omega arith

    names : are_distinct bytes_eq (net_names done ++ l.name ∷ map (λ m. m.name) rest) ≡ true
    names =
        ap (λ (ns : List (List ℕ)). are_distinct bytes_eq (codes "GND" ∷ codes "VCC" ∷ ns)) (sym (map-append (λ m. m.name) done (l ∷ rest)))
        ∙ ap (λ (ms : List NetLine). are_distinct bytes_eq (net_names ms)) (sym e) ∙ w.distinct_nets

nets-pass : (net : Net) → IsWritable net → (done rest : List NetLine) → net.nets ≡ done ++ rest → AllPass (first_two net done) (map net_says rest)
nets-pass net w done [] e = tt
nets-pass net w done (l ∷ rest) e = (
  net-line-passes net w done l rest e,
  subst (λ (b : List Says). AllPass b (map net_says rest)) (ap (λ (ss : List Says). Head (version_of net) ∷ ss) (map_push net_says done l))
      (nets-pass net w (done ++ l ∷ []) rest (e ∙ sym (append_assoc done (l ∷ []) rest))),
)

-- a pulled net of a written board, among those before and behind it
record IsPulledAt (net : Net) (done : List NetLine) (l : NetLine) (rest : List NetLine) : Type 0 where
  all : net.nets ≡ done ++ l ∷ rest
  pulled : is_pulled l.pull ≡ true

names-split : (net : Net) (done : List NetLine) (l : NetLine) (rest : List NetLine) → net.nets ≡ done ++ l ∷ rest →
    net_names net.nets ≡ net_names done ++ l.name ∷ map (λ m. m.name) rest
names-split net done l rest e = ap net_names e ∙ ap (λ (ns : List (List ℕ)). codes "GND" ∷ codes "VCC" ∷ ns) (map-append (λ m. m.name) done (l ∷ rest))

pub apart-before : (net : Net) → IsWritable net → (done : List NetLine) (l : NetLine) (rest : List NetLine) → net.nets ≡ done ++ l ∷ rest →
    list_any (bytes_eq l.name) (net_names done) ≡ false
apart-before net w done l rest e = distinct-before bytes-equal (net_names done) l.name (map (λ m. m.name) rest) (ap (are_distinct bytes_eq) (sym (names-split net done l rest e)) ∙ w.distinct_nets)

pub apart-behind : (net : Net) → IsWritable net → (done : List NetLine) (l : NetLine) (rest : List NetLine) → net.nets ≡ done ++ l ∷ rest →
    list_any (bytes_eq l.name) (map (λ m. m.name) rest) ≡ false
apart-behind net w done l rest e =
    not-true _ (and_parts _ (are_distinct bytes_eq (map (λ m. m.name) rest))
    (distinct-behind bytes_eq (net_names done) (l.name ∷ map (λ m. m.name) rest) (ap (are_distinct bytes_eq) (sym (names-split net done l rest e)) ∙ w.distinct_nets))).0

get-middle : (xs : List (List ℕ)) (y : List ℕ) (ys : List (List ℕ)) → get_or (xs ++ y ∷ ys) (length xs) [] ≡ y
get-middle [] y ys = refl
get-middle (x ∷ xs) y ys = get-middle xs y ys

within-middle : (xs : List (List ℕ)) (y : List ℕ) (ys : List (List ℕ)) → length xs < length (xs ++ y ∷ ys)
within-middle [] y ys = omega arith
within-middle (x ∷ xs) y ys = let h : length xs < length (xs ++ y ∷ ys) = within-middle xs y ys in omega arith

name-known : (net : Net) → IsWritable net → (done : List NetLine) (l : NetLine) (rest : List NetLine) → net.nets ≡ done ++ l ∷ rest →
    is_none (place_named l.name (net_names net.nets)) ≡ false
name-known net w done l rest e =
    let xs = net_names done in
    let ys = map (λ m. m.name) rest in
    let split : net_names net.nets ≡ xs ++ l.name ∷ ys = names-split net done l rest e in
    ap (λ (ns : List (List ℕ)). is_none (place_named l.name ns)) split
    ∙ ap (λ (n : List ℕ). is_none (place_named n (xs ++ l.name ∷ ys))) (sym (get-middle xs l.name ys))
    ∙ ap is_none (place-found (xs ++ l.name ∷ ys) (length xs) (ap (are_distinct bytes_eq) (sym split) ∙ w.distinct_nets) (within-middle xs l.name ys))

pub not-pulled-yet : (name : List ℕ) (ls : List NetLine) → list_any (bytes_eq name) (map (λ m. m.name) ls) ≡ false → list_any (pulls name) (filter_map pull_says ls) ≡ false
not-pulled-yet name [] h = refl
not-pulled-yet name (m ∷ ls) h =
    let parts : (bytes_eq name m.name ≡ false) × (list_any (bytes_eq name) (map (λ m. m.name) ls) ≡ false) = or_parts _ _ h in
    at m.pull parts.0 (not-pulled-yet name ls parts.1)
  where
    at : (d : Pull) → bytes_eq name m.name ≡ false → list_any (pulls name) (filter_map pull_says ls) ≡ false → list_any (pulls name) (cons_option (pull_says_at m.name d) (filter_map pull_says ls)) ≡ false
    at pull.Free k e = e
    at pull.Up k e = or_from _ _ k e
    at pull.Down k e = or_from _ _ k e

-- whether a net of this name is an Input port
abbrev is_input_of : List ℕ → NetLine → Bool
is_input_of name l = bytes_eq name l.name && is_input_port l.port

no-input : (name : List ℕ) (ls : List NetLine) → list_any (bytes_eq name) (map (λ m. m.name) ls) ≡ false → list_any (is_input_of name) (map unpulled ls) ≡ false
no-input name [] h = refl
no-input name (m ∷ ls) h =
    let parts : (bytes_eq name m.name ≡ false) × (list_any (bytes_eq name) (map (λ m. m.name) ls) ≡ false) = or_parts _ _ h in
    or_from _ _ (and_left _ _ parts.0) (no-input name ls parts.1)

can-pull : (net : Net) → IsWritable net → (done : List NetLine) (l : NetLine) (rest : List NetLine) → IsPulledAt net done l rest →
    cant_pull (map unpulled net.nets) l.name ≡ false
can-pull net w done l rest h =
    let before : list_any (bytes_eq l.name) (net_names done) ≡ false = apart-before net w done l rest h.all in
    let ground : (bytes_eq l.name (codes "GND") ≡ false) × (list_any (bytes_eq l.name) (codes "VCC" ∷ map (λ m. m.name) done) ≡ false) = or_parts _ _ before in
    let power : (bytes_eq l.name (codes "VCC") ≡ false) × (list_any (bytes_eq l.name) (map (λ m. m.name) done) ≡ false) = or_parts _ _ ground.1 in
    or_from _ _ (or_from _ _ ground.0 power.0)
    (ap (λ (ms : List NetLine). list_any (is_input_of l.name) (map unpulled ms)) h.all
    ∙ ap (list_any (is_input_of l.name)) (map-append unpulled done (l ∷ rest))
    ∙ list_any-append (is_input_of l.name) (map unpulled done) (unpulled l ∷ map unpulled rest)
    ∙ or_from _ _ (no-input l.name done power.1)
    (or_from _ _ (and-right (bytes_eq l.name l.name) (not-input l.pull l.port h.pulled (allowed net.nets done h.all w.no_input_pulled))) (no-input l.name rest (apart-behind net w done l rest h.all))))
  where
    and-right : (a : Bool) → is_input_port l.port ≡ false → (a && is_input_port l.port) ≡ false
    and-right true e = e
    and-right false e = refl

    allowed : (ms ds : List NetLine) → ms ≡ ds ++ l ∷ rest → list_all (λ m. not (is_pulled m.pull && is_input_port m.port)) ms ≡ true → not (is_pulled l.pull && is_input_port l.port) ≡ true
    allowed ms ds e all = behind ds (ap (list_all (λ m. not (is_pulled m.pull && is_input_port m.port))) (sym e) ∙ all)
      where
        behind : (xs : List NetLine) → list_all (λ m. not (is_pulled m.pull && is_input_port m.port)) (xs ++ l ∷ rest) ≡ true → not (is_pulled l.pull && is_input_port l.port) ≡ true
        behind [] k = (and_parts _ _ k).0
        behind (x ∷ xs) k = behind xs (and_parts (not (is_pulled x.pull && is_input_port x.port)) _ k).1

    not-input : (p : Pull) (d : _) → is_pulled p ≡ true → not (is_pulled p && is_input_port d) ≡ true → is_input_port d ≡ false
    not-input p d a b = not-true _ (ap (λ (t : Bool). not (t && is_input_port d)) (sym a) ∙ b)

new-version : (net : Net) (done : List NetLine) (l : NetLine) (rest : List NetLine) → IsPulledAt net done l rest → list_any (is_version 1) (first_three net done) ≡ false
new-version net done l rest h =
    list_any-append (is_version 1) (first_two net net.nets) (filter_map pull_says done)
    ∙ or_from _ _ (or_from _ _ (ap (λ (t : Bool). eqb (cond t 2 1) 1) (ap (list_any (λ m. is_pulled m.pull)) h.all ∙ some done)) (none-passes (is_version 1) net_says net.nets (λ m. refl)))
    (none-pulls (is_version 1) done (λ n d. refl))
  where
    some : (ms : List NetLine) → list_any (λ m. is_pulled m.pull) (ms ++ l ∷ rest) ≡ true
    some [] = ap (λ (t : Bool). t || list_any (λ m. is_pulled m.pull) rest) h.pulled
    some (m ∷ ms) = ap (λ (t : Bool). is_pulled m.pull || t) (some ms) ∙ or-true (is_pulled m.pull)
      where
        or-true : (a : Bool) → (a || true) ≡ true
        or-true true = refl
        or-true false = refl

names-three : (net : Net) (done : List NetLine) → names_of_nets (first_three net done) ≡ net_names net.nets
names-three net done = ap net_names (three-nets net done) ∙ names-unpulled net.nets

pull-line-passes : (net : Net) → IsWritable net → (done : List NetLine) (l : NetLine) (rest : List NetLine) → IsPulledAt net done l rest → (d : Pull) → Passes (first_three net done) (PullOf l.name d)
pull-line-passes net w done l rest h d = record {
  first = refl;
  open_yet = three-none net ends ends-of-pins done;
  right = λ n.
      ap (λ (t : Bool). or_else (refuse t (Line n)) (or_else (refuse (is_none (place_named l.name (names_of_nets (first_three net done)))) (NetUnknown n))
      (or_else (refuse (list_any (pulls l.name) (first_three net done)) (PullTwice n)) (refuse (cant_pull (nets_in (first_three net done)) l.name) (PullNet n))))) (new-version net done l rest h)
      ∙ ap (λ (t : Bool). or_else (refuse t (NetUnknown n)) (or_else (refuse (list_any (pulls l.name) (first_three net done)) (PullTwice n)) (refuse (cant_pull (nets_in (first_three net done)) l.name) (PullNet n))))
      (ap (λ (ns : List (List ℕ)). is_none (place_named l.name ns)) (names-three net done) ∙ name-known net w done l rest h.all)
      ∙ none-of _ _ (PullTwice n) (PullNet n) twice (ap (λ (ms : List NetLine). cant_pull ms l.name) (three-nets net done) ∙ can-pull net w done l rest h);
}
  where
    twice : list_any (pulls l.name) (first_three net done) ≡ false
    twice =
        list_any-append (pulls l.name) (first_two net net.nets) (filter_map pull_says done)
        ∙ or_from _ _ (none-passes (pulls l.name) net_says net.nets (λ m. refl))
        (not-pulled-yet l.name done (or_parts (bytes_eq l.name (codes "VCC")) (list_any (bytes_eq l.name) (map (λ m. m.name) done))
        (or_parts (bytes_eq l.name (codes "GND")) (list_any (bytes_eq l.name) (codes "VCC" ∷ map (λ m. m.name) done)) (apart-before net w done l rest h.all)).1).1)

pulls-pass : (net : Net) → IsWritable net → (done rest : List NetLine) → net.nets ≡ done ++ rest → AllPass (first_three net done) (filter_map pull_says rest)
pulls-pass net w done [] e = tt
pulls-pass net w done (l ∷ rest) e = at l.pull refl (pulls-pass net w (done ++ l ∷ []) rest (e ∙ sym (append_assoc done (l ∷ []) rest)))
  where
    more : (d : Pull) → l.pull ≡ d → first_three net (done ++ l ∷ []) ≡ first_two net net.nets ++ (filter_map pull_says done ++ cons_option (pull_says_at l.name d) [])
    more d k = ap (λ (ss : List Says). first_two net net.nets ++ ss) (filter_map-append pull_says done (l ∷ []) ∙ ap (λ (p : Pull). filter_map pull_says done ++ cons_option (pull_says_at l.name p) []) k)

    on : (d : Pull) → l.pull ≡ d → AllPass (first_three net (done ++ l ∷ [])) (filter_map pull_says rest) →
        AllPass (first_three net done ++ cons_option (pull_says_at l.name d) []) (filter_map pull_says rest)
    on d k h = subst (λ (b : List Says). AllPass b (filter_map pull_says rest)) (more d k ∙ sym (append_assoc (first_two net net.nets) (filter_map pull_says done) (cons_option (pull_says_at l.name d) []))) h

    at : (d : Pull) → l.pull ≡ d → AllPass (first_three net (done ++ l ∷ [])) (filter_map pull_says rest) → AllPass (first_three net done) (cons_option (pull_says_at l.name d) (filter_map pull_says rest))
    at pull.Free k h = subst (λ (b : List Says). AllPass b (filter_map pull_says rest)) (append-nil (first_three net done)) (on pull.Free k h)
    at pull.Up k h = (pull-line-passes net w done l rest (record { all = e; pulled = ap is_pulled k }) pull.Up, on pull.Up k h)
    at pull.Down k h = (pull-line-passes net w done l rest (record { all = e; pulled = ap is_pulled k }) pull.Down, on pull.Down k h)

any-named : (name : List ℕ) (cs : List ChipLine) → list_any (λ c. bytes_eq name c.name) cs ≡ list_any (bytes_eq name) (map (λ c. c.name) cs)
any-named name [] = refl
any-named name (c ∷ cs) = ap (λ (t : Bool). bytes_eq name c.name || t) (any-named name cs)

chip-line-passes : (net : Net) → IsWritable net → (done : List ChipLine) (c : ChipLine) (rest : List ChipLine) → net.chips ≡ done ++ c ∷ rest → Passes (first_four net done) (chip_says c)
chip-line-passes net w done c rest e = record {
  first = refl;
  open_yet = four-none net ends ends-of-pins done;
  right = λ n. none-of _ _ (ChipsOver n) (NameTwice n)
      (ap (λ (ds : List ChipLine). nat_le 64 (length ds)) (four-chips net done) ∙ lt-leb 64 (length done) few)
      (ap (λ (ds : List ChipLine). list_any (λ d. bytes_eq c.name d.name) ds) (four-chips net done) ∙ any-named c.name done
      ∙ distinct-before bytes-equal (map (λ d. d.name) done) c.name (map (λ d. d.name) rest) names);
}
  where
    few : length done < 64
    few = let all : length net.chips ≡ length done + length (c ∷ rest) = ap length e ∙ length-append done (c ∷ rest) in let most : length net.chips ≤ 64 = w.few_chips in omega arith

    names : are_distinct bytes_eq (map (λ d. d.name) done ++ c.name ∷ map (λ d. d.name) rest) ≡ true
    names = ap (are_distinct bytes_eq) (sym (map-append (λ d. d.name) done (c ∷ rest))) ∙ ap (λ (ds : List ChipLine). are_distinct bytes_eq (map (λ d. d.name) ds)) (sym e) ∙ w.distinct_chips

chips-pass : (net : Net) → IsWritable net → (done rest : List ChipLine) → net.chips ≡ done ++ rest → AllPass (first_four net done) (map chip_says rest)
chips-pass net w done [] e = tt
chips-pass net w done (c ∷ rest) e = (
  chip-line-passes net w done c rest e,
  subst (λ (b : List Says). AllPass b (map chip_says rest)) (ap (λ (ss : List Says). first_three net net.nets ++ ss) (map_push chip_says done c) ∙ sym (append_assoc (first_three net net.nets) (map chip_says done) (chip_says c ∷ [])))
      (chips-pass net w (done ++ c ∷ []) rest (e ∙ sym (append_assoc done (c ∷ []) rest))),
)

length-names : (cs : List ChipLine) → length (map (λ c. c.name) cs) ≡ length cs
length-names [] = refl
length-names (c ∷ cs) = ap suc (length-names cs)

-- two chips have one name exactly where they are one
pub same-chip : (net : Net) → IsWritable net → (i j : ℕ) → i < length net.chips → j < length net.chips → bytes_eq (chip_name net i) (chip_name net j) ≡ eqb i j
same-chip net w i j hi hj =
    same_from_decides _ _ (Decides-like _ there back (bytes-equal.decides (chip_name net i) (chip_name net j))) (Decides-eqb i j)
  where
    found : (k : ℕ) → k < length net.chips → place_named (chip_name net k) (map (λ c. c.name) net.chips) ≡ Some k
    found k h = place-found (map (λ c. c.name) net.chips) k w.distinct_chips (let e : length (map (λ c. c.name) net.chips) ≡ length net.chips = length-names net.chips in omega arith)

    there : chip_name net i ≡ chip_name net j → i ≡ j
    there e = let two : Some i ≡ Some j = sym (found i hi) ∙ ap (λ (n : List ℕ). place_named n (map (λ c. c.name) net.chips)) e ∙ found j hj in cc

    back : i ≡ j → chip_name net i ≡ chip_name net j
    back e = ap (chip_name net) e

pub chip-within : (net : Net) (l : PinLine) → IsWired net l → l.chip < length net.chips
chip-within net l h = slice_get_within net.chips l.chip h.place.chip h.place.there

pin-taken : (net : Net) → IsWritable net → (l : PinLine) → IsWired net l → (qs : List PinLine) → AllByRecursion (IsWired net) qs →
    list_any (has_pin (chip_name net l.chip) l.pin) (map (pin_says net) qs) ≡ list_any (same_place (place_of l)) (map place_of qs)
pin-taken net w l h [] all = refl
pin-taken net w l h (q ∷ qs) all =
    ap (λ (t : Bool). (t && eqb l.pin q.pin) || list_any (has_pin (chip_name net l.chip) l.pin) (map (pin_says net) qs))
    (same-chip net w l.chip q.chip (chip-within net l h) (chip-within net q all.0))
    ∙ ap (λ (t : Bool). same_place (place_of l) (place_of q) || t) (pin-taken net w l h qs all.1)

refused-not : (b : Bool) (e : NetError) (o : Option NetError) → b ≡ false → o ≡ None → or_else (refuse b e) o ≡ None
refused-not b e o h k = ap (λ (t : Bool). or_else (refuse t e) o) h ∙ k

-- what is refused of a pin at its chip and its net
pin-right : (n : ℕ) (before : List Says) (name : List ℕ) (pin : ℕ) (c : ChipLine) (k : ℕ) → is_proper c.kind pin ≡ true → list_any (has_pin name pin) before ≡ false →
    pin_refusal_at n before name pin (Some c) (Some k) ≡ None
pin-right n before name pin c k proper free =
    let p : (nat_le 1 pin && nat_le pin (pins_of c.kind) && not (pin == ground_of c.kind) ≡ true) × (not (pin == pins_of c.kind) ≡ true) = and_parts _ _ proper in
    let q : (nat_le 1 pin && nat_le pin (pins_of c.kind) ≡ true) × (not (pin == ground_of c.kind) ≡ true) = and_parts _ _ p.0 in
    refused-not _ (PinUnknown n) _ (ap not q.0)
    (refused-not _ (PinTwice n) _ free
    (ap (λ (t : Bool). refuse t (PowerPin n)) (or_from _ _ (and_left _ (not (k == 0)) (not-true _ q.1)) (and_left _ (not (k == 1)) (not-true _ p.1)))))

names-five : (net : Net) (done : List PinLine) → names_of_nets (first_five net done) ≡ net_names net.nets
names-five net done = ap net_names (five-nets net done) ∙ names-unpulled net.nets

pin-line-passes : (net : Net) → IsWritable net → (done : List PinLine) (l : PinLine) (rest : List PinLine) → net.pins ≡ done ++ l ∷ rest →
    AllByRecursion (IsWired net) done → IsWired net l → Passes (first_five net done) (pin_says net l)
pin-line-passes net w done l rest e wired h = record {
  first = refl;
  open_yet = five-any net ends ends-of-pins done ∙ none-passes ends (pin_says net) done (λ q. refl);
  right = λ n.
      let name = chip_name net l.chip in
      let before = first_five net done in
      let chip : chip_named name (chips_in before) ≡ Some h.place.chip =
      ap (chip_named name) (five-chips net done) ∙ ap (λ (m : List ℕ). chip_named m net.chips) (chip-name-is net l.chip h.place.chip h.place.there)
      ∙ chip-found net.chips l.chip h.place.chip w.distinct_chips h.place.there in
      let on : place_named (net_name net l.net) (names_of_nets before) ≡ Some l.net =
      ap (place_named (net_name net l.net)) (names-five net done) ∙ place-found (net_names net.nets) l.net w.distinct_nets h.on in
      ap (λ (o : Option ChipLine). pin_refusal_at n before name l.pin o (place_named (net_name net l.net) (names_of_nets before))) chip
      ∙ ap (pin_refusal_at n before name l.pin (Some h.place.chip)) on
      ∙ pin-right n before name l.pin h.place.chip l.net h.place.proper free;
}
  where
    places : are_distinct same_place (map place_of done ++ place_of l ∷ map place_of rest) ≡ true
    places =
        ap (are_distinct same_place) (sym (ap (map place_of) e ∙ map-append place_of done (l ∷ rest)))
        ∙ part-distinct places-equal (map place_of net.pins) (board_places 0 net.chips) w.pins_in_order (places-distinct 0 net.chips)

    free : list_any (has_pin (chip_name net l.chip) l.pin) (first_five net done) ≡ false
    free = five-any net (has_pin (chip_name net l.chip) l.pin) (pins-of-pins (chip_name net l.chip) l.pin) done ∙ pin-taken net w l h done wired
        ∙ distinct-before places-equal (map place_of done) (place_of l) (map place_of rest) places

pins-pass : (net : Net) → IsWritable net → (done rest : List PinLine) → net.pins ≡ done ++ rest → AllByRecursion (IsWired net) done → AllByRecursion (IsWired net) rest →
    AllPass (first_five net done) (map (pin_says net) rest)
pins-pass net w done [] e wired all = tt
pins-pass net w done (l ∷ rest) e wired all = (
  pin-line-passes net w done l rest e wired all.0,
  subst (λ (b : List Says). AllPass b (map (pin_says net) rest))
      (ap (λ (ss : List Says). first_four net net.chips ++ ss) (map_push (pin_says net) done l) ∙ sym (append_assoc (first_four net net.chips) (map (pin_says net) done) (pin_says net l ∷ [])))
      (pins-pass net w (done ++ l ∷ []) rest (e ∙ sym (append_assoc done (l ∷ []) rest)) (all-append (IsWired net) done (l ∷ []) wired (all.0, tt)) all.1),
)

end-passes : (net : Net) → Passes (first_five net net.pins) End
end-passes net = record { first = refl; open_yet = five-any net ends ends-of-pins net.pins ∙ none-passes ends (pin_says net) net.pins (λ q. refl); right = λ n. refl }

from_nil : (ss before : List Says) → AllPass (before ++ []) ss → AllPass before ss
from_nil ss before h = subst (λ (b : List Says). AllPass b ss) (append-nil before) h

-- all lines of a written board pass
pub board-passes : (net : Net) → IsWritable net → AllPass [] (board_says net)
board-passes net w =
    pass-append [] (first_five net net.pins) (End ∷ [])
    (pass-append [] (first_four net net.chips) (map (pin_says net) net.pins)
    (pass-append [] (first_three net net.nets) (map chip_says net.chips)
    (pass-append [] (first_two net net.nets) (filter_map pull_says net.nets)
    (record { first = refl; open_yet = refl; right = λ n. refl }, nets-pass net w [] net.nets refl)
    (from_nil (filter_map pull_says net.nets) (first_two net net.nets) (pulls-pass net w [] net.nets refl)))
    (from_nil (map chip_says net.chips) (first_three net net.nets) (chips-pass net w [] net.chips refl)))
    (from_nil (map (pin_says net) net.pins) (first_four net net.chips) (pins-pass net w [] net.pins refl tt (pins-wired net w))))
    (end-passes net, tt)
