-- What each wiring that a text gives keeps.
use Rattle.std.proofs.Common.{ℕ, ◌≡◌, ◌+◌, ◌<◌, ◌≤◌, Bool, true, false, cond, ◌&&◌, ◌||◌, List, [], ◌∷◌, ◌++◌, map, length, refl, sym, ap, ◌∙◌, subst, arith, Option, Some, None, length-append, append_assoc}
use Rattle.std.specs.Prelude.{not, nat_le, is_none, codes}
use Rattle.std.specs.List.{AllByRecursion, list_any, cons_option}
use Rattle.std.specs.Str.{bytes_eq}
use Rattle.std.specs.Option.{option_map}
use Rattle.std.proofs.lemmas.Bool.{or_parts, or_from, leb-false, or_left}
use Rattle.std.proofs.lemmas.List.{map-append, append-nil}
use Rattle.std.proofs.lemmas.List.Folds.{list_any-append}
use Rattle.std.proofs.lemmas.List.Elements.{filter_map-append}
use Rattle.mig_base.specs.declared.kinds.Kind.{Kind}
use Rattle.mig_base.specs.declared.nets.NetLine.{NetLine}
use Rattle.mig_base.specs.declared.nets.ChipLine.{ChipLine}
use Rattle.mig_base.specs.declared.nets.NetError.{NetError}
use Rattle.mig_base.specs.declared.nets.NetError.TheVariants.{Line, NetsOver, ChipsOver, NameTwice, NetUnknown, PullTwice, PullNet}
use Rattle.mig_base.specs.declared.nets.Pull.{Pull}
use Rattle.mig_base.specs.declared.nets.Pull.TheVariants as pull
use Rattle.mig_base.specs.First.{or_else, first_refusal}
use Rattle.mig_base.specs.BoardText.{Says, Head, NetOf, ChipOf, PinOf, PullOf, End, Wrong, SaidLine, all_said, is_first, is_head, ends, refuse, said_refusal, line_refusal, nets_in, net_names, chips_in, place_named, pulls, is_version, cant_pull, is_input_port, pull_on, pull_in, net_said, chip_said}
use Rattle.mig_base.specs.WrittenBoard.{are_distinct, is_pulled}
use Rattle.mig_base.proofs.Distinct.{bytes-equal, same-sym, same-is, distinct-append}

-- what lines keep that nothing refused
pub record Keeps (ss : List Says) : Type 0 where
  pub few_nets : length (nets_in ss) ≤ 1024
  pub few_chips : length (chips_in ss) ≤ 64
  pub distinct_nets : are_distinct bytes_eq (net_names (nets_in ss)) ≡ true
  pub distinct_chips : are_distinct bytes_eq (map (λ c. c.name) (chips_in ss)) ≡ true
  pub known : (name : List ℕ) → list_any (pulls name) ss ≡ true → list_any (bytes_eq name) (net_names (nets_in ss)) ≡ true
  pub pulled : AllByRecursion (λ l. (is_pulled (pull_in ss l.name) && is_input_port l.port) ≡ false) (nets_in ss)

none-refused : (b : Bool) (e : NetError) (o : Option NetError) → or_else (refuse b e) o ≡ None → (b ≡ false) × (o ≡ None)
none-refused true e o h = cc
none-refused false e o h = (refl, h)

last-refused : (b : Bool) (e : NetError) → refuse b e ≡ None → b ≡ false
last-refused true e h = cc
last-refused false e h = refl

snoc-distinct : (ns : List (List ℕ)) (n : List ℕ) → are_distinct bytes_eq ns ≡ true → list_any (bytes_eq n) ns ≡ false → are_distinct bytes_eq (ns ++ n ∷ []) ≡ true
snoc-distinct ns n h none = distinct-append bytes_eq ns (n ∷ []) h refl (apart ns none)
  where
    apart : (ms : List (List ℕ)) → list_any (bytes_eq n) ms ≡ false → AllByRecursion (λ m. list_any (bytes_eq m) (n ∷ []) ≡ false) ms
    apart [] k = tt
    apart (m ∷ ms) k = let parts : (bytes_eq n m ≡ false) × (list_any (bytes_eq n) ms ≡ false) = or_parts _ _ k in (or_from _ _ (same-sym bytes-equal m n ∙ parts.0) refl, apart ms parts.1)

nets-snoc : (b : List Says) (s : Says) → nets_in (b ++ s ∷ []) ≡ nets_in b ++ cons_option (net_said s) []
nets-snoc b s = filter_map-append net_said b (s ∷ [])

chips-snoc : (b : List Says) (s : Says) → chips_in (b ++ s ∷ []) ≡ chips_in b ++ cons_option (chip_said s) []
chips-snoc b s = filter_map-append chip_said b (s ∷ [])

pulls-snoc : (name : List ℕ) (b : List Says) (s : Says) → list_any (pulls name) (b ++ s ∷ []) ≡ (list_any (pulls name) b || (pulls name s || false))
pulls-snoc name b s = list_any-append (pulls name) b (s ∷ [])

-- the pull of a net behind one more line
pull-snoc : (name : List ℕ) (b : List Says) (s : Says) → pull_in (b ++ s ∷ []) name ≡ cond (list_any (pulls name) b) (pull_in b name) (cond (pulls name s) (pull_on s) pull.Free)
pull-snoc name [] s = refl
pull-snoc name (x ∷ b) s = at (pulls name x) (pull-snoc name b s)
  where
    at : (t : Bool) → pull_in (b ++ s ∷ []) name ≡ cond (list_any (pulls name) b) (pull_in b name) (cond (pulls name s) (pull_on s) pull.Free) →
        cond t (pull_on x) (pull_in (b ++ s ∷ []) name) ≡ cond (t || list_any (pulls name) b) (cond t (pull_on x) (pull_in b name)) (cond (pulls name s) (pull_on s) pull.Free)
    at true e = refl
    at false e = e

pub pull-free : (name : List ℕ) (b : List Says) → list_any (pulls name) b ≡ false → pull_in b name ≡ pull.Free
pull-free name [] h = refl
pull-free name (x ∷ b) h =
    let parts : (pulls name x ≡ false) × (list_any (pulls name) b ≡ false) = or_parts _ _ h in
    ap (λ (t : Bool). cond t (pull_on x) (pull_in b name)) parts.0 ∙ pull-free name b parts.1

-- a line that pulls nothing leaves the pulls
pull-same : (name : List ℕ) (b : List Says) (s : Says) → pulls name s ≡ false → pull_in (b ++ s ∷ []) name ≡ pull_in b name
pull-same name b s h = pull-snoc name b s ∙ ap (λ (t : Bool). cond (list_any (pulls name) b) (pull_in b name) (cond t (pull_on s) pull.Free)) h ∙ at (list_any (pulls name) b) refl
  where
    at : (t : Bool) → list_any (pulls name) b ≡ t → cond t (pull_in b name) pull.Free ≡ pull_in b name
    at true e = refl
    at false e = sym (pull-free name b e)

all-same : (b : List Says) (s : Says) → ((name : List ℕ) → pulls name s ≡ false) → (ls : List NetLine) → AllByRecursion (λ l. (is_pulled (pull_in b l.name) && is_input_port l.port) ≡ false) ls →
    AllByRecursion (λ l. (is_pulled (pull_in (b ++ s ∷ []) l.name) && is_input_port l.port) ≡ false) ls
all-same b s none [] h = tt
all-same b s none (l ∷ ls) h = (ap (λ (p : Pull). is_pulled p && is_input_port l.port) (pull-same l.name b s (none l.name)) ∙ h.0, all-same b s none ls h.1)

or-nothing : (a : Bool) → (a || (false || false)) ≡ a
or-nothing true = refl
or-nothing false = refl

-- a line that says no net, chip or pull
record IsIdle (s : Says) : Type 0 where
  net : net_said s ≡ None
  chip : chip_said s ≡ None
  pull : (name : List ℕ) → pulls name s ≡ false

idle-nets : (b : List Says) (s : Says) → net_said s ≡ None → nets_in (b ++ s ∷ []) ≡ nets_in b
idle-nets b s h = nets-snoc b s ∙ ap (λ (o : Option NetLine). nets_in b ++ cons_option o []) h ∙ append-nil (nets_in b)

idle-chips : (b : List Says) (s : Says) → chip_said s ≡ None → chips_in (b ++ s ∷ []) ≡ chips_in b
idle-chips b s h = chips-snoc b s ∙ ap (λ (o : Option ChipLine). chips_in b ++ cons_option o []) h ∙ append-nil (chips_in b)

idle-pulls : (b : List Says) (s : Says) (name : List ℕ) → pulls name s ≡ false → list_any (pulls name) (b ++ s ∷ []) ≡ list_any (pulls name) b
idle-pulls b s name h = pulls-snoc name b s ∙ ap (λ (t : Bool). list_any (pulls name) b || (t || false)) h ∙ or-nothing (list_any (pulls name) b)

keeps-idle : (b : List Says) (s : Says) → IsIdle s → Keeps b → Keeps (b ++ s ∷ [])
keeps-idle b s i k =
    let nets : nets_in (b ++ s ∷ []) ≡ nets_in b = idle-nets b s i.net in
    let chips : chips_in (b ++ s ∷ []) ≡ chips_in b = idle-chips b s i.chip in
    record {
      few_nets = let e : length (nets_in (b ++ s ∷ [])) ≡ length (nets_in b) = ap length nets in let f : length (nets_in b) ≤ 1024 = k.few_nets in omega arith;
      few_chips = let e : length (chips_in (b ++ s ∷ [])) ≡ length (chips_in b) = ap length chips in let f : length (chips_in b) ≤ 64 = k.few_chips in omega arith;
      distinct_nets = ap (λ (ls : List NetLine). are_distinct bytes_eq (net_names ls)) nets ∙ k.distinct_nets;
      distinct_chips = ap (λ (cs : List ChipLine). are_distinct bytes_eq (map (λ c. c.name) cs)) chips ∙ k.distinct_chips;
      known = λ name h. ap (λ (ls : List NetLine). list_any (bytes_eq name) (net_names ls)) nets ∙ k.known name (sym (idle-pulls b s name (i.pull name)) ∙ h);
      pulled = subst (λ (ls : List NetLine). AllByRecursion (λ l. (is_pulled (pull_in (b ++ s ∷ []) l.name) && is_input_port l.port) ≡ false) ls) (sym nets) (all-same b s i.pull (nets_in b) k.pulled);
    }

names-snoc : (ls : List NetLine) (l : NetLine) → net_names (ls ++ l ∷ []) ≡ net_names ls ++ l.name ∷ []
names-snoc ls l = ap (λ (ns : List (List ℕ)). codes "GND" ∷ codes "VCC" ∷ ns) (map-append (λ m. m.name) ls (l ∷ []))

all-snoc : {T : Type 0} (P : T → Type 0) (xs : List T) (x : T) → AllByRecursion P xs → P x → AllByRecursion P (xs ++ x ∷ [])
all-snoc P [] x h k = (k, tt)
all-snoc P (y ∷ xs) x h k = (h.0, all-snoc P xs x h.1 k)

or-last : (a b : Bool) → b ≡ true → (a || (b || false)) ≡ true
or-last true b h = refl
or-last false true h = refl
or-last false false h = cc

keeps-net : (n : ℕ) (b : List Says) (name : List ℕ) (dir : _) → said_refusal n b (NetOf name dir) ≡ None → Keeps b → Keeps (b ++ NetOf name dir ∷ [])
keeps-net n b name dir h k =
    let s : Says = NetOf name dir in
    let l : NetLine = record { name = name; port = dir; pull = pull.Free } in
    let nets : nets_in (b ++ s ∷ []) ≡ nets_in b ++ l ∷ [] = nets-snoc b s in
    let chips : chips_in (b ++ s ∷ []) ≡ chips_in b = idle-chips b s refl in
    let parts : (nat_le 1024 (length (nets_in b)) ≡ false) × (refuse (list_any (bytes_eq name) (net_names (nets_in b))) (NameTwice n) ≡ None) = none-refused _ (NetsOver n) _ h in
    let new : list_any (bytes_eq name) (net_names (nets_in b)) ≡ false = last-refused _ (NameTwice n) parts.1 in
    let unpulled : list_any (pulls name) b ≡ false = at (list_any (pulls name) b) refl new in
    record {
      few_nets =
          let e : length (nets_in (b ++ s ∷ [])) ≡ length (nets_in b) + 1 = ap length nets ∙ length-append (nets_in b) (l ∷ []) in
          let f : length (nets_in b) < 1024 = leb-false 1024 (length (nets_in b)) parts.0 in omega arith;
      few_chips = let e : length (chips_in (b ++ s ∷ [])) ≡ length (chips_in b) = ap length chips in let f : length (chips_in b) ≤ 64 = k.few_chips in omega arith;
      distinct_nets = ap (λ (ls : List NetLine). are_distinct bytes_eq (net_names ls)) nets ∙ ap (are_distinct bytes_eq) (names-snoc (nets_in b) l) ∙ snoc-distinct (net_names (nets_in b)) name k.distinct_nets new;
      distinct_chips = ap (λ (cs : List ChipLine). are_distinct bytes_eq (map (λ c. c.name) cs)) chips ∙ k.distinct_chips;
      known = λ m j.
          ap (λ (ls : List NetLine). list_any (bytes_eq m) (net_names ls)) nets ∙ ap (list_any (bytes_eq m)) (names-snoc (nets_in b) l) ∙ list_any-append (bytes_eq m) (net_names (nets_in b)) (name ∷ [])
          ∙ or_left _ _ (k.known m (sym (idle-pulls b s m refl) ∙ j));
      pulled = subst (λ (ls : List NetLine). AllByRecursion (λ x. (is_pulled (pull_in (b ++ s ∷ []) x.name) && is_input_port x.port) ≡ false) ls) (sym nets)
          (all-snoc (λ x. (is_pulled (pull_in (b ++ s ∷ []) x.name) && is_input_port x.port) ≡ false) (nets_in b) l (all-same b s (λ m. refl) (nets_in b) k.pulled)
          (ap (λ (p : Pull). is_pulled p && is_input_port dir) (pull-same name b s refl ∙ pull-free name b unpulled)));
    }
  where
    at : (t : Bool) → list_any (pulls name) b ≡ t → list_any (bytes_eq name) (net_names (nets_in b)) ≡ false → t ≡ false
    at true e new = let yes : true ≡ false = sym (k.known name e) ∙ new in yes
    at false e new = refl

keeps-chip : (n : ℕ) (b : List Says) (name : List ℕ) (kind : Option Kind) → said_refusal n b (ChipOf name kind) ≡ None → Keeps b → Keeps (b ++ ChipOf name kind ∷ [])
keeps-chip n b name None h k = keeps-idle b (ChipOf name None) (record { net = refl; chip = refl; pull = λ m. refl }) k
keeps-chip n b name (Some kind) h k =
    let s : Says = ChipOf name (Some kind) in
    let c : ChipLine = record { name = name; kind = kind } in
    let nets : nets_in (b ++ s ∷ []) ≡ nets_in b = idle-nets b s refl in
    let chips : chips_in (b ++ s ∷ []) ≡ chips_in b ++ c ∷ [] = chips-snoc b s in
    let parts : (nat_le 64 (length (chips_in b)) ≡ false) × (refuse (list_any (λ d. bytes_eq name d.name) (chips_in b)) (NameTwice n) ≡ None) = none-refused _ (ChipsOver n) _ h in
    let new : list_any (bytes_eq name) (map (λ d. d.name) (chips_in b)) ≡ false = sym (any-named (chips_in b)) ∙ last-refused _ (NameTwice n) parts.1 in
    record {
      few_nets = let e : length (nets_in (b ++ s ∷ [])) ≡ length (nets_in b) = ap length nets in let f : length (nets_in b) ≤ 1024 = k.few_nets in omega arith;
      few_chips =
          let e : length (chips_in (b ++ s ∷ [])) ≡ length (chips_in b) + 1 = ap length chips ∙ length-append (chips_in b) (c ∷ []) in
          let f : length (chips_in b) < 64 = leb-false 64 (length (chips_in b)) parts.0 in omega arith;
      distinct_nets = ap (λ (ls : List NetLine). are_distinct bytes_eq (net_names ls)) nets ∙ k.distinct_nets;
      distinct_chips = ap (λ (cs : List ChipLine). are_distinct bytes_eq (map (λ d. d.name) cs)) chips ∙ ap (are_distinct bytes_eq) (map-append (λ d. d.name) (chips_in b) (c ∷ []))
          ∙ snoc-distinct (map (λ d. d.name) (chips_in b)) name k.distinct_chips new;
      known = λ m j. ap (λ (ls : List NetLine). list_any (bytes_eq m) (net_names ls)) nets ∙ k.known m (sym (idle-pulls b s m refl) ∙ j);
      pulled = subst (λ (ls : List NetLine). AllByRecursion (λ l. (is_pulled (pull_in (b ++ s ∷ []) l.name) && is_input_port l.port) ≡ false) ls) (sym nets) (all-same b s (λ m. refl) (nets_in b) k.pulled);
    }
  where
    any-named : (cs : List ChipLine) → list_any (λ d. bytes_eq name d.name) cs ≡ list_any (bytes_eq name) (map (λ d. d.name) cs)
    any-named [] = refl
    any-named (d ∷ cs) = ap (λ (t : Bool). bytes_eq name d.name || t) (any-named cs)

named-known : (name : List ℕ) (names : List (List ℕ)) → is_none (place_named name names) ≡ false → list_any (bytes_eq name) names ≡ true
named-known name [] h = cc
named-known name (n ∷ names) h = at (bytes_eq name n) h (named-known name names)
  where
    some : (o : Option ℕ) → is_none (option_map (λ j. j + 1) o) ≡ false → is_none o ≡ false
    some None e = e
    some (Some j) e = refl

    at : (t : Bool) → is_none (cond t (Some 0) (option_map (λ j. j + 1) (place_named name names))) ≡ false → (is_none (place_named name names) ≡ false → list_any (bytes_eq name) names ≡ true) → (t || list_any (bytes_eq name) names) ≡ true
    at true e rest = refl
    at false e rest = rest (some (place_named name names) e)

keeps-pull : (n : ℕ) (b : List Says) (net : List ℕ) (dir : Pull) → said_refusal n b (PullOf net dir) ≡ None → Keeps b → Keeps (b ++ PullOf net dir ∷ [])
keeps-pull n b net dir h k =
    let s : Says = PullOf net dir in
    let nets : nets_in (b ++ s ∷ []) ≡ nets_in b = idle-nets b s refl in
    let chips : chips_in (b ++ s ∷ []) ≡ chips_in b = idle-chips b s refl in
    let one = none-refused (list_any (is_version 1) b) (Line n) _ h in
    let two = none-refused (is_none (place_named net (net_names (nets_in b)))) (NetUnknown n) _ one.1 in
    let three = none-refused (list_any (pulls net) b) (PullTwice n) _ two.1 in
    let free : cant_pull (nets_in b) net ≡ false = last-refused _ (PullNet n) three.1 in
    let apart : list_any (λ l. bytes_eq net l.name && is_input_port l.port) (nets_in b) ≡ false = (or_parts (bytes_eq net (codes "GND") || bytes_eq net (codes "VCC")) _ free).1 in
    record {
      few_nets = let e : length (nets_in (b ++ s ∷ [])) ≡ length (nets_in b) = ap length nets in let f : length (nets_in b) ≤ 1024 = k.few_nets in omega arith;
      few_chips = let e : length (chips_in (b ++ s ∷ [])) ≡ length (chips_in b) = ap length chips in let f : length (chips_in b) ≤ 64 = k.few_chips in omega arith;
      distinct_nets = ap (λ (ls : List NetLine). are_distinct bytes_eq (net_names ls)) nets ∙ k.distinct_nets;
      distinct_chips = ap (λ (cs : List ChipLine). are_distinct bytes_eq (map (λ c. c.name) cs)) chips ∙ k.distinct_chips;
      known = λ m j. ap (λ (ls : List NetLine). list_any (bytes_eq m) (net_names ls)) nets ∙ from m (sym (pulls-snoc m b s) ∙ j) (named-known net (net_names (nets_in b)) two.0);
      pulled = subst (λ (ls : List NetLine). AllByRecursion (λ l. (is_pulled (pull_in (b ++ s ∷ []) l.name) && is_input_port l.port) ≡ false) ls) (sym nets) (each (nets_in b) k.pulled apart);
    }
  where
    from : (m : List ℕ) → (list_any (pulls m) b || (bytes_eq m net || false)) ≡ true → list_any (bytes_eq net) (net_names (nets_in b)) ≡ true → list_any (bytes_eq m) (net_names (nets_in b)) ≡ true
    from m j known = at (list_any (pulls m) b) (bytes_eq m net) refl refl j
      where
        at : (p q : Bool) → list_any (pulls m) b ≡ p → bytes_eq m net ≡ q → (p || (q || false)) ≡ true → list_any (bytes_eq m) (net_names (nets_in b)) ≡ true
        at true q a c d = k.known m a
        at false true a c d = ap (λ (x : List ℕ). list_any (bytes_eq x) (net_names (nets_in b))) (same-is bytes-equal m net c) ∙ known
        at false false a c d = cc

    one-line : (l : NetLine) → (is_pulled (pull_in b l.name) && is_input_port l.port) ≡ false → (bytes_eq net l.name && is_input_port l.port) ≡ false →
        (is_pulled (pull_in (b ++ PullOf net dir ∷ []) l.name) && is_input_port l.port) ≡ false
    one-line l old new = ap (λ (p : Pull). is_pulled p && is_input_port l.port) (pull-snoc l.name b (PullOf net dir)) ∙ at (list_any (pulls l.name) b) (bytes_eq l.name net) refl
      where
        at : (p q : Bool) → bytes_eq l.name net ≡ q → (is_pulled (cond p (pull_in b l.name) (cond q dir pull.Free)) && is_input_port l.port) ≡ false
        at true q e = old
        at false true e = both (is_pulled dir) (sym (ap (λ (t : Bool). t && is_input_port l.port) (same-sym bytes-equal net l.name ∙ e)) ∙ new)
          where
            both : (t : Bool) → is_input_port l.port ≡ false → (t && is_input_port l.port) ≡ false
            both true x = x
            both false x = refl
        at false false e = refl

    each : (ls : List NetLine) → AllByRecursion (λ l. (is_pulled (pull_in b l.name) && is_input_port l.port) ≡ false) ls → list_any (λ l. bytes_eq net l.name && is_input_port l.port) ls ≡ false →
        AllByRecursion (λ l. (is_pulled (pull_in (b ++ PullOf net dir ∷ []) l.name) && is_input_port l.port) ≡ false) ls
    each [] old new = tt
    each (l ∷ ls) old new =
        let parts : ((bytes_eq net l.name && is_input_port l.port) ≡ false) × (list_any (λ x. bytes_eq net x.name && is_input_port x.port) ls ≡ false) = or_parts _ _ new in
        (one-line l old.0 parts.0, each ls old.1 parts.1)

keeps-more : (n : ℕ) (b : List Says) (s : Says) → said_refusal n b s ≡ None → Keeps b → Keeps (b ++ s ∷ [])
keeps-more n b Wrong h k = absurd (let no : ⊥ = cc in no)
keeps-more n b (Head version) h k = keeps-idle b (Head version) (record { net = refl; chip = refl; pull = λ m. refl }) k
keeps-more n b End h k = keeps-idle b End (record { net = refl; chip = refl; pull = λ m. refl }) k
keeps-more n b (PinOf c p net) h k = keeps-idle b (PinOf c p net) (record { net = refl; chip = refl; pull = λ m. refl }) k
keeps-more n b (NetOf name dir) h k = keeps-net n b name dir h k
keeps-more n b (ChipOf name kind) h k = keeps-chip n b name kind h k
keeps-more n b (PullOf net dir) h k = keeps-pull n b net dir h k

keeps-none : Keeps []
keeps-none = record { few_nets = omega arith; few_chips = omega arith; distinct_nets = refl; distinct_chips = refl; known = λ name h. cc; pulled = tt }

keeps-from : (before ls : List SaidLine) → Keeps (all_said before) → first_refusal line_refusal before ls ≡ None → Keeps (all_said (before ++ ls))
keeps-from before [] k h = subst (λ (ls : List SaidLine). Keeps (all_said ls)) (sym (append-nil before)) k
keeps-from before (l ∷ ls) k h =
    let one : (line_refusal before l ≡ None) × (first_refusal line_refusal (before ++ l ∷ []) ls ≡ None) = split (line_refusal before l) _ h in
    let two = none-refused (is_first before && not (is_head l.said)) (Line l.n) _ one.0 in
    let three = none-refused (list_any (λ b. ends b.said) before) (Line l.n) _ two.1 in
    subst (λ (xs : List SaidLine). Keeps (all_said xs)) (append_assoc before (l ∷ []) ls)
    (keeps-from (before ++ l ∷ []) ls (subst Keeps (sym (map-append (λ x. x.said) before (l ∷ []))) (keeps-more l.n (all_said before) l.said three.1 k)) one.1)
  where
    split : (a b : Option NetError) → or_else a b ≡ None → (a ≡ None) × (b ≡ None)
    split None b e = (refl, e)
    split (Some x) b e = cc

-- what lines keep that nothing refuses
pub lines-keep : (ls : List SaidLine) → first_refusal line_refusal [] ls ≡ None → Keeps (all_said ls)
lines-keep ls h = keeps-from [] ls keeps-none h
