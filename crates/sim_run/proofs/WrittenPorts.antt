-- The ports of a wiring have names that differ, so that a written `ports` line names each.
use Rattle.std.proofs.Common.{ℕ, ◌≡◌, ◌+◌, Bool, true, false, cond, not, ◌&&◌, ◌||◌, List, [], ◌∷◌, ◌++◌, map, Option, Some, None, refl, sym, ap, ◌∙◌, append_assoc}
use Rattle.std.specs.Prelude.{codes, is_none, is_some}
use Rattle.std.specs.List.{list_any, list_all, cons_option}
use Rattle.std.specs.Str.{bytes_eq}
use Rattle.std.proofs.lemmas.Bool.{and_parts, and_from, or_parts, or_from, not-true}
use Rattle.std.proofs.lemmas.List.{map-append}
use Rattle.mig_base.specs.declared.nets.Net.{Net}
use Rattle.mig_base.specs.declared.nets.NetLine.{NetLine}
use Rattle.mig_base.specs.Boards.{is_handed}
use Rattle.mig_base.specs.BoardText.{place_named}
use Rattle.mig_base.specs.First.{or_else, first_refusal}
use Rattle.mig_base.specs.Names.{is_name}
use Rattle.mig_base.specs.WrittenBoard.{are_distinct, IsWritable}
use Rattle.mig_base.proofs.Distinct.{bytes-equal, same-refl, distinct-before, distinct-behind}
use Rattle.text_lines.proofs.Places.{known-any}
use Rattle.sim_run.specs.declared.handed.HandedPort.{HandedPort}
use Rattle.mig_base.specs.declared.scripts.ScriptError.{ScriptError}
use Rattle.mig_base.specs.declared.scripts.ScriptError.TheVariants.{PortUnknown, PortTwice, PortLeft}
use Rattle.sim_run.specs.ScriptText.{ports_from, ports_of, names_on, refuse, name_refusal, left_refusal, names_refusal}
use Rattle.sim_run.specs.WrittenScript.{ports_line}

abbrev pub names_of : List HandedPort → List (List ℕ)
names_of ports = map (λ p. p.name) ports

-- names of ports that have their form, and differ
pub record AreNamed (ports : List HandedPort) : Type 0 where
  pub named : list_all (λ p. is_name p.name) ports ≡ true
  pub distinct : are_distinct bytes_eq (names_of ports) ≡ true

ports-named : (nets : List NetLine) (n : ℕ) → list_all (λ l. is_name l.name) nets ≡ true → list_all (λ p. is_name p.name) (ports_from n nets) ≡ true
ports-named [] n h = refl
ports-named (l ∷ nets) n h =
    let parts : (is_name l.name ≡ true) × (list_all (λ m. is_name m.name) nets ≡ true) = and_parts _ _ h in
    at (is_handed l.port) parts.0 (ports-named nets (n + 1) parts.1)
  where
    at : (t : Bool) → is_name l.name ≡ true → list_all (λ p. is_name p.name) (ports_from (n + 1) nets) ≡ true →
        list_all (λ p. is_name p.name) (cons_option (cond t (Some (record { name = l.name; port = l.port; net = n })) None) (ports_from (n + 1) nets)) ≡ true
    at true here rest = and_from _ _ here rest
    at false here rest = rest

ports-apart : (name : List ℕ) (nets : List NetLine) (n : ℕ) → list_any (bytes_eq name) (map (λ l. l.name) nets) ≡ false → list_any (bytes_eq name) (names_of (ports_from n nets)) ≡ false
ports-apart name [] n h = refl
ports-apart name (l ∷ nets) n h =
    let parts : (bytes_eq name l.name ≡ false) × (list_any (bytes_eq name) (map (λ m. m.name) nets) ≡ false) = or_parts _ _ h in
    at (is_handed l.port) parts.0 (ports-apart name nets (n + 1) parts.1)
  where
    at : (t : Bool) → bytes_eq name l.name ≡ false → list_any (bytes_eq name) (names_of (ports_from (n + 1) nets)) ≡ false →
        list_any (bytes_eq name) (names_of (cons_option (cond t (Some (record { name = l.name; port = l.port; net = n })) None) (ports_from (n + 1) nets))) ≡ false
    at true here rest = or_from _ _ here rest
    at false here rest = rest

ports-distinct : (nets : List NetLine) (n : ℕ) → are_distinct bytes_eq (map (λ l. l.name) nets) ≡ true → are_distinct bytes_eq (names_of (ports_from n nets)) ≡ true
ports-distinct [] n h = refl
ports-distinct (l ∷ nets) n h =
    let parts : (not (list_any (bytes_eq l.name) (map (λ m. m.name) nets)) ≡ true) × (are_distinct bytes_eq (map (λ m. m.name) nets) ≡ true) = and_parts _ _ h in
    at (is_handed l.port) (ports-apart l.name nets (n + 1) (not-true _ parts.0)) (ports-distinct nets (n + 1) parts.1)
  where
    at : (t : Bool) → list_any (bytes_eq l.name) (names_of (ports_from (n + 1) nets)) ≡ false → are_distinct bytes_eq (names_of (ports_from (n + 1) nets)) ≡ true →
        are_distinct bytes_eq (names_of (cons_option (cond t (Some (record { name = l.name; port = l.port; net = n })) None) (ports_from (n + 1) nets))) ≡ true
    at true here rest = and_from _ _ (ap not here) rest
    at false here rest = rest

pub net-named : (net : Net) → IsWritable net → AreNamed (ports_of net)
net-named net w = record {
  named = ports-named net.nets 2 w.named_nets;
  distinct = ports-distinct net.nets 2 (distinct-behind bytes_eq (codes "GND" ∷ codes "VCC" ∷ []) (map (λ l. l.name) net.nets) w.distinct_nets);
}

any-middle : (xs : List (List ℕ)) (name : List ℕ) (ys : List (List ℕ)) → list_any (bytes_eq name) (xs ++ name ∷ ys) ≡ true
any-middle [] name ys = ap (λ (t : Bool). t || list_any (bytes_eq name) ys) (same-refl bytes-equal name)
any-middle (x ∷ xs) name ys = at (bytes_eq name x) (any-middle xs name ys)
  where
    at : (t : Bool) → list_any (bytes_eq name) (xs ++ name ∷ ys) ≡ true → (t || list_any (bytes_eq name) (xs ++ name ∷ ys)) ≡ true
    at true h = refl
    at false h = h

names-any : (name : List ℕ) (ports : List HandedPort) → list_any (λ p. bytes_eq name p.name) ports ≡ list_any (bytes_eq name) (names_of ports)
names-any name [] = refl
names-any name (p ∷ ports) = ap (λ (t : Bool). bytes_eq name p.name || t) (names-any name ports)

names-split : (before : List HandedPort) (p : HandedPort) (rest : List HandedPort) → names_of (before ++ p ∷ rest) ≡ names_of before ++ p.name ∷ names_of rest
names-split before p rest = map-append (λ q. q.name) before (p ∷ rest)

-- no name of the line is refused
names-pass : (ports : List HandedPort) (n : ℕ) → are_distinct bytes_eq (names_of ports) ≡ true → (before rest : List HandedPort) → ports ≡ before ++ rest →
    first_refusal (name_refusal ports n) (names_of before) (names_of rest) ≡ None
names-pass ports n d before [] e = refl
names-pass ports n d before (p ∷ rest) e =
    let split : names_of ports ≡ names_of before ++ p.name ∷ names_of rest = ap names_of e ∙ names-split before p rest in
    let known : list_any (λ q. bytes_eq p.name q.name) ports ≡ true = names-any p.name ports ∙ ap (list_any (bytes_eq p.name)) split ∙ any-middle (names_of before) p.name (names_of rest) in
    let new : list_any (bytes_eq p.name) (names_of before) ≡ false = distinct-before bytes-equal (names_of before) p.name (names_of rest) (ap (are_distinct bytes_eq) (sym split) ∙ d) in
    ap (λ (t : Bool). or_else (or_else (refuse (not t) (PortUnknown n)) (refuse (list_any (bytes_eq p.name) (names_of before)) (PortTwice n))) later) known
    ∙ ap (λ (t : Bool). or_else (refuse t (PortTwice n)) later) new
    ∙ ap (λ (ns : List (List ℕ)). first_refusal (name_refusal ports n) ns (names_of rest)) (sym (names-split before p []))
    ∙ names-pass ports n d (before ++ p ∷ []) rest (e ∙ sym (append_assoc before (p ∷ []) rest))
  where
    later : Option ScriptError
    later = first_refusal (name_refusal ports n) (names_of before ++ p.name ∷ []) (names_of rest)

-- no port is left
none-left : (ports before rest : List HandedPort) → ports ≡ before ++ rest → left_refusal (names_of ports) rest ≡ None
none-left ports before [] e = refl
none-left ports before (p ∷ rest) e =
    let known : is_some (place_named p.name (names_of ports)) ≡ true =
    known-any p.name (names_of ports) ∙ ap (list_any (bytes_eq p.name)) (ap names_of e ∙ names-split before p rest) ∙ any-middle (names_of before) p.name (names_of rest) in
    ap (λ (t : Bool). or_else (refuse t (PortLeft p.net)) (left_refusal (names_of ports) rest)) (found (place_named p.name (names_of ports)) known)
    ∙ none-left ports (before ++ p ∷ []) rest (e ∙ sym (append_assoc before (p ∷ []) rest))
  where
    found : (o : Option ℕ) → is_some o ≡ true → is_none o ≡ false
    found None h = cc
    found (Some k) h = refl

all-names : (ports : List HandedPort) → list_all (λ p. is_name p.name) ports ≡ list_all is_name (names_of ports)
all-names [] = refl
all-names (p ∷ ports) = ap (λ (t : Bool). is_name p.name && t) (all-names ports)

-- the names of a written line, which nothing refuses
pub line-names : (ports : List HandedPort) → AreNamed ports → names_on (ports_line ports) ≡ Some (names_of ports)
line-names ports h = ap (λ (t : Bool). cond t (Some (names_of ports)) None) (sym (all-names ports) ∙ h.named)

pub line-passes : (ports : List HandedPort) → AreNamed ports → (n : ℕ) → names_refusal ports n (names_on (ports_line ports)) ≡ None
line-passes ports h n =
    ap (names_refusal ports n) (line-names ports h)
    ∙ ap (λ (o : Option ScriptError). or_else o (left_refusal (names_of ports) ports)) (names-pass ports n h.distinct [] ports refl) ∙ none-left ports [] ports refl
