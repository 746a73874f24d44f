-- Ports that are found among nets, and the first one that isn't.
use Rattle.std.proofs.Common.{ℕ, ◌≡◌, ◌+◌, ◌<◌, ◌≤◌, Bool, true, false, List, [], ◌∷◌, ◌++◌, map, filter, length, take, drop, get_or, Option, Some, None, refl, sym, ap, ◌∙◌, subst, inl, inr}
use Rattle.std.specs.Prelude.{not, ◌&&◌, ◌||◌, if◌then◌else◌}
use Rattle.std.specs.List.{AllByRecursion, list_any}
use Rattle.std.specs.Str.{bytes_eq}
use Rattle.std.proofs.lemmas.Bool.{and_parts}
use Rattle.std.proofs.lemmas.List.{drop_more, take_all, take_more, take-append-drop}
use Rattle.mig_base.specs.declared.nets.Net.{Net}
use Rattle.mig_base.specs.declared.nets.NetLine.{NetLine}
use Rattle.mig_base.specs.declared.nets.Port.{Port}
use Rattle.mig_base.specs.declared.nets.Port.TheVariants.{Inner, Input, Output, Both}
use Rattle.mig_base.specs.Among.{Among}
use Rattle.mig_base.specs.Boards.{is_port, is_port_kind}
use Rattle.mig_base.proofs.Distinct.{bytes-equal, same-is, same-refl}
use Rattle.level_laws.specs.SameBehaviour.{HasPort}
use Rattle.ports.specs.Lacking.{HasPortsOf, IsDifference, IsFirstLacking, Lacks, directed, is_lacking, is_same_direction, is_same_port}

abbrev Sign : Type 0
Sign = List ℕ × Port

abbrev sign : NetLine → Sign
sign l = (l.name, l.port)

direction-is : (p q : Port) → is_same_direction p q ≡ true → p ≡ q
direction-is Inner Inner e = refl
direction-is Inner Input e = cc
direction-is Inner Output e = cc
direction-is Inner Both e = cc
direction-is Input Inner e = cc
direction-is Input Input e = refl
direction-is Input Output e = cc
direction-is Input Both e = cc
direction-is Output Inner e = cc
direction-is Output Input e = cc
direction-is Output Output e = refl
direction-is Output Both e = cc
direction-is Both Inner e = cc
direction-is Both Input e = cc
direction-is Both Output e = cc
direction-is Both Both e = refl

direction-self : (p : Port) → is_same_direction p p ≡ true
direction-self Inner = refl
direction-self Input = refl
direction-self Output = refl
direction-self Both = refl

port-is : (l k : NetLine) → is_same_port l k ≡ true → sign l ≡ sign k
port-is l k e =
    let parts = and_parts (is_same_direction l.port k.port) (bytes_eq l.name k.name) e in
    let name : l.name ≡ k.name = same-is bytes-equal l.name k.name parts.1 in
    let dir : l.port ≡ k.port = direction-is l.port k.port parts.0 in
    (λ i. (name i, dir i))

port-same : (l k : NetLine) → sign l ≡ sign k → is_same_port l k ≡ true
port-same l k e =
    let name : l.name ≡ k.name = ap (λ (s : Sign). s.0) e in
    let dir : l.port ≡ k.port = ap (λ (s : Sign). s.1) e in
    subst (λ (n : List ℕ). (is_same_direction l.port k.port && bytes_eq l.name n) ≡ true) name
    (subst (λ (d : Port). (is_same_direction l.port d && bytes_eq l.name l.name) ≡ true) dir
    (ap (λ (b : Bool). b && bytes_eq l.name l.name) (direction-self l.port) ∙ same-refl bytes-equal l.name))

-- a port that is found among nets is one of their ports
pub found : (l : NetLine) (ks : List NetLine) → is_port l ≡ true → list_any (is_same_port l) ks ≡ true → Among {T = Sign} (sign l) (directed ks)
found l [] port e = cc
found l (k ∷ ks) port e = at (λ h. found l ks port h) (is_same_port l k) refl e
  where
    skip : (b : Bool) → Among {T = Sign} (sign l) (directed ks) → Among {T = Sign} (sign l) (map sign (if b then k ∷ filter is_port ks else filter is_port ks))
    skip true h = inr h
    skip false h = h

    at : (list_any (is_same_port l) ks ≡ true → Among {T = Sign} (sign l) (directed ks)) → (b : Bool) → is_same_port l k ≡ b → (b || list_any (is_same_port l) ks) ≡ true → Among {T = Sign} (sign l) (directed (k ∷ ks))
    at rest true same h =
        let eq = port-is l k same in
        let yes : is_port k ≡ true = sym (ap (λ (s : Sign). is_port_kind s.1) eq) ∙ port in
        subst (λ (b : Bool). Among {T = Sign} (sign l) (map sign (if b then k ∷ filter is_port ks else filter is_port ks))) (sym yes) (inl eq)
    at rest false same h = skip (is_port k) (rest h)

-- one of their ports is found
pub finds : (l : NetLine) (ks : List NetLine) → Among {T = Sign} (sign l) (directed ks) → list_any (is_same_port l) ks ≡ true
finds l [] among = absurd among
finds l (k ∷ ks) among = at (λ h. finds l ks h) (is_port k) among
  where
    later : (b : Bool) → list_any (is_same_port l) ks ≡ true → (b || list_any (is_same_port l) ks) ≡ true
    later true e = refl
    later false e = e

    here : sign l ≡ sign k → (is_same_port l k || list_any (is_same_port l) ks) ≡ true
    here e = ap (λ (b : Bool). b || list_any (is_same_port l) ks) (port-same l k e)

    at : (Among {T = Sign} (sign l) (directed ks) → list_any (is_same_port l) ks ≡ true) → (b : Bool) → Among {T = Sign} (sign l) (map sign (if b then k ∷ filter is_port ks else filter is_port ks)) → (is_same_port l k || list_any (is_same_port l) ks) ≡ true
    at on true (inl e) = here e
    at on true (inr rest) = later (is_same_port l k) (on rest)
    at on false rest = later (is_same_port l k) (on rest)

abbrev Held : Net → List Sign → Type 0
Held other signs = AllByRecursion (λ p. HasPort other p.0 p.1) signs

directed-append : (ls ks : List NetLine) → directed (ls ++ ks) ≡ directed ls ++ directed ks
directed-append [] ks = refl
directed-append (l ∷ ls) ks = at (directed-append ls ks) (is_port l)
  where
    at : directed (ls ++ ks) ≡ directed ls ++ directed ks → (b : Bool) → map sign (if b then l ∷ filter is_port (ls ++ ks) else filter is_port (ls ++ ks)) ≡ map sign (if b then l ∷ filter is_port ls else filter is_port ls) ++ directed ks
    at e true = ap (λ (s : List Sign). sign l ∷ s) e
    at e false = e

held-append : (other : Net) (ss ts : List Sign) → Held other ss → Held other ts → Held other (ss ++ ts)
held-append other [] ts h k = k
held-append other (s ∷ ss) ts h k = (h.0, held-append other ss ts h.1 k)

held-one : (other : Net) (l : NetLine) → is_lacking other.nets l ≡ false → Held other (directed (l ∷ []))
held-one other l e = at (is_port l) refl e
  where
    at : (b : Bool) → is_port l ≡ b → (b && not (list_any (is_same_port l) other.nets)) ≡ false → Held other (map sign (if b then l ∷ [] else []))
    at true port h = (found l other.nets port (not-false (list_any (is_same_port l) other.nets) h), tt)
      where
        not-false : (b : Bool) → not b ≡ false → b ≡ true
        not-false true e = refl
        not-false false e = cc
    at false port h = tt

-- one more net that isn't lacking
pub held-more : (other : Net) (ls : List NetLine) (i : ℕ) (d l : NetLine) → i < length ls → l ≡ get_or ls i d → is_lacking other.nets l ≡ false →
    Held other (directed (take i ls)) → Held other (directed (take (i + 1) ls))
held-more other ls i d l lt is e h =
    subst (λ (s : List Sign). Held other s) (sym (ap directed (take_more ls i d lt ∙ ap (λ (k : NetLine). take i ls ++ k ∷ []) (sym is)) ∙ directed-append (take i ls) (l ∷ [])))
    (held-append other (directed (take i ls)) (directed (l ∷ [])) h (held-one other l e))

held-all : (other : Net) (ss : List Sign) → Held other ss → (name : List ℕ) (dir : Port) → Among {T = Sign} (name, dir) ss → HasPort other name dir
held-all other [] h name dir among = absurd among
held-all other (s ∷ ss) h name dir (inl e) = subst (λ (p : Sign). HasPort other p.0 p.1) (sym e) h.0
held-all other (s ∷ ss) h name dir (inr among) = held-all other ss h.1 name dir among

-- at the end all are there
pub held-end : (of other : Net) (nets : List NetLine) (i : ℕ) → nets ≡ of.nets → length nets ≤ i → Held other (directed (take i nets)) → HasPortsOf other of
held-end of other nets i is e h = held-all other (directed of.nets) (subst (λ (ls : List NetLine). Held other (directed ls)) (take_all i nets e ∙ is) h)

-- the first one that is lacking
pub lacks-here : (of other : Net) (nets : List NetLine) (i : ℕ) (d l : NetLine) → nets ≡ of.nets → i < length nets → l ≡ get_or nets i d → is_lacking other.nets l ≡ true →
    Held other (directed (take i nets)) → Lacks of other l.name
lacks-here of other nets i d l same lt is e h = record {
  dir = l.port;
  before = directed (take i nets);
  behind = directed (drop (i + 1) nets);
  split =
      ap directed (sym same) ∙ ap directed (sym (take-append-drop i nets) ∙ ap (λ (rest : List NetLine). take i nets ++ rest) (drop_more nets i d lt ∙ ap (λ (k : NetLine). k ∷ drop (i + 1) nets) (sym is)))
      ∙ directed-append (take i nets) (l ∷ drop (i + 1) nets)
      ∙ ap (λ (s : List Sign). directed (take i nets) ++ s) (ported (is_port l) parts.0);
  earlier = h;
  lacking = λ among. apart (sym (finds l other.nets among) ∙ not-true (list_any (is_same_port l) other.nets) parts.1);
}
  where
    parts : (is_port l ≡ true) × (not (list_any (is_same_port l) other.nets) ≡ true)
    parts = and_parts (is_port l) (not (list_any (is_same_port l) other.nets)) e

    ported : (b : Bool) → b ≡ true → map sign (if b then l ∷ filter is_port (drop (i + 1) nets) else filter is_port (drop (i + 1) nets)) ≡ sign l ∷ directed (drop (i + 1) nets)
    ported true p = refl
    ported false p = cc

    not-true : (b : Bool) → not b ≡ true → b ≡ false
    not-true true p = cc
    not-true false p = refl

    apart : true ≡ false → ⊥
    apart p = cc

-- where the first wiring's ports are all there, the answer is the second's
pub difference : (a b : Net) (first second : Option (List ℕ)) → IsFirstLacking a b first → IsFirstLacking b a second → ((name : List ℕ) → first ≡ Some name → ⊥) → IsDifference a b second
difference a b (Some name) second h k none = absurd (none name refl)
difference a b None None h k none = record { left = h; right = k }
difference a b None (Some name) h k none = inr (h, k)

-- the same of wirings that are lent
pub difference-lent : (a b l r : Net) (first second : Option (List ℕ)) → l ≡ a → r ≡ b → IsFirstLacking l r first → IsFirstLacking r l second →
    ((name : List ℕ) → first ≡ Some name → ⊥) → IsDifference a b second
difference-lent a b l r first second is_a is_b h k none =
    let left : IsFirstLacking a b first = subst (λ (n : Net). IsFirstLacking n b first) is_a (subst (λ (n : Net). IsFirstLacking l n first) is_b h) in
    let right : IsFirstLacking b a second = subst (λ (n : Net). IsFirstLacking n a second) is_b (subst (λ (n : Net). IsFirstLacking r n second) is_a k) in
    difference a b first second left right none
