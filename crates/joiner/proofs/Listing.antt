-- All variables of a board, and those of them that pass a test, in order.
use Rattle.std.proofs.Common.{ℕ, zero, suc, ◌≡◌, ◌⊎◌, ◌<◌, ◌≤◌, ◌+◌, Bool, true, false, cond, List, [], ◌∷◌, ◌++◌, length, map, filter, refl, sym, ap, ◌∙◌, subst, inl, inr, arith}
use Rattle.std.proofs.Math.ListN.{get_or}
use Rattle.std.proofs.lemmas.List.{append_assoc, append-nil}
use Rattle.std.proofs.lemmas.List.Elements.{filter-append}
use Rattle.std.proofs.lemmas.List.Kept.{AllPairs-cons}
use Rattle.mig_base.specs.Among.{Among}
use Rattle.mig_base.specs.Boards.{is_registered, places_from, units_from}
use Rattle.mig_base.specs.First.{made_from}
use Rattle.mig_base.specs.declared.circuit.Read.TheVariants.{OfRegister}
use Rattle.mig_base.specs.declared.nets.Var.{Var}
use Rattle.mig_base.specs.declared.nets.Var.TheVariants.{Net, Reg}
use Rattle.mig_base.proofs.Amongs.{among-filter, among-left, among-right, among-split, made-among, map-among, among-map}
use Rattle.rails.specs.Variables.{IsBefore, AreRising}
use Rattle.structure.proofs.NeededNodes.{among-at}
use Rattle.board.specs.Joined.{Joined, equations_of}
use Rattle.board.specs.UnitLists.{register_units}
use Rattle.board.specs.Variables.{IsVariable, register_place}
use Rattle.board.proofs.ListSteps.{made-push}
use Rattle.board.proofs.BoardLaws.{read-back, read-node, register-units-long, var-variable}
use Rattle.joiner.specs.Marked.{all_vars}

-- each stands before all that follow
abbrev pub Rises : List Var → Type 0
Rises [] = Unit {0}
Rises (v ∷ vs) = ((w : Var) → Among w vs → IsBefore v w) × Rises vs

pub rises-filter : (p : Var → Bool) (vs : List Var) → Rises vs → Rises (filter p vs)
rises-filter p [] h = tt
rises-filter p (v ∷ vs) h = at (p v) (rises-filter p vs h.1)
  where
    at : (q : Bool) → Rises (filter p vs) → Rises (cond q (v ∷ filter p vs) (filter p vs))
    at true rest = (λ w a. h.0 w (among-filter p w vs a).1, rest)
    at false rest = rest

rises-append : (vs ws : List Var) → Rises vs → Rises ws → ((v w : Var) → Among v vs → Among w ws → IsBefore v w) → Rises (vs ++ ws)
rises-append [] ws hv hw across = hw
rises-append (v ∷ vs) ws hv hw across = (first, rises-append vs ws hv.1 hw (λ x y a b. across x y (inr a) b))
  where
    first : (w : Var) → Among w (vs ++ ws) → IsBefore v w
    first w a = at (among-split w vs ws a)
      where
        at : Among w vs ⊎ Among w ws → IsBefore v w
        at (inl b) = hv.0 w b
        at (inr b) = across v w (inl refl) b

net-made : (v : Var) (first n : ℕ) → Among v (made_from Net first n) → (m : ℕ) × (v ≡ Net m) × (first ≤ m) × (m < first + n)
net-made v first zero a = absurd a
net-made v first (suc n) (inl e) = (first, e, omega arith, omega arith)
net-made v first (suc n) (inr a) = let h : (m : ℕ) × (v ≡ Net m) × (first + 1 ≤ m) × (m < first + 1 + n) = net-made v (first + 1) n a in
    (h.0, h.1, omega (arith, h.2), omega (arith, h.3))

nets-rise : (first n : ℕ) → Rises (made_from Net first n)
nets-rise first zero = tt
nets-rise first (suc n) = (later, nets-rise (first + 1) n)
  where
    later : (w : Var) → Among w (made_from Net (first + 1) n) → IsBefore (Net first) w
    later w a =
        let h = net-made w (first + 1) n a in
        let low : first + 1 ≤ h.0 = h.2 in
        let before : first < h.0 = omega arith in
        subst (IsBefore (Net first)) (sym h.1) before

places-above : {T : Type 0} (test : T → Bool) (i : ℕ) (xs : List T) (u : ℕ) → Among u (places_from test i xs) → i ≤ u
places-above test i [] u a = absurd a
places-above {T} test i (x ∷ xs) u a = at (test x) a (places-above test (i + 1) xs u)
  where
    at : (q : Bool) → Among u (cond q (i ∷ []) [] ++ places_from test (i + 1) xs) → (Among u (places_from test (i + 1) xs) → i + 1 ≤ u) → i ≤ u
    at true (inl e) rest = omega (arith, e)
    at true (inr b) rest = let h = rest b in omega arith
    at false b rest = let h = rest b in omega arith

registers-rise : {T : Type 0} (test : T → Bool) (i : ℕ) (xs : List T) → Rises (map Reg (places_from test i xs))
registers-rise test i [] = tt
registers-rise {T} test i (x ∷ xs) = at (test x) (registers-rise test (i + 1) xs)
  where
    later : (w : Var) → Among w (map Reg (places_from test (i + 1) xs)) → IsBefore (Reg i) w
    later w a =
        let u = among-map Reg w (places_from test (i + 1) xs) a in
        let low : i + 1 ≤ u.0 = places-above test (i + 1) xs u.0 u.1 in
        let before : i < u.0 = omega arith in
        subst (IsBefore (Reg i)) (sym u.2) before

    at : (q : Bool) → Rises (map Reg (places_from test (i + 1) xs)) → Rises (map Reg (cond q (i ∷ []) [] ++ places_from test (i + 1) xs))
    at true rest = (later, rest)
    at false rest = rest

pub variables-rise : (b : Joined) → Rises (all_vars b)
variables-rise b =
    rises-append (made_from Net 0 (length (equations_of b).nets)) (map Reg (register_units b.chips)) (nets-rise 0 (length (equations_of b).nets)) (registers-rise is_registered 0 (units_from 0 b.chips)) across
  where
    across : (v w : Var) → Among v (made_from Net 0 (length (equations_of b).nets)) → Among w (map Reg (register_units b.chips)) → IsBefore v w
    across v w a c =
        let n = net-made v 0 (length (equations_of b).nets) a in
        let u = among-map Reg w (register_units b.chips) c in
        subst (λ (x : Var). IsBefore x w) (sym n.1) (subst (λ (y : Var). IsBefore (Net n.0) y) (sym u.2) tt)

-- an item by its place
among-place : (u : ℕ) (xs : List ℕ) → Among u xs → (k : ℕ) × (k < length xs) × (u ≡ get_or xs k 0)
among-place u [] a = absurd a
among-place u (x ∷ xs) (inl e) = (0, omega arith, e)
among-place u (x ∷ xs) (inr a) = let h = among-place u xs a in let within : h.0 < length xs = h.1 in (suc h.0, omega arith, h.2)

-- they are all of them
pub variable-among : (b : Joined) (v : Var) → IsVariable b v → Among v (all_vars b)
variable-among b (Net n) h =
    among-left (Net n) (made_from Net 0 (length (equations_of b).nets)) (map Reg (register_units b.chips)) (made-among Net n 0 (length (equations_of b).nets) (omega arith) (omega (arith, h)))
variable-among b (Reg u) h =
    let k : ℕ = register_place b.chips u in
    let within : k < length (equations_of b).registers = read-node b (Reg u) h in
    let long : length (register_units b.chips) ≡ length (equations_of b).registers = register-units-long b.net b.chips in
    let named : Reg (get_or (register_units b.chips) k 0) ≡ Reg u = read-back b (Reg u) h in
    among-right (Reg u) (made_from Net 0 (length (equations_of b).nets)) (map Reg (register_units b.chips))
    (subst (λ (v : Var). Among v (map Reg (register_units b.chips))) named (map-among Reg (get_or (register_units b.chips) k 0) (register_units b.chips) (among-at (register_units b.chips) k 0 (omega arith))))

pub among-variable : (b : Joined) (v : Var) → Among v (all_vars b) → IsVariable b v
among-variable b v a = at (among-split v (made_from Net 0 (length (equations_of b).nets)) (map Reg (register_units b.chips)) a)
  where
    at : Among v (made_from Net 0 (length (equations_of b).nets)) ⊎ Among v (map Reg (register_units b.chips)) → IsVariable b v
    at (inl c) = let n = net-made v 0 (length (equations_of b).nets) c in let within : n.0 < length (equations_of b).nets = omega (arith, n.3) in subst (IsVariable b) (sym n.1) within
    at (inr c) =
        let u = among-map Reg v (register_units b.chips) c in
        let k = among-place u.0 (register_units b.chips) u.1 in
        let long : length (register_units b.chips) ≡ length (equations_of b).registers = register-units-long b.net b.chips in
        let within : k.0 < length (equations_of b).registers = omega (arith, k.1) in
        subst (IsVariable b) (sym (u.2 ∙ ap Reg k.2)) (var-variable b (OfRegister k.0) within)

-- pairs whose variables rise
pub pairs-rise : (ps : List (Var × Bool)) → Rises (map (λ (w : Var × Bool). w.0) ps) → AreRising ps
pairs-rise [] h = λ i j d below within. absurd (omega arith)
pairs-rise (p ∷ ps) h =
    AllPairs-cons (λ (v w : Var × Bool). IsBefore v.0 w.0) p ps
    (λ k d within. h.0 (get_or ps k d).0 (map-among (λ (w : Var × Bool). w.0) (get_or ps k d) ps (among-at ps k d within)))
    (pairs-rise ps h.1)

-- one more variable, which passes or doesn't
pub passes : (p : Var → Bool) (old before xs : List Var) (x : Var) → p x ≡ true → before ≡ old ++ filter p xs → before ++ x ∷ [] ≡ old ++ filter p (xs ++ x ∷ [])
passes p old before xs x e is =
    ap (λ (vs : List Var). vs ++ x ∷ []) is ∙ append_assoc old (filter p xs) (x ∷ [])
    ∙ ap (λ (vs : List Var). old ++ vs) (sym (filter-append p xs (x ∷ []) ∙ ap (λ (q : Bool). filter p xs ++ cond q (x ∷ []) []) e))

pub fails : (p : Var → Bool) (old before xs : List Var) (x : Var) → p x ≡ false → before ≡ old ++ filter p xs → before ≡ old ++ filter p (xs ++ x ∷ [])
fails p old before xs x e is =
    is ∙ ap (λ (vs : List Var). old ++ vs) (sym (filter-append p xs (x ∷ []) ∙ ap (λ (q : Bool). filter p xs ++ cond q (x ∷ []) []) e ∙ append-nil (filter p xs)))

pub one-more_net : (n : ℕ) → made_from Net 0 n ++ Net n ∷ [] ≡ made_from Net 0 (n + 1)
one-more_net n = made-push Net n (made_from Net 0 n) (made_from Net 0 n ++ Net n ∷ []) (Net n) refl refl refl
