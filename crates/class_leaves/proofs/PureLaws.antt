-- Flags of pure registers and classes, one more at a time.
use Rattle.std.proofs.Math.Bool.{or-true}
use Rattle.std.proofs.Common.{ℕ, ◌≡◌, ◌⊎◌, ◌+◌, ◌-◌, ◌<◌, ◌≤◌, Bool, true, false, List, [], ◌∷◌, ◌++◌, length, get_or, replicate, set, refl, sym, ap, ◌∙◌, subst, arith, inl, inr}
use Rattle.std.specs.Prelude.{◌||◌, nat_lt}
use Rattle.std.proofs.lemmas.Bool.{cases_eq, cases_lt, lt-ltb, le-ltb}
use Rattle.std.proofs.lemmas.List.{get_or_append_left, get_or-append-add, get_or_past, get_or_push, get_or-replicate, get_or-set_same, get_or-set_other, length-append, length-replicate, length-set}
use Rattle.mig_base.specs.declared.circuit.Circuit.{Circuit}
use Rattle.mig_base.specs.declared.circuit.Read.TheVariants.{OfRegister}
use Rattle.structure.specs.Pure.{IsPure}
use Rattle.board.specs.Joined.{Joined, equations_of}
use Rattle.matchings.specs.Pairs.{class_at, registers_of_both}
use Rattle.class_leaves.specs.Pures.{AreLed, ArePures, ArePuresOf, ArePureClasses, IsPureOf, IsPureRegister, flag_at}

-- the flags of the first registers
pub record AreFlags (c : Circuit) (n : ℕ) (pures : List Bool) : Type 0 where
  pub count : length pures ≡ n
  pub yes : (k : ℕ) → k < n → flag_at pures k ≡ true → IsPure c (OfRegister k)
  pub no : (k : ℕ) → k < n → IsPure c (OfRegister k) → flag_at pures k ≡ true

pub flags-none : (c : Circuit) → AreFlags c 0 []
flags-none c = record { count = refl; yes = λ k lt. absurd (omega arith); no = λ k lt. absurd (omega arith) }

pub flags-more : (c : Circuit) (n : ℕ) (pures : List Bool) (b : Bool) → AreFlags c n pures → (b ≡ true → IsPure c (OfRegister n)) → (IsPure c (OfRegister n) → b ≡ true) →
    AreFlags c (n + 1) (pures ++ b ∷ [])
flags-more c n pures b flags is_pure is_not = record {
  count = length-append pures (b ∷ []) ∙ ap (λ (m : ℕ). m + 1) flags.count;
  yes = λ k lt. at-yes k (cases_lt k n) lt;
  no = λ k lt. at-no k (cases_lt k n) lt;
}
  where
    older : (k : ℕ) → k < n → flag_at (pures ++ b ∷ []) k ≡ flag_at pures k
    older k lt = get_or_append_left pures (b ∷ []) false k (subst (λ (m : ℕ). k < m) (sym flags.count) lt)

    newest : (k : ℕ) → n ≤ k → k < n + 1 → k ≡ n
    newest k le lt = omega (arith, le, lt)

    last : flag_at (pures ++ b ∷ []) n ≡ b
    last = get_or_push pures b false n flags.count

    at-yes : (k : ℕ) → (k < n) ⊎ (n ≤ k) → k < n + 1 → flag_at (pures ++ b ∷ []) k ≡ true → IsPure c (OfRegister k)
    at-yes k (inl l) lt e = flags.yes k l (sym (older k l) ∙ e)
    at-yes k (inr le) lt e =
        let is : k ≡ n = newest k le lt in
        subst (λ (m : ℕ). IsPure c (OfRegister m)) (sym is) (is_pure (sym last ∙ ap (flag_at (pures ++ b ∷ [])) (sym is) ∙ e))

    at-no : (k : ℕ) → (k < n) ⊎ (n ≤ k) → k < n + 1 → IsPure c (OfRegister k) → flag_at (pures ++ b ∷ []) k ≡ true
    at-no k (inl l) lt p = older k l ∙ flags.no k l p
    at-no k (inr le) lt p =
        let is : k ≡ n = newest k le lt in
        ap (flag_at (pures ++ b ∷ [])) is ∙ last ∙ is_not (subst (λ (m : ℕ). IsPure c (OfRegister m)) is p)

pub flags-all : (c : Circuit) (n : ℕ) (pures : List Bool) → n ≡ length c.registers → AreFlags c n pures → ArePuresOf c pures
flags-all c n pures e flags = record {
  count = flags.count ∙ e;
  yes = λ k lt. flags.yes k (subst (λ (m : ℕ). k < m) (sym e) lt);
  no = λ k lt. flags.no k (subst (λ (m : ℕ). k < m) (sym e) lt);
}

-- the flags of both boards
pub both-pures : (a b : Joined) (ps qs : List Bool) → ArePuresOf (equations_of a) ps → ArePuresOf (equations_of b) qs → ArePures a b (ps ++ qs)
both-pures a b ps qs left right = record {
  count = length-append ps qs ∙ ap (λ (n : ℕ). n + length qs) left.count ∙ ap (λ (n : ℕ). length (equations_of a).registers + n) right.count;
  yes = λ i lt. at-yes i lt (cases_lt i (length (equations_of a).registers));
  no = λ i lt. at-no i lt (cases_lt i (length (equations_of a).registers));
}
  where
    front : (i : ℕ) → i < length (equations_of a).registers → flag_at (ps ++ qs) i ≡ flag_at ps i
    front i lt = get_or_append_left ps qs false i (subst (λ (n : ℕ). i < n) (sym left.count) lt)

    back : (i : ℕ) → length (equations_of a).registers ≤ i → flag_at (ps ++ qs) i ≡ flag_at qs (i - length (equations_of a).registers)
    back i le =
        let sum : i ≡ length ps + (i - length (equations_of a).registers) = omega (arith, le, left.count) in
        ap (flag_at (ps ++ qs)) sum ∙ get_or-append-add ps qs (i - length (equations_of a).registers) false

    at-yes : (i : ℕ) → i < registers_of_both a b → (i < length (equations_of a).registers) ⊎ (length (equations_of a).registers ≤ i) → flag_at (ps ++ qs) i ≡ true → IsPureRegister a b i
    at-yes i lt (inl l) e = subst (IsPureOf a b i) (sym (lt-ltb i (length (equations_of a).registers) l)) (left.yes i l (sym (front i l) ∙ e))
    at-yes i lt (inr le) e =
        subst (IsPureOf a b i) (sym (le-ltb i (length (equations_of a).registers) le))
        (right.yes (i - length (equations_of a).registers) (omega (arith, le, lt)) (sym (back i le) ∙ e))

    at-no : (i : ℕ) → i < registers_of_both a b → (i < length (equations_of a).registers) ⊎ (length (equations_of a).registers ≤ i) → IsPureRegister a b i → flag_at (ps ++ qs) i ≡ true
    at-no i lt (inl l) p = front i l ∙ left.no i l (subst (IsPureOf a b i) (lt-ltb i (length (equations_of a).registers) l) p)
    at-no i lt (inr le) p =
        back i le
        ∙ right.no (i - length (equations_of a).registers) (omega (arith, le, lt)) (subst (IsPureOf a b i) (le-ltb i (length (equations_of a).registers) le) p)

-- the flags of the classes of the first registers
pub record AreMarked (pures : List Bool) (classes : List ℕ) (n : ℕ) (bits : List Bool) : Type 0 where
  pub count : length bits ≡ length classes
  pub yes : (c : ℕ) → flag_at bits c ≡ true → (i : ℕ) × (i < n) × (class_at classes i ≡ c) × (flag_at pures i ≡ true)
  pub no : (i : ℕ) → i < n → flag_at pures i ≡ true → flag_at bits (class_at classes i) ≡ true

pub marked-more : (pures : List Bool) (classes : List ℕ) (n k : ℕ) (pure : Bool) (bits : List Bool) → AreMarked pures classes n bits → class_at classes n ≡ k → flag_at pures n ≡ pure → k < length bits →
    AreMarked pures classes (n + 1) (set bits k (flag_at bits k || pure))
marked-more pures classes n k pure bits marked is_k is_pure lt = record {
  count = length-set bits k (flag_at bits k || pure) ∙ marked.count;
  yes = λ c. at-yes c (cases_eq c k);
  no = λ i. at-no i (cases_lt i n);
}
  where
    bits2 : List Bool
    bits2 = set bits k (flag_at bits k || pure)

    here : flag_at bits2 k ≡ (flag_at bits k || pure)
    here = get_or-set_same bits k (flag_at bits k || pure) false lt

    there : (c : ℕ) → (c ≡ k → ⊥) → flag_at bits2 c ≡ flag_at bits c
    there c apart = get_or-set_other bits k c (flag_at bits k || pure) false apart

    earlier : (c : ℕ) → ((i : ℕ) × (i < n) × (class_at classes i ≡ c) × (flag_at pures i ≡ true)) → (i : ℕ) × (i < n + 1) × (class_at classes i ≡ c) × (flag_at pures i ≡ true)
    earlier c found = let l : found.0 < n + 1 = omega (arith, found.1) in (found.0, l, found.2, found.3)

    by : (c : ℕ) → c ≡ k → (b q : Bool) → flag_at bits c ≡ b → flag_at pures n ≡ q → (b || q) ≡ true → (i : ℕ) × (i < n + 1) × (class_at classes i ≡ c) × (flag_at pures i ≡ true)
    by c same true q eb eq h = earlier c (marked.yes c eb)
    by c same false q eb eq h = let l : n < n + 1 = omega arith in (n, l, is_k ∙ sym same, eq ∙ h)

    at-yes : (c : ℕ) → (c ≡ k) ⊎ (c ≡ k → ⊥) → flag_at bits2 c ≡ true → (i : ℕ) × (i < n + 1) × (class_at classes i ≡ c) × (flag_at pures i ≡ true)
    at-yes c (inl same) e = by c same (flag_at bits k) pure (ap (flag_at bits) same) is_pure (sym here ∙ ap (flag_at bits2) (sym same) ∙ e)
    at-yes c (inr apart) e = earlier c (marked.yes c (sym (there c apart) ∙ e))

    stays : (c : ℕ) → flag_at bits c ≡ true → flag_at bits2 c ≡ true
    stays c e = at (cases_eq c k)
      where
        at : (c ≡ k) ⊎ (c ≡ k → ⊥) → flag_at bits2 c ≡ true
        at (inl same) = ap (flag_at bits2) same ∙ here ∙ ap (λ (b : Bool). b || pure) (ap (flag_at bits) (sym same) ∙ e)
        at (inr apart) = there c apart ∙ e

    at-no : (i : ℕ) → (i < n) ⊎ (n ≤ i) → i < n + 1 → flag_at pures i ≡ true → flag_at bits2 (class_at classes i) ≡ true
    at-no i (inl l) lt1 e = stays (class_at classes i) (marked.no i l e)
    at-no i (inr le) lt1 e =
        let is : i ≡ n = omega (arith, le, lt1) in
        ap (λ (m : ℕ). flag_at bits2 (class_at classes m)) is ∙ ap (flag_at bits2) is_k ∙ here
        ∙ ap (λ (q : Bool). flag_at bits k || q) (sym is_pure ∙ ap (flag_at pures) (sym is) ∙ e) ∙ or-true (flag_at bits k)

pub marked-none : (pures : List Bool) (classes : List ℕ) (n : ℕ) → n ≡ length classes → AreMarked pures classes 0 (replicate n false)
marked-none pures classes n e = record {
  count = length-replicate n false ∙ e;
  yes = λ c h. absurd (apart (sym (never c) ∙ h));
  no = λ i lt. absurd (omega arith);
}
  where
    never : (c : ℕ) → flag_at (replicate n false) c ≡ false
    never c = at (cases_lt c n)
      where
        at : (c < n) ⊎ (n ≤ c) → flag_at (replicate n false) c ≡ false
        at (inl l) = get_or-replicate n c false false l
        at (inr le) = get_or_past (replicate n false) c false (omega (arith, le, length-replicate n false))

    apart : false ≡ true → ⊥
    apart h = cc

-- the class of a register is no later one
pub led-here : (classes : List ℕ) (i x : ℕ) → AreLed classes → i < length classes → x ≡ class_at classes i → x ≤ i
led-here classes i x led lt e = subst (λ (k : ℕ). k ≤ i) (sym e) (led.within i lt)
