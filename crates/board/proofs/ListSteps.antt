-- Steps of loops over lists, tables that are made, and the first item that passes.
use Rattle.std.proofs.Common.{ℕ, zero, suc, ◌≡◌, ◌<◌, ◌≤◌, ◌+◌, ◌*◌, Bool, true, false, not, ltb, List, [], ◌∷◌, ◌++◌, drop, length, get_or, Some, None, refl, sym, ap, ◌∙◌, arith}
use Rattle.std.specs.Prelude.{◌/◌, ◌%◌, slice_get, if◌then◌else◌}
use Rattle.std.specs.List.{zip, position, position_or_len}
use Rattle.std.proofs.lemmas.Bool.{ltb-false, not-true}
use Rattle.std.proofs.lemmas.List.{drop_more}
use Rattle.std.proofs.lemmas.List.Sums.{prefix_len_passes}
use Rattle.std.proofs.lemmas.Option.{slice_get-get_or, get_or_from_slice_get, slice_get_within}
use Rattle.equations.specs.Tables.{IsTable}
use Rattle.mig_base.specs.Boards.{At}
use Rattle.mig_base.specs.First.{made_from}
use Rattle.mig_base.proofs.ListLaws.{get_or-made_from, length-made_from, made_from-more}

pub zip-next : {X Y : Type 0} (xs : List X) (ys : List Y) (i : ℕ) (x : X) (y : Y) → i < length xs → i < length ys → x ≡ get_or xs i x → y ≡ get_or ys i y →
    zip (drop i xs) (drop i ys) ≡ (x, y) ∷ zip (drop (i + 1) xs) (drop (i + 1) ys)
zip-next {X} {Y} xs ys i x y h k e f =
    let rest : List (X × Y) = zip (drop (i + 1) xs) (drop (i + 1) ys) in
    ap (λ (left : List X). zip left (drop i ys)) (drop_more xs i x h)
    ∙ ap (λ (right : List Y). zip (get_or xs i x ∷ drop (i + 1) xs) right) (drop_more ys i y k)
    ∙ ap (λ (a : X). (a, get_or ys i y) ∷ rest) (sym e) ∙ ap (λ (b : Y). (x, b) ∷ rest) (sym f)

-- lists made of equal values are equal
pub made-same : {T : Type 0} (f g : ℕ → T) (a n : ℕ) → ((j : ℕ) → f j ≡ g j) → made_from f a n ≡ made_from g a n
made-same f g a zero h = refl
made-same f g a (suc n) h = ap (λ x. x ∷ made_from f (a + 1) n) (h a) ∙ ap (λ xs. g a ∷ xs) (made-same f g (a + 1) n h)

-- one more value at the end of a made list
pub made-push : {T : Type 0} (f : ℕ → T) (n : ℕ) (before now : List T) (x : T) → now ≡ before ++ x ∷ [] → before ≡ made_from f 0 n → x ≡ f n → now ≡ made_from f 0 (n + 1)
made-push f n before now x pushed is same =
    let here : n ≡ 0 + n = omega arith in
    pushed ∙ ap (λ xs. xs ++ x ∷ []) is ∙ ap (λ y. made_from f 0 n ++ y ∷ []) (same ∙ ap f here) ∙ sym (made_from-more f 0 n (n + 1) refl)

-- the chip and the pin of a place of a table
abbrev pub at_place : ℕ → At
at_place i = (i / 256, i % 256)

-- a table of 256 entries a chip, made place by place
pub table-made : {T : Type 0} (f : At → T) (chips n : ℕ) → n ≡ 256 * chips → IsTable f chips (made_from (λ i. f (at_place i)) 0 n)
table-made {T} f chips n e = record {
  size = length-made_from (λ i. f (at_place i)) 0 n ∙ e;
  gives = λ chip pin h k.
      let place : ℕ = 256 * chip + pin in
      let inside : place < n = omega arith in
      let within : place < length (made_from (λ i. f (at_place i)) 0 n) = rw (length-made_from (λ i. f (at_place i)) 0 n) inside in
      let of_chip : (0 + place) / 256 ≡ chip = omega arith in
      let of_pin : (0 + place) % 256 ≡ pin = omega arith in
      slice_get-get_or (made_from (λ i. f (at_place i)) 0 n) place (f (chip, pin)) within
      ∙ ap Some (get_or-made_from (λ i. f (at_place i)) 0 n place (f (chip, pin)) inside
      ∙ ap (λ (j : ℕ). f (j, (0 + place) % 256)) of_chip ∙ ap (λ (p : ℕ). f (chip, p)) of_pin);
}

-- no item passes where none is the first that passes
pub none-passes : {X : Type 0} (p : X → Bool) (xs : List X) (n : ℕ) (x : X) → position p xs ≡ None → slice_get xs n ≡ Some x → p x ≡ false
none-passes p xs n x none is =
    let within : n < length xs = slice_get_within xs n x is in
    let all : length xs ≤ position_or_len p xs = past (position_or_len p xs) (length xs) none in
    let fails : not (p (get_or xs n x)) ≡ true = prefix_len_passes (λ y. not (p y)) xs n x (omega arith) in
    ap p (sym (get_or_from_slice_get xs n x x is)) ∙ not-true (p (get_or xs n x)) fails
  where
    at : (i m : ℕ) (b : Bool) → ltb i m ≡ b → (if b then Some i else None) ≡ None → m ≤ i
    at i m true t e = cc
    at i m false t e = ltb-false i m t

    past : (i m : ℕ) → (if ltb i m then Some i else None) ≡ None → m ≤ i
    past i m e = at i m (ltb i m) refl e
