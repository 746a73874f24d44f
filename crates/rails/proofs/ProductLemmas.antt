-- Literals among Booleans, and products and sums with one more part.
use Rattle.std.proofs.Common.{◌≡◌, ℕ, ◌+◌, ◌<◌, Bool, true, false, ◌&&◌, ◌||◌, cond, refl, sym, ◌∙◌, ap, arith, List, [], ◌∷◌, length, take, drop, get_or, suc, true≢false}
use Rattle.std.proofs.Math.Seq.{drop-cons, drop-length}
use Rattle.std.proofs.lemmas.List.{take_more}
use Rattle.std.proofs.lemmas.List.Folds.{list_all-append, list_any-append}
use Rattle.std.specs.List.{list_all, list_any}
use Rattle.bdd.specs.Tree.{Point, holds}
use Rattle.bdd.specs.Diagram.{Diagram, Keeps, IsConjunction, IsDisjunction, IsConstant}
use Rattle.bdd.specs.declared.Ref.{Ref}
use Rattle.mig_base.specs.declared.nets.VarLit.{VarLit}
use Rattle.rails.specs.declared.Rail.{Rail}
use Rattle.rails.specs.Points.{carries, read_off, literal_in, Is}
use Rattle.rails.proofs.ImageLemmas.{is_kept}

ahead : (n : ℕ) → suc n ≡ n + 1
ahead n = omega arith

-- a Boolean that does not carry the literal is passed by
pub passed : (rs : List Rail) (x : VarLit) (n : ℕ) (d : Rail) → n < length rs → carries x (get_or rs n d) ≡ false
    → (p : Point) → literal_in n (drop n rs) x p ≡ literal_in (n + 1) (drop (n + 1) rs) x p
passed rs x n d l e p =
    let r = get_or rs n d in
    ap (λ ys. literal_in n ys x p) (drop-cons rs n d l)
    ∙ ap (λ b. cond b (read_off r.side x.high (p n)) (literal_in (n + 1) (drop (suc n) rs) x p)) e
    ∙ ap (λ m. literal_in (n + 1) (drop m rs) x p) (ahead n)

-- the literal is read off the first one that carries it
pub found : (rs : List Rail) (x : VarLit) (n : ℕ) (d : Rail) → n < length rs → carries x (get_or rs n d) ≡ true
    → (p : Point) → literal_in n (drop n rs) x p ≡ read_off (get_or rs n d).side x.high (p n)
found rs x n d l e p =
    let r = get_or rs n d in
    ap (λ ys. literal_in n ys x p) (drop-cons rs n d l)
    ∙ ap (λ b. cond b (read_off r.side x.high (p n)) (literal_in (n + 1) (drop (suc n) rs) x p)) e

-- what is carried by none so far is carried by one of the rest
pub carried_on : (rs : List Rail) (x : VarLit) (n : ℕ) (d : Rail) → n < length rs → carries x (get_or rs n d) ≡ false
    → list_any (carries x) (drop n rs) ≡ true → list_any (carries x) (drop (n + 1) rs) ≡ true
carried_on rs x n d l e h =
    ap (λ m. list_any (carries x) (drop m rs)) (sym (ahead n))
    ∙ sym (ap (λ b. b || list_any (carries x) (drop (suc n) rs)) e)
    ∙ sym (ap (list_any (carries x)) (drop-cons rs n d l)) ∙ h

pub not_past : (rs : List Rail) (x : VarLit) (n : ℕ) → n ≡ length rs → list_any (carries x) (drop n rs) ≡ true → ⊥
not_past rs x n e h = true≢false (sym h ∙ ap (λ m. list_any (carries x) (drop m rs)) e ∙ ap (list_any (carries x)) (drop-length rs))

and_true : (a b : Bool) → (a && (b && true)) ≡ (a && b)
and_true true true = refl
and_true true false = refl
and_true false b = refl

or_false : (a b : Bool) → (a || (b || false)) ≡ (a || b)
or_false true b = refl
or_false false true = refl
or_false false false = refl

pub all_more : {X : Type 0} (test : X → Bool) (xs : List X) (i : ℕ) (d : X) → i < length xs
    → list_all test (take (i + 1) xs) ≡ (list_all test (take i xs) && test (get_or xs i d))
all_more test xs i d l =
    ap (list_all test) (take_more xs i d l) ∙ list_all-append test (take i xs) (get_or xs i d ∷ []) ∙ and_true (list_all test (take i xs)) (test (get_or xs i d))

pub any_more : {X : Type 0} (test : X → Bool) (xs : List X) (i : ℕ) (d : X) → i < length xs
    → list_any test (take (i + 1) xs) ≡ (list_any test (take i xs) || test (get_or xs i d))
any_more test xs i d l =
    ap (list_any test) (take_more xs i d l) ∙ list_any-append test (take i xs) (get_or xs i d ∷ []) ∙ or_false (list_any test (take i xs)) (test (get_or xs i d))

-- one more factor, over a graph that grew meanwhile
pub factor_more : (a b c : Diagram) (g h k : Point → Bool) (f x r : Ref) → Is a g f → Keeps a b → Is b h x → IsConjunction b c f x r
    → ((p : Point) → k p ≡ (g p && h p)) → Is c k r
factor_more a b c g h k f x r is keeps more made e = record {
  valid = made.valid;
  means = λ p. made.means p ∙ (λ i. ((is_kept a b g f keeps is).means p i && more.means p i)) ∙ sym (e p);
}

-- one more summand
pub summand_more : (a b c : Diagram) (g h k : Point → Bool) (f x r : Ref) → Is a g f → Keeps a b → Is b h x → IsDisjunction b c f x r
    → ((p : Point) → k p ≡ (g p || h p)) → Is c k r
summand_more a b c g h k f x r is keeps more made e = record {
  valid = made.valid;
  means = λ p. made.means p ∙ (λ i. ((is_kept a b g f keeps is).means p i || more.means p i)) ∙ sym (e p);
}

pub constant_is : (d : Diagram) (b : Bool) (r : Ref) → IsConstant d b r → Is d (λ _. b) r
constant_is d b r c = record { valid = c.valid; means = λ p. ap (λ t. holds t p) c.tree }
