-- Readers put into lists.
use Rattle.std.proofs.Common.{ℕ, zero, suc, ◌≡◌, ◌⊎◌, ◌<◌, List, [], ◌∷◌, ◌++◌, map, length, refl, ap, sym, ◌∙◌, subst, arith, inl, inr}
use Rattle.std.specs.Prelude.{Vec, Result, Ok, Err, OnOk}
use Rattle.std.specs.declared.alloc.Global.{Global}
use Rattle.std.proofs.Math.ListN.{set, get_or}
use Rattle.std.proofs.lemmas.Bool.{cases_eq}
use Rattle.std.proofs.lemmas.List.{map-set, get_or-map, get_or-set_same, get_or-set_other, length-set}
use Rattle.mig_base.specs.Among.{Among}
use Rattle.mig_base.proofs.Amongs.{among-left, among-right}
use Rattle.reader_lists.specs.declared.lists.Reader.{Reader}
use Rattle.reader_lists.specs.Lists.{IsPut}

abbrev pub contents : List (Vec Reader Global) → List (List Reader)
contents lists = map (λ list. list.items) lists

-- one list changed by a push
pub contents-push : (lists : List (Vec Reader Global)) (place : ℕ) (r : Reader) (old new : Vec Reader Global) → place < length lists → old ≡ get_or lists place old → new.items ≡ old.items ++ r ∷ [] →
    contents (set lists place new) ≡ set (contents lists) place (get_or (contents lists) place [] ++ r ∷ [])
contents-push lists place r old new h is pushed =
    let items : Vec Reader Global → List Reader = λ list. list.items in
    map-set items lists place new
    ∙ ap (set (contents lists) place) (pushed ∙ ap (λ (list : List Reader). list ++ r ∷ []) (ap items is ∙ sym (get_or-map items lists place old [] h)))

-- a reader was put where it was added at the end of one list
pub put-appended : (lists : List (List Reader)) (place : ℕ) (r : Reader) → place < length lists → IsPut lists place r (set lists place (get_or lists place [] ++ r ∷ []))
put-appended lists place r within = record {
  long = length-set lists place (get_or lists place [] ++ r ∷ []);
  keeps = keeps;
  put = λ h. rw here (among-right r (get_or lists place []) (r ∷ []) (inl refl));
}
  where
    here : get_or (set lists place (get_or lists place [] ++ r ∷ [])) place [] ≡ get_or lists place [] ++ r ∷ []
    here = get_or-set_same lists place (get_or lists place [] ++ r ∷ []) [] within

    keeps : (i : ℕ) (v : Reader) → Among v (get_or lists i []) → Among v (get_or (set lists place (get_or lists place [] ++ r ∷ [])) i [])
    keeps i v a = at (cases_eq i place)
      where
        at : (i ≡ place) ⊎ (i ≡ place → ⊥) → Among v (get_or (set lists place (get_or lists place [] ++ r ∷ [])) i [])
        at (inl e) = subst (λ (j : ℕ). Among v (get_or (set lists place (get_or lists place [] ++ r ∷ [])) j [])) (sym e)
            (rw here (among-left v (get_or lists place []) (r ∷ []) (subst (λ (j : ℕ). Among v (get_or lists j [])) e a)))
        at (inr ne) = rw (get_or-set_other lists place i (get_or lists place [] ++ r ∷ []) [] ne) a

-- nothing is to be done where the list is not there, or has the reader
pub put-nothing : (lists : List (List Reader)) (place : ℕ) (r : Reader) → (place < length lists → Among r (get_or lists place [])) → IsPut lists place r lists
put-nothing lists place r has = record { long = refl; keeps = λ i v a. a; put = has }

pub on-ok : {A E : Type 0} (r : Result A E) (P Q : Type 0) → (P → Q) → OnOk r P → OnOk r Q
on-ok (Ok a) P Q f h = f h
on-ok (Err e) P Q f h = h

pub among-at : (list : List Reader) (i : ℕ) (d : Reader) → i < length list → Among (get_or list i d) list
among-at [] i d h = absurd (omega arith)
among-at (x ∷ xs) zero d h = inl refl
among-at (x ∷ xs) (suc i) d h = inr (among-at xs i d (omega arith))
