-- Nodes put into lists.
use Rattle.std.proofs.Common.{ℕ, zero, suc, ◌≡◌, ◌⊎◌, ◌<◌, List, [], ◌∷◌, ◌++◌, map, length, refl, sym, ap, ◌∙◌, subst, arith, inl, inr}
use Rattle.std.specs.Prelude.{Vec, Result, Ok, Err, OnOk}
use Rattle.std.specs.declared.alloc.Global.{Global}
use Rattle.std.proofs.Math.ListN.{set, get_or}
use Rattle.std.proofs.lemmas.Bool.{cases_eq}
use Rattle.std.proofs.lemmas.List.{map-set, get_or-map, get_or-set_same, get_or-set_other, length-set}
use Rattle.mig_base.specs.declared.circuit.Read.{Read}
use Rattle.mig_base.specs.declared.circuit.Read.TheVariants.{OfNet, OfRegister}
use Rattle.mig_base.specs.Among.{Among}
use Rattle.ranks.specs.declared.neighbours.Neighbours.{Neighbours}
use Rattle.ranks.specs.Neighbours.{IsPut, IsAdded, neighbours_at}
use Rattle.mig_base.proofs.Amongs.{among-left, among-right, among-split}

abbrev pub contents : List (Vec Read Global) → List (List Read)
contents lists = map (λ list. list.items) lists

-- one list changed by a push
pub contents-push : (lists : List (Vec Read Global)) (place : ℕ) (node : Read) (old new : Vec Read Global) → place < length lists → old ≡ get_or lists place old → new.items ≡ old.items ++ node ∷ [] →
    contents (set lists place new) ≡ set (contents lists) place (get_or (contents lists) place [] ++ node ∷ [])
contents-push lists place node old new h is pushed =
    let items : Vec Read Global → List Read = λ list. list.items in
    map-set items lists place new
    ∙ ap (set (contents lists) place) (pushed ∙ ap (λ (list : List Read). list ++ node ∷ []) (ap items is ∙ sym (get_or-map items lists place old [] h)))

-- a node was put where it was added at the end of one list
pub put-appended : (lists : List (List Read)) (place : ℕ) (node : Read) → place < length lists → IsPut lists place node (set lists place (get_or lists place [] ++ node ∷ []))
put-appended lists place node within = record {
  long = length-set lists place (get_or lists place [] ++ node ∷ []);
  keeps = keeps;
  sound = sound;
  put = λ h. rw here (among-right node (get_or lists place []) (node ∷ []) (inl refl));
}
  where
    here : get_or (set lists place (get_or lists place [] ++ node ∷ [])) place [] ≡ get_or lists place [] ++ node ∷ []
    here = get_or-set_same lists place (get_or lists place [] ++ node ∷ []) [] within

    keeps : (i : ℕ) (v : Read) → Among v (get_or lists i []) → Among v (get_or (set lists place (get_or lists place [] ++ node ∷ [])) i [])
    keeps i v a = at (cases_eq i place)
      where
        at : (i ≡ place) ⊎ (i ≡ place → ⊥) → Among v (get_or (set lists place (get_or lists place [] ++ node ∷ [])) i [])
        at (inl e) = subst (λ (j : ℕ). Among v (get_or (set lists place (get_or lists place [] ++ node ∷ [])) j [])) (sym e)
            (rw here (among-left v (get_or lists place []) (node ∷ []) (subst (λ (j : ℕ). Among v (get_or lists j [])) e a)))
        at (inr ne) = rw (get_or-set_other lists place i (get_or lists place [] ++ node ∷ []) [] ne) a

    sound : (i : ℕ) (v : Read) → Among v (get_or (set lists place (get_or lists place [] ++ node ∷ [])) i []) → Among v (get_or lists i []) ⊎ ((i ≡ place) × (v ≡ node))
    sound i v a = at (cases_eq i place)
      where
        ends : i ≡ place → Among v (get_or lists place []) ⊎ Among v (node ∷ []) → Among v (get_or lists i []) ⊎ ((i ≡ place) × (v ≡ node))
        ends e (inl b) = inl (subst (λ (j : ℕ). Among v (get_or lists j [])) (sym e) b)
        ends e (inr (inl same)) = inr (e, same)
        ends e (inr (inr none)) = absurd none

        at : (i ≡ place) ⊎ (i ≡ place → ⊥) → Among v (get_or lists i []) ⊎ ((i ≡ place) × (v ≡ node))
        at (inl e) = ends e (among-split v (get_or lists place []) (node ∷ [])
            (subst (λ (list : List Read). Among v list) (ap (λ (j : ℕ). get_or (set lists place (get_or lists place [] ++ node ∷ [])) j []) e ∙ here) a))
        at (inr ne) = inl (subst (λ (list : List Read). Among v list) (get_or-set_other lists place i (get_or lists place [] ++ node ∷ []) [] ne) a)

-- nothing is to be done where the list is not there, or has the node
pub put-nothing : (lists : List (List Read)) (place : ℕ) (node : Read) → (place < length lists → Among node (get_or lists place [])) → IsPut lists place node lists
put-nothing lists place node has = record { long = refl; keeps = λ i v a. a; sound = λ i v a. inl a; put = has }

pub among-at : (lists : List Read) (i : ℕ) (d : Read) → i < length lists → Among (get_or lists i d) lists
among-at [] i d h = absurd (omega arith)
among-at (x ∷ xs) zero d h = inl refl
among-at (x ∷ xs) (suc i) d h = inr (among-at xs i d (omega arith))

pub added-net : (old : Neighbours) (n : ℕ) (node : Read) (nets : List (List Read)) → IsPut old.nets n node nets →
    IsAdded old (OfNet n) node (record { nets = nets; registers = old.registers })
added-net old n node nets put = record { nets = put.long; registers = refl; keeps = keeps; sound = sound; put = put.put }
  where
    new : Neighbours
    new = record { nets = nets; registers = old.registers }

    keeps : (w v : Read) → Among v (neighbours_at old w) → Among v (neighbours_at (record { nets = nets; registers = old.registers }) w)
    keeps (OfNet m) v a = put.keeps m v a
    keeps (OfRegister k) v a = a

    sound : (w v : Read) → Among v (neighbours_at (record { nets = nets; registers = old.registers }) w) → Among v (neighbours_at old w) ⊎ ((w ≡ OfNet n) × (v ≡ node))
    sound (OfNet m) v a = at (put.sound m v a)
      where
        at : Among v (get_or old.nets m []) ⊎ ((m ≡ n) × (v ≡ node)) → Among v (neighbours_at old (OfNet m)) ⊎ ((OfNet m ≡ OfNet n) × (v ≡ node))
        at (inl b) = inl b
        at (inr h) = inr (ap OfNet h.0, h.1)
    sound (OfRegister k) v a = inl a

pub added-register : (old : Neighbours) (k : ℕ) (node : Read) (registers : List (List Read)) → IsPut old.registers k node registers →
    IsAdded old (OfRegister k) node (record { nets = old.nets; registers = registers })
added-register old k node registers put = record { nets = refl; registers = put.long; keeps = keeps; sound = sound; put = put.put }
  where
    keeps : (w v : Read) → Among v (neighbours_at old w) → Among v (neighbours_at (record { nets = old.nets; registers = registers }) w)
    keeps (OfNet m) v a = a
    keeps (OfRegister j) v a = put.keeps j v a

    sound : (w v : Read) → Among v (neighbours_at (record { nets = old.nets; registers = registers }) w) → Among v (neighbours_at old w) ⊎ ((w ≡ OfRegister k) × (v ≡ node))
    sound (OfNet m) v a = inl a
    sound (OfRegister j) v a = at (put.sound j v a)
      where
        at : Among v (get_or old.registers j []) ⊎ ((j ≡ k) × (v ≡ node)) → Among v (neighbours_at old (OfRegister j)) ⊎ ((OfRegister j ≡ OfRegister k) × (v ≡ node))
        at (inl b) = inl b
        at (inr h) = inr (ap OfRegister h.0, h.1)

pub on-ok : {A E : Type 0} (r : Result A E) (P Q : Type 0) → (P → Q) → OnOk r P → OnOk r Q
on-ok (Ok a) P Q f h = f h
on-ok (Err e) P Q f h = h
