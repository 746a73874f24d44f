-- What tables give, new and after an entry is put.
use Rattle.std.proofs.Common.{ℕ, ◌≡◌, ◌≢◌, ◌<◌, ◌+◌, ◌*◌, Bool, true, false, eqb, List, map, length, replicate, drop, Option, Some, sym, ap, ◌∙◌, arith, subst, zero-add, inl, inr, ◌⊎◌}
use Rattle.std.specs.Prelude.{slice_get, if◌then◌else◌}
use Rattle.std.proofs.Math.ListN.{set, get_or, length-set}
use Rattle.std.proofs.lemmas.List.{at_drop_more, length-replicate, get_or-replicate, get_or-set_other}
use Rattle.std.proofs.lemmas.Grind.{get_or-set_at}
use Rattle.std.proofs.lemmas.Option.{slice_get-get_or, get_or_from_slice_get}
use Rattle.std.proofs.lemmas.Bool.{and_left, and_right, and_from, cond-true, cond-false}
use Rattle.std.proofs.lemmas.Bool.Decides.{eqb_tells}
use Rattle.mig_base.specs.declared.nets.PinLine.{PinLine}
use Rattle.mig_base.specs.Boards.{At, ChipUnit, at_of, registers_of, same_at, line_at, place_of}
use Rattle.equations.specs.Tables.{IsTable}

within : (chips chip pin : ℕ) → chip < chips → pin < 256 → 256 * chip + pin < 256 * chips
within chips chip pin h k = omega arith

pub table-new : {T : Type 0} (chips : ℕ) (v : T) (f : At → T) → ((q : At) → f q ≡ v) → IsTable f chips (replicate (256 * chips) v)
table-new chips v f same = record {
  size = length-replicate (256 * chips) v;
  gives = λ chip pin h k.
      slice_get-get_or (replicate (256 * chips) v) (256 * chip + pin) v (rw length-replicate (within chips chip pin h k))
      ∙ ap Some (get_or-replicate (256 * chips) (256 * chip + pin) v v (within chips chip pin h k) ∙ sym (same (chip, pin)));
}

-- a place of a table is that of one pin alone
place-cases : (j p chip pin : ℕ) → p < 256 → pin < 256 →
    ((256 * j + p ≡ 256 * chip + pin) × (same_at (j, p) (chip, pin) ≡ true)) ⊎ ((256 * j + p ≢ 256 * chip + pin) × (same_at (j, p) (chip, pin) ≡ false))
place-cases j p chip pin h k = elim (eqb_tells j chip) [
  | inr far ↦ inr ((λ e. far.1 (omega arith)), and_left (eqb j chip) (eqb p pin) far.0)
  | inl near ↦ elim (eqb_tells p pin) [
    | inr far ↦ inr ((λ e. far.1 (omega arith)), and_right (eqb j chip) (eqb p pin) far.0)
    | inl same ↦ inl (omega arith, and_from (eqb j chip) (eqb p pin) near.0 same.0)
  ]
]

pub table-set : {T : Type 0} (f g : At → T) (chips : ℕ) (entries : List T) (chip pin : ℕ) (v : T) → pin < 256 → IsTable f chips entries →
    ((j p : ℕ) → g (j, p) ≡ (if same_at (j, p) (chip, pin) then v else f (j, p))) → IsTable g chips (set entries (256 * chip + pin) v)
table-set f g chips entries chip pin v small table says = record {
  size = length-set entries (256 * chip + pin) v ∙ table.size;
  gives = λ j p h k.
      let at = 256 * j + p in
      let place = 256 * chip + pin in
      let inside : at < length entries = let s = table.size in let w = within chips j p h k in omega arith in
      let inside-set : at < length (set entries place v) = let s = length-set entries place v in omega arith in
      slice_get-get_or (set entries place v) at v inside-set
      ∙ ap Some (elim (place-cases j p chip pin k small) [
        | inl same ↦ get_or-set_at entries place at v v same.0 (let e = same.0 in omega arith) ∙ sym (says j p ∙ cond-true (same_at (j, p) (chip, pin)) v (f (j, p)) same.1)
        | inr other ↦ get_or-set_other entries place at v v other.0 ∙ get_or_from_slice_get entries at (f (j, p)) v (table.gives j p h k)
            ∙ sym (says j p ∙ cond-false (same_at (j, p) (chip, pin)) v (f (j, p)) other.1)
      ]);
}

pub line-table : (lines : List PinLine) (i k chips : ℕ) (d : PinLine) (table : List (Option ℕ)) → i ≡ k + 1 → k < length lines → (get_or lines k d).pin < 256 →
    IsTable (line_at (drop i lines)) chips table → IsTable (line_at (drop k lines)) chips (set table (256 * (get_or lines k d).chip + (get_or lines k d).pin) (Some (get_or lines k d).net))
line-table lines i k chips d table e h small before =
    let l = get_or lines k d in
    table-set (line_at (drop i lines)) (line_at (drop k lines)) chips table l.chip l.pin (Some l.net) small before
    (λ j p. at_drop_more {X = PinLine} {Y = Option ℕ} (λ ls. line_at ls (j, p)) lines k d h
    ∙ ap (λ (n : ℕ). if same_at (j, p) (l.chip, l.pin) then Some l.net else line_at (drop n lines) (j, p)) (sym e))

place-step : (s : Bool) (first k n : ℕ) → first + (k + (if s then 0 else n + 1)) ≡ (if s then first + k else first + ((k + 1) + n))
place-step true first k n = omega arith
place-step false first k n = omega arith

pub place-table : (listed : List At) (i k chips first : ℕ) (d : At) (table : List ℕ) → i ≡ k + 1 → k < length listed → (get_or listed k d).1 < 256 →
    IsTable (λ q. first + (i + place_of q (drop i listed))) chips table →
    IsTable (λ q. first + (k + place_of q (drop k listed))) chips (set table (256 * (get_or listed k d).0 + (get_or listed k d).1) (first + k))
place-table listed i k chips first d table e h small before =
    let at = get_or listed k d in
    table-set (λ q. first + (i + place_of q (drop i listed))) (λ q. first + (k + place_of q (drop k listed))) chips table at.0 at.1 (first + k) small before
    (λ j p. at_drop_more {X = At} {Y = ℕ} (λ ls. first + (k + place_of (j, p) ls)) listed k d h
    ∙ place-step (same_at (j, p) at) first k (place_of (j, p) (drop (k + 1) listed))
    ∙ ap (λ (n : ℕ). if same_at (j, p) at then first + k else first + (n + place_of (j, p) (drop n listed))) (sym e))

-- a table of the places of registers, counted from 0
pub register-table : (pins : List At) (units : List ChipUnit) (chips n : ℕ) (t : List ℕ) → pins ≡ map at_of (registers_of units) → chips ≡ n → IsTable (λ q. 0 + place_of q pins) chips t →
    IsTable (λ q. place_of q (map at_of (registers_of units))) n t
register-table pins units chips n t same many table =
    let plain : IsTable (λ q. place_of q pins) chips t = subst (λ (f : At → ℕ). IsTable f chips t) (λ i q. zero-add (place_of q pins) i) table in
    subst (λ (m : ℕ). IsTable (λ q. place_of q (map at_of (registers_of units))) m t) many (subst (λ (ps : List At). IsTable (λ q. place_of q ps) chips t) same plain)
