-- Boards with the same ports that show alike are the same.
use Rattle.std.proofs.Common.{◌≡◌, ℕ, Bool, true, false, cond, List, [], ◌∷◌, map, refl, sym, ap, ◌∙◌, subst}
use Rattle.std.specs.List.{filter, AllByRecursion}
use Rattle.mig_base.specs.declared.levels.Level.{Level}
use Rattle.mig_base.specs.declared.cells.ChipCells.{ChipCells}
use Rattle.mig_base.specs.declared.nets.Net.{Net}
use Rattle.mig_base.specs.declared.nets.NetLine.{NetLine}
use Rattle.mig_base.specs.declared.nets.Port.{Port}
use Rattle.mig_base.specs.declared.nets.Port.TheVariants.{Inner, Input, Output, Both}
use Rattle.mig_base.specs.Among.{Among}
use Rattle.mig_base.specs.Boards.{circuit, is_port, is_port_kind, is_handed}
use Rattle.level_laws.specs.Runs.{IsRun}
use Rattle.level_laws.specs.SameBehaviour.{IsLawful, ShowsAlike, Handing, handed_levels, port_names, shown_at, IsSame}

-- a handed net is a port
handed-ports : (ls : List NetLine) → filter (λ l. is_handed l.port) ls ≡ filter (λ l. is_handed l.port) (filter is_port ls)
handed-ports [] = refl
handed-ports (l ∷ ls) = by (is_handed l.port) (is_port_kind l.port) refl refl (handed-ports ls)
  where
    never : (p : Port) → is_handed p ≡ true → is_port_kind p ≡ false → ⊥
    never Inner h k = cc
    never Input h k = cc
    never Output h k = cc
    never Both h k = cc

    by : (h k : Bool) → is_handed l.port ≡ h → is_port_kind l.port ≡ k → filter (λ l. is_handed l.port) ls ≡ filter (λ l. is_handed l.port) (filter is_port ls) →
        cond h (l ∷ filter (λ l. is_handed l.port) ls) (filter (λ l. is_handed l.port) ls) ≡ filter (λ l. is_handed l.port) (cond k (l ∷ filter is_port ls) (filter is_port ls))
    by true true eh ek e =
        ap (λ (rest : List NetLine). l ∷ rest) e
        ∙ sym (ap (λ (q : Bool). cond q (l ∷ filter (λ l. is_handed l.port) (filter is_port ls)) (filter (λ l. is_handed l.port) (filter is_port ls))) eh)
    by true false eh ek e = absurd (never l.port eh ek)
    by false true eh ek e =
        e ∙ sym (ap (λ (q : Bool). cond q (l ∷ filter (λ l. is_handed l.port) (filter is_port ls)) (filter (λ l. is_handed l.port) (filter is_port ls))) eh)
    by false false eh ek e = e

abbrev handed_among : List NetLine → Handing → List Level
handed_among ls handing = map (λ l. handing l.name) (filter (λ l. is_handed l.port) ls)

handed-same : (a b : Net) → filter is_port a.nets ≡ filter is_port b.nets → (handing : Handing) → handed_levels b handing ≡ handed_levels a handing
handed-same a b e handing =
    ap (map (λ l. handing l.name)) (handed-ports b.nets)
    ∙ ap (λ (ls : List NetLine). handed_among ls handing) (sym e)
    ∙ sym (ap (map (λ l. handing l.name)) (handed-ports a.nets))

all-map : {T S : Type 0} (P : S → Type 0) (f : T → S) (xs : List T) → AllByRecursion (λ x. P (f x)) xs → AllByRecursion P (map f xs)
all-map P f [] h = tt
all-map P f (x ∷ xs) h = (h.0, all-map P f xs h.1)

map-both : {T S : Type 0} (f g : T → S) (xs : List T) → ((x : T) → f x ≡ g x) → map f xs ≡ map g xs
map-both f g [] h = refl
map-both {S = S} f g (x ∷ xs) h = ap (λ (y : S). y ∷ map f xs) (h x) ∙ ap (λ (rest : List S). g x ∷ rest) (map-both f g xs h)

pub same-boards : (a : Net) (chips_a : List ChipCells) (b : Net) (chips_b : List ChipCells) → filter is_port a.nets ≡ filter is_port b.nets →
    ShowsAlike (circuit a chips_a) (circuit b chips_b) → IsSame a chips_a b chips_b
same-boards a chips_a b chips_b e alike = record {
  ports = record {
    left = λ name dir h. subst (λ (ls : List NetLine). Among {T = List ℕ × Port} (name, dir) (map (λ l. (l.name, l.port)) ls)) e h;
    right = λ name dir h. subst (λ (ls : List NetLine). Among {T = List ℕ × Port} (name, dir) (map (λ l. (l.name, l.port)) ls)) (sym e) h;
  };
  shown = λ handings shown_a shown_b lawful run_a run_b name.
      let inputs : map (handed_levels b) handings ≡ map (handed_levels a) handings = map-both (handed_levels b) (handed_levels a) handings (handed-same a b e) in
      let shown : shown_a ≡ shown_b = alike (map (handed_levels a) handings) shown_a shown_b (all-map (IsLawful (circuit a chips_a)) (handed_levels a) handings lawful) run_a
      (subst (λ (is : List (List Level)). IsRun (circuit b chips_b) is shown_b) inputs run_b) in
      ap (map (λ levels. shown_at (port_names a) levels name)) shown
      ∙ ap (λ (ns : List (List ℕ)). map (λ levels. shown_at ns levels name) shown_b) (ap (map (λ l. l.name)) e);
}
