-- The forms of a placed unit's parts read no absorbed net.
use Rattle.std.proofs.Common.{ℕ, ◌≡◌, Bool, true, false, List, [], ◌∷◌, Option, Some, None, refl, sym, ap, ◌∙◌, subst, inl, inr, eqb, eqb-true}
use Rattle.std.specs.List.{filter_map, list_any, slice_get}
use Rattle.std.specs.Option.{option_map}
use Rattle.std.proofs.lemmas.Option.{same_Some}
use Rattle.mig_base.specs.declared.circuit.Literal.{Literal}
use Rattle.mig_base.specs.declared.circuit.Wire.{Wire}
use Rattle.mig_base.specs.declared.circuit.Circuit.{Circuit}
use Rattle.mig_base.specs.declared.nets.Var.{Var}
use Rattle.mig_base.specs.declared.nets.Var.TheVariants.{Net, Reg}
use Rattle.mig_base.specs.declared.nets.VarProduct.{VarProduct}
use Rattle.mig_base.specs.declared.plans.Part.{Part}
use Rattle.mig_base.specs.declared.plans.Part.TheVariants.{Logic}
use Rattle.mig_base.specs.Among.{Among}
use Rattle.mig_base.proofs.Amongs.{among-map, any-among, map-among}
use Rattle.board.specs.Joined.{Joined, equations_of}
use Rattle.board.specs.Variables.{read_of}
use Rattle.joiner.specs.Joined.{IsAbsorbed, IsCone, Names, itself, through, unit_part}
use Rattle.new_board.proofs.Items.{among-unfilter_map}
use Rattle.primes.specs.Prime.{Product}
use Rattle.rails.specs.Variables.{all_rails}
use Rattle.plans.specs.Forms.{Direct, Inverse, IsControl, IsControlBy, IsCovered, IsForm, IsOffered, LogicForm, Old, Products, Room, Try, cover_products, is_absorbed_read, is_absorbed_wire, is_sole_absorbed, old_low, old_products, rail_literal, read_absorbed, reads_absorbed, tries, tries_by}
use Rattle.fitted_cells.proofs.OwnReads.{form-fits, rail-read, rail-variable}

-- what is named is driven by no absorbed unit
named-stays : (b : Joined) (absorbed : List ℕ) (v : Var) (terms : List VarProduct) → Names b absorbed v terms → (n u : ℕ) → v ≡ Net n → IsAbsorbed b absorbed n u → ⊥
named-stays b absorbed v terms (itself x stands is none) = none
named-stays b absorbed v terms (through x stands n u is by more) = named-stays b absorbed v (unit_part b u Logic).terms more

-- an absorbed net is driven by one alone
absorbed-net : (b : Joined) (absorbed : List ℕ) (n : ℕ) → is_absorbed_wire absorbed (slice_get (equations_of b).nets n) ≡ true → (u : ℕ) × IsAbsorbed b absorbed n u
absorbed-net b absorbed n e = at (slice_get (equations_of b).nets n) refl e
  where
    by : (w : Wire) → slice_get (equations_of b).nets n ≡ Some w → (ds : List ℕ) → w.drivers ≡ ds → is_sole_absorbed absorbed ds ≡ true → (u : ℕ) × IsAbsorbed b absorbed n u
    by w is [] ds e = cc
    by w is (u ∷ []) ds e =
        let found = any-among (λ a. eqb a u) absorbed e in
        (u, record { wire = w; on = is; alone = ds; listed = subst (λ (a : ℕ). Among a absorbed) (eqb-true found.0 u found.2) found.1 })
    by w is (u ∷ v ∷ more) ds e = cc

    at : (o : Option Wire) → slice_get (equations_of b).nets n ≡ o → is_absorbed_wire absorbed o ≡ true → (u : ℕ) × IsAbsorbed b absorbed n u
    at None is e = cc
    at (Some w) is e = by w is w.drivers refl e

variable-stays : (b : Joined) (absorbed : List ℕ) (v : Var) (terms : List VarProduct) → Names b absorbed v terms → is_absorbed_read (equations_of b) absorbed (read_of b.chips v) ≡ false
variable-stays b absorbed (Reg u) terms named = refl
variable-stays b absorbed (Net n) terms named = at (is_absorbed_wire absorbed (slice_get (equations_of b).nets n)) refl
  where
    at : (q : Bool) → is_absorbed_wire absorbed (slice_get (equations_of b).nets n) ≡ q → q ≡ false
    at false e = refl
    at true e = let u = absorbed-net b absorbed n e in absurd (named-stays b absorbed (Net n) terms named n u.0 refl u.1)

-- rows each of whose literals stays
none-absorbed : (c : Circuit) (absorbed : List ℕ) (ps : Products) → ((t : List Literal) (x : Literal) → Among t ps → Among x t → is_absorbed_read c absorbed x.source ≡ false) → read_absorbed c absorbed ps ≡ false
none-absorbed c absorbed ps stay = at (read_absorbed c absorbed ps) refl
  where
    at : (q : Bool) → read_absorbed c absorbed ps ≡ q → q ≡ false
    at false e = refl
    at true e =
        let t = any-among (λ (lits : List Literal). list_any (λ (y : Literal). is_absorbed_read c absorbed y.source) lits) ps e in
        let x = any-among (λ (y : Literal). is_absorbed_read c absorbed y.source) t.0 t.2 in
        sym x.2 ∙ stay t.0 x.0 t.1 x.1

cover-stays : (b : Joined) (absorbed : List ℕ) (u : ℕ) (part : Part) (vars : List (Var × Bool)) (terms : List Product) → IsCone b absorbed (unit_part b u part).terms vars →
    read_absorbed (equations_of b) absorbed (cover_products b vars terms) ≡ false
cover-stays b absorbed u part vars terms cone = none-absorbed (equations_of b) absorbed (cover_products b vars terms) (λ lits x a ax.
    let term = among-map (filter_map (rail_literal b (all_rails vars))) lits terms a in
    let l = among-unfilter_map (rail_literal b (all_rails vars)) x term.0 (subst (Among x) term.2 ax) in
    let rail = rail-read b (all_rails vars) l.0 x l.2 in
    let w = rail-variable 0 vars rail.0 rail.1 in
    let named : Names b absorbed w.0.0 (unit_part b u part).terms = (cone.exact w.0.0).0 (map-among (λ (v : Var × Bool). v.0) w.0 vars w.1) in
    ap (is_absorbed_read (equations_of b) absorbed) (rail.2 ∙ ap (read_of b.chips) w.2) ∙ variable-stays b absorbed w.0.0 (unit_part b u part).terms named)

covered-stays : (b : Joined) (absorbed : List ℕ) (u : ℕ) (part : Part) (inverted : Bool) (ps : Products) → IsCovered b absorbed (unit_part b u part) inverted (Some ps) → read_absorbed (equations_of b) absorbed ps ≡ false
covered-stays b absorbed u part inverted ps c = at c.terms c.are
  where
    at : (o : Option (List Product)) → Some ps ≡ option_map (cover_products b c.vars) o → read_absorbed (equations_of b) absorbed ps ≡ false
    at None e = cc
    at (Some terms) e = ap (read_absorbed (equations_of b) absorbed) (same_Some ps (cover_products b c.vars terms) e) ∙ cover-stays b absorbed u part c.vars terms c.joined.cone

-- a part behind Logic
pub control-stays : (b : Joined) (absorbed : List ℕ) (u : ℕ) (part : Part) (ps : Products) → IsControl b absorbed u part (Some ps) → read_absorbed (equations_of b) absorbed ps ≡ false
control-stays b absorbed u part ps control = at (reads_absorbed b absorbed u part) refl control
  where
    at : (q : Bool) → reads_absorbed b absorbed u part ≡ q → IsControlBy q b absorbed u part (Some ps) → read_absorbed (equations_of b) absorbed ps ≡ false
    at true e c = covered-stays b absorbed u part false ps c
    at false e c = ap (read_absorbed (equations_of b) absorbed) (same_Some ps (old_products (equations_of b) u part) c) ∙ e

old-tried : (reads low may : Bool) → Among Old (tries_by reads low may) → reads ≡ false
old-tried false low may a = refl
old-tried true low true (inl e) = cc
old-tried true low true (inr (inl e)) = cc
old-tried true low true (inr (inr none)) = absurd none
old-tried true low false (inl e) = cc
old-tried true low false (inr none) = absurd none

-- the form of Logic
pub form-stays : (b : Joined) (absorbed : List ℕ) (u : ℕ) (room : Room) (x : LogicForm) → IsForm b absorbed u room x → read_absorbed (equations_of b) absorbed x.terms ≡ false
form-stays b absorbed u room x form =
    let f = form-fits b absorbed u room (tries b absorbed u room) x form in
    at f.0 f.1 f.2.offered
  where
    at : (t : Try) → Among t (tries b absorbed u room) → IsOffered b absorbed u t (Some x.terms) → read_absorbed (equations_of b) absorbed x.terms ≡ false
    at Old a e =
        ap (read_absorbed (equations_of b) absorbed) (same_Some x.terms (old_products (equations_of b) u Logic) e)
        ∙ old-tried (reads_absorbed b absorbed u Logic) (old_low (equations_of b) u) room.may_invert a
    at Direct a c = covered-stays b absorbed u Logic false x.terms c
    at Inverse a c = covered-stays b absorbed u Logic true x.terms c
