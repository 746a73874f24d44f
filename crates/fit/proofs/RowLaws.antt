-- The rows of placed units that break no rule on their parts.
use Rattle.std.proofs.lemmas.Option.{same_Some}
use Rattle.std.proofs.Common.{if◌then◌else◌, ℕ, zero, suc, ◌+◌, ◌++◌, take, get_or, ◌≡◌, ◌⊎◌, ◌<◌, Bool, true, false, not, ◌&&◌, ◌||◌, List, [], ◌∷◌, length, Option, Some, None, refl, sym, ap, ◌∙◌, subst, inl, inr, arith}
use Rattle.std.specs.Prelude.{is_some}
use Rattle.std.proofs.lemmas.Bool.{lt-ltb, and_parts}
use Rattle.std.proofs.lemmas.List.{take_more}
use Rattle.std.specs.List.{slice_get, AllByRecursion}
use Rattle.mig_base.specs.Among.{Among}
use Rattle.mig_base.specs.declared.plans.Plan.{Plan}
use Rattle.mig_base.specs.declared.plans.Part.{Part}
use Rattle.mig_base.specs.declared.plans.Part.TheVariants as part
use Rattle.mig_base.specs.declared.plans.Breach.{Breach}
use Rattle.mig_base.specs.declared.plans.Breach.TheVariants as breach
use Rattle.mig_base.specs.declared.circuit.Gives.{Gives}
use Rattle.mig_base.specs.declared.circuit.Gives.TheVariants.{Sum, Visible}
use Rattle.mig_base.specs.declared.circuit.Driver.{Driver}
use Rattle.mig_base.specs.DeviceTables.{is_22}
use Rattle.board.specs.Joined.{Joined, equations_of}
use Rattle.new_board.specs.declared.types.PlacedUnit.{PlacedUnit}
use Rattle.new_board.specs.NewChip.{register_driven, register_given}
use Rattle.new_board.specs.OneForOne.{old_driving, old_giving}
use Rattle.plans.specs.FirstOf.{NoneOf, AreEach}
use Rattle.plans.specs.declared.placing.Placing.{Placing}
use Rattle.plans.specs.Placings.{placings, absorbed_units}
use Rattle.plans.specs.Forms.{Products, IsForm, IsControl, IsControlBy, IsGate, AreRows, has_register, reads_absorbed, read_absorbed, old_products, part_of, room_of}
use Rattle.plans.specs.UnitBreaches.{controls, GivesWidePart, GivesConeWide, GivesPrimesOver, GivesReset, GivesEnable, GivesTermsOver, BothParts, breaks_reset, share_row, is_never, are_many, first_on}
use Rattle.plans.specs.Breaches.{ConeWide, PrimesOver, WrongReset, WrongEnable, TermsOver, RuleGives}
use Rattle.plans.proofs.Firsts.{none-each}
use Rattle.plans.proofs.FormLaws.{control-one}
use Rattle.forms.specs.declared.logic.Form.{Form}
use Rattle.forms.specs.declared.logic.Form.TheVariants as form
use Rattle.forms.specs.declared.controls.Control.{Control}
use Rattle.forms.specs.declared.controls.Control.TheVariants as control
use Rattle.forms.specs.Outcomes.{IsFormOf, IsControlOf}
use Rattle.fit.specs.declared.parts.UnitParts.{UnitParts}
use Rattle.fit.specs.UnitAnswers.{part_rules}
use Rattle.fit.specs.Parts.{AreParts, AreAllParts}
use Rattle.fit.specs.Rows.{is_one_row, is_row, is_fitting, is_clear, gate_by, logic_by, row_by, rows_by}
use Rattle.fit.proofs.EachLaws.{each-some}
use Rattle.fit.proofs.FirstUnits.{first-own, first-placed}

-- a placed unit breaks no rule on its parts
pub record IsFree (b : Joined) (p : Plan) (x : Placing) : Type 0 where
  pub wide : NoneOf (GivesWidePart b (absorbed_units b p) x) (part.Logic ∷ controls)
  pub over : (y : Breach) → GivesPrimesOver b (absorbed_units b p) x y → ⊥
  pub reset : (y : Breach) → GivesReset b p x y → ⊥
  pub enable : (y : Breach) → GivesEnable b p x y → ⊥
  pub terms : (y : Breach) → GivesTermsOver b (absorbed_units b p) x y → ⊥

pub free-each : (b : Joined) (p : Plan) → NoneOf (RuleGives b p) part_rules → (x : Placing) → Among x (placings b p) → IsFree b p x
free-each b p none x a = record {
  wide = none-each (GivesConeWide b (absorbed_units b p)) (placings b p) (none-each (RuleGives b p) part_rules none ConeWide (inl refl)) x a;
  over = none-each (GivesPrimesOver b (absorbed_units b p)) (placings b p) (none-each (RuleGives b p) part_rules none PrimesOver (inr (inl refl))) x a;
  reset = none-each (GivesReset b p) (placings b p) (none-each (RuleGives b p) part_rules none WrongReset (inr (inr (inl refl)))) x a;
  enable = none-each (GivesEnable b p) (placings b p) (none-each (RuleGives b p) part_rules none WrongEnable (inr (inr (inr (inl refl))))) x a;
  terms = none-each (GivesTermsOver b (absorbed_units b p)) (placings b p) (none-each (RuleGives b p) part_rules none TermsOver (inr (inr (inr (inr (inl refl)))))) x a;
}

few-row : (ps : Products) → are_many ps ≡ false → is_one_row ps ≡ true
few-row [] e = refl
few-row (q ∷ []) e = refl
few-row (q ∷ r ∷ ps) e = let many : are_many (q ∷ r ∷ ps) ≡ true = lt-ltb 1 (length (q ∷ r ∷ ps)) (omega arith) in let wrong : true ≡ false = sym many ∙ e in cc

all-true : (p q r s : Bool) → p ≡ true → q ≡ true → r ≡ true → s ≡ true → (p && (q && (r && s))) ≡ true
all-true p q r s a c d e = (λ i. a i && (c i && (d i && e i)))

-- a combinational unit has neither reset nor preset
unregistered : (b : Joined) (u : ℕ) (q : Part) → (q ≡ part.Reset) ⊎ (q ≡ part.Preset) → has_register b u ≡ false → old_products (equations_of b) u q ≡ []
unregistered b u q is e = at q is (slice_get (equations_of b).units u) refl
  where
    given : (d : Driver) (g : Gives) → is_some (register_given g) ≡ false → (q : Part) → (q ≡ part.Reset) ⊎ (q ≡ part.Preset) → part_of (old_giving (equations_of b) 0 u d g) q ≡ []
    given d (Visible k) none q is = let wrong = none in cc
    given d (Sum terms) none part.Logic (inl is) = let wrong = is in cc
    given d (Sum terms) none part.Logic (inr is) = let wrong = is in cc
    given d (Sum terms) none part.Enable (inl is) = let wrong = is in cc
    given d (Sum terms) none part.Enable (inr is) = let wrong = is in cc
    given d (Sum terms) none part.Reset is = refl
    given d (Sum terms) none part.Preset is = refl

    none-there : (q : Part) → (q ≡ part.Reset) ⊎ (q ≡ part.Preset) → part_of (old_driving (equations_of b) 0 u None) q ≡ []
    none-there part.Logic is = refl
    none-there part.Enable is = refl
    none-there part.Reset is = refl
    none-there part.Preset is = refl

    at : (q : Part) → (q ≡ part.Reset) ⊎ (q ≡ part.Preset) → (o : Option Driver) → slice_get (equations_of b).units u ≡ o → old_products (equations_of b) u q ≡ []
    at q is None there = ap (λ (o : Option Driver). part_of (old_driving (equations_of b) 0 u o) q) there ∙ none-there q is
    at q is (Some d) there =
        ap (λ (o : Option Driver). part_of (old_driving (equations_of b) 0 u o) q) there
        ∙ given d d.gives (ap (λ (o : Option Driver). is_some (register_driven o)) (sym there) ∙ e) q is

module _ (b : Joined) (p : Plan) (all : List UnitParts) (each : AreAllParts b p all) (none : NoneOf (RuleGives b p) part_rules) where
  abbrev Own : ℕ → Part → Products → Type 0
  Own u q ps = IsControl b (absorbed_units b p) u q (Some ps)

  form-fitting : (x : Placing) (f : Form) → IsFree b p x → IsFormOf b (absorbed_units b p) x.unit (room_of b x) f → is_fitting f ≡ true
  form-fitting x (form.Fits low terms) free h = refl
  form-fitting x (form.Wide count) free h = absurd (free.wide (breach.ConeWide x.name count) (inl (record { reads = h.reads; count = count; wide = h.wide; names = refl })))
  form-fitting x form.PrimesOver free h = absurd (free.over (breach.PrimesOver x.name) (record { over = inl h; names = refl }))
  form-fitting x (form.TermsOver needed) free h =
      absurd (free.terms (breach.TermsOver x.name needed (room_of b x).most) (record { none_fits = h.none_fits; needed = needed; least = h.least; names = refl }))

  -- a part other than Logic has products
  control-made : (x : Placing) (q : Part) (c : Control) → Among q controls → IsFree b p x → IsControlOf b (absorbed_units b p) x.unit q c → (ps : Products) × (c ≡ control.Made ps) × Own x.unit q ps
  control-made x q (control.Made products) a free h = (products, refl, h)
  control-made x q (control.Wide count) a free h =
      absurd (none-each (GivesWidePart b (absorbed_units b p) x) (part.Logic ∷ controls) free.wide q (inr a) (breach.ConeWide x.name count) (record { reads = h.reads; count = count; wide = h.wide; names = refl }))
  control-made x q control.PrimesOver a free h = absurd (free.over (breach.PrimesOver x.name) (record { over = inr (record { control = q; among = a; over = h }); names = refl }))

  row-of-few : (c : Control) (ps : Products) → c ≡ control.Made ps → are_many ps ≡ false → is_row c ≡ true
  row-of-few c ps e few = ap is_row e ∙ few-row ps few

  not-many : (ps : Products) → (are_many ps ≡ true → ⊥) → are_many ps ≡ false
  not-many ps never = at (are_many ps) refl
    where
      at : (q : Bool) → are_many ps ≡ q → are_many ps ≡ false
      at true e = absurd (never e)
      at false e = e

  enable-row : (x : Placing) (c : Control) → IsFree b p x → IsControlOf b (absorbed_units b p) x.unit part.Enable c → is_row c ≡ true
  enable-row x c free h =
      let m = control-made x part.Enable c (inl refl) free h in
      row-of-few c m.0 m.1 (not-many m.0 (λ many. free.enable (breach.Enable x.name) (record { breaks = inl (record { products = m.0; own = m.2; many = many }); names = refl })))

  -- reset and preset of a registered unit share a row with those of the first one
  shared-few : (x : Placing) (q : Part) (ps : Products) → Among x (placings b p) → has_register b x.unit ≡ true → IsFree b p x → Own x.unit q ps → (q ≡ part.Reset) ⊎ (q ≡ part.Preset) → are_many ps ≡ false
  shared-few x q ps a registered free own is = not-many ps (λ many. broken many)
    where
      first : (y : Placing) × (first_on b p x ≡ Some y)
      first = first-own b p x a registered

      there : Among first.0 (placings b p)
      there = first-placed b p x first.0 first.1

      its : (parts : UnitParts) × AreParts b (absorbed_units b p) first.0 parts
      its = each-some (AreParts b (absorbed_units b p)) (placings b p) all first.0 each there

      its_free : IsFree b p first.0
      its_free = free-each b p none first.0 there

      firsts : (r : Part) → (r ≡ part.Reset) ⊎ (r ≡ part.Preset) → (fs : Products) × Own first.0.unit r fs
      firsts r (inl e) = let m = control-made first.0 part.Reset its.0.reset (inr (inl refl)) its_free its.1.reset in (m.0, subst (λ (s : Part). Own first.0.unit s m.0) (sym e) m.2)
      firsts r (inr e) = let m = control-made first.0 part.Preset its.0.preset (inr (inr (inl refl))) its_free its.1.preset in (m.0, subst (λ (s : Part). Own first.0.unit s m.0) (sym e) m.2)

      both : (r : Part) → (r ≡ part.Reset) ⊎ (r ≡ part.Preset) → Own x.unit r ps → BothParts b p x r
      both r e o = let f = firsts r e in record { products = ps; own = o; first = first.0; is_first = first.1; firsts = f.0; of_first = f.1 }

      broken : are_many ps ≡ true → ⊥
      broken many = at is
        where
          breaks : (fs : Products) → breaks_reset (is_22 x.chip.kind) ps fs ≡ true
          breaks fs = ap (λ (m : Bool). m || (if is_22 x.chip.kind then not (share_row ps fs) else not (is_never ps))) many

          at : (q ≡ part.Reset) ⊎ (q ≡ part.Preset) → ⊥
          at (inl e) = let o = both part.Reset (inl refl) (subst (λ (s : Part). Own x.unit s ps) e own) in
              free.reset (breach.Reset x.name) (record { registered = registered; breaks = inl (record { both = o; breaks = breaks o.firsts }); names = refl })
          at (inr e) = let o = both part.Preset (inr refl) (subst (λ (s : Part). Own x.unit s ps) e own) in
              free.reset (breach.Reset x.name) (record { registered = registered; breaks = inr (record { both = o; breaks = breaks o.firsts }); names = refl })

  -- and a combinational unit has none
  unshared-few : (x : Placing) (q : Part) (ps : Products) → has_register b x.unit ≡ false → Own x.unit q ps → (q ≡ part.Reset) ⊎ (q ≡ part.Preset) → are_many ps ≡ false
  unshared-few x q ps unreg own is =
      let old : old_products (equations_of b) x.unit q ≡ [] = unregistered b x.unit q is unreg in
      let reads : reads_absorbed b (absorbed_units b p) x.unit q ≡ false = ap (read_absorbed (equations_of b) (absorbed_units b p)) old in
      let empty : Own x.unit q [] = subst (λ (r : Bool). IsControlBy r b (absorbed_units b p) x.unit q (Some [])) (sym reads) (ap (λ (qs : Products). Some qs) (sym old)) in
      ap are_many (same_Some ps [] (control-one b (absorbed_units b p) x.unit q (Some ps) (Some []) own empty))

  shared-row : (x : Placing) (q : Part) (c : Control) → Among x (placings b p) → Among q controls → (q ≡ part.Reset) ⊎ (q ≡ part.Preset) → IsFree b p x → IsControlOf b (absorbed_units b p) x.unit q c → is_row c ≡ true
  shared-row x q c a among is free h =
      let m = control-made x q c among free h in
      row-of-few c m.0 m.1 (by (has_register b x.unit) refl m.0 m.2)
    where
      by : (r : Bool) → has_register b x.unit ≡ r → (ps : Products) → Own x.unit q ps → are_many ps ≡ false
      by true e ps own = shared-few x q ps a e free own is
      by false e ps own = unshared-few x q ps e own is

  -- a unit's parts are clear
  pub parts-clear : (x : Placing) (parts : UnitParts) → Among x (placings b p) → AreParts b (absorbed_units b p) x parts → is_clear parts ≡ true
  parts-clear x parts a h =
      let free = free-each b p none x a in
      all-true (is_fitting parts.logic) (is_row parts.enable) (is_row parts.reset) (is_row parts.preset)
      (form-fitting x parts.logic free h.logic) (enable-row x parts.enable free h.enable)
      (shared-row x part.Reset parts.reset a (inr (inl refl)) (inl refl) free h.reset) (shared-row x part.Preset parts.preset a (inr (inr (inl refl))) (inr refl) free h.preset)

-- the rows of clear parts

gate-made : (b : Joined) (absorbed : List ℕ) (u : ℕ) (q : Part) (c : Control) → IsControlOf b absorbed u q c → is_row c ≡ true → IsGate b absorbed u q (gate_by c)
gate-made b absorbed u q (control.Made []) h e = h
gate-made b absorbed u q (control.Made (r ∷ [])) h e = h
gate-made b absorbed u q (control.Made (r ∷ s ∷ ps)) h e = let wrong = e in cc
gate-made b absorbed u q (control.Wide count) h e = let wrong = e in cc
gate-made b absorbed u q control.PrimesOver h e = let wrong = e in cc

logic-made : (b : Joined) (absorbed : List ℕ) (x : Placing) (f : Form) → IsFormOf b absorbed x.unit (room_of b x) f → is_fitting f ≡ true → IsForm b absorbed x.unit (room_of b x) (record { low = (logic_by f).low; terms = (logic_by f).terms })
logic-made b absorbed x (form.Fits low terms) h e = h
logic-made b absorbed x (form.Wide count) h e = let wrong = e in cc
logic-made b absorbed x form.PrimesOver h e = let wrong = e in cc
logic-made b absorbed x (form.TermsOver needed) h e = let wrong = e in cc

pub rows-made : (b : Joined) (absorbed : List ℕ) (x : Placing) (parts : UnitParts) → AreParts b absorbed x parts → is_clear parts ≡ true → AreRows b absorbed x (row_by x parts)
rows-made b absorbed x parts h e =
    let one = and_parts (is_fitting parts.logic) (is_row parts.enable && (is_row parts.reset && is_row parts.preset)) e in
    let two = and_parts (is_row parts.enable) (is_row parts.reset && is_row parts.preset) one.1 in
    let three = and_parts (is_row parts.reset) (is_row parts.preset) two.1 in
    record {
      pin = refl;
      unit = refl;
      logic = logic-made b absorbed x parts.logic h.logic one.0;
      enable = gate-made b absorbed x.unit part.Enable parts.enable h.enable two.0;
      reset = gate-made b absorbed x.unit part.Reset parts.reset h.reset three.0;
      preset = gate-made b absorbed x.unit part.Preset parts.preset h.preset three.1;
    }

-- all placed units have clear parts, and these rows

pub all-clear : (b : Joined) (p : Plan) (all : List UnitParts) → AreAllParts b p all → NoneOf (RuleGives b p) part_rules → AllByRecursion (λ q. is_clear q ≡ true) all
all-clear b p all each none = at (placings b p) all each (λ x a. a)
  where
    at : (xs : List Placing) (ps : List UnitParts) → AreEach (AreParts b (absorbed_units b p)) xs ps → ((x : Placing) → Among x xs → Among x (placings b p)) → AllByRecursion (λ q. is_clear q ≡ true) ps
    at [] [] h put = tt
    at [] (q ∷ ps) h put = absurd h
    at (x ∷ xs) [] h put = absurd h
    at (x ∷ xs) (q ∷ ps) h put = (parts-clear b p all each none x q (put x (inl refl)) h.0, at xs ps h.1 (λ y a. put y (inr a)))

pub each-row : (b : Joined) (absorbed : List ℕ) (xs : List Placing) (ps : List UnitParts) → AreEach (AreParts b absorbed) xs ps → AllByRecursion (λ q. is_clear q ≡ true) ps → AreEach (AreRows b absorbed) xs (rows_by xs ps)
each-row b absorbed [] [] h k = tt
each-row b absorbed [] (q ∷ ps) h k = absurd h
each-row b absorbed (x ∷ xs) [] h k = absurd h
each-row b absorbed (x ∷ xs) (q ∷ ps) h k = (rows-made b absorbed x q h.0 k.0, each-row b absorbed xs ps h.1 k.1)

-- the rows of one more unit

rows-append : (xs : List Placing) (ps : List UnitParts) (x : Placing) (q : UnitParts) → length xs ≡ length ps → rows_by (xs ++ x ∷ []) (ps ++ q ∷ []) ≡ rows_by xs ps ++ row_by x q ∷ []
rows-append [] [] x q long = refl
rows-append [] (r ∷ rs) x q long = absurd (omega arith)
rows-append (z ∷ zs) [] x q long = absurd (omega arith)
rows-append (z ∷ zs) (r ∷ rs) x q long = ap (λ (us : List PlacedUnit). row_by z r ∷ us) (rows-append zs rs x q (omega arith))

take-long : (xs : List Placing) (ps : List UnitParts) (i : ℕ) → length xs ≡ length ps → length (take i xs) ≡ length (take i ps)
take-long xs ps zero long = refl
take-long [] [] (suc i) long = refl
take-long [] (r ∷ rs) (suc i) long = absurd (omega arith)
take-long (z ∷ zs) [] (suc i) long = absurd (omega arith)
take-long (z ∷ zs) (r ∷ rs) (suc i) long = ap suc (take-long zs rs i (omega arith))

pub rows-pushed : (xs : List Placing) (ps : List UnitParts) (i : ℕ) (x : Placing) (q : UnitParts) (row : PlacedUnit) (before after : List PlacedUnit) → i < length xs → length xs ≡ length ps → x ≡ get_or xs i x → q ≡ get_or ps i q →
    row ≡ row_by x q → after ≡ before ++ row ∷ [] → before ≡ rows_by (take i xs) (take i ps) → after ≡ rows_by (take (i + 1) xs) (take (i + 1) ps)
rows-pushed xs ps i x q row before after lt long is its e k h =
    let within : i < length ps = omega arith in
    k ∙ (λ j. h j ++ e j ∷ []) ∙ sym (rows-append (take i xs) (take i ps) x q (take-long xs ps i long))
    ∙ (λ j. rows_by (take i xs ++ is j ∷ []) (take i ps ++ its j ∷ [])) ∙ sym (λ j. rows_by (take_more xs i x lt j) (take_more ps i q within j))
