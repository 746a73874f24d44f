-- Rows that the registered units of a chip share.
use Rattle.std.proofs.Common.{ℕ, ◌≡◌, ◌⊎◌, Bool, true, false, ◌||◌, Option, Some, None, refl, sym, ap, ◌∙◌, subst, inl, inr}
use Rattle.mig_base.specs.declared.plans.Plan.{Plan}
use Rattle.mig_base.specs.declared.plans.Part.{Part}
use Rattle.mig_base.specs.declared.plans.Part.TheVariants as part
use Rattle.mig_base.specs.declared.plans.Breach.{Breach}
use Rattle.mig_base.specs.declared.plans.Breach.TheVariants as breach
use Rattle.mig_base.specs.DeviceTables.{is_22}
use Rattle.board.specs.Joined.{Joined}
use Rattle.plans.specs.declared.placing.Placing.{Placing}
use Rattle.plans.specs.Placings.{old, absorbed_units}
use Rattle.plans.specs.Forms.{Products, IsControl, has_register}
use Rattle.plans.specs.UnitBreaches.{first_on, BothParts, BreaksReset, GivesReset, HasManyProducts, BreaksPin, GivesEnable, breaks_reset, breaks_pin, uses_pin}
use Rattle.std.proofs.lemmas.Option.{same_Some}
use Rattle.forms.specs.declared.controls.Control.{Control}
use Rattle.forms.specs.Outcomes.{IsControlOf}
use Rattle.fit.specs.declared.parts.UnitParts.{UnitParts}
use Rattle.fit.specs.Parts.{AreParts, HasFirstParts, made_in, said_of, breaks_made, breaks_made_pin, has_many}
use Rattle.fit.proofs.PartLaws.{made-control, control-made}

module _ (b : Joined) (p : Plan) (x : Placing) where
  abbrev IsOf : ℕ → Part → Control → Type 0
  IsOf u q c = IsControlOf b (absorbed_units b p) u q c

  -- what is said of a part of the unit and of the chip's first registered one
  abbrev HasSaid : (Products → Products → Bool) → Part → Type 0
  HasSaid says q = (both : BothParts b p x q) × (says both.products both.firsts ≡ true)

  said-both : (says : Products → Products → Bool) (q : Part) (c d : Control) (first : Placing) → IsOf x.unit q c → first_on b p x ≡ Some first → IsOf first.unit q d → said_of says (made_in c) (made_in d) ≡ true → HasSaid says q
  said-both says q c d first h is k e = at (made_in c) refl (made_in d) refl e
    where
      at : (o : Option Products) → made_in c ≡ o → (r : Option Products) → made_in d ≡ r → said_of says o r ≡ true → HasSaid says q
      at None ho r hr e = let wrong = e in cc
      at (Some ps) ho None hr e = let wrong = e in cc
      at (Some ps) ho (Some fs) hr e = (
        record {
          products = ps;
          own = made-control b (absorbed_units b p) x.unit q c ps h ho;
          first = first;
          is_first = is;
          firsts = fs;
          of_first = made-control b (absorbed_units b p) first.unit q d fs k hr;
        },
        e,
      )

  both-said : (says : Products → Products → Bool) (q : Part) (c d : Control) (first : Placing) → IsOf x.unit q c → first_on b p x ≡ Some first → IsOf first.unit q d → HasSaid says q → said_of says (made_in c) (made_in d) ≡ true
  both-said says q c d first h is k both =
      let same : both.0.first ≡ first = same_Some both.0.first first (sym both.0.is_first ∙ is) in
      let own : made_in c ≡ Some both.0.products = control-made b (absorbed_units b p) x.unit q c both.0.products h both.0.own in
      let its : made_in d ≡ Some both.0.firsts = control-made b (absorbed_units b p) first.unit q d both.0.firsts k (subst (λ (y : Placing). IsControl b (absorbed_units b p) y.unit q (Some both.0.firsts)) same both.0.of_first) in
      (λ i. said_of says (own i) (its i)) ∙ both.1

  -- without a first registered unit nothing is shared
  pub none-shared : (q : Part) → first_on b p x ≡ None → BothParts b p x q → ⊥
  none-shared q e both = let wrong = sym e ∙ both.is_first in cc

  -- reset and preset

  reset-broken : (q : Part) → BreaksReset b p x q → HasSaid (breaks_reset (is_22 x.chip.kind)) q
  reset-broken q h = (h.both, h.breaks)

  pub reset-unregistered : has_register b x.unit ≡ false → (y : Breach) → GivesReset b p x y → ⊥
  reset-unregistered e y h = let wrong = sym e ∙ h.registered in cc

  pub reset-alone : first_on b p x ≡ None → (y : Breach) → GivesReset b p x y → ⊥
  reset-alone e y h = at h.breaks
    where
      at : BreaksReset b p x part.Reset ⊎ BreaksReset b p x part.Preset → ⊥
      at (inl k) = none-shared part.Reset e k.both
      at (inr k) = none-shared part.Preset e k.both

  abbrev broken : UnitParts → UnitParts → Bool
  broken parts firsts = breaks_made (is_22 x.chip.kind) parts.reset firsts.reset || breaks_made (is_22 x.chip.kind) parts.preset firsts.preset

  pub reset-gives : (parts firsts : UnitParts) → has_register b x.unit ≡ true → AreParts b (absorbed_units b p) x parts → HasFirstParts b p x firsts → broken parts firsts ≡ true → GivesReset b p x (breach.Reset x.name)
  reset-gives parts firsts e h k is = record { registered = e; breaks = at (breaks_made (is_22 x.chip.kind) parts.reset firsts.reset) refl is; names = refl }
    where
      at : (q : Bool) → breaks_made (is_22 x.chip.kind) parts.reset firsts.reset ≡ q → (q || breaks_made (is_22 x.chip.kind) parts.preset firsts.preset) ≡ true → BreaksReset b p x part.Reset ⊎ BreaksReset b p x part.Preset
      at true said is = let s = said-both (breaks_reset (is_22 x.chip.kind)) part.Reset parts.reset firsts.reset k.first h.reset k.is_first k.are.reset said in inl (record { both = s.0; breaks = s.1 })
      at false said is = let s = said-both (breaks_reset (is_22 x.chip.kind)) part.Preset parts.preset firsts.preset k.first h.preset k.is_first k.are.preset is in inr (record { both = s.0; breaks = s.1 })

  pub reset-free : (parts firsts : UnitParts) → AreParts b (absorbed_units b p) x parts → HasFirstParts b p x firsts → broken parts firsts ≡ false → (y : Breach) → GivesReset b p x y → ⊥
  reset-free parts firsts h k is y g = at g.breaks
    where
      all : broken parts firsts ≡ true → ⊥
      all e = let wrong = sym is ∙ e in cc

      or-right : (q : Bool) → (q || true) ≡ true
      or-right true = refl
      or-right false = refl

      at : BreaksReset b p x part.Reset ⊎ BreaksReset b p x part.Preset → ⊥
      at (inl r) = all (ap (λ (q : Bool). q || breaks_made (is_22 x.chip.kind) parts.preset firsts.preset)
          (both-said (breaks_reset (is_22 x.chip.kind)) part.Reset parts.reset firsts.reset k.first h.reset k.is_first k.are.reset (reset-broken part.Reset r)))
      at (inr r) = all (ap (λ (q : Bool). breaks_made (is_22 x.chip.kind) parts.reset firsts.reset || q)
          (both-said (breaks_reset (is_22 x.chip.kind)) part.Preset parts.preset firsts.preset k.first h.preset k.is_first k.are.preset (reset-broken part.Preset r))
          ∙ or-right (breaks_made (is_22 x.chip.kind) parts.reset firsts.reset))

  -- enables

  pub pin-breaks : (parts firsts : UnitParts) → uses_pin b x ≡ true → AreParts b (absorbed_units b p) x parts → HasFirstParts b p x firsts → breaks_made_pin (old b) parts.enable firsts.enable ≡ true → BreaksPin b p x
  pin-breaks parts firsts e h k is =
      let s = said-both (breaks_pin b) part.Enable parts.enable firsts.enable k.first h.enable k.is_first k.are.enable is in
      record { uses = e; both = s.0; breaks = s.1 }

  pub breaks-pin : (parts firsts : UnitParts) → AreParts b (absorbed_units b p) x parts → HasFirstParts b p x firsts → BreaksPin b p x → breaks_made_pin (old b) parts.enable firsts.enable ≡ true
  breaks-pin parts firsts h k g = both-said (breaks_pin b) part.Enable parts.enable firsts.enable k.first h.enable k.is_first k.are.enable (g.both, g.breaks)

  pub unused-pin : uses_pin b x ≡ false → BreaksPin b p x → ⊥
  unused-pin e g = let wrong = sym e ∙ g.uses in cc

  many-products : (c : Control) → IsOf x.unit part.Enable c → has_many (made_in c) ≡ true → HasManyProducts b p x part.Enable
  many-products c h e = at (made_in c) refl e
    where
      at : (o : Option Products) → made_in c ≡ o → has_many o ≡ true → HasManyProducts b p x part.Enable
      at None ho e = let wrong = e in cc
      at (Some ps) ho e = record { products = ps; own = made-control b (absorbed_units b p) x.unit part.Enable c ps h ho; many = e }

  products-many : (c : Control) → IsOf x.unit part.Enable c → HasManyProducts b p x part.Enable → has_many (made_in c) ≡ true
  products-many c h g = ap has_many (control-made b (absorbed_units b p) x.unit part.Enable c g.products h g.own) ∙ g.many

  pub enable-many : (parts : UnitParts) → AreParts b (absorbed_units b p) x parts → has_many (made_in parts.enable) ≡ true → GivesEnable b p x (breach.Enable x.name)
  enable-many parts h e = record { breaks = inl (many-products parts.enable h.enable e); names = refl }

  pub enable-pin : BreaksPin b p x → GivesEnable b p x (breach.Enable x.name)
  enable-pin h = record { breaks = inr h; names = refl }

  pub enable-free : (parts : UnitParts) → AreParts b (absorbed_units b p) x parts → has_many (made_in parts.enable) ≡ false → (BreaksPin b p x → ⊥) → (y : Breach) → GivesEnable b p x y → ⊥
  enable-free parts h few never y g = at g.breaks
    where
      at : HasManyProducts b p x part.Enable ⊎ BreaksPin b p x → ⊥
      at (inl k) = let wrong = sym few ∙ products-many parts.enable h.enable k in cc
      at (inr k) = never k
