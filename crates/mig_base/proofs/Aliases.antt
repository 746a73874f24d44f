-- What an alias net is.
use Rattle.std.proofs.Common.{ℕ, ◌≡◌, Bool, true, false, not, cond, List, [], ◌∷◌, Option, Some, None, refl, sym, ap, ◌∙◌}
use Rattle.std.specs.List.{slice_get}
use Rattle.std.proofs.lemmas.Option.{same_Some}
use Rattle.mig_base.specs.declared.circuit.Gate.{Gate}
use Rattle.mig_base.specs.declared.circuit.Gate.TheVariants.{Never, Product}
use Rattle.mig_base.specs.declared.circuit.Gives.{Gives}
use Rattle.mig_base.specs.declared.circuit.Gives.TheVariants.{Sum, Visible}
use Rattle.mig_base.specs.declared.circuit.Driver.{Driver}
use Rattle.mig_base.specs.declared.circuit.NetKind.{NetKind}
use Rattle.mig_base.specs.declared.circuit.NetKind.TheVariants.{Ground, Power, Handed, Shared, Inner}
use Rattle.mig_base.specs.declared.circuit.Wire.{Wire}
use Rattle.mig_base.specs.declared.circuit.Circuit.{Circuit}
use Rattle.mig_base.specs.Accepted.{is_fixed}
use Rattle.mig_base.specs.Structure.{is_shared, alias_by, alias_unit, alias_only, alias_wire, alias_of}

-- the driver of an alias net
pub record IsAliasDriver (d : Driver) (a : ℕ × Bool) : Type 0 where
  pub enable : d.enable ≡ Product []
  pub gives : d.gives ≡ Visible a.0
  pub level : a.1 ≡ not d.low

alias-driver : (d : Driver) (a : ℕ × Bool) → alias_by d.enable d.gives d.low ≡ Some a → IsAliasDriver d a
alias-driver d a e = at d.enable d.gives refl refl e
  where
    at : (g : Gate) (v : Gives) → d.enable ≡ g → d.gives ≡ v → alias_by g v d.low ≡ Some a → IsAliasDriver d a
    at Never v eg ev e = cc
    at (Product []) (Sum terms) eg ev e = cc
    at (Product []) (Visible k) eg ev e =
        let same : (k, not d.low) ≡ a = same_Some (k, not d.low) a e in
        record { enable = eg; gives = ev ∙ ap (λ (q : ℕ × Bool). Visible q.0) same; level = sym (ap (λ (q : ℕ × Bool). q.1) same) }
    at (Product (x ∷ xs)) v eg ev e = cc

-- an alias net: it is no Both port, and its only driver is one unit
pub record IsAlias (c : Circuit) (n : ℕ) (a : ℕ × Bool) : Type 0 where
  pub wire : Wire
  pub unit : ℕ
  pub driver : Driver
  pub found : slice_get c.nets n ≡ Some wire
  pub private : is_shared wire.kind ≡ false
  pub only : wire.drivers ≡ unit ∷ []
  pub unit_is : slice_get c.units unit ≡ Some driver
  pub alias : IsAliasDriver driver a

pub alias-is : (c : Circuit) (n : ℕ) (a : ℕ × Bool) → alias_of c n ≡ Some a → IsAlias c n a
alias-is c n a e = at (slice_get c.nets n) refl e
  where
    unit : (w : Wire) (u : ℕ) → slice_get c.nets n ≡ Some w → is_shared w.kind ≡ false → w.drivers ≡ u ∷ [] → (o : Option Driver) → slice_get c.units u ≡ o → alias_unit o ≡ Some a → IsAlias c n a
    unit w u is no_share only None eu e = cc
    unit w u is no_share only (Some d) eu e = record { wire = w; unit = u; driver = d; found = is; private = no_share; only = only; unit_is = eu; alias = alias-driver d a e }

    drivers : (w : Wire) → slice_get c.nets n ≡ Some w → is_shared w.kind ≡ false → (ds : List ℕ) → w.drivers ≡ ds → alias_only c ds ≡ Some a → IsAlias c n a
    drivers w is no_share [] only e = cc
    drivers w is no_share (u ∷ []) only e = unit w u is no_share only (slice_get c.units u) refl e
    drivers w is no_share (u ∷ v ∷ ds) only e = cc

    by : (w : Wire) → slice_get c.nets n ≡ Some w → (q : Bool) → is_shared w.kind ≡ q → cond q None (alias_only c w.drivers) ≡ Some a → IsAlias c n a
    by w is true share e = cc
    by w is false share e = drivers w is share w.drivers refl e

    at : (o : Option Wire) → slice_get c.nets n ≡ o → alias_wire c o ≡ Some a → IsAlias c n a
    at None is e = cc
    at (Some w) is e = by w is (is_shared w.kind) refl e

-- a net that is neither a Both port nor fixed
pub inner : (k : NetKind) → is_shared k ≡ false → (is_fixed k ≡ true → ⊥) → k ≡ Inner
inner Ground s h = absurd (h refl)
inner Power s h = absurd (h refl)
inner (Handed j) s h = absurd (h refl)
inner (Shared j) s h = cc
inner Inner s h = refl
