-- The ports of the new board stand for those of the old one, which are not absorbed.
use Rattle.std.proofs.Common.{ℕ, ◌≡◌, ◌<◌, Bool, true, false, not, List, [], ◌∷◌, map, Option, Some, refl, sym, ap, ◌∙◌, subst, inl, inr}
use Rattle.std.specs.Prelude.{option_and_then}
use Rattle.std.specs.List.{slice_get}
use Rattle.mig_base.specs.declared.circuit.Read.TheVariants.{OfNet}
use Rattle.mig_base.specs.Among.{Among}
use Rattle.mig_base.specs.Boards.{is_port, places_from}
use Rattle.mig_base.proofs.Amongs.{map-among}
use Rattle.mig_base.proofs.PlaceLaws.{places-within}
use Rattle.board.specs.Joined.{Joined, equations_of}
use Rattle.joiner.specs.AbsorbedNets.{AreAbsorbable}
use Rattle.board.proofs.DrivenLaws.{one-net}
use Rattle.structure.specs.Live.{DrivesWire}
use Rattle.new_board.specs.NewChip.{NewChip, private_from}
use Rattle.new_board.proofs.KeptNumbers.{old_kept, kept-ports}
use Rattle.new_board.proofs.NewWiring.{kept_of}
use Rattle.plans.specs.Placings.{old}
use Rattle.plans.specs.Forms.{is_absorbed_read}
use Rattle.plans.specs.Fitting.{new_board}
use Rattle.fitting_levels.specs.Fitting.{IsAbsorbed}
use Rattle.new_circuits.specs.NewNumbers.{is_seen, new_wiring, numbers_of, old_net, or_zero, stays}
use Rattle.new_circuits.proofs.PinNets.{kept-stands}
use Rattle.planned_nets.proofs.Absorbed.{absorbed-net}

-- two functions that agree on a list
map-alike : (f g : ℕ → ℕ) (xs : List ℕ) → ((x : ℕ) → Among x xs → f x ≡ g x) → map f xs ≡ map g xs
map-alike f g [] h = refl
map-alike f g (x ∷ xs) h = (λ i. h x (inl refl) i ∷ map-alike f g xs (λ y a. h y (inr a)) i)

module _ (b : Joined) (chips : List NewChip) where
  abbrev new_ports : List ℕ
  new_ports = places_from is_port 2 (new_wiring b chips).nets

  port-low : (m : ℕ) → Among m new_ports → m < private_from (new_wiring b chips)
  port-low m a = places-within is_port 2 (new_wiring b chips).nets m a

  -- the old net of a port
  port-stands : (m : ℕ) → Among m new_ports → old_net b chips m ≡ Some (old_kept (kept_of (old b) chips) m)
  port-stands m a = ap (option_and_then (λ (o : Option ℕ). o)) (kept-stands b chips m (port-low m a))

  pub ports-kept : (equations_of b).ports ≡ map (numbers_of b chips).net (equations_of (new_board b chips)).ports
  ports-kept = kept-ports (old b) chips ∙ map-alike (old_kept (kept_of (old b) chips)) (numbers_of b chips).net new_ports (λ m a. sym (ap or_zero (port-stands m a)))

  -- its old net is a port, so it isn't absorbed
  pub ports-shown : (absorbed : List ℕ) → AreAbsorbable b absorbed → (m : ℕ) → Among m new_ports → is_seen b absorbed chips m ≡ true
  ports-shown absorbed may m a = ap (stays b absorbed) (port-stands m a) ∙ at (is_absorbed_read (equations_of b) absorbed (OfNet n)) refl
    where
      n : ℕ
      n = old_kept (kept_of (old b) chips) m

      port : Among n (equations_of b).ports
      port = subst (Among n) (sym (kept-ports (old b) chips)) (map-among (old_kept (kept_of (old b) chips)) m new_ports a)

      drives : (o u : ℕ) → IsAbsorbed (equations_of b) absorbed n u → o ≡ n → DrivesWire u (slice_get (equations_of b).nets o)
      drives o u is e = subst (DrivesWire u) (sym (ap (slice_get (equations_of b).nets) e ∙ is.on)) (subst (Among u) (sym is.alone) (inl refl))

      at : (q : Bool) → is_absorbed_read (equations_of b) absorbed (OfNet n) ≡ q → not q ≡ true
      at false e = refl
      at true e =
          let u = absorbed-net (equations_of b) absorbed n e in
          let own = may u.0 u.1.listed in
          let on : DrivesWire u.0 (slice_get (equations_of b).nets own.0) = subst (DrivesWire u.0) (sym own.1.on) (subst (Among u.0) (sym own.1.alone) (inl refl)) in
          let same : own.0 ≡ n = one-net b.net b.chips own.0 n u.0 on (drives n u.0 u.1 refl) in
          absurd (own.1.no_port (subst (λ (k : ℕ). Among k (equations_of b).ports) (sym same) port))
