use Rattle.std.proofs.Common.{◌≡◌, ◌∙◌, ℕ, Bool, List, Option, length, ap, arith, subst, sym}
use Rattle.std.specs.Prelude.{slice_get}
use Rattle.mig_base.specs.First.{made_from}
use Rattle.board.specs.Enables.{drivers_of}
use Rattle.board.specs.Joined.{Joined, equations_of}
use Rattle.board.proofs.ListSteps.{made-push}
use Rattle.joiner.specs.AbsorbedNets.{AreListed, sole_listed}
use Rattle.joiner.proofs.AbsorbedLaws.{nets-absorbed}
use Rattle.joiner.proofs.absorbed.absorbed_nets.Goals as goal

abbrev entry : Joined → List Bool → ℕ → Option ℕ
entry b flags n = sole_listed flags (drivers_of (slice_get (equations_of b).nets n))

pub loop-net-preserved : goal.loop-net-preserved
loop-net-preserved c =
    let b = c.args.board.now in
    let flags = c.items-flags.result.now in
    made-push (entry b flags) c.loop-net.net c.loop-net.nets.items c.push.new.self.items c.sole_driver.result c.in_ok-push.ensures.items c.loop-net.invariant
    (c.sole_driver.ensures ∙ ap (sole_listed flags) c.drivers.ensures)

pub returns : goal.returns
returns c =
    let b = c.args.board.now in
    let flags = c.items-flags.result.now in
    let listed = subst (λ (n : ℕ). AreListed n c.args.absorbed.now flags) c.units.ensures.all (subst (AreListed (length c.units.result.now) c.args.absorbed.now) (sym c.items-flags.ensures) c.in_ok-listed.ensures) in
    let end : c.loop-net.net ≡ length (equations_of b).nets = omega (arith, c.loop-net-test.false, c.loop-net.auto.net-end, c.nets-net-end.ensures) in
    nets-absorbed b c.args.absorbed.now flags c.new.result listed (c.new.ensures ∙ c.loop-net.invariant ∙ ap (made_from (entry b flags) 0) end)
