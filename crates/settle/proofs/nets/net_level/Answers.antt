use Rattle.std.proofs.Common.{ℕ, List, map, ap, ◌∙◌}
use Rattle.mig_base.specs.declared.levels.Level.{Level}
use Rattle.mig_base.specs.Levels.{resolve2}
use Rattle.settle.specs.Rules.{wired, pulled_from, drive_of}
use Rattle.settle.proofs.LevelLaws.{shared-net, inner-net}
use Rattle.settle.proofs.nets.net_level.Goals as goal

pub returns-in-Shared : goal.returns-in-Shared
returns-in-Shared c =
    let drive = drive_of c.args.circuit.now c.args.levels.now in
    c.pulled.ensures ∙ ap (pulled_from c.args.wire.now.pull) (c.wired_with.ensures
    ∙ ap (λ (drivers : List ℕ). resolve2 c.level_at-handed.result (wired (map drive drivers))) c.items-drivers.ensures
    ∙ ap (λ (handed : Level). resolve2 handed (wired (map drive c.args.wire.now.drivers))) c.level_at-handed.ensures)
    ∙ shared-net c.args.inputs.now c.args.wire.now drive c.in-Shared.place c.in-Shared.is

pub returns-in-Inner : goal.returns-in-Inner
returns-in-Inner c =
    let drive = drive_of c.args.circuit.now c.args.levels.now in
    c.pulled-in-Inner.ensures ∙ ap (pulled_from c.args.wire.now.pull) (c.wired_with-in-Inner.ensures
    ∙ ap (λ (drivers : List ℕ). wired (map drive drivers)) c.items-drivers.ensures)
    ∙ inner-net c.args.inputs.now c.args.wire.now drive c.in-Inner.is
