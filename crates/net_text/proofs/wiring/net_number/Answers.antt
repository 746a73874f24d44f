use Rattle.std.proofs.Common.{◌≡◌, ◌<◌, ◌≤◌, arith, length, map, sym}
use Rattle.std.proofs.lemmas.List.{length-map}
use Rattle.mig_base.specs.BoardText.{net_names}
use Rattle.net_text.proofs.BoardGiven.{place-within}
use Rattle.net_text.proofs.wiring.net_number.Goals as goal

pub overflow_cast-result : goal.overflow_cast-result
overflow_cast-result c =
    let within : c.in-Some.number < length (net_names c.args.nets.now) = place-within c.args.name.now (net_names c.args.nets.now) c.in-Some.number (sym c.in-Some.ensures) in
    let long : length (map (λ l. l.name) c.args.nets.now) ≡ length c.args.nets.now = length-map c.args.nets.now (λ l. l.name) in
    let few : length c.args.nets.now ≤ 1024 = c.requires.few_nets in
    omega arith
