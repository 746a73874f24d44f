use Rattle.std.proofs.Common.{◌≡◌, ◌≤◌, map, length, [], ap, ◌∙◌, sym, arith}
use Rattle.std.specs.Str.{bytes_eq}
use Rattle.std.proofs.lemmas.List.{get_or-map, length-map}
use Rattle.mig_base.specs.BoardText.{place_named}
use Rattle.text_lines.proofs.Places.{index-zero, place-here, place-next, place-past}
use Rattle.sim_run.proofs.naming.place.Goals as goal

pub loop-k-init : goal.loop-k-init
loop-k-init c = index-zero (place_named c.args.name.now (map (λ w. w.now) c.args.names.now))

pub loop-k-preserved : goal.loop-k-preserved
loop-k-preserved c =
    let long : length (map (λ w. w.now) c.args.names.now) ≡ length c.args.names.now = length-map c.args.names.now (λ w. w.now) in
    sym (place-next c.args.name.now (map (λ w. w.now) c.args.names.now) c.loop-k.k [] (omega arith)
    (ap (bytes_eq c.args.name.now) (get_or-map (λ w. w.now) c.args.names.now c.loop-k.k (record { ref_ptr = (0, 0); now = [] }) [] c.loop-k-test.true) ∙ sym c.is.ensures ∙ c.if-is.false))
    ∙ c.loop-k.invariant

pub returns-then-is : goal.returns-then-is
returns-then-is c =
    let long : length (map (λ w. w.now) c.args.names.now) ≡ length c.args.names.now = length-map c.args.names.now (λ w. w.now) in
    sym (place-here c.args.name.now (map (λ w. w.now) c.args.names.now) c.loop-k.k [] (omega arith)
    (ap (bytes_eq c.args.name.now) (get_or-map (λ w. w.now) c.args.names.now c.loop-k.k (record { ref_ptr = (0, 0); now = [] }) [] c.loop-k-test.true) ∙ sym c.is.ensures ∙ c.if-is.true))
    ∙ c.loop-k.invariant

pub returns : goal.returns
returns c =
    let long : length (map (λ w. w.now) c.args.names.now) ≡ length c.args.names.now = length-map c.args.names.now (λ w. w.now) in
    let done : length c.args.names.now ≤ c.loop-k.k = c.loop-k-test.false in
    sym (place-past c.args.name.now (map (λ w. w.now) c.args.names.now) c.loop-k.k (omega arith)) ∙ c.loop-k.invariant
