use Rattle.std.proofs.Common.{◌≡◌, ◌≤◌, map, length, [], ap, ◌∙◌, sym, arith}
use Rattle.std.specs.Str.{bytes_eq}
use Rattle.std.proofs.lemmas.List.{get_or-map, length-map}
use Rattle.mig_base.specs.declared.nets.NetLine.{NetLine}
use Rattle.mig_base.specs.BoardText.{place_named}
use Rattle.text_lines.proofs.Places.{index-zero, place-here, place-next, place-past}
use Rattle.net_text.proofs.judging.index_of.Goals as goal

pub loop-k-init : goal.loop-k-init
loop-k-init c = index-zero (place_named c.args.name.now (map (λ m. m.name) c.args.nets.now))

pub loop-k-preserved : goal.loop-k-preserved
loop-k-preserved c =
    let long : length (map (λ m. m.name) c.args.nets.now) ≡ length c.args.nets.now = length-map c.args.nets.now (λ m. m.name) in
    sym (place-next c.args.name.now (map (λ m. m.name) c.args.nets.now) c.loop-k.k [] (omega arith)
    (ap (bytes_eq c.args.name.now) (get_or-map (λ m. m.name) c.args.nets.now c.loop-k.k c.index-nets-k.result [] c.loop-k-test.true ∙ ap (λ (m : NetLine). m.name) (sym c.index-nets-k.is) ∙ sym c.bytes.ensures)
    ∙ sym c.is.ensures ∙ c.if-is.false))
    ∙ c.loop-k.invariant

pub returns-then-is : goal.returns-then-is
returns-then-is c = record {
  value =
      let long : length (map (λ m. m.name) c.args.nets.now) ≡ length c.args.nets.now = length-map c.args.nets.now (λ m. m.name) in
      sym (place-here c.args.name.now (map (λ m. m.name) c.args.nets.now) c.loop-k.k [] (omega arith)
      (ap (bytes_eq c.args.name.now) (get_or-map (λ m. m.name) c.args.nets.now c.loop-k.k c.index-nets-k.result [] c.loop-k-test.true ∙ ap (λ (m : NetLine). m.name) (sym c.index-nets-k.is) ∙ sym c.bytes.ensures)
      ∙ sym c.is.ensures ∙ c.if-is.true))
      ∙ c.loop-k.invariant;
  within = c.loop-k-test.true;
}

pub returns : goal.returns
returns c = record {
  value =
      let long : length (map (λ m. m.name) c.args.nets.now) ≡ length c.args.nets.now = length-map c.args.nets.now (λ m. m.name) in
      let done : length c.args.nets.now ≤ c.loop-k.k = c.loop-k-test.false in
      sym (place-past c.args.name.now (map (λ m. m.name) c.args.nets.now) c.loop-k.k (omega arith)) ∙ c.loop-k.invariant;
  within = tt;
}
