use Rattle.std.proofs.Common.{◌≡◌, ◌<◌, ◌+◌, ◌*◌, ◌^◌, ap, arith}
use Rattle.jed_text.specs.Digits.{base_of}
use Rattle.jed_text.proofs.DigitLemmas.{read-fits, read-room}
use Rattle.jed_text.proofs.numbers.number_at.Goals as goal

pub returns-in-None-2-clause-fits : goal.returns-in-None-2-clause-fits
returns-in-None-2-clause-fits c = read-fits c.args.base c.args.text.now c.loop-i.i c.loop-i.number c.args.most c.loop-i.invariant.0 c.loop-i.invariant.1

pub returns-else-is_empty-clause-fits : goal.returns-else-is_empty-clause-fits
returns-else-is_empty-clause-fits c = read-fits c.args.base c.args.text.now c.loop-i.i c.loop-i.number c.args.most c.loop-i.invariant.0 c.loop-i.invariant.1

pub overflow_mul-number : goal.overflow_mul-number
overflow_mul-number c =
    let small : c.in-Some.field-0 < base_of c.args.base = c.in-Some.ensures.small in
    let room : c.loop-i.number * base_of c.args.base + c.in-Some.field-0 < base_of c.args.base ^ c.args.most =
    read-room c.args.base c.args.text.now c.loop-i.i c.loop-i.number c.args.most c.in-Some.field-0 c.loop-i.invariant.0 (omega arith) small in
    let same : c.loop-i.number * c.radix.result ≡ c.loop-i.number * base_of c.args.base = ap (λ b. c.loop-i.number * b) c.radix.ensures in
    let fits : base_of c.args.base ^ c.args.most < 2 ^ 32 = c.requires in
    omega arith

pub overflow_add-number : goal.overflow_add-number
overflow_add-number c =
    let small : c.in-Some.field-0 < base_of c.args.base = c.in-Some.ensures.small in
    let room : c.loop-i.number * base_of c.args.base + c.in-Some.field-0 < base_of c.args.base ^ c.args.most =
    read-room c.args.base c.args.text.now c.loop-i.i c.loop-i.number c.args.most c.in-Some.field-0 c.loop-i.invariant.0 (omega arith) small in
    let same : c.loop-i.number * c.radix.result ≡ c.loop-i.number * base_of c.args.base = ap (λ b. c.loop-i.number * b) c.radix.ensures in
    let fits : base_of c.args.base ^ c.args.most < 2 ^ 32 = c.requires in
    omega arith
