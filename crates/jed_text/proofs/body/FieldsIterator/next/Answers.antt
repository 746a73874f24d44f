use Rattle.std.proofs.Common.{◌+◌, length, ap, arith, rules}
use Rattle.jed_text.specs.Bodies.{field_said}
use Rattle.jed_text.proofs.FieldLemmas.{fields-end, fields-next}
use Rattle.jed_text.proofs.body.FieldsIterator.next.Goals as goal

pub returns-in_err-piece-clause-steps : goal.returns-in_err-piece-clause-steps
returns-in_err-piece-clause-steps c =
    let none = fields-end c.args.self.now.at c.args.self.now.rest.now c.in_err-piece.ensures.parts in
    rw c.from_residual.ensures (none, none)

pub returns-clause-steps : goal.returns-clause-steps
returns-clause-steps c =
    let self = c.args.self.now in
    let piece = c.in_ok-piece.piece.now in
    fields-next self.at (self.at + (length piece + 1)) self.rest.now piece c.in_ok-piece.after.now (field_said c.field_of-field.result) c.in_ok-piece.ensures.parts (omega arith) c.field_of-field.ensures

pub returns-clause-goes : goal.returns-clause-goes
returns-clause-goes c =
    let self = c.args.self.now in
    let piece = c.in_ok-piece.piece.now in
    let next = fields-next self.at (self.at + (length piece + 1)) self.rest.now piece c.in_ok-piece.after.now (field_said c.field_of-field.result) c.in_ok-piece.ensures.parts (omega arith) c.field_of-field.ensures in
    let shorter = ap length next in
    search rules
