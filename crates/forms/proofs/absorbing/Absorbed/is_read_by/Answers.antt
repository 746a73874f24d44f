use Rattle.std.proofs.Common.{List, Option, ℕ, ap, ◌∙◌}
use Rattle.forms.specs.Cones.{read_in_table}
use Rattle.forms.proofs.TableLaws.{products-read}
use Rattle.forms.proofs.absorbing.Absorbed.is_read_by.Goals as goal

pub returns : goal.returns
returns c =
    c.are_read.ensures ∙ ap (λ (ns : List (Option ℕ)). read_in_table ns c.args.products.now) c.items.ensures
    ∙ products-read c.args.self.now.board.now c.args.self.now.units.now c.args.self.now.nets c.requires c.args.products.now
