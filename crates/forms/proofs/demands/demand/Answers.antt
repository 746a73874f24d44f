use Rattle.forms.proofs.WideLaws.{demand-made}
use Rattle.forms.proofs.demands.demand.Goals as goal

pub returns : goal.returns
returns c =
    demand-made c.args.board.now _ c.args.absorbed.now _ c.args.unit _ c.is_registered.result c.in_ok-form.form c.terms_of.result c.in_ok-absorbed.ensures.board c.in_ok-absorbed.ensures.units c.wide_cell-room.ensures
    c.is_registered.ensures c.terms_of.ensures c.in_ok-form.ensures
