use Rattle.std.proofs.Common.{List, sym, subst, arith}
use Rattle.std.proofs.lemmas.List.{length-map}
use Rattle.std.proofs.Math.ListN.{set}
use Rattle.reader_lists.specs.declared.lists.Reader.{Reader}
use Rattle.reader_lists.specs.Lists.{IsPut}
use Rattle.reader_lists.proofs.Putting.{contents, contents-push, put-appended}
use Rattle.reader_lists.proofs.lists.Lists.put.Goals as goal

pub returns-in_ok-push : goal.returns-in_ok-push
returns-in_ok-push c =
    let lists = c.self.inside.lists.items in
    subst (λ (old : List (List Reader)). IsPut old c.args.place c.args.reader (contents (set lists c.args.place c.push.new.self))) c.self.view_is
    (subst (IsPut (contents lists) c.args.place c.args.reader)
    (sym (contents-push lists c.args.place c.args.reader c.index_mut.result.now c.push.new.self (omega (arith, c.self.inside.lists.ok.0)) c.index_mut.ensures.value c.in_ok-push.ensures.items))
    (put-appended (contents lists) c.args.place c.args.reader (omega (arith, length-map lists (λ list. list.items), c.if-place-len.true, c.self.inside.lists.ok.0))))
