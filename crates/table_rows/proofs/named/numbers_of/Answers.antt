use Rattle.table_rows.proofs.Numbered.{names_push}
use Rattle.table_rows.proofs.named.numbers_of.Goals as goal

pub loop-entry-preserved : goal.loop-entry-preserved
loop-entry-preserved g c =
    names_push g.T.Named.name_of c.args.entries.now c.loop-entry.entry-index c.entry-item.result c.name.result.now _ _ _
    c.requires c.loop-entry-test.true c.entry-item.is c.name.ensures c.loop-entry.invariant c.in_ok-add.ensures.added c.in_ok-add.ensures.appended
