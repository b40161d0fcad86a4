use Rattle.row_store.proofs.Choices.{NoneEnters}
use Rattle.row_store.proofs.store.RowStore.entering.Given as goal

abbrev pub invariant-loop-column : goal.invariant-loop-column
invariant-loop-column g l = NoneEnters (g.Self.RowStore.content l.self) l.column
