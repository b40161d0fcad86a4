use Rattle.std.proofs.Common.{arith, sym, subst}
use Rattle.row_store.specs.Table.{IsTable}
use Rattle.row_store.specs.Steps.{turned_row}
use Rattle.row_store.proofs.Turns.{turned_is_table, is_turned}
use Rattle.row_store.proofs.sparse.SparseRowStore.turn.Goals as goal

pub invariant_of-self : goal.invariant_of-self
unfolding turned_row
invariant_of-self c = record {
  is_table = subst IsTable (sym (is_turned c.args.self.now.rows.items c.args.row _ _ (omega arith) c.index_mut.ensures.value c.turn.ensures)) (turned_is_table c.args.self.now.rows.items c.args.row c.args.self.now.is_table (omega arith));
}

pub returns : goal.returns
unfolding turned_row
returns c = is_turned c.args.self.now.rows.items c.args.row _ _ (omega arith) c.index_mut.ensures.value c.turn.ensures
