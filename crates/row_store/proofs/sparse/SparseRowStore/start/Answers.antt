use Rattle.row_store.proofs.FirstTables.{first_is_table, first_has_columns}
use Rattle.row_store.proofs.sparse.SparseRowStore.start.Goals as goal

pub invariant_of-result : goal.invariant_of-result
invariant_of-result c = record { is_table = rw c.in_ok-first_rows.ensures (first_is_table c.args.rows.now c.requires) }

pub returns-clause-shape : goal.returns-clause-shape
returns-clause-shape c = first_has_columns c.args.rows.now c.in_ok-first_rows.field-0.items c.in_ok-first_rows.ensures
