use Rattle.std.proofs.Common.{arith, sym, ◌∙◌, subst}
use Rattle.row_store.proofs.MappedRows.{same_length, read_at}
use Rattle.row_store.proofs.Pivots.{pivot_growth_found, pivot_growth_more, pivot_growth_none}
use Rattle.row_store.proofs.pivoting.pivot_growth.Goals as goal
use Rattle.frac_row.specs.Row.{IsSmall}

pub returns-then-is_some : goal.returns-then-is_some
returns-then-is_some g c =
    pivot_growth_found (g.R.TableRow.table c.args.rows.now) c.args.row c.args.column c.loop-other.other _ c.loop-other.invariant (rw (same_length _ _ _ (g.met.R.TableRow.mapped c.args.rows.now)) (omega arith)) c.row_growth-growth.ensures (sym c.is_some.ensures ∙ c.if-is_some.true)

pub returns : goal.returns
returns g c =
    pivot_growth_none (g.R.TableRow.table c.args.rows.now) c.args.row c.args.column c.loop-other.other c.loop-other.invariant (rw (same_length _ _ _ (g.met.R.TableRow.mapped c.args.rows.now)) (omega arith))

pub row_growth-growth-requires : goal.row_growth-growth-requires
row_growth-growth-requires g c = record {
  table = c.requires.table;
  row = c.requires.row;
  column = c.requires.column;
  positive = c.requires.positive;
  other = rw (same_length _ _ _ (g.met.R.TableRow.mapped c.args.rows.now)) (omega arith);
  small = λ t. subst IsSmall (read_at _ c.args.rows.now _ c.args.row c.index-rows-row.result (g.met.R.TableRow.mapped c.args.rows.now) c.requires.row c.index-rows-row.is) (c.is_small-is_pivot_small.ensures.0 t);
}

pub loop-other-preserved : goal.loop-other-preserved
loop-other-preserved g c =
    pivot_growth_more (g.R.TableRow.table c.args.rows.now) c.args.row c.args.column c.loop-other.other c.row_growth-growth.result c.loop-other.invariant c.row_growth-growth.ensures (sym c.is_some.ensures ∙ c.if-is_some.false)
