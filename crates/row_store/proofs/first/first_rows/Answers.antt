use Rattle.std.proofs.Common.{rules, map, ◌∙◌, ap}
use Rattle.sums.specs.Places.{list_below}
use Rattle.sums.proofs.Places.{list_below-push}
use Rattle.row_store.specs.Problem.{first_row, first_table}
use Rattle.row_store.proofs.MappedRows.{pushed}
use Rattle.row_store.proofs.first.first_rows.Goals as goal

pub loop-row-init : goal.loop-row-init
loop-row-init g c = g.met.R.TableRow.mapped _ ∙ ap (map g.R.TableRow.full) c.new-made.ensures.items

pub loop-row-preserved : goal.loop-row-preserved
loop-row-preserved g c =
    ap g.R.TableRow.table c.in_ok-push.ensures.items ∙ pushed _ c.loop-row.made.items _ _ _ (g.met.R.TableRow.mapped _) (g.met.R.TableRow.mapped _)
    ∙ list_below-push _ c.loop-row.row _ _ c.loop-row.invariant (c.in_ok-of_sparse.ensures ∙ c.in_ok-first_row.ensures)

pub returns : goal.returns
unfolding first_table
returns g c = c.loop-row.invariant ∙ ap (list_below (first_row c.args.rows.now)) (search rules)
