use Rattle.std.proofs.Common.{◌∙◌}
use Rattle.std.proofs.lemmas.Int.{to_z-of_z}
use mir.Val.{to_z, of_z}
use mir.Syntax.{w128}
use Rattle.lp_rows.specs.Entries.{column_cost}
use Rattle.lp_rows.proofs.ListsBehind.{all_values, one_value_more}
use Rattle.lp_rows.proofs.program.all_costs.Goals as goal

pub loop-column-preserved : goal.loop-column-preserved
loop-column-preserved c =
    let cost = c.column_cost.result in
    one_value_more (column_cost c.args.tables.now) c.args.columns.now _ c.loop-column.costs.items c.push.new.self.items c.loop-column.column-index (to_z w128 (of_z w128 cost)) c.loop-column-test.true
    c.loop-column.invariant c.in_ok-push.ensures.items (to_z-of_z w128 cost (record { sfits = c.column_cost.type_inv }) ∙ c.column_cost.ensures)

pub returns : goal.returns
returns c = c.from_vec.ensures ∙ all_values (column_cost c.args.tables.now) c.args.columns.now c.loop-column.costs.items c.loop-column.column-index c.loop-column-test.false c.loop-column.invariant
