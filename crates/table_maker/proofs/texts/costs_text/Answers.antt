use Rattle.std.proofs.Common.{rules}
use Rattle.table_rows.specs.fleet_tables.Costs.{cost_header}
use Rattle.table_maker.specs.Records.{cost_fields}
use Rattle.table_maker.proofs.Lines.{text_begun, text_grown}
use Rattle.table_maker.proofs.texts.costs_text.Goals as goal

pub loop-pair-init : goal.loop-pair-init
loop-pair-init c = text_begun cost_header (cost_fields c.args.trips.now) _ (search rules)

pub loop-pair-preserved : goal.loop-pair-preserved
loop-pair-preserved c = text_grown cost_header (cost_fields c.args.trips.now) c.loop-pair.pair _ _ c.loop-pair.invariant c.in_ok-push_cost.ensures
