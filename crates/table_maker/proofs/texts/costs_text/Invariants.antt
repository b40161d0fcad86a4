use Rattle.std.proofs.Common.{◌≡◌}
use Rattle.table_rows.specs.fleet_tables.Costs.{cost_header}
use Rattle.table_maker.specs.Records.{cost_fields, table_text}
use Rattle.table_maker.proofs.texts.costs_text.Given as goal

abbrev pub invariant-loop-pair : goal.invariant-loop-pair
invariant-loop-pair l = l.text.items ≡ table_text cost_header (cost_fields l.trips) l.pair
