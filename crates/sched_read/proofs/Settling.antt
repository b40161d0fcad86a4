-- Plans can be settled on tables that read, since their costs are such as a table names.
use Rattle.std.proofs.Common.{All, map, sym, subst, ◌∙◌}
use Rattle.csv_fields.specs.Record.{records_of}
use Rattle.fleet_model.specs.Limits.{IsCostUpTo}
use Rattle.fleet_model.specs.declared.tables.Tables.{Tables}
use Rattle.table_rows.proofs.fleet_tables.CostsFit.{costs_named}
use Rattle.table_rows.specs.fleet_tables.Fleets.{fleet_name_of}
use Rattle.table_rows.specs.fleet_tables.Costs.{flight_of}
use Rattle.sched_read.specs.optional_legs.Adding.{ReadsOptional}
use Rattle.sched_read.specs.retime_windows.Times.{ReadsWindows}
use Rattle.sched_read.specs.FileLaws.{PlansSettle}
use Rattle.sched_read.proofs.Steps.{kept_by_step}

pub plans_settle : PlansSettle
plans_settle bytes options t read asked =
    let first = read.before.first in
    let moved = kept_by_step (λ (v : Tables). v.costs) options.windows ReadsWindows (λ t u bytes reads. reads.have.costs) first read.moved bytes.windows read.before.windows in
    let last = kept_by_step (λ (v : Tables). v.costs) options.optional ReadsOptional (λ t u bytes reads. reads.have.costs) read.moved t bytes.optional read.optional in
    subst (All (λ entry. IsCostUpTo 1 entry.cost)) (sym (last ∙ moved))
    (costs_named (map flight_of first.legs) (map fleet_name_of first.fleets) (records_of bytes.five.costs) first.costs read.before.five.costs)
