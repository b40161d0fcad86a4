use Rattle.std.proofs.lemmas.Result.{MatchResult-weaker}
use Rattle.table_rows.proofs.fleet_tables.CostsFit.{costs_keep}
use Rattle.table_rows.proofs.fleet_tables.costs.read_costs.Goals as goal

pub returns-clause-kept : goal.returns-clause-kept
returns-clause-kept c =
    let reads = rw (c.in_ok-reader.ensures.flights, c.in_ok-reader.ensures.fleets) at c.read_table.ensures in
    MatchResult-weaker c.read_table.result reads (λ costs reads. costs_keep c.args.legs.now c.args.fleets.now _ costs.items reads) (λ _ _. tt)
