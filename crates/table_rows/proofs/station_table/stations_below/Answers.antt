use Rattle.std.proofs.lemmas.Result.{MatchResult-weaker}
use Rattle.table_rows.proofs.station_table.StationsFit.{rows_keep}
use Rattle.table_rows.proofs.station_table.stations_below.Goals as goal

pub returns-clause-kept : goal.returns-clause-kept
returns-clause-kept c = MatchResult-weaker c.read_rows.result c.read_rows.ensures (λ stations reads. rows_keep c.args.form _ stations.items reads) (λ _ _. tt)
