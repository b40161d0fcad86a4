use Rattle.std.proofs.lemmas.Result.{MatchResult-weaker}
use Rattle.table_rows.proofs.fleet_tables.FleetsFit.{fleets_keep}
use Rattle.table_rows.proofs.fleet_tables.fleets.read_fleets.Goals as goal

pub returns-clause-kept : goal.returns-clause-kept
returns-clause-kept c = MatchResult-weaker c.read_table.result c.read_table.ensures (λ fleets reads. fleets_keep _ fleets.items reads) (λ _ _. tt)
