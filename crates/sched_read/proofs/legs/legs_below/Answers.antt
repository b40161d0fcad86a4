use Rattle.std.proofs.Common.{map}
use Rattle.std.proofs.lemmas.Result.{MatchResult-weaker}
use Rattle.table_rows.specs.station_table.Stations.{code_of}
use Rattle.sched_read.proofs.LegsFit.{rows_keep, rows_plain}
use Rattle.sched_read.proofs.legs.legs_below.Goals as goal

pub returns-clause-kept : goal.returns-clause-kept
returns-clause-kept c =
    let reads = rw (c.in_ok-reader.ensures.form, c.in_ok-reader.ensures.codes, c.in_ok-reader.ensures.settings) at c.read_rows.ensures in
    MatchResult-weaker c.read_rows.result reads (λ legs reads. rows_keep c.args.stations.now c.args.settings c.args.form _ legs.items reads) (λ _ _. tt)

pub returns-clause-plain : goal.returns-clause-plain
returns-clause-plain c =
    let reads = rw (c.in_ok-reader.ensures.form, c.in_ok-reader.ensures.codes, c.in_ok-reader.ensures.settings) at c.read_rows.ensures in
    MatchResult-weaker c.read_rows.result reads (λ legs reads. rows_plain (map code_of c.args.stations.now) c.args.settings c.args.form _ legs.items reads) (λ _ _. tt)
