use Rattle.std.proofs.lemmas.Result.{MatchResult-weaker}
use Rattle.tail_dates.proofs.TailsFit.{tails_keep}
use Rattle.tail_dates.proofs.tail_table.tails_below.Goals as goal

pub returns-clause-kept : goal.returns-clause-kept
returns-clause-kept c =
    let reads = rw (c.in_ok-reader.ensures.form, c.in_ok-reader.ensures.fleets, c.in_ok-reader.ensures.stations, c.in_ok-reader.ensures.flights) at c.read_rows.ensures in
    MatchResult-weaker c.read_rows.result reads (λ tails reads. tails_keep c.args.tables.now c.args.form _ tails.items reads) (λ _ _. tt)
