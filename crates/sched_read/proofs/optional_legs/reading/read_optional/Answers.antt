use Rattle.std.proofs.lemmas.Result.{MatchResult-weaker}
use Rattle.sched_read.proofs.optional_legs.OptionalFit.{optional_keep}
use Rattle.sched_read.proofs.optional_legs.reading.read_optional.Goals as goal

pub returns-clause-kept : goal.returns-clause-kept
returns-clause-kept c =
    let reads = rw c.in_ok-reader.ensures.flights at c.read_table.ensures in
    MatchResult-weaker c.read_table.result reads (λ optional reads. optional_keep c.args.tables.now _ optional.items reads) (λ _ _. tt)
