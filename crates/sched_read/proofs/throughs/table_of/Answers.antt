use Rattle.std.proofs.lemmas.Result.{MatchResult-weaker}
use Rattle.sched_read.proofs.ThroughsFit.{table_keeps}
use Rattle.sched_read.proofs.throughs.table_of.Goals as goal

pub returns-clause-kept : goal.returns-clause-kept
returns-clause-kept c =
    let reads = rw c.in_ok-reader.ensures.flights at c.read_table.ensures in
    MatchResult-weaker c.read_table.result reads (λ throughs reads. table_keeps c.args.legs.now _ throughs.items reads) (λ _ _. tt)
