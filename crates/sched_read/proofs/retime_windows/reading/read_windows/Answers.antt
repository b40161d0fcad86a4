use Rattle.std.proofs.lemmas.Result.{MatchResult-weaker}
use Rattle.sched_read.proofs.retime_windows.WindowsFit.{windows_keep}
use Rattle.sched_read.proofs.retime_windows.reading.read_windows.Goals as goal

pub returns-clause-kept : goal.returns-clause-kept
returns-clause-kept c =
    let reads = rw (c.in_ok-reader.ensures.flights, c.in_ok-reader.ensures.fleets) at c.read_table.ensures in
    MatchResult-weaker c.read_table.result reads (λ windows reads. windows_keep c.args.tables.now _ windows.items reads) (λ _ _. tt)
