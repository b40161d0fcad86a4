use Rattle.std.proofs.Common.{None, rules}
use Rattle.std.proofs.lemmas.Result.{err_from_is_err_and}
use Rattle.proof_lines.specs.Known.{naming}
use Rattle.proof_lines.specs.Words.{seen}
use Rattle.bound_cert.specs.Reading.{entries_from, listed}
use Rattle.bound_cert.proofs.ReadOn.{entry_stops, last_grown, line_stops, series_ends, series_goes_on}
use Rattle.bound_cert.proofs.price_reading.entries_from.Goals as goal

pub returns-in_err-line : goal.returns-in_err-line
returns-in_err-line g c =
    let p = err_from_is_err_and c.from_residual.result c.from_residual.ensures.1 in
    rw (p.1, p.2)
    (line_stops (listed (naming c.args.grammar.now) c.args.due (g.T.Listed.says (naming c.args.grammar.now))) (entries_from (listed (naming c.args.grammar.now) c.args.due (g.T.Listed.says (naming c.args.grammar.now))) (c.args.entries.now.items, None) (seen c.args.left.now)) (c.loop-line.entries.items, c.loop-line.before) c.loop-line.rest.now c.loop-line.invariant c.in_err-line.field-0.0 c.in_err-line.ensures)

pub returns-in-Err : goal.returns-in-Err
returns-in-Err g c =
    entry_stops (listed (naming c.args.grammar.now) c.args.due (g.T.Listed.says (naming c.args.grammar.now))) (entries_from (listed (naming c.args.grammar.now) c.args.due (g.T.Listed.says (naming c.args.grammar.now))) (c.args.entries.now.items, None) (seen c.args.left.now)) (c.loop-line.entries.items, c.loop-line.before) c.loop-line.rest.now c.loop-line.invariant c.in_ok-line.field-0 c.in-Some.line c.in_ok-line.ensures c.in-Some.is c.in-Err.stop c.in-Err.ensures

pub loop-line-preserved : goal.loop-line-preserved
loop-line-preserved g c =
    series_goes_on (listed (naming c.args.grammar.now) c.args.due (g.T.Listed.says (naming c.args.grammar.now))) (entries_from (listed (naming c.args.grammar.now) c.args.due (g.T.Listed.says (naming c.args.grammar.now))) (c.args.entries.now.items, None) (seen c.args.left.now)) (c.loop-line.entries.items, c.loop-line.before) c.loop-line.rest.now c.loop-line.invariant c.in_ok-line.field-0 c.in-Some.line c.in_ok-line.ensures c.in-Some.is
    _ c.behind-rest.result.now c.in-Ok.entry c.in-Ok.ensures (last_grown c.loop-line.entries.items _ c.loop-line.before c.in-Ok.entry (search rules)) (search rules)

pub returns : goal.returns
returns g c =
    series_ends (listed (naming c.args.grammar.now) c.args.due (g.T.Listed.says (naming c.args.grammar.now))) (entries_from (listed (naming c.args.grammar.now) c.args.due (g.T.Listed.says (naming c.args.grammar.now))) (c.args.entries.now.items, None) (seen c.args.left.now)) (c.loop-line.entries.items, c.loop-line.before) c.loop-line.rest.now c.loop-line.invariant c.in_ok-line.field-0 c.in_ok-line.ensures c.in_default.is
