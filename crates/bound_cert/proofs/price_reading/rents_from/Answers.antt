use Rattle.std.proofs.Common.{Ok, ap, rules, ◌∙◌}
use Rattle.std.proofs.lemmas.Result.{err_from_is_err_and}
use Rattle.proof_lines.specs.Known.{naming}
use Rattle.proof_lines.specs.Words.{seen}
use Rattle.bound_cert.specs.Reading.{rent_series, rents_from}
use Rattle.bound_cert.proofs.ReadOn.{entry_stops, line_stops, series_ends, series_goes_on}
use Rattle.bound_cert.proofs.price_reading.rents_from.Goals as goal

pub returns-in_err-line : goal.returns-in_err-line
returns-in_err-line c =
    let p = err_from_is_err_and c.from_residual.result c.from_residual.ensures.1 in
    rw (p.1, p.2)
    (line_stops (rent_series (naming c.args.grammar.now)) (rents_from (naming c.args.grammar.now) c.args.rents.now.items (seen c.args.left.now)) c.loop-line.rents.items c.loop-line.rest.now c.loop-line.invariant c.in_err-line.field-0.0 c.in_err-line.ensures)

pub returns-in-Err : goal.returns-in-Err
returns-in-Err c =
    entry_stops (rent_series (naming c.args.grammar.now)) (rents_from (naming c.args.grammar.now) c.args.rents.now.items (seen c.args.left.now)) c.loop-line.rents.items c.loop-line.rest.now c.loop-line.invariant c.in_ok-line.field-0 c.in-Some.line c.in_ok-line.ensures c.in-Some.is c.in-Err.stop (search rules)

pub loop-line-preserved : goal.loop-line-preserved
loop-line-preserved c =
    series_goes_on (rent_series (naming c.args.grammar.now)) (rents_from (naming c.args.grammar.now) c.args.rents.now.items (seen c.args.left.now)) c.loop-line.rents.items c.loop-line.rest.now c.loop-line.invariant c.in_ok-line.field-0 c.in-Some.line c.in_ok-line.ensures c.in-Some.is
    _ c.behind-rest.result.now c.in-Ok.entry (search rules) (search rules) (search rules)

pub returns : goal.returns
returns c =
    series_ends (rent_series (naming c.args.grammar.now)) (rents_from (naming c.args.grammar.now) c.args.rents.now.items (seen c.args.left.now)) c.loop-line.rents.items c.loop-line.rest.now c.loop-line.invariant c.in_ok-line.field-0 c.in_ok-line.ensures c.in_default.is
    ∙ ap (λ rents. Ok (rents, seen c.loop-line.rest.now)) (search rules)
