use Rattle.std.proofs.Common.{Err, ap, length, rules, ◌∙◌}
use Rattle.proof_lines.specs.Known.{naming}
use Rattle.proof_lines.specs.Words.{seen}
use Rattle.bound_cert.specs.Lines.{next_line}
use Rattle.bound_cert.proofs.FirstLine.{end_kind, is_none, is_some, last_next, line_next, next_stops, none_next, other_next}
use Rattle.bound_cert.proofs.ReadTree.{stopped_gives}
use Rattle.bound_cert.proofs.reading_lines.next_line.Goals as goal
use Rattle.bound_cert.specs.declared.faults.Stop.TheVariants as stop

pub returns-in_default : goal.returns-in_default
returns-in_default c = none_next (naming c.args.grammar.now) c.args.due c.args.left.now c.in_default.ensures.cases

pub returns-then-not-fits : goal.returns-then-not-fits
returns-then-not-fits c = other_next (naming c.args.grammar.now) c.args.due c.args.left.now c.in-Some.line.now c.in-Some.rest.now c.in-Some.ensures.cases.0 c.in-Ok.read c.in-Ok.ensures (search rules)

pub returns-then-is_empty : goal.returns-then-is_empty
returns-then-is_empty c =
    stopped_gives (λ line. line) c.stopped.result (next_line (naming c.args.grammar.now) c.args.due (seen c.args.left.now)) c.args.left.now (end_kind c.in-Some.line.now.now)
    (c.stopped.ensures ∙ ap (λ kind. Err (stop.Fault (length c.args.left.now) kind)) c.end_kind.ensures)
    (last_next (naming c.args.grammar.now) c.args.due c.args.left.now c.in-Some.line.now c.in-Some.rest.now c.in-Some.ensures.cases.0 c.in-Ok.read c.in-Ok.ensures (search rules) (is_none _ c.is_empty.result c.is_empty.ensures c.if-is_empty.true))

pub returns-in-Ok-of_seen : goal.returns-in-Ok-of_seen
returns-in-Ok-of_seen c = line_next (naming c.args.grammar.now) c.args.due c.args.left.now c.in-Some.line.now c.in-Some.rest.now c.in-Some.ensures.cases.0 c.in-Ok.read c.in-Ok.ensures (search rules) (is_some _ c.is_empty.result c.is_empty.ensures c.if-is_empty.false) c.in-Ok-of_seen.line c.in-Ok-of_seen.ensures.gives

pub returns-in-Err : goal.returns-in-Err
returns-in-Err c = next_stops (naming c.args.grammar.now) c.args.due c.args.left.now c.in-Some.line.now c.in-Some.rest.now c.in-Some.ensures.cases.0 c.in-Ok.read c.in-Ok.ensures (search rules) (is_some _ c.is_empty.result c.is_empty.ensures c.if-is_empty.false) c.in-Err.stop c.in-Err.ensures.gives
