use Rattle.std.proofs.Common.{Err, ap, length, subst, sym, ◌∙◌}
use Rattle.proof_lines.specs.Known.{naming}
use Rattle.proof_lines.specs.Words.{seen}
use Rattle.bound_cert.specs.Lines.{Gives, line_due}
use Rattle.bound_cert.specs.declared.faults.TheConstants.{TEXT_ENDS}
use Rattle.bound_cert.proofs.FirstLine.{end_kind, is_none, is_some, last_left, none_left, read_left}
use Rattle.bound_cert.proofs.ReadTree.{stopped_gives}
use Rattle.bound_cert.proofs.reading_lines.line_due.Goals as goal
use Rattle.bound_cert.specs.declared.faults.Stop.TheVariants as stop

pub returns-in_default : goal.returns-in_default
returns-in_default c =
    stopped_gives (λ line. line) c.stopped.result (line_due (naming c.args.grammar.now) c.args.due (seen c.args.left.now)) c.args.left.now TEXT_ENDS c.stopped.ensures (none_left (naming c.args.grammar.now) c.args.due c.args.left.now c.in_default.ensures.cases)

pub returns-then-is_empty : goal.returns-then-is_empty
returns-then-is_empty c =
    stopped_gives (λ line. line) c.stopped-then-is_empty.result (line_due (naming c.args.grammar.now) c.args.due (seen c.args.left.now)) c.args.left.now (end_kind c.in-Some.line.now.now)
    (c.stopped-then-is_empty.ensures ∙ ap (λ kind. Err (stop.Fault (length c.args.left.now) kind)) c.end_kind.ensures)
    (last_left (naming c.args.grammar.now) c.args.due c.args.left.now c.in-Some.line.now c.in-Some.rest.now c.in-Some.ensures.cases.0 (is_none _ c.is_empty.result c.is_empty.ensures c.if-is_empty.true))

pub returns : goal.returns
returns c =
    subst (λ read. Gives (λ line. line) c.of_seen.result read) (sym (read_left (naming c.args.grammar.now) c.args.due c.args.left.now c.in-Some.line.now c.in-Some.rest.now c.in-Some.ensures.cases.0 c.in-Ok.read c.in-Ok.ensures c.fits.result (is_some _ c.is_empty.result c.is_empty.ensures c.if-is_empty.false) (sym c.fits.ensures)))
    c.of_seen.ensures.gives
