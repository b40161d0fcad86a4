use Rattle.std.proofs.Common.{ap, sym}
use Rattle.proof_lines.specs.Known.{naming}
use Rattle.proof_lines.specs.Reading.{is_step_of}
use Rattle.bound_cert.proofs.ReadOn.{next_words, no_words, told_of_next}
use Rattle.bound_cert.proofs.line_reading.goes_on.Goals as goal

pub returns-in_default : goal.returns-in_default
returns-in_default c =
    sym (ap (is_step_of (naming c.args.grammar.now) c.args.step.now.fleet c.args.step.now.station) (no_words c.args.left.now c.behind.result.now c.behind.ensures c.in_default.ensures.cases))

pub returns : goal.returns
returns c =
    told_of_next (is_step_of (naming c.args.grammar.now) c.args.step.now.fleet c.args.step.now.station) c.is_step_of.result _ _
    (next_words c.args.left.now c.behind.result.now _ c.in-Some.next.now c.behind.ensures c.in-Some.ensures.cases.0) c.is_step_of.ensures
