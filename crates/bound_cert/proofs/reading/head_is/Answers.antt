use Rattle.std.proofs.Common.{None, Some, sym, ◌∙◌}
use Rattle.proof_lines.specs.Words.{seen}
use Rattle.bound_cert.specs.Nodes.{head_is}
use Rattle.bound_cert.specs.declared.faults.TheConstants.{WRONG_HEAD}
use Rattle.bound_cert.proofs.FirstLine.{is_none, is_some, last_head, none_head, told_head}
use Rattle.bound_cert.proofs.ReadTree.{stopped_gives}
use Rattle.bound_cert.proofs.reading.head_is.Goals as goal

pub returns-in_default-clause-gives : goal.returns-in_default-clause-gives
returns-in_default-clause-gives c =
    stopped_gives (λ version. version) c.stopped.result (head_is c.args.windows (seen c.args.left.now)) c.args.left.now WRONG_HEAD c.stopped.ensures (none_head c.args.windows c.args.left.now c.in_default.ensures.cases)

pub returns-then-is_empty-clause-gives : goal.returns-then-is_empty-clause-gives
returns-then-is_empty-clause-gives c =
    stopped_gives (λ version. version) c.stopped-then-is_empty.result (head_is c.args.windows (seen c.args.left.now)) c.args.left.now WRONG_HEAD c.stopped-then-is_empty.ensures
    (last_head c.args.windows c.args.left.now c.in-Some.line.now c.in-Some.rest.now c.in-Some.ensures.cases.0 (is_none _ c.is_empty.result c.is_empty.ensures c.if-is_empty.true))

pub returns-in-Some-version_of-clause-gives : goal.returns-in-Some-version_of-clause-gives
returns-in-Some-version_of-clause-gives c = told_head c.args.windows c.args.left.now c.in-Some.line.now c.in-Some.rest.now c.in-Some.ensures.cases.0 (is_some _ c.is_empty.result c.is_empty.ensures c.if-is_empty.false) (Some c.in-Some-version_of.version) (sym c.version_of.ensures ∙ c.in-Some-version_of.is)

pub returns-in-None-clause-gives : goal.returns-in-None-clause-gives
returns-in-None-clause-gives c =
    stopped_gives (λ version. version) c.stopped-in-None.result (head_is c.args.windows (seen c.args.left.now)) c.args.left.now WRONG_HEAD c.stopped-in-None.ensures
    (told_head c.args.windows c.args.left.now c.in-Some.line.now c.in-Some.rest.now c.in-Some.ensures.cases.0 (is_some _ c.is_empty.result c.is_empty.ensures c.if-is_empty.false) None (sym c.version_of.ensures ∙ c.in-None.is))
