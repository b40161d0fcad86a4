use Rattle.std.proofs.Common.{◌+◌}
use Rattle.cert_check.specs.Nodes.{node_at}
use Rattle.cert_check.specs.Rules.{KeepsBefore}
use Rattle.cert_check.proofs.node_rules.first_fault.Given as goal

-- the node keeps the rules so far
abbrev pub invariant-loop-rule : goal.invariant-loop-rule
invariant-loop-rule l = KeepsBefore l.tables l.cost (node_at l.kept l.node) (l.rule-index + 1)
