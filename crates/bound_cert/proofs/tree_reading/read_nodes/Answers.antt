use Rattle.std.proofs.Common.{[], ap, arith, length, rules, ◌-◌, ◌∙◌}
use Rattle.proof_lines.specs.Known.{naming}
use Rattle.proof_lines.specs.Words.{seen}
use Rattle.bound_cert.specs.Nodes.{above_of, nodes_from, waiting_nodes}
use Rattle.dual_bound.specs.Nodes.{nodes_of}
use Rattle.bound_cert.specs.declared.faults.TheConstants.{TEXT_ENDS}
use Rattle.bound_cert.proofs.ReadTree.{goes_on, is_whole, node_stops, none_left, stopped_gives}
use Rattle.bound_cert.proofs.tree_reading.read_nodes.Goals as goal

pub loop-most-preserved : goal.loop-most-preserved
loop-most-preserved c =
    ap (λ left. nodes_from (naming c.args.grammar.now) (c.loop-most.most - 1) (waiting_nodes c.with_node.new.waiting.items) (above_of c.with_node.new.waiting.items) (seen left)) c.same-rest.ensures
    ∙ goes_on (naming c.args.grammar.now) (nodes_from (naming c.args.grammar.now) (length c.args.left.now) [] [] (seen c.args.left.now)) c.loop-most.most c.loop-most.waiting.items (seen c.loop-most.rest.now) c.len.result (search rules) c.loop-most-test.true c.loop-most.invariant
    c.with_node.new.waiting.items (seen c.in-Ok.read.1.now) c.in-Ok.read.0 c.in-Ok.ensures c.in-Ok-None.field-0 c.in-Ok-None.field-0-is c.in-Ok-None.ensures

pub returns-in-Err : goal.returns-in-Err
returns-in-Err c = node_stops (naming c.args.grammar.now) (nodes_from (naming c.args.grammar.now) (length c.args.left.now) [] [] (seen c.args.left.now)) c.loop-most.most c.loop-most.waiting.items (seen c.loop-most.rest.now) c.len.result (search rules) c.loop-most-test.true c.loop-most.invariant c.in-Err.stop c.in-Err.ensures

pub returns-in-Ok-Some : goal.returns-in-Ok-Some
returns-in-Ok-Some c =
    is_whole (naming c.args.grammar.now) (nodes_from (naming c.args.grammar.now) (length c.args.left.now) [] [] (seen c.args.left.now)) c.loop-most.most c.loop-most.waiting.items (seen c.loop-most.rest.now) c.len.result (search rules) c.loop-most-test.true c.loop-most.invariant
    c.with_node.new.waiting.items (seen c.in-Ok.read.1.now) c.in-Ok.read.0 c.in-Ok.ensures c.in-Ok-Some.tree c.in-Ok-Some.field-0 c.in-Ok-Some.field-0-is c.in-Ok-Some.ensures

pub returns : goal.returns
returns c =
    stopped_gives (λ r. (nodes_of r.0, seen r.1.now)) c.stopped.result (nodes_from (naming c.args.grammar.now) (length c.args.left.now) [] [] (seen c.args.left.now)) c.loop-most.rest.now TEXT_ENDS c.stopped.ensures
    (none_left (naming c.args.grammar.now) (nodes_from (naming c.args.grammar.now) (length c.args.left.now) [] [] (seen c.args.left.now)) c.loop-most.most (waiting_nodes c.loop-most.waiting.items) (above_of c.loop-most.waiting.items) (seen c.loop-most.rest.now)
    (omega (arith, c.loop-most-test.false)) c.loop-most.invariant)
