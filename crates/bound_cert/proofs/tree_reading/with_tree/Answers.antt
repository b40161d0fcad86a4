use Rattle.std.proofs.Common.{rules, ◌∙◌}
use Rattle.bound_cert.proofs.ReadTree.{first_child, second_above, second_child}
use Rattle.bound_cert.proofs.tree_reading.with_tree.Goals as goal

pub returns-in-None : goal.returns-in-None
returns-in-None c =
    first_child c.loop-parent.waiting.items c.pop.new.self.items c.push.new.self.items c.in-Some.parent c.loop-parent.whole (search rules) c.in-None.is (search rules)
    _ _ c.loop-parent.invariant.nodes c.loop-parent.invariant.above

pub loop-parent-preserved : goal.loop-parent-preserved
loop-parent-preserved c = record {
  nodes =
      second_child c.loop-parent.waiting.items c.pop.new.self.items c.in-Some.parent c.in-Some-yes.first c.loop-parent.whole c.in_ok-whole-in-Some-yes.whole
      (search rules) c.in-Some-yes.is (search rules)
      ∙ c.loop-parent.invariant.nodes;
  above =
      second_above c.loop-parent.waiting.items c.pop.new.self.items c.in-Some.parent c.in-Some-yes.first (search rules) c.in-Some-yes.is
      ∙ c.loop-parent.invariant.above;
}
