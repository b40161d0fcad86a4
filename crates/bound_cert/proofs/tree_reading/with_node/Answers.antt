use Rattle.std.proofs.Common.{rules}
use Rattle.bound_cert.proofs.ReadTree.{waits}
use Rattle.bound_cert.proofs.tree_reading.with_node.Goals as goal

pub returns-in_ok-push-in-Inner : goal.returns-in_ok-push-in-Inner
returns-in_ok-push-in-Inner c = waits c.args.waiting.now.items c.push.new.self.items c.args.node c.in-Inner.inner (search rules) (search rules)
