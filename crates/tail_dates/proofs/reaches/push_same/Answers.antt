use Rattle.std.proofs.Common.{sym}
use Rattle.std.proofs.lemmas.List.{append-nil}
use Rattle.tail_dates.proofs.Nights.{same_more}
use Rattle.tail_dates.proofs.reaches.push_same.Goals as goal

pub loop-init : goal.loop-init
loop-init g c = sym (append-nil c.args.list.now.items)

pub loop-preserved : goal.loop-preserved
loop-preserved g c = same_more c.args.list.now.items c.loop.list.items c.push.new.self.items c.args.entry c.loop.counter c.loop.invariant c.in_ok-push.ensures.items
