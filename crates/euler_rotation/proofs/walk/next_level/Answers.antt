use Rattle.std.proofs.Common.{arith}
use Rattle.euler_rotation.proofs.Extending.{none_extend}
use Rattle.euler_rotation.proofs.WalkSteps.{next_told}
use Rattle.euler_rotation.proofs.walk.next_level.Goals as goal

pub returns-then-len-field : goal.returns-then-len-field
returns-then-len-field c =
    none_extend c.args.field.now.clean.now.asked.now.tables.now c.args.field.now.clean.now.asked.now.plan.now c.args.field.now.clean.now.asked.now.fleet c.args.field.now.clean.now.asked.now.pairs.now
    c.args.field.now.clean.now.asked.now.days c.args.field.now.order.now c.args.walk.now.path c.args.from (omega (arith, c.if-len-field.true, c.len.ensures))

pub returns : goal.returns
returns c = next_told c.args.field.now c.args.walk.now.path c.args.top c.args.from c.first_open.result c.requires.top (omega (arith, c.if-len-field.false, c.len.ensures)) c.first_open.ensures
