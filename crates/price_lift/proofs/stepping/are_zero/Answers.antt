use Rattle.std.proofs.Common.{◌≢◌, ◌+◌, ap, sym, get_or, pos, of_z}
use mir.Syntax.{w128}
use Rattle.price_lift.proofs.Zeros.{other_value}
use Rattle.price_lift.proofs.stepping.are_zero.Goals as goal

pub returns-then-values-from-ne0 : goal.returns-then-values-from-ne0
returns-then-values-from-ne0 c =
    let differ : get_or c.args.values.now (c.args.from + c.loop-past.past) (pos 0) ≢ pos 0 = λ e. c.if-values-from-ne0.true (ap (of_z w128) e) in
    sym (other_value (λ k. get_or c.args.values.now k (pos 0)) c.args.from c.args.count c.loop-past.past c.loop-past-test.true differ)
