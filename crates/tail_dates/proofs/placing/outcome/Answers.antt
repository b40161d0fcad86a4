use Rattle.std.proofs.Common.{length, ◌∙◌, ap, arith}
use Rattle.tail_dates.specs.Placing.{ats_of}
use Rattle.tail_dates.proofs.Told.{one_each_of, told_few}
use Rattle.tail_dates.proofs.placing.outcome.Goals as goal

pub placed_by-requires-clause-told : goal.placed_by-requires-clause-told
placed_by-requires-clause-told c =
    omega (arith, ap length (c.deref-5.ensures.value ∙ c.in_ok-told.ensures), ap length (c.deref-3.ensures.value ∙ c.in_ok-lefts.ensures.value), told_few c.args.tables.now (ats_of c.args.fleet c.args.tails.now), one_each_of c.args.fleet c.args.tails.now)
