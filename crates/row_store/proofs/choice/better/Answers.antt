use Rattle.std.proofs.Common.{arith, sym, ◌∙◌}
use Rattle.std.proofs.lemmas.Int.{ints}
use Rattle.row_store.proofs.Choices.{better_stays, better_alone, better_next, better_best}
use Rattle.row_store.proofs.choice.better.Goals as goal

pub returns-then-next-le0 : goal.returns-then-next-le0
returns-then-next-le0 c = better_stays c.args.best c.args.next (omega (arith, ints))

pub returns-in_default : goal.returns-in_default
returns-in_default c = better_alone c.args.best c.args.next c.in_default.is (omega (arith, ints))

pub returns-then-goes_first : goal.returns-then-goes_first
returns-then-goes_first c = better_next c.args.best c.args.next c.in-Some.other c.in-Some.is (omega (arith, ints)) (sym c.goes_first.ensures ∙ c.if-goes_first.true)

pub returns-else-goes_first : goal.returns-else-goes_first
returns-else-goes_first c = better_best c.args.best c.args.next c.in-Some.other c.in-Some.is (omega (arith, ints)) (sym c.goes_first.ensures ∙ c.if-goes_first.false)
