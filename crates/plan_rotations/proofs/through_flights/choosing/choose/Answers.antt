use Rattle.std.proofs.Common.{sym, subst}
use Rattle.std.proofs.lemmas.Result.{IfOk-weaker}
use Rattle.plan_rotations.specs.through_flights.Worths.{AreTurnWorths}
use Rattle.plan_rotations.proofs.through_flights.choosing.choose.Goals as goal

pub turn_worths-requires : goal.turn_worths-requires
turn_worths-requires c = record { assignment = c.requires.plan.assignment; fleet = c.requires.fleet; longest = c.in_ok-longest_waits.ensures }

pub matched-requires-clause-plan : goal.matched-requires-clause-plan
matched-requires-clause-plan c = c.requires.plan

pub matched-requires-clause-worths : goal.matched-requires-clause-worths
matched-requires-clause-worths c = subst (AreTurnWorths c.args.tables.now c.args.plan.now c.args.fleet) (sym c.as_slice.ensures.value) c.in_ok-table.ensures

pub returns-clause-through_set : goal.returns-clause-through_set
returns-clause-through_set c = IfOk-weaker c.matched.result _ _ (λ chosen is. is.through_set) c.matched.ensures

pub returns-clause-listed : goal.returns-clause-listed
returns-clause-listed c = IfOk-weaker c.matched.result _ _ (λ chosen is. is.listed) c.matched.ensures

pub returns-clause-value : goal.returns-clause-value
returns-clause-value c = IfOk-weaker c.matched.result _ _ (λ chosen is. is.value) c.matched.ensures

pub returns-clause-reach : goal.returns-clause-reach
returns-clause-reach c = IfOk-weaker c.matched.result _ _ (λ chosen is. is.reach) c.matched.ensures

pub returns-clause-sums : goal.returns-clause-sums
returns-clause-sums c = IfOk-weaker c.matched.result _ _ (λ chosen is. is.sums) c.matched.ensures
