use Rattle.std.proofs.Common.{◌≡◌, true, is_none, rules, sym, arith}
use Rattle.fleet_model.specs.Schedule.{fleets_in}
use Rattle.node_aggregate.proofs.island_cut.NonePairs.{none_best}
use Rattle.node_aggregate.proofs.island_cut.QuickestFleets.{pairs_had, pairs_lacking}
use Rattle.node_aggregate.proofs.island_cut.joined.have_pairs.Goals as goal

pub returns-then-is_none-clause-value : goal.returns-then-is_none-clause-value
returns-then-is_none-clause-value c =
    let none : is_none c.best_on.result ≡ true = search rules in
    sym (pairs_lacking c.args.tables.now c.loop-leg.leg (search rules) (none_best c.args.tables.now c.loop-leg.leg (fleets_in c.args.tables.now) c.best_on.result none c.best_on.ensures))

pub returns-clause-value : goal.returns-clause-value
returns-clause-value c = sym (pairs_had c.args.tables.now (record { each = λ l below. c.loop-leg.invariant l (omega (arith, below, c.loop-leg-test.false, c.leg_count-leg-end.ensures)) }))
