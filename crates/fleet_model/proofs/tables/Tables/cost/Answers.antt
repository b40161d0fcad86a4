use Rattle.std.proofs.Common.{sym, arith}
use Rattle.fleet_model.proofs.KeptTimes.{no_cost_of}
use Rattle.fleet_model.proofs.tables.Tables.cost.Goals as goal

pub returns-then-pair-leg_count-clause-value : goal.returns-then-pair-leg_count-clause-value
returns-then-pair-leg_count-clause-value c = sym (no_cost_of c.args.self.now c.args.pair (omega (arith, c.leg_count.ensures, c.if-pair-leg_count.true)))
