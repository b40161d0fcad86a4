use Rattle.std.proofs.Common.{◌≤◌, ap, subst, sym, ◌∙◌}
use Rattle.std.specs.Prelude.{unwrap_or}
use Rattle.fleet_model.proofs.ParkingLimits.{few_at}
use Rattle.dual_bound.proofs.worth_less.limit.Goals as goal

pub returns-clause-few : goal.returns-clause-few
returns-clause-few c = subst (λ n. n ≤ 10000) (sym (c.unwrap_or.ensures ∙ ap (λ o. unwrap_or o 0) c.parking.ensures)) (few_at c.args.tables.now c.args.station)
