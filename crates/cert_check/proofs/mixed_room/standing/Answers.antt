use Rattle.std.proofs.Common.{ℕ, ◌+◌, ◌*◌, ◌≤◌, arith}
use Rattle.fleet_model.specs.declared.limits.TheConstants.{MAX_DEPARTURES}
use Rattle.fleet_model.proofs.FewChoices.{few_departures}
use Rattle.dual_bound.specs.Prices.{max_scale}
use Rattle.cert_check.proofs.mixed_room.standing.Goals as goal

few_stand : (stand need count : ℕ) → stand ≤ need + max_scale * count → need ≤ max_scale * count → count ≤ MAX_DEPARTURES → stand ≤ 2 * max_scale * MAX_DEPARTURES
few_stand stand need count p q few = omega (arith, p, q, few)

pub returns-clause-few : goal.returns-clause-few
returns-clause-few c = few_stand _ _ _ c.stand.ensures.few c.need-need.ensures.few (few_departures c.args.tables.now)
