use Rattle.std.proofs.Common.{◌+◌, ◌*◌, sym, subst}
use Rattle.fleet_model.specs.declared.limits.TheConstants.{MAX_AIRCRAFT}
use Rattle.fleet_model.specs.Kept.{kept_by}
use Rattle.fleet_model.specs.Schedule.{fleets_in, legs_in, stations_in}
use Rattle.dual_bound.specs.Sizes.{IsUpTo}
use Rattle.dual_bound.proofs.WorthParts.{worth_held, worth_size}
use Rattle.dual_bound.proofs.worth.total_worth.Goals as goal

pub returns-clause-value : goal.returns-clause-value
returns-clause-value c =
    worth_held c.args.tables.now (kept_by c.args.kept.now) c.args.prices.now c.args.k c.legs_worth.result c.all_rents.result c.all_charges.result c.legs_worth.ensures.size c.all_rents.ensures.size c.all_charges.ensures.size
    c.legs_worth.ensures.value c.all_rents.ensures.value c.all_charges.ensures.value

pub returns-clause-size : goal.returns-clause-size
returns-clause-size c =
    subst (λ z. IsUpTo (7 * legs_in c.args.tables.now + MAX_AIRCRAFT * fleets_in c.args.tables.now + 70000 * stations_in c.args.tables.now) z) (sym (returns-clause-value c))
    (worth_size c.args.tables.now (kept_by c.args.kept.now) c.args.prices.now c.args.k c.legs_worth.result c.all_rents.result c.all_charges.result c.legs_worth.ensures.size c.all_rents.ensures.size c.all_charges.ensures.size
    c.legs_worth.ensures.value c.all_rents.ensures.value c.all_charges.ensures.value)
