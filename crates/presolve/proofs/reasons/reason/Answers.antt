use Rattle.std.proofs.Common.{refl, ap, ◌∙◌}
use Rattle.sums.specs.Places.{list_below}
use Rattle.fleet_model.specs.Schedule.{fleets_in}
use Rattle.presolve.specs.Reasons.{reason_rent}
use Rattle.presolve.proofs.ReasonPrices.{reason_is}
use Rattle.presolve.proofs.reasons.reason.Goals as goal

pub returns : goal.returns
returns c = reason_is c.args.tables.now c.args.rule c.args.pair _ c.requires.pair c.requires.flown refl (c.from_vec.ensures ∙ c.in_ok-rents.ensures ∙ ap (λ f. list_below (reason_rent c.args.rule f) (fleets_in c.args.tables.now)) c.fleet_by.ensures.value) (c.from_vec-2.ensures ∙ c.in_ok-steps.ensures) (c.from_vec-3.ensures ∙ c.new.ensures.items)
