use Rattle.std.proofs.lemmas.List.Elements.{recursion_from_All}
use Rattle.fleet_model.specs.Limits.{IsPairCost}
use Rattle.fleet_model.specs.Schedule.{fleets_in, legs_in}
use Rattle.fleet_model.proofs.CostLookup.{found_fits}
use Rattle.fleet_model.proofs.tables.Tables.fleet_cost.Goals as goal

pub returns-clause-fits : goal.returns-clause-fits
returns-clause-fits c =
    let t = c.args.self.now in
    rw c.get.ensures (found_fits t.costs c.args.leg c.args.fleet (legs_in t) (fleets_in t)
    (recursion_from_All (IsPairCost (legs_in t) (fleets_in t)) t.costs t.in_range.costs_fit.each))
