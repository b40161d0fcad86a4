use Rattle.std.proofs.Common.{rules, arith}
use Rattle.presolve.proofs.search.first_from.Goals as goal

pub returns-in-Some : goal.returns-in-Some
returns-in-Some c = record {
  pair = record { leg = omega (arith, c.in-Some.ensures.on_leg); choice = c.in-Some.ensures.known };
  from_place = search rules;
  by_rule = search rules;
  first = search rules;
}
