use Rattle.std.proofs.Common.{rules, ◌≡◌, length, arith}
use Rattle.fleet_model.specs.Counts.{choice_at}
use Rattle.fleet_model.specs.Schedule.{legs_in}
use Rattle.fleet_model.proofs.PlainTables.{fleet_chooses}
use Rattle.test_tables.proofs.plans.assignment.Goals as goal

pub returns : goal.returns
returns c =
    let all : length c.loop-fleet.plan ≡ legs_in c.args.tables.now = search rules in
    record {
      each_leg = all;
      known = λ l below. fleet_chooses c.args.tables.now l (choice_at c.loop-fleet.plan l) (c.loop-fleet.invariant.known l (omega (arith, all, below)));
    }
