use Rattle.euler_rotation.proofs.Answering.{complete_all}
use Rattle.euler_rotation.proofs.rotating.rotate.Goals as goal

pub rotation_of-requires-clause-asked : goal.rotation_of-requires-clause-asked
rotation_of-requires-clause-asked c = record {
  plain = c.requires.held.fitting.map.plain;
  plan = c.requires.plan;
  fleet = c.requires.fleet;
  some_days = c.requires.some_days;
  few_days = c.requires.few_days;
}

pub returns-clause-complete : goal.returns-clause-complete
returns-clause-complete c =
    complete_all c.args.tables.now c.args.plan.now c.args.fleet c.args.pairs.now c.args.days c.args.visits c.rotation_of.result c.rotation_of.ensures
