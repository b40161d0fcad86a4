use Rattle.fleet_model.specs.Schedule.{legs_in}
use Rattle.lines_of_flying.specs.cycle_join.Labels.{AreLabels, AreLinked}
use Rattle.lines_of_flying.proofs.cycle_join.cycles.labels_of.Given as goal

abbrev pub invariant-loop-turn : goal.invariant-loop-turn
invariant-loop-turn l = record {
  labels : AreLabels l.labels.items (legs_in l.ground.tables.now);
  linked : AreLinked l.turns l.labels.items l.turn-index;
}
