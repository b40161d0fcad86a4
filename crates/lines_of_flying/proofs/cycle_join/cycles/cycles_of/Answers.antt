use Rattle.std.proofs.Common.{length, sym, subst}
use Rattle.lines_of_flying.specs.ground_turns.Maps.{IsFitting}
use Rattle.lines_of_flying.specs.cycle_join.Labels.{AreLinked}
use Rattle.lines_of_flying.proofs.cycle_join.cycles.cycles_of.Goals as goal

pub labels_of-requires-clause-fitting : goal.labels_of-requires-clause-fitting
labels_of-requires-clause-fitting c =
    let ground = c.args.ground.now in
    subst (IsFitting ground.tables.now ground.plan.now ground.fleet) (sym c.deref.ensures.value) c.requires.fitting

pub returns : goal.returns
returns c = record {
  fitting = c.requires.fitting;
  holds = c.requires.holds;
  labels = c.in_ok-labels.ensures.labels;
  cycles = subst (λ turns. AreLinked turns c.in_ok-labels.labels.items (length turns)) c.deref.ensures.value c.in_ok-labels.ensures.cycles;
}
