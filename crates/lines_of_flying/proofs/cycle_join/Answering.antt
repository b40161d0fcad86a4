-- The answers, of cycles that don't touch.
use Rattle.std.proofs.Common.{ℕ, List}
use Rattle.fleet_model.specs.Schedule.{legs_in}
use Rattle.lines_of_flying.specs.cycle_join.Joins.{IsApart, IsFirstLeg, IsJoined}
use Rattle.lines_of_flying.specs.cycle_join.Labels.{label_of, legs_labelled}
use Rattle.lines_of_flying.specs.cycle_join.Meetings.{AreCycles, AreCyclesApart, HasOneLabel, HasOtherLabel}
use Rattle.lines_of_flying.specs.cycle_join.Rounds.{IsRound}
use Rattle.lines_of_flying.specs.declared.cycle_join.cycles.Cycles.{Cycles}
use Rattle.lines_of_flying.specs.declared.cycle_join.ground.Ground.{Ground}
use Rattle.lines_of_flying.proofs.cycle_join.Meeting.{never_touches}
use Rattle.lines_of_flying.proofs.cycle_join.Parting.{is_apart}
use Rattle.lines_of_flying.proofs.cycle_join.Touring.{is_joined}

module _ (g : Ground) (c : Cycles) (is : AreCycles g c) (first : ℕ) (least : IsFirstLeg g.tables.now g.plan.now g.fleet first) where
  pub answer_tour : (legs : List ℕ) → HasOneLabel g c first → IsRound c.turns.items first legs
      → IsJoined g.tables.now g.plan.now g.fleet g.pairs.now legs
  answer_tour legs one round =
      is_joined g.tables.now g.plan.now g.fleet c.turns.items is.fitting.map first least.flies legs round g.pairs.now c.labels.items is.fitting is.holds is.labels.each_leg
      is.cycles.whole least one.each

  pub answer_apart : AreCyclesApart g c → HasOtherLabel g c first
      → IsApart g.tables.now g.plan.now g.fleet g.pairs.now (legs_labelled c.labels.items (label_of c.labels.items first) (legs_in g.tables.now))
  answer_apart apart other =
      is_apart g.tables.now g.plan.now g.fleet g.pairs.now c.turns.items c.labels.items first is.fitting is.holds is.labels.each_leg is.cycles least
      (λ inside by_label. never_touches g.tables.now g.plan.now g.fleet g.pairs.now c.turns.items c.labels.items is.fitting.map inside by_label
      (λ j k lt lt'. (apart.each j lt).each k lt'))
      other.leg other.known other.flown other.other
