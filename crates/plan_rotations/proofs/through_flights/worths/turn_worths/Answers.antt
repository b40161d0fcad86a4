use Rattle.std.proofs.Common.{◌≡◌, ◌<◌, ℕ, [], length, slice_index, sym, ◌∙◌, ap, subst, arith}
use Rattle.fleet_model.specs.Schedule.{legs_in}
use Rattle.plan_rotations.specs.through_flights.Worths.{IsTurnWorth, through_pair}
use Rattle.plan_rotations.proofs.through_flights.Pushing.{one_longer, pushed}
use Rattle.plan_rotations.proofs.through_flights.worths.turn_worths.Goals as goal

pub loop-arriving-preserved : goal.loop-arriving-preserved
loop-arriving-preserved c = record {
  size = one_longer _ _ _ _ c.in_ok-push.ensures.items c.loop-arriving.invariant.size;
  square = pushed (λ k row. length row ≡ legs_in c.args.turns.now.tables.now) [] _ _ _ _
      c.in_ok-push.ensures.items c.loop-arriving.invariant.size c.loop-arriving.invariant.square c.in_ok-turn_worths_from.ensures.size;
  each = λ arriving departing lt departing_lt. pushed (λ k row. (j : ℕ) → j < legs_in c.args.turns.now.tables.now
      → IsTurnWorth c.args.turns.now.tables.now c.args.turns.now.plan.now c.args.turns.now.fleet (through_pair k j) (slice_index row j)) [] _ _ _ _
      c.in_ok-push.ensures.items c.loop-arriving.invariant.size (λ k less j j_lt. c.loop-arriving.invariant.each k j less j_lt)
      c.in_ok-turn_worths_from.ensures.each arriving lt departing departing_lt;
}

pub loop-arriving-init : goal.loop-arriving-init
loop-arriving-init c = record {
  size = ap length c.new-worths.ensures.items;
  square = λ arriving lt. absurd (omega (arith, lt));
  each = λ arriving departing lt departing_lt. absurd (omega (arith, lt));
}

pub returns : goal.returns
returns c =
    let all : c.loop-arriving.arriving ≡ legs_in c.args.turns.now.tables.now = omega (arith, c.loop-arriving-test.false, c.loop-arriving.auto.arriving-end, c.leg_count-arriving-end.ensures) in
    record {
      size = c.loop-arriving.invariant.size ∙ all;
      square = λ arriving lt. c.loop-arriving.invariant.square arriving (subst (λ n. arriving < n) (sym all) lt);
      each = λ arriving departing lt departing_lt. c.loop-arriving.invariant.each arriving departing (subst (λ n. arriving < n) (sym all) lt) departing_lt;
    }
