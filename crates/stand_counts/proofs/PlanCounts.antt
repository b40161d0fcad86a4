-- The counts of a fleet's flights by an assignment are those of the assignment's weights.
use Rattle.std.proofs.Common.{◌≡◌, ℕ, ◌+◌, ◌-◌, ◌*◌, ◌<◌, Bool, true, false, if◌then◌else◌, ◌==◌, ◌&&◌, List, refl, sym, ap, ◌∙◌, arith}
use Rattle.sums.specs.Below.{sum_below}
use Rattle.sums.proofs.Maxima.{max_below-agree}
use Rattle.sums.proofs.Sums.{sum_below-agree}
use Rattle.fleet_model.specs.declared.tables.Tables.{Tables}
use Rattle.fleet_model.specs.Counts.{arrived, departed, has_come, has_left, pair_at, weights_of}
use Rattle.fleet_model.specs.Legal.{IsAssignment}
use Rattle.fleet_model.specs.Schedule.{fleet_by, fleets_in, legs_in, period_of, stations_in}
use Rattle.fleet_model.specs.Times.{laps_of}
use Rattle.fleet_model.specs.Use.{excess, laps_flown, need_of, stand_of, used_of}
use Rattle.fleet_model.proofs.Choices.{planned as planned_sum, planned_where}
use Rattle.stand_counts.specs.Flights.{arrived_by, coming_by, departed_by, excess_by, laps_at_by, laps_by, leaving_by, need_by, planned, stand_by, used_by}
use Rattle.stand_counts.specs.Laws.{AreCounts}

-- a weight of 1 where a test passes counts where another passes
where_both : (mine passes : Bool) → ◌≡◌ {A = ℕ} (if passes then (if mine then 1 else 0) else 0) (if mine && passes then 1 else 0)
where_both true true = refl
where_both true false = refl
where_both false true = refl
where_both false false = refl

where_mine : (mine : Bool) (n : ℕ) → ◌≡◌ {A = ℕ} ((if mine then 1 else 0) * n) (if mine then n else 0)
where_mine true n = omega arith
where_mine false n = omega arith

module _ (t : Tables) (a : List ℕ) (f : ℕ) (assignment : IsAssignment t a) (known : f < fleets_in t) where
  pub departures_of_plan : (s m : ℕ) → departed_by t (planned t a f) s m ≡ departed t (weights_of a) f s m
  unfolding departed_by departed
  departures_of_plan s m =
      sum_below-agree (leaving_by t (planned t a f) s m) (λ l. if (fleet_by t (pair_at a l) == f) && has_left t (pair_at a l) s m then 1 else 0) (legs_in t)
      (record { each = λ l below. where_both (fleet_by t (pair_at a l) == f) (has_left t (pair_at a l) s m) })
      ∙ sym (planned_where t a f assignment known (λ p. has_left t p s m))

  pub arrivals_of_plan : (s m : ℕ) → arrived_by t (planned t a f) s m ≡ arrived t (weights_of a) f s m
  unfolding arrived_by arrived
  arrivals_of_plan s m =
      sum_below-agree (coming_by t (planned t a f) s m) (λ l. if (fleet_by t (pair_at a l) == f) && has_come t (pair_at a l) s m then 1 else 0) (legs_in t)
      (record { each = λ l below. where_both (fleet_by t (pair_at a l) == f) (has_come t (pair_at a l) s m) })
      ∙ sym (planned_where t a f assignment known (λ p. has_come t p s m))

  pub excess_of_plan : (s m : ℕ) → excess_by t (planned t a f) s m ≡ excess t (weights_of a) f s m
  unfolding excess_by excess
  excess_of_plan s m = ap (λ n. n - arrived_by t (planned t a f) s m) (departures_of_plan s m) ∙ ap (λ n. departed t (weights_of a) f s m - n) (arrivals_of_plan s m)

  pub need_of_plan : (s : ℕ) → need_by t (planned t a f) s ≡ need_of t (weights_of a) f s
  unfolding need_by need_of
  need_of_plan s = max_below-agree (excess_by t (planned t a f) s) (excess t (weights_of a) f s) (period_of t) (record { each = λ m within. excess_of_plan s m })

  pub stand_of_plan : (s m : ℕ) → stand_by t (planned t a f) s m ≡ stand_of t (weights_of a) f s m
  unfolding stand_by stand_of
  stand_of_plan s m =
      ap (λ n. n + arrived_by t (planned t a f) s m - departed_by t (planned t a f) s m) (need_of_plan s)
      ∙ ap (λ n. need_of t (weights_of a) f s + n - departed_by t (planned t a f) s m) (arrivals_of_plan s m)
      ∙ ap (λ n. need_of t (weights_of a) f s + arrived t (weights_of a) f s m - n) (departures_of_plan s m)

  laps_of_plan : laps_by t (planned t a f) ≡ laps_flown t (weights_of a) f
  unfolding laps_by laps_flown
  laps_of_plan =
      sum_below-agree (laps_at_by t (planned t a f)) (λ l. if fleet_by t (pair_at a l) == f then laps_of t (pair_at a l) else 0) (legs_in t)
      (record { each = λ l below. where_mine (fleet_by t (pair_at a l) == f) (laps_of t (pair_at a l)) })
      ∙ sym (planned_sum t a f assignment known (laps_of t))

  pub use_of_plan : used_by t (planned t a f) ≡ used_of t (weights_of a) f
  unfolding used_by used_of
  use_of_plan =
      ap (λ n. n + laps_by t (planned t a f)) (sum_below-agree (need_by t (planned t a f)) (need_of t (weights_of a) f) (stations_in t) (record { each = λ s within. need_of_plan s }))
      ∙ ap (λ n. sum_below (need_of t (weights_of a) f) (stations_in t) + n) laps_of_plan

  pub counts_of_plan : AreCounts t (planned t a f) (weights_of a) f
  counts_of_plan = record {
    departures = departures_of_plan;
    arrivals = arrivals_of_plan;
    excesses = excess_of_plan;
    needs = need_of_plan;
    stands = stand_of_plan;
    uses = use_of_plan;
  }
