-- Need is the greatest excess at a departure: between two departures the excess doesn't grow.
use Rattle.std.proofs.Common.{◌≡◌, ℕ, suc, ◌-◌, ◌≤◌, if◌then◌else◌, ◌==◌, sym, ap, ◌∙◌, arith}
use Rattle.std.proofs.lemmas.Bool.Decides.{nat_tests}
use Rattle.sums.specs.Below.{max_below}
use Rattle.sums.proofs.Maxima.{max_below-agree}
use Rattle.stand_counts.proofs.Peaks.{AreMoves, greatest_lead, lead_at, lead_where, leaving_until}
use Rattle.sums.proofs.Sums.{sum_below-agree, sum_below-le}
use Rattle.fleet_model.specs.declared.tables.Tables.{Tables}
use Rattle.fleet_model.specs.Schedule.{leg_of, period_of}
use Rattle.fleet_model.specs.Times.{departure}
use Rattle.fleet_model.proofs.PeriodMinutes.{departs_always}
use Rattle.stand_counts.specs.AtDepartures.{excess_at, flies_from}
use Rattle.stand_counts.specs.Flights.{Flights, arrived_by, coming_by, departed_by, excess_by, leaving_by, need_by}

-- the greatest excess at departures from the station among the first legs
abbrev pub greatest_excess : Tables → Flights → ℕ → ℕ → ℕ
greatest_excess t x s n = max_below (excess_at t x s) n

module _ (t : Tables) (x : Flights) (s : ℕ) where
  -- when a leg's flight leaves, and what it weighs at the station
  when : ℕ → ℕ
  when l = departure t (x.pair l)

  weight : ℕ → ℕ
  weight l = if (leg_of t (x.pair l).leg).from == s then x.weight (x.pair l) else 0

  arrivals_rise : (m : ℕ) → arrived_by t x s m ≤ arrived_by t x s (suc m)
  unfolding arrived_by
  arrivals_rise m = sum_below-le (coming_by t x s m) (coming_by t x s (suc m)) x.count (record { each = λ l below. grind (arith, nat_tests) })

  moves : AreMoves when weight (arrived_by t x s) x.count (period_of t) (flies_from t x s)
  unfolding when weight
  moves = record {
    rises = arrivals_rise;
    within = λ l below. departs_always t (x.pair l);
    passes = λ l below some. grind (arith, nat_tests);
  }

  leads : (m : ℕ) → excess_by t x s m ≡ lead_at when weight (arrived_by t x s) x.count m
  unfolding excess_by departed_by when weight
  leads m = ap (λ n. n - arrived_by t x s m) (sum_below-agree (leaving_by t x s m) (leaving_until when weight m) x.count (record { each = λ l below. grind (arith, nat_tests) }))

  pub need_found : need_by t x s ≡ greatest_excess t x s x.count
  unfolding need_by when
  need_found =
      max_below-agree (excess_by t x s) (lead_at when weight (arrived_by t x s) x.count) (period_of t) (record { each = λ m within. leads m })
      ∙ greatest_lead when weight (arrived_by t x s) x.count (period_of t) (flies_from t x s) moves
      ∙ max_below-agree (lead_where when weight (arrived_by t x s) x.count (flies_from t x s)) (excess_at t x s) x.count
      (record { each = λ l below. ap (λ n. if flies_from t x s l then n else 0) (sym (leads (when l))) })
