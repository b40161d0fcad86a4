-- The need of free departures is their greatest excess at a departure.
use Rattle.std.proofs.Common.{◌≡◌, ◌-◌, ◌≤◌, ◌&&◌, ◌∙◌, ◌<◌, Bool, List, ℕ, ap, arith, false, if◌then◌else◌, nat_le, refl, suc, sym, true}
use Rattle.std.proofs.lemmas.Bool.Decides.{nat_tests}
use Rattle.sums.specs.Below.{max_below}
use Rattle.sums.proofs.Maxima.{max_below-agree}
use Rattle.sums.proofs.Sums.{sum_below-agree, sum_below-le}
use Rattle.fleet_model.specs.declared.parts.Connection.{Connection}
use Rattle.fleet_model.specs.declared.tables.Tables.{Tables}
use Rattle.fleet_model.specs.Schedule.{fleets_in, leg_on, legs_in, period_of}
use Rattle.fleet_model.specs.Times.{departure, ready_minute}
use Rattle.fleet_model.proofs.PeriodMinutes.{departs_in}
use Rattle.fleet_model.proofs.PlainTables.{fleet_pair}
use Rattle.lines_of_flying.specs.ground_turns.FirstOut.{free_departed, free_excess, free_landed, free_need, is_free_departure, is_free_landing}
use Rattle.lines_of_flying.proofs.ground_turns.Rounds.{bit}
use Rattle.stand_counts.proofs.Peaks.{AreMoves, greatest_lead, lead_at, lead_where, leaving_until}

-- the excess at a leg's departure, where that is free and from the station
abbrev pub excess_at : Tables → List ℕ → ℕ → List Connection → ℕ → ℕ → ℕ
excess_at t a f given s l = if is_free_departure t a f given s l then free_excess t a f given s (departure t (leg_on l f)) else 0

-- the greatest of those of the first legs
abbrev pub greatest_excess : Tables → List ℕ → ℕ → List Connection → ℕ → ℕ → ℕ
greatest_excess t a f given s n = max_below (excess_at t a f given s) n

not_zero : (b : Bool) → (bit b ≡ 0 → ⊥) → b ≡ true
not_zero true h = refl
not_zero false h = absurd (h refl)

-- the fleet is one of the tables
pub record IsKnown (t : Tables) (f : ℕ) : Type 0 where
  pub fleet : f < fleets_in t

module _ (t : Tables) (a : List ℕ) (f : ℕ) (given : List Connection) (s : ℕ) (known : IsKnown t f) where
  -- when a leg leaves, and whether it counts
  when : ℕ → ℕ
  when l = departure t (leg_on l f)

  counts : ℕ → ℕ
  counts l = bit (is_free_departure t a f given s l)

  landed_rises : (m : ℕ) → free_landed t a f given s m ≤ free_landed t a f given s (suc m)
  unfolding free_landed
  landed_rises m = sum_below-le _ _ (legs_in t) (record { each = λ l below. later (is_free_landing t a f given s l) (ready_minute t (leg_on l f)) m })
    where
      later : (b : Bool) (r m : ℕ) → bit (b && nat_le r m) ≤ bit (b && nat_le r (suc m))
      later b r m = grind (arith, nat_tests)

  moves : AreMoves when counts (free_landed t a f given s) (legs_in t) (period_of t) (is_free_departure t a f given s)
  unfolding when counts
  moves = record {
    rises = landed_rises;
    within = λ l below. departs_in t (leg_on l f) (fleet_pair t l f below known.fleet);
    passes = λ l below some. not_zero (is_free_departure t a f given s l) some;
  }

  leads : (m : ℕ) → free_excess t a f given s m ≡ lead_at when counts (free_landed t a f given s) (legs_in t) m
  unfolding free_departed when counts
  leads m = ap (λ n. n - free_landed t a f given s m) (sum_below-agree _ (leaving_until when counts m) (legs_in t) (record { each = λ l below. by_then (is_free_departure t a f given s l) (departure t (leg_on l f)) m }))
    where
      by_then : (b : Bool) (d m : ℕ) → bit (b && nat_le d m) ≡ (if nat_le d m then bit b else 0)
      by_then b d m = grind (arith, nat_tests)

  pub free_need_found : free_need t a f given s ≡ greatest_excess t a f given s (legs_in t)
  unfolding free_need when
  free_need_found =
      max_below-agree (free_excess t a f given s) (lead_at when counts (free_landed t a f given s) (legs_in t)) (period_of t) (record { each = λ m within. leads m })
      ∙ greatest_lead when counts (free_landed t a f given s) (legs_in t) (period_of t) (is_free_departure t a f given s) moves
      ∙ max_below-agree (lead_where when counts (free_landed t a f given s) (legs_in t) (is_free_departure t a f given s)) (excess_at t a f given s) (legs_in t)
      (record { each = λ l below. ap (λ n. if is_free_departure t a f given s l then n else 0) (sym (leads (when l))) })
