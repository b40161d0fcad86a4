-- A point of the lines is a flow, and its pair part a mixed plan.
use Rattle.std.proofs.Common.{◌≡◌, ℕ, ◌+◌, ◌*◌, length, pos, ◌+ℤ◌, ◌-ℤ◌, ◌*ℤ◌, sym, ◌∙◌, arith}
use Rattle.std.specs.Prelude.{unwrap_or}
use Rattle.std.proofs.lemmas.Int.{ints}
use Rattle.std.proofs.Math.Nat.{mul_comm}
use lib.IntN.{zero-*ℤ, *ℤ_comm}
use Rattle.sums.specs.Below.{sum_below}
use Rattle.sums.proofs.Integers.{one-*ℤ}
use Rattle.fleet_model.specs.declared.tables.Tables.{Tables}
use Rattle.fleet_model.specs.Kept.{Domains}
use Rattle.fleet_model.specs.Legal.{cost_of}
use Rattle.fleet_model.specs.Mixed.{mixed_cost, weight_on, weighted_cost}
use Rattle.fleet_model.specs.Schedule.{departures_in, fleet_of, fleets_in, parking_limit, stations_in}
use Rattle.fleet_model.specs.Use.{laps_flown}
use Rattle.node_aggregate.specs.Laws.{WeighKept}
use Rattle.lp_rows.specs.declared.kinds.Column.{Column}
use Rattle.lp_rows.specs.declared.kinds.Column.TheVariants.{Ground, Room, Slack}
use Rattle.lp_rows.specs.declared.kinds.Line.{Line}
use Rattle.lp_rows.specs.declared.kinds.Line.TheVariants.{Cover, Balance, Count, Parking}
use Rattle.lp_rows.specs.Entries.{IsLine, column_cost, entry_of, right_side_of}
use Rattle.lp_rows.specs.Layout.{Starts, node_of_place, program_columns}
use Rattle.lp_rows.specs.Points.{PointsArePlans, PointsCostAsPlans, value_of}
use Rattle.lp_rows.proofs.Flows.{IsFlow, flow_is_plan, flown}
use Rattle.lp_rows.proofs.LineNumbers.{cost_at, meets_line}
use Rattle.lp_rows.proofs.LineSums.{StandOnArcs, balance_sum, coming_to, count_sum, cover_sum, last_arc, leaving_from, line_sum, night_arc, over_flights, parking_sum}
use Rattle.lp_rows.proofs.Picks.{place_before}
use Rattle.lp_rows.proofs.Places.{no_grounds, no_rooms, no_slacks, nothing_on_ground, nothing_there, value_there}

-- each line of the tables comes to its right side
pub record MeetsLines (t : Tables) (keeps : Domains) (starts : Starts) (q : ℕ) (v : Column → ℕ) : Type 0 where
  pub each : (line : Line) → IsLine t starts line → line_sum t keeps starts v (entry_of t starts line) ≡ right_side_of t line *ℤ pos q

as_counts : (m q : ℕ) → pos m ≡ pos 1 *ℤ pos q → m ≡ q
as_counts m q e = omega (arith, ints, e, one-*ℤ (pos q))

as_balance : (a b c d q : ℕ) → (pos a -ℤ pos b) +ℤ (pos c -ℤ pos d) ≡ pos 0 *ℤ pos q → a + c ≡ b + d
as_balance a b c d q e = omega (arith, ints, e, zero-*ℤ (pos q))

as_product : (m a q : ℕ) → pos m ≡ pos a *ℤ pos q → m ≡ q * a
as_product m a q e = omega (arith, ints, e, mul_comm a q)

pub lines_are_flow : (t : Tables) (keeps : Domains) (starts : Starts) (q : ℕ) (v : Column → ℕ) → WeighKept t keeps (flown v) → StandOnArcs t keeps starts v → MeetsLines t keeps starts q v → IsFlow t starts q v
lines_are_flow t keeps starts q v weigh stand meets = record {
  cover = λ l below. as_counts (weight_on t (flown v) l) q (sym (cover_sum t keeps starts v weigh l below) ∙ meets.each (Cover l) below);
  balance = λ n node. as_balance (sum_below (coming_to t starts (flown v) n) (departures_in t)) (sum_below (leaving_from t starts (flown v) n) (departures_in t))
      (v (Ground (node_of_place n.fleet n.station (place_before (length (starts n.fleet n.station)) n.place)))) (v (Ground n)) q
      (sym (balance_sum t keeps starts v weigh stand n node) ∙ meets.each (Balance n) node);
  count = λ f known. as_product (laps_flown t (flown v) f + sum_below (last_arc starts v f) (stations_in t) + v (Slack f)) (fleet_of t f).aircraft q
      (sym (count_sum t keeps starts v weigh stand f known) ∙ meets.each (Count f) known);
  room = λ p known. as_product (sum_below (night_arc t starts v p.station p.day) (fleets_in t) + v (Room p)) (parking_limit t p.station) q
      (sym (parking_sum t keeps starts v weigh stand p known) ∙ meets.each (Parking p) known);
}

weighs_kept : (t : Tables) (keeps : Domains) (starts : Starts) (x : ℕ → ℕ) → WeighKept t keeps (flown (value_of (program_columns t keeps starts) x))
weighs_kept t keeps starts x = record { each = λ p known not_kept. nothing_there t keeps starts x p not_kept }

stands_on_arcs : (t : Tables) (keeps : Domains) (starts : Starts) (x : ℕ → ℕ) → StandOnArcs t keeps starts (value_of (program_columns t keeps starts) x)
stands_on_arcs t keeps starts x = record { each = λ n node went. nothing_on_ground t keeps starts x n went }

pub points_are_plans : PointsArePlans
points_are_plans t keeps starts rows q x are meets =
    let v = value_of (program_columns t keeps starts) x in
    flow_is_plan t keeps starts q v are.network (weighs_kept t keeps starts x) (lines_are_flow t keeps starts q v (weighs_kept t keeps starts x) (stands_on_arcs t keeps starts x)
    (record { each = meets_line t keeps starts rows are q x v (λ c below. sym (value_there t keeps starts x c below)) meets }))

pub points_cost_as_plans : PointsCostAsPlans
unfolding mixed_cost
points_cost_as_plans t keeps starts rows x are =
    let v = value_of (program_columns t keeps starts) x in
    let pairs = over_flights t keeps starts v (weighs_kept t keeps starts x) (column_cost t) (λ p. weighted_cost t (flown v) p.leg p.choice)
    (λ p. *ℤ_comm (unwrap_or (cost_of t p) (pos 0)) (pos (flown v p))) in
    let arcs = no_grounds t keeps starts (λ k. column_cost t k *ℤ pos (v k)) (λ n. zero-*ℤ (pos (v (Ground n)))) in
    let spare = no_slacks t keeps starts (λ k. column_cost t k *ℤ pos (v k)) (λ f. zero-*ℤ (pos (v (Slack f)))) in
    let room = no_rooms t keeps starts (λ k. column_cost t k *ℤ pos (v k)) (λ p. zero-*ℤ (pos (v (Room p)))) in
    cost_at t keeps starts rows are x v (λ c below. sym (value_there t keeps starts x c below)) ∙ omega (arith, ints, pairs, arcs, spare, room)
