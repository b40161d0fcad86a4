-- A mixed plan, with the aircraft on the ground and those not used, is a point of the lines.
use Rattle.std.proofs.Common.{◌≡◌, ℕ, zero, suc, ◌+◌, ◌-◌, ◌*◌, ◌<◌, ◌≤◌, Bool, true, false, if◌then◌else◌, ◌==◌, ◌&&◌, length, get_or, Option, Some, None, is_none, is_some, pos, ◌+ℤ◌, ◌-ℤ◌, ◌*ℤ◌, refl, sym, ◌∙◌, ap, inl, inr, arith, add-one}
use Rattle.std.specs.Prelude.{unwrap_or}
use Rattle.std.proofs.lemmas.Bool.{cases_lt}
use Rattle.std.proofs.lemmas.Int.{ints}
use Rattle.std.proofs.Math.Nat.{mul_comm}
use lib.IntN.{zero-*ℤ}
use Rattle.sums.specs.Below.{sum_below, sum_below_ℤ}
use Rattle.sums.proofs.Integers.{one-*ℤ}
use Rattle.sums.proofs.Sums.{sum_below-agree}
use Rattle.sums.proofs.WholeSums.{sum_below_ℤ-same, sum_below_ℤ-pos}
use Rattle.sums.proofs.WholeSwaps.{where_true}
use Rattle.sums.proofs.Tests.{by_test}
use Rattle.fleet_model.specs.declared.parts.Pair.{Pair}
use Rattle.fleet_model.specs.declared.tables.Tables.{Tables}
use Rattle.fleet_model.specs.Counts.{Weights, arrived, departed}
use Rattle.fleet_model.specs.Kept.{Domains}
use Rattle.fleet_model.specs.Mixed.{IsMixedPlan, weight_on}
use Rattle.fleet_model.specs.Schedule.{IsPair, choices_in, day_end, days_in, departures_in, fleet_of, fleets_in, last_of, leg_on, legs_in, parking_limit, parking_of, period_of, stations_in}
use Rattle.fleet_model.specs.Use.{laps_flown, need_of, parked, stand_of, used_of}
use Rattle.fleet_model.proofs.PeriodMinutes.{last_in}
use Rattle.fleet_model.proofs.UseLaws.{need_suffices}
use Rattle.node_aggregate.specs.Laws.{WeighKept}
use Rattle.node_aggregate.specs.Nodes.{end_in}
use Rattle.node_aggregate.proofs.Starts.{end_last, end_within}
use Rattle.node_aggregate.proofs.EmptyArcs.{gone_is_empty}
use Rattle.lp_rows.specs.declared.kinds.Park.{Park}
use Rattle.lp_rows.specs.declared.kinds.Column.{Column}
use Rattle.lp_rows.specs.declared.kinds.Column.TheVariants.{Flight, Ground, Room, Slack}
use Rattle.lp_rows.specs.declared.kinds.Line.{Line}
use Rattle.lp_rows.specs.declared.kinds.Line.TheVariants.{Cover, Balance, Count, Parking}
use Rattle.lp_rows.specs.Entries.{IsLine, IsPark, entry_of, right_side_of}
use Rattle.lp_rows.specs.Layout.{IsNetwork, Starts, arc_stays, moment_at, node_of_place, parking_days, program_columns, program_lines}
use Rattle.lp_rows.specs.Points.{PlansArePoints, column_at, same_column, value_of}
use Rattle.lp_rows.proofs.Flows.{IsFlow, before_next, flown, last_is, no_last}
use Rattle.lp_rows.proofs.LineNumbers.{line_count, right_side_at, sum_at}
use Rattle.lp_rows.proofs.LineSums.{StandOnArcs, balance_sum, coming_to, count_sum, cover_sum, last_arc, leaving_from, line_sum, night_arc, parking_sum}
use Rattle.lp_rows.proofs.NightArcs.{night_arc_is, night_node, no_night_arc, within_days}
use Rattle.lp_rows.proofs.NodeCounts.{come_first, come_next, left_first, left_next, no_need, none_stand}
use Rattle.lp_rows.proofs.Picks.{pick_choice, place_before}
use Rattle.lp_rows.proofs.Places.{no_grounds, no_rooms, no_slacks, nothing_there}
use Rattle.lp_rows.proofs.Totals.{lines_are_known, over_columns}

-- what a mixed plan gives to each column
abbrev pub plan_value : Tables → Starts → ℕ → Weights → Column → ℕ
plan_value t starts q w (Flight p) = w p
plan_value t starts q w (Ground n) = stand_of t w n.fleet n.station (end_in t (starts n.fleet n.station) n.place)
plan_value t starts q w (Slack f) = q * (fleet_of t f).aircraft - used_of t w f
plan_value t starts q w (Room p) = q * parking_limit t p.station - parked t w p.station p.day

module _ (t : Tables) (keeps : Domains) (starts : Starts) (q : ℕ) (w : Weights) (network : IsNetwork t keeps starts) (plan : IsMixedPlan t keeps q w) where
  weighs_kept : WeighKept t keeps w
  weighs_kept = record { each = plan.kept }

  -- what stands at the end of a minute, with what has left, is the need with what has come
  stands : (f s m : ℕ) → m < period_of t → stand_of t w f s m + departed t w f s m ≡ need_of t w f s + arrived t w f s m
  unfolding stand_of
  stands f s m within = omega (arith, (need_suffices t w f s).each m within)

  -- at the end of a period that is the need again
  stand_at_last : (f s : ℕ) → f < fleets_in t → s < stations_in t → stand_of t w f s (last_of t) ≡ need_of t w f s
  stand_at_last f s known within = omega (arith, stands f s (last_of t) (last_in t), plan.balanced.each f s known within)

  stands_at_end : (f s k : ℕ) → f < fleets_in t → s < stations_in t
      → stand_of t w f s (end_in t (starts f s) k) + departed t w f s (end_in t (starts f s) k) ≡ need_of t w f s + arrived t w f s (end_in t (starts f s) k)
  stands_at_end f s k known within = stands f s (end_in t (starts f s) k) (end_within t keeps f s (starts f s) (network.each f s known within) k)

  abbrev Keeps : ℕ → ℕ → ℕ → Type 0
  Keeps f s k =
      sum_below (coming_to t starts w (node_of_place f s k)) (departures_in t) + plan_value t starts q w (Ground (node_of_place f s (place_before (length (starts f s)) k)))
      ≡ sum_below (leaving_from t starts w (node_of_place f s k)) (departures_in t) + plan_value t starts q w (Ground (node_of_place f s k))

  last_stand : (f s : ℕ) → f < fleets_in t → s < stations_in t → 0 < length (starts f s) → plan_value t starts q w (Ground (node_of_place f s (length (starts f s) - 1))) ≡ need_of t w f s
  last_stand f s known within some = ap (stand_of t w f s) (end_last t (starts f s) (length (starts f s) - 1) (omega arith)) ∙ stand_at_last f s known within

  keeps_next : (f s k : ℕ) → f < fleets_in t → s < stations_in t → k + 1 < length (starts f s) → Keeps f s (k + 1)
  keeps_next f s k known within next =
      let at = network.each f s known within in
      let arc = ap (λ j. plan_value t starts q w (Ground (node_of_place f s j))) (before_next (length (starts f s)) k) in
      omega (
        arith,
        arc,
        stands_at_end f s k known within,
        stands_at_end f s (k + 1) known within,
        left_next t keeps w f s starts known weighs_kept at k next,
        come_next t keeps w f s starts known weighs_kept at k next,
      )

  keeps_at : (f s k : ℕ) → f < fleets_in t → s < stations_in t → k < length (starts f s) → Keeps f s k
  keeps_at f s zero known within below =
      let at = network.each f s known within in
      omega (
        arith,
        last_stand f s known within below,
        stands_at_end f s 0 known within,
        left_first t keeps w f s starts known weighs_kept at,
        come_first t keeps w f s starts known weighs_kept at,
      )
  keeps_at f s (suc k) known within below = rw (← add-one k) (keeps_next f s k known within (omega arith))

  arc_is_need : (f s : ℕ) → f < fleets_in t → s < stations_in t → last_arc starts (plan_value t starts q w) f s ≡ need_of t w f s
  arc_is_need f s known within = elim (cases_lt 0 (length (starts f s))) [
    | inl some ↦ last_is starts (plan_value t starts q w) f s some ∙ last_stand f s known within some
    | inr none ↦ no_last starts (plan_value t starts q w) f s (omega arith) ∙ sym (no_need t keeps w f s starts known weighs_kept (network.each f s known within) (omega arith))
  ]

  counted : (f : ℕ) → f < fleets_in t → laps_flown t w f + sum_below (last_arc starts (plan_value t starts q w) f) (stations_in t) + plan_value t starts q w (Slack f) ≡ q * (fleet_of t f).aircraft
  unfolding used_of
  counted f known =
      omega (
        arith,
        sum_below-agree (last_arc starts (plan_value t starts q w) f) (need_of t w f) (stations_in t) (record { each = λ s within. arc_is_need f s known within }),
        plan.within f known,
      )

  -- what stands at the end of a day stands on the arc that passes it
  arc_is_stand : (f s d : ℕ) → f < fleets_in t → s < stations_in t → 0 < d → d ≤ parking_days t s → night_arc t starts (plan_value t starts q w) s d f ≡ stand_of t w f s (day_end d)
  arc_is_stand f s d known within first inside = elim (cases_lt 0 (length (starts f s))) [
    | inl some ↦
        let at = network.each f s known within in
        night_arc_is t keeps f s d starts at first inside some (plan_value t starts q w) ∙ ap (stand_of t w f s) (night_node t keeps f s d starts at first inside some).1.ends
    | inr none ↦ no_night_arc t starts (plan_value t starts q w) s d f (omega arith) ∙ sym (none_stand t keeps w f s starts known weighs_kept (network.each f s known within) (omega arith) (day_end d))
  ]

  -- a station with days that have a limit has one
  has_limit : (o : Option ℕ) (n d : ℕ) → 0 < d → d ≤ (if is_some o then n else 0) → o ≡ Some (unwrap_or o 0)
  has_limit (Some limit) n d first inside = refl
  has_limit None n d first inside = absurd (omega (arith, first, inside))

  roomed : (p : Park) → IsPark t p → sum_below (night_arc t starts (plan_value t starts q w) p.station p.day) (fleets_in t) + plan_value t starts q w (Room p) ≡ q * parking_limit t p.station
  unfolding parked
  roomed p known =
      omega (
        arith,
        sum_below-agree (night_arc t starts (plan_value t starts q w) p.station p.day) (λ f. stand_of t w f p.station (day_end p.day)) (fleets_in t)
            (record { each = λ f less. arc_is_stand f p.station p.day less known.station known.some known.day }),
        plan.room.each p.station p.day (parking_limit t p.station) known.station known.some (within_days t p.station p.day known.day) (has_limit (parking_of t p.station) (days_in t) p.day known.some known.day),
      )

  plan_is_flow : IsFlow t starts q (plan_value t starts q w)
  plan_is_flow = record {
    cover = plan.cover;
    balance = λ n node. keeps_at n.fleet n.station n.place node.fleet node.station node.place;
    count = counted;
    room = roomed;
  }

-- an arc that went has a moment, so that none stands on it
moment_of_gone : (o : Option ℕ) → is_none o ≡ false → (m : ℕ) × (o ≡ Some m)
moment_of_gone (Some m) went = (m, refl)
moment_of_gone None went = cc

stands_on_arcs : (t : Tables) (keeps : Domains) (starts : Starts) (q : ℕ) (w : Weights) → IsNetwork t keeps starts → IsMixedPlan t keeps q w → StandOnArcs t keeps starts (plan_value t starts q w)
unfolding arc_stays
stands_on_arcs t keeps starts q w network plan = record {
  each = λ n node went.
      let moment = moment_of_gone (moment_at t keeps starts n) went in
      gone_is_empty t keeps q w plan n.fleet n.station (starts n.fleet n.station) node.fleet node.station (network.each n.fleet n.station node.fleet node.station) n.place moment.0 node.place moment.1;
}

to_counts : (m q : ℕ) → m ≡ q → pos m ≡ pos 1 *ℤ pos q
to_counts m q e = omega (arith, ints, e, one-*ℤ (pos q))

to_balance : (a b c d q : ℕ) → a + c ≡ b + d → (pos a -ℤ pos b) +ℤ (pos c -ℤ pos d) ≡ pos 0 *ℤ pos q
to_balance a b c d q e = omega (arith, ints, e, zero-*ℤ (pos q))

to_product : (m a q : ℕ) → m ≡ q * a → pos m ≡ pos a *ℤ pos q
to_product m a q e = omega (arith, ints, e, mul_comm a q)

-- a flow meets each line of the tables
flow_meets : (t : Tables) (keeps : Domains) (starts : Starts) (q : ℕ) (v : Column → ℕ) → WeighKept t keeps (flown v) → StandOnArcs t keeps starts v → IsFlow t starts q v → (line : Line) → IsLine t starts line
    → line_sum t keeps starts v (entry_of t starts line) ≡ right_side_of t line *ℤ pos q
flow_meets t keeps starts q v weigh stand flow (Cover l) below = cover_sum t keeps starts v weigh l below ∙ to_counts (weight_on t (flown v) l) q (flow.cover l below)
flow_meets t keeps starts q v weigh stand flow (Balance n) node =
    balance_sum t keeps starts v weigh stand n node
    ∙ to_balance (sum_below (coming_to t starts (flown v) n) (departures_in t)) (sum_below (leaving_from t starts (flown v) n) (departures_in t))
    (v (Ground (node_of_place n.fleet n.station (place_before (length (starts n.fleet n.station)) n.place)))) (v (Ground n)) q (flow.balance n node)
flow_meets t keeps starts q v weigh stand flow (Count f) known =
    count_sum t keeps starts v weigh stand f known
    ∙ to_product (laps_flown t (flown v) f + sum_below (last_arc starts v f) (stations_in t) + v (Slack f)) (fleet_of t f).aircraft q (flow.count f known)
flow_meets t keeps starts q v weigh stand flow (Parking p) known =
    parking_sum t keeps starts v weigh stand p known ∙ to_product (sum_below (night_arc t starts v p.station p.day) (fleets_in t) + v (Room p)) (parking_limit t p.station) q (flow.room p known)

masked_tests : (k a b : Bool) (y : ℕ) → where_true k (pos (if a && b then y else 0)) ≡ where_true a (where_true b (where_true k (pos y)))
masked_tests true true true y = refl
masked_tests true true false y = refl
masked_tests true false b y = refl
masked_tests false true true y = refl
masked_tests false true false y = refl
masked_tests false false b y = refl

-- what a point by kinds gives to a pair
value_of_pair : (t : Tables) (keeps : Domains) (starts : Starts) (v : Column → ℕ) (p : Pair) → IsPair t p → keeps p ≡ true
    → value_of (program_columns t keeps starts) (λ c. v (column_at (program_columns t keeps starts) c)) (Flight p) ≡ v (Flight p)
value_of_pair t keeps starts v p known kept =
    let columns = program_columns t keeps starts in
    let here = λ (k : Column). pos (if same_column (Flight p) k then v k else 0) in
    let pairs = sum_below_ℤ-same (λ l. sum_below_ℤ (λ c. where_true (keeps (leg_on l c)) (pos (if (p.leg == l) && (p.choice == c) then v (Flight (leg_on l c)) else 0))) (choices_in t l))
    (λ l. sum_below_ℤ (λ c. where_true (p.leg == l) (where_true (p.choice == c) (where_true (keeps (leg_on l c)) (pos (v (Flight (leg_on l c))))))) (choices_in t l)) (legs_in t)
    (λ l below. sum_below_ℤ-same (λ c. where_true (keeps (leg_on l c)) (pos (if (p.leg == l) && (p.choice == c) then v (Flight (leg_on l c)) else 0)))
    (λ c. where_true (p.leg == l) (where_true (p.choice == c) (where_true (keeps (leg_on l c)) (pos (v (Flight (leg_on l c))))))) (choices_in t l)
    (λ c lt. masked_tests (keeps (leg_on l c)) (p.leg == l) (p.choice == c) (v (Flight (leg_on l c)))))
    ∙ pick_choice (legs_in t) (choices_in t) p.leg p.choice (λ l c. where_true (keeps (leg_on l c)) (pos (v (Flight (leg_on l c))))) known.leg known.choice
    ∙ ap (λ b. where_true b (pos (v (Flight p)))) kept in
    let all = sym (sum_below_ℤ-pos (λ c. if same_column (Flight p) (column_at columns c) then v (column_at columns c) else 0) (length columns)) ∙ over_columns t keeps starts here in
    omega (arith, ints, all, pairs, no_grounds t keeps starts here (λ n. refl), no_slacks t keeps starts here (λ f. refl), no_rooms t keeps starts here (λ p. refl))

pub plans_are_points : PlansArePoints
plans_are_points t keeps starts rows q w are plan =
    let v = plan_value t starts q w in
    let columns = program_columns t keeps starts in
    let flow = plan_is_flow t keeps starts q w are.network plan in (
      λ c. v (column_at columns c),
      record {
        meets = record {
          each = λ i within.
              let line = get_or (program_lines t starts) i (Cover 0) in
              let place : i < length (program_lines t starts) = omega (arith, line_count t keeps starts rows are) in
              sum_at t keeps starts rows are (λ c. v (column_at columns c)) v (λ c below. refl) i place
              ∙ flow_meets t keeps starts q v (record { each = plan.kept }) (stands_on_arcs t keeps starts q w are.network plan) flow line (lines_are_known t starts i (Cover 0) place)
              ∙ ap (λ r. r *ℤ pos q) (sym (right_side_at t keeps starts rows are i place));
        };
        pairs = λ p known. by_test (keeps p) (λ kept. value_of_pair t keeps starts v p known kept)
            (λ not_kept. nothing_there t keeps starts (λ c. v (column_at columns c)) p not_kept ∙ sym (plan.kept p known not_kept));
      },
    )
