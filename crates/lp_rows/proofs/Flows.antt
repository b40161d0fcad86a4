-- Flows over the network: the numbers of columns that meet all lines, in counts.
use Rattle.std.proofs.Common.{◌≡◌, ℕ, zero, suc, ◌+◌, ◌-◌, ◌*◌, ◌<◌, ◌≤◌, if◌then◌else◌, ◌==◌, length, is_some, ◌∙◌, ap, subst, inl, inr, arith, add-one}
use Rattle.std.specs.Prelude.{unwrap_or}
use Rattle.std.proofs.lemmas.Bool.{cases_lt}
use Rattle.std.proofs.lemmas.Bool.Decides.{nat_tests}
use Rattle.sums.specs.Below.{sum_below}
use Rattle.sums.proofs.Maxima.{max_below-least}
use Rattle.sums.proofs.Sums.{sum_below-agree, sum_below-at, sum_below-le}
use Rattle.fleet_model.specs.declared.tables.Tables.{Tables}
use Rattle.fleet_model.specs.Counts.{Weights, arrived, departed}
use Rattle.fleet_model.specs.Kept.{Domains}
use Rattle.fleet_model.specs.Mixed.{IsMixedPlan, weight_on}
use Rattle.fleet_model.specs.Schedule.{day_end, days_in, departures_in, fleet_of, fleets_in, last_of, legs_in, parking_limit, stations_in}
use Rattle.fleet_model.specs.Legal.{HasRoom}
use Rattle.fleet_model.specs.Use.{excess, laps_flown, need_of, parked, stand_of, used_of}
use Rattle.node_aggregate.specs.Laws.{WeighKept, excess_at_end}
use Rattle.node_aggregate.specs.Nodes.{end_in}
use Rattle.node_aggregate.proofs.NodeEnds.{need_is_at_node_ends}
use Rattle.node_aggregate.proofs.Starts.{end_last}
use Rattle.lp_rows.specs.declared.kinds.Node.{Node}
use Rattle.lp_rows.specs.declared.kinds.Park.{Park}
use Rattle.lp_rows.specs.declared.kinds.Column.{Column}
use Rattle.lp_rows.specs.declared.kinds.Column.TheVariants.{Flight, Ground, Room, Slack}
use Rattle.lp_rows.specs.Entries.{IsNode, IsPark}
use Rattle.lp_rows.specs.Layout.{IsNetwork, Starts, node_of_place, parking_days}
use Rattle.lp_rows.proofs.LineSums.{coming_to, last_arc, leaving_from, night_arc}
use Rattle.lp_rows.proofs.NightArcs.{night_arc_is, night_node}
use Rattle.lp_rows.proofs.NodeCounts.{come_first, come_next, left_first, left_next, no_need, none_move, none_stand}
use Rattle.lp_rows.proofs.Picks.{one_before, place_before}

abbrev pub flown : (Column → ℕ) → Weights
flown v p = v (Flight p)

-- each leg is flown once, what comes to a node leaves it, each fleet has its aircraft, and no station more at night than it may,
-- so many parts each
pub record IsFlow (t : Tables) (starts : Starts) (q : ℕ) (v : Column → ℕ) : Type 0 where
  pub cover : (l : ℕ) → l < legs_in t → weight_on t (flown v) l ≡ q
  pub balance : (n : Node) → IsNode t starts n
      → sum_below (coming_to t starts (flown v) n) (departures_in t) + v (Ground (node_of_place n.fleet n.station (place_before (length (starts n.fleet n.station)) n.place)))
      ≡ sum_below (leaving_from t starts (flown v) n) (departures_in t) + v (Ground n)
  pub count : (f : ℕ) → f < fleets_in t → laps_flown t (flown v) f + sum_below (last_arc starts v f) (stations_in t) + v (Slack f) ≡ q * (fleet_of t f).aircraft
  pub room : (p : Park) → IsPark t p → sum_below (night_arc t starts v p.station p.day) (fleets_in t) + v (Room p) ≡ q * parking_limit t p.station

-- the last arc, where there is a node, and where there is none
pub last_is : (starts : Starts) (v : Column → ℕ) (f s : ℕ) → 0 < length (starts f s) → last_arc starts v f s ≡ v (Ground (node_of_place f s (length (starts f s) - 1)))
last_is starts v f s some =
    sum_below-agree (λ k. if length (starts f s) == k + 1 then v (Ground (node_of_place f s k)) else 0) (λ k. if length (starts f s) - 1 == k then v (Ground (node_of_place f s k)) else 0) (length (starts f s))
    (record { each = λ k below. ap (λ b. if b then v (Ground (node_of_place f s k)) else 0) (one_before (length (starts f s)) k some) })
    ∙ sum_below-at (length (starts f s) - 1) (length (starts f s)) (λ k. v (Ground (node_of_place f s k))) (omega arith)

pub no_last : (starts : Starts) (v : Column → ℕ) (f s : ℕ) → length (starts f s) ≡ 0 → last_arc starts v f s ≡ 0
no_last starts v f s none = ap (sum_below (λ k. if length (starts f s) == k + 1 then v (Ground (node_of_place f s k)) else 0)) none

pub before_next : (n k : ℕ) → place_before n (k + 1) ≡ k
before_next n k = grind (arith, nat_tests)

module _ (t : Tables) (keeps : Domains) (starts : Starts) (q : ℕ) (v : Column → ℕ) (network : IsNetwork t keeps starts) (weigh : WeighKept t keeps (flown v)) (flow : IsFlow t starts q v) where
  -- an arc has what the last one has and what came, less what left
  abbrev Conserved : ℕ → ℕ → ℕ → Type 0
  Conserved f s k = v (Ground (node_of_place f s k)) + departed t (flown v) f s (end_in t (starts f s) k) ≡ v (Ground (node_of_place f s (length (starts f s) - 1))) + arrived t (flown v) f s (end_in t (starts f s) k)

  conserved_next : (f s : ℕ) → f < fleets_in t → s < stations_in t → (k : ℕ) → k + 1 < length (starts f s) → Conserved f s k → Conserved f s (k + 1)
  conserved_next f s known within k next before =
      let at = network.each f s known within in
      let law = flow.balance (node_of_place f s (k + 1)) (record { fleet = known; station = within; place = next }) in
      let arc = ap (λ j. v (Ground (node_of_place f s j))) (before_next (length (starts f s)) k) in
      omega (arith, before, law, arc, left_next t keeps (flown v) f s starts known weigh at k next, come_next t keeps (flown v) f s starts known weigh at k next)

  conserved : (f s : ℕ) → f < fleets_in t → s < stations_in t → (k : ℕ) → k < length (starts f s) → Conserved f s k
  conserved f s known within zero below =
      let at = network.each f s known within in
      omega (
        arith,
        flow.balance (node_of_place f s 0) (record { fleet = known; station = within; place = below }),
        left_first t keeps (flown v) f s starts known weigh at,
        come_first t keeps (flown v) f s starts known weigh at,
      )
  conserved f s known within (suc k) below =
      subst (Conserved f s) (add-one k) (conserved_next f s known within k (omega arith) (conserved f s known within k (omega arith)))

  balanced : (f s : ℕ) → f < fleets_in t → s < stations_in t → arrived t (flown v) f s (last_of t) ≡ departed t (flown v) f s (last_of t)
  balanced f s known within = elim (cases_lt 0 (length (starts f s))) [
    | inl some ↦
        let law = conserved f s known within (length (starts f s) - 1) (omega arith) in
        let end = end_last t (starts f s) (length (starts f s) - 1) (omega arith) in
        omega (arith, law, ap (arrived t (flown v) f s) end, ap (departed t (flown v) f s) end)
    | inr none ↦ none_move t keeps (flown v) f s starts known weigh (network.each f s known within) (omega arith)
  ]

  need_on_arc : (f s : ℕ) → f < fleets_in t → s < stations_in t → need_of t (flown v) f s ≤ last_arc starts v f s
  unfolding excess
  need_on_arc f s known within = elim (cases_lt 0 (length (starts f s))) [
    | inl some ↦
        let least = max_below-least (excess_at_end t (flown v) f s (starts f s)) (last_arc starts v f s) (length (starts f s))
        (record { each = λ k below. omega (arith, conserved f s known within k below, last_is starts v f s some) }) in
        omega (arith, least, need_is_at_node_ends t keeps (flown v) f s (starts f s) known weigh (network.each f s known within))
    | inr none ↦ omega (arith, no_need t keeps (flown v) f s starts known weigh (network.each f s known within) (omega arith))
  ]

  within_fleet : (f : ℕ) → f < fleets_in t → used_of t (flown v) f ≤ q * (fleet_of t f).aircraft
  unfolding used_of
  within_fleet f known =
      omega (arith, flow.count f known, sum_below-le (need_of t (flown v) f) (last_arc starts v f) (stations_in t) (record { each = λ s within. need_on_arc f s known within }))

  -- what stands at the end of a day stands on the arc that passes it, or is less
  stand_on_arc : (f s d : ℕ) → f < fleets_in t → s < stations_in t → 0 < d → d ≤ parking_days t s → stand_of t (flown v) f s (day_end d) ≤ night_arc t starts v s d f
  unfolding stand_of
  stand_on_arc f s d known within first inside = elim (cases_lt 0 (length (starts f s))) [
    | inl some ↦
        let at = network.each f s known within in
        let node = night_node t keeps f s d starts at first inside some in
        let law = conserved f s known within node.0 node.1.there in
        omega (
          arith,
          law,
          ap (arrived t (flown v) f s) node.1.ends,
          ap (departed t (flown v) f s) node.1.ends,
          night_arc_is t keeps f s d starts at first inside some v,
          need_on_arc f s known within,
          last_is starts v f s some,
        )
    | inr none ↦ omega (arith, none_stand t keeps (flown v) f s starts known weigh (network.each f s known within) (omega arith) (day_end d))
  ]

  has_room : HasRoom t q (flown v)
  unfolding parked
  has_room = record {
    each = λ s d limit within first inside is.
        let days : parking_days t s ≡ days_in t = ap (λ o. if is_some o then days_in t else 0) is in
        let most = flow.room (record { station = s; day = d }) (record { station = within; some = first; day = omega (arith, inside, days) }) in
        let stands = sum_below-le (λ f. stand_of t (flown v) f s (day_end d)) (night_arc t starts v s d) (fleets_in t) (record { each = λ f known. stand_on_arc f s d known within first (omega (arith, inside, days)) }) in
        omega (arith, most, stands, ap (λ o. q * unwrap_or o 0) is);
  }

  pub flow_is_plan : IsMixedPlan t keeps q (flown v)
  flow_is_plan = record {
    kept = weigh.each;
    cover = flow.cover;
    balanced = record { each = balanced };
    within = within_fleet;
    room = has_room;
  }
