-- What each kind of line comes to at a point, in counts.
use Rattle.std.proofs.Common.{◌≡◌, ℕ, ◌+◌, ◌<◌, Bool, true, false, if◌then◌else◌, ◌==◌, ◌&&◌, length, ℤ, pos, ◌+ℤ◌, ◌-ℤ◌, ◌*ℤ◌, refl, sym, ◌∙◌, ap, arith}
use Rattle.std.proofs.lemmas.Int.{ints}
use lib.IntN.{zero-*ℤ, *ℤ_comm, *ℤ-zero}
use Rattle.sums.specs.Below.{sum_below, sum_below_ℤ}
use Rattle.sums.proofs.WholeSums.{sum_below_ℤ-same, sum_below_ℤ-pos, sum_below_ℤ-of_differences}
use Rattle.sums.proofs.WholeSwaps.{sum_below_ℤ-one, where_true}
use Rattle.sums.proofs.Tests.{by_test}
use Rattle.sums.proofs.Sums.{sum_below-at}
use Rattle.fleet_model.specs.declared.tables.Tables.{Tables}
use Rattle.fleet_model.specs.Counts.{Weights}
use Rattle.fleet_model.specs.Kept.{Domains}
use Rattle.fleet_model.specs.Mixed.{weight_on}
use Rattle.fleet_model.specs.Schedule.{choices_in, day_end, departures_in, fleet_by, fleets_in, leg_at, leg_of, leg_on, legs_in, pair_on, stations_in}
use Rattle.fleet_model.specs.Times.{departure, laps_of, ready_minute}
use Rattle.fleet_model.specs.Use.{laps_at, laps_flown}
use Rattle.fleet_model.specs.declared.parts.Pair.{Pair}
use Rattle.fleet_model.proofs.Choices.{pick_ℤ}
use Rattle.node_aggregate.specs.Laws.{WeighKept}
use Rattle.node_aggregate.specs.Nodes.{end_in}
use Rattle.lp_rows.specs.declared.kinds.Node.{Node}
use Rattle.lp_rows.specs.declared.kinds.Park.{Park}
use Rattle.lp_rows.specs.declared.kinds.Column.{Column}
use Rattle.lp_rows.specs.declared.kinds.Column.TheVariants.{Flight, Ground, Room, Slack}
use Rattle.lp_rows.specs.Entries.{IsNode, IsPark, balance_entry, count_entry, cover_entry, is_in_node, one_if, parking_entry, place_after, same_park}
use Rattle.lp_rows.specs.Layout.{Starts, arc_stays, node_of_place, park_at, parking_days}
use Rattle.lp_rows.proofs.ListSums.{one_if-times, test_out}
use Rattle.lp_rows.proofs.Picks.{count_before, inner_tests, one_test, pick_fleet, pick_nodes, pick_station, place_before, times_test, two_tests}
use Rattle.lp_rows.proofs.Rooms.{pick_room}
use Rattle.lp_rows.proofs.Places.{no_flights, no_grounds, no_rooms, no_slacks}
use Rattle.lp_rows.proofs.Totals.{flights, grounds, on_arc, rooms, slacks}

-- what a departure's weight adds to the aircraft of a fleet that come to a node
abbrev pub coming_to : Tables → Starts → Weights → Node → ℕ → ℕ
coming_to t starts w n d = if ((leg_of t (leg_at t d)).to == n.station) && is_in_node t (starts n.fleet n.station) n.place (ready_minute t (pair_on t d n.fleet)) then w (pair_on t d n.fleet) else 0

-- and to those that leave it
abbrev pub leaving_from : Tables → Starts → Weights → Node → ℕ → ℕ
leaving_from t starts w n d = if ((leg_of t (leg_at t d)).from == n.station) && is_in_node t (starts n.fleet n.station) n.place (departure t (pair_on t d n.fleet)) then w (pair_on t d n.fleet) else 0

-- what stands on the last arc of a fleet at a station
abbrev pub last_arc : Starts → (Column → ℕ) → ℕ → ℕ → ℕ
last_arc starts v f s = sum_below (λ k. if length (starts f s) == k + 1 then v (Ground (node_of_place f s k)) else 0) (length (starts f s))

-- and on that which passes the end of a day
abbrev pub night_arc : Tables → Starts → (Column → ℕ) → ℕ → ℕ → ℕ → ℕ
night_arc t starts v s d f = sum_below (λ k. if end_in t (starts f s) k == day_end d then v (Ground (node_of_place f s k)) else 0) (length (starts f s))

-- all columns by a line's numbers
abbrev pub line_sum : Tables → Domains → Starts → (Column → ℕ) → (Column → ℤ) → ℤ
line_sum t keeps starts v e = flights t keeps (λ k. e k *ℤ pos (v k)) +ℤ grounds t keeps starts (λ k. e k *ℤ pos (v k)) +ℤ slacks t (λ k. e k *ℤ pos (v k)) +ℤ rooms t (λ k. e k *ℤ pos (v k))

-- nothing stands on an arc that went
pub record StandOnArcs (t : Tables) (keeps : Domains) (starts : Starts) (v : Column → ℕ) : Type 0 where
  pub each : (n : Node) → IsNode t starts n → arc_stays t keeps starts n ≡ false → v (Ground n) ≡ 0

module _ (t : Tables) (keeps : Domains) (starts : Starts) (v : Column → ℕ) (weigh : WeighKept t keeps (λ p. v (Flight p))) where
  abbrev w : Weights
  w p = v (Flight p)

  -- what isn't kept weighs nothing
  unmasked : (e : ℤ) (l c : ℕ) → l < legs_in t → c < choices_in t l → where_true (keeps (leg_on l c)) (e *ℤ pos (w (leg_on l c))) ≡ e *ℤ pos (w (leg_on l c))
  unmasked e l c below known = by_test (keeps (leg_on l c))
      (λ kept. ap (λ b. where_true b (e *ℤ pos (w (leg_on l c)))) kept)
      (λ not_kept. ap (λ b. where_true b (e *ℤ pos (w (leg_on l c)))) not_kept
      ∙ sym (ap (λ n. e *ℤ pos n) (weigh.each (leg_on l c) (record { leg = below; choice = known }) not_kept) ∙ *ℤ-zero e))

  pub over_flights : (e : Column → ℤ) (u : Pair → ℤ) → ((p : Pair) → e (Flight p) *ℤ pos (w p) ≡ u p)
      → flights t keeps (λ k. e k *ℤ pos (v k)) ≡ sum_below_ℤ (λ l. sum_below_ℤ (λ c. u (leg_on l c)) (choices_in t l)) (legs_in t)
  over_flights e u same =
      sum_below_ℤ-same (λ l. sum_below_ℤ (λ c. where_true (keeps (leg_on l c)) (e (Flight (leg_on l c)) *ℤ pos (w (leg_on l c)))) (choices_in t l)) (λ l. sum_below_ℤ (λ c. u (leg_on l c)) (choices_in t l)) (legs_in t)
      (λ l below. sum_below_ℤ-same (λ c. where_true (keeps (leg_on l c)) (e (Flight (leg_on l c)) *ℤ pos (w (leg_on l c)))) (λ c. u (leg_on l c)) (choices_in t l)
      (λ c known. unmasked (e (Flight (leg_on l c))) l c below known ∙ same (leg_on l c)))

  -- nor does an arc that went
  filled : (b : Bool) (e : ℤ) (n : ℕ) → (b ≡ false → n ≡ 0) → where_true b (e *ℤ pos n) ≡ e *ℤ pos n
  filled true e n none = refl
  filled false e n none = sym (ap (λ k. e *ℤ pos k) (none refl) ∙ *ℤ-zero e)

  over_grounds : StandOnArcs t keeps starts v → (e : Column → ℤ) (u : ℕ → ℕ → ℕ → ℤ) → ((f s k : ℕ) → e (Ground (node_of_place f s k)) *ℤ pos (v (Ground (node_of_place f s k))) ≡ u f s k)
      → grounds t keeps starts (λ k. e k *ℤ pos (v k)) ≡ sum_below_ℤ (λ f. sum_below_ℤ (λ s. sum_below_ℤ (u f s) (length (starts f s))) (stations_in t)) (fleets_in t)
  over_grounds stand e u same =
      sum_below_ℤ-same (λ f. sum_below_ℤ (λ s. sum_below_ℤ (on_arc t keeps starts (λ c. e c *ℤ pos (v c)) f s) (length (starts f s))) (stations_in t))
      (λ f. sum_below_ℤ (λ s. sum_below_ℤ (u f s) (length (starts f s))) (stations_in t)) (fleets_in t)
      (λ f known. sum_below_ℤ-same (λ s. sum_below_ℤ (on_arc t keeps starts (λ c. e c *ℤ pos (v c)) f s) (length (starts f s))) (λ s. sum_below_ℤ (u f s) (length (starts f s))) (stations_in t)
      (λ s within. sum_below_ℤ-same (on_arc t keeps starts (λ c. e c *ℤ pos (v c)) f s) (u f s) (length (starts f s))
      (λ k below. filled (arc_stays t keeps starts (node_of_place f s k)) (e (Ground (node_of_place f s k))) (v (Ground (node_of_place f s k))) (stand.each (node_of_place f s k) (record { fleet = known; station = within; place = below })) ∙ same f s k)))

  -- ---- cover
  pub cover_sum : (l0 : ℕ) → l0 < legs_in t → line_sum t keeps starts v (cover_entry l0) ≡ pos (weight_on t w l0)
  cover_sum l0 here =
      let pairs = over_flights (cover_entry l0) (λ p. where_true (l0 == p.leg) (pos (w p))) (λ p. one_if-times (l0 == p.leg) (pos (w p)))
      ∙ sum_below_ℤ-same (λ l. sum_below_ℤ (λ c. where_true (l0 == l) (pos (w (leg_on l c)))) (choices_in t l)) (λ l. where_true (l0 == l) (pos (weight_on t w l))) (legs_in t)
      (λ l below. test_out (l0 == l) (λ c. pos (w (leg_on l c))) (choices_in t l) ∙ ap (where_true (l0 == l)) (sum_below_ℤ-pos (λ c. w (leg_on l c)) (choices_in t l)))
      ∙ sum_below_ℤ-one l0 (λ l. pos (weight_on t w l)) (legs_in t) here in
      let arcs = no_grounds t keeps starts (λ k. cover_entry l0 k *ℤ pos (v k)) (λ n. zero-*ℤ (pos (v (Ground n)))) in
      let spare = no_slacks t keeps starts (λ k. cover_entry l0 k *ℤ pos (v k)) (λ f. zero-*ℤ (pos (v (Slack f)))) in
      let room = no_rooms t keeps starts (λ k. cover_entry l0 k *ℤ pos (v k)) (λ p. zero-*ℤ (pos (v (Room p)))) in
      omega (arith, ints, pairs, arcs, spare, room)

  -- ---- balance
  abbrev into : Node → ℕ
  into n = sum_below (coming_to t starts w n) (departures_in t)

  abbrev out_of : Node → ℕ
  out_of n = sum_below (leaving_from t starts w n) (departures_in t)

  balance_flights : (n : Node) → n.fleet < fleets_in t → flights t keeps (λ k. balance_entry t starts n k *ℤ pos (v k)) ≡ pos (into n) -ℤ pos (out_of n)
  balance_flights n known =
      let come = λ (p : Pair). ((leg_of t p.leg).to == n.station) && is_in_node t (starts n.fleet n.station) n.place (ready_minute t p) in
      let leave = λ (p : Pair). ((leg_of t p.leg).from == n.station) && is_in_node t (starts n.fleet n.station) n.place (departure t p) in
      let part = λ (p : Pair). pos (if come p then w p else 0) -ℤ pos (if leave p then w p else 0) in
      over_flights (balance_entry t starts n) (λ p. where_true (n.fleet == fleet_by t p) (part p)) (λ p. two_tests (n.fleet == fleet_by t p) (come p) (leave p) (w p))
      ∙ pick_ℤ t part n.fleet known
      ∙ sum_below_ℤ-of_differences (coming_to t starts w n) (leaving_from t starts w n) (departures_in t)

  -- the arc into a node, and that from it
  abbrev before : Node → ℕ
  before n = v (Ground (node_of_place n.fleet n.station (place_before (length (starts n.fleet n.station)) n.place)))

  balance_grounds : StandOnArcs t keeps starts v → (n : Node) → IsNode t starts n → grounds t keeps starts (λ k. balance_entry t starts n k *ℤ pos (v k)) ≡ pos (before n) -ℤ pos (v (Ground n))
  balance_grounds stand n node =
      let nodes = length (starts n.fleet n.station) in
      let arc = λ (f s k : ℕ). v (Ground (node_of_place f s k)) in
      let part = λ (f s k : ℕ). pos (if n.place == place_after nodes k then arc f s k else 0) -ℤ pos (if n.place == k then arc f s k else 0) in
      over_grounds stand (balance_entry t starts n) (λ f s k. where_true (n.fleet == f) (where_true (n.station == s) (part f s k)))
      (λ f s k. two_tests (n.fleet == f) ((n.station == s) && (n.place == place_after nodes k)) ((n.station == s) && (n.place == k)) (arc f s k)
      ∙ ap (where_true (n.fleet == f)) (inner_tests (n.station == s) (n.place == place_after nodes k) (n.place == k) (arc f s k)))
      ∙ pick_nodes (fleets_in t) (stations_in t) n.fleet n.station (λ f s. length (starts f s)) part node.fleet node.station
      ∙ sum_below_ℤ-of_differences (λ k. if n.place == place_after nodes k then arc n.fleet n.station k else 0) (λ k. if n.place == k then arc n.fleet n.station k else 0) nodes
      ∙ omega (arith, ints, count_before nodes n.place (arc n.fleet n.station) node.place, sum_below-at n.place nodes (arc n.fleet n.station) node.place)

  pub balance_sum : StandOnArcs t keeps starts v → (n : Node) → IsNode t starts n → line_sum t keeps starts v (balance_entry t starts n) ≡ (pos (into n) -ℤ pos (out_of n)) +ℤ (pos (before n) -ℤ pos (v (Ground n)))
  balance_sum stand n node =
      let spare = no_slacks t keeps starts (λ k. balance_entry t starts n k *ℤ pos (v k)) (λ f. zero-*ℤ (pos (v (Slack f)))) in
      let room = no_rooms t keeps starts (λ k. balance_entry t starts n k *ℤ pos (v k)) (λ p. zero-*ℤ (pos (v (Room p)))) in
      omega (arith, ints, balance_flights n node.fleet, balance_grounds stand n node, spare, room)

  -- ---- count
  count_flights : (f0 : ℕ) → f0 < fleets_in t → flights t keeps (λ k. count_entry t starts f0 k *ℤ pos (v k)) ≡ pos (laps_flown t w f0)
  unfolding laps_flown
  count_flights f0 known =
      over_flights (count_entry t starts f0) (λ p. where_true (f0 == fleet_by t p) (pos (laps_of t p) *ℤ pos (w p))) (λ p. times_test (f0 == fleet_by t p) (laps_of t p) (w p))
      ∙ pick_ℤ t (λ p. pos (laps_of t p) *ℤ pos (w p)) f0 known
      ∙ sum_below_ℤ-same (λ d. pos (laps_of t (pair_on t d f0)) *ℤ pos (w (pair_on t d f0))) (λ d. pos (laps_at t w f0 d)) (departures_in t)
      (λ d below. *ℤ_comm (pos (laps_of t (pair_on t d f0))) (pos (w (pair_on t d f0))))
      ∙ sum_below_ℤ-pos (laps_at t w f0) (departures_in t)

  count_grounds : StandOnArcs t keeps starts v → (f0 : ℕ) → f0 < fleets_in t → grounds t keeps starts (λ k. count_entry t starts f0 k *ℤ pos (v k)) ≡ pos (sum_below (last_arc starts v f0) (stations_in t))
  count_grounds stand f0 known =
      let part = λ (f s k : ℕ). pos (if length (starts f0 s) == k + 1 then v (Ground (node_of_place f s k)) else 0) in
      over_grounds stand (count_entry t starts f0) (λ f s k. where_true (f0 == f) (part f s k)) (λ f s k. one_test (f0 == f) (length (starts f0 s) == k + 1) (v (Ground (node_of_place f s k))))
      ∙ pick_fleet (fleets_in t) (stations_in t) f0 (λ f s. length (starts f s)) part known
      ∙ sum_below_ℤ-same (λ s. sum_below_ℤ (part f0 s) (length (starts f0 s))) (λ s. pos (last_arc starts v f0 s)) (stations_in t)
      (λ s within. sum_below_ℤ-pos (λ k. if length (starts f0 s) == k + 1 then v (Ground (node_of_place f0 s k)) else 0) (length (starts f0 s)))
      ∙ sum_below_ℤ-pos (last_arc starts v f0) (stations_in t)

  count_slacks : (f0 : ℕ) → f0 < fleets_in t → slacks t (λ k. count_entry t starts f0 k *ℤ pos (v k)) ≡ pos (v (Slack f0))
  count_slacks f0 known =
      sum_below_ℤ-same (λ f. one_if (f0 == f) *ℤ pos (v (Slack f))) (λ f. where_true (f0 == f) (pos (v (Slack f)))) (fleets_in t) (λ f lt. one_if-times (f0 == f) (pos (v (Slack f))))
      ∙ sum_below_ℤ-one f0 (λ f. pos (v (Slack f))) (fleets_in t) known

  pub count_sum : StandOnArcs t keeps starts v → (f0 : ℕ) → f0 < fleets_in t → line_sum t keeps starts v (count_entry t starts f0) ≡ pos (laps_flown t w f0 + sum_below (last_arc starts v f0) (stations_in t) + v (Slack f0))
  count_sum stand f0 known =
      let room = no_rooms t keeps starts (λ k. count_entry t starts f0 k *ℤ pos (v k)) (λ p. zero-*ℤ (pos (v (Room p)))) in
      omega (arith, ints, count_flights f0 known, count_grounds stand f0 known, count_slacks f0 known, room)

  -- ---- parking
  parking_grounds : StandOnArcs t keeps starts v → (p : Park) → p.station < stations_in t → grounds t keeps starts (λ k. parking_entry t starts p k *ℤ pos (v k)) ≡ pos (sum_below (night_arc t starts v p.station p.day) (fleets_in t))
  parking_grounds stand p within =
      let part = λ (f s k : ℕ). pos (if end_in t (starts f s) k == day_end p.day then v (Ground (node_of_place f s k)) else 0) in
      over_grounds stand (parking_entry t starts p) (λ f s k. where_true (p.station == s) (part f s k)) (λ f s k. one_test (p.station == s) (end_in t (starts f s) k == day_end p.day) (v (Ground (node_of_place f s k))))
      ∙ pick_station (fleets_in t) (stations_in t) p.station (λ f s. length (starts f s)) part within
      ∙ sum_below_ℤ-same (λ f. sum_below_ℤ (part f p.station) (length (starts f p.station))) (λ f. pos (night_arc t starts v p.station p.day f)) (fleets_in t)
      (λ f known. sum_below_ℤ-pos (λ k. if end_in t (starts f p.station) k == day_end p.day then v (Ground (node_of_place f p.station k)) else 0) (length (starts f p.station)))
      ∙ sum_below_ℤ-pos (night_arc t starts v p.station p.day) (fleets_in t)

  parking_rooms : (p : Park) → IsPark t p → rooms t (λ k. parking_entry t starts p k *ℤ pos (v k)) ≡ pos (v (Room p))
  parking_rooms p known =
      sum_below_ℤ-same (λ s. sum_below_ℤ (λ k. one_if (same_park p (park_at s k)) *ℤ pos (v (Room (park_at s k)))) (parking_days t s))
      (λ s. sum_below_ℤ (λ k. where_true (same_park p (park_at s k)) (pos (v (Room (park_at s k))))) (parking_days t s)) (stations_in t)
      (λ s within. sum_below_ℤ-same (λ k. one_if (same_park p (park_at s k)) *ℤ pos (v (Room (park_at s k)))) (λ k. where_true (same_park p (park_at s k)) (pos (v (Room (park_at s k))))) (parking_days t s)
      (λ k below. one_if-times (same_park p (park_at s k)) (pos (v (Room (park_at s k))))))
      ∙ pick_room t p known (λ q. pos (v (Room q)))

  pub parking_sum : StandOnArcs t keeps starts v → (p : Park) → IsPark t p → line_sum t keeps starts v (parking_entry t starts p) ≡ pos (sum_below (night_arc t starts v p.station p.day) (fleets_in t) + v (Room p))
  parking_sum stand p known =
      let pairs = no_flights t keeps starts (λ k. parking_entry t starts p k *ℤ pos (v k)) (λ q. zero-*ℤ (pos (v (Flight q)))) in
      let spare = no_slacks t keeps starts (λ k. parking_entry t starts p k *ℤ pos (v k)) (λ f. zero-*ℤ (pos (v (Slack f)))) in
      omega (arith, ints, pairs, parking_grounds stand p known.station, spare, parking_rooms p known)
