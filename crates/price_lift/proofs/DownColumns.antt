-- What a column comes to when each line counts by a number, by the kinds of lines.
use Rattle.std.proofs.Common.{◌≡◌, ℕ, ◌+◌, ◌<◌, ◌≤◌, Bool, true, false, if◌then◌else◌, ◌==◌, ◌&&◌, length, ℤ, pos, ◌+ℤ◌, ◌-ℤ◌, ◌*ℤ◌, refl, ◌∙◌, ap, arith}
use Rattle.std.proofs.lemmas.Bool.Decides.{nat_tests}
use Rattle.std.proofs.lemmas.Int.{ints}
use lib.IntN.{*ℤ-zero}
use Rattle.sums.specs.Below.{sum_below_ℤ}
use Rattle.sums.proofs.Integers.{*ℤ--ℤ, times_one}
use Rattle.sums.proofs.WholeSums.{sum_below_ℤ-same, sum_below_ℤ--ℤ}
use Rattle.sums.proofs.WholeSwaps.{sum_below_ℤ-one, where_true}
use Rattle.fleet_model.specs.declared.parts.Pair.{Pair}
use Rattle.fleet_model.specs.declared.tables.Tables.{Tables}
use Rattle.fleet_model.specs.Schedule.{IsFlown, IsPair, fleet_by, fleet_of, fleets_in, leg_of, legs_in, parking_limit, stations_in}
use Rattle.fleet_model.specs.Times.{departure, laps_of, ready_minute}
use Rattle.lp_rows.specs.declared.kinds.Node.{Node}
use Rattle.lp_rows.specs.declared.kinds.Park.{Park}
use Rattle.lp_rows.specs.declared.kinds.Column.TheVariants.{Flight, Ground, Room, Slack}
use Rattle.lp_rows.specs.declared.kinds.Line.{Line}
use Rattle.lp_rows.specs.declared.kinds.Line.TheVariants.{Balance, Count, Cover, Parking}
use Rattle.lp_rows.specs.Entries.{IsNode, IsPark, balance_entry, comes_to_node, count_entry, cover_entry, entry_of, gets_arc, is_in_node, leaves_node, one_if, passes_day_end, passes_start, place_after, right_side_of, same_node, same_park}
use Rattle.lp_rows.specs.Layout.{Starts, node_of_place, line_at, park_of_number}
use Rattle.lp_rows.specs.Points.{node_count, park_count, priced_count}
use Rattle.lp_rows.proofs.ListSums.{all_zero}
use Rattle.lp_rows.proofs.MetColumns.{turned}
use Rattle.lp_rows.proofs.Picks.{pick_nodes}
use Rattle.lp_rows.proofs.LinePlaces.{balance_there, before, count_there, cover_there, node_there, node_within, over_lines, parking_there}
use Rattle.lp_rows.proofs.Rooms.{two_deep}
use Rattle.price_lift.proofs.Parks.{number_of_park, pick_park, same_as}

-- ---- tests
times_one_if : (b : Bool) (z : ℤ) → z *ℤ one_if b ≡ where_true b z
times_one_if true z = times_one z
times_one_if false z = *ℤ-zero z

times_test : (b : Bool) (z w : ℤ) → z *ℤ (if b then w else pos 0) ≡ where_true b (z *ℤ w)
times_test true z w = refl
times_test false z w = *ℤ-zero z

three_tests : (a b c : Bool) (z : ℤ) → where_true (a && (b && c)) z ≡ where_true a (where_true b (where_true c z))
three_tests true b c z = two_deep b c z
three_tests false b c z = refl

module _ (t : Tables) (starts : Starts) (y : ℕ → ℤ) where
  -- the number of a node's balance line, that of a count line, and that of a parking line
  abbrev pub of_node : ℕ → ℕ → ℕ → ℤ
  of_node f s k = y (legs_in t + (before t starts f s + k))

  abbrev pub of_fleet : ℕ → ℤ
  of_fleet f = y (legs_in t + (node_count t starts + f))

  abbrev pub of_park : ℕ → ℤ
  of_park k = y (legs_in t + (node_count t starts + (fleets_in t + k)))

  -- a sum over all nodes
  abbrev pub over_nodes : (ℕ → ℕ → ℕ → ℤ) → ℤ
  over_nodes g = sum_below_ℤ (λ f. sum_below_ℤ (λ s. sum_below_ℤ (λ k. g f s k) (length (starts f s))) (stations_in t)) (fleets_in t)

  over_nodes-same : (g h : ℕ → ℕ → ℕ → ℤ) → ((f s k : ℕ) → f < fleets_in t → s < stations_in t → k < length (starts f s) → g f s k ≡ h f s k) → over_nodes g ≡ over_nodes h
  over_nodes-same g h same =
      sum_below_ℤ-same (λ f. sum_below_ℤ (λ s. sum_below_ℤ (λ k. g f s k) (length (starts f s))) (stations_in t)) (λ f. sum_below_ℤ (λ s. sum_below_ℤ (λ k. h f s k) (length (starts f s))) (stations_in t)) (fleets_in t)
      (λ f known. sum_below_ℤ-same (λ s. sum_below_ℤ (λ k. g f s k) (length (starts f s))) (λ s. sum_below_ℤ (λ k. h f s k) (length (starts f s))) (stations_in t)
      (λ s within. sum_below_ℤ-same (λ k. g f s k) (λ k. h f s k) (length (starts f s)) (λ k below. same f s k known within below)))

  over_nodes--ℤ : (g h : ℕ → ℕ → ℕ → ℤ) → over_nodes (λ f s k. g f s k -ℤ h f s k) ≡ over_nodes g -ℤ over_nodes h
  over_nodes--ℤ g h =
      sum_below_ℤ-same (λ f. sum_below_ℤ (λ s. sum_below_ℤ (λ k. g f s k -ℤ h f s k) (length (starts f s))) (stations_in t))
      (λ f. sum_below_ℤ (λ s. sum_below_ℤ (λ k. g f s k) (length (starts f s))) (stations_in t) -ℤ sum_below_ℤ (λ s. sum_below_ℤ (λ k. h f s k) (length (starts f s))) (stations_in t)) (fleets_in t)
      (λ f known. sum_below_ℤ-same (λ s. sum_below_ℤ (λ k. g f s k -ℤ h f s k) (length (starts f s))) (λ s. sum_below_ℤ (λ k. g f s k) (length (starts f s)) -ℤ sum_below_ℤ (λ k. h f s k) (length (starts f s))) (stations_in t)
      (λ s within. sum_below_ℤ--ℤ (λ k. g f s k) (λ k. h f s k) (length (starts f s)))
      ∙ sum_below_ℤ--ℤ (λ s. sum_below_ℤ (λ k. g f s k) (length (starts f s))) (λ s. sum_below_ℤ (λ k. h f s k) (length (starts f s))) (stations_in t))
      ∙ sum_below_ℤ--ℤ (λ f. sum_below_ℤ (λ s. sum_below_ℤ (λ k. g f s k) (length (starts f s))) (stations_in t)) (λ f. sum_below_ℤ (λ s. sum_below_ℤ (λ k. h f s k) (length (starts f s))) (stations_in t)) (fleets_in t)

  over_nodes-zero : (g : ℕ → ℕ → ℕ → ℤ) → ((f s k : ℕ) → f < fleets_in t → g f s k ≡ pos 0) → over_nodes g ≡ pos 0
  over_nodes-zero g zero =
      all_zero (λ f. sum_below_ℤ (λ s. sum_below_ℤ (λ k. g f s k) (length (starts f s))) (stations_in t)) (fleets_in t)
      (λ f known. all_zero (λ s. sum_below_ℤ (λ k. g f s k) (length (starts f s))) (stations_in t) (λ s within. all_zero (λ k. g f s k) (length (starts f s)) (λ k below. zero f s k known)))

  -- by any numbers of lines
  abbrev pub down : (Line → ℤ) → ℤ
  down e = sum_below_ℤ (λ i. y i *ℤ e (line_at t starts i)) (legs_in t + priced_count t starts)

  pub by_kinds : (e : Line → ℤ) → down e
      ≡ sum_below_ℤ (λ l. y l *ℤ e (Cover l)) (legs_in t) +ℤ (over_nodes (λ f s k. of_node f s k *ℤ e (Balance (node_of_place f s k)))
      +ℤ (sum_below_ℤ (λ f. of_fleet f *ℤ e (Count f)) (fleets_in t) +ℤ sum_below_ℤ (λ k. of_park k *ℤ e (Parking (park_of_number t k))) (park_count t)))
  by_kinds e =
      let covers = sum_below_ℤ-same (λ l. y l *ℤ e (line_at t starts l)) (λ l. y l *ℤ e (Cover l)) (legs_in t) (λ l below. ap (λ k. y l *ℤ e k) (cover_there t starts l below)) in
      let balances = over_nodes-same (λ f s k. of_node f s k *ℤ e (line_at t starts (legs_in t + (before t starts f s + k)))) (λ f s k. of_node f s k *ℤ e (Balance (node_of_place f s k)))
      (λ f s k known within below. ap (λ j. of_node f s k *ℤ e j)
      (balance_there t starts (before t starts f s + k) (node_within t starts f s k known within below) ∙ ap Balance (node_there t starts f s k (node_of_place 0 0 0) known within below))) in
      let counts = sum_below_ℤ-same (λ f. of_fleet f *ℤ e (line_at t starts (legs_in t + (node_count t starts + f)))) (λ f. of_fleet f *ℤ e (Count f)) (fleets_in t) (λ f known. ap (λ k. of_fleet f *ℤ e k) (count_there t starts f known)) in
      let parkings = sum_below_ℤ-same (λ k. of_park k *ℤ e (line_at t starts (legs_in t + (node_count t starts + (fleets_in t + k))))) (λ k. of_park k *ℤ e (Parking (park_of_number t k))) (park_count t)
      (λ k below. ap (λ line. of_park k *ℤ e line) (parking_there t starts k below)) in
      over_lines t starts (λ i. y i *ℤ e (line_at t starts i)) ∙ omega (arith, ints, covers, balances, counts, parkings)

  no_parkings : (e : Line → ℤ) → ((p : Park) → e (Parking p) ≡ pos 0) → sum_below_ℤ (λ k. of_park k *ℤ e (Parking (park_of_number t k))) (park_count t) ≡ pos 0
  no_parkings e none = all_zero (λ k. of_park k *ℤ e (Parking (park_of_number t k))) (park_count t) (λ k below. ap (λ z. of_park k *ℤ z) (none (park_of_number t k)) ∙ *ℤ-zero (of_park k))

  no_counts : (e : Line → ℤ) → ((f : ℕ) → e (Count f) ≡ pos 0) → sum_below_ℤ (λ f. of_fleet f *ℤ e (Count f)) (fleets_in t) ≡ pos 0
  no_counts e none = all_zero (λ f. of_fleet f *ℤ e (Count f)) (fleets_in t) (λ f known. ap (λ z. of_fleet f *ℤ z) (none f) ∙ *ℤ-zero (of_fleet f))

  no_covers : (e : Line → ℤ) → ((l : ℕ) → e (Cover l) ≡ pos 0) → sum_below_ℤ (λ l. y l *ℤ e (Cover l)) (legs_in t) ≡ pos 0
  no_covers e none = all_zero (λ l. y l *ℤ e (Cover l)) (legs_in t) (λ l below. ap (λ z. y l *ℤ z) (none l) ∙ *ℤ-zero (y l))

  no_balances : (e : Line → ℤ) → ((n : Node) → e (Balance n) ≡ pos 0) → over_nodes (λ f s k. of_node f s k *ℤ e (Balance (node_of_place f s k))) ≡ pos 0
  no_balances e none = over_nodes-zero (λ f s k. of_node f s k *ℤ e (Balance (node_of_place f s k))) (λ f s k known. ap (λ z. of_node f s k *ℤ z) (none (node_of_place f s k)) ∙ *ℤ-zero (of_node f s k))

  -- ---- a pair
  -- the numbers of nodes of a fleet at a station that a minute lies in
  abbrev pub at_minute : ℕ → ℕ → ℕ → ℤ
  at_minute f s m = sum_below_ℤ (λ k. where_true (is_in_node t (starts f s) k m) (of_node f s k)) (length (starts f s))

  pick : (test : ℕ → ℕ → ℕ → Bool) (a b m : ℕ) → a < fleets_in t → b < stations_in t → ((f s k : ℕ) → test f s k ≡ ((f == a) && ((b == s) && is_in_node t (starts f s) k m)))
      → over_nodes (λ f s k. of_node f s k *ℤ one_if (test f s k)) ≡ at_minute a b m
  pick test a b m here there is =
      over_nodes-same (λ f s k. of_node f s k *ℤ one_if (test f s k)) (λ f s k. where_true (a == f) (where_true (b == s) (where_true (is_in_node t (starts f s) k m) (of_node f s k))))
      (λ f s k known within below.
      times_one_if (test f s k) (of_node f s k)
      ∙ ap (λ c. where_true c (of_node f s k)) (is f s k ∙ ap (λ c. c && ((b == s) && is_in_node t (starts f s) k m)) (turned f a))
      ∙ three_tests (a == f) (b == s) (is_in_node t (starts f s) k m) (of_node f s k))
      ∙ pick_nodes (fleets_in t) (stations_in t) a b (λ f s. length (starts f s)) (λ f s k. where_true (is_in_node t (starts f s) k m) (of_node f s k)) here there

  flight_covers : (p : Pair) → IsPair t p → sum_below_ℤ (λ l. y l *ℤ cover_entry l (Flight p)) (legs_in t) ≡ y p.leg
  flight_covers p pair =
      sum_below_ℤ-same (λ l. y l *ℤ one_if (l == p.leg)) (λ l. where_true (p.leg == l) (y l)) (legs_in t)
      (λ l below. times_one_if (l == p.leg) (y l) ∙ ap (λ b. where_true b (y l)) (turned l p.leg))
      ∙ sum_below_ℤ-one p.leg y (legs_in t) pair.leg

  flight_parkings : (p : Pair) → sum_below_ℤ (λ k. of_park k *ℤ entry_of t starts (Parking (park_of_number t k)) (Flight p)) (park_count t) ≡ pos 0
  flight_parkings p = no_parkings (λ line. entry_of t starts line (Flight p)) (λ q. refl)

  module _ (p : Pair) (flown : IsFlown t p) (from : (leg_of t p.leg).from < stations_in t) (to : (leg_of t p.leg).to < stations_in t) where
    flight_balances : over_nodes (λ f s k. of_node f s k *ℤ balance_entry t starts (node_of_place f s k) (Flight p))
        ≡ at_minute (fleet_by t p) (leg_of t p.leg).to (ready_minute t p) -ℤ at_minute (fleet_by t p) (leg_of t p.leg).from (departure t p)
    flight_balances =
        let come = λ (f s k : ℕ). comes_to_node t starts (node_of_place f s k) p in
        let leave = λ (f s k : ℕ). leaves_node t starts (node_of_place f s k) p in
        over_nodes-same (λ f s k. of_node f s k *ℤ (one_if (come f s k) -ℤ one_if (leave f s k))) (λ f s k. (of_node f s k *ℤ one_if (come f s k)) -ℤ (of_node f s k *ℤ one_if (leave f s k)))
        (λ f s k known within below. *ℤ--ℤ (of_node f s k) (one_if (come f s k)) (one_if (leave f s k)))
        ∙ over_nodes--ℤ (λ f s k. of_node f s k *ℤ one_if (come f s k)) (λ f s k. of_node f s k *ℤ one_if (leave f s k))
        ∙ ap (λ z. z -ℤ over_nodes (λ f s k. of_node f s k *ℤ one_if (leave f s k))) (pick come (fleet_by t p) (leg_of t p.leg).to (ready_minute t p) flown.by to (λ f s k. refl))
        ∙ ap (λ z. at_minute (fleet_by t p) (leg_of t p.leg).to (ready_minute t p) -ℤ z) (pick leave (fleet_by t p) (leg_of t p.leg).from (departure t p) flown.by from (λ f s k. refl))

    flight_counts : sum_below_ℤ (λ f. of_fleet f *ℤ count_entry t starts f (Flight p)) (fleets_in t) ≡ of_fleet (fleet_by t p) *ℤ pos (laps_of t p)
    flight_counts =
        sum_below_ℤ-same (λ f. of_fleet f *ℤ (if f == fleet_by t p then pos (laps_of t p) else pos 0)) (λ f. where_true (fleet_by t p == f) (of_fleet f *ℤ pos (laps_of t p))) (fleets_in t)
        (λ f known. times_test (f == fleet_by t p) (of_fleet f) (pos (laps_of t p)) ∙ ap (λ b. where_true b (of_fleet f *ℤ pos (laps_of t p))) (turned f (fleet_by t p)))
        ∙ sum_below_ℤ-one (fleet_by t p) (λ f. of_fleet f *ℤ pos (laps_of t p)) (fleets_in t) flown.by

    pub down_flight : down (λ line. entry_of t starts line (Flight p))
        ≡ y p.leg +ℤ ((at_minute (fleet_by t p) (leg_of t p.leg).to (ready_minute t p) -ℤ at_minute (fleet_by t p) (leg_of t p.leg).from (departure t p)) +ℤ (of_fleet (fleet_by t p) *ℤ pos (laps_of t p)))
    down_flight = by_kinds (λ line. entry_of t starts line (Flight p)) ∙ omega (arith, ints, flight_covers p flown.pair, flight_balances, flight_counts, flight_parkings p)

  -- one that leaves its leg out stands in the leg's cover line alone
  module _ (p : Pair) (pair : IsPair t p) (out : fleets_in t ≤ fleet_by t p) where
    other_fleet : (f : ℕ) → f < fleets_in t → (f == fleet_by t p) ≡ false
    other_fleet f known = grind (arith, nat_tests)

    not_balanced : (f s k : ℕ) → f < fleets_in t → of_node f s k *ℤ balance_entry t starts (node_of_place f s k) (Flight p) ≡ pos 0
    not_balanced f s k known =
        ap (λ b. of_node f s k *ℤ (one_if (b && (((leg_of t p.leg).to == s) && is_in_node t (starts f s) k (ready_minute t p))) -ℤ one_if (b && (((leg_of t p.leg).from == s) && is_in_node t (starts f s) k (departure t p))))) (other_fleet f known)
        ∙ *ℤ-zero (of_node f s k)

    not_counted : (f : ℕ) → f < fleets_in t → of_fleet f *ℤ count_entry t starts f (Flight p) ≡ pos 0
    not_counted f known = ap (λ b. of_fleet f *ℤ (if b then pos (laps_of t p) else pos 0)) (other_fleet f known) ∙ *ℤ-zero (of_fleet f)

    pub down_left_out : down (λ line. entry_of t starts line (Flight p)) ≡ y p.leg
    down_left_out =
        let balances = over_nodes-zero (λ f s k. of_node f s k *ℤ balance_entry t starts (node_of_place f s k) (Flight p)) not_balanced in
        let counts = all_zero (λ f. of_fleet f *ℤ count_entry t starts f (Flight p)) (fleets_in t) not_counted in
        by_kinds (λ line. entry_of t starts line (Flight p)) ∙ omega (arith, ints, flight_covers p pair, balances, counts, flight_parkings p)

  -- ---- a ground arc
  -- the numbers of the days whose end it passes
  abbrev pub of_passed : Node → ℤ
  of_passed a = sum_below_ℤ (λ k. where_true (passes_day_end t starts (park_of_number t k) a) (of_park k)) (park_count t)

  module _ (a : Node) (is_node : IsNode t starts a) where
    abbrev next : ℕ
    next = place_after (length (starts a.fleet a.station)) a.place

    next_within : next < length (starts a.fleet a.station)
    next_within = within (length (starts a.fleet a.station)) a.place is_node.place
      where
        within : (n k : ℕ) → k < n → place_after n k < n
        within n k less = grind (arith, nat_tests)

    pick_place : (test : ℕ → ℕ → ℕ → Bool) (place : ℕ → ℕ) → place (length (starts a.fleet a.station)) < length (starts a.fleet a.station)
        → ((f s k : ℕ) → test f s k ≡ ((f == a.fleet) && ((s == a.station) && (k == place (length (starts f s))))))
        → over_nodes (λ f s k. of_node f s k *ℤ one_if (test f s k)) ≡ of_node a.fleet a.station (place (length (starts a.fleet a.station)))
    pick_place test place short is =
        over_nodes-same (λ f s k. of_node f s k *ℤ one_if (test f s k)) (λ f s k. where_true (a.fleet == f) (where_true (a.station == s) (where_true (place (length (starts f s)) == k) (of_node f s k))))
        (λ f s k known within below.
        times_one_if (test f s k) (of_node f s k)
        ∙ ap (λ c. where_true c (of_node f s k)) (is f s k ∙ ap (λ c. c && ((s == a.station) && (k == place (length (starts f s))))) (turned f a.fleet)
        ∙ ap (λ c. (a.fleet == f) && (c && (k == place (length (starts f s))))) (turned s a.station) ∙ ap (λ c. (a.fleet == f) && ((a.station == s) && c)) (turned k (place (length (starts f s)))))
        ∙ three_tests (a.fleet == f) (a.station == s) (place (length (starts f s)) == k) (of_node f s k))
        ∙ pick_nodes (fleets_in t) (stations_in t) a.fleet a.station (λ f s. length (starts f s)) (λ f s k. where_true (place (length (starts f s)) == k) (of_node f s k)) is_node.fleet is_node.station
        ∙ sum_below_ℤ-one (place (length (starts a.fleet a.station))) (of_node a.fleet a.station) (length (starts a.fleet a.station)) short

    ground_balances : over_nodes (λ f s k. of_node f s k *ℤ balance_entry t starts (node_of_place f s k) (Ground a)) ≡ of_node a.fleet a.station next -ℤ of_node a.fleet a.station a.place
    ground_balances =
        let get = λ (f s k : ℕ). gets_arc starts (node_of_place f s k) a in
        let same = λ (f s k : ℕ). same_node (node_of_place f s k) a in
        over_nodes-same (λ f s k. of_node f s k *ℤ (one_if (get f s k) -ℤ one_if (same f s k))) (λ f s k. (of_node f s k *ℤ one_if (get f s k)) -ℤ (of_node f s k *ℤ one_if (same f s k)))
        (λ f s k known within below. *ℤ--ℤ (of_node f s k) (one_if (get f s k)) (one_if (same f s k)))
        ∙ over_nodes--ℤ (λ f s k. of_node f s k *ℤ one_if (get f s k)) (λ f s k. of_node f s k *ℤ one_if (same f s k))
        ∙ ap (λ z. z -ℤ over_nodes (λ f s k. of_node f s k *ℤ one_if (same f s k))) (pick_place get (λ n. place_after n a.place) next_within (λ f s k. refl))
        ∙ ap (λ z. of_node a.fleet a.station next -ℤ z) (pick_place same (λ n. a.place) is_node.place (λ f s k. refl))

    ground_counts : sum_below_ℤ (λ f. of_fleet f *ℤ count_entry t starts f (Ground a)) (fleets_in t) ≡ where_true (length (starts a.fleet a.station) == a.place + 1) (of_fleet a.fleet)
    ground_counts =
        sum_below_ℤ-same (λ f. of_fleet f *ℤ one_if (passes_start starts f a)) (λ f. where_true (a.fleet == f) (where_true (length (starts f a.station) == a.place + 1) (of_fleet f))) (fleets_in t)
        (λ f known. times_one_if (passes_start starts f a) (of_fleet f) ∙ two_deep (f == a.fleet) (length (starts f a.station) == a.place + 1) (of_fleet f)
        ∙ ap (λ c. where_true c (where_true (length (starts f a.station) == a.place + 1) (of_fleet f))) (turned f a.fleet))
        ∙ sum_below_ℤ-one a.fleet (λ f. where_true (length (starts f a.station) == a.place + 1) (of_fleet f)) (fleets_in t) is_node.fleet

    pub down_ground : down (λ line. entry_of t starts line (Ground a))
        ≡ (of_node a.fleet a.station next -ℤ of_node a.fleet a.station a.place) +ℤ where_true (length (starts a.fleet a.station) == a.place + 1) (of_fleet a.fleet) +ℤ of_passed a
    down_ground =
        let parkings = sum_below_ℤ-same (λ k. of_park k *ℤ one_if (passes_day_end t starts (park_of_number t k) a)) (λ k. where_true (passes_day_end t starts (park_of_number t k) a) (of_park k)) (park_count t)
        (λ k below. times_one_if (passes_day_end t starts (park_of_number t k) a) (of_park k)) in
        by_kinds (λ line. entry_of t starts line (Ground a)) ∙ omega (arith, ints, no_covers (λ line. entry_of t starts line (Ground a)) (λ l. refl), ground_balances, ground_counts, parkings)

  -- ---- a slack
  pub down_slack : (g : ℕ) → g < fleets_in t → down (λ line. entry_of t starts line (Slack g)) ≡ of_fleet g
  down_slack g known =
      let counts = sum_below_ℤ-same (λ f. of_fleet f *ℤ one_if (f == g)) (λ f. where_true (g == f) (of_fleet f)) (fleets_in t) (λ f less. times_one_if (f == g) (of_fleet f) ∙ ap (λ b. where_true b (of_fleet f)) (turned f g))
      ∙ sum_below_ℤ-one g of_fleet (fleets_in t) known in
      by_kinds (λ line. entry_of t starts line (Slack g)) ∙ omega (arith, ints, no_covers (λ line. entry_of t starts line (Slack g)) (λ l. refl), no_balances (λ line. entry_of t starts line (Slack g)) (λ n. refl), counts, no_parkings (λ line. entry_of t starts line (Slack g)) (λ p. refl))

  -- ---- the room at the end of a day
  pub down_room : (p : Park) → IsPark t p → down (λ line. entry_of t starts line (Room p)) ≡ of_park (number_of_park t p)
  down_room p known =
      let parkings = sum_below_ℤ-same (λ k. of_park k *ℤ one_if (same_park (park_of_number t k) p)) (λ k. where_true (same_park (park_of_number t k) p) (of_park k)) (park_count t) (λ k below. times_one_if (same_park (park_of_number t k) p) (of_park k))
      ∙ pick_park t (λ q. same_park q p) of_park p known (grind (arith, nat_tests)) (λ q within. same_as q p) in
      by_kinds (λ line. entry_of t starts line (Room p)) ∙ omega (arith, ints, no_covers (λ line. entry_of t starts line (Room p)) (λ l. refl), no_balances (λ line. entry_of t starts line (Room p)) (λ n. refl), no_counts (λ line. entry_of t starts line (Room p)) (λ f. refl), parkings)

  -- ---- the right sides
  pub down_sides : down (λ line. right_side_of t line)
      ≡ sum_below_ℤ y (legs_in t) +ℤ sum_below_ℤ (λ f. of_fleet f *ℤ pos (fleet_of t f).aircraft) (fleets_in t) +ℤ sum_below_ℤ (λ k. of_park k *ℤ pos (parking_limit t (park_of_number t k).station)) (park_count t)
  down_sides =
      let covers = sum_below_ℤ-same (λ l. y l *ℤ pos 1) y (legs_in t) (λ l below. times_one (y l)) in
      by_kinds (λ line. right_side_of t line) ∙ omega (arith, ints, covers, no_balances (λ line. right_side_of t line) (λ n. refl))
