-- Each column has one place, so a point gives to the column at a place the number there.
use Rattle.std.proofs.Common.{◌≡◌, ℕ, ◌<◌, Bool, true, false, if◌then◌else◌, ◌==◌, ◌&&◌, List, length, All, ℤ, pos, ◌+ℤ◌, refl, sym, ◌∙◌, ap, subst, arith}
use mathlib.Core.Bool.{false≢true}
use Rattle.std.proofs.lemmas.Bool.Decides.{nat_tests}
use Rattle.std.proofs.lemmas.Int.{ints}
use Rattle.sums.specs.Below.{sum_below_ℤ, count_below}
use Rattle.sums.proofs.Counts.{count_below-one}
use Rattle.sums.proofs.Sums.{sum_below-agree, sum_below-one, sum_below-zero}
use Rattle.sums.proofs.WholeSums.{sum_below_ℤ-same}
use Rattle.sums.proofs.WholeSwaps.{sum_below_ℤ-one, where_true}
use Rattle.sums.proofs.Tests.{by_test}
use Rattle.fleet_model.specs.declared.parts.Pair.{Pair}
use Rattle.fleet_model.specs.declared.tables.Tables.{Tables}
use Rattle.fleet_model.specs.Kept.{Domains}
use Rattle.fleet_model.specs.Schedule.{IsPair, choices_in, fleets_in, leg_on, legs_in, stations_in}
use Rattle.lp_rows.specs.declared.kinds.Node.{Node}
use Rattle.lp_rows.specs.declared.kinds.Park.{Park}
use Rattle.lp_rows.specs.declared.kinds.Column.{Column}
use Rattle.lp_rows.specs.declared.kinds.Column.TheVariants.{Flight, Ground, Room, Slack}
use Rattle.lp_rows.specs.Entries.{IsNode, IsPark, one_if, same_node, same_park}
use Rattle.lp_rows.specs.Layout.{Starts, arc_stays, node_of_place, park_at, parking_days, program_columns}
use Rattle.lp_rows.specs.Points.{column_at, same_column, value_of}
use Rattle.lp_rows.proofs.ListSums.{all_zero, of_tests}
use Rattle.lp_rows.proofs.Picks.{pick_choice, pick_nodes}
use Rattle.lp_rows.proofs.Rooms.{as_mask, pick_room}
use Rattle.lp_rows.proofs.Totals.{all_columns, flights, grounds, on_arc, over_columns, rooms, slacks}

-- a column of the tables, kept where it is of a pair, and one that stays where it is of an arc
abbrev pub IsKept : Tables → Domains → Starts → Column → Type 0
IsKept t keeps starts (Flight p) = IsPair t p × (keeps p ≡ true)
IsKept t keeps starts (Ground a) = IsNode t starts a × (arc_stays t keeps starts a ≡ true)
IsKept t keeps starts (Slack f) = f < fleets_in t
IsKept t keeps starts (Room p) = IsPark t p

pub columns_are_kept : (t : Tables) (keeps : Domains) (starts : Starts) → All (IsKept t keeps starts) (program_columns t keeps starts)
columns_are_kept t keeps starts = all_columns t keeps starts (IsKept t keeps starts) (λ l c below known kept. (record { leg = below; choice = known }, kept)) (λ n fits stays. (fits, stays)) (λ f known. known) (λ p known. known)

three_tests : (k a b : Bool) → where_true k (one_if (a && b)) ≡ where_true a (where_true b (where_true k (pos 1)))
three_tests true true true = refl
three_tests true true false = refl
three_tests true false b = refl
three_tests false true true = refl
three_tests false true false = refl
three_tests false false b = refl

pub masked_zero : (b : Bool) → where_true b (pos 0) ≡ pos 0
masked_zero true = refl
masked_zero false = refl

three_places : (k a b c : Bool) → where_true k (one_if (a && (b && c))) ≡ where_true a (where_true b (where_true c (where_true k (pos 1))))
three_places k true true true = refl
three_places k true true false = masked_zero k
three_places k true false c = masked_zero k
three_places k false b c = masked_zero k

module _ (t : Tables) (keeps : Domains) (starts : Starts) where
  pub no_flights : (h : Column → ℤ) → ((p : Pair) → h (Flight p) ≡ pos 0) → flights t keeps h ≡ pos 0
  no_flights h none = all_zero (λ l. sum_below_ℤ (λ c. where_true (keeps (leg_on l c)) (h (Flight (leg_on l c)))) (choices_in t l)) (legs_in t)
      (λ l below. all_zero (λ c. where_true (keeps (leg_on l c)) (h (Flight (leg_on l c)))) (choices_in t l) (λ c known. ap (where_true (keeps (leg_on l c))) (none (leg_on l c)) ∙ masked_zero (keeps (leg_on l c))))

  pub no_grounds : (h : Column → ℤ) → ((n : Node) → h (Ground n) ≡ pos 0) → grounds t keeps starts h ≡ pos 0
  no_grounds h none = all_zero (λ f. sum_below_ℤ (λ s. sum_below_ℤ (on_arc t keeps starts h f s) (length (starts f s))) (stations_in t)) (fleets_in t)
      (λ f known. all_zero (λ s. sum_below_ℤ (on_arc t keeps starts h f s) (length (starts f s))) (stations_in t)
      (λ s within. all_zero (on_arc t keeps starts h f s) (length (starts f s)) (λ k below. ap (where_true (arc_stays t keeps starts (node_of_place f s k))) (none (node_of_place f s k)) ∙ masked_zero (arc_stays t keeps starts (node_of_place f s k)))))

  pub no_slacks : (h : Column → ℤ) → ((f : ℕ) → h (Slack f) ≡ pos 0) → slacks t h ≡ pos 0
  no_slacks h none = all_zero (λ f. h (Slack f)) (fleets_in t) (λ f known. none f)

  pub no_rooms : (h : Column → ℤ) → ((p : Park) → h (Room p) ≡ pos 0) → rooms t h ≡ pos 0
  no_rooms h none = all_zero (λ s. sum_below_ℤ (λ k. h (Room (park_at s k))) (parking_days t s)) (stations_in t) (λ s within. all_zero (λ k. h (Room (park_at s k))) (parking_days t s) (λ k below. none (park_at s k)))

  -- a column stands once
  once : (column : Column) → IsKept t keeps starts column
      → flights t keeps (λ k. one_if (same_column column k)) +ℤ grounds t keeps starts (λ k. one_if (same_column column k)) +ℤ slacks t (λ k. one_if (same_column column k)) +ℤ rooms t (λ k. one_if (same_column column k)) ≡ pos 1
  once (Flight p) kept =
      let pairs = sum_below_ℤ-same (λ l. sum_below_ℤ (λ c. where_true (keeps (leg_on l c)) (one_if ((p.leg == l) && (p.choice == c)))) (choices_in t l))
      (λ l. sum_below_ℤ (λ c. where_true (p.leg == l) (where_true (p.choice == c) (where_true (keeps (leg_on l c)) (pos 1)))) (choices_in t l)) (legs_in t)
      (λ l below. sum_below_ℤ-same (λ c. where_true (keeps (leg_on l c)) (one_if ((p.leg == l) && (p.choice == c)))) (λ c. where_true (p.leg == l) (where_true (p.choice == c) (where_true (keeps (leg_on l c)) (pos 1)))) (choices_in t l)
      (λ c known. three_tests (keeps (leg_on l c)) (p.leg == l) (p.choice == c)))
      ∙ pick_choice (legs_in t) (choices_in t) p.leg p.choice (λ l c. where_true (keeps (leg_on l c)) (pos 1)) kept.0.leg kept.0.choice
      ∙ ap (λ b. where_true b (pos 1)) kept.1 in
      omega (arith, ints, pairs, no_grounds (λ k. one_if (same_column (Flight p) k)) (λ n. refl), no_slacks (λ k. one_if (same_column (Flight p) k)) (λ f. refl), no_rooms (λ k. one_if (same_column (Flight p) k)) (λ q. refl))
  once (Ground a) kept =
      let node = kept.0 in
      let stays = λ (f s k : ℕ). arc_stays t keeps starts (node_of_place f s k) in
      let here = on_arc t keeps starts (λ k. one_if (same_column (Ground a) k)) in
      let there = λ (f s k : ℕ). where_true (a.place == k) (where_true (stays f s k) (pos 1)) in
      let nodes = sum_below_ℤ-same (λ f. sum_below_ℤ (λ s. sum_below_ℤ (here f s) (length (starts f s))) (stations_in t))
      (λ f. sum_below_ℤ (λ s. sum_below_ℤ (λ k. where_true (a.fleet == f) (where_true (a.station == s) (there f s k))) (length (starts f s))) (stations_in t)) (fleets_in t)
      (λ f known. sum_below_ℤ-same (λ s. sum_below_ℤ (here f s) (length (starts f s))) (λ s. sum_below_ℤ (λ k. where_true (a.fleet == f) (where_true (a.station == s) (there f s k))) (length (starts f s))) (stations_in t)
      (λ s within. sum_below_ℤ-same (here f s) (λ k. where_true (a.fleet == f) (where_true (a.station == s) (there f s k))) (length (starts f s))
      (λ k below. three_places (stays f s k) (a.fleet == f) (a.station == s) (a.place == k))))
      ∙ pick_nodes (fleets_in t) (stations_in t) a.fleet a.station (λ f s. length (starts f s)) there node.fleet node.station
      ∙ sum_below_ℤ-one a.place (λ k. where_true (stays a.fleet a.station k) (pos 1)) (length (starts a.fleet a.station)) node.place
      ∙ ap (λ b. where_true b (pos 1)) kept.1 in
      omega (arith, ints, nodes, no_flights (λ k. one_if (same_column (Ground a) k)) (λ p. refl), no_slacks (λ k. one_if (same_column (Ground a) k)) (λ f. refl), no_rooms (λ k. one_if (same_column (Ground a) k)) (λ p. refl))
  once (Slack g) known =
      let fleets = sum_below_ℤ-one g (λ f. pos 1) (fleets_in t) known in
      omega (arith, ints, fleets, no_flights (λ k. one_if (same_column (Slack g) k)) (λ p. refl), no_grounds (λ k. one_if (same_column (Slack g) k)) (λ n. refl), no_rooms (λ k. one_if (same_column (Slack g) k)) (λ p. refl))
  once (Room p) known =
      let days = sum_below_ℤ-same (λ s. sum_below_ℤ (λ k. one_if (same_park p (park_at s k))) (parking_days t s)) (λ s. sum_below_ℤ (λ k. where_true (same_park p (park_at s k)) (pos 1)) (parking_days t s)) (stations_in t)
      (λ s within. sum_below_ℤ-same (λ k. one_if (same_park p (park_at s k))) (λ k. where_true (same_park p (park_at s k)) (pos 1)) (parking_days t s) (λ k below. as_mask (same_park p (park_at s k))))
      ∙ pick_room t p known (λ q. pos 1) in
      omega (arith, ints, days, no_flights (λ k. one_if (same_column (Room p) k)) (λ q. refl), no_grounds (λ k. one_if (same_column (Room p) k)) (λ n. refl), no_slacks (λ k. one_if (same_column (Room p) k)) (λ f. refl))

  abbrev cols : List Column
  cols = program_columns t keeps starts

  at_place : (c : ℕ) → c < length cols → IsKept t keeps starts (column_at cols c)
  at_place c within = columns_are_kept t keeps starts c (Slack 0) within

  counted_once : (column : Column) → IsKept t keeps starts column → count_below (λ c. same_column column (column_at cols c)) (length cols) ≡ 1
  counted_once column kept =
      let all = sym (of_tests (λ c. same_column column (column_at cols c)) (length cols)) ∙ over_columns t keeps starts (λ k. one_if (same_column column k)) ∙ once column kept in
      omega (arith, ints, all)

same_self : (column : Column) → same_column column column ≡ true
same_self (Flight p) = grind (arith, nat_tests)
same_self (Ground a) = grind (arith, nat_tests)
same_self (Slack f) = grind (arith, nat_tests)
same_self (Room p) = grind (arith, nat_tests)

-- a point gives to the column at a place the number there
pub value_there : (t : Tables) (keeps : Domains) (starts : Starts) (x : ℕ → ℕ) (c : ℕ) → c < length (program_columns t keeps starts)
    → value_of (program_columns t keeps starts) x (column_at (program_columns t keeps starts) c) ≡ x c
value_there t keeps starts x c within =
    let columns = program_columns t keeps starts in
    let passes = λ (k : ℕ). same_column (column_at columns c) (column_at columns k) in
    let single = counted_once t keeps starts (column_at columns c) (at_place t keeps starts c within) in
    sum_below-agree (λ k. if passes k then x k else 0) (λ k. if c == k then x c else 0) (length columns) (record {
      each = λ k below. by_test (passes k)
          (λ e. let same : c ≡ k = count_below-one passes (length columns) c k single within below (same_self (column_at columns c)) e in rw (e, ← same) (sym (at_itself c (x c))))
          (λ e. rw e (sym (elsewhere c k (x c) (λ same. false≢true (sym e ∙ subst (λ j. same_column (column_at columns c) (column_at columns j) ≡ true) same (same_self (column_at columns c)))))));
    })
    ∙ sum_below-one c (x c) (length columns) within
  where
    at_itself : (c v : ℕ) → ◌≡◌ {A = ℕ} (if c == c then v else 0) v
    at_itself c v = grind (arith, nat_tests)

    elsewhere : (c k v : ℕ) → (c ≡ k → ⊥) → ◌≡◌ {A = ℕ} (if c == k then v else 0) 0
    elsewhere c k v differ = grind (arith, nat_tests)

-- and nothing to a pair that isn't kept
pub nothing_there : (t : Tables) (keeps : Domains) (starts : Starts) (x : ℕ → ℕ) (p : Pair) → keeps p ≡ false → value_of (program_columns t keeps starts) x (Flight p) ≡ 0
nothing_there t keeps starts x p not_kept =
    let columns = program_columns t keeps starts in
    sum_below-agree (λ c. if same_column (Flight p) (column_at columns c) then x c else 0) (λ c. 0) (length columns) (record {
      each = λ c below.
          ap (λ b. if b then x c else 0) (differs (column_at columns c) (columns_are_kept t keeps starts c (Slack 0) below));
    })
    ∙ sum_below-zero (length columns)
  where
    differs : (column : Column) → IsKept t keeps starts column → same_column (Flight p) column ≡ false
    differs (Flight q) kept = by_test ((p.leg == q.leg) && (p.choice == q.choice))
        (λ e. let leg : p.leg ≡ q.leg = grind (arith, nat_tests) in let fleet : p.choice ≡ q.choice = grind (arith, nat_tests) in
        let kept_too : keeps p ≡ true = ap (λ l. keeps (leg_on l p.choice)) leg ∙ ap (λ f. keeps (leg_on q.leg f)) fleet ∙ kept.1 in absurd (false≢true (sym not_kept ∙ kept_too)))
        (λ e. e)
    differs (Ground a) kept = refl
    differs (Slack f) kept = refl
    differs (Room q) kept = refl

-- nor to an arc that went
pub nothing_on_ground : (t : Tables) (keeps : Domains) (starts : Starts) (x : ℕ → ℕ) (n : Node) → arc_stays t keeps starts n ≡ false → value_of (program_columns t keeps starts) x (Ground n) ≡ 0
nothing_on_ground t keeps starts x n went =
    let columns = program_columns t keeps starts in
    sum_below-agree (λ c. if same_column (Ground n) (column_at columns c) then x c else 0) (λ c. 0) (length columns) (record {
      each = λ c below.
          ap (λ b. if b then x c else 0) (differs (column_at columns c) (columns_are_kept t keeps starts c (Slack 0) below));
    })
    ∙ sum_below-zero (length columns)
  where
    differs : (column : Column) → IsKept t keeps starts column → same_column (Ground n) column ≡ false
    differs (Ground a) kept = by_test (same_node n a)
        (λ e. let fleet : n.fleet ≡ a.fleet = grind (arith, nat_tests) in let station : n.station ≡ a.station = grind (arith, nat_tests) in let place : n.place ≡ a.place = grind (arith, nat_tests) in
        let stays : arc_stays t keeps starts n ≡ true = ap (λ f. arc_stays t keeps starts (node_of_place f n.station n.place)) fleet ∙ ap (λ s. arc_stays t keeps starts (node_of_place a.fleet s n.place)) station ∙ ap (λ k. arc_stays t keeps starts (node_of_place a.fleet a.station k)) place ∙ kept.1 in
        absurd (false≢true (sym went ∙ stays)))
        (λ e. e)
    differs (Flight p) kept = refl
    differs (Slack f) kept = refl
    differs (Room p) kept = refl
