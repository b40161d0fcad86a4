-- Sums over the columns, by their kinds.
use Rattle.std.proofs.Common.{◌≡◌, ℕ, zero, suc, ◌+◌, ◌*◌, ◌^◌, ◌<◌, ◌≤◌, Bool, true, false, if◌then◌else◌, cond, List, [], ◌∷◌, ◌++◌, filter, length, get_or, map, All, is_some, ℤ, ◌+ℤ◌, refl, ◌∙◌, ap, arith, length-append}
use Rattle.std.proofs.lemmas.List.{length-map}
use Rattle.std.proofs.lemmas.List.Elements.{All-append, All-cons, All-head, All-map, All-nil, All-tail}
use Rattle.fleet_model.specs.declared.limits.TheConstants.{MAX_CHOICES}
use Rattle.sums.specs.Below.{sum_below_ℤ}
use Rattle.sums.proofs.NumberTests.{if_below}
use Rattle.sums.proofs.Places.{get_or-list_below, length-list_below}
use Rattle.sums.proofs.WholeSums.{sum_below_ℤ-same}
use Rattle.sums.proofs.WholeSwaps.{where_true}
use Rattle.fleet_model.specs.declared.tables.Tables.{Tables}
use Rattle.fleet_model.specs.Kept.{Domains}
use Rattle.fleet_model.specs.Schedule.{choices_in, days_in, fleets_in, leg_on, legs_in, parking_of, period_of, stations_in}
use Rattle.fleet_model.proofs.PeriodMinutes.{at_most_week, few_days}
use Rattle.fleet_model.proofs.FewChoices.{few_choices}
use Rattle.lp_rows.specs.declared.kinds.Node.{Node}
use Rattle.lp_rows.specs.declared.kinds.Park.{Park}
use Rattle.lp_rows.specs.declared.kinds.Column.{Column}
use Rattle.lp_rows.specs.declared.kinds.Column.TheVariants.{Flight, Ground, Room, Slack}
use Rattle.lp_rows.specs.declared.kinds.Line.TheVariants.{Cover, Balance, Count, Parking}
use Rattle.lp_rows.specs.Entries.{IsColumn, IsLine, IsNode, IsPark}
use Rattle.sums.specs.Places.{list_below}
use Rattle.lp_rows.specs.Layout.{Starts, all_arcs, all_kept, all_nodes, all_parks, arc_stays, concat_below, node_of_place, nodes_at, nodes_of_fleet, pair_if_kept, pairs_of_leg, park_at, parking_days, parks_at, program_columns, program_lines}
use Rattle.lp_rows.proofs.ListSums.{by_places, of_append, of_concat, of_filter, of_list, of_map, of_one, sum_list}

-- over the kept pairs
abbrev pub flights : Tables → Domains → (Column → ℤ) → ℤ
flights t keeps h = sum_below_ℤ (λ l. sum_below_ℤ (λ c. where_true (keeps (leg_on l c)) (h (Flight (leg_on l c)))) (choices_in t l)) (legs_in t)

-- over the arcs that stay
abbrev pub on_arc : Tables → Domains → Starts → (Column → ℤ) → ℕ → ℕ → ℕ → ℤ
on_arc t keeps starts h f s k = where_true (arc_stays t keeps starts (node_of_place f s k)) (h (Ground (node_of_place f s k)))

abbrev pub grounds : Tables → Domains → Starts → (Column → ℤ) → ℤ
grounds t keeps starts h = sum_below_ℤ (λ f. sum_below_ℤ (λ s. sum_below_ℤ (on_arc t keeps starts h f s) (length (starts f s))) (stations_in t)) (fleets_in t)

-- over the slacks
abbrev pub slacks : Tables → (Column → ℤ) → ℤ
slacks t h = sum_below_ℤ (λ f. h (Slack f)) (fleets_in t)

-- over the rooms
abbrev pub rooms : Tables → (Column → ℤ) → ℤ
rooms t h = sum_below_ℤ (λ s. sum_below_ℤ (λ k. h (Room (park_at s k))) (parking_days t s)) (stations_in t)

module _ (t : Tables) (keeps : Domains) (starts : Starts) (h : Column → ℤ) where
  over_pairs : sum_list (λ p. h (Flight p)) (all_kept t keeps) ≡ flights t keeps h
  over_pairs =
      of_concat (λ p. h (Flight p)) (pairs_of_leg t keeps) (legs_in t)
      ∙ sum_below_ℤ-same (λ l. sum_list (λ p. h (Flight p)) (pairs_of_leg t keeps l)) (λ l. sum_below_ℤ (λ c. where_true (keeps (leg_on l c)) (h (Flight (leg_on l c)))) (choices_in t l)) (legs_in t)
      (λ l below. of_concat (λ p. h (Flight p)) (pair_if_kept keeps l) (choices_in t l)
      ∙ sum_below_ℤ-same (λ c. sum_list (λ p. h (Flight p)) (pair_if_kept keeps l c)) (λ c. where_true (keeps (leg_on l c)) (h (Flight (leg_on l c)))) (choices_in t l)
      (λ c lt. of_one (λ p. h (Flight p)) (keeps (leg_on l c)) (leg_on l c)))

  over_nodes : (g : Node → ℤ) → sum_list g (all_nodes t starts) ≡ sum_below_ℤ (λ f. sum_below_ℤ (λ s. sum_below_ℤ (λ k. g (node_of_place f s k)) (length (starts f s))) (stations_in t)) (fleets_in t)
  over_nodes g =
      of_concat g (nodes_of_fleet t starts) (fleets_in t)
      ∙ sum_below_ℤ-same (λ f. sum_list g (nodes_of_fleet t starts f)) (λ f. sum_below_ℤ (λ s. sum_below_ℤ (λ k. g (node_of_place f s k)) (length (starts f s))) (stations_in t)) (fleets_in t)
      (λ f below. of_concat g (nodes_at starts f) (stations_in t)
      ∙ sum_below_ℤ-same (λ s. sum_list g (nodes_at starts f s)) (λ s. sum_below_ℤ (λ k. g (node_of_place f s k)) (length (starts f s))) (stations_in t)
      (λ s lt. of_list g (node_of_place f s) (length (starts f s))))

  over_arcs : sum_list (λ n. h (Ground n)) (all_arcs t keeps starts) ≡ grounds t keeps starts h
  over_arcs = of_filter (λ n. h (Ground n)) (arc_stays t keeps starts) (all_nodes t starts) ∙ over_nodes (λ n. where_true (arc_stays t keeps starts n) (h (Ground n)))

  over_parks : sum_list (λ p. h (Room p)) (all_parks t) ≡ rooms t h
  over_parks =
      of_concat (λ p. h (Room p)) (parks_at t) (stations_in t)
      ∙ sum_below_ℤ-same (λ s. sum_list (λ p. h (Room p)) (parks_at t s)) (λ s. sum_below_ℤ (λ k. h (Room (park_at s k))) (parking_days t s)) (stations_in t)
      (λ s within. of_list (λ p. h (Room p)) (park_at s) (parking_days t s))

  -- over all columns but the rooms
  before_rooms : sum_list h (map Flight (all_kept t keeps) ++ map Ground (all_arcs t keeps starts) ++ list_below Slack (fleets_in t)) ≡ flights t keeps h +ℤ grounds t keeps starts h +ℤ slacks t h
  before_rooms =
      let split = of_append h (map Flight (all_kept t keeps) ++ map Ground (all_arcs t keeps starts)) (list_below Slack (fleets_in t)) in
      let front = of_append h (map Flight (all_kept t keeps)) (map Ground (all_arcs t keeps starts)) in
      let pairs = of_map h Flight (all_kept t keeps) ∙ over_pairs in
      let arcs = of_map h Ground (all_arcs t keeps starts) ∙ over_arcs in
      split ∙ ap (λ z. z +ℤ sum_list h (list_below Slack (fleets_in t))) (front ∙ ap (λ z. z +ℤ sum_list h (map Ground (all_arcs t keeps starts))) pairs ∙ ap (λ z. flights t keeps h +ℤ z) arcs)
      ∙ ap (λ z. flights t keeps h +ℤ grounds t keeps starts h +ℤ z) (of_list h Slack (fleets_in t))

  -- over all columns by their places
  pub over_columns : sum_below_ℤ (λ c. h (get_or (program_columns t keeps starts) c (Slack 0))) (length (program_columns t keeps starts)) ≡ flights t keeps h +ℤ grounds t keeps starts h +ℤ slacks t h +ℤ rooms t h
  over_columns =
      by_places h (program_columns t keeps starts) (Slack 0)
      ∙ of_append h (map Flight (all_kept t keeps) ++ map Ground (all_arcs t keeps starts) ++ list_below Slack (fleets_in t)) (map Room (all_parks t))
      ∙ ap (λ z. z +ℤ sum_list h (map Room (all_parks t))) before_rooms
      ∙ ap (λ z. flights t keeps h +ℤ grounds t keeps starts h +ℤ slacks t h +ℤ z) (of_map h Room (all_parks t) ∙ over_parks)

-- what holds of each entry of lists one behind another
pub all_concat : {X : Type 0} (P : X → Type 0) (g : ℕ → List X) (n : ℕ) → ((k : ℕ) → k < n → All P (g k)) → All P (concat_below g n)
all_concat P g zero each = All-nil P
all_concat P g (suc n) each = All-append P _ _ (all_concat P g n (λ k below. each k (omega arith))) (each n (omega arith))

all_list : {X : Type 0} (P : X → Type 0) (f : ℕ → X) (n : ℕ) → ((k : ℕ) → k < n → P (f k)) → All P (list_below f n)
all_list P f n each k d within =
    let below : k < n = omega (arith, within, length-list_below f n) in
    rw (get_or-list_below f n k d below) (each k below)

all_one : {X : Type 0} (P : X → Type 0) (b : Bool) (x : X) → (b ≡ true → P x) → All P (if b then x ∷ [] else [])
all_one P true x here = All-cons P x [] (here refl) (All-nil P)
all_one P false x here = All-nil P

all_of_nodes : (t : Tables) (starts : Starts) (P : Node → Type 0) → ((n : Node) → IsNode t starts n → P n) → All P (all_nodes t starts)
all_of_nodes t starts P each =
    all_concat P (nodes_of_fleet t starts) (fleets_in t) (λ f known. all_concat P (nodes_at starts f) (stations_in t) (λ s within. all_list P (node_of_place f s) (length (starts f s)) (λ k below.
    each (node_of_place f s k) (record { fleet = known; station = within; place = below }))))

-- .. and of those of them that pass a test
pub all_filter : {X : Type 0} (P : X → Type 0) (p : X → Bool) (xs : List X) → All (λ x. p x ≡ true → P x) xs → All P (filter p xs)
all_filter P p [] each = All-nil P
all_filter {X} P p (x ∷ xs) each = picked (p x) (filter p xs) (All-head (λ y. p y ≡ true → P y) x xs each) (all_filter P p xs (All-tail (λ y. p y ≡ true → P y) x xs each))
  where
    picked : (b : Bool) (ys : List X) → (b ≡ true → P x) → All P ys → All P (cond b (x ∷ ys) ys)
    picked true ys here rest = All-cons P x ys (here refl) rest
    picked false ys here rest = rest

-- .. of the days with a limit
pub all_of_parks : (t : Tables) (P : Park → Type 0) → ((p : Park) → IsPark t p → P p) → All P (all_parks t)
all_of_parks t P each =
    all_concat P (parks_at t) (stations_in t) (λ s within. all_list P (park_at s) (parking_days t s) (λ k below. each (park_at s k) (record { station = within; some = omega arith; day = omega (arith, below) })))

-- what holds of kept pairs, arcs that stay, slacks and rooms holds of all columns
pub all_columns : (t : Tables) (keeps : Domains) (starts : Starts) (P : Column → Type 0)
    → ((l c : ℕ) → l < legs_in t → c < choices_in t l → keeps (leg_on l c) ≡ true → P (Flight (leg_on l c))) → ((n : Node) → IsNode t starts n → arc_stays t keeps starts n ≡ true → P (Ground n)) → ((f : ℕ) → f < fleets_in t → P (Slack f))
    → ((p : Park) → IsPark t p → P (Room p)) → All P (program_columns t keeps starts)
all_columns t keeps starts P of_pairs of_arcs of_fleets of_parks =
    All-append P _ _
    (All-append P _ _
    (All-append P _ _
    (All-map P Flight (all_kept t keeps) (all_concat (λ p. P (Flight p)) (pairs_of_leg t keeps) (legs_in t) (λ l below. all_concat (λ p. P (Flight p)) (pair_if_kept keeps l) (choices_in t l) (λ c known.
    all_one (λ p. P (Flight p)) (keeps (leg_on l c)) (leg_on l c) (of_pairs l c below known)))))
    (All-map P Ground (all_arcs t keeps starts) (all_filter (λ n. P (Ground n)) (arc_stays t keeps starts) (all_nodes t starts) (all_of_nodes t starts (λ n. arc_stays t keeps starts n ≡ true → P (Ground n)) of_arcs))))
    (all_list P Slack (fleets_in t) of_fleets))
    (All-map P Room (all_parks t) (all_of_parks t (λ p. P (Room p)) of_parks))

pub columns_are_known : (t : Tables) (keeps : Domains) (starts : Starts) → All (IsColumn t starts) (program_columns t keeps starts)
columns_are_known t keeps starts = all_columns t keeps starts (IsColumn t starts) (λ l c below known kept. record { leg = below; choice = known }) (λ n fits stays. fits) (λ f known. known) (λ p known. known)

pub lines_are_known : (t : Tables) (starts : Starts) → All (IsLine t starts) (program_lines t starts)
lines_are_known t starts =
    All-append (IsLine t starts) _ _
    (All-append (IsLine t starts) _ _
    (All-append (IsLine t starts) _ _ (all_list (IsLine t starts) Cover (legs_in t) (λ l below. below)) (All-map (IsLine t starts) Balance (all_nodes t starts) (all_of_nodes t starts (λ n. IsLine t starts (Balance n)) (λ n fits. fits))))
    (all_list (IsLine t starts) Count (fleets_in t) (λ f known. known)))
    (All-map (IsLine t starts) Parking (all_parks t) (all_of_parks t (λ p. IsLine t starts (Parking p)) (λ p known. known)))

-- how many columns there are, at most
few_concat : {X : Type 0} (g : ℕ → List X) (n most : ℕ) → ((k : ℕ) → k < n → length (g k) ≤ most) → length (concat_below g n) ≤ n * most
few_concat g zero most each = omega arith
few_concat g (suc n) most each = omega (arith, length-append (concat_below g n) (g n), few_concat g n most (λ k below. each k (omega arith)), each n (omega arith))

few_one : {X : Type 0} (b : Bool) (x : X) → length (if b then x ∷ [] else []) ≤ 1
few_one true x = omega arith
few_one false x = omega arith

-- no more starts anywhere than there are minutes
pub record AreFew (t : Tables) (starts : Starts) : Type 0 where
  pub each : (f s : ℕ) → f < fleets_in t → s < stations_in t → length (starts f s) ≤ period_of t

few_nodes : (t : Tables) (starts : Starts) → AreFew t starts → length (all_nodes t starts) ≤ 40320000
few_nodes t starts few =
    let nodes = few_concat (nodes_of_fleet t starts) (fleets_in t) 2016000 (λ f known.
    let row = few_concat (nodes_at starts f) (stations_in t) 10080 (λ s within. omega (arith, length-list_below (node_of_place f s) (length (starts f s)), few.each f s known within, at_most_week t)) in
    omega (arith, row, t.in_range.stations_fit.few)) in
    omega (arith, nodes, t.in_range.fleets_fit.few)

pub few_parking_days : (t : Tables) (s : ℕ) → parking_days t s ≤ 7
few_parking_days t s = if_below (is_some (parking_of t s)) (days_in t) 7 (few_days t)

pub few_parks : (t : Tables) → length (all_parks t) ≤ 1400
few_parks t =
    let days = few_concat (parks_at t) (stations_in t) 7 (λ s within. omega (arith, length-list_below (park_at s) (parking_days t s), few_parking_days t s)) in
    omega (arith, days, t.in_range.stations_fit.few)

pub few_filter : {X : Type 0} (p : X → Bool) (xs : List X) → length (filter p xs) ≤ length xs
few_filter p [] = omega arith
few_filter {X} p (x ∷ xs) = picked (p x) (filter p xs) (few_filter p xs)
  where
    picked : (b : Bool) (ys : List X) → length ys ≤ length xs → length (cond b (x ∷ ys) ys) ≤ length (x ∷ xs)
    picked true ys few = omega (arith, few)
    picked false ys few = omega (arith, few)

-- a hundred million at most, also with all arcs
pub few_parts : (t : Tables) (keeps : Domains) (starts : Starts) → AreFew t starts → length (all_kept t keeps) + length (all_nodes t starts) + fleets_in t + length (all_parks t) ≤ 10 ^ 8
few_parts t keeps starts few =
    let pairs = few_concat (pairs_of_leg t keeps) (legs_in t) MAX_CHOICES (λ l below.
    let row = few_concat (pair_if_kept keeps l) (choices_in t l) 1 (λ c known. few_one (keeps (leg_on l c)) (leg_on l c)) in omega (arith, row, few_choices t l)) in
    omega (
      arith,
      pairs,
      few_nodes t starts few,
      few_parks t,
      t.in_range.legs_fit.few,
      t.in_range.fleets_fit.few,
    )

pub few_columns : (t : Tables) (keeps : Domains) (starts : Starts) → AreFew t starts → length (program_columns t keeps starts) ≤ 10 ^ 8
few_columns t keeps starts few =
    omega (
      arith,
      few_parts t keeps starts few,
      few_filter (arc_stays t keeps starts) (all_nodes t starts),
      length-append (map Flight (all_kept t keeps) ++ map Ground (all_arcs t keeps starts) ++ list_below Slack (fleets_in t)) (map Room (all_parks t)),
      length-append (map Flight (all_kept t keeps) ++ map Ground (all_arcs t keeps starts)) (list_below Slack (fleets_in t)),
      length-append (map Flight (all_kept t keeps)) (map Ground (all_arcs t keeps starts)),
      length-map (all_kept t keeps) Flight,
      length-map (all_arcs t keeps starts) Ground,
      length-map (all_parks t) Room,
      length-list_below Slack (fleets_in t),
    )

pub lines_long : (t : Tables) (starts : Starts) → length (program_lines t starts) ≡ legs_in t + length (all_nodes t starts) + fleets_in t + length (all_parks t)
lines_long t starts =
    omega (
      arith,
      length-append (list_below Cover (legs_in t) ++ map Balance (all_nodes t starts) ++ list_below Count (fleets_in t)) (map Parking (all_parks t)),
      length-append (list_below Cover (legs_in t) ++ map Balance (all_nodes t starts)) (list_below Count (fleets_in t)),
      length-append (list_below Cover (legs_in t)) (map Balance (all_nodes t starts)),
      length-map (all_nodes t starts) Balance,
      length-map (all_parks t) Parking,
      length-list_below Cover (legs_in t),
      length-list_below Count (fleets_in t),
    )

pub few_lines : (t : Tables) (starts : Starts) → AreFew t starts → length (program_lines t starts) ≤ 10 ^ 8
few_lines t starts few =
    omega (
      arith,
      lines_long t starts,
      few_nodes t starts few,
      few_parks t,
      t.in_range.legs_fit.few,
      t.in_range.fleets_fit.few,
    )
