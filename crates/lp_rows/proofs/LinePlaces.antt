-- At which number each line stands.
use Rattle.std.proofs.Common.{◌≡◌, ℕ, ◌+◌, ◌<◌, ◌≤◌, ◌++◌, List, length, get_or, map, ℤ, ◌+ℤ◌, sym, ◌∙◌, ap, subst, append_assoc, arith}
use Rattle.std.proofs.lemmas.List.{get_or-map, get_or_append_left, get_or_past, length-map}
use Rattle.sums.specs.Below.{sum_below, sum_below_ℤ}
use Rattle.sums.proofs.WholeSums.{sum_below_ℤ-same}
use Rattle.sums.proofs.WholeTerms.{sum_below_ℤ-stretches}
use Rattle.fleet_model.specs.declared.tables.Tables.{Tables}
use Rattle.fleet_model.specs.Schedule.{fleets_in, legs_in, stations_in}
use Rattle.lp_rows.specs.declared.kinds.Node.{Node}
use Rattle.lp_rows.specs.declared.kinds.Line.{Line}
use Rattle.lp_rows.specs.declared.kinds.Line.TheVariants.{Balance, Count, Cover, Parking}
use Rattle.lp_rows.specs.Entries.{IsNode}
use Rattle.sums.specs.Places.{list_below}
use Rattle.lp_rows.specs.Layout.{Starts, all_nodes, all_parks, line_at, node_of_number, node_of_place, nodes_at, nodes_of_fleet, park_at, park_of_number, program_lines}
use Rattle.lp_rows.specs.Points.{node_count, park_count}
use Rattle.lp_rows.proofs.Counted.{length-concat, nodes_are, parks_are}
use Rattle.sums.proofs.Places.{get_or-list_below, length-list_below}
use Rattle.lp_rows.proofs.ListPlaces.{at_concat, at_right_of, split, sum_parts, within_sum}

module _ (t : Tables) (starts : Starts) where
  -- the nodes of a fleet, and those before a fleet's and a station's
  abbrev pub nodes_in : ℕ → ℕ
  nodes_in f = sum_below (λ s. length (starts f s)) (stations_in t)

  abbrev pub before : ℕ → ℕ → ℕ
  before f s = sum_below nodes_in f + sum_below (λ r. length (starts f r)) s

  long_at : (f s : ℕ) → length (nodes_at starts f s) ≡ length (starts f s)
  long_at f s = length-list_below (node_of_place f s) (length (starts f s))

  long_of : (f : ℕ) → length (nodes_of_fleet t starts f) ≡ nodes_in f
  long_of f = length-concat (nodes_at starts f) (λ s. length (starts f s)) (stations_in t) (λ s within. long_at f s)

  -- the place of a node
  pub node_there : (f s k : ℕ) (d : Node) → f < fleets_in t → s < stations_in t → k < length (starts f s) → get_or (all_nodes t starts) (before f s + k) d ≡ node_of_place f s k
  node_there f s k d known within below =
      let place : before f s + k ≡ sum_below nodes_in f + (sum_below (λ r. length (starts f r)) s + k) = omega arith in
      ap (λ n. get_or (all_nodes t starts) n d) place
      ∙ at_concat (nodes_of_fleet t starts) nodes_in d (fleets_in t) f (sum_below (λ r. length (starts f r)) s + k) (λ g less. long_of g) known (within_sum (λ r. length (starts f r)) (stations_in t) s k within below)
      ∙ at_concat (nodes_at starts f) (λ r. length (starts f r)) d (stations_in t) s k (λ r less. long_at f r) within below
      ∙ get_or-list_below (node_of_place f s) (length (starts f s)) k d below

  pub node_within : (f s k : ℕ) → f < fleets_in t → s < stations_in t → k < length (starts f s) → before f s + k < node_count t starts
  node_within f s k known within below =
      omega (arith, within_sum nodes_in (fleets_in t) f (sum_below (λ r. length (starts f r)) s + k) known (within_sum (λ r. length (starts f r)) (stations_in t) s k within below))

  -- each number of a node is that of a fleet, a station and a place
  pub record IsNodeNumber (number : ℕ) : Type 0 where
    pub fleet : ℕ
    pub station : ℕ
    pub place : ℕ
    pub known : fleet < fleets_in t
    pub within : station < stations_in t
    pub below : place < length (starts fleet station)
    pub is : number ≡ before fleet station + place

  pub node_number : (number : ℕ) → number < node_count t starts → IsNodeNumber number
  node_number number below =
      let f = split nodes_in (fleets_in t) number below in
      let s = split (λ r. length (starts f.list r)) (stations_in t) f.rest f.within in
      record { fleet = f.list; station = s.list; place = s.rest; known = f.known; within = s.known; below = s.within; is = omega (arith, f.is, s.is) }

  pub node_is : (k : ℕ) → k < node_count t starts → IsNode t starts (node_of_number t starts k)
  node_is k below =
      let number = node_number k below in
      let same : node_of_number t starts k ≡ node_of_place number.fleet number.station number.place =
      ap (λ j. get_or (all_nodes t starts) j (node_of_place 0 0 0)) number.is ∙ node_there number.fleet number.station number.place (node_of_place 0 0 0) number.known number.within number.below in
      subst (IsNode t starts) (sym same) (record { fleet = number.known; station = number.within; place = number.below })

  -- ---- the lines by their numbers
  covers_long : length (list_below Cover (legs_in t)) ≡ legs_in t
  covers_long = length-list_below Cover (legs_in t)

  balances_long : length (map Balance (all_nodes t starts)) ≡ node_count t starts
  balances_long = length-map (all_nodes t starts) Balance ∙ nodes_are t starts

  counts_long : length (list_below Count (fleets_in t)) ≡ fleets_in t
  counts_long = length-list_below Count (fleets_in t)

  -- the count lines and the parking lines, and the balance lines before them
  abbrev last_lines : List Line
  last_lines = list_below Count (fleets_in t) ++ map Parking (all_parks t)

  abbrev behind : List Line
  behind = map Balance (all_nodes t starts) ++ last_lines

  in_parts : program_lines t starts ≡ list_below Cover (legs_in t) ++ behind
  in_parts =
      append_assoc (list_below Cover (legs_in t) ++ map Balance (all_nodes t starts)) (list_below Count (fleets_in t)) (map Parking (all_parks t))
      ∙ append_assoc (list_below Cover (legs_in t)) (map Balance (all_nodes t starts)) last_lines

  -- the lines behind the cover lines, and those behind the balance lines
  behind_covers : (k : ℕ) → line_at t starts (legs_in t + k) ≡ get_or behind k (Cover 0)
  behind_covers k = ap (λ ls. get_or ls (legs_in t + k) (Cover 0)) in_parts ∙ at_right_of (list_below Cover (legs_in t)) behind (Cover 0) (legs_in t) k covers_long

  behind_balances : (k : ℕ) → line_at t starts (legs_in t + (node_count t starts + k)) ≡ get_or last_lines k (Cover 0)
  behind_balances k = behind_covers (node_count t starts + k) ∙ at_right_of (map Balance (all_nodes t starts)) last_lines (Cover 0) (node_count t starts) k balances_long

  behind_counts : (k : ℕ) → line_at t starts (legs_in t + (node_count t starts + (fleets_in t + k))) ≡ get_or (map Parking (all_parks t)) k (Cover 0)
  behind_counts k = behind_balances (fleets_in t + k) ∙ at_right_of (list_below Count (fleets_in t)) (map Parking (all_parks t)) (Cover 0) (fleets_in t) k counts_long

  pub cover_there : (l : ℕ) → l < legs_in t → line_at t starts l ≡ Cover l
  cover_there l below =
      ap (λ ls. get_or ls l (Cover 0)) in_parts
      ∙ get_or_append_left (list_below Cover (legs_in t)) behind (Cover 0) l (omega (arith, below, covers_long))
      ∙ get_or-list_below Cover (legs_in t) l (Cover 0) below

  pub balance_there : (k : ℕ) → k < node_count t starts → line_at t starts (legs_in t + k) ≡ Balance (node_of_number t starts k)
  balance_there k below =
      behind_covers k
      ∙ get_or_append_left (map Balance (all_nodes t starts)) last_lines (Cover 0) k (omega (arith, below, balances_long))
      ∙ get_or-map Balance (all_nodes t starts) k (node_of_place 0 0 0) (Cover 0) (omega (arith, below, nodes_are t starts))

  pub count_there : (f : ℕ) → f < fleets_in t → line_at t starts (legs_in t + (node_count t starts + f)) ≡ Count f
  count_there f known =
      behind_balances f
      ∙ get_or_append_left (list_below Count (fleets_in t)) (map Parking (all_parks t)) (Cover 0) f (omega (arith, known, counts_long))
      ∙ get_or-list_below Count (fleets_in t) f (Cover 0) known

  pub parking_there : (k : ℕ) → k < park_count t → line_at t starts (legs_in t + (node_count t starts + (fleets_in t + k))) ≡ Parking (park_of_number t k)
  parking_there k below = behind_counts k ∙ get_or-map Parking (all_parks t) k (park_at 0 0) (Cover 0) (omega (arith, below, parks_are t))

  -- behind the last there is none
  pub none_behind : (k : ℕ) → park_count t ≤ k → line_at t starts (legs_in t + (node_count t starts + (fleets_in t + k))) ≡ Cover 0
  none_behind k past = behind_counts k ∙ get_or_past (map Parking (all_parks t)) k (Cover 0) (omega (arith, past, length-map (all_parks t) Parking, parks_are t))

  -- a sum over the balance lines, node by node
  over_balances : (h : ℕ → ℤ) → sum_below_ℤ (λ k. h (legs_in t + k)) (node_count t starts)
      ≡ sum_below_ℤ (λ f. sum_below_ℤ (λ s. sum_below_ℤ (λ k. h (legs_in t + (before f s + k))) (length (starts f s))) (stations_in t)) (fleets_in t)
  over_balances h =
      sum_parts (λ k. h (legs_in t + k)) nodes_in (fleets_in t)
      ∙ sum_below_ℤ-same (λ f. sum_below_ℤ (λ k. h (legs_in t + (sum_below nodes_in f + k))) (nodes_in f)) (λ f. sum_below_ℤ (λ s. sum_below_ℤ (λ k. h (legs_in t + (before f s + k))) (length (starts f s))) (stations_in t)) (fleets_in t)
      (λ f known. sum_parts (λ k. h (legs_in t + (sum_below nodes_in f + k))) (λ s. length (starts f s)) (stations_in t)
      ∙ sum_below_ℤ-same (λ s. sum_below_ℤ (λ k. h (legs_in t + (sum_below nodes_in f + (sum_below (λ r. length (starts f r)) s + k)))) (length (starts f s))) (λ s. sum_below_ℤ (λ k. h (legs_in t + (before f s + k))) (length (starts f s))) (stations_in t)
      (λ s within. sum_below_ℤ-same (λ k. h (legs_in t + (sum_below nodes_in f + (sum_below (λ r. length (starts f r)) s + k)))) (λ k. h (legs_in t + (before f s + k))) (length (starts f s))
      (λ k below. ap (λ n. h (legs_in t + n)) (joined f s k))))
    where
      joined : (f s k : ℕ) → sum_below nodes_in f + (sum_below (λ r. length (starts f r)) s + k) ≡ before f s + k
      joined f s k = omega arith

  -- a sum over all lines, by their kinds
  pub over_lines : (h : ℕ → ℤ) → sum_below_ℤ h (legs_in t + (node_count t starts + (fleets_in t + park_count t)))
      ≡ sum_below_ℤ h (legs_in t)
      +ℤ (sum_below_ℤ (λ f. sum_below_ℤ (λ s. sum_below_ℤ (λ k. h (legs_in t + (before f s + k))) (length (starts f s))) (stations_in t)) (fleets_in t)
      +ℤ (sum_below_ℤ (λ f. h (legs_in t + (node_count t starts + f))) (fleets_in t)
      +ℤ sum_below_ℤ (λ k. h (legs_in t + (node_count t starts + (fleets_in t + k)))) (park_count t)))
  over_lines h =
      sum_below_ℤ-stretches h (legs_in t) (node_count t starts + (fleets_in t + park_count t))
      ∙ ap (λ z. sum_below_ℤ h (legs_in t) +ℤ z)
      (sum_below_ℤ-stretches (λ k. h (legs_in t + k)) (node_count t starts) (fleets_in t + park_count t)
      ∙ ap (λ z. z +ℤ sum_below_ℤ (λ k. h (legs_in t + (node_count t starts + k))) (fleets_in t + park_count t)) (over_balances h)
      ∙ ap (λ z. sum_below_ℤ (λ f. sum_below_ℤ (λ s. sum_below_ℤ (λ k. h (legs_in t + (before f s + k))) (length (starts f s))) (stations_in t)) (fleets_in t) +ℤ z)
      (sum_below_ℤ-stretches (λ k. h (legs_in t + (node_count t starts + k))) (fleets_in t) (park_count t)))
