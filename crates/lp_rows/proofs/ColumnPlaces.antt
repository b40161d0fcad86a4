-- At which number each column stands.
use Rattle.std.proofs.Common.{◌≡◌, ℕ, ◌+◌, ◌<◌, ◌≤◌, Bool, true, false, cond, if◌then◌else◌, ◌==◌, List, [], ◌∷◌, ◌++◌, length, get_or, map, refl, sym, ◌∙◌, ap, arith, append_assoc, length-append}
use Rattle.std.proofs.lemmas.Bool.Decides.{nat_tests}
use Rattle.std.proofs.lemmas.List.{get_or-map, get_or_append_left, length-map}
use Rattle.sums.specs.Below.{sum_below}
use Rattle.sums.specs.Places.{list_below}
use Rattle.sums.proofs.Places.{get_or-list_below, length-list_below}
use Rattle.fleet_model.specs.declared.parts.Pair.{Pair}
use Rattle.fleet_model.specs.declared.tables.Tables.{Tables}
use Rattle.fleet_model.specs.Kept.{Domains, kept_on, pairs_kept}
use Rattle.fleet_model.specs.Schedule.{IsPair, choices_in, fleets_in, leg_on, legs_in}
use Rattle.lp_rows.specs.declared.kinds.Column.{Column}
use Rattle.lp_rows.specs.declared.kinds.Column.TheVariants.{Flight, Ground, Room, Slack}
use Rattle.lp_rows.specs.Layout.{Starts, all_arcs, all_kept, all_nodes, all_parks, arc_stays, pair_at_column, pair_if_kept, pairs_of_leg, program_columns}
use Rattle.lp_rows.specs.Points.{arcs_in, column_at, park_count, value_of}
use Rattle.lp_rows.proofs.Counted.{arcs_are, length-concat, pairs_are, parks_are}
use Rattle.lp_rows.proofs.LineNumbers.{node_among, park_among}
use Rattle.lp_rows.proofs.PassingNumbers.{among_filter}
use Rattle.lp_rows.proofs.ListPlaces.{at_concat, at_right_of, within_sum}
use Rattle.lp_rows.proofs.Places.{IsKept, value_there}

-- ---- the columns of pairs
module _ (t : Tables) (keeps : Domains) (starts : Starts) where
  abbrev cols : List Column
  cols = program_columns t keeps starts

  -- the slacks and the rooms, and the arcs before them
  abbrev pub last_columns : List Column
  last_columns = list_below Slack (fleets_in t) ++ map Room (all_parks t)

  abbrev pub behind : List Column
  behind = map Ground (all_arcs t keeps starts) ++ last_columns

  pub in_parts : cols ≡ map Flight (all_kept t keeps) ++ behind
  in_parts =
      append_assoc (map Flight (all_kept t keeps) ++ map Ground (all_arcs t keeps starts)) (list_below Slack (fleets_in t)) (map Room (all_parks t))
      ∙ append_assoc (map Flight (all_kept t keeps)) (map Ground (all_arcs t keeps starts)) last_columns

  pub flights_long : length (map Flight (all_kept t keeps)) ≡ pairs_kept t keeps
  flights_long = length-map (all_kept t keeps) Flight ∙ pairs_are t keeps

  pub flight_there : (c : ℕ) → c < pairs_kept t keeps → column_at cols c ≡ Flight (pair_at_column t keeps c)
  flight_there c below =
      ap (λ cs. get_or cs c (Slack 0)) in_parts
      ∙ get_or_append_left (map Flight (all_kept t keeps)) behind (Slack 0) c (omega (arith, below, flights_long))
      ∙ get_or-map Flight (all_kept t keeps) c (leg_on 0 0) (Slack 0) (omega (arith, below, pairs_are t keeps))

  -- each pair stands once
  pub once : (c d : ℕ) → c < length cols → d < length cols → column_at cols c ≡ column_at cols d → c ≡ d
  once c d here there same =
      let x = λ (k : ℕ). cond (k == c) 1 0 in
      let one : x c ≡ x d = sym (value_there t keeps starts x c here) ∙ ap (value_of cols x) same ∙ value_there t keeps starts x d there in
      equal c d one
    where
      equal : (c d : ℕ) → ◌≡◌ {A = ℕ} (cond (c == c) 1 0) (cond (d == c) 1 0) → c ≡ d
      equal c d e = grind (arith, nat_tests)

  pub pairs_within : pairs_kept t keeps ≤ length cols
  pairs_within = omega (arith, ap length in_parts, length-append (map Flight (all_kept t keeps)) behind, flights_long)

  pub pair_once : (c d : ℕ) → c < pairs_kept t keeps → d < pairs_kept t keeps → pair_at_column t keeps c ≡ pair_at_column t keeps d → c ≡ d
  pair_once c d here there same =
      once c d (omega (arith, here, pairs_within)) (omega (arith, there, pairs_within)) (flight_there c here ∙ ap Flight same ∙ sym (flight_there d there))

  -- ---- the column of each
  one_long : (b : Bool) (p : Pair) → length (if b then p ∷ [] else []) ≡ (if b then 1 else 0)
  one_long true p = refl
  one_long false p = refl

  long_of : (l : ℕ) → length (pairs_of_leg t keeps l) ≡ kept_on t keeps l
  long_of l = length-concat (pair_if_kept keeps l) (λ c. if keeps (leg_on l c) then 1 else 0) (choices_in t l) (λ c known. one_long (keeps (leg_on l c)) (leg_on l c))

  -- the column of a kept pair
  pub pair_column : (p : Pair) → IsPair t p → keeps p ≡ true → (c : ℕ) × (c < pairs_kept t keeps) × (pair_at_column t keeps c ≡ p)
  pair_column p known kept =
      let rest = sum_below (λ f. if keeps (leg_on p.leg f) then 1 else 0) p.choice + 0 in
      let inner : rest < kept_on t keeps p.leg = within_sum (λ f. if keeps (leg_on p.leg f) then 1 else 0) (choices_in t p.leg) p.choice 0 known.choice (one_there (keeps p) kept) in (
        sum_below (kept_on t keeps) p.leg + rest,
        within_sum (kept_on t keeps) (legs_in t) p.leg rest known.leg inner,
        at_concat (pairs_of_leg t keeps) (kept_on t keeps) (leg_on 0 0) (legs_in t) p.leg rest (λ l less. long_of l) known.leg inner
            ∙ at_concat (pair_if_kept keeps p.leg) (λ f. if keeps (leg_on p.leg f) then 1 else 0) (leg_on 0 0) (choices_in t p.leg) p.choice 0 (λ f less. one_long (keeps (leg_on p.leg f)) (leg_on p.leg f)) known.choice (one_there (keeps p) kept)
            ∙ there (keeps p) kept,
      )
    where
      one_there : (b : Bool) → b ≡ true → 0 < (if b then 1 else 0)
      one_there true e = omega arith
      one_there false e = cc

      there : (b : Bool) → b ≡ true → get_or (if b then p ∷ [] else []) 0 (leg_on 0 0) ≡ p
      there true e = refl
      there false e = cc

  arcs_long : length (map Ground (all_arcs t keeps starts)) ≡ arcs_in t keeps starts
  arcs_long = length-map (all_arcs t keeps starts) Ground ∙ arcs_are t keeps starts

  slacks_long : length (list_below Slack (fleets_in t)) ≡ fleets_in t
  slacks_long = length-list_below Slack (fleets_in t)

  pub all_long : length cols ≡ pairs_kept t keeps + (arcs_in t keeps starts + (fleets_in t + park_count t))
  all_long = ap length in_parts ∙ omega (
    arith,
    length-append (map Flight (all_kept t keeps)) behind,
    length-append (map Ground (all_arcs t keeps starts)) last_columns,
    length-append (list_below Slack (fleets_in t)) (map Room (all_parks t)),
    length-map (all_parks t) Room,
    flights_long,
    arcs_long,
    slacks_long,
    parks_are t,
  )

  pub behind_pairs : (k : ℕ) → column_at cols (pairs_kept t keeps + k) ≡ get_or behind k (Slack 0)
  behind_pairs k = ap (λ cs. get_or cs (pairs_kept t keeps + k) (Slack 0)) in_parts ∙ at_right_of (map Flight (all_kept t keeps)) behind (Slack 0) (pairs_kept t keeps) k flights_long

  behind_arcs : (k : ℕ) → column_at cols (pairs_kept t keeps + (arcs_in t keeps starts + k)) ≡ get_or last_columns k (Slack 0)
  behind_arcs k = behind_pairs (arcs_in t keeps starts + k) ∙ at_right_of (map Ground (all_arcs t keeps starts)) last_columns (Slack 0) (arcs_in t keeps starts) k arcs_long

  abbrev pub HasColumn : Column → Type 0
  HasColumn column = (c : ℕ) × (c < length cols) × (column_at cols c ≡ column)

  pub column_number : (column : Column) → IsKept t keeps starts column → HasColumn column
  column_number (Flight p) kept =
      let pair = pair_column p kept.0 kept.1 in
      (pair.0, omega (arith, pair.1, pairs_within), flight_there pair.0 pair.1 ∙ ap Flight pair.2)
  column_number (Ground n) kept =
      let arc = among_filter (arc_stays t keeps starts) (all_nodes t starts) n (node_among t starts n kept.0) kept.1 in (
        pairs_kept t keeps + arc.0,
        omega (arith, all_long, arc.1, arcs_are t keeps starts),
        behind_pairs arc.0
            ∙ get_or_append_left (map Ground (all_arcs t keeps starts)) last_columns (Slack 0) arc.0 (omega (arith, arc.1, arcs_are t keeps starts, arcs_long))
            ∙ get_or-map Ground (all_arcs t keeps starts) arc.0 n (Slack 0) arc.1
            ∙ ap Ground arc.2,
      )
  column_number (Slack f) known = (
    pairs_kept t keeps + (arcs_in t keeps starts + f),
    omega (arith, all_long, known),
    behind_arcs f ∙ get_or_append_left (list_below Slack (fleets_in t)) (map Room (all_parks t)) (Slack 0) f (omega (arith, known, slacks_long)) ∙ get_or-list_below Slack (fleets_in t) f (Slack 0) known,
  )
  column_number (Room p) known =
      let park = park_among t p known in (
        pairs_kept t keeps + (arcs_in t keeps starts + (fleets_in t + park.0)),
        omega (arith, all_long, park.1, parks_are t),
        behind_arcs (fleets_in t + park.0)
            ∙ at_right_of (list_below Slack (fleets_in t)) (map Room (all_parks t)) (Slack 0) (fleets_in t) park.0 slacks_long
            ∙ get_or-map Room (all_parks t) park.0 p (Slack 0) park.1
            ∙ ap Room park.2,
      )
