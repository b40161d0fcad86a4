-- The numbers of rows, by the kinds of their lines and columns.
use Rattle.std.proofs.Common.{◌≡◌, ℕ, zero, suc, ◌-◌, ◌<◌, List, [], ◌∷◌, ◌++◌, length, get_or, map, Contains, pos, ◌*ℤ◌, sym, ◌∙◌, ap, subst, inl, inr, arith}
use Rattle.std.proofs.lemmas.Bool.{cases_lt}
use Rattle.std.proofs.lemmas.List.{get_or-map, get_or_append_left, get_or_default, get_or_push, length-map}
use Rattle.std.proofs.lemmas.List.Elements.{Contains-append_left, Contains-append_right}
use Rattle.sums.specs.Below.{sum_below_ℤ}
use Rattle.sums.proofs.WholeSums.{sum_below_ℤ-same}
use Rattle.fleet_model.specs.declared.tables.Tables.{Tables}
use Rattle.fleet_model.specs.Kept.{Domains}
use Rattle.fleet_model.specs.Schedule.{fleets_in, legs_in, stations_in}
use Rattle.row_store.specs.Problem.{MeetsRows, entry, point_cost}
use Rattle.row_store.specs.declared.problem.Rows.{Rows}
use Rattle.lp_rows.specs.declared.kinds.Node.{Node}
use Rattle.lp_rows.specs.declared.kinds.Park.{Park}
use Rattle.lp_rows.specs.declared.kinds.Column.{Column}
use Rattle.lp_rows.specs.declared.kinds.Column.TheVariants.{Slack}
use Rattle.lp_rows.specs.declared.kinds.Line.{Line}
use Rattle.lp_rows.specs.declared.kinds.Line.TheVariants.{Cover, Balance, Count, Parking}
use Rattle.lp_rows.specs.Entries.{IsLine, IsNode, IsPark, column_cost, entry_of, right_side_of}
use Rattle.sums.specs.Places.{list_below}
use Rattle.sums.proofs.Places.{get_or-list_below, length-list_below}
use Rattle.lp_rows.specs.Layout.{Starts, all_nodes, all_parks, concat_below, node_of_place, nodes_at, nodes_of_fleet, park_at, parking_days, parks_at, program_columns, program_lines}
use Rattle.lp_rows.specs.Points.{column_at}
use Rattle.lp_rows.specs.Program.{AreRows, line_numbers}
use Rattle.lp_rows.proofs.LineSums.{line_sum}
use Rattle.lp_rows.proofs.Rooms.{by_number}
use Rattle.lp_rows.proofs.Totals.{over_columns}

-- ---- which lines there are
among_concat : {X : Type 0} (g : ℕ → List X) (x : X) (n k : ℕ) → k < n → Contains (g k) x → Contains (concat_below g n) x
among_concat g x zero k below here = absurd (omega arith)
among_concat g x (suc n) k below here = elim (cases_lt k n) [
  | inl before ↦ Contains-append_left _ _ _ (among_concat g x n k before here)
  | inr last ↦ let same : k ≡ n = omega arith in Contains-append_right (concat_below g n) (g n) x (subst (λ j. Contains (g j) x) same here)
]

among_list : {X : Type 0} (f : ℕ → X) (n k : ℕ) → k < n → Contains (list_below f n) (f k)
among_list f n k below = (k, omega (arith, below, length-list_below f n), get_or-list_below f n k (f k) below)

among_map : {X Y : Type 0} (f : X → Y) (xs : List X) (x : X) → Contains xs x → Contains (map f xs) (f x)
among_map f xs x here = (here.0, omega (arith, here.1, length-map xs f), get_or-map f xs here.0 x (f x) here.1 ∙ ap f here.2)

pub node_among : (t : Tables) (starts : Starts) (n : Node) → IsNode t starts n → Contains (all_nodes t starts) n
node_among t starts n node =
    among_concat (nodes_of_fleet t starts) n (fleets_in t) n.fleet node.fleet
    (among_concat (nodes_at starts n.fleet) n (stations_in t) n.station node.station (among_list (node_of_place n.fleet n.station) (length (starts n.fleet n.station)) n.place node.place))

pub park_among : (t : Tables) (p : Park) → IsPark t p → Contains (all_parks t) p
park_among t p known =
    among_concat (parks_at t) p (stations_in t) p.station known.station
    (subst (Contains (parks_at t p.station)) (by_number p known.some) (among_list (park_at p.station) (parking_days t p.station) (p.day - 1) (omega (arith, known.some, known.day))))

pub line_among : (t : Tables) (starts : Starts) (line : Line) → IsLine t starts line → Contains (program_lines t starts) line
line_among t starts (Cover l) below = Contains-append_left _ _ _ (Contains-append_left _ _ _ (Contains-append_left _ _ _ (among_list Cover (legs_in t) l below)))
line_among t starts (Balance n) node =
    Contains-append_left _ _ _ (Contains-append_left _ _ _ (Contains-append_right (list_below Cover (legs_in t)) (map Balance (all_nodes t starts)) (Balance n) (among_map Balance (all_nodes t starts) n (node_among t starts n node))))
line_among t starts (Count f) known =
    Contains-append_left _ _ _ (Contains-append_right (list_below Cover (legs_in t) ++ map Balance (all_nodes t starts)) (list_below Count (fleets_in t)) (Count f) (among_list Count (fleets_in t) f known))
line_among t starts (Parking p) known =
    Contains-append_right (list_below Cover (legs_in t) ++ map Balance (all_nodes t starts) ++ list_below Count (fleets_in t)) (map Parking (all_parks t)) (Parking p) (among_map Parking (all_parks t) p (park_among t p known))

-- ---- the numbers
module _ (t : Tables) (keeps : Domains) (starts : Starts) (rows : Rows) (are : AreRows t keeps starts rows) where
  abbrev cols : List Column
  cols = program_columns t keeps starts

  pub line_count : length rows.lines ≡ length (program_lines t starts)
  line_count = ap length are.lines ∙ length-map (program_lines t starts) (line_numbers t starts cols)

  numbers_at : (i : ℕ) → i < length (program_lines t starts) → get_or rows.lines i [] ≡ line_numbers t starts cols (get_or (program_lines t starts) i (Cover 0))
  numbers_at i within = ap (λ ls. get_or ls i []) are.lines ∙ get_or-map (line_numbers t starts cols) (program_lines t starts) i (Cover 0) [] within

  pub number_at_column : (i c : ℕ) → i < length (program_lines t starts) → c < length cols → entry rows i c ≡ entry_of t starts (get_or (program_lines t starts) i (Cover 0)) (column_at cols c)
  number_at_column i c within below =
      let line = get_or (program_lines t starts) i (Cover 0) in
      ap (λ ns. get_or ns c (pos 0)) (numbers_at i within)
      ∙ get_or_append_left (map (entry_of t starts line) cols) (right_side_of t line ∷ []) (pos 0) c (omega (arith, below, length-map cols (entry_of t starts line)))
      ∙ get_or-map (entry_of t starts line) cols c (Slack 0) (pos 0) below

  pub right_side_at : (i : ℕ) → i < length (program_lines t starts) → entry rows i rows.columns ≡ right_side_of t (get_or (program_lines t starts) i (Cover 0))
  right_side_at i within =
      let line = get_or (program_lines t starts) i (Cover 0) in
      ap (λ ns. get_or ns rows.columns (pos 0)) (numbers_at i within)
      ∙ get_or_push (map (entry_of t starts line) cols) (right_side_of t line) (pos 0) rows.columns (length-map cols (entry_of t starts line) ∙ sym are.columns)

  -- a line's sum at a point, by the kinds of columns
  pub sum_at : (x : ℕ → ℕ) (v : Column → ℕ) → ((c : ℕ) → c < length cols → x c ≡ v (column_at cols c)) → (i : ℕ) → i < length (program_lines t starts)
      → sum_below_ℤ (λ c. entry rows i c *ℤ pos (x c)) rows.columns ≡ line_sum t keeps starts v (entry_of t starts (get_or (program_lines t starts) i (Cover 0)))
  sum_at x v same i within =
      let line = get_or (program_lines t starts) i (Cover 0) in
      ap (sum_below_ℤ (λ c. entry rows i c *ℤ pos (x c))) are.columns
      ∙ sum_below_ℤ-same (λ c. entry rows i c *ℤ pos (x c)) (λ c. entry_of t starts line (column_at cols c) *ℤ pos (v (column_at cols c))) (length cols)
      (λ c below. ap (λ e. e *ℤ pos (x c)) (number_at_column i c within below) ∙ ap (λ n. entry_of t starts line (column_at cols c) *ℤ pos n) (same c below))
      ∙ over_columns t keeps starts (λ k. entry_of t starts line k *ℤ pos (v k))

  -- a point meets each line of the tables
  pub meets_line : (q : ℕ) (x : ℕ → ℕ) (v : Column → ℕ) → ((c : ℕ) → c < length cols → x c ≡ v (column_at cols c)) → MeetsRows rows q x → (line : Line) → IsLine t starts line
      → line_sum t keeps starts v (entry_of t starts line) ≡ right_side_of t line *ℤ pos q
  meets_line q x v same meets line known =
      let place = line_among t starts line known in
      let within = place.1 in
      let there : get_or (program_lines t starts) place.0 (Cover 0) ≡ line = get_or_default (program_lines t starts) place.0 (Cover 0) line within ∙ place.2 in
      subst (λ k. line_sum t keeps starts v (entry_of t starts k) ≡ right_side_of t k *ℤ pos q) there
      (sym (sum_at x v same place.0 within) ∙ meets.each place.0 (omega (arith, line_count)) ∙ ap (λ r. r *ℤ pos q) (right_side_at place.0 within))

  -- what a point costs, by the kinds of columns
  pub cost_at : (x : ℕ → ℕ) (v : Column → ℕ) → ((c : ℕ) → c < length cols → x c ≡ v (column_at cols c)) → point_cost rows x ≡ line_sum t keeps starts v (column_cost t)
  cost_at x v same =
      ap (sum_below_ℤ (λ c. get_or rows.costs c (pos 0) *ℤ pos (x c))) are.columns
      ∙ sum_below_ℤ-same (λ c. get_or rows.costs c (pos 0) *ℤ pos (x c)) (λ c. column_cost t (column_at cols c) *ℤ pos (v (column_at cols c))) (length cols)
      (λ c below. ap (λ e. e *ℤ pos (x c)) (ap (λ cs. get_or cs c (pos 0)) are.costs ∙ get_or-map (column_cost t) cols c (Slack 0) (pos 0) below) ∙ ap (λ n. column_cost t (column_at cols c) *ℤ pos n) (same c below))
      ∙ over_columns t keeps starts (λ k. column_cost t k *ℤ pos (v k))
