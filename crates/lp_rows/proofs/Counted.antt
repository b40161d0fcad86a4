-- How many columns and lines there are.
use Rattle.std.proofs.Common.{◌≡◌, ℕ, zero, suc, ◌<◌, Bool, true, false, cond, if◌then◌else◌, List, [], ◌∷◌, ◌++◌, filter, length, map, refl, ◌∙◌, ap, arith, length-append}
use Rattle.std.proofs.lemmas.List.{length-map}
use Rattle.std.proofs.lemmas.List.Elements.{filter-append}
use Rattle.std.proofs.lemmas.List.FromFn.{filter_of_map_range_with_len_more}
use Rattle.std.proofs.Math.Numerals.{suc-eq-add-one}
use Rattle.sums.specs.Below.{count_below, sum_below}
use Rattle.fleet_model.specs.declared.tables.Tables.{Tables}
use Rattle.fleet_model.specs.Kept.{Domains, kept_on, pairs_kept}
use Rattle.fleet_model.specs.Schedule.{choices_in, fleets_in, leg_on, legs_in, stations_in}
use Rattle.lp_rows.specs.declared.kinds.Column.TheVariants.{Flight, Ground, Room, Slack}
use Rattle.sums.specs.Places.{list_below}
use Rattle.lp_rows.specs.Layout.{Starts, all_arcs, all_kept, all_nodes, all_parks, arc_stays, concat_below, node_of_place, nodes_at, nodes_of_fleet, pair_if_kept, pairs_of_leg, park_at, parking_days, parks_at}
use Rattle.lp_rows.specs.Points.{RowsAreCounted, arcs_at, arcs_in, node_count, park_count}
use Rattle.lp_rows.proofs.LineNumbers.{line_count}
use Rattle.lp_rows.proofs.Totals.{lines_long}
use Rattle.sums.proofs.Places.{length-list_below}

pub length-concat : {X : Type 0} (g : ℕ → List X) (count : ℕ → ℕ) (n : ℕ) → ((k : ℕ) → k < n → length (g k) ≡ count k) → length (concat_below g n) ≡ sum_below count n
length-concat g count zero each = refl
length-concat g count (suc n) each = omega (arith, length-append (concat_below g n) (g n), length-concat g count n (λ k below. each k (omega arith)), each n (omega arith))

pub length-one : {X : Type 0} (b : Bool) (x : X) → length (if b then x ∷ [] else []) ≡ (if b then 1 else 0)
length-one true x = refl
length-one false x = refl

pub pairs_are : (t : Tables) (keeps : Domains) → length (all_kept t keeps) ≡ pairs_kept t keeps
pairs_are t keeps =
    length-concat (pairs_of_leg t keeps) (kept_on t keeps) (legs_in t)
    (λ l below. length-concat (pair_if_kept keeps l) (λ c. if keeps (leg_on l c) then 1 else 0) (choices_in t l) (λ c known. length-one (keeps (leg_on l c)) (leg_on l c)))

pub nodes_are : (t : Tables) (starts : Starts) → length (all_nodes t starts) ≡ node_count t starts
nodes_are t starts =
    length-concat (nodes_of_fleet t starts) (λ f. sum_below (λ s. length (starts f s)) (stations_in t)) (fleets_in t)
    (λ f known. length-concat (nodes_at starts f) (λ s. length (starts f s)) (stations_in t) (λ s within. length-list_below (node_of_place f s) (length (starts f s))))

pub parks_are : (t : Tables) → length (all_parks t) ≡ park_count t
parks_are t = length-concat (parks_at t) (parking_days t) (stations_in t) (λ s within. length-list_below (park_at s) (parking_days t s))

-- .. and of their entries that pass a test
filter-concat : {X : Type 0} (p : X → Bool) (g : ℕ → List X) (count : ℕ → ℕ) (n : ℕ) → ((k : ℕ) → k < n → length (filter p (g k)) ≡ count k) → length (filter p (concat_below g n)) ≡ sum_below count n
filter-concat p g count zero each = refl
filter-concat p g count (suc n) each = ap length (filter-append p (concat_below g n) (g n)) ∙ omega (
  arith,
  length-append (filter p (concat_below g n)) (filter p (g n)),
  filter-concat p g count n (λ k below. each k (omega arith)),
  each n (omega arith),
)

filter-list : {X : Type 0} (p : X → Bool) (f : ℕ → X) (n : ℕ) → length (filter p (list_below f n)) ≡ count_below (λ k. p (f k)) n
filter-list p f zero = refl
filter-list p f (suc n) =
    ap (λ k. length (filter p (list_below f k))) (suc-eq-add-one n) ∙ ap length (filter_of_map_range_with_len_more p f 0 n n (omega arith))
    ∙ omega (arith, length-append (filter p (list_below f n)) (cond (p (f n)) (f n ∷ []) []), length-one (p (f n)) (f n), filter-list p f n)

pub arcs_are : (t : Tables) (keeps : Domains) (starts : Starts) → length (all_arcs t keeps starts) ≡ arcs_in t keeps starts
arcs_are t keeps starts =
    filter-concat (arc_stays t keeps starts) (nodes_of_fleet t starts) (λ f. sum_below (arcs_at t keeps starts f) (stations_in t)) (fleets_in t)
    (λ f known. filter-concat (arc_stays t keeps starts) (nodes_at starts f) (arcs_at t keeps starts f) (stations_in t) (λ s within. filter-list (arc_stays t keeps starts) (node_of_place f s) (length (starts f s))))

pub rows_are_counted : RowsAreCounted
rows_are_counted t keeps starts rows are = record {
  columns = are.columns ∙ omega (
    arith,
    length-append (map Flight (all_kept t keeps) ++ map Ground (all_arcs t keeps starts) ++ list_below Slack (fleets_in t)) (map Room (all_parks t)),
    length-append (map Flight (all_kept t keeps) ++ map Ground (all_arcs t keeps starts)) (list_below Slack (fleets_in t)),
    length-append (map Flight (all_kept t keeps)) (map Ground (all_arcs t keeps starts)),
    length-map (all_kept t keeps) Flight,
    length-map (all_arcs t keeps starts) Ground,
    length-map (all_parks t) Room,
    length-list_below Slack (fleets_in t),
    pairs_are t keeps,
    arcs_are t keeps starts,
    parks_are t,
  );
  lines = line_count t keeps starts rows are ∙ omega (arith, lines_long t starts, nodes_are t starts, parks_are t);
}
