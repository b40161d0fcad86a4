-- A subproblem has one network.
use Rattle.std.proofs.Common.{◌≡◌, ℕ, zero, suc, ◌<◌, List, ◌++◌, length, map, is_none, refl, ◌∙◌, ap, ◌+◌, arith}
use Rattle.fleet_model.specs.declared.tables.Tables.{Tables}
use Rattle.fleet_model.specs.Kept.{Domains, pairs_kept}
use Rattle.fleet_model.specs.Schedule.{fleets_in, legs_in, stations_in}
use Rattle.node_aggregate.proofs.OneList.{one_list}
use Rattle.lp_rows.specs.declared.kinds.Line.TheVariants.{Balance, Count, Cover, Parking}
use Rattle.sums.specs.Below.{count_below, sum_below}
use Rattle.sums.specs.Places.{list_below}
use Rattle.sums.proofs.Sums.{sum_below-agree}
use Rattle.node_aggregate.specs.Moments.{moment_of}
use Rattle.lp_rows.specs.Points.{arcs_at, arcs_in, park_count}
use Rattle.lp_rows.proofs.ColumnPlaces.{all_long}
use Rattle.lp_rows.specs.Layout.{IsNetwork, Starts, all_nodes, all_parks, arc_stays, concat_below, node_of_place, nodes_at, nodes_of_fleet, program_columns, program_lines}

-- ---- networks
concat_same : {X : Type 0} (g h : ℕ → List X) (n : ℕ) → ((k : ℕ) → k < n → g k ≡ h k) → concat_below g n ≡ concat_below h n
concat_same g h zero same = refl
concat_same g h (suc n) same = ap (λ xs. xs ++ g n) (concat_same g h n (λ k below. same k (omega arith))) ∙ ap (λ xs. concat_below h n ++ xs) (same n (omega arith))

module _ (t : Tables) (keeps : Domains) (starts other : Starts) (network : IsNetwork t keeps starts) (second : IsNetwork t keeps other) where
  pub same_starts : (f s : ℕ) → f < fleets_in t → s < stations_in t → starts f s ≡ other f s
  same_starts f s known within = one_list t keeps f s (starts f s) (other f s) (network.each f s known within) (second.each f s known within)

  pub same_nodes : all_nodes t starts ≡ all_nodes t other
  same_nodes =
      concat_same (nodes_of_fleet t starts) (nodes_of_fleet t other) (fleets_in t)
      (λ f known. concat_same (nodes_at starts f) (nodes_at other f) (stations_in t) (λ s within. ap (λ xs. list_below (node_of_place f s) (length xs)) (same_starts f s known within)))

  pub same_arcs : arcs_in t keeps starts ≡ arcs_in t keeps other
  unfolding arc_stays
  same_arcs = sum_below-agree (λ f. sum_below (arcs_at t keeps starts f) (stations_in t)) (λ f. sum_below (arcs_at t keeps other f) (stations_in t)) (fleets_in t) (record {
    each = λ f known. sum_below-agree (arcs_at t keeps starts f) (arcs_at t keeps other f) (stations_in t) (record {
      each = λ s within. ap (λ xs. count_below (λ k. is_none (moment_of t keeps f s xs k)) (length xs)) (same_starts f s known within);
    });
  })

  pub same_lines : program_lines t starts ≡ program_lines t other
  same_lines = ap (λ ns. list_below Cover (legs_in t) ++ map Balance ns ++ list_below Count (fleets_in t) ++ map Parking (all_parks t)) same_nodes

-- how many columns there are
pub columns_long : (t : Tables) (keeps : Domains) (starts : Starts) → length (program_columns t keeps starts) ≡ pairs_kept t keeps + (arcs_in t keeps starts + (fleets_in t + park_count t))
columns_long t keeps starts = all_long t keeps starts
