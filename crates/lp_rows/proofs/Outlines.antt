-- Where columns and lines stand in an outline, and the lines that are made by it.
use Rattle.std.proofs.Common.{◌≡◌, ℕ, ◌+◌, ◌^◌, ◌<◌, ◌≤◌, false, if◌then◌else◌, List, ◌++◌, filter, length, get_or, map, All, Option, Some, None, is_none, Result, Ok, Err, MatchResult, refl, sym, ◌∙◌, ap, subst, arith, length-append}
use Rattle.std.proofs.lemmas.List.{get_or-map, length-map}
use Rattle.std.specs.Ordering.{nat_cmp}
use Rattle.std.specs.List.Sorted.{IsBinarySearchResult}
use Rattle.sums.specs.Below.{count_below}
use Rattle.sums.specs.Places.{list_below}
use Rattle.sums.proofs.Places.{length-list_below}
use Rattle.fleet_model.specs.declared.tables.Tables.{Tables}
use Rattle.fleet_model.specs.Kept.{Domains}
use Rattle.fleet_model.specs.Schedule.{fleets_in, legs_in}
use Rattle.row_store.specs.declared.problem.Rows.{Rows}
use Rattle.lp_rows.specs.declared.kinds.Column.TheVariants.{Flight, Ground, Room, Slack}
use Rattle.lp_rows.specs.declared.kinds.Line.TheVariants.{Cover, Balance, Count, Parking}
use Rattle.lp_rows.specs.declared.kinds.Node.{Node}
use Rattle.lp_rows.specs.declared.outline.Outline.{Outline}
use Rattle.lp_rows.specs.Entries.{IsColumn, IsLine, column_cost}
use Rattle.lp_rows.specs.Layout.{Starts, all_arcs, all_kept, all_nodes, all_parks, arc_stays, moment_at, node_of_place, park_at, program_columns, program_lines, starts_in}
use Rattle.lp_rows.specs.Outline.{IsOutline, StandsAt, arc_in, balance_line, column_count, columns_in, count_line, ground_column, lines_in, node_in, park_in, parking_line, room_column, slack_column}
use Rattle.lp_rows.specs.Staying.{AreStaying, passing_below, stays_at}
use Rattle.lp_rows.specs.Program.{AreOutlinedRows, AreRows, line_numbers}
use Rattle.lp_rows.proofs.ListPlaces.{in_fourth, in_list_below, in_map, in_second, in_third}
use Rattle.lp_rows.proofs.PassingNumbers.{IsFound, bisected, by_numbers, few_pass, passing_long, placed}
use Rattle.lp_rows.proofs.Totals.{AreFew, columns_are_known, few_lines, few_parts, lines_are_known, lines_long}

module _ (o : Outline) where
  -- ---- columns

  pub ground_stands : (number k place : ℕ) → place ≡ length o.pairs + k → k < length o.arcs → get_or o.arcs k 0 ≡ number → StandsAt (columns_in o) place (arc_in o number)
  ground_stands number k place is below there =
      in_second (map Flight o.pairs) (map (arc_in o) o.arcs) (list_below Slack o.fleets) (map Room o.parks) _ (length o.pairs) k place is (length-map o.pairs Flight)
      (subst (λ n. StandsAt (map (arc_in o) o.arcs) k (arc_in o n)) there (in_map (arc_in o) o.arcs 0 k below))

  -- each number of an arc is that of a node
  pub arc_known : (xs : List ℕ) (ns : List Node) (k : ℕ) → xs ≡ o.arcs → ns ≡ o.nodes → k < length xs → get_or xs k 0 < length ns
  arc_known xs ns k is nodes below =
      let all = ap length is in
      let here = placed (stays_at o.moments) (length o.nodes) k (omega (arith, below, all, ap length o.arcs_stay.staying)) in
      let there : get_or xs k 0 ≡ get_or (passing_below (stays_at o.moments) (length o.nodes)) k 0 = ap (λ ys. get_or ys k 0) (is ∙ o.arcs_stay.staying) in
      omega (arith, here.below, there, ap length nodes)

  -- where the arc of a number stands, by its place among those that stay
  pub record IsArcAt (number place : ℕ) : Type 0 where
    pub column : ground_column o number ≡ Some (length o.pairs + place)
    pub stands : StandsAt (columns_in o) (length o.pairs + place) (arc_in o number)

  pub arc_found : (xs : List ℕ) (number : ℕ) (r : Result ℕ ℕ) → xs ≡ o.arcs → number < length o.nodes → IsBinarySearchResult (λ y. nat_cmp y number) xs r
      → MatchResult r (IsArcAt number) (λ place. ground_column o number ≡ None)
  arc_found xs number r is below found = decide r (bisected (stays_at o.moments) (length o.nodes) number xs r (is ∙ o.arcs_stay.staying) below found)
    where
      decide : (r : Result ℕ ℕ) → MatchResult r (IsFound (stays_at o.moments) number xs) (λ place. stays_at o.moments number ≡ false) → MatchResult r (IsArcAt number) (λ place. ground_column o number ≡ None)
      decide (Ok place) here = record {
        column = ap (λ b. if b then Some (length o.pairs + count_below (stays_at o.moments) number) else None) here.0 ∙ ap (λ k. Some (length o.pairs + k)) (sym here.1);
        stands = ground_stands number place (length o.pairs + place) refl (omega (arith, here.2, ap length is)) (ap (λ ys. get_or ys place 0) (sym is) ∙ here.3);
      }
      decide (Err place) here = ap (λ b. if b then Some (length o.pairs + count_below (stays_at o.moments) number) else None) here

  pub slack_stands : (f place : ℕ) → place ≡ slack_column o f → f < o.fleets → StandsAt (columns_in o) place (Slack f)
  slack_stands f place is below =
      in_third (map Flight o.pairs) (map (arc_in o) o.arcs) (list_below Slack o.fleets) (map Room o.parks) _ (length o.pairs) (length o.arcs) f place is (length-map o.pairs Flight) (length-map o.arcs (arc_in o)) (in_list_below Slack o.fleets f below)

  pub room_stands : (number place : ℕ) → place ≡ room_column o number → number < length o.parks → StandsAt (columns_in o) place (Room (park_in o number))
  room_stands number place is below =
      in_fourth (map Flight o.pairs) (map (arc_in o) o.arcs) (list_below Slack o.fleets) (map Room o.parks) _ (length o.pairs) (length o.arcs) o.fleets number place is (length-map o.pairs Flight) (length-map o.arcs (arc_in o))
      (length-list_below Slack o.fleets) (in_map Room o.parks (park_at 0 0) number below)

  pub all_columns : length (columns_in o) ≡ column_count o
  all_columns = omega (
    arith,
    length-append (map Flight o.pairs ++ map (arc_in o) o.arcs ++ list_below Slack o.fleets) (map Room o.parks),
    length-append (map Flight o.pairs ++ map (arc_in o) o.arcs) (list_below Slack o.fleets),
    length-append (map Flight o.pairs) (map (arc_in o) o.arcs),
    length-map o.pairs Flight,
    length-map o.arcs (arc_in o),
    length-map o.parks Room,
    length-list_below Slack o.fleets,
  )

  -- ---- lines
  pub balance_stands : (number place : ℕ) → place ≡ balance_line o number → number < length o.nodes → StandsAt (lines_in o) place (Balance (node_in o number))
  balance_stands number place is below =
      in_second (list_below Cover o.legs) (map Balance o.nodes) (list_below Count o.fleets) (map Parking o.parks) _ o.legs number place is (length-list_below Cover o.legs) (in_map Balance o.nodes (node_of_place 0 0 0) number below)

  pub count_stands : (f place : ℕ) → place ≡ count_line o f → f < o.fleets → StandsAt (lines_in o) place (Count f)
  count_stands f place is below =
      in_third (list_below Cover o.legs) (map Balance o.nodes) (list_below Count o.fleets) (map Parking o.parks) _ o.legs (length o.nodes) f place is (length-list_below Cover o.legs) (length-map o.nodes Balance) (in_list_below Count o.fleets f below)

  pub parking_stands : (number place : ℕ) → place ≡ parking_line o number → number < length o.parks → StandsAt (lines_in o) place (Parking (park_in o number))
  parking_stands number place is below =
      in_fourth (list_below Cover o.legs) (map Balance o.nodes) (list_below Count o.fleets) (map Parking o.parks) _ o.legs (length o.nodes) o.fleets number place is (length-list_below Cover o.legs) (length-map o.nodes Balance)
      (length-list_below Count o.fleets) (in_map Parking o.parks (park_at 0 0) number below)

-- ---- the arcs that stay
pub are_staying : (h : Node → Option ℕ) (nodes : List Node) (moments : List (Option ℕ)) (arcs : List ℕ) → moments ≡ map h nodes → arcs ≡ passing_below (stays_at moments) (length moments) → AreStaying (length nodes) moments arcs
are_staying h nodes moments arcs are staying =
    let all : length moments ≡ length nodes = ap length are ∙ length-map nodes h in
    record { all = all; staying = staying ∙ ap (passing_below (stays_at moments)) all }

pub few_arcs : (nodes : ℕ) (moments : List (Option ℕ)) (arcs : List ℕ) → AreStaying nodes moments arcs → length arcs ≤ nodes
few_arcs nodes moments arcs stay = omega (arith, ap length stay.staying, passing_long (stays_at moments) nodes, few_pass (stays_at moments) nodes)

-- ---- the lists of a subproblem fit
module _ (t : Tables) (keeps : Domains) (starts : Starts) (few : AreFew t starts) where
  pub columns_fit : length (all_kept t keeps) + length (all_nodes t starts) + fleets_in t + length (all_parks t) < 2 ^ 32
  columns_fit = omega (arith, few_parts t keeps starts few)

  pub moments_fit : (moments : List (Option ℕ)) → moments ≡ map (moment_at t keeps starts) (all_nodes t starts) → length moments < 2 ^ 32
  moments_fit moments are = omega (arith, ap length are, length-map (all_nodes t starts) (moment_at t keeps starts), few_parts t keeps starts few)

  pub lines_fit : legs_in t + length (all_nodes t starts) + fleets_in t + length (all_parks t) < 2 ^ 32
  lines_fit = omega (arith, few_lines t starts few, lines_long t starts)

-- ---- the lines by the outline of a subproblem
module _ (t : Tables) (keeps : Domains) (o : Outline) (is : IsOutline t keeps o) where
  -- the arcs by their numbers
  arcs_are_those : map (arc_in o) o.arcs ≡ map Ground (all_arcs t keeps (starts_in o.network))
  unfolding arc_stays
  arcs_are_those =
      ap (map (arc_in o)) o.arcs_stay.staying
      ∙ by_numbers Ground (arc_stays t keeps (starts_in o.network)) (stays_at o.moments) o.nodes (node_of_place 0 0 0)
      (λ k below. ap (λ ms. is_none (get_or ms k None)) is.moments ∙ ap is_none (get_or-map (moment_at t keeps (starts_in o.network)) o.nodes k (node_of_place 0 0 0) None below))
      ∙ ap (λ ns. map Ground (filter (arc_stays t keeps (starts_in o.network)) ns)) is.over.nodes

  pub columns_are : columns_in o ≡ program_columns t keeps (starts_in o.network)
  columns_are =
      ap (λ ps. map Flight ps ++ map (arc_in o) o.arcs ++ list_below Slack o.fleets ++ map Room o.parks) is.pairs
      ∙ ap (λ gs. map Flight (all_kept t keeps) ++ gs ++ list_below Slack o.fleets ++ map Room o.parks) arcs_are_those
      ∙ ap (λ n. map Flight (all_kept t keeps) ++ map Ground (all_arcs t keeps (starts_in o.network)) ++ list_below Slack n ++ map Room o.parks) is.over.fleets
      ∙ ap (λ ps. map Flight (all_kept t keeps) ++ map Ground (all_arcs t keeps (starts_in o.network)) ++ list_below Slack (fleets_in t) ++ map Room ps) is.over.parks

  pub lines_are : lines_in o ≡ program_lines t (starts_in o.network)
  lines_are =
      ap (λ n. list_below Cover n ++ map Balance o.nodes ++ list_below Count o.fleets ++ map Parking o.parks) is.over.legs
      ∙ ap (λ ns. list_below Cover (legs_in t) ++ map Balance ns ++ list_below Count o.fleets ++ map Parking o.parks) is.over.nodes
      ∙ ap (λ n. list_below Cover (legs_in t) ++ map Balance (all_nodes t (starts_in o.network)) ++ list_below Count n ++ map Parking o.parks) is.over.fleets
      ∙ ap (λ ps. list_below Cover (legs_in t) ++ map Balance (all_nodes t (starts_in o.network)) ++ list_below Count (fleets_in t) ++ map Parking ps) is.over.parks

  pub columns_known : All (IsColumn t (starts_in o.network)) (columns_in o)
  columns_known = subst (All (IsColumn t (starts_in o.network))) (sym columns_are) (columns_are_known t keeps (starts_in o.network))

  pub lines_known : All (IsLine t (starts_in o.network)) (lines_in o)
  lines_known = subst (All (IsLine t (starts_in o.network))) (sym lines_are) (lines_are_known t (starts_in o.network))

  pub are_rows : (rows : Rows) → AreOutlinedRows t o rows → AreRows t keeps (starts_in o.network) rows
  are_rows rows are = record {
    network = is.network;
    columns = are.columns ∙ ap length columns_are;
    lines = are.lines ∙ ap (λ cs. map (line_numbers t (starts_in o.network) cs) (lines_in o)) columns_are ∙ ap (map (line_numbers t (starts_in o.network) (program_columns t keeps (starts_in o.network)))) lines_are;
    costs = are.costs ∙ ap (map (column_cost t)) columns_are;
  }
