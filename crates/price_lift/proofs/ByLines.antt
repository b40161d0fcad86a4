-- Prices that are written by the numbers of nodes and fleets say what the lines do.
use Rattle.std.proofs.Common.{◌≡◌, ℕ, ◌+◌, ◌-◌, ◌<◌, List, [], length, get_or, pos, neg_ℤ, sym, ◌∙◌, ap, subst, inl, inr, arith}
use Rattle.std.proofs.lemmas.Bool.{cases_lt}
use Rattle.sums.proofs.Places.{get_or-list_below}
use Rattle.sums.proofs.Naturals.{as_a_sum}
use Rattle.frac_row.specs.Row.{number_of}
use Rattle.frac_row.specs.declared.row.FracRow.{FracRow}
use Rattle.fleet_model.specs.declared.tables.Tables.{Tables}
use Rattle.fleet_model.specs.Kept.{Domains}
use Rattle.fleet_model.specs.Schedule.{fleets_in, legs_in, stations_in}
use Rattle.lp_rows.specs.declared.kinds.Line.TheVariants.{Balance, Count, Cover, Parking}
use Rattle.lp_rows.specs.declared.kinds.Node.{Node}
use Rattle.lp_rows.specs.declared.kinds.Park.{Park}
use Rattle.lp_rows.specs.Entries.{IsPark, is_in_node}
use Rattle.lp_rows.specs.Layout.{IsNetwork, Starts, all_nodes, node_of_place, line_at, node_of_number, park_of_number}
use Rattle.lp_rows.specs.Points.{node_count, park_count}
use Rattle.lp_rows.proofs.Counted.{nodes_are}
use Rattle.price_lift.specs.Duals.{dual_value_in}
use Rattle.price_lift.specs.Prices.{AreByLines}
use Rattle.price_lift.specs.Steps.{prices_by}
use Rattle.lp_rows.proofs.LinePlaces.{balance_there, before, count_there, cover_there, node_number, node_there, none_behind, parking_there}
use Rattle.price_lift.proofs.ChargeLists.{charged, not_charged}
use Rattle.price_lift.proofs.Minutes.{Rise, at_place, nodes_rise}
use Rattle.price_lift.proofs.Networks.{same_lines, same_starts}
use Rattle.price_lift.proofs.Parks.{number_of_park, park_number}
use Rattle.price_lift.proofs.StepPrices.{nowhere, through_node}

-- ---- kinds of lines
cover_balance : (l : ℕ) (n : Node) → Cover l ≡ Balance n → ⊥
cover_balance l n e = cc

cover_count : (l f : ℕ) → Cover l ≡ Count f → ⊥
cover_count l f e = cc

balance_count : (n : Node) (f : ℕ) → Balance n ≡ Count f → ⊥
balance_count n f e = cc

balance_parking : (n : Node) (p : Park) → Balance n ≡ Parking p → ⊥
balance_parking n p e = cc

count_parking : (f : ℕ) (p : Park) → Count f ≡ Parking p → ⊥
count_parking f p e = cc

cover_parking : (l : ℕ) (p : Park) → Cover l ≡ Parking p → ⊥
cover_parking l p e = cc

same_node : (n m : Node) → Balance n ≡ Balance m → n ≡ m
same_node n m e = cc

same_fleet : (f g : ℕ) → Count f ≡ Count g → f ≡ g
same_fleet f g e = cc

same_park : (p q : Park) → Parking p ≡ Parking q → p ≡ q
same_park p q e = cc

module _ (t : Tables) (starts : Starts) where
  -- the number of a balance line, that of a count line, and that of a parking line
  pub record IsOfNode (line : ℕ) (n : Node) : Type 0 where
    pub fleet : n.fleet < fleets_in t
    pub station : n.station < stations_in t
    pub place : n.place < length (starts n.fleet n.station)
    pub is : line ≡ legs_in t + (before t starts n.fleet n.station + n.place)

  pub record IsOfFleet (line f : ℕ) : Type 0 where
    pub known : f < fleets_in t
    pub is : line ≡ legs_in t + (node_count t starts + f)

  pub record IsOfPark (line : ℕ) (p : Park) : Type 0 where
    pub known : IsPark t p
    pub is : line ≡ legs_in t + (node_count t starts + (fleets_in t + number_of_park t p))

  pub of_node : (line : ℕ) (n : Node) → line_at t starts line ≡ Balance n → IsOfNode line n
  of_node line n e = elim (cases_lt line (legs_in t)) [
    | inl cover ↦ absurd (cover_balance line n (sym (cover_there t starts line cover) ∙ e))
    | inr behind ↦ by_rest (line - legs_in t) (as_a_sum line (legs_in t) behind)
  ]
    where
      in_nodes : (k : ℕ) → k < node_count t starts → line ≡ legs_in t + k → IsOfNode line n
      in_nodes k below is =
          let number = node_number t starts k below in
          let same : n ≡ node_of_place number.fleet number.station number.place =
          same_node n (node_of_place number.fleet number.station number.place) (sym e ∙ ap (line_at t starts) is ∙ balance_there t starts k below
          ∙ ap (λ j. Balance (node_of_number t starts j)) number.is ∙ ap Balance (node_there t starts number.fleet number.station number.place (node_of_place 0 0 0) number.known number.within number.below)) in
          subst (IsOfNode line) (sym same) (record { fleet = number.known; station = number.within; place = number.below; is = is ∙ ap (λ j. legs_in t + j) number.is })

      in_parks : (k : ℕ) → line ≡ legs_in t + (node_count t starts + (fleets_in t + k)) → IsOfNode line n
      in_parks k is = elim (cases_lt k (park_count t)) [
        | inl known ↦ absurd (balance_parking n (park_of_number t k) (sym e ∙ ap (line_at t starts) is ∙ parking_there t starts k known))
        | inr past ↦ absurd (cover_balance 0 n (sym (none_behind t starts k past) ∙ ap (line_at t starts) (sym is) ∙ e))
      ]

      in_fleets : (k : ℕ) → line ≡ legs_in t + (node_count t starts + k) → IsOfNode line n
      in_fleets k is = elim (cases_lt k (fleets_in t)) [
        | inl known ↦ absurd (balance_count n k (sym e ∙ ap (line_at t starts) is ∙ count_there t starts k known))
        | inr past ↦ in_parks (k - fleets_in t) (is ∙ ap (λ j. legs_in t + (node_count t starts + j)) (as_a_sum k (fleets_in t) past))
      ]

      by_rest : (k : ℕ) → line ≡ legs_in t + k → IsOfNode line n
      by_rest k is = elim (cases_lt k (node_count t starts)) [
        | inl below ↦ in_nodes k below is
        | inr past ↦ in_fleets (k - node_count t starts) (is ∙ ap (λ j. legs_in t + j) (as_a_sum k (node_count t starts) past))
      ]

  pub of_fleet : (line f : ℕ) → line_at t starts line ≡ Count f → IsOfFleet line f
  of_fleet line f e = elim (cases_lt line (legs_in t)) [
    | inl cover ↦ absurd (cover_count line f (sym (cover_there t starts line cover) ∙ e))
    | inr behind ↦ by_rest (line - legs_in t) (as_a_sum line (legs_in t) behind)
  ]
    where
      in_parks : (k : ℕ) → line ≡ legs_in t + (node_count t starts + (fleets_in t + k)) → IsOfFleet line f
      in_parks k is = elim (cases_lt k (park_count t)) [
        | inl known ↦ absurd (count_parking f (park_of_number t k) (sym e ∙ ap (line_at t starts) is ∙ parking_there t starts k known))
        | inr past ↦ absurd (cover_count 0 f (sym (none_behind t starts k past) ∙ ap (line_at t starts) (sym is) ∙ e))
      ]

      in_fleets : (k : ℕ) → line ≡ legs_in t + (node_count t starts + k) → IsOfFleet line f
      in_fleets k is = elim (cases_lt k (fleets_in t)) [
        | inl known ↦
            let same : k ≡ f = same_fleet k f (sym (count_there t starts k known) ∙ ap (line_at t starts) (sym is) ∙ e) in
            subst (IsOfFleet line) same (record { known = known; is = is })
        | inr past ↦ in_parks (k - fleets_in t) (is ∙ ap (λ j. legs_in t + (node_count t starts + j)) (as_a_sum k (fleets_in t) past))
      ]

      by_rest : (k : ℕ) → line ≡ legs_in t + k → IsOfFleet line f
      by_rest k is = elim (cases_lt k (node_count t starts)) [
        | inl below ↦ absurd (balance_count (node_of_number t starts k) f (sym (balance_there t starts k below) ∙ ap (line_at t starts) (sym is) ∙ e))
        | inr past ↦ in_fleets (k - node_count t starts) (is ∙ ap (λ j. legs_in t + j) (as_a_sum k (node_count t starts) past))
      ]

  pub of_park : (line : ℕ) (p : Park) → line_at t starts line ≡ Parking p → IsOfPark line p
  of_park line p e = elim (cases_lt line (legs_in t)) [
    | inl cover ↦ absurd (cover_parking line p (sym (cover_there t starts line cover) ∙ e))
    | inr behind ↦ by_rest (line - legs_in t) (as_a_sum line (legs_in t) behind)
  ]
    where
      in_parks : (k : ℕ) → line ≡ legs_in t + (node_count t starts + (fleets_in t + k)) → IsOfPark line p
      in_parks k is = elim (cases_lt k (park_count t)) [
        | inl below ↦
            let number = park_number t k below in
            let same : park_of_number t k ≡ p = same_park (park_of_number t k) p (sym (parking_there t starts k below) ∙ ap (line_at t starts) (sym is) ∙ e) in
            subst (IsOfPark line) same (record { known = number.known; is = is ∙ ap (λ j. legs_in t + (node_count t starts + (fleets_in t + j))) (sym number.is) })
        | inr past ↦ absurd (cover_parking 0 p (sym (none_behind t starts k past) ∙ ap (line_at t starts) (sym is) ∙ e))
      ]

      in_fleets : (k : ℕ) → line ≡ legs_in t + (node_count t starts + k) → IsOfPark line p
      in_fleets k is = elim (cases_lt k (fleets_in t)) [
        | inl known ↦ absurd (count_parking k p (sym (count_there t starts k known) ∙ ap (line_at t starts) (sym is) ∙ e))
        | inr past ↦ in_parks (k - fleets_in t) (is ∙ ap (λ j. legs_in t + (node_count t starts + j)) (as_a_sum k (fleets_in t) past))
      ]

      by_rest : (k : ℕ) → line ≡ legs_in t + k → IsOfPark line p
      by_rest k is = elim (cases_lt k (node_count t starts)) [
        | inl below ↦ absurd (balance_parking (node_of_number t starts k) p (sym (balance_there t starts k below) ∙ ap (line_at t starts) (sym is) ∙ e))
        | inr past ↦ in_fleets (k - node_count t starts) (is ∙ ap (λ j. legs_in t + j) (as_a_sum k (node_count t starts) past))
      ]

-- ---- prices by the numbers
value_there : (t : Tables) (duals : FracRow) (line k : ℕ) → line ≡ legs_in t + k → dual_value_in t duals line ≡ number_of duals k
value_there t duals line k is = ap (number_of duals) (omega arith)

no_length : (xs : List ℕ) → xs ≡ [] → length xs ≡ 0
no_length xs e = ap length e

pub are_by_lines : (t : Tables) (keeps : Domains) (starts : Starts) (duals : FracRow) → IsNetwork t keeps starts → AreByLines t starts (dual_value_in t duals) (prices_by t starts duals)
are_by_lines t keeps starts duals network = record {
  balance = λ line minute n e within.
      let at = of_node t starts line n e in
      let rise : Rise (starts n.fleet n.station) = nodes_rise t keeps n.fleet n.station (starts n.fleet n.station) (network.each n.fleet n.station at.fleet at.station) in
      through_node t starts (number_of duals) n.fleet n.station minute at.fleet at.station n.place rise (at_place t (starts n.fleet n.station) minute n.place rise at.place within)
      ∙ sym (value_there t duals line (before t starts n.fleet n.station + n.place) at.is);
  nowhere = λ f s minute known within none. nowhere t starts (number_of duals) f s minute known within (no_length (starts f s) none);
  count = λ line f e.
      let at = of_fleet t starts line f e in
      get_or-list_below (λ g. neg_ℤ (number_of duals (length (all_nodes t starts) + g))) (fleets_in t) f (pos 0) at.known
      ∙ ap (λ n. neg_ℤ (number_of duals (n + f))) (nodes_are t starts)
      ∙ ap neg_ℤ (sym (value_there t duals line (node_count t starts + f) at.is));
  parking = λ line p e.
      let at = of_park t starts line p e in
      charged t (λ k. number_of duals (length (all_nodes t starts) + fleets_in t + k)) p.station p.day at.known
      ∙ ap (λ n. neg_ℤ (number_of duals n)) (in_place (number_of_park t p))
      ∙ ap neg_ℤ (sym (value_there t duals line (node_count t starts + (fleets_in t + number_of_park t p)) at.is));
  uncharged = λ s d none. not_charged t (λ k. number_of duals (length (all_nodes t starts) + fleets_in t + k)) s d none;
}
  where
    in_place : (k : ℕ) → length (all_nodes t starts) + fleets_in t + k ≡ node_count t starts + (fleets_in t + k)
    in_place k = omega (arith, nodes_are t starts)

-- by one network, and so by each
pub by_each_network : (t : Tables) (keeps : Domains) (starts other : Starts) (duals : FracRow) → IsNetwork t keeps starts → IsNetwork t keeps other → AreByLines t other (dual_value_in t duals) (prices_by t starts duals)
by_each_network t keeps starts other duals network second =
    let by = are_by_lines t keeps starts duals network in
    let lines = same_lines t keeps other starts second network in
    record {
      balance = λ line minute n e within.
          let at = of_node t other line n e in
          by.balance line minute n (sym (ap (λ ls. get_or ls line (Cover 0)) lines) ∙ e)
          (ap (λ xs. is_in_node t xs n.place minute) (same_starts t keeps starts other network second n.fleet n.station at.fleet at.station) ∙ within);
      nowhere = λ f s minute known within none. by.nowhere f s minute known within (same_starts t keeps starts other network second f s known within ∙ none);
      count = λ line f e. by.count line f (sym (ap (λ ls. get_or ls line (Cover 0)) lines) ∙ e);
      parking = λ line p e. by.parking line p (sym (ap (λ ls. get_or ls line (Cover 0)) lines) ∙ e);
      uncharged = by.uncharged;
    }
