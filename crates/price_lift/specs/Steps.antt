-- Prices as a list of steps, by the numbers of nodes, and charges as a list, by the numbers of days.
use Rattle.std.specs.Prelude.{◌≡◌, ℕ, zero, suc, ◌+◌, ◌-◌, Bool, true, not, ◌==◌, ◌&&◌, if◌then◌else◌, List, [], ◌∷◌, length, slice_index, slice_index_or, ℤ, pos, neg_ℤ, unsigned_abs}
use Rattle.std.specs.Ordering.{int_eq}
use Rattle.sums.specs.Places.{list_below}
use Rattle.frac_row.specs.Row.{number_of, reduced}
use Rattle.frac_row.specs.declared.row.FracRow.{FracRow}
use Rattle.fleet_model.specs.Kept.{Domains}
use Rattle.fleet_model.specs.Schedule.{fleets_in}
use Rattle.fleet_model.specs.declared.tables.Tables.{Tables}
use Rattle.lp_rows.specs.Layout.{IsNetwork, Starts, all_nodes, all_parks, concat_below, node_of_number, park_of_number}
use Rattle.lp_rows.specs.Outline.{park_in}
use Rattle.lp_rows.specs.declared.kinds.Node.{Node}
use Rattle.lp_rows.specs.declared.kinds.Park.{Park}
use Rattle.lp_rows.specs.declared.outline.Outline.{Outline}
use Rattle.dual_bound.specs.declared.prices.Charge.{Charge}
use Rattle.dual_bound.specs.declared.prices.Prices.{Prices}
use Rattle.dual_bound.specs.declared.prices.PriceStep.{PriceStep}

-- so many values from a place on are 0
unfoldable pub are_zero : (ℕ → ℤ) → ℕ → ℕ → Bool
are_zero value from zero = true
are_zero value from (suc n) = are_zero value from n && (unsigned_abs (value (from + n)) == 0)

-- the value of a node is another than that of the node before; of the first of so many nodes of a fleet at a station,
-- whether any of them is other than 0
unfoldable pub is_node_step : ℕ → (ℕ → ℤ) → ℕ → Node → Bool
is_node_step nodes value k n = if n.place == 0 then not (are_zero value k nodes) else not (int_eq (value k) (value (k - 1)))

-- the step at the start of a node, of those with these starts
abbrev pub node_step : List ℕ → ℤ → Node → PriceStep
node_step starts value n = record { fleet = n.fleet; station = n.station; minute = slice_index starts n.place; value = value }

-- .. where there is one
abbrev pub node_step_where : List ℕ → (ℕ → ℤ) → ℕ → Node → List PriceStep
node_step_where starts value k n = if is_node_step (length starts) value k n then node_step starts (value k) n ∷ [] else []

-- of a node at its fleet and station
abbrev pub step_at_node : Starts → (ℕ → ℤ) → ℕ → Node → List PriceStep
step_at_node starts value k n = node_step_where (starts n.fleet n.station) value k n

abbrev pub steps_at : Tables → Starts → (ℕ → ℤ) → ℕ → List PriceStep
steps_at t starts value k = step_at_node starts value k (node_of_number t starts k)

-- the steps of all nodes
abbrev pub all_steps : Tables → Starts → (ℕ → ℤ) → List PriceStep
all_steps t starts value = concat_below (steps_at t starts value) (length (all_nodes t starts))

-- the charge of a day of a station with a limit, where it isn't 0
abbrev pub charge_where : Park → ℤ → List Charge
charge_where p charge = if unsigned_abs charge == 0 then [] else record { station = p.station; day = p.day; charge = charge } ∷ []

-- .. of a number: the value of the day with the other sign
abbrev pub charges_at : Tables → (ℕ → ℤ) → ℕ → List Charge
charges_at t value k = charge_where (park_of_number t k) (neg_ℤ (value k))

-- the charges of all days
abbrev pub all_charges : Tables → (ℕ → ℤ) → List Charge
all_charges t value = concat_below (charges_at t value) (length (all_parks t))

-- .. of an outline, by the values of all lines with a price
abbrev pub charge_in : Outline → List ℤ → ℕ → List Charge
charge_in o values k = charge_where (park_in o k) (neg_ℤ (slice_index_or values (length o.nodes + o.fleets + k) (pos 0)))

-- the prices of dual values: those of the nodes, then those of the fleets, then those of the days with a limit
abbrev pub prices_by : Tables → Starts → FracRow → Prices
prices_by t starts duals = record {
  scale = duals.den;
  rents = list_below (λ f. neg_ℤ (number_of duals (length (all_nodes t starts) + f))) (fleets_in t);
  steps = all_steps t starts (number_of duals);
  charges = all_charges t (λ k. number_of duals (length (all_nodes t starts) + fleets_in t + k));
}

-- the prices of dual values in lowest terms, by a network of the subproblem
pub record ArePricesBy (t : Tables) (keeps : Domains) (duals : FracRow) (prices : Prices) : Type 0 where
  pub starts : Starts
  pub network : IsNetwork t keeps starts
  pub is : prices ≡ prices_by t starts (reduced duals)
