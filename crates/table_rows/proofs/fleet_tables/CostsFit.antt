-- Records that read as costs keep what costs keep.
use Rattle.std.proofs.Common.{◌≡◌, ◌&&◌, ℕ, ℤ, false, not, neg_ℤ, List, [], ◌∷◌, length, map, slice_index_or, All, Ok, refl, subst, arith}
use Rattle.std.specs.Prelude.{◌≤ℤ◌}
use Rattle.std.proofs.lemmas.Int.{ints}
use Rattle.std.proofs.lemmas.List.{length-map}
use Rattle.std.specs.Str.{is_utf8}
use Rattle.csv_fields.specs.Name.{name_of}
use Rattle.csv_fields.specs.Number.{whole_of}
use Rattle.fleet_model.specs.declared.limits.TheConstants.{MAX_COST}
use Rattle.fleet_model.specs.declared.parts.Fleet.{Fleet}
use Rattle.fleet_model.specs.declared.parts.Leg.{Leg}
use Rattle.fleet_model.specs.declared.parts.PairCost.{PairCost}
use Rattle.fleet_model.specs.declared.refusals.TheConstants.{DUPLICATE, NOT_TEXT, UNKNOWN_FLEET, UNKNOWN_FLIGHT}
use Rattle.fleet_model.specs.Limits.{AreCosts, IsCostUpTo, IsPairCost, SamePair}
use Rattle.table_rows.specs.Fields.{three_of}
use Rattle.table_rows.specs.Names.{is_among, number_of_name}
use Rattle.table_rows.specs.Rows.{Fields}
use Rattle.table_rows.proofs.Kept.{front_differ, front_each}
use Rattle.table_rows.proofs.ReadParts.{form_ok, known_ok, not_refused, number_within, same_answer, whole_within, width_ok}
use Rattle.table_rows.specs.fleet_tables.Costs.{CostsRead, cost_key, cost_read, flight_of}
use Rattle.table_rows.specs.fleet_tables.Fleets.{fleet_name_of}

-- what a record that reads as a cost below others shows
record IsNewCost (flights fleets earlier : List (List ℕ)) (entry : PairCost) : Type 0 where
  fits : IsPairCost (length flights) (length fleets) entry
  named : IsCostUpTo 1 entry.cost
  fresh : is_among (cost_key entry) earlier ≡ false

-- a cost that a table names
within_twice : (cost : ℤ) → neg_ℤ MAX_COST ≤ℤ cost → cost ≤ℤ MAX_COST → IsCostUpTo 2 cost
within_twice cost least most = record { no_less = omega (arith, ints, least); no_more = omega (arith, ints, most) }

within_once : (cost : ℤ) → neg_ℤ MAX_COST ≤ℤ cost → cost ≤ℤ MAX_COST → IsCostUpTo 1 cost
within_once cost least most = record { no_less = omega (arith, ints, least); no_more = omega (arith, ints, most) }

new_cost : (flights fleets earlier : List (List ℕ)) (fields : Fields) (entry : PairCost) → cost_read flights fleets earlier fields ≡ Ok entry → IsNewCost flights fleets earlier entry
unfolding cost_read
new_cost flights fleets earlier fields entry reads =
    let wide = width_ok (three_of fields) _ entry reads in
    let text = not_refused (not (is_utf8 wide.0.0 && is_utf8 wide.0.1 && is_utf8 wide.0.2)) NOT_TEXT _ entry wide.2 in
    let flight = form_ok (name_of wide.0.0) _ entry text.1 in
    let fleet = form_ok (name_of wide.0.1) _ entry flight.2 in
    let units = form_ok (whole_of wide.0.2 (neg_ℤ MAX_COST) MAX_COST) _ entry fleet.2 in
    let leg_known = known_ok (number_of_name wide.0.0 flights) UNKNOWN_FLIGHT _ entry units.2 in
    let fleet_known = known_ok (number_of_name wide.0.1 fleets) UNKNOWN_FLEET _ entry leg_known.2 in
    let fresh = not_refused (is_among (leg_known.0 ∷ fleet_known.0 ∷ []) earlier) DUPLICATE _ entry fleet_known.2 in
    let made : PairCost = record { leg = leg_known.0; fleet = fleet_known.0; cost = units.0 } in
    let same = same_answer made entry fresh.1 in
    let in_range = whole_within wide.0.2 (neg_ℤ MAX_COST) MAX_COST units.0 units.1 in
    record {
      fits = subst (IsPairCost (length flights) (length fleets)) same (record {
        leg = number_within wide.0.0 flights leg_known.0 leg_known.1;
        fleet = number_within wide.0.1 fleets fleet_known.0 fleet_known.1;
        cost = within_twice units.0 in_range.0 in_range.1;
      });
      named = subst (λ (e : PairCost). IsCostUpTo 1 e.cost) same (within_once units.0 in_range.0 in_range.1);
      fresh = subst (λ (e : PairCost). is_among (cost_key e) earlier ≡ false) same fresh.0;
    }

pairs_equal : (a b : PairCost) → SamePair a b → cost_key a ≡ cost_key b
pairs_equal a b same = rw (same.leg, same.fleet) refl

by_names : (flights fleets : List (List ℕ)) (records : List Fields) (costs : List PairCost) → CostsRead flights fleets records costs → AreCosts (length flights) (length fleets) costs
by_names flights fleets records costs reads =
    let read = cost_read flights fleets in
    let differ = front_differ cost_key read (λ e f s r. (new_cost flights fleets e f s r).fresh) reads.rest costs reads.rows.reads in
    record {
      each = front_each cost_key read (IsPairCost (length flights) (length fleets)) (λ e f s r. (new_cost flights fleets e f s r).fits) reads.rest costs reads.rows.reads;
      differ = λ i j d order within same. differ i j d order within (pairs_equal (slice_index_or costs i d) (slice_index_or costs j d) same);
    }

pub costs_keep : (legs : List Leg) (fleets : List Fleet) (records : List Fields) (costs : List PairCost) → CostsRead (map flight_of legs) (map fleet_name_of fleets) records costs
    → AreCosts (length legs) (length fleets) costs
costs_keep legs fleets records costs reads =
    subst (λ n. AreCosts (length legs) n costs) (length-map fleets fleet_name_of)
    (subst (λ n. AreCosts n (length (map fleet_name_of fleets)) costs) (length-map legs flight_of) (by_names (map flight_of legs) (map fleet_name_of fleets) records costs reads))

-- costs that were read are such as a table names
pub costs_named : (flights fleets : List (List ℕ)) (records : List Fields) (costs : List PairCost) → CostsRead flights fleets records costs → All (λ entry. IsCostUpTo 1 entry.cost) costs
costs_named flights fleets records costs reads =
    front_each cost_key (cost_read flights fleets) (λ entry. IsCostUpTo 1 entry.cost) (λ e f s r. (new_cost flights fleets e f s r).named) reads.rest costs reads.rows.reads
