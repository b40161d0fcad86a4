-- What a file of costs reads as.
use Rattle.std.specs.Prelude.{ℕ, neg_ℤ, not, ◌&&◌, List, ◌∷◌, [], codes, Result, Ok}
use Rattle.std.specs.Str.{is_utf8}
use Rattle.csv_fields.specs.Name.{name_of}
use Rattle.csv_fields.specs.Number.{whole_of}
use Rattle.fleet_model.specs.declared.limits.TheConstants.{MAX_COST}
use Rattle.fleet_model.specs.declared.parts.Leg.{Leg}
use Rattle.fleet_model.specs.declared.parts.PairCost.{PairCost}
use Rattle.fleet_model.specs.declared.refusals.TheConstants.{DUPLICATE, NOT_TEXT, UNKNOWN_FLEET, UNKNOWN_FLIGHT}
use Rattle.table_rows.specs.Fields.{known, of_width, refused_where, three_of, well_formed}
use Rattle.table_rows.specs.Names.{is_among, number_of_name}
use Rattle.table_rows.specs.Rows.{Fields, TableBad, TableReads}

-- flight,fleet,cost
abbrev pub cost_header : Fields
cost_header = codes "flight" ∷ codes "fleet" ∷ codes "cost" ∷ []

-- the flight of a leg, which no other has
abbrev pub flight_of : Leg → List ℕ
flight_of leg = leg.flight

-- the leg and the fleet of a cost, which no other has
abbrev pub cost_key : PairCost → List ℕ
cost_key entry = entry.leg ∷ entry.fleet ∷ []

-- A record read as a cost, by the flights and the names of the fleets, below costs of these pairs, or the least
-- kind of its faults. A pair of an earlier record has a known flight and a known fleet.
unfoldable pub cost_read : List (List ℕ) → List (List ℕ) → List (List ℕ) → Fields → Result PairCost ℕ
cost_read flights fleets earlier fields =
    of_width (three_of fields) (λ (flight, fleet, cost).
    refused_where (not (is_utf8 flight && is_utf8 fleet && is_utf8 cost)) NOT_TEXT
    (well_formed (name_of flight) (λ _.
    well_formed (name_of fleet) (λ _.
    well_formed (whole_of cost (neg_ℤ MAX_COST) MAX_COST) (λ units.
    known (number_of_name flight flights) UNKNOWN_FLIGHT (λ l.
    known (number_of_name fleet fleets) UNKNOWN_FLEET (λ f.
    refused_where (is_among (l ∷ f ∷ []) earlier) DUPLICATE
    (Ok (record { leg = l; fleet = f; cost = units })))))))))

-- the records of a file are the header and these costs
abbrev pub CostsRead : List (List ℕ) → List (List ℕ) → List Fields → List PairCost → Type 0
CostsRead flights fleets = TableReads cost_key (cost_read flights fleets) cost_header

-- the first fault of a file of costs
abbrev pub CostsBad : List (List ℕ) → List (List ℕ) → List Fields → ℕ → ℕ → Type 0
CostsBad flights fleets = TableBad cost_key (cost_read flights fleets) cost_header
