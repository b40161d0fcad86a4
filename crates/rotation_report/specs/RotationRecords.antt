-- The records of rotations, as `rotation.csv` holds them.
use Rattle.std.specs.Prelude.{ℕ, zero, suc, Bool, true, false, List, [], ◌∷◌, ◌++◌, codes, length, map, slice_index, Option, Some, None}
use Rattle.std.specs.Fmt.{decimal}
use Rattle.std.specs.List.{flat_map}
use Rattle.plan_text.specs.Text.{record_line}
use Rattle.euler_rotation.specs.declared.rotation.Rotation.{Rotation}
use Rattle.euler_rotation.specs.declared.rotation.Rotation.TheVariants as rotation
use Rattle.fleet_model.specs.declared.parts.Connection.{Connection}
use Rattle.fleet_model.specs.declared.tables.Tables.{Tables}
use Rattle.fleet_model.specs.Schedule.{fleet_of, leg_of, station_of}
use Rattle.lines_of_flying.specs.ground_turns.Maps.{turn_after}
use Rattle.lines_of_flying.specs.ground_turns.Nights.{nights_in_turn}
use Rattle.lines_of_flying.specs.declared.ground_turns.nights.Night.{Night}
use Rattle.lines_of_flying.specs.declared.ground_turns.nights.Night.TheVariants as night
use Rattle.lines_of_flying.specs.Lines.{days_of_tour, nights_after}
use Rattle.euler_rotation.specs.FleetRotations.{rotation_of}
use Rattle.euler_rotation.specs.declared.fleet_rotation.FleetRotation.{FleetRotation}

abbrev pub RecordFields : Type 0
RecordFields = List (List ℕ)

-- fleet,round,kind,a,b
abbrev pub rotation_header : RecordFields
rotation_header = codes "fleet" ∷ codes "round" ∷ codes "kind" ∷ codes "a" ∷ codes "b" ∷ []

-- what a record says of a round: its kind, and two fields
pub record Row : Type 0 where
  pub kind : List ℕ
  pub a : List ℕ
  pub b : List ℕ

-- the records of a round of a fleet, by the fleet's name and the round's number
abbrev pub row_record : List ℕ → List ℕ → Row → RecordFields
row_record name number row = name ∷ number ∷ row.kind ∷ row.a ∷ row.b ∷ []

abbrev pub round_records : List ℕ → List ℕ → List Row → List RecordFields
round_records name number rows = map (row_record name number) rows

abbrev pub leg_flight : Tables → ℕ → List ℕ
leg_flight t l = (leg_of t l).flight

-- a through pair, by its flights
abbrev pub pair_row : Tables → Connection → Row
pair_row t pair = record { kind = codes "pair"; a = leg_flight t pair.arriving; b = leg_flight t pair.departing }

-- a leg of a list, by its flight
abbrev pub listed_row : List ℕ → Tables → ℕ → Row
listed_row kind t l = record { kind = kind; a = leg_flight t l; b = codes "0" }

-- a leg of a tour, and how many nights follow it
abbrev pub leg_row : Tables → ℕ → List ℕ → ℕ → Row
leg_row t f tour k = record { kind = codes "leg"; a = leg_flight t (slice_index tour k); b = decimal (nights_after t f tour k) }

abbrev pub yes_no : Bool → List ℕ
yes_no true = codes "yes"
yes_no false = codes "no"

-- where a station maintains, a night there is `yes`, or `short`
abbrev pub short_no : Bool → List ℕ
short_no true = codes "short"
short_no false = codes "no"

-- a night: in a flight or its turn, or at a station that may maintain
abbrev pub night_row : Tables → Night → Row
night_row t night.Aloft = record { kind = codes "night"; a = codes "-"; b = codes "aloft" }
night_row t (night.At s) = record { kind = codes "night"; a = (station_of t s).code; b = yes_no (station_of t s).maintenance }
night_row t (night.Short s) = record { kind = codes "night"; a = (station_of t s).code; b = short_no (station_of t s).maintenance }

-- the first legs of a tour, each with its nights
abbrev pub tour_rows : Tables → ℕ → List ℕ → ℕ → List Row
tour_rows t f tour zero = []
tour_rows t f tour (suc n) = tour_rows t f tour n ++ leg_row t f tour n ∷ map (night_row t) (nights_in_turn t f (turn_after tour n))

-- that there is nothing to say but the kind
abbrev pub bare_row : List ℕ → Row
bare_row kind = record { kind = kind; a = codes "0"; b = codes "0" }

-- that legs are apart, and the legs
abbrev pub apart_rows : Tables → List ℕ → List Row
apart_rows t legs = record { kind = codes "apart"; a = decimal (length legs); b = codes "0" } ∷ map (listed_row (codes "leg") t) legs

-- that the search was given up after so many visits, its order, and the last prefix that it visited
abbrev pub spent_rows : Tables → ℕ → List ℕ → List ℕ → List Row
spent_rows t visits order prefix =
    record { kind = codes "visits"; a = decimal visits; b = decimal (length prefix) }
    ∷ (map (listed_row (codes "order") t) order ++ map (listed_row (codes "leg") t) prefix)

-- a tour: its days and legs, and then its first legs, each with its nights
abbrev pub begun_tour_rows : Tables → ℕ → List ℕ → ℕ → List Row
begun_tour_rows t f tour n = record { kind = codes "tour"; a = decimal (days_of_tour t f tour); b = decimal (length tour) } ∷ tour_rows t f tour n

-- what becomes of a rotation, where the search had so many visits
abbrev pub rotation_rows : Tables → ℕ → ℕ → Rotation → List Row
rotation_rows t f visits rotation.Unused = bare_row (codes "unused") ∷ []
rotation_rows t f visits (rotation.TooFewNights have used) = record { kind = codes "nights"; a = decimal have; b = decimal used } ∷ []
rotation_rows t f visits (rotation.Apart legs) = apart_rows t legs
rotation_rows t f visits (rotation.Tour tour) = begun_tour_rows t f tour (length tour)
rotation_rows t f visits rotation.None = bare_row (codes "none") ∷ []
rotation_rows t f visits (rotation.Spent order prefix) = spent_rows t visits order prefix

-- the second round of a fleet, where its through pairs were given up
abbrev pub second_round : Tables → ℕ → ℕ → Option Rotation → List RecordFields
second_round t f visits None = []
second_round t f visits (Some second) = round_records (fleet_of t f).name (codes "2") (rotation_rows t f visits second)

-- the records of a fleet: the first round with its chosen pairs, and the second
unfoldable pub fleet_records : Tables → ℕ → FleetRotation → ℕ → List RecordFields
fleet_records t visits made f =
    round_records (fleet_of t f).name (codes "1") (map (pair_row t) made.pairs ++ rotation_rows t f visits made.first)
    ++ second_round t f visits made.second

-- those of the first fleets
abbrev pub fleets_records : Tables → ℕ → List FleetRotation → ℕ → List RecordFields
fleets_records t visits rotations zero = []
fleets_records t visits rotations (suc n) = fleets_records t visits rotations n ++ fleet_records t visits (rotation_of rotations n) n

-- the records of rotations: the header, and those of each fleet
abbrev pub rotation_records : Tables → List FleetRotation → ℕ → List RecordFields
rotation_records t rotations visits = rotation_header ∷ fleets_records t visits rotations (length rotations)

-- the text of rotations, found in so many visits of the search at most
unfoldable pub rotation_text : Tables → List FleetRotation → ℕ → List ℕ
rotation_text t rotations visits = flat_map record_line (rotation_records t rotations visits)
