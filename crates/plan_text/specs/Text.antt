-- The text of a plan: its records, and the bytes of their lines.
use Rattle.std.specs.Prelude.{ℕ, Bool, true, false, List, [], ◌∷◌, ◌++◌, codes, map, nat_lt, if◌then◌else◌, ℤ, pos}
use Rattle.std.specs.Fmt.{signed_decimal}
use Rattle.std.specs.List.{flat_map, join_with_byte, range_with_len}
use Rattle.csv.specs.Machine.{line_feed}
use Rattle.csv.specs.Writing.{comma}
use Rattle.fleet_model.specs.Counts.{choice_at}
use Rattle.fleet_model.specs.Schedule.{fleet_by, fleet_of, fleets_in, leg_of, leg_on, legs_in, shift_by}
use Rattle.fleet_model.specs.declared.parts.Pair.{Pair}
use Rattle.fleet_model.specs.declared.tables.Tables.{Tables}
use Rattle.table_rows.specs.Rows.{Fields}

-- the fields of a record: the third is there where legs may have other times than their own
abbrev pub record_of : Bool → List ℕ → List ℕ → List ℕ → Fields
record_of true flight fleet shift = flight ∷ fleet ∷ shift ∷ []
record_of false flight fleet shift = flight ∷ fleet ∷ []

-- flight,fleet or flight,fleet,shift
abbrev pub plan_header : Tables → Fields
plan_header t = record_of t.windows (codes "flight") (codes "fleet") (codes "shift")

-- the fleet by which a pair is flown, by its name, and - where the pair leaves its leg out
abbrev pub fleet_text : Tables → Pair → List ℕ
fleet_text t p = if nat_lt (fleet_by t p) (fleets_in t) then (fleet_of t (fleet_by t p)).name else codes "-"

-- by how many minutes a pair is flown later than at its leg's own time, and 0 where it leaves the leg out
abbrev pub shift_minutes : Tables → Pair → ℤ
shift_minutes t p = if nat_lt (fleet_by t p) (fleets_in t) then (shift_by t p).minutes else pos 0

abbrev pub shift_text : Tables → Pair → List ℕ
shift_text t p = signed_decimal (shift_minutes t p)

-- the record of a leg with one of its choices
abbrev pub pair_record : Tables → ℕ → ℕ → Fields
pair_record t l c = record_of t.windows (leg_of t l).flight (fleet_text t (leg_on l c)) (shift_text t (leg_on l c))

-- the record that a plan has of a leg
abbrev pub leg_record : Tables → List ℕ → ℕ → Fields
leg_record t a l = pair_record t l (choice_at a l)

-- the records of so many legs, from the first on
abbrev pub leg_records : Tables → List ℕ → ℕ → List Fields
leg_records t a legs = map (leg_record t a) (range_with_len 0 legs)

-- the records of a plan: the header, and one for each leg in schedule order
abbrev pub plan_records : Tables → List ℕ → List Fields
plan_records t a = plan_header t ∷ leg_records t a (legs_in t)

-- the line of a record: its fields with commas between them, and a line feed
abbrev pub record_line : Fields → List ℕ
record_line fields = join_with_byte comma fields ++ line_feed ∷ []

-- the lines of records
abbrev pub record_lines : List Fields → List ℕ
record_lines = flat_map record_line

-- the text of a plan
unfoldable pub plan_text : Tables → List ℕ → List ℕ
plan_text t a = record_lines (plan_records t a)
