-- What a plan's text reads as.
use Rattle.std.specs.Prelude.{◌≡◌, ◌⊎◌, ◌+◌, ◌<◌, ◌&&◌, Bool, true, false, not, nat_le, nat_lt, ℕ, List, bytes_eq, codes, length, slice_get, slice_index_or, Option, Some, None, option_map, Result, Ok, Err, ⊤, if◌then◌else◌}
use Rattle.std.specs.Fmt.{signed_decimal}
use Rattle.std.specs.Result.{result_err}
use Rattle.std.specs.Str.{is_utf8}
use Rattle.fleet_model.specs.Legal.{IsAssignment}
use Rattle.sums.specs.Places.{first_below}
use Rattle.fleet_model.specs.Schedule.{choices_in, leg_of, leg_on, legs_in, own_shift}
use Rattle.fleet_model.specs.declared.shifts.Shift.{Shift}
use Rattle.fleet_model.specs.declared.tables.Tables.{Tables}
use Rattle.plan_text.specs.Text.{fleet_text, plan_header, plan_records, shift_text}
use Rattle.plan_text.specs.declared.faults.PlanError.{PlanError}
use Rattle.plan_text.specs.declared.faults.PlanError.TheVariants as plan
use Rattle.plan_text.specs.declared.faults.TheConstants.{UNKNOWN_CHOICE, WRONG_COUNT, WRONG_FIELDS, WRONG_FLIGHT, WRONG_HEADER}
use Rattle.table_rows.specs.Fields.{refused_where, three_of, two_of}
use Rattle.table_rows.specs.Rows.{Fields, IsUnder, LacksHeader}
use Rattle.table_rows.specs.declared.faults.RecordError.{RecordError}
use Rattle.table_rows.specs.declared.faults.RecordError.TheVariants as refused

-- three fields, where they are UTF-8
abbrev pub where_texts : Option (List ℕ × List ℕ × List ℕ) → Option (List ℕ × List ℕ × List ℕ)
where_texts (Some (a, b, c)) = if is_utf8 a && is_utf8 b && is_utf8 c then Some (a, b, c) else None
where_texts None = None

-- the texts of a record: its flight, its fleet, and its shift, which is 0 where records have two fields
abbrev pub texts_in : Bool → Fields → Option (List ℕ × List ℕ × List ℕ)
texts_in true fields = where_texts (three_of fields)
texts_in false fields = where_texts (option_map (λ f. (f.0, f.1, codes "0")) (two_of fields))

-- what is there goes on, and where nothing is there the record has this kind
abbrev pub present : {A B : Type 0} → Option A → ℕ → (A → Result B ℕ) → Result B ℕ
present (Some x) kind read = read x
present None kind read = Err kind

-- the leg's choice that has these texts
abbrev pub has_texts : Tables → ℕ → List ℕ → List ℕ → ℕ → Bool
has_texts t l fleet shift c = bytes_eq fleet (fleet_text t (leg_on l c)) && bytes_eq shift (shift_text t (leg_on l c))

unfoldable pub choice_with : Tables → ℕ → List ℕ → List ℕ → Option ℕ
choice_with t l fleet shift = first_below (λ c. if has_texts t l fleet shift c then Some c else None) (choices_in t l)

-- the first of a leg's times whose minutes are written so
abbrev pub has_minutes : List Shift → List ℕ → ℕ → Bool
has_minutes shifts text k = bytes_eq text (signed_decimal (slice_index_or shifts k (own_shift 0)).minutes)

unfoldable pub slot_with : List Shift → List ℕ → Option ℕ
slot_with shifts text = first_below (λ k. if has_minutes shifts text k then Some k else None) (length shifts)

-- a record at the place of a leg read as a choice of the leg, or the least kind of its faults; beyond the legs, its
-- only fault is to be there
unfoldable pub choice_read : Tables → ℕ → Fields → Result ℕ ℕ
choice_read t l fields =
    refused_where (nat_le (legs_in t) l) WRONG_COUNT
    (present (texts_in t.windows fields) WRONG_FIELDS (λ (flight, fleet, shift).
    refused_where (not (bytes_eq flight (leg_of t l).flight)) WRONG_FLIGHT
    (present (choice_with t l fleet shift) UNKNOWN_CHOICE Ok)))

-- what is wrong with the record at a place, or with there being none
abbrev pub fault_of : Tables → ℕ → Option Fields → Option ℕ
fault_of t l (Some fields) = result_err (choice_read t l fields)
fault_of t l None = if nat_lt l (legs_in t) then Some WRONG_COUNT else None

abbrev pub fault_at : Tables → List Fields → ℕ → Option ℕ
fault_at t rows l = fault_of t l (slice_get rows l)

-- the records are those of the text of a plan
pub record PlanReads (t : Tables) (records : List Fields) (a : List ℕ) : Type 0 where
  pub assignment : IsAssignment t a
  pub same : records ≡ plan_records t a

-- the first place below the header at which something is wrong; the header is record 1
pub record PlanRowsBad (t : Tables) (rows : List Fields) (row kind : ℕ) : Type 0 where
  pub place : ℕ
  pub before : (l : ℕ) → l < place → fault_at t rows l ≡ None
  pub fault : fault_at t rows place ≡ Some kind
  pub number : row ≡ place + 2

pub record PlanBadBelowHeader (t : Tables) (records : List Fields) (row kind : ℕ) : Type 0 where
  pub rows : List Fields
  pub under : IsUnder (plan_header t) records rows
  pub bad : PlanRowsBad t rows row kind

-- the first fault of a plan's records
abbrev pub PlanBad : Tables → List Fields → ℕ → ℕ → Type 0
PlanBad t records row kind = (LacksHeader (plan_header t) records × (row ≡ 1) × (kind ≡ WRONG_HEADER)) ⊎ PlanBadBelowHeader t records row kind

-- the error is the first fault of the records, unless memory ran out
abbrev pub IsFirstPlanFault : Tables → List Fields → PlanError → Type 0
IsFirstPlanFault t records (plan.Fault fault) = PlanBad t records fault.row fault.kind
IsFirstPlanFault t records plan.NoMemory = ⊤

-- the same of the records below the header
abbrev pub IsFirstRowFault : Tables → List Fields → PlanError → Type 0
IsFirstRowFault t rows (plan.Fault fault) = PlanRowsBad t rows fault.row fault.kind
IsFirstRowFault t rows plan.NoMemory = ⊤

-- the refusal for a fault of the record at a place below the header, counted from 0
abbrev pub plan_refusal_at : ℕ → RecordError → PlanError
plan_refusal_at place (refused.Bad kind) = plan.Fault (record { row = place + 2; kind = kind })
plan_refusal_at place refused.NoMemory = plan.NoMemory

-- any records are those of one plan or have one first fault, and not both
pub record ReadsOrNot (t : Tables) (records : List Fields) : Type 0 where
  pub either : ((a : List ℕ) × PlanReads t records a) ⊎ ((row : ℕ) × (kind : ℕ) × PlanBad t records row kind)
  pub not_both : (a : List ℕ) (row kind : ℕ) → PlanReads t records a → ¬ (PlanBad t records row kind)
  pub one_plan : (a b : List ℕ) → PlanReads t records a → PlanReads t records b → a ≡ b
  pub one_fault : (row kind row' kind' : ℕ) → PlanBad t records row kind → PlanBad t records row' kind' → (row ≡ row') × (kind ≡ kind')
