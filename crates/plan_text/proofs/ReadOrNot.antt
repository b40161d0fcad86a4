-- Any records are those of one plan or have one first fault, and not both.
use Rattle.std.proofs.Common.{◌≡◌, ℕ, zero, suc, ◌+◌, ◌<◌, ◌≤◌, List, [], ◌∷◌, ◌≢◌, length, Result, Ok, Err, refl, sym, ap, ◌∙◌, inl, inr, add-one, arith}
use Rattle.std.specs.Prelude.{◌⊎◌, IfOk, MatchResult}
use Rattle.std.proofs.lemmas.Bool.{cases_lt}
use Rattle.std.proofs.lemmas.List.{get_or_default, same_lists}
use Rattle.table_rows.proofs.OneReading.{same_text}
use Rattle.fleet_model.specs.Counts.{choice_at}
use Rattle.fleet_model.specs.Legal.{IsAssignment}
use Rattle.fleet_model.specs.Schedule.{legs_in}
use Rattle.fleet_model.specs.declared.tables.Tables.{Tables}
use Rattle.table_rows.specs.Rows.{Fields, IsUnder, LacksHeader, record_at}
use Rattle.plan_text.specs.Reading.{IsFirstPlanFault, IsFirstRowFault, PlanBad, PlanReads, ReadsOrNot, PlanRowsBad, fault_at, choice_read}
use Rattle.plan_text.specs.declared.faults.PlanError.{PlanError}
use Rattle.plan_text.specs.declared.faults.PlanError.TheVariants as plan
use Rattle.plan_text.specs.declared.faults.TheConstants.{WRONG_COUNT, WRONG_HEADER}
use Rattle.plan_text.specs.Text.{leg_record, leg_records, plan_header}
use Rattle.plan_text.proofs.Records.{leg_record_at, no_fault, pair_reads}
use Rattle.plan_text.proofs.SoFar.{AreRead, ReadSoFar, so_far_all, so_far_bad, so_far_missing, so_far_none, so_far_push}

-- the header stands first or not
HeadedBy : Fields → List Fields → Type 0
HeadedBy header records = ((rows : List Fields) × IsUnder header records rows) ⊎ LacksHeader header records

-- a record is these fields or not
same_fields : (fields others : Fields) → (fields ≡ others) ⊎ (fields ≢ others)
same_fields [] [] = inl refl
same_fields [] (b ∷ others) = inr (λ same. cc same)
same_fields (a ∷ fields) [] = inr (λ same. cc same)
same_fields (a ∷ fields) (b ∷ others) = elim (same_text a b) [
  | inl first ↦ elim (same_fields fields others) [
    | inl rest ↦ inl (rw (first, rest) refl)
    | inr other ↦ inr (λ same. other (cc same))
  ]
  | inr other ↦ inr (λ same. other (cc same))
]

headed : (header : Fields) (records : List Fields) → HeadedBy header records
unfolding HeadedBy
headed header [] = inr (λ rest same. cc same)
headed header (first ∷ rows) = elim (same_fields first header) [
  | inl is ↦ inl (rows, rw is refl)
  | inr other ↦ inr (λ rest same. other (cc same))
]

-- the records before a place read, or there is a first fault
FrontOrBad : Tables → List Fields → ℕ → Type 0
FrontOrBad t rows place = ((a : List ℕ) × ReadSoFar t rows place a) ⊎ ((row : ℕ) × (kind : ℕ) × PlanRowsBad t rows row kind)

one_more : (t : Tables) (rows : List Fields) (place : ℕ) (a : List ℕ) → ReadSoFar t rows place a → place < length rows
    → (o : Result ℕ ℕ) → choice_read t place (record_at rows place) ≡ o → FrontOrBad t rows (place + 1)
unfolding FrontOrBad
one_more t rows place a so_far within (Ok c) read = inl (_, so_far_push t rows place a _ (record_at rows place) c so_far within refl read refl)
one_more t rows place a so_far within (Err kind) read = inr (place + 2, kind, so_far_bad t rows place a (record_at rows place) (place + 2) kind so_far within refl read refl)

front : (t : Tables) (rows : List Fields) (place : ℕ) → place ≤ length rows → FrontOrBad t rows place
unfolding FrontOrBad
front t rows zero within = inl ([], so_far_none t rows [] refl)
front t rows (suc place) within = elim (front t rows place (omega arith)) [
  | inl some ↦ rw (← add-one) (one_more t rows place some.0 some.1 (omega arith) (choice_read t place (record_at rows place)) refl)
  | inr bad ↦ inr bad
]

RowsOrBad : Tables → List Fields → Type 0
RowsOrBad t rows = ((a : List ℕ) × AreRead t rows a) ⊎ ((row : ℕ) × (kind : ℕ) × PlanRowsBad t rows row kind)

rows_or_bad : (t : Tables) (rows : List Fields) → RowsOrBad t rows
unfolding FrontOrBad RowsOrBad
rows_or_bad t rows = elim (front t rows (length rows) (omega arith)) [
  | inl some ↦ elim (cases_lt (length rows) (legs_in t)) [
    | inl missing ↦ inr (length rows + 2, WRONG_COUNT, so_far_missing t rows (length rows) some.0 (length rows + 2) WRONG_COUNT some.1 refl missing refl refl)
    | inr enough ↦ inl (some.0, so_far_all t rows (length rows) some.0 some.1 refl enough)
  ]
  | inr bad ↦ inr bad
]

EitherReads : Tables → List Fields → Type 0
EitherReads t records = ((a : List ℕ) × PlanReads t records a) ⊎ ((row : ℕ) × (kind : ℕ) × PlanBad t records row kind)

either_reads : (t : Tables) (records : List Fields) → EitherReads t records
unfolding EitherReads HeadedBy RowsOrBad
either_reads t records = elim (headed (plan_header t) records) [
  | inl below ↦ elim (rows_or_bad t below.0) [
    | inl read ↦ inl (read.0, record { assignment = read.1.assignment; same = below.1 ∙ ap (λ rows. plan_header t ∷ rows) read.1.same })
    | inr bad ↦ inr (bad.0, bad.1, inr (record { rows = below.0; under = below.1; bad = bad.2 }))
  ]
  | inr lacks ↦ inr (1, WRONG_HEADER, inl (lacks, refl, refl))
]

-- the records below the header are determined
rows_same : (t : Tables) (records rows others : List Fields) → IsUnder (plan_header t) records rows → IsUnder (plan_header t) records others → rows ≡ others
rows_same t records rows others under below = let both : plan_header t ∷ rows ≡ plan_header t ∷ others = sym under ∙ below in cc both

pub not_both : (t : Tables) (records : List Fields) (a : List ℕ) (row kind : ℕ) → PlanReads t records a → ¬ (PlanBad t records row kind)
not_both t records a row kind reads (inl lacks) = lacks.0 (leg_records t a (legs_in t)) reads.same
not_both t records a row kind reads (inr below) =
    let same = rows_same t records below.rows (leg_records t a (legs_in t)) below.under reads.same in
    cc (sym (no_fault t a below.bad.place reads.assignment) ∙ ap (λ rows. fault_at t rows below.bad.place) (sym same) ∙ below.bad.fault)

pub one_plan : (t : Tables) (records : List Fields) (a b : List ℕ) → PlanReads t records a → PlanReads t records b → a ≡ b
one_plan t records a b reads others =
    let same = rows_same t records (leg_records t a (legs_in t)) (leg_records t b (legs_in t)) reads.same others.same in
    let count : length a ≡ length b = omega (arith, reads.assignment.each_leg, others.assignment.each_leg) in
    same_lists a b count (λ k d within.
    (let leg : k < legs_in t = omega (arith, reads.assignment.each_leg) in
    let there : k < length b = omega arith in
    let records_same : leg_record t a k ≡ leg_record t b k =
    sym (leg_record_at t a k [] leg) ∙ ap (λ rows. record_at rows k) same ∙ leg_record_at t b k [] leg in
    let left = pair_reads t k (choice_at a k) leg (reads.assignment.known k leg) in
    let right = pair_reads t k (choice_at b k) leg (others.assignment.known k leg) in
    let choices : choice_at a k ≡ choice_at b k = (let ok = sym left ∙ ap (choice_read t k) records_same ∙ right in cc ok) in
    get_or_default a k d 0 within ∙ choices ∙ get_or_default b k 0 d there))

one_place : (t : Tables) (rows : List Fields) (row kind row' kind' : ℕ) → PlanRowsBad t rows row kind → PlanRowsBad t rows row' kind' → (row ≡ row') × (kind ≡ kind')
one_place t rows row kind row' kind' bad other = elim (cases_lt bad.place other.place) [
  | inl before ↦ absurd (cc (sym (other.before bad.place before) ∙ bad.fault))
  | inr least ↦ elim (cases_lt other.place bad.place) [
    | inl after ↦ absurd (cc (sym (bad.before other.place after) ∙ other.fault))
    | inr most ↦
        (let same : bad.place ≡ other.place = omega arith in
        let kinds = sym bad.fault ∙ ap (fault_at t rows) same ∙ other.fault in
        (omega (arith, bad.number, other.number), cc kinds))
  ]
]

one_fault : (t : Tables) (records : List Fields) (row kind row' kind' : ℕ) → PlanBad t records row kind → PlanBad t records row' kind' → (row ≡ row') × (kind ≡ kind')
one_fault t records row kind row' kind' (inl lacks) (inl again) = (lacks.1 ∙ sym again.1, lacks.2 ∙ sym again.2)
one_fault t records row kind row' kind' (inl lacks) (inr below) = absurd (lacks.0 below.rows below.under)
one_fault t records row kind row' kind' (inr below) (inl lacks) = absurd (lacks.0 below.rows below.under)
one_fault t records row kind row' kind' (inr below) (inr again) =
    let same = rows_same t records below.rows again.rows below.under again.under in
    one_place t again.rows row kind row' kind' (rw same at below.bad) again.bad

pub reads_or_not : (t : Tables) (records : List Fields) → ReadsOrNot t records
unfolding EitherReads
reads_or_not t records = record {
  either = either_reads t records;
  not_both = not_both t records;
  one_plan = one_plan t records;
  one_fault = one_fault t records;
}

-- an answer by which the records read or are at fault has the plan that they read as
pub complete : (t : Tables) (records : List Fields) (answer : Result (List ℕ) PlanError) → MatchResult answer (PlanReads t records) (IsFirstPlanFault t records)
    → (a : List ℕ) → PlanReads t records a → (answer ≡ Ok a) ⊎ (answer ≡ Err plan.NoMemory)
complete t records (Ok b) reads a is = inl (ap (λ x. Ok x) (one_plan t records b a reads is))
complete t records (Err (plan.Fault fault)) bad a is = absurd (not_both t records a fault.row fault.kind is bad)
complete t records (Err plan.NoMemory) free a is = inr refl

-- what the records below the header read as, or their first fault, is that of all
pub below_all : (t : Tables) (records rows : List Fields) (answer : Result (List ℕ) PlanError) → IsUnder (plan_header t) records rows → IfOk answer (IsAssignment t)
    → MatchResult answer (λ a. rows ≡ leg_records t a (legs_in t)) (IsFirstRowFault t rows) → MatchResult answer (PlanReads t records) (IsFirstPlanFault t records)
below_all t records rows (Ok a) under assignment same = record { assignment = assignment; same = under ∙ ap (λ below. plan_header t ∷ below) same }
below_all t records rows (Err (plan.Fault fault)) under assignment bad = inr (record { rows = rows; under = under; bad = bad })
below_all t records rows (Err plan.NoMemory) under assignment free = tt
