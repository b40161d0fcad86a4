-- The records below the header, read one after another.
use Rattle.std.proofs.Common.{◌≡◌, ℕ, ◌+◌, ◌<◌, ◌≤◌, List, [], ◌∷◌, ◌++◌, length, None, Ok, Err, refl, sym, ◌∙◌, inl, inr, arith}
use Rattle.std.proofs.Math.Seq.{get_or-append_seam}
use Rattle.std.proofs.lemmas.Bool.{cases_lt, lt-ltb}
use Rattle.std.proofs.lemmas.List.{get_or_append_left, get_or_default, length-append, same_lists}
use Rattle.std.proofs.lemmas.List.FromFn.{length-map-range_with_len}
use Rattle.std.proofs.lemmas.Option.{slice_get-get_or, slice_get_past}
use Rattle.fleet_model.specs.Counts.{choice_at}
use Rattle.fleet_model.specs.Legal.{IsAssignment}
use Rattle.fleet_model.specs.Schedule.{legs_in}
use Rattle.fleet_model.specs.declared.tables.Tables.{Tables}
use Rattle.table_rows.specs.Outcome.{IsFaultOf}
use Rattle.table_rows.specs.Rows.{Fields, record_at}
use Rattle.table_rows.specs.declared.faults.RecordError.{RecordError}
use Rattle.table_rows.specs.declared.faults.RecordError.TheVariants as refused
use Rattle.plan_text.specs.Reading.{IsFirstRowFault, PlanRowsBad, choice_read, fault_at, plan_refusal_at}
use Rattle.plan_text.specs.declared.faults.PlanError.{PlanError}
use Rattle.plan_text.specs.declared.faults.TheConstants.{WRONG_COUNT}
use Rattle.plan_text.specs.Text.{leg_record, leg_records}
use Rattle.plan_text.proofs.Records.{leg_record_at, read_at}

-- the records before a place read as these choices
pub record ReadSoFar (t : Tables) (rows : List Fields) (place : ℕ) (a : List ℕ) : Type 0 where
  pub count : place ≡ length a
  pub few : place ≤ legs_in t
  pub present : place ≤ length rows
  pub each : (l : ℕ) → l < place → choice_read t l (record_at rows l) ≡ Ok (choice_at a l)

-- all records were read
pub record AreRead (t : Tables) (rows : List Fields) (a : List ℕ) : Type 0 where
  pub assignment : IsAssignment t a
  pub same : rows ≡ leg_records t a (legs_in t)

pub so_far_none : (t : Tables) (rows : List Fields) (a : List ℕ) → a ≡ [] → ReadSoFar t rows 0 a
so_far_none t rows a none = rw none (record { count = refl; few = omega arith; present = omega arith; each = λ l below. absurd (omega arith) })

pub so_far_push : (t : Tables) (rows : List Fields) (place : ℕ) (a grown : List ℕ) (fields : Fields) (c : ℕ) → ReadSoFar t rows place a → place < length rows
    → fields ≡ record_at rows place → choice_read t place fields ≡ Ok c → grown ≡ a ++ c ∷ [] → ReadSoFar t rows (place + 1) grown
so_far_push t rows place a grown fields c so_far within row read added = rw added (record {
  count = omega (arith, length-append {A = ℕ}, so_far.count);
  few = omega (arith, (read_at t place fields c read).leg);
  present = omega arith;
  each = λ l below. elim (cases_lt l place) [
    | inl before ↦ (let inside : l < length a = omega (arith, so_far.count) in rw (get_or_append_left a (c ∷ []) 0 l inside) (so_far.each l before))
    | inr last ↦ (let here : l ≡ length a = omega (arith, so_far.count) in
        let at : l ≡ place = omega (arith, so_far.count) in
        rw (here, get_or-append_seam a c [] 0, ← here, at, ← row) read)
  ];
})

-- nothing is wrong before the place
before_place : (t : Tables) (rows : List Fields) (place : ℕ) (a : List ℕ) → ReadSoFar t rows place a → (l : ℕ) → l < place → fault_at t rows l ≡ None
before_place t rows place a so_far l below =
    let there : l < length rows = omega (arith, so_far.present) in
    rw (slice_get-get_or rows l [] there, so_far.each l below) refl

pub so_far_bad : (t : Tables) (rows : List Fields) (place : ℕ) (a : List ℕ) (fields : Fields) (row kind : ℕ) → ReadSoFar t rows place a → place < length rows
    → fields ≡ record_at rows place → choice_read t place fields ≡ Err kind → row ≡ place + 2 → PlanRowsBad t rows row kind
so_far_bad t rows place a fields row kind so_far within is fault number = record {
  place = place;
  before = before_place t rows place a so_far;
  fault = rw (slice_get-get_or rows place [] within, ← is, fault) refl;
  number = number;
}

pub so_far_error : (t : Tables) (rows : List Fields) (place : ℕ) (a : List ℕ) (fields : Fields) (error : RecordError) (answer : PlanError) → ReadSoFar t rows place a → place < length rows
    → fields ≡ record_at rows place → IsFaultOf (choice_read t place fields) error → answer ≡ plan_refusal_at place error → IsFirstRowFault t rows answer
so_far_error t rows place a fields (refused.Bad kind) answer so_far within is fault told = rw told (so_far_bad t rows place a fields (place + 2) kind so_far within is fault refl)
so_far_error t rows place a fields refused.NoMemory answer so_far within is fault told = rw told tt

pub so_far_missing : (t : Tables) (rows : List Fields) (place : ℕ) (a : List ℕ) (row kind : ℕ) → ReadSoFar t rows place a → place ≡ length rows → place < legs_in t
    → row ≡ place + 2 → kind ≡ WRONG_COUNT → PlanRowsBad t rows row kind
so_far_missing t rows place a row kind so_far end missing number is =
    let past : length rows ≤ place = omega arith in
    record {
      place = place;
      before = before_place t rows place a so_far;
      fault = rw (slice_get_past rows place past, lt-ltb place (legs_in t) missing, is) refl;
      number = number;
    }

pub so_far_all : (t : Tables) (rows : List Fields) (place : ℕ) (a : List ℕ) → ReadSoFar t rows place a → place ≡ length rows → legs_in t ≤ place → AreRead t rows a
so_far_all t rows place a so_far end enough =
    let all : place ≡ legs_in t = omega (arith, so_far.few) in
    record {
      assignment = record {
        each_leg = omega (arith, so_far.count);
        known = λ l leg. (read_at t l (record_at rows l) (choice_at a l) (so_far.each l (omega arith))).choice;
      };
      same = same_lists rows (leg_records t a (legs_in t)) (omega (arith, length-map-range_with_len (leg_record t a) 0 (legs_in t)))
          (λ k d within.
          (let leg : k < legs_in t = omega arith in
          let read = read_at t k (record_at rows k) (choice_at a k) (so_far.each k (omega arith)) in
          get_or_default rows k d [] within ∙ read.same ∙ sym (leg_record_at t a k d leg)));
    }
