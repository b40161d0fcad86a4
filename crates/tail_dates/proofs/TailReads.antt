-- A file of tails reads as one list, or has one first fault, and not both.
use Rattle.std.proofs.Common.{◌≡◌, ◌≢◌, ℕ, true, List, length, ap, arith}
use Rattle.table_rows.proofs.FormReading.{form_bad_same, form_reads_no_fault, form_reads_same}
use Rattle.table_rows.specs.Rows.{Fields}
use Rattle.table_rows.specs.declared.forms.Form.TheVariants as form
use Rattle.fleet_model.specs.declared.tables.Tables.{Tables}
use Rattle.tail_dates.specs.TailTable.{TailsBad, TailsRead, tail_beside, tail_headers, tail_name_of}
use Rattle.tail_dates.specs.declared.tails.TailState.{TailState}

headers_differ : tail_headers form.Old ≢ tail_headers form.New
headers_differ same = let as_long : 3 ≡ 4 = ap length same in omega (arith, as_long)

pub one_list : (t : Tables) (records : List Fields) (one other : List TailState) → TailsRead t records one → TailsRead t records other → one ≡ other
one_list t = form_reads_same tail_name_of (tail_beside t) tail_headers true headers_differ

pub no_fault : (t : Tables) (records : List Fields) (tails : List TailState) (row kind : ℕ) → TailsRead t records tails → TailsBad t records row kind → ⊥
no_fault t = form_reads_no_fault tail_name_of (tail_beside t) tail_headers true headers_differ

pub one_fault : (t : Tables) (records : List Fields) (row other kind other_kind : ℕ) → TailsBad t records row kind → TailsBad t records other other_kind → (row ≡ other) × (kind ≡ other_kind)
one_fault t = form_bad_same tail_name_of (tail_beside t) tail_headers true headers_differ
