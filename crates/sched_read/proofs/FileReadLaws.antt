-- Files read in one way at most, or have one first fault at most, and not both.
use mathlib.Core.Bool.{false≢true}
use Rattle.std.proofs.Common.{◌≡◌, ◌⊎◌, ℕ, Bool, true, false, List, refl, sym, subst, ◌∙◌, inl, inr}
use Rattle.csv_fields.specs.Record.{records_of}
use Rattle.fleet_model.specs.declared.options.TableOptions.{TableOptions}
use Rattle.fleet_model.specs.declared.refusals.TableFile.{TableFile}
use Rattle.fleet_model.specs.declared.refusals.TableFile.TheVariants as file
use Rattle.fleet_model.specs.declared.tables.Tables.{Tables}
use Rattle.sched_read.specs.optional_legs.Adding.{ReadsOptional}
use Rattle.sched_read.specs.optional_legs.Optional.{OptionalBad}
use Rattle.sched_read.proofs.optional_legs.ReadLaws as skips
use Rattle.sched_read.specs.retime_windows.Times.{ReadsWindows}
use Rattle.sched_read.specs.retime_windows.Windows.{WindowsBad}
use Rattle.sched_read.proofs.retime_windows.ReadLaws as windows
use Rattle.sched_read.specs.Laws.{SameFault}
use Rattle.sched_read.specs.Reading.{BadAt, Reads}
use Rattle.sched_read.proofs.ReadEnds as ends
use Rattle.sched_read.proofs.ReadLaws as five
use Rattle.sched_read.specs.Files.{AllBytes, FilesBad, FilesRead, MovedRead, WhereAsked}
use Rattle.sched_read.specs.FileLaws.{HaveFirstFault, OneFirstFault, OneReading, ReadAsTables, ReadOrFault, ReadOrFaultNotBoth}

-- a step that reads in one way at most, whether it is asked for or not
step_same : (asked : Bool) (reads : Tables → List ℕ → Tables → Type 0) → ((t u v : Tables) (bytes : List ℕ) → reads t bytes u → reads t bytes v → u ≡ v)
    → (t s u v : Tables) (bytes : List ℕ) → t ≡ s → WhereAsked asked reads t bytes u → WhereAsked asked reads s bytes v → u ≡ v
step_same true reads one t s u v bytes same a b = one s u v bytes (subst (λ x. reads x bytes u) same a) b
step_same false reads one t s u v bytes same a b = a ∙ same ∙ sym b

moved_same : (bytes : AllBytes) (options : TableOptions) (t u : Tables) → MovedRead bytes options t → MovedRead bytes options u → t ≡ u
moved_same bytes options t u a b =
    step_same options.windows ReadsWindows windows.one_reading a.first b.first t u bytes.windows (five.one_reading bytes.five options.settings a.first b.first a.five b.five) a.windows b.windows

pub one_reading : OneReading
one_reading bytes options t u a b =
    step_same options.optional ReadsOptional skips.one_reading a.moved b.moved t u bytes.optional (moved_same bytes options a.moved b.moved a.before b.before) a.optional b.optional

-- what is asked for was read
asked_for : (asked : Bool) (reads : Tables → List ℕ → Tables → Type 0) (t u : Tables) (bytes : List ℕ) → asked ≡ true → WhereAsked asked reads t bytes u → reads t bytes u
asked_for true reads t u bytes is read = read
asked_for false reads t u bytes is read = absurd (false≢true is)

-- files that read have no fault
no_window_fault : (bytes : AllBytes) (options : TableOptions) (t : Tables) (row kind : ℕ) → MovedRead bytes options t → FilesBad bytes options file.Windows row kind → ⊥
no_window_fault bytes options t row kind read (asked, first, reads, bad) =
    let same = five.one_reading bytes.five options.settings read.first first read.five reads in
    windows.not_both first bytes.windows (record { tables = t; reads = subst (λ x. ReadsWindows x bytes.windows t) same (asked_for options.windows ReadsWindows read.first t bytes.windows asked read.windows) })
    (record { row = row; kind = kind; bad = bad })

no_fault_before : (bytes : AllBytes) (options : TableOptions) (t : Tables) (at : TableFile) (row kind : ℕ) → Reads bytes.five options.settings t → BadAt bytes.five options.settings at row kind → ⊥
no_fault_before bytes options t at row kind = five.reads_no_fault bytes.five options.settings t at row kind

pub no_fault : (bytes : AllBytes) (options : TableOptions) (t : Tables) (at : TableFile) (row kind : ℕ) → FilesRead bytes options t → FilesBad bytes options at row kind → ⊥
no_fault bytes options t file.Stations row kind read bad = no_fault_before bytes options read.before.first file.Stations row kind read.before.five bad
no_fault bytes options t file.Fleets row kind read bad = no_fault_before bytes options read.before.first file.Fleets row kind read.before.five bad
no_fault bytes options t file.Legs row kind read bad = no_fault_before bytes options read.before.first file.Legs row kind read.before.five bad
no_fault bytes options t file.Costs row kind read bad = no_fault_before bytes options read.before.first file.Costs row kind read.before.five bad
no_fault bytes options t file.Throughs row kind read bad = no_fault_before bytes options read.before.first file.Throughs row kind read.before.five bad
no_fault bytes options t file.Windows row kind read bad = no_window_fault bytes options read.moved row kind read.before bad
no_fault bytes options t file.Optional row kind read (asked, moved, before, bad) =
    let same = moved_same bytes options read.moved moved read.before before in
    skips.not_both moved bytes.optional (record { tables = t; reads = subst (λ x. ReadsOptional x bytes.optional t) same (asked_for options.optional ReadsOptional read.moved t bytes.optional asked read.optional) })
    (record { row = row; kind = kind; bad = bad })
no_fault bytes options t file.Tails row kind read bad = bad

pub not_both : ReadOrFaultNotBoth
not_both bytes options read fault = no_fault bytes options read.tables fault.file fault.row fault.kind read.reads fault.bad

-- ---- files have one first fault at most
same_fault : (at : TableFile) (row other kind other_kind : ℕ) → (row ≡ other) × (kind ≡ other_kind) → SameFault at at row other kind other_kind
same_fault at row other kind other_kind same = record { file_is = refl; row_is = same.0; kind_is = same.1 }

module _ (bytes : AllBytes) (options : TableOptions) where
  -- a first fault of the five files is the only first fault
  first_five : (at again : TableFile) (row other kind other_kind : ℕ) → BadAt bytes.five options.settings at row kind → FilesBad bytes options again other other_kind → SameFault at again row other kind other_kind
  first_five at file.Stations row other kind other_kind bad found = five.one_first_fault bytes.five options.settings at file.Stations row other kind other_kind bad found
  first_five at file.Fleets row other kind other_kind bad found = five.one_first_fault bytes.five options.settings at file.Fleets row other kind other_kind bad found
  first_five at file.Legs row other kind other_kind bad found = five.one_first_fault bytes.five options.settings at file.Legs row other kind other_kind bad found
  first_five at file.Costs row other kind other_kind bad found = five.one_first_fault bytes.five options.settings at file.Costs row other kind other_kind bad found
  first_five at file.Throughs row other kind other_kind bad found = five.one_first_fault bytes.five options.settings at file.Throughs row other kind other_kind bad found
  first_five at file.Windows row other kind other_kind bad (asked, first, reads, found) = absurd (no_fault_before bytes options first at row kind reads bad)
  first_five at file.Optional row other kind other_kind bad (asked, moved, before, found) = absurd (no_fault_before bytes options before.first at row kind before.five bad)
  first_five at file.Tails row other kind other_kind bad found = absurd found

  first_window : (again : TableFile) (row other kind other_kind : ℕ) → FilesBad bytes options file.Windows row kind → FilesBad bytes options again other other_kind → SameFault file.Windows again row other kind other_kind
  first_window file.Stations row other kind other_kind (asked, first, reads, bad) found = absurd (no_fault_before bytes options first file.Stations other other_kind reads found)
  first_window file.Fleets row other kind other_kind (asked, first, reads, bad) found = absurd (no_fault_before bytes options first file.Fleets other other_kind reads found)
  first_window file.Legs row other kind other_kind (asked, first, reads, bad) found = absurd (no_fault_before bytes options first file.Legs other other_kind reads found)
  first_window file.Costs row other kind other_kind (asked, first, reads, bad) found = absurd (no_fault_before bytes options first file.Costs other other_kind reads found)
  first_window file.Throughs row other kind other_kind (asked, first, reads, bad) found = absurd (no_fault_before bytes options first file.Throughs other other_kind reads found)
  first_window file.Windows row other kind other_kind (asked, first, reads, bad) (again, second, read, found) =
      let same = five.one_reading bytes.five options.settings first second reads read in
      same_fault file.Windows row other kind other_kind
      (windows.one_first_fault second bytes.windows row other kind other_kind (subst (λ t. WindowsBad t (records_of bytes.windows) row kind) same bad) found)
  first_window file.Optional row other kind other_kind bad (asked, moved, before, found) = absurd (no_window_fault bytes options moved row kind before bad)
  first_window file.Tails row other kind other_kind bad found = absurd found

  first_optional : (again : TableFile) (row other kind other_kind : ℕ) → FilesBad bytes options file.Optional row kind → FilesBad bytes options again other other_kind → SameFault file.Optional again row other kind other_kind
  first_optional file.Stations row other kind other_kind (asked, moved, before, bad) found = absurd (no_fault_before bytes options before.first file.Stations other other_kind before.five found)
  first_optional file.Fleets row other kind other_kind (asked, moved, before, bad) found = absurd (no_fault_before bytes options before.first file.Fleets other other_kind before.five found)
  first_optional file.Legs row other kind other_kind (asked, moved, before, bad) found = absurd (no_fault_before bytes options before.first file.Legs other other_kind before.five found)
  first_optional file.Costs row other kind other_kind (asked, moved, before, bad) found = absurd (no_fault_before bytes options before.first file.Costs other other_kind before.five found)
  first_optional file.Throughs row other kind other_kind (asked, moved, before, bad) found = absurd (no_fault_before bytes options before.first file.Throughs other other_kind before.five found)
  first_optional file.Windows row other kind other_kind (asked, moved, before, bad) found = absurd (no_window_fault bytes options moved other other_kind before found)
  first_optional file.Optional row other kind other_kind (asked, moved, before, bad) (again, second, read, found) =
      let same = moved_same bytes options moved second before read in
      same_fault file.Optional row other kind other_kind
      (skips.one_first_fault second bytes.optional row other kind other_kind (subst (λ t. OptionalBad t (records_of bytes.optional) row kind) same bad) found)
  first_optional file.Tails row other kind other_kind bad found = absurd found

pub one_first_fault : OneFirstFault
one_first_fault bytes options file.Stations again row other kind other_kind bad found = first_five bytes options file.Stations again row other kind other_kind bad found
one_first_fault bytes options file.Fleets again row other kind other_kind bad found = first_five bytes options file.Fleets again row other kind other_kind bad found
one_first_fault bytes options file.Legs again row other kind other_kind bad found = first_five bytes options file.Legs again row other kind other_kind bad found
one_first_fault bytes options file.Costs again row other kind other_kind bad found = first_five bytes options file.Costs again row other kind other_kind bad found
one_first_fault bytes options file.Throughs again row other kind other_kind bad found = first_five bytes options file.Throughs again row other kind other_kind bad found
one_first_fault bytes options file.Windows again row other kind other_kind bad found = first_window bytes options again row other kind other_kind bad found
one_first_fault bytes options file.Optional again row other kind other_kind bad found = first_optional bytes options again row other kind other_kind bad found
one_first_fault bytes options file.Tails again row other kind other_kind bad found = absurd bad

-- ---- files read as tables, or they have a first fault
abbrev End : AllBytes → TableOptions → Type 0
End bytes options = ReadAsTables bytes options ⊎ HaveFirstFault bytes options

optional_end : (bytes : AllBytes) (options : TableOptions) (moved : Tables) → MovedRead bytes options moved → (asked : Bool) → options.optional ≡ asked → End bytes options
optional_end bytes options moved before true is = elim (skips.optional_or_fault moved bytes.optional) [
  | inl read ↦ inl (record { tables = read.tables; reads = record { moved = moved; before = before; optional = rw is read.reads } })
  | inr fault ↦ inr (record { file = file.Optional; row = fault.row; kind = fault.kind; bad = (is, moved, before, fault.bad) })
]
optional_end bytes options moved before false is = inl (record { tables = moved; reads = record { moved = moved; before = before; optional = rw is refl } })

windows_end : (bytes : AllBytes) (options : TableOptions) (first : Tables) → Reads bytes.five options.settings first → (asked : Bool) → options.windows ≡ asked → End bytes options
windows_end bytes options first reads true is = elim (windows.windows_or_fault first bytes.windows) [
  | inl read ↦ optional_end bytes options read.tables (record { first = first; five = reads; windows = rw is read.reads }) options.optional refl
  | inr fault ↦ inr (record { file = file.Windows; row = fault.row; kind = fault.kind; bad = (is, first, reads, fault.bad) })
]
windows_end bytes options first reads false is = optional_end bytes options first (record { first = first; five = reads; windows = rw is refl }) options.optional refl

five_bad : (bytes : AllBytes) (options : TableOptions) (at : TableFile) (row kind : ℕ) → BadAt bytes.five options.settings at row kind → FilesBad bytes options at row kind
five_bad bytes options file.Stations row kind bad = bad
five_bad bytes options file.Fleets row kind bad = bad
five_bad bytes options file.Legs row kind bad = bad
five_bad bytes options file.Costs row kind bad = bad
five_bad bytes options file.Throughs row kind bad = bad
five_bad bytes options file.Windows row kind bad = absurd bad
five_bad bytes options file.Optional row kind bad = absurd bad
five_bad bytes options file.Tails row kind bad = absurd bad

pub read_or_fault : ReadOrFault
read_or_fault bytes options fit = elim (ends.read_or_fault bytes.five options.settings fit) [
  | inl read ↦ windows_end bytes options read.tables read.reads options.windows refl
  | inr fault ↦ inr (record { file = fault.file; row = fault.row; kind = fault.kind; bad = five_bad bytes options fault.file fault.row fault.kind fault.bad })
]
