-- A file reads as windows in one way at most, or has one first fault at most, and not both.
use Rattle.std.proofs.Common.{◌≡◌, List, sym, ap, ◌∙◌, inl, inr}
use Rattle.csv_fields.specs.Record.{records_of}
use Rattle.fleet_model.specs.Schedule.{legs_in}
use Rattle.fleet_model.specs.declared.tables.Tables.{Tables}
use Rattle.fleet_model.proofs.TablesSame.{tables_same}
use Rattle.sums.specs.Places.{list_below}
use Rattle.table_rows.proofs.OneReading.{table_bad_same, table_end_exists, table_reads_no_fault, table_reads_same}
use Rattle.sched_read.specs.retime_windows.Keys.{window_key}
use Rattle.sched_read.specs.retime_windows.Laws.{OneFirstWindowsFault, OneWindowsReading, WindowsOrFault, WindowsOrFaultNotBoth}
use Rattle.sched_read.specs.retime_windows.Times.{HaveWindows, leg_with_windows}
use Rattle.sched_read.specs.retime_windows.Windows.{window_beside, window_header}
use Rattle.sched_read.specs.declared.retime_windows.window.Window.{Window}
use Rattle.sched_read.proofs.retime_windows.TablesWith.{tables_with, they_have}
use Rattle.sched_read.proofs.retime_windows.WindowsFit.{windows_keep}

pub windows_or_fault : WindowsOrFault
windows_or_fault t bytes = elim (table_end_exists window_key (window_beside t) window_header (records_of bytes)) [
  | inl found ↦
      let are = windows_keep t (records_of bytes) found.0 found.1 in
      inl (record { tables = tables_with t found.0 are; reads = record { windows = found.0; read = found.1; have = they_have t found.0 are } })
  | inr fault ↦ inr (record { row = fault.0; kind = fault.1; bad = fault.2 })
]

pub not_both : WindowsOrFaultNotBoth
not_both t bytes reads fault = table_reads_no_fault window_key (window_beside t) window_header (records_of bytes) reads.reads.windows fault.row fault.kind reads.reads.read fault.bad

-- with the same windows the tables are the same
have_same : (t u v : Tables) (windows other : List Window) → windows ≡ other → HaveWindows t windows u → HaveWindows t other v → u ≡ v
have_same t u v windows other same a b =
    let legs : u.legs ≡ v.legs = a.legs ∙ ap (λ (ws : List Window). list_below (leg_with_windows t ws) (legs_in t)) same ∙ sym b.legs in
    tables_same u v (a.stations ∙ sym b.stations) (a.fleets ∙ sym b.fleets) legs (a.costs ∙ sym b.costs) (a.throughs ∙ sym b.throughs) (a.settings ∙ sym b.settings)
    (a.asked ∙ sym b.asked) (a.optional ∙ sym b.optional)

pub one_reading : OneWindowsReading
one_reading t u v bytes a b =
    have_same t u v a.windows b.windows (table_reads_same window_key (window_beside t) window_header (records_of bytes) a.windows b.windows a.read b.read) a.have b.have

pub one_first_fault : OneFirstWindowsFault
one_first_fault t bytes row other kind other_kind bad found = table_bad_same window_key (window_beside t) window_header (records_of bytes) row other kind other_kind bad found
