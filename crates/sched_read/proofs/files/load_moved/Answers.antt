use Rattle.std.proofs.Common.{rules}
use Rattle.sched_read.proofs.Steps.{no_windows, windows_asked}
use Rattle.sched_read.specs.Files.{all_bytes}
use Rattle.sched_read.proofs.files.load_moved.Goals as goal

pub returns-then-options : goal.returns-then-options
returns-then-options c =
    windows_asked (all_bytes c.args.texts.now) c.args.options c.in_ok-tables.tables c.add_windows.result c.if-options.true (rw (c.as_slice.ensures, c.as_slice-2.ensures, c.as_slice-3.ensures, c.as_slice-4.ensures, c.as_slice-5.ensures) at c.in_ok-tables.ensures) (rw c.as_slice-then-options.ensures at c.add_windows.ensures)

pub returns : goal.returns
returns c = no_windows (all_bytes c.args.texts.now) c.args.options c.in_ok-tables.tables c.if-options.false (rw (c.as_slice.ensures, c.as_slice-2.ensures, c.as_slice-3.ensures, c.as_slice-4.ensures, c.as_slice-5.ensures) at c.in_ok-tables.ensures)

pub returns-in_err-tables : goal.returns-in_err-tables
returns-in_err-tables c =
    let told = rw (c.as_slice.ensures, c.as_slice-2.ensures, c.as_slice-3.ensures, c.as_slice-4.ensures, c.as_slice-5.ensures) at c.in_err-tables.ensures in
    search rules
