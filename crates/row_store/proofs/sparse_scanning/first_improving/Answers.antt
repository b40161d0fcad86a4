use Rattle.std.proofs.Common.{◌≤◌, arith, sym, subst}
use Rattle.frac_row.specs.Row.{number_of, width_of}
use Rattle.frac_row.specs.Content.{AreEntries}
use Rattle.row_store.specs.Choice.{is_negative}
use Rattle.row_store.proofs.Scans.{IsScanned, first_where_is, scanned_from, scan_found, scan_none}
use Rattle.row_store.proofs.sparse_scanning.first_improving.Goals as goal

pub first_cheaper-column-requires : goal.first_cheaper-column-requires
first_cheaper-column-requires c =
    let most : c.first_negative-bound.result ≤ c.args.columns = subst (λ n. n ≤ c.args.columns) (sym c.first_negative-bound.ensures) (first_where_is (λ entry. is_negative entry.number) c.args.columns 0 (width_of c.args.phase.now) _ c.entries.ensures.rising).bounded in
    omega (arith, c.requires.phase)

pub returns-then-column-columns : goal.returns-then-column-columns
returns-then-column-columns c =
    let h : IsScanned (number_of c.args.phase.now) (number_of c.args.cost.now) c.args.columns c.first_negative-bound.result c.first_cheaper-column.result =
    scanned_from (number_of c.args.phase.now) (number_of c.args.cost.now) (width_of c.args.phase.now) c.args.columns c.first_negative-bound.result c.first_cheaper-column.result c.entries.result.now c.entries-2.result.now c.entries.ensures.rising (subst (λ w. AreEntries 0 w c.entries-2.result.now) c.requires.cost c.entries-2.ensures.rising) c.entries.ensures.numbers c.entries-2.ensures.numbers c.first_negative-bound.ensures c.first_cheaper-column.ensures in
    scan_found (number_of c.args.phase.now) (number_of c.args.cost.now) c.args.columns c.first_negative-bound.result c.first_cheaper-column.result h (omega arith)

pub returns-else-column-columns : goal.returns-else-column-columns
returns-else-column-columns c =
    let h : IsScanned (number_of c.args.phase.now) (number_of c.args.cost.now) c.args.columns c.first_negative-bound.result c.first_cheaper-column.result =
    scanned_from (number_of c.args.phase.now) (number_of c.args.cost.now) (width_of c.args.phase.now) c.args.columns c.first_negative-bound.result c.first_cheaper-column.result c.entries.result.now c.entries-2.result.now c.entries.ensures.rising (subst (λ w. AreEntries 0 w c.entries-2.result.now) c.requires.cost c.entries-2.ensures.rising) c.entries.ensures.numbers c.entries-2.ensures.numbers c.first_negative-bound.ensures c.first_cheaper-column.ensures in
    scan_none (number_of c.args.phase.now) (number_of c.args.cost.now) c.args.columns c.first_negative-bound.result c.first_cheaper-column.result h (omega arith)
