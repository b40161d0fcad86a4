use Rattle.std.proofs.Common.{◌≢◌, pos, arith, sym, ◌∙◌, ap, of_z}
use Rattle.std.proofs.lemmas.Int.{ints}
use Rattle.std.proofs.lemmas.Bool.{ne_eqb}
use mir.Syntax.{w128}
use Rattle.frac_row.specs.Row.{number_of}
use Rattle.row_store.specs.Table.{row_at}
use Rattle.row_store.specs.Pivot.{clearing_growth}
use Rattle.row_store.proofs.MappedRows.{read_at}
use Rattle.row_store.proofs.Pivots.{new_row_scaled, new_row_cleared, cleared_same, cleared_combined, growth_other}
use Rattle.row_store.proofs.RowReads.{is_row, has_column, as_wide, is_positive_at}
use Rattle.row_store.proofs.Tables.{no_clearing_growth}
use Rattle.row_store.proofs.changes.changed_row.Goals as goal

pub returns-then-other-row : goal.returns-then-other-row
returns-then-other-row g c =
    c.in_ok-scaled.ensures ∙ new_row_scaled (g.R.TableRow.table c.args.rows.now) c.args.row c.args.column c.args.other (g.R.TableRow.full c.index-rows-row.result) c.if-other-row.true
    (read_at _ c.args.rows.now _ c.args.row c.index-rows-row.result (g.met.R.TableRow.mapped c.args.rows.now) c.requires.row c.index-rows-row.is ∙ ap (row_at (g.R.TableRow.table c.args.rows.now)) (sym c.if-other-row.true))

pub returns-then-number-eq0 : goal.returns-then-number-eq0
returns-then-number-eq0 g c =
    let old = read_at _ c.args.rows.now _ c.args.other c.index-rows-other.result (g.met.R.TableRow.mapped c.args.rows.now) c.requires.other c.index-rows-other.is in
    let pivot = read_at _ c.args.rows.now _ c.args.row c.index-rows-row.result (g.met.R.TableRow.mapped c.args.rows.now) c.requires.row c.index-rows-row.is in
    sym old ∙ cleared_same (g.R.TableRow.full c.index-rows-other.result) (g.R.TableRow.full c.index-rows-row.result) c.args.column (omega (arith, ints, c.number.ensures))
    ∙ new_row_cleared (g.R.TableRow.table c.args.rows.now) c.args.row c.args.column c.args.other (g.R.TableRow.full c.index-rows-other.result) (g.R.TableRow.full c.index-rows-row.result) (λ e. c.if-other-row.false e) old pivot

pub number-requires : goal.number-requires
number-requires g c = has_column (g.R.TableRow.table c.args.rows.now) c.args.other c.args.column _ c.requires.table c.requires.other c.requires.column (read_at _ c.args.rows.now _ c.args.other c.index-rows-other.result (g.met.R.TableRow.mapped c.args.rows.now) c.requires.other c.index-rows-other.is)

pub scaled-requires : goal.scaled-requires
scaled-requires g c =
    let pivot = read_at _ c.args.rows.now _ c.args.row c.index-rows-row.result (g.met.R.TableRow.mapped c.args.rows.now) c.requires.row c.index-rows-row.is in
    record {
      row = is_row (g.R.TableRow.table c.args.rows.now) c.args.row _ c.requires.table c.requires.row pivot;
      in_row = has_column (g.R.TableRow.table c.args.rows.now) c.args.row c.args.column _ c.requires.table c.requires.row c.requires.column pivot;
      positive = is_positive_at (g.R.TableRow.table c.args.rows.now) c.args.row c.args.column _ c.requires.positive pivot;
    }

pub combined-requires : goal.combined-requires
combined-requires g c =
    let table = g.R.TableRow.table c.args.rows.now in
    let old = read_at _ c.args.rows.now _ c.args.other c.index-rows-other.result (g.met.R.TableRow.mapped c.args.rows.now) c.requires.other c.index-rows-other.is in
    let pivot = read_at _ c.args.rows.now _ c.args.row c.index-rows-row.result (g.met.R.TableRow.mapped c.args.rows.now) c.requires.row c.index-rows-row.is in
    let ne : number_of (g.R.TableRow.full c.index-rows-other.result) c.args.column ≢ pos 0 = λ e. c.if-number-eq0.false (ap (of_z w128) (c.number.ensures ∙ e)) in
    record {
      row = is_row table c.args.other _ c.requires.table c.requires.other old;
      pivot_row = is_row table c.args.row _ c.requires.table c.requires.row pivot;
      same_width = as_wide table c.args.other c.args.row _ _ c.requires.table c.requires.other c.requires.row old pivot;
      in_row = has_column table c.args.other c.args.column _ c.requires.table c.requires.other c.requires.column old;
      positive = is_positive_at table c.args.row c.args.column _ c.requires.positive pivot;
      fits = growth_other (g.R.TableRow.full c.index-rows-other.result) (g.R.TableRow.full c.index-rows-row.result) c.args.column ne
          ∙ ap (λ r. clearing_growth r (g.R.TableRow.full c.index-rows-row.result) c.args.column) old ∙ ap (λ r. clearing_growth (row_at table c.args.other) r c.args.column) pivot
          ∙ no_clearing_growth table c.args.row c.args.column c.args.other c.requires.fits c.requires.other (ne_eqb c.args.other c.args.row (λ e. c.if-other-row.false e));
    }

pub returns : goal.returns
returns g c =
    let old = read_at _ c.args.rows.now _ c.args.other c.index-rows-other.result (g.met.R.TableRow.mapped c.args.rows.now) c.requires.other c.index-rows-other.is in
    let pivot = read_at _ c.args.rows.now _ c.args.row c.index-rows-row.result (g.met.R.TableRow.mapped c.args.rows.now) c.requires.row c.index-rows-row.is in
    let ne : number_of (g.R.TableRow.full c.index-rows-other.result) c.args.column ≢ pos 0 = λ e. c.if-number-eq0.false (ap (of_z w128) (c.number.ensures ∙ e)) in
    c.in_ok-combined.ensures ∙ cleared_combined (g.R.TableRow.full c.index-rows-other.result) (g.R.TableRow.full c.index-rows-row.result) c.args.column ne
    ∙ new_row_cleared (g.R.TableRow.table c.args.rows.now) c.args.row c.args.column c.args.other (g.R.TableRow.full c.index-rows-other.result) (g.R.TableRow.full c.index-rows-row.result) (λ e. c.if-other-row.false e) old pivot
