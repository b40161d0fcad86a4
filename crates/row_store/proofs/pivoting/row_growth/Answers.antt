use Rattle.std.proofs.Common.{◌≡◌, arith, ◌∙◌, ap, option_map, ◌<◌, ◌^◌, sym, subst}
use Rattle.row_store.specs.Table.{row_at}
use Rattle.row_store.specs.Pivot.{clearing_growth}
use Rattle.row_store.proofs.MappedRows.{read_at}
use Rattle.row_store.proofs.Pivots.{row_growth_self, row_growth_other}
use Rattle.row_store.proofs.pivoting.row_growth.Goals as goal
use Rattle.frac_row.specs.Row.{IsSmall}
use Rattle.row_store.proofs.RowReads.{is_row, is_wide, has_column, as_wide, is_positive_at}

pub returns-then-other-row : goal.returns-then-other-row
returns-then-other-row g c = row_growth_self (g.R.TableRow.table c.args.rows.now) c.args.row c.args.column c.args.other (omega arith)

pub returns : goal.returns
returns g c =
    let table = g.R.TableRow.table c.args.rows.now in
    let mapped : c.place_in.result ≡ option_map (λ growth. record { row = c.args.other; column = growth.column }) c.clearing_growth-growth.result = c.place_in.ensures in
    let old = read_at _ c.args.rows.now _ c.args.other c.index-rows-other.result (g.met.R.TableRow.mapped c.args.rows.now) c.requires.other c.index-rows-other.is in
    let pivot = read_at _ c.args.rows.now _ c.args.row c.index-rows-row.result (g.met.R.TableRow.mapped c.args.rows.now) c.requires.row c.index-rows-row.is in
    mapped ∙ row_growth_other table c.args.row c.args.column c.args.other c.clearing_growth-growth.result (λ e. c.if-other-row.false e)
    (c.clearing_growth-growth.ensures ∙ ap (λ r. clearing_growth r (g.R.TableRow.full c.index-rows-row.result) c.args.column) old
    ∙ ap (λ r. clearing_growth (row_at table c.args.other) r c.args.column) pivot)

pub clearing_growth-growth-requires : goal.clearing_growth-growth-requires
clearing_growth-growth-requires g c =
    let table = g.R.TableRow.table c.args.rows.now in
    let old = read_at _ c.args.rows.now _ c.args.other c.index-rows-other.result (g.met.R.TableRow.mapped c.args.rows.now) c.requires.other c.index-rows-other.is in
    let pivot = read_at _ c.args.rows.now _ c.args.row c.index-rows-row.result (g.met.R.TableRow.mapped c.args.rows.now) c.requires.row c.index-rows-row.is in
    record {
      row = is_row table c.args.other _ c.requires.table c.requires.other old;
      pivot_row = is_row table c.args.row _ c.requires.table c.requires.row pivot;
      same_width = as_wide table c.args.other c.args.row _ _ c.requires.table c.requires.other c.requires.row old pivot;
      columns = subst (λ w. w < 2 ^ 32) (sym (is_wide table c.args.other _ c.requires.table c.requires.other old)) c.requires.table.few_columns;
      in_row = has_column table c.args.other c.args.column _ c.requires.table c.requires.other c.requires.column old;
      positive = is_positive_at table c.args.row c.args.column _ c.requires.positive pivot;
      small = λ t. subst IsSmall (sym pivot) (c.requires.small t);
    }
