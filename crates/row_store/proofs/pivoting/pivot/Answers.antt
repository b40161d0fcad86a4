use Rattle.std.proofs.Common.{◌≡◌, ◌<◌, ℕ, None, Some, length, refl, sym, subst, ◌∙◌, ap}
use Rattle.row_store.specs.Pivot.{new_row, pivot_growth}
use Rattle.row_store.specs.Changes.{row_after}
use Rattle.row_store.proofs.Changed.{put_is}
use Rattle.row_store.proofs.Tables.{pivoted_is_table}
use Rattle.row_store.proofs.pivoting.pivot.Goals as goal

pub pivot_growth-requires : goal.pivot_growth-requires
pivot_growth-requires g c = record {
  table = rw c.as_slice.ensures.value c.requires.table;
  row = rw c.as_slice.ensures.value c.requires.row;
  column = rw c.as_slice.ensures.value c.requires.column;
  positive = rw c.as_slice.ensures.value c.requires.positive;
}

pub changed_rows-requires : goal.changed_rows-requires
changed_rows-requires g c = record {
  table = rw c.as_slice-2.ensures.value c.requires.table;
  row = rw c.as_slice-2.ensures.value c.requires.row;
  column = rw c.as_slice-2.ensures.value c.requires.column;
  positive = rw c.as_slice-2.ensures.value c.requires.positive;
  fits = rw c.as_slice-2.ensures.value (subst (λ xs. pivot_growth (g.R.TableRow.table xs) c.args.row c.args.column ≡ None) c.as_slice.ensures.value (sym c.in_default.ensures));
}

pub put_rows-requires : goal.put_rows-requires
put_rows-requires g c = c.in-Ok.ensures.same_length ∙ ap length c.as_slice-2.ensures.value

pub returns-in-Some : goal.returns-in-Some
returns-in-Some g c = record {
  table = c.requires.table;
  pivoted = tt;
  fits = tt;
  grew = subst (λ xs. pivot_growth (g.R.TableRow.table xs) c.args.row c.args.column ≡ Some c.in-Some.place) c.as_slice.ensures.value (sym c.in-Some.ensures);
  unchanged = refl;
}

pub returns-in_default-changed_rows : goal.returns-in_default-changed_rows
returns-in_default-changed_rows g c = record {
  table = c.requires.table;
  pivoted = tt;
  fits = tt;
  grew = subst (λ xs. pivot_growth (g.R.TableRow.table xs) c.args.row c.args.column ≡ None) c.as_slice.ensures.value (sym c.in_default.ensures);
  unchanged = refl;
}

pub returns : goal.returns
returns g c =
    let table = g.R.TableRow.table c.args.rows.now.items in
    let fits : pivot_growth (g.R.TableRow.table c.args.rows.now.items) c.args.row c.args.column ≡ None = subst (λ xs. pivot_growth (g.R.TableRow.table xs) c.args.row c.args.column ≡ None) c.as_slice.ensures.value (sym c.in_default.ensures) in
    let made = subst (λ xs. (place : ℕ) → place < length (g.R.TableRow.table xs) → row_after g.R.TableRow.full (g.R.TableRow.table xs) c.in-Ok.changes.items place ≡ new_row (g.R.TableRow.table xs) c.args.row c.args.column place) c.as_slice-2.ensures.value c.in-Ok.ensures.made in
    let is = put_is g.R.TableRow.full table _ c.in-Ok.changes.items c.args.row c.args.column c.put_rows.ensures made in
    record {
      table = rw is (pivoted_is_table table c.args.row c.args.column c.requires.table c.requires.row c.requires.positive fits);
      pivoted = is;
      fits = fits;
      grew = tt;
      unchanged = tt;
    }
