use Rattle.std.proofs.Common.{◌≡◌, length, arith, ◌∙◌}
use Rattle.row_store.proofs.MappedRows.{same_length}
use Rattle.row_store.proofs.Changed.{made_none, made_more}
use Rattle.row_store.proofs.changes.changed_rows.Goals as goal

pub loop-other-init : goal.loop-other-init
loop-other-init g c = made_none _ _ _ _ c.in_ok-changes.ensures.items

pub loop-other-preserved : goal.loop-other-preserved
loop-other-preserved g c = made_more _ _ _ c.loop-other.changes.items _ c.loop-other.other _ c.loop-other.invariant c.in_ok-changed_row.ensures c.in_ok-push.ensures.items

pub changed_row-requires : goal.changed_row-requires
changed_row-requires g c = record {
  table = c.requires.table;
  row = c.requires.row;
  column = c.requires.column;
  positive = c.requires.positive;
  fits = c.requires.fits;
  other = rw (same_length _ _ _ (g.met.R.TableRow.mapped c.args.rows.now)) (omega arith);
}

pub returns : goal.returns
returns g c =
    let all : c.loop-other.other ≡ length c.args.rows.now = omega arith in
    record {
      same_length = c.loop-other.invariant.same_length ∙ all;
      made = λ place lt. c.loop-other.invariant.made place (rw all (rw (same_length _ _ _ (g.met.R.TableRow.mapped c.args.rows.now)) at lt));
    }
