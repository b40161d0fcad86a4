use Rattle.std.proofs.Common.{◌∙◌, arith, sym, ap}
use Rattle.fleet_model.specs.Kept.{kept_by, narrowed, put_back}
use Rattle.fleet_model.proofs.KeptRows.{row_narrowed, row_put_back}
use Rattle.fleet_model.proofs.kept.Kept.narrow.Goals as goal

pub returns-clause-way_back : goal.returns-clause-way_back
unfolding put_back
returns-clause-way_back c = rw c.of-row.ensures (row_put_back c.self.inside.rows c.args.step.leg c.take.new.row ∙ c.self.view_is)

pub returns-clause-kept : goal.returns-clause-kept
returns-clause-kept c =
    row_narrowed c.self.inside.rows c.args.step c.take.new.row (omega (arith, c.self.told, c.requires.leg)) c.take.ensures
    ∙ ap (λ rows. narrowed (kept_by rows) c.args.step) c.self.view_is
