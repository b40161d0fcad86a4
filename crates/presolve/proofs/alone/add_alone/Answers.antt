use Rattle.std.proofs.Common.{refl, ◌∙◌, arith}
use Rattle.fleet_model.specs.Kept.{kept_by}
use Rattle.presolve.proofs.AloneLaws.{not_alone}
use Rattle.presolve.proofs.alone.add_alone.Goals as goal

pub returns-else-counts-leg-eq1 : goal.returns-else-counts-leg-eq1
returns-else-counts-leg-eq1 c = record {
  width = refl;
  each = λ f m known within. omega (arith, not_alone c.args.tables.now (kept_by c.args.kept.now) f m c.args.leg (λ one. c.if-counts-leg-eq1.false (c.requires.count ∙ one)));
}
