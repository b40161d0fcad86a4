use Rattle.fleet_model.specs.Kept.{kept_by}
use Rattle.presolve.proofs.AloneLaws.{surely_alone, surely_more}
use Rattle.presolve.proofs.first_rule.surely_busy.Goals as goal

pub returns-then-has_one : goal.returns-then-has_one
returns-then-has_one c =
    surely_alone c.args.tables.now (kept_by c.args.choices.now.kept) c.args.pair c.args.fleet c.departure-minute.result c.alone-alone.result c.requires.pair c.requires.kept c.requires.by c.departure-minute.ensures.value
    c.alone-alone.ensures.value c.if-has_one.ensures

pub returns-else-has_one : goal.returns-else-has_one
returns-else-has_one c =
    surely_more c.args.tables.now (kept_by c.args.choices.now.kept) c.args.pair c.args.fleet c.departure-minute.result c.alone-alone.result c.busy_at.result c.requires.pair c.requires.kept c.requires.by c.departure-minute.ensures.value
    c.alone-alone.ensures.value c.busy_at.ensures.value c.if-has_one.ensures
