use Rattle.std.proofs.Common.{◌∙◌, ap, length}
use Rattle.std.specs.List.{concat}
use Rattle.lines_of_flying.proofs.TourLines.{days_are_use, known_legs}
use Rattle.lines_of_flying.proofs.WholeTours.{lines_are_tour}
use Rattle.lines_of_flying.proofs.days.lines.Goals as goal

pub cut-requires-clause-known : goal.cut-requires-clause-known
cut-requires-clause-known c = known_legs c.args.tables.now c.args.plan.now c.args.fleet c.args.tour.now c.requires.tour

pub returns-clause-days : goal.returns-clause-days
returns-clause-days c =
    ap length c.in_ok-cut.ensures ∙ days_are_use c.args.tables.now c.args.plan.now c.args.fleet c.args.tour.now c.requires.tour

pub returns-clause-whole : goal.returns-clause-whole
returns-clause-whole c =
    ap concat c.in_ok-cut.ensures ∙ lines_are_tour c.args.tables.now c.args.fleet c.args.tour.now c.args.plan.now c.requires.tour c.requires.begins
