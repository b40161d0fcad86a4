use Rattle.std.proofs.Common.{◌≡◌, length, sym, ap, ◌∙◌, arith}
use Rattle.std.proofs.lemmas.List.{length-map}
use Rattle.sums.proofs.Places.{length-list_below}
use Rattle.calendar_dates.specs.Days.{day_after, day_on}
use Rattle.euler_rotation.proofs.Counted.{all_come_round}
use Rattle.due_report.proofs.Tellable.{all_tellable}
use Rattle.due_report.proofs.lines.due_lines.Goals as goal

pub due_on-requires-clause-tours : goal.due_on-requires-clause-tours
due_on-requires-clause-tours c = all_come_round c.args.tables.now c.args.plan.now c.args.rotations.now c.requires.tours

pub due_on-requires-clause-placings : goal.due_on-requires-clause-placings
due_on-requires-clause-placings c =
    let placings = c.requires.placings in
    all_tellable c.args.tables.now c.args.plan.now c.args.rotations.now placings.0 c.args.tails.now c.args.placings.now placings.1 c.requires.tours.counted placings.2

pub due_on-requires-clause-few : goal.due_on-requires-clause-few
due_on-requires-clause-few c =
    let many : length c.deref.result.now ≡ c.args.count =
    ap length c.deref.ensures.value ∙ sym (length-map c.in_ok-dates.dates.items day_on) ∙ ap length c.in_ok-dates.ensures
    ∙ length-list_below (day_after (day_on c.args.date)) c.args.count in
    omega arith
