use Rattle.std.proofs.Common.{◌≡◌, length, sym, ap, ◌∙◌, arith}
use Rattle.std.proofs.lemmas.List.{length-map}
use Rattle.sums.proofs.Places.{length-list_below}
use Rattle.calendar_dates.specs.Days.{day_after, day_on}
use Rattle.euler_rotation.proofs.Counted.{all_come_round}
use Rattle.rotation_report.proofs.tails.tail_lines.Goals as goal

pub tails_on-requires-clause-tours : goal.tails_on-requires-clause-tours
tails_on-requires-clause-tours c = all_come_round c.args.tables.now c.args.plan.now c.args.rotations.now c.requires.tours

pub tails_on-requires-clause-few : goal.tails_on-requires-clause-few
tails_on-requires-clause-few c =
    let many : length c.deref.result.now ≡ c.args.count =
    ap length c.deref.ensures.value ∙ sym (length-map c.in_ok-dates.dates.items day_on) ∙ ap length c.in_ok-dates.ensures
    ∙ length-list_below (day_after (day_on c.args.date)) c.args.count in
    omega arith
