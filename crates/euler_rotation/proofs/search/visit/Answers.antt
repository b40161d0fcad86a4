use Rattle.std.proofs.Common.{◌≡◌, None, true, false}
use Rattle.euler_rotation.specs.Walks.{legs_of_path}
use Rattle.euler_rotation.proofs.Visiting.{at_end, kept_here, moved_on, not_here}
use Rattle.euler_rotation.proofs.search.visit.Goals as goal

pub returns-in-Some : goal.returns-in-Some
returns-in-Some c = kept_here c.args.field.now (legs_of_path c.args.walk.now.path) c.in-Some.tour c.in_ok-tour.field-0 c.in_ok-tour.ensures c.in-Some.is

pub returns-then-branch : goal.returns-then-branch
returns-then-branch c =
    let none : c.in_ok-tour.field-0 ≡ None = cc in
    let moved : c.in_ok-advance.field-0 ≡ true = cc in
    record {
      none = not_here c.args.field.now (legs_of_path c.args.walk.now.path) c.in_ok-tour.field-0 c.in_ok-tour.ensures none;
      next = moved_on c.args.field.now c.args.walk.now c.advance.new.walk c.in_ok-advance.field-0 c.in_ok-advance.ensures moved;
    }

pub returns-else-branch : goal.returns-else-branch
returns-else-branch c =
    let none : c.in_ok-tour.field-0 ≡ None = cc in
    let stopped : c.in_ok-advance.field-0 ≡ false = cc in
    record {
      none = not_here c.args.field.now (legs_of_path c.args.walk.now.path) c.in_ok-tour.field-0 c.in_ok-tour.ensures none;
      last = at_end c.args.field.now c.args.walk.now c.advance.new.walk c.in_ok-advance.field-0 c.in_ok-advance.ensures stopped;
    }
