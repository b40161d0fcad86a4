use Rattle.std.proofs.Common.{◌≡◌, ◌<◌, ◌≤◌, nat_lt, ◌&&◌, Bool, ℕ, sym, ◌∙◌, arith}
use Rattle.std.proofs.lemmas.Bool.Decides.{nat_tests}
use Rattle.fleet_model.specs.Schedule.{leg_on}
use Rattle.fleet_model.specs.Times.{nights_of}
use Rattle.lines_of_flying.specs.ground_turns.Nights.{night_of_stay}
use Rattle.lines_of_flying.specs.ground_turns.Turns.{nights_waited}
use Rattle.euler_rotation.proofs.NightsSince.{some_in_turn}
use Rattle.euler_rotation.proofs.nights.has_maintenance.Goals as goal

some_then : (w n : ℕ) (b d : Bool) → 0 < w → w ≡ n → b ≡ d → b ≡ (nat_lt 0 n && d)
some_then w n b d lt e f = grind (arith, nat_tests)

none_then : (w n : ℕ) (d : Bool) → w ≤ 0 → w ≡ n → nat_lt 0 w ≡ (nat_lt 0 n && d)
none_then w n d le e = grind (arith, nat_tests)

pub returns-then-nights_waited-gt0 : goal.returns-then-nights_waited-gt0
returns-then-nights_waited-gt0 c =
    some_then c.nights_waited.result _ _ _ c.if-nights_waited-gt0.true c.nights_waited.ensures.value c.is_maintained.ensures
    ∙ sym (some_in_turn c.args.asked.now.tables.now (nights_of c.args.asked.now.tables.now (leg_on c.args.turn.arriving c.args.asked.now.fleet))
    (nights_waited c.args.asked.now.tables.now c.args.asked.now.fleet c.args.turn) (night_of_stay c.args.asked.now.tables.now c.args.asked.now.fleet c.args.turn))

pub returns-else-nights_waited-gt0 : goal.returns-else-nights_waited-gt0
returns-else-nights_waited-gt0 c =
    none_then c.nights_waited.result _ _ c.if-nights_waited-gt0.false c.nights_waited.ensures.value
    ∙ sym (some_in_turn c.args.asked.now.tables.now (nights_of c.args.asked.now.tables.now (leg_on c.args.turn.arriving c.args.asked.now.fleet))
    (nights_waited c.args.asked.now.tables.now c.args.asked.now.fleet c.args.turn) (night_of_stay c.args.asked.now.tables.now c.args.asked.now.fleet c.args.turn))
