use Rattle.std.proofs.Common.{◌≡◌, length, true, arith, rules}
use Rattle.plan_text.specs.Reading.{has_minutes, slot_with}
use Rattle.plan_text.proofs.ChoiceTexts.{front_found}
use Rattle.plan_text.proofs.choices.slot_with.Goals as goal

pub returns-then-branch : goal.returns-then-branch
unfolding slot_with
returns-then-branch c =
    let passes : has_minutes c.args.shifts.now c.args.text.now c.loop-slot.slot ≡ true = search rules in
    front_found (has_minutes c.args.shifts.now c.args.text.now) c.loop-slot.slot (length c.args.shifts.now) c.loop-slot.invariant passes (omega arith)
