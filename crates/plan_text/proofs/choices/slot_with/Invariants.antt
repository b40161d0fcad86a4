use Rattle.std.proofs.Common.{◌≡◌, Some, None, if◌then◌else◌}
use Rattle.sums.specs.Places.{first_below}
use Rattle.plan_text.specs.Reading.{has_minutes}
use Rattle.plan_text.proofs.choices.slot_with.Given as goal

abbrev pub invariant-loop-slot : goal.invariant-loop-slot
invariant-loop-slot l = first_below (λ k. if has_minutes l.shifts l.text k then Some k else None) l.slot ≡ None
