use Rattle.std.proofs.Common.{◌≡◌, slice_index_or, pos}
use Rattle.lp_rows.specs.Layout.{concat_below, starts_in}
use Rattle.price_lift.specs.Steps.{steps_at}
use Rattle.price_lift.proofs.stepping.price_steps.Given as goal

abbrev pub invariant-loop-place : goal.invariant-loop-place
invariant-loop-place l = l.steps.items ≡ concat_below (steps_at l.tables (starts_in l.network) (λ k. slice_index_or l.values k (pos 0))) l.place
