use Rattle.std.proofs.Common.{◌≡◌, drop, pos}
use Rattle.dual_bound.specs.Prices.{price_after}
use Rattle.dual_bound.proofs.price_at.last_come.Given as goal

-- the price after the rest, from the value so far, is the price after all
abbrev pub invariant-loop-step : goal.invariant-loop-step
invariant-loop-step l = price_after (pos 0) l.steps l.fleet l.station l.minute ≡ price_after l.price (drop l.step-index l.steps) l.fleet l.station l.minute
