use Rattle.std.proofs.Common.{ℕ, ◌<◌}
use Rattle.cert_check.specs.PriceRules.{IsChargeAt, entry_at}
use Rattle.cert_check.proofs.price_rules.are_entries_within.Given as goal

abbrev pub invariant-loop-place : goal.invariant-loop-place
invariant-loop-place l = (k : ℕ) → k < l.place → IsChargeAt l.tables l.prices (entry_at l.prices k)
