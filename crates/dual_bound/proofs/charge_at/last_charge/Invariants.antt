use Rattle.std.proofs.Common.{◌≡◌, drop, pos}
use Rattle.dual_bound.specs.Prices.{last_charge}
use Rattle.dual_bound.proofs.charge_at.last_charge.Given as goal

-- the charge after the rest, from the charge so far, is the charge after all
abbrev pub invariant-loop-entry : goal.invariant-loop-entry
invariant-loop-entry l = last_charge (pos 0) l.charges l.station l.day ≡ last_charge l.charge (drop l.entry-index l.charges) l.station l.day
