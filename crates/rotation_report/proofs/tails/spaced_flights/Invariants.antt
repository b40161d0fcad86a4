use Rattle.std.proofs.Common.{◌≡◌, take}
use Rattle.std.specs.List.{flat_map}
use Rattle.rotation_report.specs.Tails.{spaced_flight}
use Rattle.rotation_report.proofs.tails.spaced_flights.Given as goal

abbrev pub invariant-loop-leg : goal.invariant-loop-leg
invariant-loop-leg l = l.text.items ≡ flat_map (spaced_flight l.tables) (take l.leg-index l.legs)
