use Rattle.std.proofs.Common.{◌≡◌}
use Rattle.tail_dates.proofs.Nights.{nights_so_far}
use Rattle.tail_dates.proofs.reaches.maintenance_nights.Given as goal

abbrev pub invariant-loop-place : goal.invariant-loop-place
invariant-loop-place l = l.nights.items ≡ nights_so_far l.tables l.fleet l.tour l.place
