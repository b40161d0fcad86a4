use Rattle.std.proofs.Common.{arith}
use Rattle.price_lift.proofs.EndLifts.{is_row_of, parts_row}
use Rattle.price_lift.proofs.end_lifts.row_of_parts.Goals as goal

pub returns-clause-row : goal.returns-clause-row
returns-clause-row c = is_row_of _ c.first_parts.result c.first_parts.ensures (parts_row c.args.point.now c.args.scale c.args.count c.requires.some c.ranges.scale.fits (λ k. omega (arith, c.type_inv.point k)))
