use Rattle.std.proofs.Common.{subst, arith}
use Rattle.lp_rows.specs.Entries.{IsLine, IsPark}
use Rattle.lp_rows.specs.Layout.{starts_in}
use Rattle.lp_rows.proofs.Totals.{few_parking_days}
use Rattle.lp_rows.proofs.entry.entry.Goals as goal

pub parking_entry-requires-clause-week : goal.parking_entry-requires-clause-week
parking_entry-requires-clause-week c =
    let known : IsPark c.args.tables.now c.in-Parking.park = subst (IsLine c.args.tables.now (starts_in c.args.network.now)) c.in-Parking.is c.requires.line in
    omega (arith, known.day, few_parking_days c.args.tables.now c.in-Parking.park.station)
