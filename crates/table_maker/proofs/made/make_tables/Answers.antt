use Rattle.std.proofs.Common.{◌/◌, arith, rules}
use Rattle.table_maker.proofs.TripLists.{drawn_count, made_of_drawn}
use Rattle.table_maker.proofs.made.make_tables.Goals as goal

pub tables_of-requires : goal.tables_of-requires
tables_of-requires c =
    let count = drawn_count c.args.number c.spokes_for.result (c.args.legs / 2) c.as_slice.result.now (search rules) in
    omega (arith, count, c.requires.legs_few)

pub returns : goal.returns
returns c = record { made = made_of_drawn c.args.number c.args.legs c.spokes_for.result c.in_ok-trips.trips.items c.in_ok-tables_of.field-0 (search rules) (search rules) (search rules) }
