use Rattle.std.proofs.Common.{sym, subst}
use Rattle.frac_row.specs.Row.{IsRow}
use Rattle.frac_row.proofs.CommonDivisors.{within_places}
use Rattle.frac_row.proofs.Turned.{turned_is_held, content-turned}
use Rattle.frac_row.proofs.turning.turn.Goals as goal

pub turn_entries-requires : goal.turn_entries-requires
turn_entries-requires c =
    within_places c.row.inside.entries.items c.row.inside.width c.row.inside.den c.row.invariant (subst IsRow (sym c.row.view_is) c.requires)

pub invariant_of-row : goal.invariant_of-row
invariant_of-row c = turned_is_held c.row.inside.entries.items _ c.row.inside.width c.row.invariant c.turn_entries.ensures

pub returns : goal.returns
returns c = content-turned c.row.inside.entries.items _ c.row.inside.width c.row.inside.den c.args.row.now c.row.view_is c.turn_entries.ensures
