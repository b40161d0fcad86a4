use Rattle.std.proofs.Common.{◌<◌, get_or, sym, subst}
use Rattle.fleet_model.specs.Schedule.{fleets_in, stations_in}
use Rattle.lp_rows.specs.Layout.{node_of_place, starts_in}
use Rattle.island_prices.specs.Arcs.{IsArc}
use Rattle.price_lift.proofs.OutlineRises.{arc_known, node_known}
use Rattle.price_lift.proofs.paying.push_number.Goals as goal

pub starts-requires-clause-fleet : goal.starts-requires-clause-fleet
starts-requires-clause-fleet c =
    subst (λ ns. (get_or ns c.args.number (node_of_place 0 0 0)).fleet < fleets_in c.args.tables.now) (sym c.as_slice.ensures)
    (node_known c.args.tables.now c.requires.outline.0 c.args.outline.now c.requires.outline.1 c.args.number c.requires.number).fleet

pub starts-requires-clause-station : goal.starts-requires-clause-station
starts-requires-clause-station c =
    subst (λ ns. (get_or ns c.args.number (node_of_place 0 0 0)).station < stations_in c.args.tables.now) (sym c.as_slice.ensures)
    (node_known c.args.tables.now c.requires.outline.0 c.args.outline.now c.requires.outline.1 c.args.number c.requires.number).station

pub push_rise-requires-clause-arc : goal.push_rise-requires-clause-arc
push_rise-requires-clause-arc c =
    let n = get_or c.as_slice.result.now c.args.number (node_of_place 0 0 0) in
    subst (λ xs. IsArc c.args.tables.now xs n.fleet n.station n.place) (sym c.starts.ensures.value)
    (subst (λ ns. IsArc c.args.tables.now (starts_in c.args.outline.now.network (get_or ns c.args.number (node_of_place 0 0 0)).fleet (get_or ns c.args.number (node_of_place 0 0 0)).station) (get_or ns c.args.number (node_of_place 0 0 0)).fleet (get_or ns c.args.number (node_of_place 0 0 0)).station (get_or ns c.args.number (node_of_place 0 0 0)).place)
    (sym c.as_slice.ensures) (arc_known c.args.tables.now c.requires.outline.0 c.args.outline.now c.requires.outline.1 c.args.number c.requires.number))
