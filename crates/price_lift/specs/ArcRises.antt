-- The rises of prices by the nodes over all arcs that went.
use Rattle.std.specs.Prelude.{ℕ, List, length}
use Rattle.fleet_model.specs.declared.tables.Tables.{Tables}
use Rattle.lp_rows.specs.Layout.{Starts, all_nodes, concat_below, node_of_number, starts_in}
use Rattle.lp_rows.specs.Outline.{moment_in, node_in}
use Rattle.lp_rows.specs.declared.outline.Outline.{Outline}
use Rattle.lp_rows.specs.declared.kinds.Node.{Node}
use Rattle.dual_bound.specs.declared.prices.Prices.{Prices}
use Rattle.island_prices.specs.Arcs.{ArcMoments, rise_where}
use Rattle.island_prices.specs.declared.rises.Rise.{Rise}

-- over the arc of a node, and of the node of a number
abbrev pub rise_at_node : Tables → Starts → ArcMoments → Prices → Node → List Rise
rise_at_node t starts moment prices n = rise_where t prices (starts n.fleet n.station) n.fleet n.station n.place (moment n.fleet n.station n.place)

abbrev pub rise_at : Tables → Starts → ArcMoments → Prices → ℕ → List Rise
rise_at t starts moment prices k = rise_at_node t starts moment prices (node_of_number t starts k)

-- those of all nodes
abbrev pub rises_by : Tables → Starts → ArcMoments → Prices → List Rise
rises_by t starts moment prices = concat_below (rise_at t starts moment prices) (length (all_nodes t starts))

-- by an outline, with the moments that it has
abbrev pub rise_of_number : Tables → Outline → Prices → ℕ → List Rise
rise_of_number t o prices k =
    rise_where t prices (starts_in o.network (node_in o k).fleet (node_in o k).station) (node_in o k).fleet (node_in o k).station (node_in o k).place (moment_in o k)

unfoldable pub outline_rises : Tables → Outline → Prices → List Rise
outline_rises t o prices = concat_below (rise_of_number t o prices) (length o.nodes)
