-- What prices say that are read off dual values.
use Rattle.std.specs.Prelude.{◌≡◌, ℕ, ◌<◌, true, [], ℤ, pos, neg_ℤ}
use Rattle.fleet_model.specs.Schedule.{fleets_in, stations_in}
use Rattle.fleet_model.specs.declared.tables.Tables.{Tables}
use Rattle.lp_rows.specs.Entries.{IsPark, is_in_node}
use Rattle.lp_rows.specs.Layout.{Starts, line_at}
use Rattle.lp_rows.specs.declared.kinds.Line.TheVariants.{Balance, Count, Parking}
use Rattle.lp_rows.specs.declared.kinds.Node.{Node}
use Rattle.lp_rows.specs.declared.kinds.Park.{Park}
use Rattle.dual_bound.specs.Prices.{charge_of, price_of, rent_of}
use Rattle.dual_bound.specs.declared.prices.Prices.{Prices}

-- through a node the price is the value of its balance line, and 0 where a fleet has no node at a station; a rent is
-- the value of the fleet's count line with the other sign, and a charge that of the day's parking line, 0 where there is none
pub record AreByLines (t : Tables) (starts : Starts) (value : ℕ → ℤ) (prices : Prices) : Type 0 where
  pub balance : (line minute : ℕ) (n : Node) → line_at t starts line ≡ Balance n → is_in_node t (starts n.fleet n.station) n.place minute ≡ true
      → price_of prices n.fleet n.station minute ≡ value line
  pub nowhere : (f s minute : ℕ) → f < fleets_in t → s < stations_in t → starts f s ≡ [] → price_of prices f s minute ≡ pos 0
  pub count : (line f : ℕ) → line_at t starts line ≡ Count f → rent_of prices f ≡ neg_ℤ (value line)
  pub parking : (line : ℕ) (p : Park) → line_at t starts line ≡ Parking p → charge_of prices p.station p.day ≡ neg_ℤ (value line)
  pub uncharged : (s d : ℕ) → ¬ (IsPark t (record { station = s; day = d })) → charge_of prices s d ≡ pos 0
