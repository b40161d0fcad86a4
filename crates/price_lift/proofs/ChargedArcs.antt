-- Where prices by the nodes rise over arcs by charges at most, they rise so from minute to minute.
use Rattle.std.proofs.Common.{◌≡◌, ℕ, ◌+◌, ◌<◌, length, None, ℤ, pos, ◌+ℤ◌, ◌≤ℤ◌, sym, subst}
use Rattle.fleet_model.specs.Kept.{Domains}
use Rattle.fleet_model.specs.Schedule.{fleets_in, last_of, period_of, stations_in}
use Rattle.fleet_model.specs.declared.tables.Tables.{Tables}
use Rattle.node_aggregate.specs.Nodes.{end_in}
use Rattle.lp_rows.specs.Layout.{Starts}
use Rattle.dual_bound.specs.Prices.{AreWithin, NeverRise, RiseByRent, price_of, rent_of}
use Rattle.dual_bound.specs.declared.prices.Prices.{Prices}
use Rattle.dual_bound.proofs.Charges.{charge_after, some_after, with_charge_is}
use Rattle.island_prices.specs.Arcs.{AreAllNodes, AreByNodes, ArcMoments, rise_over}
use Rattle.island_prices.proofs.ArcSteps.{over_end, over_minute}

-- over the arc of a node prices rise by the charge at its end at most
abbrev pub RisesByCharge : Tables → Prices → Starts → ℕ → ℕ → ℕ → Type 0
RisesByCharge t prices starts f s k = rise_over prices (starts f s) f s k ≤ℤ charge_after prices s (end_in t (starts f s) k)

-- .. over each arc that stays
pub record DoRiseByCharges (t : Tables) (prices : Prices) (starts : Starts) (moment : ArcMoments) : Type 0 where
  pub each : (f s k : ℕ) → f < fleets_in t → s < stations_in t → k < length (starts f s) → moment f s k ≡ None → RisesByCharge t prices starts f s k

-- .. over each arc
module _ (t : Tables) (keeps : Domains) (prices : Prices) (starts : Starts) (nodes : AreAllNodes t keeps starts) (by_nodes : AreByNodes t prices starts) (limits : AreWithin t prices)
    (over : (f s k : ℕ) → f < fleets_in t → s < stations_in t → k < length (starts f s) → RisesByCharge t prices starts f s k) where
  rents : (f : ℕ) → f < fleets_in t → pos 0 ≤ℤ rent_of prices f
  rents f known = (limits.rents f known).some

  most : ℕ → ℕ → ℕ → ℤ
  most f s m = charge_after prices s m

  some : (f s m : ℕ) → f < fleets_in t → s < stations_in t → m < period_of t → pos 0 ≤ℤ most f s m
  unfolding most
  some f s m known within period = some_after t prices limits.charges s m within period

  pub charged_falls : NeverRise t prices
  unfolding most
  charged_falls = record {
    each = λ f s m known within period.
        subst (λ z. price_of prices f s (m + 1) ≤ℤ z) (sym (with_charge_is prices s m (price_of prices f s m))) (over_minute t keeps prices starts nodes by_nodes rents most some over f s m known within period);
  }

  pub charged_rises : RiseByRent t prices
  unfolding most
  charged_rises = record {
    each = λ f s known within.
        subst (λ z. price_of prices f s 0 ≤ℤ z) (sym (with_charge_is prices s (last_of t) (price_of prices f s (last_of t) +ℤ rent_of prices f))) (over_end t keeps prices starts nodes by_nodes rents most some over f s known within);
  }
