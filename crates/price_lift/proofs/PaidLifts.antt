-- Prices by the nodes of last tables, paid back: proper, of the tables, in written order, and worth no less.
use Rattle.std.proofs.Common.{◌≡◌, ℕ, ◌<◌, ◌≤◌, true, int_lt, List, [], ◌∷◌, length, get_or, Option, Some, None, IsSome, pos, ◌≤ℤ◌, refl, ap, subst, arith}
use Rattle.std.proofs.lemmas.Int.{ints}
use Rattle.fleet_model.specs.Kept.{Domains, IsBare}
use Rattle.fleet_model.specs.Legal.{cost_of}
use Rattle.fleet_model.specs.Schedule.{IsPair, fleets_in, period_of, stations_in}
use Rattle.fleet_model.specs.declared.parts.Pair.{Pair}
use Rattle.fleet_model.specs.declared.tables.Tables.{Tables}
use Rattle.lp_rows.specs.Layout.{IsNetwork, Starts}
use Rattle.dual_bound.specs.OfTables.{ArePricesOf}
use Rattle.dual_bound.specs.Prices.{ArePrices, AreWithin, IsScale, price_of, rent_of}
use Rattle.dual_bound.specs.Worth.{worth_of}
use Rattle.dual_bound.specs.WrittenOrder.{ArePricesInOrder}
use Rattle.dual_bound.specs.declared.prices.Prices.{Prices}
use Rattle.node_aggregate.specs.island_cut.Islands.{has_islands}
use Rattle.node_aggregate.proofs.island_cut.IslandProofs.{islands_tested}
use Rattle.island_prices.specs.Arcs.{AreAllNodes, AreArcRises, AreByNodes, AreMoments, DoStayLow, rise_over}
use Rattle.island_prices.specs.Least.{least_idle}
use Rattle.island_prices.specs.Paid.{first_beyond, paid_price, paid_prices, paid_rent}
use Rattle.island_prices.specs.Payback.{AreCovered, AreRisesApart}
use Rattle.island_prices.specs.Rises.{AreRises, rise_in}
use Rattle.island_prices.specs.Rounds.{rounds_of}
use Rattle.island_prices.specs.declared.rises.Rise.{Rise}
use Rattle.island_prices.proofs.Arcs as arcs
use Rattle.island_prices.proofs.PaidPrices.{are_in_order, are_of_tables, are_proper, scale_stays, worth_no_less}
use Rattle.island_prices.proofs.RoundsPay.{AreAtIdles, rounds_pay}
use Rattle.sums.proofs.Sizes.{above_tested, not_above_tested}
use Rattle.sums.proofs.Tests.{by_test}
use Rattle.dual_bound.proofs.Charges.{charge_after, some_after}
use Rattle.node_aggregate.specs.Nodes.{end_in}
use Rattle.node_aggregate.proofs.Starts.{end_within}
use Rattle.price_lift.proofs.ParkCharges.{none_after}
use Rattle.price_lift.proofs.ChargedArcs.{DoRiseByCharges, RisesByCharge, charged_falls, charged_rises}
use Rattle.node_aggregate.specs.Moments.{moment_of}
use Rattle.price_lift.proofs.Networks.{same_starts}
use Rattle.price_lift.specs.PaidBack.{beyond_excess, moments_by, paid_back, payback_excess}
use Rattle.price_lift.proofs.IslandMoments.{are_moments, at_idle, islands_there, kept_allowed}

-- prices by the nodes of a network: within their limits, one through each node, and over arcs that stay they rise by charges at
-- most
pub record ArePricesLow (t : Tables) (keeps : Domains) (starts : Starts) (prices : Prices) : Type 0 where
  pub network : IsNetwork t keeps starts
  pub scale : IsScale prices.scale
  pub limits : AreWithin t prices
  pub through : AreByNodes t prices starts
  pub stay : DoRiseByCharges t prices starts (moments_by t keeps starts)

not_beyond : (o : Option ℕ) → beyond_excess o ≡ None → o ≡ None
not_beyond None e = refl
not_beyond (Some f) e = absurd (clash e)
  where
    clash : beyond_excess (Some f) ≡ None → ⊥
    clash e = cc

module _ (t : Tables) (keeps : Domains) (starts : Starts) (prices : Prices) (low : ArePricesLow t keeps starts prices) (rises : List Rise) (are : AreArcRises t prices starts (moments_by t keeps starts) rises) where
  nodes : AreAllNodes t keeps starts
  nodes = record { each = low.network.each }

  rents : (f : ℕ) → f < fleets_in t → pos 0 ≤ℤ rent_of prices f
  rents f known = (low.limits.rents f known).some

  moments : AreMoments t keeps starts (moments_by t keeps starts)
  moments = are_moments t keeps starts low.network

  pub rises_are : AreRises t rises
  rises_are = arcs.are_rises t keeps prices starts (moments_by t keeps starts) rises nodes moments are rents low.limits

  -- ---- where no price rises
  over_each : rises ≡ [] → (f s k : ℕ) → f < fleets_in t → s < stations_in t → k < length (starts f s) → RisesByCharge t prices starts f s k
  over_each none f s k known within below = by_moment (moments_by t keeps starts f s k) refl
    where
      some : pos 0 ≤ℤ charge_after prices s (end_in t (starts f s) k)
      some = some_after t prices low.limits.charges s (end_in t (starts f s) k) within (end_within t keeps f s (starts f s) (low.network.each f s known within) k)

      by_moment : (o : Option ℕ) → moments_by t keeps starts f s k ≡ o → RisesByCharge t prices starts f s k
      by_moment None stays = low.stay.each f s k known within below stays
      by_moment (Some m) went = by_test (int_lt (pos 0) (rise_over prices (starts f s) f s k))
          (λ e. let has = are.all f s k m known within below went (above_tested (rise_over prices (starts f s) f s k) e) in absurd (omega (arith, has.within, ap length none)))
          (λ e. omega (arith, ints, not_above_tested (rise_over prices (starts f s) f s k) e, some))

  stays_proper : rises ≡ [] → ArePrices t prices
  stays_proper none = record {
    scale = low.scale;
    within = low.limits;
    fall = charged_falls t keeps prices starts nodes low.through low.limits (over_each none);
    rise = charged_rises t keeps prices starts nodes low.through low.limits (over_each none);
  }

  -- ---- where some do
  idles : AreAtIdles t rises
  idles = record {
    each = λ i below. let is = are.each i below in at_idle t keeps starts low.network (rise_in rises i).fleet (rise_in rises i).station is.place (rise_in rises i).moment is.station is.went;
  }

  module _ (some : 0 < length rises) where
    first_went : moments_by t keeps starts (rise_in rises 0).fleet (rise_in rises 0).station (are.each 0 some).place ≡ Some (rise_in rises 0).moment
    first_went = (are.each 0 some).went

    islands : has_islands t ≡ true
    islands = islands_there t (rise_in rises 0).station (rise_in rises 0).moment (idles.each 0 some).idle

    -- then no station has a limit, so nothing is charged
    free : (s m : ℕ) → s < stations_in t → m < period_of t → charge_after prices s m ≡ pos 0
    free s m within period = none_after t prices low.limits.charges s m within period ((islands_tested t islands).day.no_limit s within)

    stay_low : DoStayLow t prices starts (moments_by t keeps starts)
    stay_low = record {
      each = λ f s k known within below stays.
          omega (arith, ints, low.stay.each f s k known within below stays, free s (end_in t (starts f s) k) within (end_within t keeps f s (starts f s) (low.network.each f s known within) k));
    }

    covered : AreCovered t prices rises
    covered = arcs.are_covered t keeps prices starts (moments_by t keeps starts) rises nodes moments are rents low.through stay_low

    allowed : (p : Pair) → IsPair t p → keeps p ≡ true → IsSome (cost_of t p)
    allowed = kept_allowed t keeps starts low.network (rise_in rises 0).fleet (rise_in rises 0).station (are.each 0 some).place (rise_in rises 0).moment first_went

    pub worth_grows : ((l : ℕ) → ¬ (IsBare t keeps l)) → (k : ℕ) → worth_of t keeps prices k ≤ℤ worth_of t keeps (paid_prices t prices rises (rounds_of t rises (least_idle t))) k
    worth_grows bare k =
        worth_no_less t prices rises (least_idle t) rises_are low.limits.charges keeps k bare allowed (λ p pair kept. (islands_tested t islands).day.flown p pair (allowed p pair kept))
        (arcs.are_quiet t keeps prices starts (moments_by t keeps starts) rises nodes moments are rents)
        (λ j below. rounds_pay t rises idles islands j)

    module _ (fits : first_beyond t (paid_rent prices (rounds_of t rises (least_idle t))) (paid_price prices rises (rounds_of t rises (least_idle t))) (fleets_in t) ≡ None) where
      apart : AreRisesApart rises
      apart = arcs.are_apart t keeps prices starts (moments_by t keeps starts) rises nodes moments are rents

      pub paid_proper : ArePrices t (paid_prices t prices rises (rounds_of t rises (least_idle t)))
      paid_proper = are_proper t prices rises (least_idle t) rises_are apart covered low.scale rents fits

      pub paid_in_order : ArePricesInOrder t (paid_prices t prices rises (rounds_of t rises (least_idle t)))
      paid_in_order = are_in_order t prices rises (least_idle t) rises_are apart covered low.scale rents fits

      pub paid_of_tables : ArePricesOf t (paid_prices t prices rises (rounds_of t rises (least_idle t)))
      paid_of_tables = are_of_tables t prices rises (least_idle t) rises_are apart covered low.scale rents fits

-- ---- both
module _ (t : Tables) (keeps : Domains) (starts : Starts) (prices : Prices) (low : ArePricesLow t keeps starts prices) where
  -- what is known of prices that are paid back
  pub record ArePaidWell (paid : Prices) : Type 0 where
    pub scale : paid.scale ≡ prices.scale
    pub proper : ArePrices t paid
    pub in_order : ArePricesInOrder t paid
    pub of_tables : ArePricesOf t paid
    pub worth : ((l : ℕ) → ¬ (IsBare t keeps l)) → (k : ℕ) → worth_of t keeps prices k ≤ℤ worth_of t keeps paid k

  pub paid_well : ArePricesInOrder t prices → ArePricesOf t prices → (rises : List Rise) → AreArcRises t prices starts (moments_by t keeps starts) rises → payback_excess t prices rises ≡ None → ArePaidWell (paid_back t prices rises)
  paid_well in_order of_tables [] are fits =
      record { scale = refl; proper = stays_proper t keeps starts prices low [] are refl; in_order = in_order; of_tables = of_tables; worth = λ bare k. omega (arith, ints) }
  paid_well in_order of_tables (rise ∷ rises) are fits =
      let some : 0 < length (rise ∷ rises) = omega arith in
      let well = not_beyond (first_beyond t (paid_rent prices (rounds_of t (rise ∷ rises) (least_idle t))) (paid_price prices (rise ∷ rises) (rounds_of t (rise ∷ rises) (least_idle t))) (fleets_in t)) fits in
      record {
        scale = scale_stays t prices (rise ∷ rises) (least_idle t) (rises_are t keeps starts prices low (rise ∷ rises) are);
        proper = paid_proper t keeps starts prices low (rise ∷ rises) are some well;
        in_order = paid_in_order t keeps starts prices low (rise ∷ rises) are some well;
        of_tables = paid_of_tables t keeps starts prices low (rise ∷ rises) are some well;
        worth = worth_grows t keeps starts prices low (rise ∷ rises) are some;
      }

-- ---- by one network, and so by each
pub low_by_other : (t : Tables) (keeps : Domains) (starts other : Starts) → IsNetwork t keeps starts → IsNetwork t keeps other → (prices : Prices) → ArePricesLow t keeps starts prices → ArePricesLow t keeps other prices
low_by_other t keeps starts other network second prices low = record {
  network = second;
  scale = low.scale;
  limits = low.limits;
  through = record {
    through = λ f s k m known within.
        subst (λ xs. k < length xs → get_or xs k 0 ≤ m → m ≤ end_in t xs k → price_of prices f s m ≡ price_of prices f s (get_or xs k 0)) (same_starts t keeps starts other network second f s known within)
        (low.through.through f s k m known within);
    nowhere = λ f s m known within.
        subst (λ xs. length xs ≡ 0 → price_of prices f s m ≡ pos 0) (same_starts t keeps starts other network second f s known within) (low.through.nowhere f s m known within);
  };
  stay = record {
    each = λ f s k known within.
        subst (λ xs. k < length xs → moment_of t keeps f s xs k ≡ None → rise_over prices xs f s k ≤ℤ charge_after prices s (end_in t xs k)) (same_starts t keeps starts other network second f s known within) (low.stay.each f s k known within);
  };
}
