-- What paying back comes to, by its result.
use Rattle.std.proofs.Common.{◌≡◌, ◌<◌, List, [], ◌∷◌, length, None, refl, sym, ap, subst, arith}
use Rattle.fleet_model.specs.Kept.{Domains}
use Rattle.fleet_model.specs.Schedule.{fleets_in}
use Rattle.fleet_model.specs.declared.tables.Tables.{Tables}
use Rattle.lp_rows.specs.Layout.{starts_in}
use Rattle.lp_rows.specs.Outline.{IsOutline}
use Rattle.lp_rows.specs.declared.outline.Outline.{Outline}
use Rattle.simplex_frac.specs.dual_lift.TooLarge.{IsLiftError}
use Rattle.dual_bound.specs.Prices.{AreWithin}
use Rattle.dual_bound.specs.declared.prices.Prices.{Prices}
use Rattle.island_prices.specs.Least.{least_idle}
use Rattle.island_prices.specs.Paid.{IsPaybackError, first_beyond, paid_price, paid_prices, paid_rent}
use Rattle.island_prices.specs.Rises.{AreRises}
use Rattle.island_prices.specs.Rounds.{rounds_of}
use Rattle.island_prices.specs.declared.paying.PaybackError.{PaybackError}
use Rattle.island_prices.specs.declared.paying.PaybackError.TheVariants.{Beyond, NoMemory}
use Rattle.island_prices.specs.declared.rises.Rise.{Rise}
use Rattle.island_prices.proofs.Arcs as arcs
use Rattle.price_lift.specs.ArcRises.{outline_rises}
use Rattle.price_lift.specs.PaidBack.{beyond_excess, lift_error, moments_by, paid_back, payback_excess}
use Rattle.price_lift.proofs.ArcRises.{are_arc_rises}
use Rattle.price_lift.proofs.IslandMoments.{are_moments, one_day_where}
use Rattle.price_lift.proofs.OutlineRises.{few_there, outline_rises_are}

-- the rises by an outline are rises of the tables
pub rises_known : (t : Tables) (keeps : Domains) (o : Outline) → IsOutline t keeps o → (prices : Prices) → AreWithin t prices → AreRises t (outline_rises t o prices)
rises_known t keeps o is prices within =
    subst (AreRises t) (sym (outline_rises_are t keeps o is prices))
    (arcs.are_rises t keeps prices (starts_in o.network) (moments_by t keeps (starts_in o.network)) _ (record { each = is.network.each }) (are_moments t keeps (starts_in o.network) is.network)
    (are_arc_rises t (starts_in o.network) (moments_by t keeps (starts_in o.network)) prices (one_day_where t keeps (starts_in o.network) is.network) (few_there t keeps o is prices)) (λ f known. (within.rents f known).some) within)

module _ (t : Tables) (prices : Prices) where
  -- without a rise
  stay : (all : List Rise) → length all ≡ 0 → (payback_excess t prices all ≡ None) × (prices ≡ paid_back t prices all)
  stay [] none = (refl, refl)
  stay (rise ∷ rises) none = absurd (omega (arith, none))

  abbrev Fits : List Rise → Type 0
  Fits all = first_beyond t (paid_rent prices (rounds_of t all (least_idle t))) (paid_price prices all (rounds_of t all (least_idle t))) (fleets_in t) ≡ None

  well : (all : List Rise) (paid : Prices) → 0 < length all → Fits all → paid ≡ paid_prices t prices all (rounds_of t all (least_idle t)) → (payback_excess t prices all ≡ None) × (paid ≡ paid_back t prices all)
  well [] paid some fits is = absurd (omega (arith, some))
  well (rise ∷ rises) paid some fits is = (ap beyond_excess fits, is)

  fails : (all : List Rise) (e : PaybackError) → 0 < length all → IsPaybackError (first_beyond t (paid_rent prices (rounds_of t all (least_idle t))) (paid_price prices all (rounds_of t all (least_idle t))) (fleets_in t)) e
      → IsLiftError (payback_excess t prices all) (lift_error e)
  fails [] e some is = absurd (omega (arith, some))
  fails (rise ∷ rises) (Beyond fleet) some is = ap beyond_excess is
  fails (rise ∷ rises) NoMemory some is = tt
