-- Prices that are all 0 are proper.
use Rattle.std.proofs.Common.{◌≡◌, ℕ, ◌+◌, [], pos, refl, arith}
use Rattle.std.proofs.lemmas.Int.{ints}
use Rattle.fleet_model.specs.Schedule.{last_of}
use Rattle.fleet_model.proofs.PeriodMinutes.{last_in}
use Rattle.dual_bound.specs.Duality.{ZeroIsProper}
use Rattle.dual_bound.specs.Prices.{price_after, price_of, rent_of}
use Rattle.dual_bound.specs.declared.prices.Prices.{Prices}
use Rattle.dual_bound.proofs.Charges.{no_rise}
use Rattle.dual_bound.proofs.NoCharges.{none_proper}

price_zero : (prices : Prices) → prices.steps ≡ [] → (f s m : ℕ) → price_of prices f s m ≡ pos 0
unfolding price_after
price_zero prices none f s m = rw none refl

pub rent_zero : (prices : Prices) → prices.rents ≡ [] → (f : ℕ) → rent_of prices f ≡ pos 0
rent_zero prices none f = rw none refl

pub zero_is_proper : ZeroIsProper
zero_is_proper t prices one no_rents no_steps no_charges = record {
  scale = record { some = omega (arith, ints, one); within = omega (arith, ints, one) };
  within = record {
    rents = λ f below. record { some = omega (arith, ints, rent_zero prices no_rents f); within = omega (arith, ints, rent_zero prices no_rents f) };
    charges = none_proper t prices no_charges;
    each = λ f s m known there early. record { no_less = omega (arith, ints, price_zero prices no_steps f s m); no_more = omega (arith, ints, price_zero prices no_steps f s m) };
  };
  fall = record { each = λ f s m known there early. no_rise t prices (none_proper t prices no_charges) s m there (omega (arith, early)) _ _ (omega (arith, ints, price_zero prices no_steps f s m, price_zero prices no_steps f s (m + 1))) };
  rise = record { each = λ f s known there. no_rise t prices (none_proper t prices no_charges) s (last_of t) there (last_in t) _ _ (omega (arith, ints, price_zero prices no_steps f s 0, price_zero prices no_steps f s (last_of t), rent_zero prices no_rents f)) };
}
