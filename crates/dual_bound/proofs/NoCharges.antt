-- Prices without charges, and charges that are taken off.
use Rattle.std.proofs.Common.{◌≡◌, ℕ, ◌+◌, [], ℤ, pos, ◌*ℤ◌, ◌≤ℤ◌, refl, sym, ◌∙◌, ap, subst, arith}
use Rattle.std.proofs.lemmas.Int.{ints}
use Rattle.std.proofs.lemmas.List.Elements.{All-nil}
use lib.IntN.{*ℤ-zero, *ℤ_comm, zero-*ℤ}
use Rattle.sums.proofs.Orders.{times_le}
use Rattle.sums.proofs.WholeSums.{sum_below_ℤ-same}
use Rattle.sums.proofs.WholeSwaps.{sum_below_ℤ-zero}
use Rattle.sums.proofs.WholeTerms.{at_least_0}
use Rattle.fleet_model.specs.declared.tables.Tables.{Tables}
use Rattle.fleet_model.specs.Schedule.{days_in, parking_limit, stations_in}
use Rattle.dual_bound.specs.Prices.{AreCharges, charge_of, last_charge}
use Rattle.dual_bound.specs.Worth.{charges_of, less_charges}
use Rattle.dual_bound.specs.WrittenOrder.{AreChargesInOrder, IsChargeInOrder}
use Rattle.dual_bound.specs.declared.prices.Prices.{Prices}

-- where there is no entry, nothing is charged
pub none_charged : (prices : Prices) → prices.charges ≡ [] → (s d : ℕ) → charge_of prices s d ≡ pos 0
unfolding last_charge
none_charged prices none s d = rw none refl

-- .. which is proper
pub none_proper : (t : Tables) (prices : Prices) → prices.charges ≡ [] → AreCharges t prices
none_proper t prices none = λ s d there some within. record {
  some = omega (arith, ints, none_charged prices none s d);
  within = omega (arith, ints, none_charged prices none s d);
  only_limited = λ no_limit. none_charged prices none s d;
}

-- .. in written order
pub none_in_order : (t : Tables) (prices : Prices) → prices.charges ≡ [] → AreChargesInOrder t prices.charges
none_in_order t prices none = subst (AreChargesInOrder t) (sym none) (record { each = All-nil (IsChargeInOrder t); follow = tt })

-- .. and takes nothing off
pub no_charges : (t : Tables) (prices : Prices) (z : ℤ) → prices.charges ≡ [] → less_charges t prices z ≡ z
unfolding less_charges
no_charges t prices z none =
    let station = λ (s : ℕ). sum_below_ℤ-same (λ d. charge_of prices s (d + 1) *ℤ pos (parking_limit t s)) (λ d. pos 0) (days_in t)
    (λ d below. ap (λ x. x *ℤ pos (parking_limit t s)) (none_charged prices none s (d + 1)) ∙ zero-*ℤ (pos (parking_limit t s))) ∙ sum_below_ℤ-zero (days_in t) in
    let all = sum_below_ℤ-same (charges_of t prices) (λ s. pos 0) (stations_in t) (λ s below. station s) ∙ sum_below_ℤ-zero (stations_in t) in
    omega (arith, ints, all)

-- charges take something off, or nothing
pub charged_less : (t : Tables) (prices : Prices) (z : ℤ) → AreCharges t prices → less_charges t prices z ≤ℤ z
unfolding less_charges
charged_less t prices z charges =
    let all = at_least_0 (charges_of t prices) (stations_in t) (λ s there. at_least_0 (λ d. charge_of prices s (d + 1) *ℤ pos (parking_limit t s)) (days_in t)
    (λ d below. some (parking_limit t s) (charge_of prices s (d + 1)) (charges s (d + 1) there (omega arith) (omega (arith, below))).some)) in
    omega (arith, ints, all)
  where
    some : (n : ℕ) (charge : ℤ) → pos 0 ≤ℤ charge → pos 0 ≤ℤ (charge *ℤ pos n)
    some n charge h = omega (arith, ints, times_le n (pos 0) charge h, *ℤ-zero (pos n), *ℤ_comm charge (pos n))

-- prices without charges leave no less of worth than others
pub uncharged_more : (t : Tables) (prices other : Prices) (less more : ℤ) → AreCharges t prices → other.charges ≡ [] → less ≤ℤ more → less_charges t prices less ≤ℤ less_charges t other more
uncharged_more t prices other less more charges none le = omega (arith, ints, charged_less t prices less charges, no_charges t other more none)
