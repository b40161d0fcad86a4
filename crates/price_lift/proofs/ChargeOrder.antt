-- Charges by the order of parking lines are in written order.
use Rattle.std.proofs.Common.{◌≡◌, ℕ, ◌≤◌, Bool, true, not, ◌==◌, ◌&&◌, ◌||◌, nat_lt, List, [], ◌∷◌, length, Option, Some, None, ℤ, pos, neg_ℤ, unsigned_abs, sym, subst, inl, inr, arith}
use Rattle.std.specs.Ordering.{int_eq}
use Rattle.std.proofs.lemmas.Bool.Decides.{nat_tests}
use Rattle.sums.proofs.Tests.{both_true}
use Rattle.fleet_model.specs.declared.tables.Tables.{Tables}
use Rattle.fleet_model.specs.Schedule.{days_in}
use Rattle.lp_rows.specs.declared.kinds.Park.{Park}
use Rattle.lp_rows.specs.Entries.{IsPark}
use Rattle.lp_rows.specs.Layout.{all_parks, park_of_number}
use Rattle.lp_rows.proofs.Counted.{parks_are}
use Rattle.lp_rows.proofs.Totals.{all_concat}
use Rattle.dual_bound.specs.Order.{charge_follows}
use Rattle.dual_bound.specs.WrittenOrder.{AreChargesInOrder, ChargesFollow, IsChargeInOrder, IsFigure}
use Rattle.dual_bound.specs.declared.prices.Charge.{Charge}
use Rattle.price_lift.specs.Steps.{all_charges, charges_at}
use Rattle.price_lift.proofs.Orders.{Follow, at_number, concat_same, follow_all}
use Rattle.price_lift.proofs.Parks.{ParkBefore, limited_days, park_number, park_order}
use Rattle.price_lift.proofs.WeightOrder.{all_other, not_zero, turned}

-- the charge of a day
abbrev charge_on : Park → ℤ → Charge
charge_on p charge = record { station = p.station; day = p.day; charge = charge }

follows : (p q : Park) (c z : ℤ) → ParkBefore p q → not (int_eq z (pos 0)) ≡ true → charge_follows (Some (charge_on p c)) (charge_on q z) ≡ true
follows p q c z before some = both_true (nat_lt p.station q.station || ((p.station == q.station) && nat_lt p.day q.day)) (not (int_eq z (pos 0))) (order before) some
  where
    order : ParkBefore p q → (nat_lt p.station q.station || ((p.station == q.station) && nat_lt p.day q.day)) ≡ true
    order (inl less) = grind (arith, nat_tests)
    order (inr same) = let station = same.0 in let day = same.1 in grind (arith, nat_tests)

of_follow : (before : Option Charge) (entries : List Charge) → Follow charge_follows before entries → ChargesFollow before entries
of_follow before [] all = tt
of_follow before (x ∷ xs) all = (all.0, of_follow (Some x) xs all.1)

module _ (t : Tables) (value : ℕ → ℤ) where
  abbrev charge : ℕ → ℤ
  charge k = neg_ℤ (value k)

  abbrev entry : ℕ → Charge
  entry k = charge_on (park_of_number t k) (charge k)

  abbrev is_there : ℕ → Bool
  is_there k = not (unsigned_abs (charge k) == 0)

  all_follow : ChargesFollow None (all_charges t value)
  all_follow =
      of_follow None (all_charges t value)
      (subst (Follow charge_follows None) (sym (concat_same (charges_at t value) (at_number is_there entry) (length (all_parks t)) (λ k. turned (unsigned_abs (charge k) == 0) (entry k))))
      (follow_all is_there entry charge_follows (length (all_parks t)) (record {
        first = λ k below some none. not_zero (charge k) some;
        next = λ j k order below there some none. follows (park_of_number t j) (park_of_number t k) (charge j) (charge k) (park_order t j k order (omega (arith, below, parks_are t))) (not_zero (charge k) some);
      })))

  pub charges_in_order : ((k : ℕ) → IsFigure (neg_ℤ (value k))) → AreChargesInOrder t (all_charges t value)
  charges_in_order figures = record {
    each = all_concat (IsChargeInOrder t) (charges_at t value) (length (all_parks t)) (λ k below.
        let known = (park_number t k (omega (arith, below, parks_are t))).known in
        all_other (IsChargeInOrder t) (unsigned_abs (charge k) == 0) (entry k) (record { station = known.station; some = known.some; day = of_period (park_of_number t k) known; charge = figures k }));
    follow = all_follow;
  }
    where
      of_period : (p : Park) → IsPark t p → p.day ≤ days_in t
      of_period p known = omega (arith, known.day, limited_days t p.station (omega (arith, known.some, known.day)))
