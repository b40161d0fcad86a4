-- What charges say that are written day by day.
use Rattle.std.proofs.Common.{◌≡◌, ℕ, zero, suc, ◌<◌, Bool, true, false, cond, ◌==◌, ◌&&◌, if◌then◌else◌, List, [], ◌∷◌, ◌++◌, ℤ, pos, neg_ℤ, unsigned_abs, refl, sym, ◌∙◌, ap, subst, inl, inr, arith}
use Rattle.std.proofs.lemmas.Bool.{cases_lt}
use Rattle.sums.proofs.Naturals.{equal_number, zero_number}
use Rattle.sums.proofs.Sizes.{zero_size}
use Rattle.sums.proofs.Tests.{both_true, by_test}
use Rattle.fleet_model.specs.declared.tables.Tables.{Tables}
use Rattle.lp_rows.specs.declared.kinds.Park.{Park}
use Rattle.lp_rows.specs.Entries.{IsPark}
use Rattle.lp_rows.specs.Layout.{concat_below, park_of_number}
use Rattle.lp_rows.specs.Points.{park_count}
use Rattle.lp_rows.proofs.Counted.{parks_are}
use Rattle.dual_bound.specs.Prices.{is_charge_of, last_charge}
use Rattle.dual_bound.specs.declared.prices.Charge.{Charge}
use Rattle.price_lift.specs.Steps.{all_charges, charge_where, charges_at}
use Rattle.price_lift.proofs.Parks.{number_of_park, park_is, park_number, park_within, same_as}

last_charge-append : (c : ℤ) (xs ys : List Charge) (s d : ℕ) → last_charge c (xs ++ ys) s d ≡ last_charge (last_charge c xs s d) ys s d
unfolding last_charge
last_charge-append c [] ys s d = refl
last_charge-append c (x ∷ xs) ys s d = last_charge-append (if is_charge_of s d x then x.charge else c) xs ys s d

module _ (t : Tables) (value : ℕ → ℤ) (s d : ℕ) where
  abbrev is_here : Park → Bool
  is_here p = (p.station == s) && (p.day == d)

  -- an entry of another day says nothing
  elsewhere : (p : Park) (z c : ℤ) → is_here p ≡ false → last_charge c (charge_where p z) s d ≡ c
  unfolding last_charge
  elsewhere p z c other = by_zero (unsigned_abs z == 0)
    where
      by_zero : (b : Bool) → last_charge c (if b then [] else record { station = p.station; day = p.day; charge = z } ∷ []) s d ≡ c
      by_zero true = refl
      by_zero false = ap (λ b. cond b z c) other

  here : (p : Park) (z : ℤ) → is_here p ≡ true → last_charge (pos 0) (charge_where p z) s d ≡ z
  unfolding last_charge
  here p z same = by_test (unsigned_abs z == 0)
      (λ e. ap (λ b. last_charge (pos 0) (if b then [] else record { station = p.station; day = p.day; charge = z } ∷ []) s d) e ∙ sym (zero_size z (zero_number (unsigned_abs z) e)))
      (λ e. ap (λ b. last_charge (pos 0) (if b then [] else record { station = p.station; day = p.day; charge = z } ∷ []) s d) e ∙ ap (λ b. cond b z (pos 0)) same)

  -- the charge by the entries of the days below a number
  abbrev below : ℕ → ℤ
  below n = last_charge (pos 0) (concat_below (charges_at t value) n) s d

  one_more : (n : ℕ) → below (suc n) ≡ last_charge (below n) (charges_at t value n) s d
  one_more n = last_charge-append (pos 0) (concat_below (charges_at t value) n) (charges_at t value n) s d

  missing : (n : ℕ) → ((k : ℕ) → k < n → is_here (park_of_number t k) ≡ false) → below n ≡ pos 0
  unfolding last_charge
  missing zero none = refl
  missing (suc n) none = one_more n ∙ elsewhere (park_of_number t n) (neg_ℤ (value n)) (below n) (none n (omega arith)) ∙ missing n (λ k less. none k (omega arith))

  found : (place n : ℕ) → place < n → is_here (park_of_number t place) ≡ true → ((k : ℕ) → k < n → is_here (park_of_number t k) ≡ true → k ≡ place) → below n ≡ neg_ℤ (value place)
  found place zero less own once = absurd (omega arith)
  found place (suc n) less own once = elim (cases_lt place n) [
    | inl before ↦
        one_more n
        ∙ elsewhere (park_of_number t n) (neg_ℤ (value n)) (below n) (by_test (is_here (park_of_number t n)) (λ e. absurd (omega (arith, before, once n (omega arith) e))) (λ e. e))
        ∙ found place n before own (λ k there. once k (omega arith))
    | inr last ↦
        let same : n ≡ place = omega arith in
        one_more n
        ∙ ap (λ c. last_charge c (charges_at t value n) s d) (missing n (λ k there. by_test (is_here (park_of_number t k)) (λ e. absurd (omega (arith, there, same, once k (omega arith) e))) (λ e. e)))
        ∙ here (park_of_number t n) (neg_ℤ (value n)) (subst (λ k. is_here (park_of_number t k) ≡ true) (sym same) own)
        ∙ ap (λ k. neg_ℤ (value k)) same
  ]

  -- of a day with a limit the charge is its value with the other sign, of any other 0
  pub charged : IsPark t (record { station = s; day = d }) → last_charge (pos 0) (all_charges t value) s d ≡ neg_ℤ (value (number_of_park t (record { station = s; day = d })))
  charged known =
      let own : is_here (record { station = s; day = d }) ≡ true = both_true (s == s) (d == d) (equal_number s s refl) (equal_number d d refl) in
      ap below (parks_are t)
      ∙ found (number_of_park t (record { station = s; day = d })) (park_count t) (park_within t (record { station = s; day = d }) known) (ap is_here (park_is t (record { station = s; day = d }) known) ∙ own)
      (λ k less e. sym (park_number t k less).is ∙ ap (number_of_park t) (same_as (park_of_number t k) (record { station = s; day = d }) e))

  pub not_charged : ¬ (IsPark t (record { station = s; day = d })) → last_charge (pos 0) (all_charges t value) s d ≡ pos 0
  not_charged none =
      ap below (parks_are t)
      ∙ missing (park_count t) (λ k less. by_test (is_here (park_of_number t k)) (λ e. absurd (none (subst (IsPark t) (same_as (park_of_number t k) (record { station = s; day = d }) e) (park_number t k less).known))) (λ e. e))
