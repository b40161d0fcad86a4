-- At which number each day of a station with a limit stands, in which order, and sums over all of them.
use Rattle.std.proofs.Common.{◌≡◌, ℕ, ◌+◌, ◌-◌, ◌<◌, Bool, true, false, if◌then◌else◌, ◌==◌, is_some, ℤ, pos, refl, sym, ◌∙◌, ap, subst, ◌⊎◌, inl, inr, arith}
use Rattle.std.proofs.lemmas.Bool.{cases_order, eqb-true}
use Rattle.sums.specs.Below.{sum_below, sum_below_ℤ}
use Rattle.sums.proofs.Naturals.{equal_number}
use Rattle.sums.proofs.Places.{get_or-list_below, length-list_below}
use Rattle.sums.proofs.Tests.{parts_true, same_tests}
use Rattle.sums.proofs.WholeSums.{sum_below_ℤ-same}
use Rattle.sums.proofs.WholeSwaps.{sum_below_ℤ-one, where_true}
use Rattle.fleet_model.specs.declared.tables.Tables.{Tables}
use Rattle.fleet_model.specs.Schedule.{days_in, parking_of, stations_in}
use Rattle.lp_rows.specs.declared.kinds.Park.{Park}
use Rattle.lp_rows.specs.Entries.{IsPark, same_park}
use Rattle.lp_rows.specs.Layout.{park_at, park_of_number, parking_days, parks_at}
use Rattle.lp_rows.specs.Points.{park_count}
use Rattle.lp_rows.proofs.ListPlaces.{at_concat, split, sum_parts, within_sum}
use Rattle.lp_rows.proofs.ListSums.{all_zero}
use Rattle.lp_rows.proofs.Rooms.{by_number}

-- days of one station and of one number are one
pub same_as : (p q : Park) → same_park p q ≡ true → p ≡ q
same_as p q e =
    let both = parts_true (p.station == q.station) (p.day == q.day) e in
    ap (λ s. record { station = s; day = p.day }) (eqb-true p.station q.station both.0) ∙ ap (λ d. record { station = q.station; day = d }) (eqb-true p.day q.day both.1)

-- a station with a limit has one at the end of each day
pub limited_days : (t : Tables) (s : ℕ) → 0 < parking_days t s → parking_days t s ≡ days_in t
limited_days t s some = all_or_none (is_some (parking_of t s)) some
  where
    all_or_none : (b : Bool) → 0 < (if b then days_in t else 0) → (if b then days_in t else 0) ≡ days_in t
    all_or_none true some = refl
    all_or_none false some = absurd (omega (arith, some))

-- a day comes before another: its station does, or it is an earlier day there
abbrev pub ParkBefore : Park → Park → Type 0
ParkBefore p q = (p.station < q.station) ⊎ ((p.station ≡ q.station) × (p.day < q.day))

module _ (t : Tables) where
  -- the number of a day: how many stand before those of its station, and the day's own
  abbrev pub number_of_park : Park → ℕ
  number_of_park p = sum_below (parking_days t) p.station + (p.day - 1)

  pub park_there : (s k : ℕ) → s < stations_in t → k < parking_days t s → park_of_number t (sum_below (parking_days t) s + k) ≡ park_at s k
  park_there s k within below =
      at_concat (parks_at t) (parking_days t) (park_at 0 0) (stations_in t) s k (λ r less. length-list_below (park_at r) (parking_days t r)) within below
      ∙ get_or-list_below (park_at s) (parking_days t s) k (park_at 0 0) below

  pub park_within : (p : Park) → IsPark t p → number_of_park p < park_count t
  park_within p known = within_sum (parking_days t) (stations_in t) p.station (p.day - 1) known.station (omega (arith, known.some, known.day))

  pub park_is : (p : Park) → IsPark t p → park_of_number t (number_of_park p) ≡ p
  park_is p known = park_there p.station (p.day - 1) known.station (omega (arith, known.some, known.day)) ∙ by_number p known.some

  -- each number is that of a day
  pub record IsParkNumber (k : ℕ) : Type 0 where
    pub known : IsPark t (park_of_number t k)
    pub is : number_of_park (park_of_number t k) ≡ k

  pub park_number : (k : ℕ) → k < park_count t → IsParkNumber k
  park_number k below =
      let at = split (parking_days t) (stations_in t) k below in
      let there : park_at at.list at.rest ≡ park_of_number t k = sym (ap (park_of_number t) at.is ∙ park_there at.list at.rest at.known at.within) in
      record {
        known = subst (IsPark t) there (record { station = at.known; some = omega arith; day = omega (arith, at.within) });
        is = subst (λ p. number_of_park p ≡ k) there (omega (arith, at.is));
      }

  -- days of lower numbers come before
  in_order : (p q : Park) → IsPark t p → IsPark t q → number_of_park p < number_of_park q → ParkBefore p q
  in_order p q known there less = elim (cases_order p.station q.station) [
    | inl same ↦ inr (same, omega (arith, known.some, there.some, less, ap (sum_below (parking_days t)) same))
    | inr (inl before) ↦ inl before
    | inr (inr after) ↦ absurd (omega (arith, less, within_sum (parking_days t) p.station q.station (q.day - 1) after (omega (arith, there.some, there.day))))
  ]

  pub park_order : (j k : ℕ) → j < k → k < park_count t → ParkBefore (park_of_number t j) (park_of_number t k)
  park_order j k order below =
      let first = park_number j (omega (arith, order, below)) in
      let second = park_number k below in
      in_order (park_of_number t j) (park_of_number t k) first.known second.known (omega (arith, order, first.is, second.is))

  -- ---- sums
  pub over_parks : (g : Park → ℤ) → sum_below_ℤ (λ k. g (park_of_number t k)) (park_count t) ≡ sum_below_ℤ (λ s. sum_below_ℤ (λ k. g (park_at s k)) (parking_days t s)) (stations_in t)
  over_parks g =
      sum_parts (λ k. g (park_of_number t k)) (parking_days t) (stations_in t)
      ∙ sum_below_ℤ-same (λ s. sum_below_ℤ (λ k. g (park_of_number t (sum_below (parking_days t) s + k))) (parking_days t s)) (λ s. sum_below_ℤ (λ k. g (park_at s k)) (parking_days t s)) (stations_in t)
      (λ s within. sum_below_ℤ-same (λ k. g (park_of_number t (sum_below (parking_days t) s + k))) (λ k. g (park_at s k)) (parking_days t s) (λ k below. ap g (park_there s k within below)))

  -- of the days that pass a test, where one alone does, and where none does
  module _ (test : Park → Bool) (value : ℕ → ℤ) where
    abbrev passing : ℤ
    passing = sum_below_ℤ (λ k. where_true (test (park_of_number t k)) (value k)) (park_count t)

    pub pick_park : (p : Park) → IsPark t p → test p ≡ true → ((q : Park) → IsPark t q → test q ≡ true → q ≡ p) → passing ≡ value (number_of_park p)
    pick_park p known passes alone =
        sum_below_ℤ-same (λ k. where_true (test (park_of_number t k)) (value k)) (λ k. where_true (number_of_park p == k) (value k)) (park_count t)
        (λ k below.
        let number = park_number k below in
        ap (λ b. where_true b (value k)) (same_tests (test (park_of_number t k)) (number_of_park p == k)
        (λ e. equal_number (number_of_park p) k (sym (ap number_of_park (alone (park_of_number t k) number.known e)) ∙ number.is))
        (λ e. ap test (ap (park_of_number t) (sym (eqb-true (number_of_park p) k e)) ∙ park_is p known) ∙ passes)))
        ∙ sum_below_ℤ-one (number_of_park p) value (park_count t) (park_within p known)

    pub no_park : ((q : Park) → IsPark t q → test q ≡ false) → passing ≡ pos 0
    no_park none =
        all_zero (λ k. where_true (test (park_of_number t k)) (value k)) (park_count t) (λ k below. ap (λ b. where_true b (value k)) (none (park_of_number t k) (park_number k below).known))
