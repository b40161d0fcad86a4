-- Rows of prices minute by minute, and what is beyond the limit in them.
use Rattle.std.proofs.Common.{◌≡◌, ◌≢◌, ℕ, zero, suc, ◌+◌, ◌<◌, ◌≤◌, Bool, true, false, not, ◌&&◌, ◌||◌, if◌then◌else◌, List, [], ◌∷◌, ◌++◌, length, get_or, Some, None, ℤ, pos, refl, sym, ◌∙◌, ap, ap₂, subst, inl, inr, add-one, append_assoc, append-nil, arith}
use Rattle.std.specs.Ordering.{int_eq}
use Rattle.std.proofs.lemmas.Bool.{cases_lt, or_right}
use Rattle.sums.specs.Places.{list_below, or_else}
use Rattle.sums.proofs.Places.{first_found, get_or-list_below, length-list_below, nothing_at}
use Rattle.sums.proofs.Tests.{never_passes}
use Rattle.fleet_model.specs.Schedule.{fleets_in, period_of, stations_in}
use Rattle.fleet_model.specs.declared.tables.Tables.{Tables}
use Rattle.dual_bound.specs.declared.prices.Prices.{Prices}
use Rattle.dual_bound.specs.declared.prices.PriceStep.{PriceStep}
use Rattle.island_prices.specs.Rounds.{rounds_of}
use Rattle.island_prices.specs.Paid.{HasBeyond, IsPaybackError, IsWantedBehindLimit, any_below, beyond_at, beyond_of, first_beyond, fleet_if, has_beyond, is_beyond, paid_price, paid_prices, paid_rent}
use Rattle.island_prices.specs.Steps.{all_zero, fleet_steps, is_minute_step, minute_step_where, station_steps, steps_below, steps_of}
use Rattle.island_prices.specs.declared.paying.PaybackError.{PaybackError}
use Rattle.island_prices.specs.declared.rises.Rise.{Rise}
use Rattle.island_prices.specs.declared.rounds.Rounds.{Rounds}
use Rattle.island_prices.specs.declared.paying.PaybackError.TheVariants.{Beyond, NoMemory}
use Rattle.island_prices.proofs.StepPrices.{zero_before}

-- ---- tests that look at each place
pub other_than_0 : (price : ℕ → ℤ) (n k : ℕ) → k < n → price k ≢ pos 0 → false ≡ all_zero price n
other_than_0 price n k below other = sym (never_passes (all_zero price n) (λ all. other (zero_before price n k all below)))

any_found : (p : ℕ → Bool) (n k : ℕ) → k < n → p k ≡ true → any_below p n ≡ true
any_found p zero k below passes = absurd (omega arith)
any_found p (suc n) k below passes = elim (cases_lt k n) [
  | inl less ↦ ap (λ b. b || p n) (any_found p n k less passes)
  | inr last ↦ let same : n ≡ k = omega arith in or_right (any_below p n) (p n) (ap p same ∙ passes)
]

pub none_beyond : (price : ℕ → ℤ) → beyond_at price 0 ≡ false
unfolding beyond_at
none_beyond price = refl

pub not_beyond : (price : ℕ → ℤ) (n : ℕ) → beyond_at price n ≡ false → is_beyond (price n) ≡ false → beyond_at price (n + 1) ≡ false
unfolding beyond_at
not_beyond price n before here = ap (beyond_at price) (add-one n) ∙ ap₂ (λ a b. a || b) before here

pub one_beyond : (price : ℕ → ℤ) (n k : ℕ) → k < n → is_beyond (price k) ≡ true → true ≡ beyond_at price n
unfolding beyond_at
one_beyond price n k below passes = sym (any_found (λ m. is_beyond (price m)) n k below passes)

-- ---- steps behind those so far
pub nothing_pushed : (minutes : ℕ) (price : ℕ → ℤ) (f s : ℕ) (old : List PriceStep) → old ≡ old ++ steps_below minutes price f s 0
unfolding steps_below
nothing_pushed minutes price f s old = sym (append-nil old)

pub minute_pushed : (minutes : ℕ) (price : ℕ → ℤ) (f s m : ℕ) (old steps new : List PriceStep) → steps ≡ old ++ steps_below minutes price f s m → new ≡ steps ++ minute_step_where minutes price f s m → new ≡ old ++ steps_below minutes price f s (m + 1)
unfolding steps_below
minute_pushed minutes price f s m old steps new so_far grown =
    grown ∙ ap (λ xs. xs ++ minute_step_where minutes price f s m) so_far ∙ append_assoc old (steps_below minutes price f s m) (minute_step_where minutes price f s m)
    ∙ ap (λ k. old ++ steps_below minutes price f s k) (sym (add-one m))

-- ---- a row has the prices of its minutes
module _ (minutes : ℕ) (price : ℕ → ℤ) (row : List ℤ) (is : row ≡ list_below price minutes) where
  abbrev pub by_row : ℕ → ℤ
  by_row m = get_or row m (pos 0)

  row_there : (m : ℕ) → m < minutes → by_row m ≡ price m
  row_there m below = ap (λ xs. get_or xs m (pos 0)) is ∙ get_or-list_below price minutes m (pos 0) below

  pub row_long : length row ≡ minutes
  row_long = ap length is ∙ length-list_below price minutes

  zero_same : (n : ℕ) → n ≤ minutes → all_zero by_row n ≡ all_zero price n
  unfolding all_zero
  zero_same zero within = refl
  zero_same (suc n) within = ap₂ (λ a z. a && int_eq z (pos 0)) (zero_same n (omega arith)) (row_there n (omega arith))

  step_same : (m : ℕ) → m < minutes → is_minute_step minutes by_row m ≡ is_minute_step minutes price m
  unfolding is_minute_step
  step_same zero below = ap not (zero_same minutes (omega arith))
  step_same (suc m) below = ap₂ (λ x y. not (int_eq x y)) (row_there (suc m) below) (row_there m (omega arith))

  steps_same : (f s n : ℕ) → n ≤ minutes → steps_below minutes by_row f s n ≡ steps_below minutes price f s n
  unfolding steps_below
  steps_same f s zero within = refl
  steps_same f s (suc n) within =
      ap₂ (λ xs ys. xs ++ ys) (steps_same f s n (omega arith))
      (ap₂ (λ b z. if b then record { fleet = f; station = s; minute = n; value = z } ∷ [] else []) (step_same n (omega arith)) (row_there n (omega arith)))

  pub steps_by_row : (f s : ℕ) → steps_below (length row) by_row f s (length row) ≡ steps_below minutes price f s minutes
  steps_by_row f s = ap (λ n. steps_below n by_row f s n) row_long ∙ steps_same f s minutes (omega arith)

  beyond_same : (n : ℕ) → n ≤ minutes → beyond_at by_row n ≡ beyond_at price n
  unfolding beyond_at
  beyond_same zero within = refl
  beyond_same (suc n) within = ap₂ (λ a z. a || is_beyond z) (beyond_same n (omega arith)) (row_there n (omega arith))

  pub beyond_by_row : beyond_at by_row (length row) ≡ beyond_at price minutes
  beyond_by_row = ap (beyond_at by_row) row_long ∙ beyond_same minutes (omega arith)

-- ---- of a fleet, station by station: nothing is beyond, and the steps stand behind those before
pub record IsFleetSoFar (minutes : ℕ) (price : ℕ → ℕ → ℤ) (f : ℕ) (old steps : List PriceStep) (n : ℕ) : Type 0 where
  pub none : beyond_of minutes price n ≡ false
  pub pushed : steps ≡ old ++ station_steps minutes price f n

pub no_station : (minutes : ℕ) (price : ℕ → ℕ → ℤ) (f : ℕ) (old : List PriceStep) → IsFleetSoFar minutes price f old old 0
unfolding beyond_of station_steps
no_station minutes price f old = record { none = refl; pushed = sym (append-nil old) }

pub one_station : (minutes : ℕ) (price : ℕ → ℕ → ℤ) (f : ℕ) (old steps new : List PriceStep) (n : ℕ) (row other : List ℤ) → row ≡ list_below (price n) minutes → other ≡ list_below (price n) minutes → IsFleetSoFar minutes price f old steps n
    → beyond_at (λ m. get_or row m (pos 0)) (length row) ≡ false → new ≡ steps ++ steps_below (length other) (λ m. get_or other m (pos 0)) f n (length other) → IsFleetSoFar minutes price f old new (n + 1)
unfolding beyond_of station_steps
one_station minutes price f old steps new n row other is are so_far fine grown = record {
  none = ap (beyond_of minutes price) (add-one n) ∙ ap₂ (λ a b. a || b) so_far.none (sym (beyond_by_row minutes (price n) row is) ∙ fine);
  pushed =
      grown ∙ ap₂ (λ xs ys. xs ++ ys) so_far.pushed (steps_by_row minutes (price n) other are f n)
      ∙ append_assoc old (station_steps minutes price f n) (steps_below minutes (price n) f n minutes)
      ∙ ap (λ k. old ++ station_steps minutes price f k) (sym (add-one n));
}

-- where a row is beyond, the fleet is
pub beyond_there : (t : Tables) (rent : ℕ → ℤ) (price : ℕ → ℕ → ℕ → ℤ) (f n : ℕ) (row : List ℤ) → row ≡ list_below (price f n) (period_of t) → n < stations_in t
    → beyond_at (λ m. get_or row m (pos 0)) (length row) ≡ true → has_beyond t rent price f ≡ true
unfolding has_beyond beyond_of
beyond_there t rent price f n row is below passes =
    or_right (is_beyond (rent f)) _ (any_found (λ s. beyond_at (price f s) (period_of t)) (stations_in t) n below (sym (beyond_by_row (period_of t) (price f n) row is) ∙ passes))

-- .. and only so its row fails
pub row_fails : (t : Tables) (rent : ℕ → ℤ) (price : ℕ → ℕ → ℕ → ℤ) (f n : ℕ) (row : List ℤ) (e : PaybackError) → row ≡ list_below (price f n) (period_of t) → n < stations_in t
    → HasBeyond (beyond_at (λ m. get_or row m (pos 0)) (length row)) f e → HasBeyond (has_beyond t rent price f) f e
row_fails t rent price f n row (Beyond fleet) is below fails = (beyond_there t rent price f n row is below fails.0, fails.1)
row_fails t rent price f n row NoMemory is below fails = tt

-- memory is wanting only behind the rent
pub behind_rent : (beyond : Bool) (e : PaybackError) → beyond ≡ false → IsWantedBehindLimit beyond e
behind_rent beyond (Beyond fleet) fine = tt
behind_rent beyond NoMemory fine = fine

rent_fine : (t : Tables) (rent : ℕ → ℤ) (price : ℕ → ℕ → ℕ → ℤ) (f : ℕ) → fleet_if (has_beyond t rent price f) f ≡ None → is_beyond (rent f) ≡ false
unfolding has_beyond
rent_fine t rent price f fine = either_not (is_beyond (rent f)) _ (none_if (is_beyond (rent f) || beyond_of (period_of t) (price f) (stations_in t)) fine)
  where
    none_if : (b : Bool) → fleet_if b f ≡ None → b ≡ false
    none_if false none = refl
    none_if true none = cc

    either_not : (a b : Bool) → (a || b) ≡ false → a ≡ false
    either_not false b e = refl
    either_not true b e = e

pub rent_beyond : (t : Tables) (rent : ℕ → ℤ) (price : ℕ → ℕ → ℕ → ℤ) (f : ℕ) → is_beyond (rent f) ≡ true → has_beyond t rent price f ≡ true
unfolding has_beyond
rent_beyond t rent price f passes = ap (λ b. b || beyond_of (period_of t) (price f) (stations_in t)) passes

pub neither_beyond : (t : Tables) (rent : ℕ → ℤ) (price : ℕ → ℕ → ℕ → ℤ) (f : ℕ) → is_beyond (rent f) ≡ false → beyond_of (period_of t) (price f) (stations_in t) ≡ false → has_beyond t rent price f ≡ false
unfolding has_beyond
neither_beyond t rent price f first second = ap₂ (λ a b. a || b) first second

pub fleet_done : (t : Tables) (rent : ℕ → ℤ) (price : ℕ → ℕ → ℕ → ℤ) (f : ℕ) (old steps : List PriceStep) (n : ℕ) → n ≡ stations_in t → IsFleetSoFar (period_of t) (price f) f old steps n → is_beyond (rent f) ≡ false
    → (has_beyond t rent price f ≡ false) × (steps ≡ old ++ station_steps (period_of t) (price f) f (stations_in t))
fleet_done t rent price f old steps n all so_far fine = (
  neither_beyond t rent price f fine (ap (beyond_of (period_of t) (price f)) (sym all) ∙ so_far.none),
  so_far.pushed ∙ ap (λ k. old ++ station_steps (period_of t) (price f) f k) all,
)

-- ---- fleet by fleet
pub record AreFleetsSoFar (t : Tables) (rent : ℕ → ℤ) (price : ℕ → ℕ → ℕ → ℤ) (steps : List PriceStep) (n : ℕ) : Type 0 where
  pub none : first_beyond t rent price n ≡ None
  pub pushed : steps ≡ fleet_steps t price n

pub no_fleet : (t : Tables) (rent : ℕ → ℤ) (price : ℕ → ℕ → ℕ → ℤ) (steps : List PriceStep) → steps ≡ [] → AreFleetsSoFar t rent price steps 0
unfolding first_beyond fleet_steps
no_fleet t rent price steps none = record { none = refl; pushed = none }

pub one_fleet : (t : Tables) (rent : ℕ → ℤ) (price : ℕ → ℕ → ℕ → ℤ) (steps new : List PriceStep) (n : ℕ) → AreFleetsSoFar t rent price steps n
    → has_beyond t rent price n ≡ false → new ≡ steps ++ station_steps (period_of t) (price n) n (stations_in t) → AreFleetsSoFar t rent price new (n + 1)
unfolding first_beyond fleet_steps
one_fleet t rent price steps new n so_far fine grown = record {
  none = ap (first_beyond t rent price) (add-one n) ∙ ap₂ (λ o b. or_else o (fleet_if b n)) so_far.none fine;
  pushed = grown ∙ ap (λ xs. xs ++ station_steps (period_of t) (price n) n (stations_in t)) so_far.pushed ∙ ap (fleet_steps t price) (sym (add-one n));
}

pub fleet_fails : (t : Tables) (rent : ℕ → ℤ) (price : ℕ → ℕ → ℕ → ℤ) (steps : List PriceStep) (n : ℕ) (e : PaybackError) → AreFleetsSoFar t rent price steps n → n < fleets_in t
    → HasBeyond (has_beyond t rent price n) n e → IsPaybackError (first_beyond t rent price (fleets_in t)) e
unfolding first_beyond
fleet_fails t rent price steps n (Beyond fleet) so_far below fails =
    first_found (λ f. fleet_if (has_beyond t rent price f) f) n (fleets_in t) fleet so_far.none (ap (λ b. fleet_if b n) fails.0 ∙ ap Some (sym fails.1)) below
fleet_fails t rent price steps n NoMemory so_far below fails = tt

-- memory is wanting only behind the first fleet's rent
pub behind_first : (t : Tables) (rent : ℕ → ℤ) (price : ℕ → ℕ → ℕ → ℤ) (steps : List PriceStep) (n : ℕ) (e : PaybackError) → AreFleetsSoFar t rent price steps n → IsWantedBehindLimit (is_beyond (rent n)) e → IsWantedBehindLimit (is_beyond (rent 0)) e
unfolding first_beyond
behind_first t rent price steps zero e so_far is = is
behind_first t rent price steps (suc n) e so_far is = behind_rent (is_beyond (rent 0)) e (rent_fine t rent price 0 (nothing_at (λ f. fleet_if (has_beyond t rent price f) f) (suc n) 0 so_far.none (omega arith)))

pub all_done : (t : Tables) (rent : ℕ → ℤ) (price : ℕ → ℕ → ℕ → ℤ) (steps : List PriceStep) (n : ℕ) → n ≡ fleets_in t → AreFleetsSoFar t rent price steps n
    → (first_beyond t rent price (fleets_in t) ≡ None) × (steps ≡ steps_of t price)
all_done t rent price steps n all so_far = (ap (first_beyond t rent price) (sym all) ∙ so_far.none, so_far.pushed ∙ ap (fleet_steps t price) all)

-- ---- the prices of what the calls give
pub paid_from : (t : Tables) (prices before : Prices) (rises : List Rise) (least : List ℕ) (rounds : Rounds) (scale : ℤ) (rents : List ℤ) (steps : List PriceStep)
    → before ≡ prices → rounds ≡ rounds_of t rises least → scale ≡ prices.scale → rents ≡ list_below (paid_rent before rounds) (fleets_in t)
    → (first_beyond t (paid_rent before rounds) (paid_price before rises rounds) (fleets_in t) ≡ None) × (steps ≡ steps_of t (paid_price before rises rounds))
    → (first_beyond t (paid_rent prices (rounds_of t rises least)) (paid_price prices rises (rounds_of t rises least)) (fleets_in t) ≡ None)
    × (◌≡◌ {A = Prices} (record { scale = scale; rents = rents; steps = steps; charges = [] }) (paid_prices t prices rises (rounds_of t rises least)))
unfolding paid_prices
paid_from t prices before rises least rounds scale rents steps is same scaled rented facts = (
  subst (λ r. first_beyond t (paid_rent prices r) (paid_price prices rises r) (fleets_in t) ≡ None) same
      (subst (λ b. first_beyond t (paid_rent b rounds) (paid_price b rises rounds) (fleets_in t) ≡ None) is facts.0),
  ap (λ z. record { scale = z; rents = rents; steps = steps; charges = [] }) scaled
      ∙ ap (λ xs. record { scale = prices.scale; rents = xs; steps = steps; charges = [] }) (rented ∙ ap (λ b. list_below (paid_rent b rounds) (fleets_in t)) is ∙ ap (λ r. list_below (paid_rent prices r) (fleets_in t)) same)
      ∙ ap (λ xs. record { scale = prices.scale; rents = list_below (paid_rent prices (rounds_of t rises least)) (fleets_in t); steps = xs; charges = [] })
      (facts.1 ∙ ap (λ b. steps_of t (paid_price b rises rounds)) is ∙ ap (λ r. steps_of t (paid_price prices rises r)) same),
)
