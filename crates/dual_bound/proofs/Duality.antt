-- Weak duality: worth is no more than the cost of a mixed plan.
use Rattle.std.proofs.Common.{◌≡◌, ℕ, zero, suc, ◌+◌, ◌*◌, ◌<◌, Bool, true, false, if◌then◌else◌, nat_lt, Option, Some, None, ℤ, pos, ◌+ℤ◌, ◌-ℤ◌, ◌*ℤ◌, ◌≤ℤ◌, ◌<ℤ◌, List, refl, sym, ◌∙◌, ap, arith}
use Rattle.std.specs.Prelude.{unwrap_or, int_le}
use Rattle.std.proofs.lemmas.Int.{by_lt_z, ints}
use lib.IntN.{*ℤ-zero, *ℤ_comm, zero-*ℤ}
use Rattle.sums.specs.Below.{sum_below, sum_below_ℤ}
use Rattle.sums.proofs.Integers.{*ℤ-+ℤ, *ℤ--ℤ, *ℤ_assoc, *ℤ_left_comm, +ℤ-*ℤ, one-*ℤ}
use Rattle.sums.proofs.Orders.{factor_le, sum_below_ℤ-le, times_le}
use Rattle.sums.proofs.WholeSums.{*ℤ-sum_below_ℤ, sum_below_ℤ-same}
use Rattle.sums.proofs.WholeSwaps.{sum_below_ℤ-+ℤ, where_true}
use Rattle.fleet_model.specs.declared.tables.Tables.{Tables}
use Rattle.fleet_model.specs.Counts.{Weights, weights_of}
use Rattle.fleet_model.specs.Kept.{Domains}
use Rattle.fleet_model.specs.Legal.{total_cost}
use Rattle.fleet_model.specs.Mixed.{IsWholePlan, IsMixedPlan, mixed_cost, weighted_cost}
use Rattle.fleet_model.specs.Schedule.{IsPair, choices_in, departures_in, fleet_by, fleet_of, fleets_in, leg_of, leg_on, legs_in, pair_on, stations_in}
use Rattle.fleet_model.specs.Times.{departure, laps_of, ready_minute}
use Rattle.fleet_model.proofs.Choices.{exchange_ℤ}
use Rattle.fleet_model.proofs.MixedPlans.{legal_is_mixed}
use Rattle.dual_bound.specs.Duality.{CeilingIsLowerBound, WeakDuality, WorthIsLowerBound, WorthRefutes}
use Rattle.dual_bound.specs.Prices.{ArePrices, price_of, rent_of}
use Rattle.dual_bound.specs.Worth.{cost_units, least_below, leg_worth, lesser, pair_worth, rents_of, where_flown, worth_of}
use Rattle.dual_bound.specs.declared.prices.Prices.{Prices}
use Rattle.dual_bound.proofs.Charges.{charges_at, less_charges_is, where_flown_is}
use Rattle.dual_bound.proofs.Flows.{charges_for, fleet_bound, flow_worth}
use Rattle.dual_bound.proofs.Parking.{all_charges}

-- the lesser of two, once there is a first
pub lesser_le : (o : Option ℤ) (z : ℤ) → (lesser o z ≤ℤ unwrap_or o z) × (lesser o z ≤ℤ z)
lesser_le None z = (omega (arith, ints), omega (arith, ints))
lesser_le (Some y) z = by_test (int_le y z) (λ e. grind (arith, ints)) (λ e. grind (arith, ints))
  where
    by_test : (b : Bool) → (b ≡ true → y ≤ℤ z) → (b ≡ false → z ≤ℤ y) → ((if b then y else z) ≤ℤ y) × ((if b then y else z) ≤ℤ z)
    by_test true p q = (omega (arith, ints), p refl)
    by_test false p q = (q refl, omega (arith, ints))

-- one more weight, on a kept place and on another
one_kept : (w k : ℕ) (least before z sum : ℤ) → (pos w *ℤ before) ≤ℤ sum → least ≤ℤ before → least ≤ℤ z → (pos (w + k) *ℤ least) ≤ℤ (sum +ℤ (pos k *ℤ z))
one_kept w k least before z sum h p q = omega (arith, ints, times_le w least before p, times_le k least z q, +ℤ-*ℤ (pos w) (pos k) least)

one_other : (w k : ℕ) (least z sum : ℤ) → k ≡ 0 → (pos w *ℤ least) ≤ℤ sum → (pos (w + k) *ℤ least) ≤ℤ (sum +ℤ (pos k *ℤ z))
one_other w k least z sum none h = rw none (omega (arith, ints, zero-*ℤ z, zero-*ℤ least, +ℤ-*ℤ (pos w) (pos 0) least))

-- one more place, kept or not
one_more : (b : Bool) (o : Option ℤ) (w k : ℕ) (value sum z : ℤ) → (b ≡ false → k ≡ 0) → ((y : ℤ) → (pos w *ℤ unwrap_or o y) ≤ℤ sum)
    → (pos (w + k) *ℤ unwrap_or (if b then Some (lesser o value) else o) z) ≤ℤ (sum +ℤ (pos k *ℤ value))
one_more true o w k value sum z none before = one_kept w k (lesser o value) (unwrap_or o value) value sum (before value) (lesser_le o value).0 (lesser_le o value).1
one_more false o w k value sum z none before = one_other w k (unwrap_or o z) value sum (none refl) (before z)

-- weights on kept places alone: all of them on the least value are no more than each on its own
weighted_least : (keeps : ℕ → Bool) (value : ℕ → ℤ) (w : ℕ → ℕ) (n : ℕ) (z : ℤ) → ((k : ℕ) → k < n → keeps k ≡ false → w k ≡ 0)
    → (pos (sum_below w n) *ℤ unwrap_or (least_below keeps value n) z) ≤ℤ sum_below_ℤ (λ k. pos (w k) *ℤ value k) n
unfolding least_below
weighted_least keeps value w zero z none = omega (arith, ints, zero-*ℤ z)
weighted_least keeps value w (suc n) z none =
    one_more (keeps n) (least_below keeps value n) (sum_below w n) (w n) (value n) (sum_below_ℤ (λ k. pos (w k) *ℤ value k) n) z
    (none n (omega arith)) (λ y. weighted_least keeps value w n y (λ k below e. none k (omega arith) e))

module _ (t : Tables) (keeps : Domains) (prices : Prices) (q k : ℕ) (w : Weights) (proper : ArePrices t prices) (plan : IsMixedPlan t keeps q w) where
  -- what a leg's pairs are worth by their weights
  weighted : ℕ → ℕ → ℤ
  weighted l c = pos (w (leg_on l c)) *ℤ pair_worth t prices k (leg_on l c)

  -- .. of that what aircraft add, where a fleet flies the pair
  flowing : ℕ → ℕ → ℤ
  flowing l c = where_true (nat_lt (fleet_by t (leg_on l c)) (fleets_in t)) (pos (w (leg_on l c)) *ℤ flow_worth t prices (leg_on l c))

  at_leg : (l : ℕ) → l < legs_in t → (pos q *ℤ leg_worth t keeps prices k l) ≤ℤ sum_below_ℤ (weighted l) (choices_in t l)
  unfolding leg_worth weighted
  at_leg l below =
      let least = weighted_least (λ c. keeps (leg_on l c)) (λ c. pair_worth t prices k (leg_on l c)) (λ c. w (leg_on l c)) (choices_in t l) (pos 0)
      (λ c lt e. plan.kept (leg_on l c) (record { leg = below; choice = lt }) e) in
      rw (plan.cover l below) at least

  -- a pair's weighted worth, by its cost and what aircraft add
  at_pair : (l c : ℕ) → l < legs_in t → c < choices_in t l → weighted l c ≡ (pos k *ℤ prices.scale) *ℤ weighted_cost t w l c +ℤ flowing l c
  unfolding weighted flowing
  at_pair l c below lt =
      let p = leg_on l c in
      let pair : IsPair t p = record { leg = below; choice = lt } in
      let fall = price_of prices (fleet_by t p) (leg_of t l).from (departure t p) -ℤ price_of prices (fleet_by t p) (leg_of t l).to (ready_minute t p) in
      let rent = rent_of prices (fleet_by t p) *ℤ pos (laps_of t p) in
      parts (nat_lt (fleet_by t p) (fleets_in t)) (pos (w p)) (pos k *ℤ prices.scale) (cost_units t p) (where_flown t p fall) (where_flown t p rent) fall rent (where_flown_is t p fall pair) (where_flown_is t p rent pair)
    where
      parts : (b : Bool) (n s c d r fall rent : ℤ) → d ≡ where_true b fall → r ≡ where_true b rent → n *ℤ (((s *ℤ c) +ℤ d) +ℤ r) ≡ (s *ℤ (n *ℤ c)) +ℤ where_true b (n *ℤ (fall +ℤ rent))
      parts true n s c d r fall rent e g =
          omega (arith, ints, *ℤ-+ℤ n ((s *ℤ c) +ℤ d) r, *ℤ-+ℤ n (s *ℤ c) d, *ℤ-+ℤ n fall rent, *ℤ_left_comm n s c, ap (λ x. n *ℤ x) e, ap (λ x. n *ℤ x) g)
      parts false n s c d r fall rent e g =
          omega (arith, ints, *ℤ-+ℤ n ((s *ℤ c) +ℤ d) r, *ℤ-+ℤ n (s *ℤ c) d, *ℤ_left_comm n s c, ap (λ x. n *ℤ x) e, ap (λ x. n *ℤ x) g, *ℤ-zero n)

  on_leg : (l : ℕ) → l < legs_in t → sum_below_ℤ (weighted l) (choices_in t l) ≡ ((pos k *ℤ prices.scale) *ℤ sum_below_ℤ (weighted_cost t w l) (choices_in t l)) +ℤ sum_below_ℤ (flowing l) (choices_in t l)
  on_leg l below =
      sum_below_ℤ-same (weighted l) (λ c. ((pos k *ℤ prices.scale) *ℤ weighted_cost t w l c) +ℤ flowing l c) (choices_in t l) (λ c lt. at_pair l c below lt)
      ∙ sum_below_ℤ-+ℤ (λ c. (pos k *ℤ prices.scale) *ℤ weighted_cost t w l c) (flowing l) (choices_in t l)
      ∙ ap (λ x. x +ℤ sum_below_ℤ (flowing l) (choices_in t l)) (sym (*ℤ-sum_below_ℤ (pos k *ℤ prices.scale) (weighted_cost t w l) (choices_in t l)))

  all_legs : sum_below_ℤ (λ l. sum_below_ℤ (weighted l) (choices_in t l)) (legs_in t) ≡ ((pos k *ℤ prices.scale) *ℤ mixed_cost t w) +ℤ sum_below_ℤ (λ l. sum_below_ℤ (flowing l) (choices_in t l)) (legs_in t)
  unfolding mixed_cost
  all_legs =
      let costs : ℕ → ℤ = λ l. sum_below_ℤ (weighted_cost t w l) (choices_in t l) in
      let flows : ℕ → ℤ = λ l. sum_below_ℤ (flowing l) (choices_in t l) in
      sum_below_ℤ-same (λ l. sum_below_ℤ (weighted l) (choices_in t l)) (λ l. ((pos k *ℤ prices.scale) *ℤ costs l) +ℤ flows l) (legs_in t) on_leg
      ∙ sum_below_ℤ-+ℤ (λ l. (pos k *ℤ prices.scale) *ℤ costs l) flows (legs_in t)
      ∙ ap (λ x. x +ℤ sum_below_ℤ flows (legs_in t)) (sym (*ℤ-sum_below_ℤ (pos k *ℤ prices.scale) costs (legs_in t)))

  -- a fleet's flow is no more than the rents of its aircraft, so many parts each, and the charges for them
  at_fleet : (f : ℕ) → f < fleets_in t → sum_below_ℤ (λ d. pos (w (pair_on t d f)) *ℤ flow_worth t prices (pair_on t d f)) (departures_in t) ≤ℤ ((pos q *ℤ rents_of t prices f) +ℤ charges_for t prices w f)
  at_fleet f below =
      let bound = fleet_bound t prices proper w plan.balanced f (q * (fleet_of t f).aircraft) below (plan.within f below) in
      omega (arith, ints, bound, *ℤ_assoc (pos q) (pos (fleet_of t f).aircraft) (rent_of prices f), ap (λ x. pos q *ℤ x) (*ℤ_comm (pos (fleet_of t f).aircraft) (rent_of prices f)))

  all_flows : sum_below_ℤ (λ l. sum_below_ℤ (flowing l) (choices_in t l)) (legs_in t)
      ≤ℤ ((pos q *ℤ sum_below_ℤ (rents_of t prices) (fleets_in t)) +ℤ (pos q *ℤ sum_below_ℤ (charges_at t prices) (stations_in t)))
  unfolding flowing
  all_flows =
      let by_fleets = exchange_ℤ t (λ p. pos (w p) *ℤ flow_worth t prices p) in
      let each = sum_below_ℤ-le (λ f. sum_below_ℤ (λ d. pos (w (pair_on t d f)) *ℤ flow_worth t prices (pair_on t d f)) (departures_in t)) (λ f. (pos q *ℤ rents_of t prices f) +ℤ charges_for t prices w f) (fleets_in t) at_fleet in
      let added = sum_below_ℤ-+ℤ (λ f. pos q *ℤ rents_of t prices f) (charges_for t prices w) (fleets_in t) in
      omega (arith, ints, by_fleets, each, added, *ℤ-sum_below_ℤ (pos q) (rents_of t prices) (fleets_in t), all_charges t prices proper.within.charges q w plan.room)

  duality : (pos q *ℤ worth_of t keeps prices k) ≤ℤ (pos k *ℤ prices.scale *ℤ mixed_cost t w)
  unfolding worth_of
  duality =
      let each = sum_below_ℤ-le (λ l. pos q *ℤ leg_worth t keeps prices k l) (λ l. sum_below_ℤ (weighted l) (choices_in t l)) (legs_in t) at_leg in
      let legs = *ℤ-sum_below_ℤ (pos q) (leg_worth t keeps prices k) (legs_in t) in
      let before = sum_below_ℤ (leg_worth t keeps prices k) (legs_in t) -ℤ sum_below_ℤ (rents_of t prices) (fleets_in t) in
      let apart = *ℤ--ℤ (pos q) (sum_below_ℤ (leg_worth t keeps prices k) (legs_in t)) (sum_below_ℤ (rents_of t prices) (fleets_in t)) in
      let less = ap (λ x. pos q *ℤ x) (less_charges_is t prices before) ∙ *ℤ--ℤ (pos q) before (sum_below_ℤ (charges_at t prices) (stations_in t)) in
      omega (arith, ints, each, legs, apart, less, all_legs, all_flows)

pub weak_duality : WeakDuality
weak_duality t keeps prices q k w proper plan = duality t keeps prices q k w proper plan

-- a lesser product with one positive factor has a lesser factor
lesser_factor : (d x y : ℤ) → pos 1 ≤ℤ d → (x *ℤ d) <ℤ (d *ℤ y) → x <ℤ y
lesser_factor d x y some h = by_lt_z x y (λ lt. lt) (λ ge. absurd (omega (arith, ints, factor_le d y x (omega (arith, ints)) ge, *ℤ_comm x d)))

-- of a legal assignment, the mixed plan of scale 1
of_legal : (t : Tables) (keeps : Domains) (prices : Prices) (k : ℕ) (a : List ℕ) → ArePrices t prices → IsWholePlan t keeps a
    → worth_of t keeps prices k ≤ℤ ((pos k *ℤ prices.scale) *ℤ total_cost t a)
of_legal t keeps prices k a proper once =
    let dual = duality t keeps prices 1 k (weights_of a) proper once.plan in
    let cost = ap (λ x. (pos k *ℤ prices.scale) *ℤ x) once.cost in
    omega (arith, ints, dual, cost, one-*ℤ (worth_of t keeps prices k))

pub worth_is_lower_bound : WorthIsLowerBound
worth_is_lower_bound t keeps prices a proper kept legal =
    let bound = of_legal t keeps prices 1 a proper (legal_is_mixed t keeps a kept legal) in
    rw one-*ℤ at bound

pub ceiling_is_lower_bound : CeilingIsLowerBound
ceiling_is_lower_bound t keeps prices bound a proper ceiling kept legal =
    let worth = worth_is_lower_bound t keeps prices a proper kept legal in
    let below : (bound -ℤ pos 1) <ℤ total_cost t a = lesser_factor prices.scale (bound -ℤ pos 1) (total_cost t a) proper.scale.some (omega (arith, ints, ceiling.least, worth)) in
    omega (arith, ints, below)

pub worth_refutes : WorthRefutes
worth_refutes t keeps prices a proper above kept legal =
    let bound = of_legal t keeps prices 0 a proper (legal_is_mixed t keeps a kept legal) in
    let nothing = ap (λ x. x *ℤ total_cost t a) (zero-*ℤ prices.scale) ∙ zero-*ℤ (total_cost t a) in
    absurd (omega (arith, ints, bound, nothing, above))
