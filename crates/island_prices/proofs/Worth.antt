-- A round lowers no worth, and where no kept pair's price changes, the worth stays.
use Rattle.std.proofs.Common.{◌≡◌, ℕ, zero, suc, ◌+◌, ◌<◌, ◌≤◌, Bool, true, false, cond, nat_le, if◌then◌else◌, ℤ, pos, ◌+ℤ◌, ◌-ℤ◌, ◌*ℤ◌, ◌≤ℤ◌, Option, Some, None, IsSome, unwrap_or, ◌⊎◌, [], refl, sym, ◌∙◌, ap, ap₂, subst, arith, inl, inr}
use Rattle.std.specs.Prelude.{int_le}
use Rattle.std.proofs.lemmas.Bool.{cases_lt}
use Rattle.std.proofs.lemmas.Int.{ints}
use lib.IntN.{*ℤ_comm}
use Rattle.sums.specs.Below.{sum_below, sum_below_ℤ}
use Rattle.sums.proofs.Integers.{*ℤ-+ℤ, +ℤ-*ℤ}
use Rattle.sums.proofs.Orders.{factor_le, sum_below_ℤ-le}
use Rattle.sums.proofs.Sums.{sum_below-agree, sum_below-zero}
use Rattle.sums.proofs.Tests.{by_test, no_both}
use Rattle.sums.proofs.WholeSums.{*ℤ-sum_below_ℤ, sum_below_ℤ--ℤ, sum_below_ℤ-pos, sum_below_ℤ-same}
use Rattle.sums.proofs.WholeSwaps.{sum_below_ℤ-+ℤ, sum_below_ℤ-zero}
use Rattle.fleet_model.specs.Kept.{Domains, IsBare}
use Rattle.fleet_model.specs.Legal.{cost_of}
use Rattle.fleet_model.specs.Schedule.{IsPair, choices_in, fleet_by, fleet_of, fleets_in, leg_of, leg_on, legs_in, no_leg, period_of, stations_in}
use Rattle.fleet_model.specs.Times.{busy_minutes, departure, laps_of, ready_minute}
use Rattle.fleet_model.specs.declared.parts.Pair.{Pair}
use Rattle.fleet_model.specs.declared.tables.Tables.{Tables}
use Rattle.fleet_model.proofs.PeriodMinutes.{departs_always, in_period}
use Rattle.dual_bound.specs.Prices.{AreCharges, price_of, rent_of}
use Rattle.dual_bound.specs.Worth.{cost_units, least_below, leg_worth, lesser, pair_worth, rents_of, worth_of}
use Rattle.dual_bound.specs.declared.prices.Prices.{Prices}
use Rattle.dual_bound.proofs.Charges.{flown_worth}
use Rattle.dual_bound.proofs.NoCharges.{uncharged_more}
use Rattle.dual_bound.proofs.Duality.{lesser_le}
use Rattle.node_aggregate.specs.island_cut.Spare.{aircraft_in}
use Rattle.node_aggregate.specs.island_cut.IslandLaws.{AreChoicesFor, left_by, ready_by}
use Rattle.island_prices.specs.Payback.{PaysBack}
use Rattle.island_prices.proofs.Moves.{once, times}

-- ---- the least of a leg's kept pairs
-- a kept place at which it is attained
pub record IsLeastAt (keeps : ℕ → Bool) (f : ℕ → ℤ) (n at : ℕ) : Type 0 where
  pub within : at < n
  pub kept : keeps at ≡ true
  pub is : least_below keeps f n ≡ Some (f at)

pick_lesser : (o : Option ℤ) (z : ℤ) → (lesser o z ≡ z) ⊎ (o ≡ Some (lesser o z))
pick_lesser None z = inl refl
pick_lesser (Some y) z = by_case (int_le y z)
  where
    by_case : (b : Bool) → (cond b y z ≡ z) ⊎ (Some y ≡ Some (cond b y z))
    by_case true = inr refl
    by_case false = inl refl

none_kept : (keeps : ℕ → Bool) (f : ℕ → ℤ) (n : ℕ) → least_below keeps f n ≡ None → (k : ℕ) → k < n → keeps k ≡ false
unfolding least_below
none_kept keeps f zero none k below = absurd (omega arith)
none_kept keeps f (suc n) none k below = by_test (keeps n)
    (λ e. absurd (some_none (sym (ap (λ b. cond b (Some (lesser (least_below keeps f n) (f n))) (least_below keeps f n)) e) ∙ none)))
    (λ e. elim (cases_lt k n) [
      | inl less ↦ none_kept keeps f n (sym (ap (λ b. cond b (Some (lesser (least_below keeps f n) (f n))) (least_below keeps f n)) e) ∙ none) k less
      | inr last ↦ let same : n ≡ k = omega arith in subst (λ j. keeps j ≡ false) same e
    ])
  where
    some_none : {x : ℤ} → Some x ≡ None → ⊥
    some_none e = cc

attained : (keeps : ℕ → Bool) (f : ℕ → ℤ) (n : ℕ) (z : ℤ) → least_below keeps f n ≡ Some z → (at : ℕ) × IsLeastAt keeps f n at
unfolding least_below
attained keeps f zero z some = absurd (none_is some)
  where
    none_is : {x : ℤ} → None ≡ Some x → ⊥
    none_is e = cc
attained keeps f (suc n) z some = by_test (keeps n)
    (λ e.
    let here : least_below keeps f (suc n) ≡ Some (lesser (least_below keeps f n) (f n)) = ap (λ b. cond b (Some (lesser (least_below keeps f n) (f n))) (least_below keeps f n)) e in
    elim (pick_lesser (least_below keeps f n) (f n)) [
      | inl last ↦ (n, record { within = omega arith; kept = e; is = here ∙ ap Some last })
      | inr before ↦
          let rest = attained keeps f n (lesser (least_below keeps f n) (f n)) before in
          (rest.0, record { within = omega (arith, rest.1.within); kept = rest.1.kept; is = here ∙ sym before ∙ rest.1.is })
    ])
    (λ e.
    let here : least_below keeps f (suc n) ≡ least_below keeps f n = ap (λ b. cond b (Some (lesser (least_below keeps f n) (f n))) (least_below keeps f n)) e in
    let rest = attained keeps f n z (sym here ∙ some) in
    (rest.0, record { within = omega (arith, rest.1.within); kept = rest.1.kept; is = here ∙ rest.1.is }))

-- it is no more than any kept one
no_more : (keeps : ℕ → Bool) (f : ℕ → ℤ) (n k : ℕ) (d : ℤ) → k < n → keeps k ≡ true → unwrap_or (least_below keeps f n) d ≤ℤ f k
unfolding least_below
no_more keeps f zero k d below kept = absurd (omega arith)
no_more keeps f (suc n) k d below kept = by_test (keeps n)
    (λ e. subst (λ b. unwrap_or (cond b (Some (lesser (least_below keeps f n) (f n))) (least_below keeps f n)) d ≤ℤ f k) (sym e) (elim (cases_lt k n) [
      | inl less ↦ omega (arith, ints, no_more keeps f n k (f n) less kept, (lesser_le (least_below keeps f n) (f n)).0)
      | inr last ↦ let same : n ≡ k = omega arith in subst (λ j. lesser (least_below keeps f n) (f n) ≤ℤ f j) same (lesser_le (least_below keeps f n) (f n)).1
    ]))
    (λ e. subst (λ b. unwrap_or (cond b (Some (lesser (least_below keeps f n) (f n))) (least_below keeps f n)) d ≤ℤ f k) (sym e) (elim (cases_lt k n) [
      | inl less ↦ no_more keeps f n k d less kept
      | inr last ↦ let same : n ≡ k = omega arith in absurd (no_both e (ap keeps same ∙ kept))
    ]))

-- ---- two prices, where each kept pair is worth so much more by the second
module _ (t : Tables) (keeps : Domains) (k : ℕ) (some_pair : (l : ℕ) → ¬ (IsBare t keeps l)) (prices other : Prices) (extra : ℕ → ℕ → ℤ)
    (pairs : (l c : ℕ) → l < legs_in t → c < choices_in t l → keeps (leg_on l c) ≡ true → pair_worth t other k (leg_on l c) ≡ pair_worth t prices k (leg_on l c) +ℤ extra l c) where
  abbrev IsChosen : ℕ → ℕ → Type 0
  IsChosen l c = IsLeastAt (λ g. keeps (leg_on l g)) (λ g. pair_worth t other k (leg_on l g)) (choices_in t l) c

  choice : (l : ℕ) → l < legs_in t → (c : ℕ) × IsChosen l c
  choice l below = by_least (least_below (λ g. keeps (leg_on l g)) (λ g. pair_worth t other k (leg_on l g)) (choices_in t l)) refl
    where
      bare : least_below (λ g. keeps (leg_on l g)) (λ g. pair_worth t other k (leg_on l g)) (choices_in t l) ≡ None → IsBare t keeps l
      bare none = record {
        within = below;
        none = sum_below-agree (λ c. if keeps (leg_on l c) then 1 else 0) (λ c. 0) (choices_in t l) (record {
          each = λ c known. ap (λ b. if b then 1 else 0) (none_kept (λ g. keeps (leg_on l g)) (λ g. pair_worth t other k (leg_on l g)) (choices_in t l) none c known);
        })
            ∙ sum_below-zero (choices_in t l);
      }

      by_least : (o : Option ℤ) → least_below (λ g. keeps (leg_on l g)) (λ g. pair_worth t other k (leg_on l g)) (choices_in t l) ≡ o → (c : ℕ) × IsChosen l c
      by_least None none = absurd (some_pair l (bare none))
      by_least (Some z) is = attained (λ g. keeps (leg_on l g)) (λ g. pair_worth t other k (leg_on l g)) (choices_in t l) z is

  chosen_by : (l : ℕ) → (l < legs_in t) ⊎ (legs_in t ≤ l) → ℕ
  chosen_by l (inl below) = (choice l below).0
  chosen_by l (inr past) = 0

  -- of each leg the choice that is worth least by the second
  pub chosen : ℕ → ℕ
  chosen l = chosen_by l (cases_lt l (legs_in t))

  pub is_chosen : (l : ℕ) → l < legs_in t → IsChosen l (chosen l)
  unfolding chosen chosen_by choice
  is_chosen l below = by_case (cases_lt l (legs_in t))
    where
      by_case : (c : (l < legs_in t) ⊎ (legs_in t ≤ l)) → IsChosen l (chosen_by l c)
      by_case (inl there) = (choice l there).1
      by_case (inr past) = absurd (omega arith)

  leg_gains : (l : ℕ) → l < legs_in t → (leg_worth t keeps prices k l +ℤ extra l (chosen l)) ≤ℤ leg_worth t keeps other k l
  unfolding leg_worth
  leg_gains l below =
      let at = is_chosen l below in
      let first = no_more (λ g. keeps (leg_on l g)) (λ g. pair_worth t prices k (leg_on l g)) (choices_in t l) (chosen l) (pos 0) at.within at.kept in
      let second : unwrap_or (least_below (λ g. keeps (leg_on l g)) (λ g. pair_worth t other k (leg_on l g)) (choices_in t l)) (pos 0) ≡ pair_worth t other k (leg_on l (chosen l)) = ap (λ o. unwrap_or o (pos 0)) at.is in
      omega (arith, ints, first, second, pairs l (chosen l) below at.within at.kept)

  pub legs_gain : (sum_below_ℤ (leg_worth t keeps prices k) (legs_in t) +ℤ sum_below_ℤ (λ l. extra l (chosen l)) (legs_in t)) ≤ℤ sum_below_ℤ (leg_worth t keeps other k) (legs_in t)
  legs_gain =
      subst (λ z. z ≤ℤ sum_below_ℤ (leg_worth t keeps other k) (legs_in t)) (sum_below_ℤ-+ℤ (leg_worth t keeps prices k) (λ l. extra l (chosen l)) (legs_in t))
      (sum_below_ℤ-le (λ l. leg_worth t keeps prices k l +ℤ extra l (chosen l)) (leg_worth t keeps other k) (legs_in t) leg_gains)

-- ---- where each kept pair is worth the same
pub same_worth : (t : Tables) (keeps : Domains) (k : ℕ) (prices other : Prices) → AreCharges t prices → other.charges ≡ [] → ((l : ℕ) → ¬ (IsBare t keeps l))
    → ((l c : ℕ) → l < legs_in t → c < choices_in t l → keeps (leg_on l c) ≡ true → pair_worth t other k (leg_on l c) ≡ pair_worth t prices k (leg_on l c))
    → ((f : ℕ) → f < fleets_in t → rent_of other f ≡ rent_of prices f) → worth_of t keeps prices k ≤ℤ worth_of t keeps other k
unfolding worth_of
same_worth t keeps k prices other charged none_charged some pairs rents =
    let none : (l c : ℕ) → l < legs_in t → c < choices_in t l → keeps (leg_on l c) ≡ true → pair_worth t other k (leg_on l c) ≡ pair_worth t prices k (leg_on l c) +ℤ pos 0 =
    λ l c below known kept. omega (arith, ints, pairs l c below known kept) in
    let legs = legs_gain t keeps k some prices other (λ l c. pos 0) none in
    let paid = sum_below_ℤ-same (rents_of t other) (rents_of t prices) (fleets_in t) (λ f known. ap (λ r. r *ℤ pos (fleet_of t f).aircraft) (rents f known)) in
    uncharged_more t prices other _ _ charged none_charged (omega (arith, ints, legs, sum_below_ℤ-zero (legs_in t), paid))

-- ---- a round
module _ (t : Tables) (keeps : Domains) (k : ℕ) (some_pair : (l : ℕ) → ¬ (IsBare t keeps l)) (allowed : (p : Pair) → IsPair t p → keeps p ≡ true → IsSome (cost_of t p)) (flies : (p : Pair) → IsPair t p → keeps p ≡ true → fleet_by t p < fleets_in t) (prices other : Prices) (charged : AreCharges t prices) (none_charged : other.charges ≡ [])
    (number : ℤ) (at_least_0 : pos 0 ≤ℤ number) (at : ℕ → ℕ) (pays : PaysBack t at) (scale : other.scale ≡ prices.scale)
    (grown : (f s m : ℕ) → f < fleets_in t → s < stations_in t → m < period_of t → price_of other f s m ≡ price_of prices f s m +ℤ cond (nat_le m (at s)) number (pos 0))
    (rents : (f : ℕ) → f < fleets_in t → rent_of other f ≡ rent_of prices f +ℤ number) where
  -- by how much a pair is worth more
  abbrev extra : ℕ → ℕ → ℤ
  extra l f = ((number *ℤ pos (laps_of t (leg_on l f))) +ℤ (number *ℤ pos (left_by t at (leg_on l f)))) -ℤ (number *ℤ pos (ready_by t at (leg_on l f)))

  times_number : (b : Bool) → cond b number (pos 0) ≡ number *ℤ pos (once b)
  times_number b = times b number ∙ *ℤ_comm (pos (once b)) number

  parts : (c p q r l x y : ℤ) → c +ℤ ((p +ℤ x) -ℤ (q +ℤ y)) +ℤ ((r +ℤ number) *ℤ l) ≡ (c +ℤ (p -ℤ q) +ℤ (r *ℤ l)) +ℤ (((number *ℤ l) +ℤ x) -ℤ y)
  parts c p q r l x y = omega (arith, ints, +ℤ-*ℤ r number l)

  pair_gains : (l c : ℕ) → l < legs_in t → c < choices_in t l → keeps (leg_on l c) ≡ true → pair_worth t other k (leg_on l c) ≡ pair_worth t prices k (leg_on l c) +ℤ extra l c
  pair_gains l c below known kept =
      let p = leg_on l c in
      let pair : IsPair t p = record { leg = below; choice = known } in
      let f = fleet_by t p in
      let by : f < fleets_in t = flies p pair kept in
      let leg = t.in_range.legs_fit.each l no_leg below in
      let out = grown f (leg_of t l).from (departure t p) by leg.from (departs_always t p) ∙ ap (λ z. price_of prices f (leg_of t l).from (departure t p) +ℤ z) (times_number (nat_le (departure t p) (at (leg_of t l).from))) in
      let back = grown f (leg_of t l).to (ready_minute t p) by leg.to (in_period t (departure t p + busy_minutes t p)) ∙ ap (λ z. price_of prices f (leg_of t l).to (ready_minute t p) +ℤ z) (times_number (nat_le (ready_minute t p) (at (leg_of t l).to))) in
      flown_worth t other k p pair by
      ∙ ap₂ (λ s z. (pos k *ℤ s *ℤ cost_units t p) +ℤ (z -ℤ price_of other f (leg_of t l).to (ready_minute t p)) +ℤ (rent_of other f *ℤ pos (laps_of t p))) scale out
      ∙ ap₂ (λ z r. (pos k *ℤ prices.scale *ℤ cost_units t p) +ℤ ((price_of prices f (leg_of t l).from (departure t p) +ℤ (number *ℤ pos (left_by t at p))) -ℤ z) +ℤ (r *ℤ pos (laps_of t p))) back (rents f by)
      ∙ parts (pos k *ℤ prices.scale *ℤ cost_units t p) (price_of prices f (leg_of t l).from (departure t p)) (price_of prices f (leg_of t l).to (ready_minute t p)) (rent_of prices f) (pos (laps_of t p))
      (number *ℤ pos (left_by t at p)) (number *ℤ pos (ready_by t at p))
      ∙ ap (λ z. z +ℤ extra l c) (sym (flown_worth t prices k p pair by))

  abbrev fleets : ℕ → ℕ
  fleets = chosen t keeps k some_pair prices other extra pair_gains

  are_for : AreChoicesFor t fleets
  are_for = record {
    known = λ l below. let is = is_chosen t keeps k some_pair prices other extra pair_gains l below in let pair : IsPair t (leg_on l (fleets l)) = record { leg = below; choice = is.within } in record { pair = pair; by = flies (leg_on l (fleets l)) pair is.kept };
    allowed = λ l below.
        let is = is_chosen t keeps k some_pair prices other extra pair_gains l below in
        allowed (leg_on l (fleets l)) (record { leg = below; choice = is.within }) is.kept;
  }

  abbrev laps : ℕ → ℕ
  laps l = laps_of t (leg_on l (fleets l))

  abbrev left : ℕ → ℕ
  left l = left_by t at (leg_on l (fleets l))

  abbrev come : ℕ → ℕ
  come l = ready_by t at (leg_on l (fleets l))

  -- the sum over legs of what they gain
  all_extra : sum_below_ℤ (λ l. extra l (fleets l)) (legs_in t)
      ≡ ((number *ℤ pos (sum_below laps (legs_in t))) +ℤ (number *ℤ pos (sum_below left (legs_in t)))) -ℤ (number *ℤ pos (sum_below come (legs_in t)))
  all_extra =
      sum_below_ℤ--ℤ (λ l. (number *ℤ pos (laps l)) +ℤ (number *ℤ pos (left l))) (λ l. number *ℤ pos (come l)) (legs_in t)
      ∙ ap₂ (λ x y. x -ℤ y) (sum_below_ℤ-+ℤ (λ l. number *ℤ pos (laps l)) (λ l. number *ℤ pos (left l)) (legs_in t) ∙ ap₂ (λ x y. x +ℤ y) (counted laps) (counted left)) (counted come)
    where
      counted : (h : ℕ → ℕ) → sum_below_ℤ (λ l. number *ℤ pos (h l)) (legs_in t) ≡ number *ℤ pos (sum_below h (legs_in t))
      counted h = sym (*ℤ-sum_below_ℤ number (λ l. pos (h l)) (legs_in t)) ∙ ap (λ z. number *ℤ z) (sum_below_ℤ-pos h (legs_in t))

  all_rents : sum_below_ℤ (rents_of t other) (fleets_in t) ≡ sum_below_ℤ (rents_of t prices) (fleets_in t) +ℤ (number *ℤ pos (aircraft_in t))
  all_rents =
      sum_below_ℤ-same (rents_of t other) (λ f. rents_of t prices f +ℤ (number *ℤ pos (fleet_of t f).aircraft)) (fleets_in t)
      (λ f known. ap (λ r. r *ℤ pos (fleet_of t f).aircraft) (rents f known) ∙ +ℤ-*ℤ (rent_of prices f) number (pos (fleet_of t f).aircraft))
      ∙ sum_below_ℤ-+ℤ (rents_of t prices) (λ f. number *ℤ pos (fleet_of t f).aircraft) (fleets_in t)
      ∙ ap (λ z. sum_below_ℤ (rents_of t prices) (fleets_in t) +ℤ z) (sym (*ℤ-sum_below_ℤ number (λ f. pos (fleet_of t f).aircraft) (fleets_in t)) ∙ ap (λ z. number *ℤ z) (sum_below_ℤ-pos (λ f. (fleet_of t f).aircraft) (fleets_in t)))

  -- the worth is no less
  pub no_less : worth_of t keeps prices k ≤ℤ worth_of t keeps other k
  unfolding worth_of
  no_less = uncharged_more t prices other _ _ charged none_charged (omega (arith, ints, legs_gain t keeps k some_pair prices other extra pair_gains, all_extra, all_rents, law))
    where
      split : (a b : ℕ) → number *ℤ pos (a + b) ≡ (number *ℤ pos a) +ℤ (number *ℤ pos b)
      split a b = *ℤ-+ℤ number (pos a) (pos b)

      as_whole : (a b c d : ℕ) → a + b ≤ c + d → ((number *ℤ pos a) +ℤ (number *ℤ pos b)) ≤ℤ ((number *ℤ pos c) +ℤ (number *ℤ pos d))
      as_whole a b c d order = omega (arith, ints, split a b, split c d, factor_le number (pos (a + b)) (pos (c + d)) at_least_0 (more (a + b) (c + d) order))
        where
          more : (m n : ℕ) → m ≤ n → pos m ≤ℤ pos n
          more m n order = omega (arith, ints)

      law : ((number *ℤ pos (aircraft_in t)) +ℤ (number *ℤ pos (sum_below come (legs_in t)))) ≤ℤ ((number *ℤ pos (sum_below laps (legs_in t))) +ℤ (number *ℤ pos (sum_below left (legs_in t))))
      law = as_whole (aircraft_in t) (sum_below come (legs_in t)) (sum_below laps (legs_in t)) (sum_below left (legs_in t)) (pays.each fleets are_for)
