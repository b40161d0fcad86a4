-- Prices that are paid back are proper, in written order, and worth no less.
use Rattle.std.proofs.Common.{◌≡◌, ℕ, zero, suc, ◌+◌, ◌<◌, ◌≤◌, Bool, true, false, cond, nat_le, List, [], All, length, None, IsSome, ℤ, pos, ◌+ℤ◌, ◌-ℤ◌, ◌*ℤ◌, ◌≤ℤ◌, unsigned_abs, refl, sym, ◌∙◌, ap, ap₂, subst, inl, inr, arith}
use Rattle.std.proofs.lemmas.Bool.{cases_lt, ltb-false, or_parts}
use Rattle.std.proofs.lemmas.Int.{ints}
use Rattle.std.proofs.lemmas.List.Elements.{All-nil}
use Rattle.sums.specs.Places.{list_below}
use Rattle.sums.proofs.Places.{get_or-list_below, length-list_below, nothing_at}
use Rattle.sums.proofs.WholeTerms.{at_least_0}
use Rattle.fleet_model.specs.Kept.{Domains, IsBare}
use Rattle.fleet_model.specs.Legal.{cost_of}
use Rattle.fleet_model.specs.Schedule.{IsFlown, IsPair, fleet_by, fleets_in, last_of, leg_of, leg_on, no_leg, period_of, stations_in}
use Rattle.fleet_model.specs.Times.{busy_minutes, departure, laps_of, ready_minute}
use Rattle.fleet_model.specs.declared.parts.Pair.{Pair}
use Rattle.fleet_model.specs.declared.tables.Tables.{Tables}
use Rattle.fleet_model.proofs.PeriodMinutes.{departs_always, in_period, last_in, some_minutes}
use Rattle.dual_bound.specs.OfTables.{ArePricesOf, IsChargeOf}
use Rattle.dual_bound.specs.Prices.{AreCharges, ArePrices, IsPrice, IsScale, max_price, price_of, rent_of}
use Rattle.dual_bound.specs.Worth.{cost_units, worth_of}
use Rattle.dual_bound.specs.WrittenOrder.{ArePricesInOrder, IsFigure}
use Rattle.dual_bound.specs.declared.prices.Prices.{Prices}
use Rattle.dual_bound.proofs.Charges.{flown_worth, no_rise}
use Rattle.dual_bound.proofs.NoCharges.{none_in_order, none_proper}
use Rattle.island_prices.specs.Paid.{any_below, beyond_at, beyond_of, first_beyond, fleet_if, has_beyond, is_beyond, paid_price, paid_prices, paid_rent}
use Rattle.island_prices.specs.Payback.{AreCovered, AreQuiet, AreRisesApart, PaysBack}
use Rattle.island_prices.specs.Rises.{AreRises, moved_price}
use Rattle.island_prices.specs.Rounds.{price_grown, rent_grown, round_minute, round_number, rounds_of}
use Rattle.island_prices.specs.Steps.{steps_of}
use Rattle.island_prices.specs.declared.rises.Rise.{Rise}
use Rattle.island_prices.specs.declared.rounds.Rounds.{Rounds}
use Rattle.island_prices.proofs.Moves.{rises_at_moment, rises_over_end}
use Rattle.island_prices.proofs.StepOrder.{steps_in_order}
use Rattle.island_prices.proofs.StepPrices.{price_is}
use Rattle.island_prices.proofs.TakenMoments.{grown_at_start, lost_at_end, lost_next, number_at_least_0, reached}
use Rattle.island_prices.proofs.Worth.{no_less, same_worth}

-- ---- none is beyond the limit

none_below : (p : ℕ → Bool) (n k : ℕ) → any_below p n ≡ false → k < n → p k ≡ false
none_below p zero k none below = absurd (omega arith)
none_below p (suc n) k none below = elim (cases_lt k n) [
  | inl less ↦ none_below p n k (or_parts (any_below p n) (p n) none).0 less
  | inr last ↦ let same : n ≡ k = omega arith in subst (λ j. p j ≡ false) same (or_parts (any_below p n) (p n) none).1
]

not_picked : (b : Bool) (f : ℕ) → fleet_if b f ≡ None → b ≡ false
not_picked false f e = refl
not_picked true f e = cc

small : (z : ℤ) → is_beyond z ≡ false → IsPrice z
small z e = let few : unsigned_abs z ≤ max_price = ltb-false max_price (unsigned_abs z) e in record { no_less = omega (arith, ints); no_more = omega (arith, ints) }

module _ (t : Tables) (rent : ℕ → ℤ) (price : ℕ → ℕ → ℕ → ℤ) (fits : first_beyond t rent price (fleets_in t) ≡ None) where
  fleet_fits : (f : ℕ) → f < fleets_in t → has_beyond t rent price f ≡ false
  unfolding first_beyond
  fleet_fits f known = not_picked (has_beyond t rent price f) f (nothing_at (λ g. fleet_if (has_beyond t rent price g) g) (fleets_in t) f fits known)

  pub rent_fits : (f : ℕ) → f < fleets_in t → IsPrice (rent f)
  unfolding has_beyond
  rent_fits f known = small (rent f) (or_parts (is_beyond (rent f)) (beyond_of (period_of t) (price f) (stations_in t)) (fleet_fits f known)).0

  pub price_fits : (f s m : ℕ) → f < fleets_in t → s < stations_in t → m < period_of t → IsPrice (price f s m)
  unfolding has_beyond beyond_of beyond_at
  price_fits f s m known within period =
      small (price f s m)
      (none_below (λ k. is_beyond (price f s k)) (period_of t) m
      (none_below (λ r. any_below (λ k. is_beyond (price f r k)) (period_of t)) (stations_in t) s (or_parts (is_beyond (rent f)) (beyond_of (period_of t) (price f) (stations_in t)) (fleet_fits f known)).1 within) period)

figure : (z : ℤ) → IsPrice z → IsFigure z
figure z is = record { no_less = omega (arith, ints, is.no_less); no_more = omega (arith, ints, is.no_more) }

scale_figure : (z : ℤ) → IsScale z → IsFigure z
scale_figure z is = record { no_less = omega (arith, ints, is.some, is.within); no_more = omega (arith, ints, is.some, is.within) }

-- ---- after some rounds
module _ (t : Tables) (prices : Prices) (rises : List Rise) (least : List ℕ) (are : AreRises t rises) where
  abbrev pub rounds : Rounds
  rounds = rounds_of t rises least

  abbrev pub count : ℕ
  count = length rounds.numbers

  price_after_rounds : ℕ → ℕ → ℕ → ℕ → ℤ
  price_after_rounds n f s m = moved_price prices rises f s m +ℤ price_grown rounds s m n

  rent_after_rounds : ℕ → ℕ → ℤ
  rent_after_rounds n f = rent_of prices f +ℤ rent_grown rounds n

  abbrev prices_after : ℕ → Prices
  prices_after n = record { scale = prices.scale; rents = list_below (rent_after_rounds n) (fleets_in t); steps = steps_of t (price_after_rounds n); charges = [] }

  told_price : (n f s m : ℕ) → f < fleets_in t → s < stations_in t → m < period_of t → price_of (prices_after n) f s m ≡ moved_price prices rises f s m +ℤ price_grown rounds s m n
  unfolding price_after_rounds
  told_price n f s m known within period = price_is t (price_after_rounds n) f s m within period known

  told_rent : (n f : ℕ) → f < fleets_in t → rent_of (prices_after n) f ≡ rent_of prices f +ℤ rent_grown rounds n
  unfolding rent_after_rounds
  told_rent n f known = get_or-list_below (rent_after_rounds n) (fleets_in t) f (pos 0) known

  all_rounds_are : paid_prices t prices rises rounds ≡ prices_after count
  unfolding paid_prices paid_price paid_rent price_after_rounds rent_after_rounds
  all_rounds_are = refl

  paid_price_is : (f s m : ℕ) → paid_price prices rises rounds f s m ≡ moved_price prices rises f s m +ℤ price_grown rounds s m count
  unfolding paid_price
  paid_price_is f s m = refl

  paid_rent_is : (f : ℕ) → paid_rent prices rounds f ≡ rent_of prices f +ℤ rent_grown rounds count
  unfolding paid_rent
  paid_rent_is f = refl

  pub price_told : (f s m : ℕ) → f < fleets_in t → s < stations_in t → m < period_of t → price_of (paid_prices t prices rises rounds) f s m ≡ paid_price prices rises rounds f s m
  price_told f s m known within period = ap (λ p. price_of p f s m) all_rounds_are ∙ told_price count f s m known within period ∙ sym (paid_price_is f s m)

  pub rent_told : (f : ℕ) → f < fleets_in t → rent_of (paid_prices t prices rises rounds) f ≡ paid_rent prices rounds f
  rent_told f known = ap (λ p. rent_of p f) all_rounds_are ∙ told_rent count f known ∙ sym (paid_rent_is f)

  pub scale_stays : (paid_prices t prices rises rounds).scale ≡ prices.scale
  scale_stays = ap (λ p. p.scale) all_rounds_are

  uncharged : (paid_prices t prices rises rounds).charges ≡ []
  uncharged = ap (λ p. p.charges) all_rounds_are

  -- ---- proper
  rents_grow : pos 0 ≤ℤ rent_grown rounds count
  unfolding rent_grown
  rents_grow = at_least_0 (round_number rounds) count (number_at_least_0 t rises are least)

  module _ (apart : AreRisesApart rises) (covered : AreCovered t prices rises) (scale : IsScale prices.scale) (rents : (f : ℕ) → f < fleets_in t → pos 0 ≤ℤ rent_of prices f)
      (fits : first_beyond t (paid_rent prices rounds) (paid_price prices rises rounds) (fleets_in t) ≡ None) where
    falls : (f s m : ℕ) → f < fleets_in t → s < stations_in t → m + 1 < period_of t → paid_price prices rises rounds f s (m + 1) ≤ℤ paid_price prices rises rounds f s m
    falls f s m known within period = omega (
      arith,
      ints,
      paid_price_is f s (m + 1),
      paid_price_is f s m,
      rises_at_moment t prices rises are apart covered f s known within m period,
      reached t rises are least s m within (omega arith),
      lost_next t rises are least s m,
    )

    over_end : (f s : ℕ) → f < fleets_in t → s < stations_in t → paid_price prices rises rounds f s 0 ≤ℤ (paid_price prices rises rounds f s (last_of t) +ℤ paid_rent prices rounds f)
    over_end f s known within = omega (
      arith,
      ints,
      paid_price_is f s 0,
      paid_price_is f s (last_of t),
      paid_rent_is f,
      rises_over_end t prices rises are apart covered f s known within,
      reached t rises are least s (last_of t) within (last_in t),
      lost_at_end t rises are least s (last_of t),
      grown_at_start t rises are least s,
    )

    pub are_proper : ArePrices t (paid_prices t prices rises rounds)
    are_proper = record {
      scale = subst IsScale (sym scale_stays) scale;
      within = record {
        rents = λ f known.
            let size = rent_fits t (paid_rent prices rounds) (paid_price prices rises rounds) fits f known in
            record { some = omega (arith, ints, rent_told f known, paid_rent_is f, rents f known, rents_grow); within = omega (arith, ints, rent_told f known, size.no_more) };
        each = λ f s m known within period. subst IsPrice (sym (price_told f s m known within period)) (price_fits t (paid_rent prices rounds) (paid_price prices rises rounds) fits f s m known within period);
        charges = none_proper t (paid_prices t prices rises rounds) uncharged;
      };
      fall = record {
        each = λ f s m known within period. no_rise t (paid_prices t prices rises rounds) (none_proper t _ uncharged) s m within (omega arith) _ _ (omega (arith, ints, price_told f s (m + 1) known within period, price_told f s m known within (omega arith), falls f s m known within period));
      };
      rise = record {
        each = λ f s known within. no_rise t (paid_prices t prices rises rounds) (none_proper t _ uncharged) s (last_of t) within (last_in t) _ _ (omega (arith, ints, price_told f s 0 known within (some_minutes t), price_told f s (last_of t) known within (last_in t), rent_told f known, over_end f s known within));
      };
    }

    pub are_in_order : ArePricesInOrder t (paid_prices t prices rises rounds)
    unfolding paid_prices
    are_in_order = record {
      scale = scale_figure prices.scale scale;
      one_each = length-list_below (paid_rent prices rounds) (fleets_in t);
      rents = λ k d below.
          let known : k < fleets_in t = omega (arith, below, length-list_below (paid_rent prices rounds) (fleets_in t)) in
          subst IsFigure (sym (get_or-list_below (paid_rent prices rounds) (fleets_in t) k d known)) (figure (paid_rent prices rounds k) (rent_fits t (paid_rent prices rounds) (paid_price prices rises rounds) fits k known));
      steps = steps_in_order t (paid_price prices rises rounds)
          (λ f s m known within period. figure (paid_price prices rises rounds f s m) (price_fits t (paid_rent prices rounds) (paid_price prices rises rounds) fits f s m known within period));
      charges = none_in_order t (paid_prices t prices rises rounds) refl;
    }

    pub are_of_tables : ArePricesOf t (paid_prices t prices rises rounds)
    are_of_tables = record {
      steps = λ k d below. let is = are_in_order.steps.each k d below in record { fleet = is.fleet; station = is.station };
      charges = subst (All (IsChargeOf t)) (sym uncharged) (All-nil (IsChargeOf t));
    }

  -- ---- worth no less
  module _ (charged : AreCharges t prices) (keeps : Domains) (k : ℕ) (some_pair : (l : ℕ) → ¬ (IsBare t keeps l)) (allowed : (p : Pair) → IsPair t p → keeps p ≡ true → IsSome (cost_of t p))
      (flies : (p : Pair) → IsPair t p → keeps p ≡ true → fleet_by t p < fleets_in t) (quiet : AreQuiet t keeps rises)
      (pays : (j : ℕ) → j < count → PaysBack t (λ s. round_minute rounds s j)) where
    not_grown : (s m : ℕ) → price_grown rounds s m 0 ≡ pos 0
    unfolding price_grown
    not_grown s m = refl

    rent_not_grown : rent_grown rounds 0 ≡ pos 0
    unfolding rent_grown
    rent_not_grown = refl

    moves_stay : worth_of t keeps prices k ≤ℤ worth_of t keeps (prices_after 0) k
    moves_stay = same_worth t keeps k prices (prices_after 0) charged refl some_pair
        (λ l c below known kept.
        let p = leg_on l c in
        let pair : IsPair t p = record { leg = below; choice = known } in
        let f = fleet_by t p in
        let by : f < fleets_in t = flies p pair kept in
        let leg = t.in_range.legs_fit.each l no_leg below in
        let flown : IsFlown t p = record { pair = pair; by = by } in
        let out : price_of (prices_after 0) f (leg_of t l).from (departure t p) ≡ price_of prices f (leg_of t l).from (departure t p) =
        omega (arith, ints, told_price 0 f (leg_of t l).from (departure t p) by leg.from (departs_always t p), quiet.departs p flown kept, not_grown (leg_of t l).from (departure t p)) in
        let back : price_of (prices_after 0) f (leg_of t l).to (ready_minute t p) ≡ price_of prices f (leg_of t l).to (ready_minute t p) =
        omega (arith, ints, told_price 0 f (leg_of t l).to (ready_minute t p) by leg.to (in_period t (departure t p + busy_minutes t p)), quiet.lands p flown kept, not_grown (leg_of t l).to (ready_minute t p)) in
        flown_worth t (prices_after 0) k p pair by
        ∙ ap₂ (λ x y. (pos k *ℤ prices.scale *ℤ cost_units t p) +ℤ (x -ℤ y) +ℤ (rent_of (prices_after 0) f *ℤ pos (laps_of t p))) out back
        ∙ ap (λ r. (pos k *ℤ prices.scale *ℤ cost_units t p) +ℤ (price_of prices f (leg_of t l).from (departure t p) -ℤ price_of prices f (leg_of t l).to (ready_minute t p)) +ℤ (r *ℤ pos (laps_of t p))) (rent_stays f by)
        ∙ sym (flown_worth t prices k p pair by))
        rent_stays
      where
        rent_stays : (f : ℕ) → f < fleets_in t → rent_of (prices_after 0) f ≡ rent_of prices f
        rent_stays f known = omega (arith, ints, told_rent 0 f known, rent_not_grown)

    one_round : (n : ℕ) → n < count → worth_of t keeps (prices_after n) k ≤ℤ worth_of t keeps (prices_after (suc n)) k
    unfolding price_grown rent_grown
    one_round n below = no_less t keeps k some_pair allowed flies (prices_after n) (prices_after (suc n)) (none_proper t (prices_after n) refl) refl (round_number rounds n) (number_at_least_0 t rises are least n below) (λ s. round_minute rounds s n) (pays n below) refl
        (λ f s m known within period. omega (arith, ints, told_price n f s m known within period, told_price (suc n) f s m known within period, price_more s m n))
        (λ f known. omega (arith, ints, told_rent n f known, told_rent (suc n) f known, rent_more n))
      where
        price_more : (s m n : ℕ) → price_grown rounds s m (suc n) ≡ price_grown rounds s m n +ℤ cond (nat_le m (round_minute rounds s n)) (round_number rounds n) (pos 0)
        price_more s m n = refl

        rent_more : (n : ℕ) → rent_grown rounds (suc n) ≡ rent_grown rounds n +ℤ round_number rounds n
        rent_more n = refl

    rounds_pay : (n : ℕ) → n ≤ count → worth_of t keeps (prices_after 0) k ≤ℤ worth_of t keeps (prices_after n) k
    rounds_pay zero within = omega (arith, ints)
    rounds_pay (suc n) within = omega (arith, ints, rounds_pay n (omega arith), one_round n (omega arith))

    pub worth_no_less : worth_of t keeps prices k ≤ℤ worth_of t keeps (paid_prices t prices rises rounds) k
    worth_no_less = subst (λ p. worth_of t keeps prices k ≤ℤ worth_of t keeps p k) (sym all_rounds_are) (omega (arith, ints, moves_stay, rounds_pay count (omega arith)))
