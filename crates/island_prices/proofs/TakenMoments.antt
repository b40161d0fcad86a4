-- Rounds: there are few, their numbers are small, and each moment of a rise is taken by one whose number reaches it.
use Rattle.std.proofs.Common.{◌≡◌, ℕ, zero, suc, ◌+◌, ◌*◌, ◌<◌, ◌≤◌, Bool, true, false, cond, ◌==◌, ◌&&◌, nat_le, nat_lt, if◌then◌else◌, List, [], ◌∷◌, ◌++◌, length, get_or, ℤ, pos, ◌+ℤ◌, ◌≤ℤ◌, refl, sym, ◌∙◌, ap, subst, add-one, length-append, arith, inl, inr}
use Rattle.std.proofs.lemmas.Bool.{cases_lt, lt-ltb}
use Rattle.std.proofs.lemmas.Bool.Decides.{nat_tests}
use Rattle.std.proofs.lemmas.Int.{clamps, ints}
use Rattle.std.proofs.lemmas.List.{get_or_append_left}
use Rattle.std.proofs.lemmas.List.FromFn.{filter_of_map_range_with_len_more}
use mathlib.Core.Bool.{false≢true}
use Rattle.sums.specs.Below.{sum_below_ℤ}
use Rattle.sums.specs.Places.{list_below}
use Rattle.sums.proofs.Maxima.{max_below-least, max_below-upper}
use Rattle.sums.proofs.Naturals.{equal_number}
use Rattle.sums.proofs.Orders.{sum_below_ℤ-le}
use Rattle.sums.proofs.Places.{get_or-list_below, length-list_below}
use Rattle.sums.proofs.Tests.{by_test}
use Rattle.sums.proofs.WholeSums.{sum_below_ℤ-same}
use Rattle.sums.proofs.WholeSwaps.{sum_below_ℤ-+ℤ}
use Rattle.sums.proofs.WholeTerms.{at_least_0, term_within}
use Rattle.sums.proofs.Sizes.{not_above_tested}
use Rattle.fleet_model.specs.Schedule.{period_of, stations_in}
use Rattle.fleet_model.specs.declared.tables.Tables.{Tables}
use Rattle.fleet_model.proofs.PeriodMinutes.{at_most_week}
use Rattle.dual_bound.specs.Prices.{max_price}
use Rattle.island_prices.specs.Rises.{AreRises, rise_in}
use Rattle.island_prices.specs.Rounds.{AreSmall, greatest_below, greatest_rise, grown_in, has_rise, moments_at, moments_below, number_of_round, price_grown, rent_grown, rise_moments, rise_taken, rise_where, round_count, round_minute, round_number, rounds_by, rounds_of}
use Rattle.island_prices.specs.declared.rises.Rise.{Rise}
use Rattle.island_prices.specs.declared.rounds.Rounds.{Rounds}
use Rattle.island_prices.proofs.Moves.{as_often, greatest_some, greatest_upper, once}

-- ---- moments
pub one_minute_more : (rises : List Rise) (s n : ℕ) → moments_below rises s (n + 1) ≡ moments_below rises s n ++ (if has_rise rises s n then n ∷ [] else [])
unfolding moments_below
one_minute_more rises s n = filter_of_map_range_with_len_more (has_rise rises s) (λ m. m) 0 n n (omega arith)

pub no_minute : (rises : List Rise) (s : ℕ) → moments_below rises s 0 ≡ []
unfolding moments_below
no_minute rises s = refl

more : (rises : List Rise) (s n : ℕ) → moments_below rises s (suc n) ≡ moments_below rises s n ++ (if has_rise rises s n then n ∷ [] else [])
more rises s n = ap (moments_below rises s) (sym (add-one n)) ∙ one_minute_more rises s n

one_or_none : (b : Bool) (n : ℕ) → length (if b then n ∷ [] else []) ≤ 1
one_or_none true n = omega arith
one_or_none false n = omega arith

few_moments : (rises : List Rise) (s n : ℕ) → length (moments_below rises s n) ≤ n
few_moments rises s zero = omega (arith, ap length (no_minute rises s))
few_moments rises s (suc n) = omega (
  arith,
  ap length (more rises s n),
  length-append (moments_below rises s n) (if has_rise rises s n then n ∷ [] else []),
  few_moments rises s n,
  one_or_none (has_rise rises s n) n,
)

-- each minute to which a rise goes has a place among them
pub record HasPlace (moments : List ℕ) (m : ℕ) : Type 0 where
  pub place : ℕ
  pub within : place < length moments
  pub there : (d : ℕ) → get_or moments place d ≡ m

pub at_end : (xs : List ℕ) (x d : ℕ) → get_or (xs ++ x ∷ []) (length xs) d ≡ x
at_end [] x d = refl
at_end (y ∷ xs) x d = at_end xs x d

pub has_place : (rises : List Rise) (s m n : ℕ) → m < n → has_rise rises s m ≡ true → HasPlace (moments_below rises s n) m
has_place rises s m zero below passes = absurd (omega arith)
has_place rises s m (suc n) below passes = subst (λ xs. HasPlace xs m) (sym (more rises s n)) (elim (cases_lt m n) [
  | inl less ↦
      let before = has_place rises s m n less passes in
      record {
        place = before.place;
        within = omega (arith, before.within, length-append (moments_below rises s n) (if has_rise rises s n then n ∷ [] else []));
        there = λ d. get_or_append_left (moments_below rises s n) (if has_rise rises s n then n ∷ [] else []) d before.place before.within ∙ before.there d;
      }
  | inr last ↦
      let same : n ≡ m = omega arith in
      let here = ap (λ k. has_rise rises s k) same ∙ passes in
      subst (λ b. HasPlace (moments_below rises s n ++ (if b then n ∷ [] else [])) m) (sym here) (record {
        place = length (moments_below rises s n);
        within = omega (arith, length-append (moments_below rises s n) (n ∷ []));
        there = λ d. at_end (moments_below rises s n) n d ∙ same;
      })
])

-- ---- how great numbers are
greatest_small : (g : ℕ → ℤ) (n : ℕ) → ((k : ℕ) → k < n → g k ≤ℤ pos (3 * max_price)) → greatest_below g n ≤ℤ pos (3 * max_price)
greatest_small g zero small = omega (arith, ints)
greatest_small g (suc n) small = omega (arith, ints, clamps, greatest_small g n (λ k below. small k (omega arith)), small n (omega arith))

module _ (t : Tables) (rises : List Rise) (are : AreRises t rises) where
  pub rise_small : (s m : ℕ) → greatest_rise rises s m ≤ℤ pos (3 * max_price)
  unfolding greatest_rise
  rise_small s m = greatest_small (rise_where rises s m) (length rises) (λ i below. by_case (((rise_in rises i).station == s) && ((rise_in rises i).moment == m)) (rise_in rises i).amount (are.each i below).amount.small)
    where
      by_case : (b : Bool) (z : ℤ) → z ≤ℤ pos (3 * max_price) → cond b z (pos 0) ≤ℤ pos (3 * max_price)
      by_case true z small = small
      by_case false z small = omega (arith, ints)

  taken_small : (moments : List (List ℕ)) (j s : ℕ) → rise_taken rises moments j s ≤ℤ pos (3 * max_price)
  taken_small moments j s = by_case (nat_lt j (length (moments_at moments s)))
    where
      by_case : (b : Bool) → cond b (greatest_rise rises s (get_or (moments_at moments s) j 0)) (pos 0) ≤ℤ pos (3 * max_price)
      by_case true = rise_small s (get_or (moments_at moments s) j 0)
      by_case false = omega (arith, ints)

  pub number_small : (moments : List (List ℕ)) (stations j : ℕ) → number_of_round rises moments stations j ≤ℤ pos (3 * max_price)
  unfolding number_of_round
  number_small moments stations j = greatest_small (rise_taken rises moments j) stations (λ s below. taken_small moments j s)

  pub number_some : (moments : List (List ℕ)) (stations j : ℕ) → pos 0 ≤ℤ number_of_round rises moments stations j
  unfolding number_of_round
  number_some moments stations j = greatest_some (rise_taken rises moments j) stations

-- ---- the rounds of rises
pub rounds_from : (t : Tables) (rises : List Rise) (least : List ℕ) (moments seen : List (List ℕ)) (numbers : List ℤ) → moments ≡ list_below (rise_moments t rises) (stations_in t) → seen ≡ moments
    → numbers ≡ list_below (number_of_round rises seen (stations_in t)) (round_count seen (stations_in t))
    → ◌≡◌ {A = Rounds} (record { numbers = numbers; moments = moments; least = least }) (rounds_of t rises least)
unfolding rounds_by
rounds_from t rises least moments seen numbers is same are =
    ap (λ ns. record { numbers = ns; moments = moments; least = least }) are
    ∙ ap (λ ms. record { numbers = list_below (number_of_round rises ms (stations_in t)) (round_count ms (stations_in t)); moments = moments; least = least }) same
    ∙ ap (λ ms. rounds_by rises ms least (stations_in t)) is

module _ (t : Tables) (rises : List Rise) (are : AreRises t rises) (least : List ℕ) where
  abbrev pub all_moments : List (List ℕ)
  all_moments = list_below (rise_moments t rises) (stations_in t)

  abbrev pub all_rounds : Rounds
  all_rounds = rounds_of t rises least

  abbrev pub count : ℕ
  count = length all_rounds.numbers

  moments_are : all_rounds.moments ≡ all_moments
  unfolding rounds_by
  moments_are = refl

  pub count_is : count ≡ round_count all_moments (stations_in t)
  unfolding rounds_by
  count_is = length-list_below (number_of_round rises all_moments (stations_in t)) (round_count all_moments (stations_in t))

  own_moments : (s : ℕ) → s < stations_in t → moments_at all_moments s ≡ rise_moments t rises s
  own_moments s within = get_or-list_below (rise_moments t rises) (stations_in t) s [] within

  pub number_is : (j : ℕ) → j < count → round_number all_rounds j ≡ number_of_round rises all_moments (stations_in t) j
  unfolding rounds_by
  number_is j below = get_or-list_below (number_of_round rises all_moments (stations_in t)) (round_count all_moments (stations_in t)) j (pos 0) (omega (arith, below, count_is))

  pub number_at_least_0 : (j : ℕ) → j < count → pos 0 ≤ℤ round_number all_rounds j
  number_at_least_0 j below = omega (arith, ints, number_is j below, number_some t rises are all_moments (stations_in t) j)

  few : round_count all_moments (stations_in t) ≤ period_of t
  unfolding round_count
  few = max_below-least (λ s. length (moments_at all_moments s)) (period_of t) (stations_in t) (record { each = λ s within. omega (arith, ap length (own_moments s within), few_moments rises s (period_of t)) })

  pub are_small : length least ≡ stations_in t → AreSmall all_rounds
  unfolding rounds_by
  are_small all = record {
    few = omega (arith, few, count_is, at_most_week t);
    each = λ j below. record {
      no_less = omega (arith, ints, number_at_least_0 j below);
      no_more = omega (arith, ints, number_is j below, number_small t rises are all_moments (stations_in t) j);
    };
    stations = all ∙ sym (length-list_below (rise_moments t rises) (stations_in t));
  }

  pub moments_long : length all_rounds.moments ≡ stations_in t
  moments_long = ap length moments_are ∙ length-list_below (rise_moments t rises) (stations_in t)

  -- ---- what a price loses at the end of a minute
  abbrev pub lost_in : ℕ → ℕ → ℕ → ℤ
  lost_in s m j = if round_minute all_rounds s j == m then round_number all_rounds j else pos 0

  abbrev pub lost_at : ℕ → ℕ → ℤ
  lost_at s m = sum_below_ℤ (lost_in s m) count

  on_the_way : (a m : ℕ) → once (nat_le (m + 1) a) + once (a == m) ≡ once (nat_le m a) + once false
  on_the_way a m = grind (arith, nat_tests)

  pub lost_next : (s m : ℕ) → price_grown all_rounds s (m + 1) count +ℤ lost_at s m ≡ price_grown all_rounds s m count
  unfolding price_grown
  lost_next s m =
      sym (sum_below_ℤ-+ℤ (grown_in all_rounds s (m + 1)) (lost_in s m) count)
      ∙ sum_below_ℤ-same (λ j. grown_in all_rounds s (m + 1) j +ℤ lost_in s m j) (grown_in all_rounds s m) count (λ j below.
      let a = round_minute all_rounds s j in
      omega (arith, ints, as_often (nat_le (m + 1) a) (a == m) (nat_le m a) false (round_number all_rounds j) (on_the_way a m)))

  from_start : (a : ℕ) → nat_le 0 a ≡ true
  from_start a = grind (arith, nat_tests)

  pub grown_at_start : (s : ℕ) → price_grown all_rounds s 0 count ≡ rent_grown all_rounds count
  unfolding price_grown rent_grown
  grown_at_start s = sum_below_ℤ-same (grown_in all_rounds s 0) (round_number all_rounds) count (λ j below. ap (λ b. cond b (round_number all_rounds j) (pos 0)) (from_start (round_minute all_rounds s j)))

  pub lost_at_end : (s m : ℕ) → lost_at s m ≤ℤ price_grown all_rounds s m count
  unfolding price_grown
  lost_at_end s m = sum_below_ℤ-le (lost_in s m) (grown_in all_rounds s m) count (λ j below. by_order (round_minute all_rounds s j) m (round_number all_rounds j) (number_at_least_0 j below))
    where
      then_by : (a m : ℕ) → (a == m) ≡ true → nat_le m a ≡ true
      then_by a m e = grind (arith, nat_tests)

      either : (b c : Bool) (z : ℤ) → pos 0 ≤ℤ z → (b ≡ true → c ≡ true) → cond b z (pos 0) ≤ℤ cond c z (pos 0)
      either true true z some implies = omega (arith, ints)
      either true false z some implies = absurd (false≢true (implies refl))
      either false true z some implies = some
      either false false z some implies = omega (arith, ints)

      by_order : (a m : ℕ) (z : ℤ) → pos 0 ≤ℤ z → cond (a == m) z (pos 0) ≤ℤ cond (nat_le m a) z (pos 0)
      by_order a m z some = either (a == m) (nat_le m a) z some (then_by a m)

  -- ---- a rise at a moment is no more than what is lost there

  lost_some : (s m j : ℕ) → j < count → pos 0 ≤ℤ lost_in s m j
  lost_some s m j below = by_case (round_minute all_rounds s j == m)
    where
      by_case : (b : Bool) → pos 0 ≤ℤ cond b (round_number all_rounds j) (pos 0)
      by_case true = number_at_least_0 j below
      by_case false = omega (arith, ints)

  module _ (s m : ℕ) (within : s < stations_in t) (p : HasPlace (rise_moments t rises s) m) where
    place_there : HasPlace (moments_at all_moments s) m
    place_there = subst (λ xs. HasPlace xs m) (sym (own_moments s within)) p

    in_count : place_there.place < count
    unfolding round_count
    in_count = omega (arith, place_there.within, upper, count_is)
      where
        upper : length (moments_at all_moments s) ≤ round_count all_moments (stations_in t)
        upper = max_below-upper (λ r. length (moments_at all_moments r)) (stations_in t) s within

    takes_it : round_minute all_rounds s place_there.place ≡ m
    unfolding rounds_by
    takes_it = place_there.there (get_or least s 0)

    rise_is : rise_taken rises all_moments place_there.place s ≡ greatest_rise rises s m
    rise_is =
        ap (λ b. cond b (greatest_rise rises s (get_or (moments_at all_moments s) place_there.place 0)) (pos 0)) (lt-ltb place_there.place (length (moments_at all_moments s)) place_there.within)
        ∙ ap (greatest_rise rises s) (place_there.there 0)

    number_reaches : greatest_rise rises s m ≤ℤ round_number all_rounds place_there.place
    unfolding number_of_round
    number_reaches = omega (arith, ints, rise_is, upper, number_is place_there.place in_count)
      where
        upper : rise_taken rises all_moments place_there.place s ≤ℤ number_of_round rises all_moments (stations_in t) place_there.place
        upper = greatest_upper (rise_taken rises all_moments place_there.place) (stations_in t) s within

    lost_there : lost_in s m place_there.place ≡ round_number all_rounds place_there.place
    lost_there = ap (λ b. cond b (round_number all_rounds place_there.place) (pos 0)) (equal_number (round_minute all_rounds s place_there.place) m takes_it)

    at_its_place : greatest_rise rises s m ≤ℤ lost_at s m
    at_its_place = omega (arith, ints, number_reaches, lost_there, term_within (lost_in s m) count place_there.place in_count (lost_some s m))

  pub reached : (s m : ℕ) → s < stations_in t → m < period_of t → greatest_rise rises s m ≤ℤ lost_at s m
  reached s m within period = by_test (has_rise rises s m)
      (λ e. at_its_place s m within (has_place rises s m (period_of t) period e))
      (λ e. omega (arith, ints, not_above_tested (greatest_rise rises s m) e, at_least_0 (lost_in s m) count (lost_some s m)))
