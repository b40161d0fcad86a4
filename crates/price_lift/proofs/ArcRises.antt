-- The rises by the numbers of nodes are those over all arcs that went, each once.
use Rattle.std.proofs.Common.{◌≡◌, ◌≢◌, ℕ, ◌+◌, ◌*◌, ◌<◌, ◌≤◌, Bool, true, int_lt, List, length, get_or, Option, Some, None, unwrap_or, ℤ, pos, ◌<ℤ◌, refl, sym, ◌∙◌, ap, ap₂, subst, inl, inr, arith}
use Rattle.std.proofs.lemmas.Bool.{cases_lt}
use Rattle.std.proofs.lemmas.Int.{ints}
use Rattle.std.proofs.Math.Nat.{mul-le-mul_right}
use mathlib.Core.Bool.{false≢true}
use Rattle.sums.proofs.Sums.{sum_below-bound}
use Rattle.sums.proofs.Sizes.{above_tested}
use Rattle.fleet_model.specs.Schedule.{days_in, fleets_in, period_of, stations_in}
use Rattle.fleet_model.proofs.PeriodMinutes.{days_are_period}
use Rattle.fleet_model.specs.declared.limits.TheConstants.{MAX_STATIONS}
use Rattle.fleet_model.specs.Period.{minutes_of}
use Rattle.fleet_model.specs.declared.tables.Tables.{Tables}
use Rattle.lp_rows.specs.Layout.{Starts, all_nodes, node_of_number, node_of_place}
use Rattle.lp_rows.specs.Points.{node_count}
use Rattle.lp_rows.specs.declared.kinds.Node.{Node}
use Rattle.lp_rows.proofs.Counted.{nodes_are}
use Rattle.lp_rows.proofs.LinePlaces.{before, node_number, node_there, node_within, nodes_in}
use Rattle.dual_bound.specs.declared.prices.Prices.{Prices}
use Rattle.island_prices.specs.Arcs.{ArcMoments, AreArcRises, HasRise, IsOfArc, arc_rise, goes_up, rise_over, shift_over}
use Rattle.island_prices.specs.Rises.{no_rise, rise_in}
use Rattle.island_prices.specs.declared.rises.Rise.{Rise}
use Rattle.island_prices.specs.declared.rises.TheConstants.{MAX_RISES}
use Rattle.price_lift.specs.ArcRises.{rises_by}
use Rattle.price_lift.proofs.OptionalEntries.{few_there, number_at, rank, stands}

-- ---- numbers of nodes
few_nodes : (t : Tables) (starts : Starts) → days_in t ≡ 1 → ((f s : ℕ) → f < fleets_in t → s < stations_in t → length (starts f s) ≤ period_of t) → node_count t starts ≤ MAX_RISES
few_nodes t starts one few = omega (
  arith,
  sum_below-bound (nodes_in t starts) (MAX_STATIONS * minutes_of 1) (fleets_in t) (record { each = in_fleet }),
  mul-le-mul_right (MAX_STATIONS * minutes_of 1) t.in_range.fleets_fit.few,
)
  where
    one_day : period_of t ≡ minutes_of 1
    one_day = omega (arith, days_are_period t, one)

    in_fleet : (f : ℕ) → f < fleets_in t → nodes_in t starts f ≤ MAX_STATIONS * minutes_of 1
    in_fleet f known = omega (
      arith,
      sum_below-bound (λ s. length (starts f s)) (minutes_of 1) (stations_in t) (record { each = λ s within. omega (arith, few f s known within, one_day) }),
      mul-le-mul_right (minutes_of 1) t.in_range.stations_fit.few,
    )

-- ---- where a price rises over an arc
pub record GoesUp (prices : Prices) (starts : List ℕ) (f s k : ℕ) (moment : Option ℕ) : Type 0 where
  pub at : ℕ
  pub went : moment ≡ Some at
  pub some : pos 0 <ℤ rise_over prices starts f s k

up : (prices : Prices) (starts : List ℕ) (f s k : ℕ) (moment : Option ℕ) → goes_up prices starts f s k moment ≡ true → GoesUp prices starts f s k moment
up prices starts f s k None e = absurd (false≢true e)
up prices starts f s k (Some m) e = record { at = m; went = refl; some = above_tested (rise_over prices starts f s k) e }

up_there : (prices : Prices) (starts : List ℕ) (f s k m : ℕ) (moment : Option ℕ) → moment ≡ Some m → pos 0 <ℤ rise_over prices starts f s k → goes_up prices starts f s k moment ≡ true
up_there prices starts f s k m None went some = absurd (clash went)
  where
    clash : None ≡ Some m → ⊥
    clash e = cc
up_there prices starts f s k m (Some a) went some = tested (rise_over prices starts f s k) some
  where
    tested : (z : ℤ) → pos 0 <ℤ z → int_lt (pos 0) z ≡ true
    tested z some = grind (arith, ints)

module _ (t : Tables) (starts : Starts) (moment : ArcMoments) (prices : Prices) where
  abbrev there_at : Node → Bool
  there_at n = goes_up prices (starts n.fleet n.station) n.fleet n.station n.place (moment n.fleet n.station n.place)

  abbrev entry_at : Node → Rise
  entry_at n = arc_rise t prices (starts n.fleet n.station) n.fleet n.station n.place (unwrap_or (moment n.fleet n.station n.place) 0)

  abbrev there : ℕ → Bool
  there k = there_at (node_of_number t starts k)

  abbrev entry : ℕ → Rise
  entry k = entry_at (node_of_number t starts k)

  abbrev all : List Rise
  all = rises_by t starts moment prices

  abbrev total : ℕ
  total = length (all_nodes t starts)

  -- the rise at a place is that over the arc of a node
  record IsAt (i : ℕ) : Type 0 where
    number : ℕ
    fleet : ℕ
    station : ℕ
    place : ℕ
    minute : ℕ
    known : fleet < fleets_in t
    within : station < stations_in t
    below : place < length (starts fleet station)
    is : number ≡ before t starts fleet station + place
    ranks : rank there entry number ≡ i
    went : moment fleet station place ≡ Some minute
    some : pos 0 <ℤ rise_over prices (starts fleet station) fleet station place
    same : rise_in all i ≡ arc_rise t prices (starts fleet station) fleet station place minute

  is_at : (i : ℕ) → i < length all → IsAt i
  is_at i below =
      let at = number_at there entry total i below in
      let n = node_number t starts at.0 (omega (arith, at.1, nodes_are t starts)) in
      let node : node_of_number t starts at.0 ≡ node_of_place n.fleet n.station n.place = ap (λ k. get_or (all_nodes t starts) k (node_of_place 0 0 0)) n.is ∙ node_there t starts n.fleet n.station n.place (node_of_place 0 0 0) n.known n.within n.below in
      let goes = up prices (starts n.fleet n.station) n.fleet n.station n.place (moment n.fleet n.station n.place) (sym (ap there_at node) ∙ at.2) in
      let stand = stands there entry total at.0 no_rise at.1 at.2 in
      record {
        number = at.0;
        fleet = n.fleet;
        station = n.station;
        place = n.place;
        minute = goes.at;
        known = n.known;
        within = n.within;
        below = n.below;
        is = n.is;
        ranks = at.3;
        went = goes.went;
        some = goes.some;
        same =
            ap (λ j. get_or all j no_rise) (sym at.3) ∙ stand.1 ∙ ap entry_at node
            ∙ ap (λ o. arc_rise t prices (starts n.fleet n.station) n.fleet n.station n.place (unwrap_or o 0)) goes.went;
      }

  of_arc : (i : ℕ) → i < length all → IsOfArc t prices starts moment (rise_in all i)
  of_arc i below =
      let at = is_at i below in
      let back = sym at.same in
      record {
        fleet = subst (λ r. r.fleet < fleets_in t) back at.known;
        station = subst (λ r. r.station < stations_in t) back at.within;
        place = at.place;
        within = subst (λ r. at.place < length (starts r.fleet r.station)) back at.below;
        went = subst (λ r. moment r.fleet r.station at.place ≡ Some r.moment) back at.went;
        shift = subst (λ r. r.shift ≡ shift_over t (starts r.fleet r.station) at.place r.moment) back refl;
        amount = subst (λ r. r.amount ≡ rise_over prices (starts r.fleet r.station) r.fleet r.station at.place) back refl;
        some = subst (λ r. pos 0 <ℤ r.amount) back at.some;
      }

  has_rise : (f s k m : ℕ) → f < fleets_in t → s < stations_in t → k < length (starts f s) → moment f s k ≡ Some m → pos 0 <ℤ rise_over prices (starts f s) f s k → HasRise t prices (starts f s) f s k m all
  has_rise f s k m known within below went some =
      let number = before t starts f s + k in
      let inside : number < total = omega (arith, nodes_are t starts, node_within t starts f s k known within below) in
      let node = node_there t starts f s k (node_of_place 0 0 0) known within below in
      let here : there number ≡ true = ap there_at node ∙ up_there prices (starts f s) f s k m (moment f s k) went some in
      let stand = stands there entry total number no_rise inside here in
      let same : rise_in all (rank there entry number) ≡ arc_rise t prices (starts f s) f s k m = stand.1 ∙ ap entry_at node ∙ ap (λ o. arc_rise t prices (starts f s) f s k (unwrap_or o 0)) went in
      record {
        at = rank there entry number;
        within = stand.0;
        fleet = ap (λ r. r.fleet) same;
        station = ap (λ r. r.station) same;
        shift = ap (λ r. r.shift) same;
        amount = ap (λ r. r.amount) same;
      }

  each_once : (i j : ℕ) (first : i < length all) (below : j < length all) → i < j → (rise_in all i).fleet ≡ (rise_in all j).fleet → (rise_in all i).station ≡ (rise_in all j).station → (is_at i first).place ≢ (is_at j below).place
  each_once i j first below order fleet station same =
      let one = is_at i first in
      let other = is_at j below in
      let fleets : one.fleet ≡ other.fleet = sym (ap (λ r. r.fleet) one.same) ∙ fleet ∙ ap (λ r. r.fleet) other.same in
      let stations : one.station ≡ other.station = sym (ap (λ r. r.station) one.same) ∙ station ∙ ap (λ r. r.station) other.same in
      let numbers : one.number ≡ other.number = one.is ∙ ap₂ (λ f s. before t starts f s + one.place) fleets stations ∙ ap (λ p. before t starts other.fleet other.station + p) same ∙ sym other.is in
      omega (arith, order, one.ranks, other.ranks, ap (rank there entry) numbers)

  -- an arc goes in a period of one day alone
  few_rises : ((f s k m : ℕ) → moment f s k ≡ Some m → days_in t ≡ 1) → ((f s : ℕ) → f < fleets_in t → s < stations_in t → length (starts f s) ≤ period_of t) → length all ≤ MAX_RISES
  few_rises one_day few = elim (cases_lt 0 (length all)) [
    | inl some ↦
        let first = is_at 0 some in
        omega (arith, few_there there entry total, nodes_are t starts, few_nodes t starts (one_day first.fleet first.station first.place first.minute first.went) few)
    | inr none ↦ omega (arith, none)
  ]

  pub are_arc_rises : ((f s k m : ℕ) → moment f s k ≡ Some m → days_in t ≡ 1) → ((f s : ℕ) → f < fleets_in t → s < stations_in t → length (starts f s) ≤ period_of t) → AreArcRises t prices starts moment all
  unfolding of_arc is_at
  are_arc_rises one_day few = record {
    few = few_rises one_day few;
    each = of_arc;
    all = has_rise;
    once = λ i j first below order fleet station. each_once i j first below order fleet station;
  }
