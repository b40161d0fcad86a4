-- Rises over arcs that went: prices rise by them alone, no two have the same moment, and no event takes another price.
use Rattle.std.proofs.Common.{◌≡◌, ◌≢◌, ℕ, zero, suc, ◌+◌, ◌*◌, ◌<◌, ◌≤◌, Bool, true, false, cond, ◌==◌, ◌&&◌, nat_le, nat_lt, if◌then◌else◌, List, [], ◌∷◌, length, get_or, All, ℤ, pos, neg_ℤ, ◌-ℤ◌, ◌≤ℤ◌, ◌<ℤ◌, int_lt, Option, Some, None, ◌⊎◌, refl, sym, ◌∙◌, ap, ap₂, subst, inl, inr, arith, true≢false}
use Rattle.std.proofs.lemmas.Bool.{cases_lt, cases_order, eqb-true, le-leb, le-ltb, lt-leb, lt-ltb, ltb-true}
use Rattle.std.proofs.lemmas.Bool.Decides.{nat_tests}
use Rattle.std.proofs.lemmas.Int.{ints}
use Rattle.std.proofs.lemmas.List.Elements.{All-append, All-contains, All-cons, All-nil}
use Rattle.std.proofs.lemmas.List.Sorted.{All-permutation}
use Rattle.sums.specs.Below.{sum_below_ℤ}
use Rattle.sums.proofs.Naturals.{equal_number}
use Rattle.sums.proofs.Tests.{by_test, both_true, parts_true}
use Rattle.sums.proofs.WholeTerms.{at_least_0, term_within}
use Rattle.sums.proofs.WholeSums.{sum_below_ℤ-same}
use Rattle.sums.proofs.WholeSwaps.{sum_below_ℤ-zero}
use Rattle.sums.proofs.Sizes.{above_tested, not_above_tested}
use Rattle.fleet_model.specs.Kept.{Domains}
use Rattle.fleet_model.specs.Schedule.{departures_in, fleet_by, fleets_in, last_of, leg_at, leg_of, pair_on, period_of, stations_in}
use Rattle.fleet_model.specs.Times.{departure, ready_minute}
use Rattle.fleet_model.specs.declared.tables.Tables.{Tables}
use Rattle.fleet_model.proofs.Choices.{of_flown}
use Rattle.fleet_model.proofs.PeriodMinutes.{some_minutes}
use Rattle.node_aggregate.specs.timeline_net.Events.{departure_event, departure_events, events_below, readies_of, ready_event}
use Rattle.node_aggregate.specs.declared.timeline_net.timeline.Event.{Event}
use Rattle.node_aggregate.specs.Nodes.{AreNodesAt, MayFollow, MayStart, RiseFromZero, days_at, end_in}
use Rattle.node_aggregate.proofs.Starts.{end_last, end_next, start_within, starts_rise}
use Rattle.dual_bound.specs.Prices.{AreWithin, max_price, price_of, rent_of}
use Rattle.dual_bound.specs.declared.prices.Prices.{Prices}
use Rattle.island_prices.specs.Arcs.{AreAllNodes, AreArcRises, AreByNodes, AreMoments, ArcMoments, DoStayLow, IsQuiet, NodeStarts, rise_over, shift_over}
use Rattle.island_prices.specs.Payback.{AreCovered, AreQuiet, AreRisesApart, ends_by, rise_end, rises_end_at}
use Rattle.island_prices.specs.Rises.{AreRises, IsRiseShift, is_rise_of, rise_in, rise_shift, rise_shift_by, shift_at, shifted}
use Rattle.island_prices.specs.declared.rises.Rise.{Rise}
use Rattle.island_prices.specs.declared.rises.Shift.TheVariants.{Lowered, Raised}
use Rattle.island_prices.proofs.ArcSteps.{over_end, over_minute}

-- ---- a departure among the events is that of a kept pair
pub record IsKeptDeparture (t : Tables) (keeps : Domains) (f s : ℕ) (e : Event) : Type 0 where
  pub by : ℕ
  pub within : by < departures_in t
  pub kept : keeps (pair_on t by f) ≡ true
  pub from : (leg_of t (leg_at t by)).from ≡ s
  pub minute : e.minute ≡ departure t (pair_on t by f)

module _ (t : Tables) (keeps : Domains) (f s : ℕ) where
  abbrev OfPair : Event → Type 0
  OfPair e = e.ready ≡ false → IsKeptDeparture t keeps f s e

  departs_so : (d : ℕ) → d < departures_in t → All OfPair (departure_events t keeps f s d)
  departs_so d below = by_kept (keeps (pair_on t d f) && ((leg_of t (leg_at t d)).from == s)) refl
    where
      by_kept : (b : Bool) → (keeps (pair_on t d f) && ((leg_of t (leg_at t d)).from == s)) ≡ b → All OfPair (if b then departure_event t f d ∷ [] else [])
      by_kept true e =
          let both = parts_true (keeps (pair_on t d f)) ((leg_of t (leg_at t d)).from == s) e in
          All-cons OfPair (departure_event t f d) [] (λ not_ready. record { by = d; within = below; kept = both.0; from = eqb-true (leg_of t (leg_at t d)).from s both.1; minute = refl }) (All-nil OfPair)
      by_kept false e = All-nil OfPair

  readies_so : (d : ℕ) → All OfPair (readies_of t keeps f s d)
  readies_so d = by_kept (keeps (pair_on t d f) && ((leg_of t (leg_at t d)).to == s))
    where
      by_kept : (b : Bool) → All OfPair (if b then ready_event t f d ∷ [] else [])
      by_kept true = All-cons OfPair (ready_event t f d) [] (λ not_ready. absurd (true≢false not_ready)) (All-nil OfPair)
      by_kept false = All-nil OfPair

  all_so : (n : ℕ) → n ≤ departures_in t → All OfPair (events_below t keeps f s n)
  all_so zero within = All-nil OfPair
  all_so (suc n) within = All-append OfPair _ _ (All-append OfPair _ _ (all_so n (omega arith)) (departs_so n (omega arith))) (readies_so n)

  -- .. so of several nodes the first has a departure, where one day alone cuts them
  pub first_departs : (starts : List ℕ) → AreNodesAt t keeps f s starts → days_at t s ≡ 1 → 1 < length starts → (d : ℕ) × (d < departures_in t) × (keeps (pair_on t d f) ≡ true) × ((leg_of t (leg_at t d)).from ≡ s) × (departure t (pair_on t d f) < get_or starts 1 0)
  first_departs starts nodes one several =
      let may = ready_start (get_or starts 0 0) (get_or starts 1 0) (nodes.nodes.next 0 (omega arith)).is in
      let all = All-permutation OfPair _ _ nodes.happen.each_once (all_so (departures_in t) (omega arith)) in
      let is = All-contains OfPair nodes.events (record { minute = may.departure; ready = false; departure = may.departs.by }) all may.departs.among refl in
      (is.by, is.within, is.kept, is.from, omega (arith, may.later, is.minute))
    where
      ready_start : (start minute : ℕ) → MayFollow nodes.events (days_at t s) start minute → MayStart nodes.events start minute
      ready_start start minute (inl may) = may
      ready_start start minute (inr day) = absurd (omega (arith, day.at, day.later, day.within, one))

-- ---- rises over arcs
module _ (t : Tables) (keeps : Domains) (prices : Prices) (starts : NodeStarts) (moment : ArcMoments) (rises : List Rise) (nodes : AreAllNodes t keeps starts) (moments : AreMoments t keeps starts moment)
    (are : AreArcRises t prices starts moment rises) (rents : (f : ℕ) → f < fleets_in t → pos 0 ≤ℤ rent_of prices f) where
  rise_from : (f s : ℕ) → f < fleets_in t → s < stations_in t → 0 < length (starts f s) → RiseFromZero (starts f s)
  rise_from f s known within some = starts_rise t keeps f s (starts f s) (nodes.each f s known within) some

  -- over the arc of a single node no price rises
  several : (f s k : ℕ) → f < fleets_in t → s < stations_in t → k < length (starts f s) → pos 0 <ℤ rise_over prices (starts f s) f s k → 1 < length (starts f s)
  several f s k known within below some = elim (cases_lt 1 (length (starts f s))) [
    | inl more ↦ more
    | inr one ↦
        let place : k ≡ 0 = omega arith in
        let first : get_or (starts f s) k 0 ≡ 0 = ap (λ j. get_or (starts f s) j 0) place ∙ (rise_from f s known within (omega arith)).first in
        let at : rise_over prices (starts f s) f s k ≡ price_of prices f s 0 -ℤ price_of prices f s (get_or (starts f s) k 0) -ℤ rent_of prices f =
        ap (λ b. cond b (price_of prices f s (get_or (starts f s) (k + 1) 0) -ℤ price_of prices f s (get_or (starts f s) k 0)) (price_of prices f s 0 -ℤ price_of prices f s (get_or (starts f s) k 0) -ℤ rent_of prices f)) (le-ltb (k + 1) (length (starts f s)) (omega arith)) in
        absurd (omega (arith, ints, some, at, ap (λ m. price_of prices f s m) first, rents f known))
  ]

  one_of_several : (i : ℕ) (below : i < length rises) → 1 < length (starts (rise_in rises i).fleet (rise_in rises i).station)
  one_of_several i below =
      let is = are.each i below in
      several (rise_in rises i).fleet (rise_in rises i).station is.place is.fleet is.station is.within (subst (λ z. pos 0 <ℤ z) is.amount is.some)

  -- ---- the first and the last minutes of nodes
  start_in_period : (f s k : ℕ) → f < fleets_in t → s < stations_in t → k < length (starts f s) → get_or (starts f s) k 0 < period_of t
  start_in_period f s k known inside below = start_within t keeps f s (starts f s) (nodes.each f s known inside) k below

  end_in_period : (f s k : ℕ) → f < fleets_in t → s < stations_in t → k < length (starts f s) → end_in t (starts f s) k ≤ last_of t
  end_in_period f s k known within below = elim (cases_lt (k + 1) (length (starts f s))) [
    | inl more ↦ omega (arith, start_in_period f s (k + 1) known within more, end_next t (starts f s) k more)
    | inr last ↦ omega (arith, end_last t (starts f s) k last)
  ]

  shift_is : (xs : List ℕ) (k m : ℕ) → ((get_or xs k 0 ≤ m) × (shift_over t xs k m ≡ Raised (end_in t xs k))) ⊎ ((m < get_or xs k 0) × (shift_over t xs k m ≡ Lowered))
  shift_is xs k m = elim (cases_lt m (get_or xs k 0)) [
    | inl early ↦ inr (early, ap (λ b. cond b (Raised (end_in t xs k)) Lowered) (lt-leb (get_or xs k 0) m early))
    | inr begun ↦ inl (begun, ap (λ b. cond b (Raised (end_in t xs k)) Lowered) (le-leb (get_or xs k 0) m begun))
  ]

  -- ---- each is a rise
  small_difference : (a b r : ℤ) (n : ℕ) → neg_ℤ (pos n) ≤ℤ a → a ≤ℤ pos n → neg_ℤ (pos n) ≤ℤ b → b ≤ℤ pos n → pos 0 ≤ℤ r → ((a -ℤ b) ≤ℤ pos (3 * n)) × ((a -ℤ b -ℤ r) ≤ℤ pos (3 * n))
  small_difference a b r n a_low a_high b_low b_high some = (omega (arith, ints), omega (arith, ints))

  pub are_rises : AreWithin t prices → AreRises t rises
  are_rises within = record {
    few = are.few;
    each = λ i below.
        let is = are.each i below in
        let f = (rise_in rises i).fleet in
        let s = (rise_in rises i).station in
        let m = (rise_in rises i).moment in
        let several_nodes = one_of_several i below in
        let in_period = moments.in_period f s is.place m is.fleet is.station is.within is.went in
        record {
          fleet = is.fleet;
          station = is.station;
          moment = in_period;
          shift = subst (λ x. IsRiseShift (period_of t) x m) (sym is.shift) (elim (shift_is (starts f s) is.place m) [
            | inl raised ↦ subst (λ x. IsRiseShift (period_of t) x m) (sym raised.1) (
              (moments.in_node f s is.place m is.fleet is.station is.within several_nodes is.went raised.0).0,
              omega (arith, end_in_period f s is.place is.fleet is.station is.within),
            )
            | inr lowered ↦ subst (λ x. IsRiseShift (period_of t) x m) (sym lowered.1) tt
          ]);
          amount = record { some = is.some; small = subst (λ z. z ≤ℤ pos (3 * max_price)) (sym is.amount) (small_rise f s is.place is.fleet is.station is.within) };
        };
  }
    where
      small_rise : (f s k : ℕ) → f < fleets_in t → s < stations_in t → k < length (starts f s) → rise_over prices (starts f s) f s k ≤ℤ pos (3 * max_price)
      small_rise f s k known inside below = elim (cases_lt (k + 1) (length (starts f s))) [
        | inl more ↦
            let here = within.each f s (get_or (starts f s) k 0) known inside (start_in_period f s k known inside below) in
            let there = within.each f s (get_or (starts f s) (k + 1) 0) known inside (start_in_period f s (k + 1) known inside more) in
            subst (λ b. cond b (price_of prices f s (get_or (starts f s) (k + 1) 0) -ℤ price_of prices f s (get_or (starts f s) k 0)) (price_of prices f s 0 -ℤ price_of prices f s (get_or (starts f s) k 0) -ℤ rent_of prices f) ≤ℤ pos (3 * max_price)) (sym (lt-ltb (k + 1) (length (starts f s)) more))
            (small_difference (price_of prices f s (get_or (starts f s) (k + 1) 0)) (price_of prices f s (get_or (starts f s) k 0)) (rent_of prices f) max_price there.no_less there.no_more here.no_less here.no_more (rents f known)).0
        | inr last ↦
            let here = within.each f s (get_or (starts f s) k 0) known inside (start_in_period f s k known inside below) in
            let there = within.each f s 0 known inside (some_minutes t) in
            subst (λ b. cond b (price_of prices f s (get_or (starts f s) (k + 1) 0) -ℤ price_of prices f s (get_or (starts f s) k 0)) (price_of prices f s 0 -ℤ price_of prices f s (get_or (starts f s) k 0) -ℤ rent_of prices f) ≤ℤ pos (3 * max_price)) (sym (le-ltb (k + 1) (length (starts f s)) last))
            (small_difference (price_of prices f s 0) (price_of prices f s (get_or (starts f s) k 0)) (rent_of prices f) max_price there.no_less there.no_more here.no_less here.no_more (rents f known)).1
      ]

  -- ---- no two have the same moment
  -- the arc of a node went to a moment, and there are several nodes
  record Went (f s m k : ℕ) : Type 0 where
    known : f < fleets_in t
    within : s < stations_in t
    below : k < length (starts f s)
    several_nodes : 1 < length (starts f s)
    went : moment f s k ≡ Some m

  went_so : (i : ℕ) (below : i < length rises) → Went (rise_in rises i).fleet (rise_in rises i).station (rise_in rises i).moment (are.each i below).place
  went_so i below = let is = are.each i below in record { known = is.fleet; within = is.station; below = is.within; several_nodes = one_of_several i below; went = is.went }

  ends_before : (f s k j : ℕ) → f < fleets_in t → s < stations_in t → k < j → j < length (starts f s) → end_in t (starts f s) k < get_or (starts f s) j 0
  ends_before f s k j known within order below =
      let rise = rise_from f s known within (omega arith) in
      elim (cases_lt (k + 1) j) [
        | inl more ↦ omega (arith, end_next t (starts f s) k (omega arith), rise.rise (k + 1) j more below, rise.rise k (k + 1) (omega arith) (omega arith))
        | inr next ↦
            let same : k + 1 ≡ j = omega arith in
            subst (λ n. end_in t (starts f s) k < get_or (starts f s) n 0) same (omega (arith, end_next t (starts f s) k (omega arith), rise.rise k (k + 1) (omega arith) (omega arith)))
      ]

  -- a wait in a node and one round the day start have no minute in common, since the first node has a departure
  not_both : (f s m p q : ℕ) → Went f s m p → Went f s m q → get_or (starts f s) p 0 ≤ m → m < get_or (starts f s) q 0 → ⊥
  not_both f s m p q first second begun early =
      let in_node = moments.in_node f s p m first.known first.within first.below first.several_nodes first.went begun in
      let round = moments.round f s q m second.known second.within second.below second.several_nodes second.went early in
      let event = first_departs t keeps f s (starts f s) (nodes.each f s first.known first.within) (moments.one_day f s p m first.known first.within first.below first.went) first.several_nodes in
      let minute = departure t (pair_on t event.0 f) in
      elim (cases_lt m minute) [
        | inl later ↦ elim (cases_lt 0 p) [
          | inl past ↦ elim (cases_lt 1 p) [
            | inl more ↦ omega (arith, later, begun, event.4, (rise_from f s first.known first.within (omega (arith, first.below))).rise 1 p more first.below)
            | inr one ↦ let same : p ≡ 1 = omega arith in omega (arith, later, event.4, subst (λ k. get_or (starts f s) k 0 ≤ m) same begun)
          ]
          | inr start ↦
              let same : p ≡ 0 = omega arith in
              in_node.1.departs event.0 event.1 event.2 event.3 (omega (arith, later)) (subst (λ k. minute ≤ end_in t (starts f s) k) (sym same) (omega (arith, event.4, end_next t (starts f s) 0 (omega (arith, first.several_nodes)))))
        ]
        | inr by_then ↦ round.1.departs event.0 event.1 event.2 event.3 (omega arith) by_then
      ]

  places_apart : (f s m p q : ℕ) → Went f s m p → Went f s m q → p ≢ q → ⊥
  places_apart f s m p q first second apart = elim (shift_is (starts f s) p m) [
    | inl raised ↦ elim (shift_is (starts f s) q m) [
      | inl too ↦
          let ends = (moments.in_node f s p m first.known first.within first.below first.several_nodes first.went raised.0).0 in
          let other_ends = (moments.in_node f s q m second.known second.within second.below second.several_nodes second.went too.0).0 in
          elim (cases_order p q) [
            | inl same ↦ apart same
            | inr (inl less) ↦ omega (arith, ends, too.0, ends_before f s p q first.known first.within less second.below)
            | inr (inr more) ↦ omega (arith, other_ends, raised.0, ends_before f s q p first.known first.within more first.below)
          ]
      | inr lowered ↦ not_both f s m p q first second raised.0 lowered.0
    ]
    | inr lowered ↦ elim (shift_is (starts f s) q m) [
      | inl raised ↦ not_both f s m q p second first raised.0 lowered.0
      | inr too ↦
          let last = (moments.round f s p m first.known first.within first.below first.several_nodes first.went lowered.0).0 in
          let other_last = (moments.round f s q m second.known second.within second.below second.several_nodes second.went too.0).0 in
          apart (omega (arith, last, other_last))
    ]
  ]

  pub are_apart : AreRisesApart rises
  are_apart = record {
    each = λ i j order below same.
        let before : i < length rises = omega arith in
        let other = went_so j below in
        let alike = subst (λ g. Went g (rise_in rises j).station (rise_in rises j).moment (are.each j below).place) (sym same.fleet) other in
        let there = subst (λ r. Went (rise_in rises i).fleet r (rise_in rises j).moment (are.each j below).place) (sym same.station) alike in
        let then_too = subst (λ m. Went (rise_in rises i).fleet (rise_in rises i).station m (are.each j below).place) (sym same.moment) there in
        places_apart (rise_in rises i).fleet (rise_in rises i).station (rise_in rises i).moment (are.each i before).place (are.each j below).place (went_so i before) then_too
        (are.once i j before below order same.fleet same.station);
  }

  -- ---- prices rise by them alone
  ends_some : (f s m i : ℕ) → i < length rises → pos 0 ≤ℤ rises_end_at t rises f s m i
  ends_some f s m i below = by_case (is_rise_of (rise_in rises i) f s && (rise_end t (rise_in rises i).shift == m))
    where
      by_case : (b : Bool) → pos 0 ≤ℤ cond b (rise_in rises i).amount (pos 0)
      by_case true = omega (arith, ints, (are.each i below).some)
      by_case false = omega (arith, ints)

  ends_at_least_0 : (f s m : ℕ) → pos 0 ≤ℤ ends_by t rises f s m
  unfolding ends_by
  ends_at_least_0 f s m = at_least_0 (rises_end_at t rises f s m) (length rises) (ends_some f s m)

  end_is : (f s k a : ℕ) → Went f s a k → rise_end t (shift_over t (starts f s) k a) ≡ end_in t (starts f s) k
  end_is f s k a went = elim (shift_is (starts f s) k a) [
    | inl raised ↦ ap (rise_end t) raised.1
    | inr lowered ↦
        let last = (moments.round f s k a went.known went.within went.below went.several_nodes went.went lowered.0).0 in
        ap (rise_end t) lowered.1 ∙ sym (end_last t (starts f s) k (omega (arith, last)))
  ]

  arc_covered : DoStayLow t prices starts moment → (f s k m : ℕ) → f < fleets_in t → s < stations_in t → k < length (starts f s) → end_in t (starts f s) k ≡ m → rise_over prices (starts f s) f s k ≤ℤ ends_by t rises f s m
  unfolding ends_by
  arc_covered low f s k m known within below ends = by_moment (moment f s k) refl
    where
      by_moment : (o : Option ℕ) → moment f s k ≡ o → rise_over prices (starts f s) f s k ≤ℤ sum_below_ℤ (rises_end_at t rises f s m) (length rises)
      by_moment None stays = omega (arith, ints, low.each f s k known within below stays, at_least_0 (rises_end_at t rises f s m) (length rises) (ends_some f s m))
      by_moment (Some a) went = by_test (int_lt (pos 0) (rise_over prices (starts f s) f s k))
          (λ e.
          let rises_there = above_tested (rise_over prices (starts f s) f s k) e in
          let has = are.all f s k a known within below went rises_there in
          let at : Went f s a k = record { known = known; within = within; below = below; several_nodes = several f s k known within below rises_there; went = went } in
          let ends_there : rise_end t (rise_in rises has.at).shift ≡ m = ap (rise_end t) has.shift ∙ end_is f s k a at ∙ ends in
          let passes : (is_rise_of (rise_in rises has.at) f s && (rise_end t (rise_in rises has.at).shift == m)) ≡ true =
          both_true (is_rise_of (rise_in rises has.at) f s) (rise_end t (rise_in rises has.at).shift == m)
          (both_true ((rise_in rises has.at).fleet == f) ((rise_in rises has.at).station == s) (equal_number (rise_in rises has.at).fleet f has.fleet) (equal_number (rise_in rises has.at).station s has.station))
          (equal_number (rise_end t (rise_in rises has.at).shift) m ends_there) in
          let term : rises_end_at t rises f s m has.at ≡ rise_over prices (starts f s) f s k = ap (λ b. cond b (rise_in rises has.at).amount (pos 0)) passes ∙ has.amount in
          omega (arith, ints, term, term_within (rises_end_at t rises f s m) (length rises) has.at has.within (ends_some f s m)))
          (λ e. omega (arith, ints, not_above_tested (rise_over prices (starts f s) f s k) e, at_least_0 (rises_end_at t rises f s m) (length rises) (ends_some f s m)))

  pub are_covered : AreByNodes t prices starts → DoStayLow t prices starts moment → AreCovered t prices rises
  are_covered by_nodes low =
      let some = λ (f s m : ℕ) (known : f < fleets_in t) (within : s < stations_in t) (period : m < period_of t). ends_at_least_0 f s m in
      let over = λ (f s k : ℕ) (known : f < fleets_in t) (within : s < stations_in t) (below : k < length (starts f s)). arc_covered low f s k (end_in t (starts f s) k) known within below refl in
      record {
        within_period = over_minute t keeps prices starts nodes by_nodes rents (ends_by t rises) some over;
        over_end = over_end t keeps prices starts nodes by_nodes rents (ends_by t rises) some over;
      }

  -- ---- no event takes another price
  module _ (f s m : ℕ) (no_event : (low high : ℕ) → IsQuiet t keeps f s low high → low ≤ m → m ≤ high → ⊥) where
    not_raised : (a last : ℕ) (z : ℤ) → ((a < m) → (m ≤ last) → ⊥) → cond (nat_lt a m && nat_le m last) z (pos 0) ≡ pos 0
    not_raised a last z none = by_test (nat_lt a m && nat_le m last)
        (λ e. let both = parts_true (nat_lt a m) (nat_le m last) e in absurd (none (ltb-true a m both.0) (at_most m last both.1)))
        (λ e. ap (λ b. cond b z (pos 0)) e)
      where
        at_most : (m n : ℕ) → nat_le m n ≡ true → m ≤ n
        at_most m n e = grind (arith, nat_tests)

    not_lowered : (a : ℕ) (z : ℤ) → ((m ≤ a) → ⊥) → cond (nat_le m a) z (pos 0) ≡ pos 0
    not_lowered a z none = by_test (nat_le m a) (λ e. absurd (none (at_most m a e))) (λ e. ap (λ b. cond b z (pos 0)) e)
      where
        at_most : (m n : ℕ) → nat_le m n ≡ true → m ≤ n
        at_most m n e = grind (arith, nat_tests)

    not_shifted : (k a : ℕ) (z : ℤ) → Went f s a k → shifted (shift_over t (starts f s) k a) a z m ≡ pos 0
    not_shifted k a z went = elim (shift_is (starts f s) k a) [
      | inl raised ↦
          let quiet = (moments.in_node f s k a went.known went.within went.below went.several_nodes went.went raised.0).1 in
          ap (λ x. shifted x a z m) raised.1 ∙ not_raised a (end_in t (starts f s) k) z (λ later ends. no_event (a + 1) (end_in t (starts f s) k) quiet (omega arith) ends)
      | inr lowered ↦
          let quiet = (moments.round f s k a went.known went.within went.below went.several_nodes went.went lowered.0).1 in
          ap (λ x. shifted x a z m) lowered.1 ∙ not_lowered a (neg_ℤ z) (λ early. no_event 0 a quiet (omega arith) early)
    ]

    none_shifts : (i : ℕ) → i < length rises → shift_at rises f s m i ≡ pos 0
    none_shifts i below = by_test (is_rise_of (rise_in rises i) f s)
        (λ e.
        let own = parts_true ((rise_in rises i).fleet == f) ((rise_in rises i).station == s) e in
        let fleet : (rise_in rises i).fleet ≡ f = eqb-true (rise_in rises i).fleet f own.0 in
        let station : (rise_in rises i).station ≡ s = eqb-true (rise_in rises i).station s own.1 in
        let k = (are.each i below).place in
        let here = subst (λ r. Went f r (rise_in rises i).moment k) station (subst (λ g. Went g (rise_in rises i).station (rise_in rises i).moment k) fleet (went_so i below)) in
        let shift : (rise_in rises i).shift ≡ shift_over t (starts f s) k (rise_in rises i).moment =
        (are.each i below).shift ∙ ap₂ (λ g r. shift_over t (starts g r) k (rise_in rises i).moment) fleet station in
        ap (λ b. cond b (rise_shift (rise_in rises i) m) (pos 0)) e
        ∙ ap (λ x. shifted x (rise_in rises i).moment (rise_in rises i).amount m) shift
        ∙ not_shifted k (rise_in rises i).moment (rise_in rises i).amount here)
        (λ e. ap (λ b. cond b (rise_shift (rise_in rises i) m) (pos 0)) e)

    stays_there : rise_shift_by rises f s m ≡ pos 0
    unfolding rise_shift_by
    stays_there = sum_below_ℤ-same (shift_at rises f s m) (λ i. pos 0) (length rises) none_shifts ∙ sum_below_ℤ-zero (length rises)

  pub are_quiet : AreQuiet t keeps rises
  are_quiet = record {
    departs = λ p flown kept.
        let at = of_flown t p flown in
        let is = at.1.pair in
        stays_there (fleet_by t p) (leg_of t p.leg).from (departure t p) (λ low high quiet from to.
        quiet.departs at.0 at.1.within (subst (λ q. keeps q ≡ true) (sym is) kept) (ap (λ q. (leg_of t q.leg).from) is)
        (subst (λ q. low ≤ departure t q) (sym is) from) (subst (λ q. departure t q ≤ high) (sym is) to));
    lands = λ p flown kept.
        let at = of_flown t p flown in
        let is = at.1.pair in
        stays_there (fleet_by t p) (leg_of t p.leg).to (ready_minute t p) (λ low high quiet from to.
        quiet.lands at.0 at.1.within (subst (λ q. keeps q ≡ true) (sym is) kept) (ap (λ q. (leg_of t q.leg).to) is)
        (subst (λ q. low ≤ ready_minute t q) (sym is) from) (subst (λ q. ready_minute t q ≤ high) (sym is) to));
  }
