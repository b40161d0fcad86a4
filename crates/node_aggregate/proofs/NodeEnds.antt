-- Need is the greatest excess at the ends of nodes: after a departure no aircraft gets ready in the same node.
use Rattle.std.proofs.Common.{◌≡◌, ℕ, zero, suc, ◌+◌, ◌-◌, ◌<◌, ◌≤◌, ◌⊎◌, Bool, true, false, not, if◌then◌else◌, ◌==◌, ◌&&◌, List, length, get_or, refl, subst, inl, inr, arith}
use mathlib.Core.Bool.{false≢true}
use Rattle.std.proofs.lemmas.Bool.{cases_lt}
use Rattle.std.proofs.lemmas.Bool.Decides.{nat_tests}
use Rattle.sums.specs.Below.{max_below}
use Rattle.sums.proofs.Sums.{sum_below-le}
use Rattle.sums.proofs.Maxima.{max_below-upper, max_below-least}
use Rattle.sums.proofs.Tests.{by_test}
use Rattle.fleet_model.specs.declared.tables.Tables.{Tables}
use Rattle.fleet_model.specs.Counts.{Weights, arrived, coming, departed, leaving}
use Rattle.fleet_model.specs.Kept.{Domains}
use Rattle.fleet_model.specs.Laws.{PassesDepartures, excess_at_departure}
use Rattle.fleet_model.specs.Schedule.{departures_in, fleets_in, leg_at, leg_of, pair_on, period_of}
use Rattle.fleet_model.specs.Times.{departure, ready_minute}
use Rattle.fleet_model.specs.Use.{excess, need_of}
use Rattle.fleet_model.proofs.Choices.{on_departure}
use Rattle.fleet_model.proofs.NeedAtDepartures.{need_is_at_departures}
use Rattle.fleet_model.proofs.PeriodMinutes.{departs_always}
use Rattle.node_aggregate.specs.Laws.{NeedIsAtNodeEnds, WeighKept, excess_at_end}
use Rattle.node_aggregate.specs.Nodes.{AreNodesAt, HappensAt, MayStart, end_in}
use Rattle.node_aggregate.proofs.EventsAmong.{departs_at, ready_at}
use Rattle.node_aggregate.proofs.Links.{nothing}
use Rattle.node_aggregate.proofs.Starts.{end_last, end_next, end_within}

-- a place whose start is at most a minute, and the end of whose node is no earlier
pub record Holds (starts : List ℕ) (minute place : ℕ) : Type 0 where
  pub within : place < length starts
  pub started : get_or starts place 0 ≤ minute
  pub before : place + 1 < length starts → minute < get_or starts (place + 1) 0

-- of the first n nodes one holds the minute, or the next has started by then
find_node : (starts : List ℕ) (minute n : ℕ) → get_or starts 0 0 ≡ 0 → n < length starts → ((k : ℕ) × Holds starts minute k) ⊎ (get_or starts n 0 ≤ minute)
find_node starts minute zero first within = inr (omega (arith, first))
find_node starts minute (suc n) first within = elim (find_node starts minute n first (omega arith)) [
  | inl found ↦ inl found
  | inr started ↦ elim (cases_lt minute (get_or starts (suc n) 0)) [
    | inl before ↦ let next : n + 1 ≡ suc n = omega arith in inl (n, record { within = omega arith; started = started; before = λ _. rw next before })
    | inr after ↦ inr after
  ]
]

pub node_that_holds : (starts : List ℕ) (minute : ℕ) → get_or starts 0 0 ≡ 0 → 0 < length starts → (k : ℕ) × Holds starts minute k
node_that_holds starts minute first some = elim (find_node starts minute (length starts - 1) first (omega arith)) [
  | inl found ↦ found
  | inr started ↦ (length starts - 1, record { within = omega arith; started = started; before = λ next. absurd (omega arith) })
]

-- a weight of a pair that isn't kept adds nothing
if_same : (a b : Bool) (w : ℕ) → (a ≡ true → b ≡ false → w ≡ 0) → (if a then w else 0) ≤ (if b then w else 0)
if_same true true w h = omega arith
if_same true false w h = omega (arith, h refl refl)
if_same false b w h = omega arith

module _ (t : Tables) (keeps : Domains) (w : Weights) (f s : ℕ) (starts : List ℕ) (known : f < fleets_in t) (weigh : WeighKept t keeps w) (at : AreNodesAt t keeps f s starts) where
  -- in the node of a departure no aircraft gets ready later
  none_ready : (k d r : ℕ) → Holds starts d k → HappensAt at.events false d → d < r → r ≤ end_in t starts k → HappensAt at.events true r → ⊥
  none_ready k d r holds departs later within ready =
      let may : MayStart at.events (get_or starts k 0) r = record { departure = d; since = holds.started; departs = departs; later = later; ready = ready } in
      elim (cases_lt (k + 1) (length starts)) [
        | inl next ↦ omega (arith, (at.nodes.next k next).first r (inl may), end_next t starts k next, holds.before next)
        | inr last ↦
            let place : k ≡ length starts - 1 = omega (arith, holds.within) in
            at.nodes.last (omega (arith, holds.within)) r (inl (subst (λ j. MayStart at.events (get_or starts j 0) r) place may))
      ]

  -- so by the end of the node no more have come
  none_come : (k d : ℕ) → d < departures_in t → keeps (pair_on t d f) ≡ true → (leg_of t (leg_at t d)).from ≡ s → Holds starts (departure t (pair_on t d f)) k
      → arrived t w f s (end_in t starts k) ≤ arrived t w f s (departure t (pair_on t d f))
  unfolding arrived
  none_come k d below kept from holds = sum_below-le (coming t w f s (end_in t starts k)) (coming t w f s (departure t (pair_on t d f))) (departures_in t) (record {
    each = λ m within.
        if_same _ _ (w (pair_on t m f)) (λ come not_come. by_test (keeps (pair_on t m f))
        (λ keeps_it. absurd (none_ready k (departure t (pair_on t d f)) (ready_minute t (pair_on t m f)) holds (departs_at t keeps f s at.events at.happen d below kept from)
        (grind (arith, nat_tests)) (grind (arith, nat_tests)) (ready_at t keeps f s at.events at.happen m within keeps_it (grind (arith, nat_tests)))))
        (λ not_kept. weigh.each (pair_on t m f) (on_departure t m f within known).pair not_kept));
  })

  departures_rise : (m n : ℕ) → m ≤ n → departed t w f s m ≤ departed t w f s n
  unfolding departed
  departures_rise m n order = sum_below-le (leaving t w f s m) (leaving t w f s n) (departures_in t) (record { each = λ d below. grind (arith, nat_tests) })

  -- a departure from the station with some weight
  leaves : ℕ → Bool
  leaves d = ((leg_of t (leg_at t d)).from == s) && not (w (pair_on t d f) == 0)

  kept_where_it_leaves : (d : ℕ) → d < departures_in t → leaves d ≡ true → keeps (pair_on t d f) ≡ true
  unfolding leaves
  kept_where_it_leaves d below e = by_test (keeps (pair_on t d f)) (λ kept. kept)
      (λ not_kept. let none = weigh.each (pair_on t d f) (on_departure t d f below known).pair not_kept in absurd (false≢true (grind (arith, nat_tests))))

  from_where_it_leaves : (d : ℕ) → leaves d ≡ true → (leg_of t (leg_at t d)).from ≡ s
  unfolding leaves
  from_where_it_leaves d e = grind (arith, nat_tests)

  some_nodes : (ready : Bool) (m : ℕ) → HappensAt at.events ready m → 0 < length starts
  some_nodes ready m happens = at.nodes.some (λ none. nothing at.events none ready m happens)

  ends_later : (d k : ℕ) → d < period_of t → Holds starts d k → d ≤ end_in t starts k
  ends_later d k within holds = elim (cases_lt (k + 1) (length starts)) [
    | inl next ↦ omega (arith, end_next t starts k next, holds.before next)
    | inr last ↦ omega (arith, end_last t starts k last)
  ]

  no_more : (d : ℕ) → d < departures_in t → leaves d ≡ true → excess t w f s (departure t (pair_on t d f)) ≤ max_below (excess_at_end t w f s starts) (length starts)
  unfolding excess
  no_more d below e =
      let kept = kept_where_it_leaves d below e in
      let from = from_where_it_leaves d e in
      let departs = departs_at t keeps f s at.events at.happen d below kept from in
      let node = node_that_holds starts (departure t (pair_on t d f)) at.nodes.first (some_nodes false (departure t (pair_on t d f)) departs) in
      let later = ends_later (departure t (pair_on t d f)) node.0 (departs_always t (pair_on t d f)) node.1 in
      let upper = max_below-upper (excess_at_end t w f s starts) (length starts) node.0 node.1.within in
      omega (arith, none_come node.0 d below kept from node.1, departures_rise (departure t (pair_on t d f)) (end_in t starts node.0) later, upper)

  all_leave : PassesDepartures t w f s leaves
  unfolding leaves
  all_leave = record { each = λ d below from some. grind (arith, nat_tests) }

  where_it_leaves : (d : ℕ) → d < departures_in t → excess_at_departure t w f s leaves d ≤ max_below (excess_at_end t w f s starts) (length starts)
  where_it_leaves d below = by_test (leaves d) (λ e. rw e (no_more d below e)) (λ e. rw e (omega arith))

  need_at_ends : need_of t w f s ≡ max_below (excess_at_end t w f s starts) (length starts)
  unfolding need_of
  need_at_ends =
      let no_greater = max_below-least (excess_at_departure t w f s leaves) (max_below (excess_at_end t w f s starts) (length starts)) (departures_in t) (record { each = where_it_leaves }) in
      let no_less = max_below-least (excess_at_end t w f s starts) (max_below (excess t w f s) (period_of t)) (length starts)
      (record { each = λ k below. max_below-upper (excess t w f s) (period_of t) (end_in t starts k) (end_within t keeps f s starts at k) }) in
      omega (arith, no_greater, no_less, need_is_at_departures t w f s leaves all_leave)

pub need_is_at_node_ends : NeedIsAtNodeEnds
need_is_at_node_ends t keeps w f s starts known weigh at = need_at_ends t keeps w f s starts known weigh at
