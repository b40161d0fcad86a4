-- Departures and arrivals by the ends of nodes, node after node.
use Rattle.std.proofs.Common.{◌≡◌, ℕ, ◌+◌, ◌<◌, ◌≤◌, Bool, true, false, if◌then◌else◌, ◌==◌, ◌&&◌, nat_le, length, get_or, refl, ◌∙◌, ap, inl, inr, arith}
use Rattle.std.proofs.lemmas.Bool.{cases_lt}
use Rattle.std.proofs.lemmas.Bool.Decides.{nat_tests}
use Rattle.sums.specs.Below.{sum_below, max_below}
use Rattle.sums.proofs.Maxima.{max_below-zero}
use Rattle.sums.proofs.Sums.{sum_below-add, sum_below-agree, sum_below-zero}
use Rattle.sums.proofs.Tests.{by_test}
use Rattle.fleet_model.specs.declared.tables.Tables.{Tables}
use Rattle.fleet_model.specs.Counts.{Weights, arrived, coming, departed, leaving}
use Rattle.fleet_model.specs.Kept.{Domains}
use Rattle.fleet_model.specs.Schedule.{departures_in, fleets_in, last_of, leg_at, leg_of, pair_on}
use Rattle.fleet_model.specs.Times.{departure, ready_minute}
use Rattle.fleet_model.specs.Use.{need_of, stand_of}
use Rattle.fleet_model.proofs.Choices.{on_departure}
use Rattle.fleet_model.proofs.PeriodMinutes.{last_in}
use Rattle.fleet_model.proofs.UseLaws.{need_suffices}
use Rattle.node_aggregate.specs.Laws.{WeighKept, excess_at_end}
use Rattle.node_aggregate.specs.Nodes.{AreNodesAt, end_in}
use Rattle.node_aggregate.proofs.EventsAmong.{ready_at}
use Rattle.node_aggregate.proofs.NodeEnds.{need_is_at_node_ends}
use Rattle.lp_rows.specs.Layout.{Starts, node_of_place}
use Rattle.lp_rows.proofs.LineSums.{coming_to, leaving_from}
use Rattle.lp_rows.proofs.NodeEnds.{ends_rise, next_start}

-- by a later minute: what came by an earlier one, and what came since
one_split : (b : Bool) (m low high before w : ℕ) → before + 1 ≡ low → before ≤ high
    → ◌≡◌ {A = ℕ} (if b && nat_le m high then w else 0) ((if b && nat_le m before then w else 0) + (if b && (nat_le low m && nat_le m high) then w else 0))
one_split true m low high before w next order = elim (cases_lt before m) [
  | inl later ↦ elim (cases_lt high m) [ inl past ↦ grind (arith, nat_tests) | inr within ↦ grind (arith, nat_tests) ]
  | inr earlier ↦ grind (arith, nat_tests)
]
one_split false m low high before w next order = refl

from_start : (b : Bool) (m low high w : ℕ) → low ≡ 0 → ◌≡◌ {A = ℕ} (if b && nat_le m high then w else 0) (if b && (nat_le low m && nat_le m high) then w else 0)
from_start true m low high w zero_low = grind (arith, nat_tests)
from_start false m low high w zero_low = refl

module _ (t : Tables) (keeps : Domains) (w : Weights) (f s : ℕ) (starts : Starts) (known : f < fleets_in t) (weigh : WeighKept t keeps w) (at : AreNodesAt t keeps f s (starts f s)) where
  pub left_next : (k : ℕ) → k + 1 < length (starts f s)
      → departed t w f s (end_in t (starts f s) (k + 1)) ≡ departed t w f s (end_in t (starts f s) k) + sum_below (leaving_from t starts w (node_of_place f s (k + 1))) (departures_in t)
  unfolding departed
  left_next k next =
      sum_below-agree (leaving t w f s (end_in t (starts f s) (k + 1))) (λ d. leaving t w f s (end_in t (starts f s) k) d + leaving_from t starts w (node_of_place f s (k + 1)) d) (departures_in t)
      (record {
        each = λ d below. one_split ((leg_of t (leg_at t d)).from == s) (departure t (pair_on t d f)) (get_or (starts f s) (k + 1) 0) (end_in t (starts f s) (k + 1)) (end_in t (starts f s) k) (w (pair_on t d f)) (next_start t keeps f s starts at k next) (omega (arith, ends_rise t keeps f s starts at k next));
      })
      ∙ sum_below-add (leaving t w f s (end_in t (starts f s) k)) (leaving_from t starts w (node_of_place f s (k + 1))) (departures_in t)

  pub come_next : (k : ℕ) → k + 1 < length (starts f s)
      → arrived t w f s (end_in t (starts f s) (k + 1)) ≡ arrived t w f s (end_in t (starts f s) k) + sum_below (coming_to t starts w (node_of_place f s (k + 1))) (departures_in t)
  unfolding arrived
  come_next k next =
      sum_below-agree (coming t w f s (end_in t (starts f s) (k + 1))) (λ d. coming t w f s (end_in t (starts f s) k) d + coming_to t starts w (node_of_place f s (k + 1)) d) (departures_in t)
      (record {
        each = λ d below. one_split ((leg_of t (leg_at t d)).to == s) (ready_minute t (pair_on t d f)) (get_or (starts f s) (k + 1) 0) (end_in t (starts f s) (k + 1)) (end_in t (starts f s) k) (w (pair_on t d f)) (next_start t keeps f s starts at k next) (omega (arith, ends_rise t keeps f s starts at k next));
      })
      ∙ sum_below-add (coming t w f s (end_in t (starts f s) k)) (coming_to t starts w (node_of_place f s (k + 1))) (departures_in t)

  pub left_first : departed t w f s (end_in t (starts f s) 0) ≡ sum_below (leaving_from t starts w (node_of_place f s 0)) (departures_in t)
  unfolding departed
  left_first = sum_below-agree (leaving t w f s (end_in t (starts f s) 0)) (leaving_from t starts w (node_of_place f s 0)) (departures_in t)
      (record { each = λ d below. from_start ((leg_of t (leg_at t d)).from == s) (departure t (pair_on t d f)) (get_or (starts f s) 0 0) (end_in t (starts f s) 0) (w (pair_on t d f)) at.nodes.first })

  pub come_first : arrived t w f s (end_in t (starts f s) 0) ≡ sum_below (coming_to t starts w (node_of_place f s 0)) (departures_in t)
  unfolding arrived
  come_first = sum_below-agree (coming t w f s (end_in t (starts f s) 0)) (coming_to t starts w (node_of_place f s 0)) (departures_in t)
      (record { each = λ d below. from_start ((leg_of t (leg_at t d)).to == s) (ready_minute t (pair_on t d f)) (get_or (starts f s) 0 0) (end_in t (starts f s) 0) (w (pair_on t d f)) at.nodes.first })

  -- without nodes there is no need, and nothing comes or leaves
  pub no_need : length (starts f s) ≡ 0 → need_of t w f s ≡ 0
  no_need none = need_is_at_node_ends t keeps w f s (starts f s) known weigh at ∙ ap (max_below (excess_at_end t w f s (starts f s))) none ∙ max_below-zero (excess_at_end t w f s (starts f s))

  none_come : length (starts f s) ≡ 0 → (m : ℕ) → arrived t w f s m ≡ 0
  unfolding arrived
  none_come none m = sum_below-agree (coming t w f s m) (λ d. 0) (departures_in t) (record {
    each = λ d below. by_test (keeps (pair_on t d f))
        (λ kept. by_test ((leg_of t (leg_at t d)).to == s)
        (λ here.
        let ready = ready_at t keeps f s at.events at.happen d below kept (grind (arith, nat_tests)) in
        let some : 0 < length (starts f s) = at.nodes.some (λ e. let empty : length at.events ≡ 0 = ap length e in omega (arith, ready.among.1)) in
        absurd (omega (arith, some, none)))
        (λ elsewhere. ap (λ b. if b && nat_le (ready_minute t (pair_on t d f)) m then w (pair_on t d f) else 0) elsewhere))
        (λ not_kept. weightless ((leg_of t (leg_at t d)).to == s && nat_le (ready_minute t (pair_on t d f)) m) (w (pair_on t d f)) (weigh.each (pair_on t d f) (on_departure t d f below known).pair not_kept));
  })
      ∙ sum_below-zero (departures_in t)
    where
      weightless : (b : Bool) (v : ℕ) → v ≡ 0 → (if b then v else 0) ≡ 0
      weightless true v e = e
      weightless false v e = refl

  pub none_move : length (starts f s) ≡ 0 → arrived t w f s (last_of t) ≡ departed t w f s (last_of t)
  none_move none = omega (arith, none_come none (last_of t), no_need none, (need_suffices t w f s).each (last_of t) (last_in t))

  -- .. and nothing stands
  pub none_stand : length (starts f s) ≡ 0 → (m : ℕ) → stand_of t w f s m ≡ 0
  unfolding stand_of
  none_stand none m = omega (arith, none_come none m, no_need none)
