-- From arcs to minutes: where prices by the nodes rise over each arc by so much at most, they rise by no more at its end.
use Rattle.std.proofs.Common.{◌≡◌, ℕ, ◌+◌, ◌-◌, ◌<◌, ◌≤◌, cond, List, length, get_or, ℤ, pos, ◌+ℤ◌, ◌-ℤ◌, ◌≤ℤ◌, ap, subst, inl, inr, arith}
use Rattle.std.proofs.lemmas.Bool.{cases_lt, le-ltb, lt-ltb}
use Rattle.std.proofs.lemmas.Int.{ints}
use Rattle.fleet_model.specs.Kept.{Domains}
use Rattle.fleet_model.specs.Schedule.{fleets_in, last_of, period_of, stations_in}
use Rattle.fleet_model.specs.declared.tables.Tables.{Tables}
use Rattle.fleet_model.proofs.PeriodMinutes.{last_in}
use Rattle.node_aggregate.specs.Nodes.{end_in}
use Rattle.node_aggregate.proofs.NodeEnds.{Holds, node_that_holds}
use Rattle.node_aggregate.proofs.Starts.{end_last, end_next, start_within}
use Rattle.dual_bound.specs.Prices.{price_of, rent_of}
use Rattle.dual_bound.specs.declared.prices.Prices.{Prices}
use Rattle.island_prices.specs.Arcs.{AreAllNodes, AreByNodes, NodeStarts, rise_over}

-- ---- by how much prices rise over an arc: to a next node, and from the last one
pub rise_inside : (prices : Prices) (xs : List ℕ) (f s k : ℕ) → k + 1 < length xs → rise_over prices xs f s k ≡ price_of prices f s (get_or xs (k + 1) 0) -ℤ price_of prices f s (get_or xs k 0)
rise_inside prices xs f s k more = ap (λ b. cond b (price_of prices f s (get_or xs (k + 1) 0) -ℤ price_of prices f s (get_or xs k 0)) (price_of prices f s 0 -ℤ price_of prices f s (get_or xs k 0) -ℤ rent_of prices f)) (lt-ltb (k + 1) (length xs) more)

pub rise_at_last : (prices : Prices) (xs : List ℕ) (f s k : ℕ) → length xs ≤ k + 1 → rise_over prices xs f s k ≡ price_of prices f s 0 -ℤ price_of prices f s (get_or xs k 0) -ℤ rent_of prices f
rise_at_last prices xs f s k last = ap (λ b. cond b (price_of prices f s (get_or xs (k + 1) 0) -ℤ price_of prices f s (get_or xs k 0)) (price_of prices f s 0 -ℤ price_of prices f s (get_or xs k 0) -ℤ rent_of prices f)) (le-ltb (k + 1) (length xs) last)

module _ (t : Tables) (keeps : Domains) (prices : Prices) (starts : NodeStarts) (nodes : AreAllNodes t keeps starts) (by_nodes : AreByNodes t prices starts) (rents : (f : ℕ) → f < fleets_in t → pos 0 ≤ℤ rent_of prices f)
    (most : ℕ → ℕ → ℕ → ℤ) (some : (f s m : ℕ) → f < fleets_in t → s < stations_in t → m < period_of t → pos 0 ≤ℤ most f s m)
    (over : (f s k : ℕ) → f < fleets_in t → s < stations_in t → k < length (starts f s) → rise_over prices (starts f s) f s k ≤ℤ most f s (end_in t (starts f s) k)) where
  holding : (f s m : ℕ) → f < fleets_in t → s < stations_in t → 0 < length (starts f s) → (k : ℕ) × Holds (starts f s) m k
  holding f s m known within there = node_that_holds (starts f s) m (nodes.each f s known within).nodes.first there

  in_its_node : (f s k m : ℕ) → m ≤ last_of t → Holds (starts f s) m k → m ≤ end_in t (starts f s) k
  in_its_node f s k m period holds = elim (cases_lt (k + 1) (length (starts f s))) [
    | inl more ↦ omega (arith, holds.before more, end_next t (starts f s) k more)
    | inr last ↦ omega (arith, end_last t (starts f s) k last)
  ]

  pub over_minute : (f s m : ℕ) → f < fleets_in t → s < stations_in t → m + 1 < period_of t → price_of prices f s (m + 1) ≤ℤ (price_of prices f s m +ℤ most f s m)
  over_minute f s m known within period = elim (cases_lt 0 (length (starts f s))) [
    | inl there ↦
        let at = holding f s m known within there in
        let k = at.0 in
        let here = by_nodes.through f s k m known within at.1.within at.1.started (in_its_node f s k m (omega arith) at.1) in
        elim (cases_lt m (end_in t (starts f s) k)) [
          | inl inside ↦
              let next = by_nodes.through f s k (m + 1) known within at.1.within (omega (arith, at.1.started)) (omega (arith, inside)) in
              omega (arith, ints, here, next, some f s m known within (omega arith))
          | inr outside ↦
              let ends : end_in t (starts f s) k ≡ m = omega (arith, outside, in_its_node f s k m (omega arith) at.1) in
              elim (cases_lt (k + 1) (length (starts f s))) [
                | inl more ↦
                    let next : get_or (starts f s) (k + 1) 0 ≡ m + 1 = omega (arith, ends, at.1.before more, end_next t (starts f s) k more) in
                    omega (arith, ints, here, ap (price_of prices f s) next, rise_inside prices (starts f s) f s k more, over f s k known within at.1.within, ap (most f s) ends)
                | inr last ↦ absurd (omega (arith, ends, end_last t (starts f s) k last))
              ]
        ]
    | inr none ↦ omega (arith, ints, by_nodes.nowhere f s m known within (omega arith), by_nodes.nowhere f s (m + 1) known within (omega arith), some f s m known within (omega arith))
  ]

  pub over_end : (f s : ℕ) → f < fleets_in t → s < stations_in t → price_of prices f s 0 ≤ℤ (price_of prices f s (last_of t) +ℤ rent_of prices f +ℤ most f s (last_of t))
  over_end f s known within = elim (cases_lt 0 (length (starts f s))) [
    | inl there ↦
        let k = length (starts f s) - 1 in
        let below : k < length (starts f s) = omega arith in
        let ends = end_last t (starts f s) k (omega arith) in
        let at = holding f s (last_of t) known within there in
        let here = by_nodes.through f s k (last_of t) known within below (subst (λ j. get_or (starts f s) j 0 ≤ last_of t) (only_last at.0 at.1) at.1.started) (omega (arith, ends)) in
        omega (arith, ints, here, rise_at_last prices (starts f s) f s k (omega arith), over f s k known within below, ap (most f s) ends)
    | inr none ↦ omega (arith, ints, by_nodes.nowhere f s 0 known within (omega arith), by_nodes.nowhere f s (last_of t) known within (omega arith), some f s (last_of t) known within (last_in t), rents f known)
  ]
    where
      only_last : (k : ℕ) → Holds (starts f s) (last_of t) k → k ≡ length (starts f s) - 1
      only_last k holds = elim (cases_lt (k + 1) (length (starts f s))) [
        | inl more ↦ absurd (omega (arith, holds.before more, start_within t keeps f s (starts f s) (nodes.each f s known within) (k + 1) more))
        | inr last ↦ omega (arith, holds.within)
      ]
