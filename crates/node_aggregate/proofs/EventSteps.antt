-- One event more; and the first idle minute of a station among others.
use Rattle.std.proofs.Common.{◌≡◌, ℕ, ◌+◌, ◌<◌, ◌≤◌, ◌&&◌, nat_lt, Bool, true, false, if◌then◌else◌, Option, Some, None, List, Contains, sym, ◌∙◌, ap, inl, inr, arith}
use Rattle.std.specs.Bool.{then_some}
use Rattle.std.proofs.lemmas.Bool.{cases_lt, ltb-false, ltb-true}
use Rattle.sums.proofs.Places.{all_nothing, first_found}
use Rattle.sums.proofs.Tests.{both_true, by_test, never_passes, parts_true}
use Rattle.node_aggregate.specs.declared.timeline_net.timeline.Event.{Event}
use Rattle.node_aggregate.specs.declared.island_cut.idle_minutes.Idle.{Idle}
use Rattle.node_aggregate.specs.island_cut.Islands.{idle_at}
use Rattle.node_aggregate.specs.island_cut.Lookup.{IsFirstIdle}
use Rattle.node_aggregate.specs.EventMinutes.{IsFirstAmong, IsLastAmong, IsLater, IsSooner, ListsAt, is_within, minute_at}
use Rattle.node_aggregate.specs.Moments.{first_minute}
use Rattle.node_aggregate.proofs.Ends.{within_ends, within_where}

pub none_last : (events : List Event) (start until : ℕ) → IsLastAmong events start until 0 start
none_last events start until = record { no_earlier = omega arith; covers = λ k within before. absurd (omega (arith, within)); least = λ m low all. low }

pub last_more : (events : List Event) (start until n last minute next : ℕ) → IsLastAmong events start until n last → minute ≡ minute_at events n → IsLater last minute until next → IsLastAmong events start until (n + 1) next
last_more events start until n last minute next found is later = record {
  no_earlier = omega (arith, found.no_earlier, later.no_earlier);
  covers = λ k within before. elim (cases_lt k n) [
    | inl old ↦ omega (arith, found.covers k old before, later.no_earlier)
    | inr new ↦
        let same : k ≡ n = omega (arith, within, new) in
        let here : minute_at events k ≡ minute = ap (minute_at events) same ∙ sym is in
        let covered = later.covers (omega (arith, here, before)) in
        omega (arith, here, covered)
  ];
  least = λ m low all. later.least m (found.least m low (λ k within before. all k (omega (arith, within)) before))
      (λ before. let there = all n (omega arith) (omega (arith, is, before)) in omega (arith, is, there));
}

pub none_first : (period : ℕ) (events : List Event) (first : ℕ) → first ≡ period → IsFirstAmong period events 0 first
none_first period events first is = record { within = omega (arith, is); covers = λ k within. absurd (omega (arith, within)); greatest = λ m most all. omega (arith, is, most) }

pub first_more : (period : ℕ) (events : List Event) (n first minute next : ℕ) → IsFirstAmong period events n first → minute ≡ minute_at events n → IsSooner first minute next → IsFirstAmong period events (n + 1) next
first_more period events n first minute next found is sooner = record {
  within = omega (arith, found.within, sooner.no_later);
  covers = λ k within. elim (cases_lt k n) [
    | inl old ↦ omega (arith, found.covers k old, sooner.no_later)
    | inr new ↦
        let same : k ≡ n = omega (arith, within, new) in
        let here : minute_at events k ≡ minute = ap (minute_at events) same ∙ sym is in
        omega (arith, here, sooner.covers)
  ];
  greatest = λ m most all. sooner.greatest m (found.greatest m most (λ k within. all k (omega (arith, within)))) (let there = all n (omega arith) in omega (arith, is, there));
}

-- ---- the first idle minute from one on and before another

module _ (idle : List Idle) (s from until period : ℕ) (few : until ≤ period) (test : ℕ → Bool) (lists : ListsAt period idle s test) where
  abbrev passes : ℕ → Bool
  passes m = is_within from until m && test m

  abbrev found : ℕ → Option ℕ
  found m = if passes m then Some m else None

  nothing : (m : ℕ) → passes m ≡ false → found m ≡ None
  nothing m e = ap (λ b. if b then Some m else None) e

  -- what passes stands in the list
  stands : (m : ℕ) → passes m ≡ true → (from ≤ m) × (m < until) × Contains idle (idle_at s m)
  stands m e =
      let parts = parts_true (is_within from until m) _ e in
      let ends = within_ends from until m parts.0 in
      (ends.0, ends.1, lists.has m (omega (arith, ends.1, few)) parts.1)

  pub none_found : ((m : ℕ) → from ≤ m → ¬ (Contains idle (idle_at s m))) → None ≡ first_minute period passes
  none_found none = sym (all_nothing found period (λ m within. nothing m (never_passes (passes m) (λ e. let there = stands m e in none m there.0 there.2))))

  pub some_found : (minute : ℕ) → IsFirstIdle idle s from minute → then_some (nat_lt minute until) minute ≡ first_minute period passes
  some_found minute first = by_test (nat_lt minute until)
      (λ e.
      let before = ltb-true minute until e in
      let none = all_nothing found minute (λ m earlier. nothing m (never_passes (passes m) (λ on. let there = stands m on in omega (arith, first.first m there.0 there.2, earlier)))) in
      let on : passes minute ≡ true = both_true _ _ (within_where from until minute first.no_earlier before) (lists.passes minute first.among) in
      ap (λ b. then_some b minute) e ∙ sym (first_found found minute period minute none (ap (λ b. if b then Some minute else None) on) (omega (arith, before, few))))
      (λ e.
      ap (λ b. then_some b minute) e ∙ sym (all_nothing found period (λ m within. nothing m (never_passes (passes m) (λ on. let there = stands m on in omega (arith, first.first m there.0 there.2, there.1, ltb-false minute until e))))))
