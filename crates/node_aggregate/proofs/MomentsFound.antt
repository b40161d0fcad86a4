-- A node's moment, by its last event and the first event of the period.
use Rattle.std.proofs.Common.{◌≡◌, ℕ, zero, suc, ◌+◌, ◌<◌, ◌≤◌, ◌==◌, ◌&&◌, Bool, true, false, if◌then◌else◌, Option, Some, None, is_some, List, [], length, slice_index, Contains, refl, sym, ◌∙◌, ap, subst, arith}
use Rattle.std.proofs.lemmas.Bool.Decides.{nat_tests}
use Rattle.std.proofs.lemmas.Bool.{eqb-true}
use Rattle.sums.specs.Places.{first_below, or_else}
use Rattle.sums.proofs.Places.{all_nothing}
use Rattle.sums.proofs.Tests.{both_true, by_test, never_passes, parts_true, same_tests}
use Rattle.fleet_model.specs.declared.tables.Tables.{Tables}
use Rattle.fleet_model.specs.Kept.{Domains}
use Rattle.fleet_model.specs.Schedule.{period_of, stations_in}
use Rattle.node_aggregate.specs.declared.timeline_net.timeline.Event.{Event}
use Rattle.node_aggregate.specs.timeline_net.Events.{AreEvents}
use Rattle.node_aggregate.specs.Nodes.{end_in}
use Rattle.node_aggregate.specs.declared.island_cut.idle_minutes.Idle.{Idle}
use Rattle.node_aggregate.specs.island_cut.Islands.{idle_at, idles_of}
use Rattle.node_aggregate.specs.island_cut.Lookup.{IdlesRise}
use Rattle.node_aggregate.proofs.island_cut.InOrder.{idle_listed, idles_rise, listed_idle}
use Rattle.node_aggregate.specs.EventMinutes.{IsFirstAmong, IsLastAmong, ListsAt, is_within, minute_at}
use Rattle.node_aggregate.specs.KeptIdles.{AreIdleIn, idle_in, idles_in, keeps_allowed}
use Rattle.node_aggregate.specs.Moments.{first_minute, moment_in_node, moment_of, moment_round}
use Rattle.node_aggregate.specs.Waits.{lies_between, waits_in_node, waits_round}
use Rattle.node_aggregate.proofs.QuietEvents.{quiet_where, where_quiet}
use Rattle.node_aggregate.proofs.Ends.{among_ends, among_where, within_ends, within_where}

-- ---- tests and first minutes

first_agree : (f g : ℕ → Option ℕ) (n : ℕ) → ((k : ℕ) → k < n → f k ≡ g k) → first_below f n ≡ first_below g n
first_agree f g zero same = refl
first_agree f g (suc n) same = ap (λ o. or_else o (f n)) (first_agree f g n (λ k below. same k (omega (arith, below)))) ∙ ap (or_else (first_below g n)) (same n (omega arith))

pub minute_agree : (period : ℕ) (p q : ℕ → Bool) → ((m : ℕ) → m < period → p m ≡ q m) → first_minute period p ≡ first_minute period q
minute_agree period p q same = first_agree (λ m. if p m then Some m else None) (λ m. if q m then Some m else None) period (λ m within. ap (λ b. if b then Some m else None) (same m within))

pub minute_none : (period : ℕ) (p : ℕ → Bool) → ((m : ℕ) → p m ≡ false) → first_minute period p ≡ None
minute_none period p fails = all_nothing (λ m. if p m then Some m else None) period (λ m within. ap (λ b. if b then Some m else None) (fails m))

-- ---- the list of idle minutes
pub idles_rise_in : (t : Tables) (keeps : Domains) (idle : List Idle) → AreIdleIn t keeps idle → IdlesRise idle
idles_rise_in t keeps idle are = subst IdlesRise (sym are.are) (by_test (keeps_allowed t keeps)
    (λ on. rw on (idles_rise t))
    (λ off. rw off (record { each = λ i j earlier within. absurd (omega (arith, within)) })))

in_list : (t : Tables) (keeps : Domains) (s m : ℕ) → s < stations_in t → m < period_of t → idle_in t keeps s m ≡ true → Contains (idles_in t keeps) (idle_at s m)
in_list t keeps s m station minute e =
    let parts = parts_true (keeps_allowed t keeps) _ e in
    subst (λ b. Contains (if b then idles_of t else []) (idle_at s m)) (sym parts.0) (idle_listed t s m station minute parts.1)

of_list : (t : Tables) (keeps : Domains) (s m : ℕ) → Contains (idles_in t keeps) (idle_at s m) → idle_in t keeps s m ≡ true
of_list t keeps s m found = by_test (keeps_allowed t keeps)
    (λ on. both_true _ _ on (listed_idle t s m (subst (λ b. Contains (if b then idles_of t else []) (idle_at s m)) on found)))
    (λ off. absurd (none_there (subst (λ b. Contains (if b then idles_of t else []) (idle_at s m)) off found)))
  where
    none_there : Contains [] (idle_at s m) → ⊥
    none_there at = omega (arith, at.1)

pub lists_station : (t : Tables) (keeps : Domains) (s : ℕ) (idle : List Idle) → s < stations_in t → AreIdleIn t keeps idle → ListsAt (period_of t) idle s (idle_in t keeps s)
lists_station t keeps s idle station are = record {
  passes = λ m found. of_list t keeps s m (subst (λ xs. Contains xs (idle_at s m)) are.are found);
  has = λ m minute on. subst (λ xs. Contains xs (idle_at s m)) (sym are.are) (in_list t keeps s m station minute on);
}

-- ---- the parts of a wait

not_among_low : (low high m : ℕ) → lies_between low high m ≡ false → m ≤ high → m < low
not_among_low low high m e order = grind (arith, nat_tests)

last_place : (k n : ℕ) → k + 1 ≡ n → (k + 1 == n) ≡ true
last_place k n e = grind (arith, nat_tests)

module _ (t : Tables) (keeps : Domains) (f s : ℕ) (events : List Event) (are : AreEvents t keeps f s events) (starts : List ℕ) (place : ℕ) where
  in_node_same : (last until m : ℕ) → until ≡ end_in t starts place + 1 → IsLastAmong events (slice_index starts place) until (length events) last
      → waits_in_node t keeps f s starts place m ≡ is_within last until m
  in_node_same last until m is found = same_tests _ _
      (λ waits.
      let parts = parts_true (lies_between (slice_index starts place) (end_in t starts place) m) _ waits in
      let ends = among_ends (slice_index starts place) (end_in t starts place) m parts.0 in
      let none = where_quiet t keeps f s events are (m + 1) (end_in t starts place) parts.1 in
      within_where last until m
      (found.least m ends.0 (λ k within before. let early = not_among_low (m + 1) (end_in t starts place) (minute_at events k) (none k within) (omega (arith, before, is)) in omega (arith, early)))
      (omega (arith, ends.1, is)))
      (λ within.
      let ends = within_ends last until m within in
      both_true _ _ (among_where (slice_index starts place) (end_in t starts place) m (omega (arith, found.no_earlier, ends.0)) (omega (arith, ends.1, is)))
      (quiet_where t keeps f s events are (m + 1) (end_in t starts place) (λ k inside. never_passes (lies_between (m + 1) (end_in t starts place) (minute_at events k)) (λ e.
      let there = among_ends (m + 1) (end_in t starts place) (minute_at events k) e in
      let early = found.covers k inside (omega (arith, there.1, is)) in
      omega (arith, there.0, early, ends.0)))))

  pub in_node_found : (last until : ℕ) (o : Option ℕ) → until ≡ end_in t starts place + 1 → IsLastAmong events (slice_index starts place) until (length events) last
      → o ≡ first_minute (period_of t) (λ m. is_within last until m && idle_in t keeps s m) → o ≡ moment_in_node t keeps f s starts place
  unfolding moment_in_node
  in_node_found last until o is found e = e ∙ minute_agree (period_of t) (λ m. is_within last until m && idle_in t keeps s m) (λ m. waits_in_node t keeps f s starts place m && idle_in t keeps s m)
      (λ m within. ap (λ b. b && idle_in t keeps s m) (sym (in_node_same last until m is found)))

  round_same : (first m : ℕ) → m < period_of t → place + 1 ≡ length starts → IsFirstAmong (period_of t) events (length events) first → waits_round t keeps f s starts place m ≡ is_within 0 first m
  round_same first m minute at_last found = same_tests _ _
      (λ waits.
      let parts = parts_true (place + 1 == length starts) _ waits in
      let none = where_quiet t keeps f s events are 0 m parts.1 in
      let later = found.greatest (m + 1) (omega (arith, minute)) (λ k within. late (minute_at events k) m (none k within)) in
      within_where 0 first m (omega arith) (omega (arith, later)))
      (λ within.
      let ends = within_ends 0 first m within in
      both_true _ _ (last_place place (length starts) at_last)
      (quiet_where t keeps f s events are 0 m (λ k inside. never_passes (lies_between 0 m (minute_at events k)) (λ e.
      let there = among_ends 0 m (minute_at events k) e in
      omega (arith, there.1, found.covers k inside, ends.1)))))
    where
      late : (n m : ℕ) → lies_between 0 m n ≡ false → m + 1 ≤ n
      late n m e = grind (arith, nat_tests)

  pub round_found : (first : ℕ) (o : Option ℕ) → place + 1 ≡ length starts → IsFirstAmong (period_of t) events (length events) first
      → o ≡ first_minute (period_of t) (λ m. is_within 0 first m && idle_in t keeps s m) → o ≡ moment_round t keeps f s starts place
  unfolding moment_round
  round_found first o at_last found e = e ∙ minute_agree (period_of t) (λ m. is_within 0 first m && idle_in t keeps s m) (λ m. waits_round t keeps f s starts place m && idle_in t keeps s m)
      (λ m within. ap (λ b. b && idle_in t keeps s m) (sym (round_same first m within at_last found)))

  pub none_round : (place + 1 ≡ length starts → ⊥) → None ≡ moment_round t keeps f s starts place
  unfolding moment_round
  none_round other = sym (minute_none (period_of t) (λ m. waits_round t keeps f s starts place m && idle_in t keeps s m) (λ m.
      never_passes (waits_round t keeps f s starts place m && idle_in t keeps s m) (λ e.
      let front = parts_true (waits_round t keeps f s starts place m) _ e in
      let parts = parts_true (place + 1 == length starts) _ front.0 in
      other (eqb-true (place + 1) (length starts) parts.0))))

  pub moment_first : (o : Option ℕ) → o ≡ moment_in_node t keeps f s starts place → is_some o ≡ true → o ≡ moment_of t keeps f s starts place
  unfolding moment_of
  moment_first o e some = kept_first o (moment_round t keeps f s starts place) some ∙ ap (λ p. or_else p (moment_round t keeps f s starts place)) e
    where
      kept_first : (o other : Option ℕ) → is_some o ≡ true → o ≡ or_else o other
      kept_first (Some x) other some = refl
      kept_first None other some = cc

  pub moment_alone : (o : Option ℕ) → o ≡ moment_in_node t keeps f s starts place → (place + 1 ≡ length starts → ⊥) → o ≡ moment_of t keeps f s starts place
  unfolding moment_of
  moment_alone o e other = or_none o ∙ ap (or_else o) (none_round other) ∙ ap (λ p. or_else p (moment_round t keeps f s starts place)) e
    where
      or_none : (o : Option ℕ) → o ≡ or_else o None
      or_none (Some x) = refl
      or_none None = refl

  pub moment_second : (o p : Option ℕ) → o ≡ moment_in_node t keeps f s starts place → is_some o ≡ false → p ≡ moment_round t keeps f s starts place → p ≡ moment_of t keeps f s starts place
  unfolding moment_of
  moment_second o p e none e' = taken_second o p none ∙ ap (or_else o) e' ∙ ap (λ q. or_else q (moment_round t keeps f s starts place)) e
    where
      taken_second : (o p : Option ℕ) → is_some o ≡ false → p ≡ or_else o p
      taken_second None p none = refl
      taken_second (Some x) p none = cc
