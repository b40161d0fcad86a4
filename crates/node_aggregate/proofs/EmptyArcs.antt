-- An arc that has a moment carries no aircraft in any mixed plan of the subproblem.
use Rattle.std.proofs.Common.{◌≡◌, ℕ, ◌+◌, ◌<◌, ◌≤◌, ◌==◌, ◌&&◌, Bool, true, false, if◌then◌else◌, Option, Some, None, List, length, slice_index, refl, subst, inl, inr, ◌⊎◌, arith}
use Rattle.std.proofs.lemmas.Bool.Decides.{nat_tests}
use Rattle.sums.specs.Places.{first_below, or_else}
use Rattle.sums.proofs.Tests.{none_some, parts_true, some_is}
use Rattle.fleet_model.specs.declared.tables.Tables.{Tables}
use Rattle.fleet_model.specs.Counts.{Weights, arrived, departed}
use Rattle.fleet_model.specs.Kept.{Domains}
use Rattle.fleet_model.specs.Mixed.{IsMixedPlan}
use Rattle.fleet_model.specs.Schedule.{fleets_in, last_of, period_of, stations_in}
use Rattle.fleet_model.specs.Use.{need_of, stand_of}
use Rattle.node_aggregate.specs.Laws.{WeighKept}
use Rattle.node_aggregate.specs.Nodes.{end_in}
use Rattle.node_aggregate.proofs.Starts.{end_last}
use Rattle.node_aggregate.specs.island_cut.Islands.{is_idle}
use Rattle.node_aggregate.specs.island_cut.IslandLaws.{IsIdle}
use Rattle.node_aggregate.proofs.island_cut.Counted.{gives_first}
use Rattle.node_aggregate.proofs.island_cut.IslandProofs.{idle_is_empty}
use Rattle.node_aggregate.specs.ArcLaws.{GoneIsEmpty}
use Rattle.node_aggregate.specs.KeptIdles.{idle_in, keeps_allowed}
use Rattle.node_aggregate.specs.Moments.{moment_in_node, moment_of, moment_round}
use Rattle.node_aggregate.specs.Waits.{lies_between, waits_in_node, waits_round}
use Rattle.node_aggregate.proofs.AllowedPairs.{allowed_tested}
use Rattle.node_aggregate.proofs.QuietMinutes.{none_come, none_come_yet, none_leave, none_left_yet}
use Rattle.node_aggregate.proofs.Ends.{among_ends}

-- a first minute is one that passes
passes_at : (p : ℕ → Bool) (k m : ℕ) (b : Bool) → p k ≡ b → ◌≡◌ {A = Option ℕ} (if b then Some k else None) (Some m) → (k ≡ m) × (p k ≡ true)
passes_at p k m true e some = (some_is k m some, e)
passes_at p k m false e some = absurd (none_some some)

pub first_passes : (p : ℕ → Bool) (n m : ℕ) → first_below (λ k. if p k then Some k else None) n ≡ Some m → (m < n) × (p m ≡ true)
first_passes p n m e =
    let found = gives_first (λ k. if p k then Some k else None) n m e in
    let at = passes_at p found.0 m (p found.0) refl found.2 in
    (subst (λ k. k < n) at.0 found.1, subst (λ k. p k ≡ true) at.0 at.1)

either_of : (o other : Option ℕ) (m : ℕ) → or_else o other ≡ Some m → (o ≡ Some m) ⊎ (other ≡ Some m)
either_of (Some x) other m e = inl e
either_of None other m e = inr e

-- what a moment is: an idle minute in one of the parts of the wait
pub record IsMoment (t : Tables) (keeps : Domains) (f s : ℕ) (starts : List ℕ) (k m : ℕ) : Type 0 where
  pub minute : m < period_of t
  pub allowed : keeps_allowed t keeps ≡ true
  pub idle : is_idle t s m ≡ true
  pub waits : (waits_in_node t keeps f s starts k m ≡ true) ⊎ (waits_round t keeps f s starts k m ≡ true)

in_node_is : (t : Tables) (keeps : Domains) (f s : ℕ) (starts : List ℕ) (k m : ℕ) → moment_in_node t keeps f s starts k ≡ Some m → IsMoment t keeps f s starts k m
unfolding moment_in_node
in_node_is t keeps f s starts k m e =
    let found = first_passes (λ n. waits_in_node t keeps f s starts k n && idle_in t keeps s n) (period_of t) m e in
    let parts = parts_true (waits_in_node t keeps f s starts k m) _ found.1 in
    let idle = parts_true (keeps_allowed t keeps) _ parts.1 in
    record { minute = found.0; allowed = idle.0; idle = idle.1; waits = inl parts.0 }

round_is : (t : Tables) (keeps : Domains) (f s : ℕ) (starts : List ℕ) (k m : ℕ) → moment_round t keeps f s starts k ≡ Some m → IsMoment t keeps f s starts k m
unfolding moment_round
round_is t keeps f s starts k m e =
    let found = first_passes (λ n. waits_round t keeps f s starts k n && idle_in t keeps s n) (period_of t) m e in
    let parts = parts_true (waits_round t keeps f s starts k m) _ found.1 in
    let idle = parts_true (keeps_allowed t keeps) _ parts.1 in
    record { minute = found.0; allowed = idle.0; idle = idle.1; waits = inr parts.0 }

pub moment_is : (t : Tables) (keeps : Domains) (f s : ℕ) (starts : List ℕ) (k m : ℕ) → moment_of t keeps f s starts k ≡ Some m → IsMoment t keeps f s starts k m
unfolding moment_of
moment_is t keeps f s starts k m e = elim (either_of (moment_in_node t keeps f s starts k) (moment_round t keeps f s starts k) m e) [
  | inl there ↦ in_node_is t keeps f s starts k m there
  | inr there ↦ round_is t keeps f s starts k m there
]

is_last_node : (k n : ℕ) → (k + 1 == n) ≡ true → n ≤ k + 1
is_last_node k n e = grind (arith, nat_tests)

module _ (t : Tables) (keeps : Domains) (scale : ℕ) (w : Weights) (plan : IsMixedPlan t keeps scale w) (f s : ℕ) (starts : List ℕ) (known : f < fleets_in t) (station : s < stations_in t) (k m : ℕ) where
  weigh : WeighKept t keeps w
  weigh = record { each = plan.kept }

  empty_in_node : stand_of t w f s m ≡ 0 → waits_in_node t keeps f s starts k m ≡ true → stand_of t w f s (end_in t starts k) ≡ 0
  unfolding stand_of
  empty_in_node empty waits =
      let parts = parts_true (lies_between (slice_index starts k) (end_in t starts k) m) _ waits in
      let ends = among_ends (slice_index starts k) (end_in t starts k) m parts.0 in
      omega (arith, empty, none_leave t keeps w f s known weigh m (end_in t starts k) ends.1 parts.1, none_come t keeps w f s known weigh m (end_in t starts k) ends.1 parts.1)

  empty_round : stand_of t w f s m ≡ 0 → waits_round t keeps f s starts k m ≡ true → stand_of t w f s (end_in t starts k) ≡ 0
  unfolding stand_of
  empty_round empty waits =
      let parts = parts_true (k + 1 == length starts) _ waits in
      let end = end_last t starts k (is_last_node k (length starts) parts.0) in
      let at_end : need_of t w f s + arrived t w f s (last_of t) ≡ need_of t w f s + departed t w f s (last_of t) = omega (arith, plan.balanced.each f s known station) in
      rw end (omega (arith, empty, at_end, none_left_yet t keeps w f s known weigh m parts.1, none_come_yet t keeps w f s known weigh m parts.1))

  empty_at_end : IsMoment t keeps f s starts k m → stand_of t w f s (end_in t starts k) ≡ 0
  empty_at_end is =
      let idle : IsIdle t s m = record { station = station; minute = is.minute; idle = is.idle } in
      let empty = idle_is_empty t keeps scale w (allowed_tested t keeps is.allowed) plan f s m known idle in
      elim is.waits [ inl waits ↦ empty_in_node empty waits | inr waits ↦ empty_round empty waits ]

pub gone_is_empty : GoneIsEmpty
gone_is_empty t keeps scale w plan f s starts known station at k m within is = empty_at_end t keeps scale w plan f s starts known station k m (moment_is t keeps f s starts k m is)
