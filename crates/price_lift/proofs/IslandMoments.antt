-- The moments of a network's arcs: where they lie, that no event lies between, and that they are idle minutes.
use Rattle.std.proofs.Common.{◌≡◌, ℕ, ◌+◌, ◌<◌, ◌≤◌, true, ◌==◌, length, get_or, Some, IsSome, is_some, if◌then◌else◌, ap, subst, inl, inr, arith}
use Rattle.std.proofs.lemmas.Bool.{cases_lt, eqb-true}
use Rattle.sums.proofs.Tests.{no_both, parts_true}
use Rattle.fleet_model.specs.Kept.{Domains}
use Rattle.fleet_model.specs.Legal.{cost_of}
use Rattle.fleet_model.specs.Schedule.{IsPair, days_in, fleets_in, pair_on, stations_in}
use Rattle.fleet_model.specs.Times.{departure, ready_minute}
use Rattle.fleet_model.specs.declared.parts.Pair.{Pair}
use Rattle.fleet_model.specs.declared.tables.Tables.{Tables}
use Rattle.node_aggregate.specs.Nodes.{days_at, end_in}
use Rattle.node_aggregate.proofs.Starts.{starts_rise}
use Rattle.node_aggregate.specs.island_cut.IslandLaws.{IsIdle}
use Rattle.node_aggregate.specs.island_cut.Islands.{has_islands, is_idle}
use Rattle.node_aggregate.proofs.island_cut.IslandProofs.{islands_tested}
use Rattle.node_aggregate.specs.Waits.{is_quiet, lies_between}
use Rattle.node_aggregate.proofs.AllowedPairs.{allowed_tested}
use Rattle.node_aggregate.proofs.EmptyArcs.{IsMoment, moment_is}
use Rattle.node_aggregate.proofs.QuietMinutes.{departs_elsewhere, ready_elsewhere}
use Rattle.node_aggregate.proofs.Ends.{among_ends, among_where}
use Rattle.lp_rows.specs.Layout.{IsNetwork, Starts}
use Rattle.island_prices.specs.Arcs.{AreMoments, IsQuiet}
use Rattle.island_prices.proofs.Arcs.{first_departs}
use Rattle.price_lift.specs.PaidBack.{moments_by}

-- ---- minutes without events

quiet_so : (t : Tables) (keeps : Domains) (f s low high : ℕ) → is_quiet t keeps f s low high ≡ true → IsQuiet t keeps f s low high
quiet_so t keeps f s low high quiet = record {
  departs = λ d below kept from first last. no_both (departs_elsewhere t keeps f s low high quiet d below kept from) (among_where low high (departure t (pair_on t d f)) first last);
  lands = λ d below kept to first last. no_both (ready_elsewhere t keeps f s low high quiet d below kept to) (among_where low high (ready_minute t (pair_on t d f)) first last);
}

-- where a minute is idle there are islands
pub islands_there : (t : Tables) (s m : ℕ) → is_idle t s m ≡ true → has_islands t ≡ true
unfolding is_idle
islands_there t s m e = (parts_true (has_islands t) _ e).0

-- .. and one day cuts the nodes of a station
one_day_there : (t : Tables) (s m : ℕ) → s < stations_in t → is_idle t s m ≡ true → days_at t s ≡ 1
one_day_there t s m within e = ap (λ o. if is_some o then days_in t else 1) ((islands_tested t (islands_there t s m e)).day.no_limit s within)

module _ (t : Tables) (keeps : Domains) (starts : Starts) (network : IsNetwork t keeps starts) where
  moment_there : (f s k m : ℕ) → moments_by t keeps starts f s k ≡ Some m → IsMoment t keeps f s (starts f s) k m
  moment_there f s k m went = moment_is t keeps f s (starts f s) k m went

  -- where an arc goes, the period is one day
  pub one_day_where : (f s k m : ℕ) → moments_by t keeps starts f s k ≡ Some m → days_in t ≡ 1
  one_day_where f s k m went = (islands_tested t (islands_there t s m (moment_there f s k m went).idle)).day.one_day

  -- of several nodes the first has an event, before the second starts
  not_round : (f s k m : ℕ) → is_idle t s m ≡ true → f < fleets_in t → s < stations_in t → k < length (starts f s) → 1 < length (starts f s) → get_or (starts f s) k 0 ≤ m → k + 1 ≡ length (starts f s) → IsQuiet t keeps f s 0 m → ⊥
  not_round f s k m idle known within below several begun last quiet =
      let at = network.each f s known within in
      let event = first_departs t keeps f s (starts f s) at (one_day_there t s m within idle) several in
      let rise = starts_rise t keeps f s (starts f s) at (omega arith) in
      quiet.departs event.0 event.1 event.2 event.3 (omega arith) (elim (cases_lt 1 k) [
        | inl more ↦ omega (arith, event.4, begun, rise.rise 1 k more below)
        | inr one ↦ let same : k ≡ 1 = omega arith in omega (arith, event.4, subst (λ j. get_or (starts f s) j 0 ≤ m) same begun)
      ])

  pub are_moments : AreMoments t keeps starts (moments_by t keeps starts)
  are_moments = record {
    one_day = λ f s k m known within below went. one_day_there t s m within (moment_there f s k m went).idle;
    in_period = λ f s k m known within below went. (moment_there f s k m went).minute;
    in_node = λ f s k m known within below several went begun. elim (moment_there f s k m went).waits [
      | inl waits ↦
          let parts = parts_true (lies_between (get_or (starts f s) k 0) (end_in t (starts f s) k) m) (is_quiet t keeps f s (m + 1) (end_in t (starts f s) k)) waits in
          ((among_ends (get_or (starts f s) k 0) (end_in t (starts f s) k) m parts.0).1, quiet_so t keeps f s (m + 1) (end_in t (starts f s) k) parts.1)
      | inr waits ↦
          let parts = parts_true (k + 1 == length (starts f s)) (is_quiet t keeps f s 0 m) waits in
          absurd (not_round f s k m (moment_there f s k m went).idle known within below several begun (eqb-true (k + 1) (length (starts f s)) parts.0) (quiet_so t keeps f s 0 m parts.1))
    ];
    round = λ f s k m known within below several went early. elim (moment_there f s k m went).waits [
      | inl waits ↦
          let parts = parts_true (lies_between (get_or (starts f s) k 0) (end_in t (starts f s) k) m) (is_quiet t keeps f s (m + 1) (end_in t (starts f s) k)) waits in
          absurd (omega (arith, early, (among_ends (get_or (starts f s) k 0) (end_in t (starts f s) k) m parts.0).0))
      | inr waits ↦
          let parts = parts_true (k + 1 == length (starts f s)) (is_quiet t keeps f s 0 m) waits in
          (eqb-true (k + 1) (length (starts f s)) parts.0, quiet_so t keeps f s 0 m parts.1)
    ];
  }

  -- ---- a moment is an idle minute, and where there is one each kept pair may be flown
  pub at_idle : (f s k m : ℕ) → s < stations_in t → moments_by t keeps starts f s k ≡ Some m → IsIdle t s m
  at_idle f s k m within went = let is = moment_there f s k m went in record { station = within; minute = is.minute; idle = is.idle }

  pub kept_allowed : (f s k m : ℕ) → moments_by t keeps starts f s k ≡ Some m → (p : Pair) → IsPair t p → keeps p ≡ true → IsSome (cost_of t p)
  kept_allowed f s k m went = (allowed_tested t keeps (moment_there f s k m went).allowed).each
