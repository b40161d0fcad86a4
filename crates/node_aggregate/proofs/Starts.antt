-- Starts and ends of nodes: each is later than the one before, and all lie in the period.
use Rattle.std.proofs.Common.{◌≡◌, ℕ, zero, suc, ◌+◌, ◌-◌, ◌<◌, ◌≤◌, Bool, true, false, if◌then◌else◌, List, length, get_or, is_some, subst, inl, inr, arith}
use Rattle.std.proofs.lemmas.Bool.{cases_lt}
use Rattle.std.proofs.lemmas.Bool.Decides.{nat_tests}
use Rattle.fleet_model.specs.declared.tables.Tables.{Tables}
use Rattle.fleet_model.specs.Kept.{Domains}
use Rattle.fleet_model.specs.Schedule.{days_in, last_of, parking_of, period_of}
use Rattle.fleet_model.proofs.PeriodMinutes.{days_are_period, last_in, some_days, some_minutes}
use Rattle.node_aggregate.specs.Nodes.{AreNodesAt, MayFollow, RiseFromZero, days_at, end_in}
use Rattle.node_aggregate.proofs.EventsAmong.{happens_within}
use Rattle.node_aggregate.proofs.Links.{nodes_rise, rise_next}

-- no more days cut the nodes of a station than there are
few_days_at : (t : Tables) (s : ℕ) → days_at t s ≤ days_in t
few_days_at t s = by_limit (is_some (parking_of t s))
  where
    by_limit : (b : Bool) → (if b then days_in t else 1) ≤ days_in t
    by_limit true = omega arith
    by_limit false = omega (arith, some_days t)

-- the end of a node that another follows, and of the last one
pub end_next : (t : Tables) (starts : List ℕ) (k : ℕ) → k + 1 < length starts → end_in t starts k ≡ get_or starts (k + 1) 0 - 1
end_next t starts k within = grind (arith, nat_tests)

pub end_last : (t : Tables) (starts : List ℕ) (k : ℕ) → length starts ≤ k + 1 → end_in t starts k ≡ last_of t
end_last t starts k past = grind (arith, nat_tests)

module _ (t : Tables) (keeps : Domains) (f s : ℕ) (starts : List ℕ) (at : AreNodesAt t keeps f s starts) where
  pub next_later : (k : ℕ) → k + 1 < length starts → get_or starts k 0 < get_or starts (k + 1) 0
  next_later k next = rise_next at.events (days_at t s) starts at.nodes k next

  pub starts_rise : 0 < length starts → RiseFromZero starts
  starts_rise some = nodes_rise at.events (days_at t s) starts at.nodes some

  pub start_within : (k : ℕ) → k < length starts → get_or starts k 0 < period_of t
  start_within zero below = omega (arith, at.nodes.first, some_minutes t)
  start_within (suc k) below =
      let next : k + 1 ≡ suc k = omega arith in
      subst (λ j. get_or starts j 0 < period_of t) next (follows_within (get_or starts k 0) (get_or starts (k + 1) 0) (at.nodes.next k (omega arith)).is)
    where
      follows_within : (start minute : ℕ) → MayFollow at.events (days_at t s) start minute → minute < period_of t
      follows_within start minute (inl may) = happens_within t keeps f s at.events at.happen true minute may.ready
      follows_within start minute (inr day) = omega (arith, day.at, day.within, few_days_at t s, days_are_period t)

  -- no node ends after the period
  pub end_within : (k : ℕ) → end_in t starts k < period_of t
  end_within k = elim (cases_lt (k + 1) (length starts)) [
    | inl next ↦ omega (arith, end_next t starts k next, start_within (k + 1) next)
    | inr last ↦ omega (arith, end_last t starts k last, last_in t)
  ]
