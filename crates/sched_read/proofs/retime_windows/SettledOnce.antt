-- Settled tables are settled already.
use Rattle.std.proofs.Common.{◌≡◌, ℕ, ◌<◌, List, [], ◌∷◌, map, ℤ, pos, ◌+ℤ◌, refl, sym, ap, subst, ◌∙◌}
use Rattle.std.specs.List.{AllByRecursion}
use Rattle.std.proofs.lemmas.List.Elements.{recursion_from_All}
use Rattle.sums.specs.Places.{list_below}
use Rattle.sums.proofs.Places.{list_below-agree}
use Rattle.fleet_model.specs.Counts.{pair_at}
use Rattle.fleet_model.specs.Limits.{IsPairCost}
use Rattle.fleet_model.specs.Schedule.{fleet_by, fleets_in, leg_of, legs_in}
use Rattle.fleet_model.specs.declared.parts.Leg.{Leg}
use Rattle.fleet_model.specs.declared.parts.PairCost.{PairCost}
use Rattle.fleet_model.specs.declared.shifts.Shift.{Shift}
use Rattle.fleet_model.specs.declared.tables.Tables.{Tables}
use Rattle.fleet_model.proofs.TablesSame.{tables_same}
use Rattle.sched_read.specs.retime_windows.Settled.{IsSettled, leg_once, settled_cost, settled_leg, time_of}
use Rattle.sched_read.specs.retime_windows.SettledLaws.{SettledOnce}
use Rattle.sched_read.proofs.retime_windows.SettledFit.{plain_time}
use Rattle.sched_read.proofs.retime_windows.SettledPairs.{leg_is, no_more, same_fleet, same_legs}

not_raised : (u : Tables) (b : List ℕ) (legs fleets : ℕ) (costs : List PairCost) → ((l : ℕ) → l < legs → (time_of u (pair_at b l)).extra ≡ pos 0)
    → AllByRecursion (IsPairCost legs fleets) costs → map (settled_cost u b) costs ≡ costs
not_raised u b legs fleets [] none fit = refl
not_raised u b legs fleets (entry ∷ costs) none fit =
    let same : entry.cost +ℤ (time_of u (pair_at b entry.leg)).extra ≡ entry.cost = ap (λ n. entry.cost +ℤ n) (none entry.leg fit.0.leg) ∙ no_more entry.cost in
    ap (λ n. record { leg = entry.leg; fleet = entry.fleet; cost = n } ∷ map (settled_cost u b) costs) same ∙ ap (λ rest. entry ∷ rest) (not_raised u b legs fleets costs none fit.1)

module _ (t u v : Tables) (a b c : List ℕ) (settled : IsSettled t a u b) (again : IsSettled u b v c) where
  plain_at : (l : ℕ) → l < legs_in u → (time_of u (pair_at b l)).dep ≡ (leg_of u l).dep
  plain_at l below = ap (λ (time : Shift). time.dep) (plain_time u (pair_at b l) below settled.tables.windows)

  no_extra : (l : ℕ) → l < legs_in u → (time_of u (pair_at b l)).extra ≡ pos 0
  no_extra l below = ap (λ (time : Shift). time.extra) (plain_time u (pair_at b l) below settled.tables.windows)

  -- a leg that departs once is as it was
  same_leg : (l : ℕ) → l < legs_in u → settled_leg u b l ≡ settled_leg t a l
  same_leg l below =
      let within : l < legs_in t = subst (λ n. l < n) (same_legs t u a b settled) below in
      ap (leg_once (leg_of u l)) (plain_at l below) ∙ ap (λ (leg : Leg). leg_once leg leg.dep) (leg_is t u a b settled l within)

  same_legs_again : v.legs ≡ u.legs
  same_legs_again =
      again.tables.legs ∙ list_below-agree (settled_leg u b) (settled_leg t a) (legs_in u) same_leg ∙ ap (list_below (settled_leg t a)) (same_legs t u a b settled) ∙ sym settled.tables.legs

  same_costs : v.costs ≡ u.costs
  same_costs =
      again.tables.costs
      ∙ not_raised u b (legs_in u) (fleets_in u) u.costs no_extra (recursion_from_All (IsPairCost (legs_in u) (fleets_in u)) u.costs u.in_range.costs_fit.each)

  pub tables_again : v ≡ u
  tables_again =
      tables_same v u again.tables.stations again.tables.fleets same_legs_again same_costs again.tables.throughs again.tables.settings
      (again.tables.windows ∙ sym settled.tables.windows) again.tables.optional

pub settled_once : SettledOnce
settled_once t u v a b c assignment settled again =
    let legs = same_legs t u a b settled in (
      tables_again t u v a b c settled again,
      again.plan
          ∙ list_below-agree (λ l. fleet_by u (pair_at b l)) (λ l. fleet_by t (pair_at a l)) (legs_in u) (λ l below. same_fleet t u a b assignment settled l (subst (λ n. l < n) legs below))
          ∙ ap (list_below (λ l. fleet_by t (pair_at a l))) legs ∙ sym settled.plan,
    )
