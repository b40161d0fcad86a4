-- The arc of a fleet that passes the end of a day: one, where the fleet has nodes at the station.
use Rattle.std.proofs.Common.{◌≡◌, ℕ, zero, suc, ◌+◌, ◌-◌, ◌<◌, ◌≤◌, Bool, true, false, if◌then◌else◌, ◌==◌, length, get_or, is_some, refl, sym, ◌∙◌, ap, subst, inl, inr, arith, add-one}
use Rattle.std.proofs.lemmas.Bool.{cases_lt, cases_order, eqb-true}
use Rattle.sums.specs.Below.{sum_below}
use Rattle.sums.proofs.Naturals.{equal_number}
use Rattle.sums.proofs.Sums.{sum_below-agree, sum_below-at}
use Rattle.sums.proofs.Tests.{same_tests}
use Rattle.fleet_model.specs.Period.{minutes_of}
use Rattle.fleet_model.specs.declared.tables.Tables.{Tables}
use Rattle.fleet_model.specs.Kept.{Domains}
use Rattle.fleet_model.specs.Schedule.{day_end, days_in, parking_of}
use Rattle.fleet_model.proofs.PeriodMinutes.{last_day_ends}
use Rattle.node_aggregate.specs.Nodes.{AreNodesAt, IsDayStart, MayFollow, days_at, end_in}
use Rattle.node_aggregate.proofs.NodeEnds.{node_that_holds}
use Rattle.node_aggregate.proofs.Starts.{end_last, end_next}
use Rattle.lp_rows.specs.declared.kinds.Column.{Column}
use Rattle.lp_rows.specs.declared.kinds.Column.TheVariants.{Ground}
use Rattle.lp_rows.specs.Layout.{Starts, node_of_place, parking_days}
use Rattle.lp_rows.proofs.LineSums.{night_arc}
use Rattle.lp_rows.proofs.NodeEnds.{ends_rise}

-- numbers that rise from one to the next rise
rise_all : (g : ℕ → ℕ) (n i j : ℕ) → ((k : ℕ) → k + 1 < n → g k < g (k + 1)) → i < j → j < n → g i < g j
rise_all g n i zero next order within = absurd (omega arith)
rise_all g n i (suc j) next order within =
    let step : g j < g (suc j) = subst (λ m. g j < g m) (add-one j) (next j (omega arith)) in
    elim (cases_lt i j) [
      | inl before ↦ omega (arith, step, rise_all g n i j next before (omega arith))
      | inr last ↦ let same : i ≡ j = omega arith in omega (arith, step, ap g same)
    ]

-- so one number is met once
met_once : (g : ℕ → ℕ) (n i j : ℕ) → ((k : ℕ) → k + 1 < n → g k < g (k + 1)) → i < n → j < n → g i ≡ g j → i ≡ j
met_once g n i j next here there same = elim (cases_order i j) [
  | inl e ↦ e
  | inr differ ↦ elim differ [
    | inl less ↦ absurd (omega (arith, same, rise_all g n i j next less there))
    | inr more ↦ absurd (omega (arith, same, rise_all g n j i next more here))
  ]
]

-- a sum in which one number is met
at_the_met : (g : ℕ → ℕ) (x : ℕ → ℕ) (n place value : ℕ) → ((k : ℕ) → k + 1 < n → g k < g (k + 1)) → place < n → g place ≡ value → sum_below (λ k. if g k == value then x k else 0) n ≡ x place
at_the_met g x n place value next within is =
    sum_below-agree (λ k. if g k == value then x k else 0) (λ k. if place == k then x k else 0) n
    (record {
      each = λ k below. ap (λ b. if b then x k else 0) (same_tests (g k == value) (place == k)
          (λ e. equal_number place k (met_once g n place k next within below (is ∙ sym (eqb-true (g k) value e))))
          (λ e. equal_number (g k) value (ap g (sym (eqb-true place k e)) ∙ is)));
    })
    ∙ sum_below-at place n x within

all_days : (b : Bool) (n d : ℕ) → d ≤ (if b then n else 0) → d ≤ n
all_days true n d within = within
all_days false n d within = omega (arith, within)

-- days with a limit are days of the period
pub within_days : (t : Tables) (s d : ℕ) → d ≤ parking_days t s → d ≤ days_in t
within_days t s d within = all_days (is_some (parking_of t s)) (days_in t) d within

-- .. and all of them cut nodes
all_cut : (b : Bool) (n d : ℕ) → 0 < d → d ≤ (if b then n else 0) → (if b then n else 1) ≡ n
all_cut true n d first within = refl
all_cut false n d first within = absurd (omega (arith, first, within))

module _ (t : Tables) (keeps : Domains) (f s d : ℕ) (starts : Starts) (at : AreNodesAt t keeps f s (starts f s)) (first : 0 < d) (within : d ≤ parking_days t s) (some : 0 < length (starts f s)) where
  -- a node ends with the day
  pub record IsNightNode (place : ℕ) : Type 0 where
    pub there : place < length (starts f s)
    pub ends : end_in t (starts f s) place ≡ day_end d

  -- with another day the node that holds the last minute of the day ends
  before_next_day : d < days_in t → (k : ℕ) × IsNightNode k
  before_next_day before =
      let holds = node_that_holds (starts f s) (day_end d) at.nodes.first some in
      let days : days_at t s ≡ days_in t = all_cut (is_some (parking_of t s)) (days_in t) d first within in
      let cut : IsDayStart (days_at t s) (get_or (starts f s) holds.0 0) (minutes_of d) = record { day = d; within = omega (arith, before, days); at = refl; later = omega (arith, first, holds.1.started) } in
      elim (cases_lt (holds.0 + 1) (length (starts f s))) [
        | inl next ↦ (
          holds.0,
          record {
            there = holds.1.within;
            ends = omega (arith, end_next t (starts f s) holds.0 next, (at.nodes.next holds.0 next).first (minutes_of d) (inr cut), holds.1.before next);
          },
        )
        | inr last ↦
            let place : holds.0 ≡ length (starts f s) - 1 = omega (arith, holds.1.within) in
            absurd (at.nodes.last some (minutes_of d) (subst (λ k. MayFollow at.events (days_at t s) (get_or (starts f s) k 0) (minutes_of d)) place (inr cut)))
      ]

  pub night_node : (k : ℕ) × IsNightNode k
  night_node = elim (cases_lt d (days_in t)) [
    | inl before ↦ before_next_day before
    | inr last ↦
        let all : days_in t ≡ d = omega (arith, within_days t s d within) in (
          length (starts f s) - 1,
          record { there = omega (arith, some); ends = end_last t (starts f s) (length (starts f s) - 1) (omega arith) ∙ sym (last_day_ends t) ∙ ap day_end all },
        )
  ]

  -- and its arc alone passes the end of the day
  pub night_arc_is : (v : Column → ℕ) → night_arc t starts v s d f ≡ v (Ground (node_of_place f s night_node.0))
  night_arc_is v =
      at_the_met (end_in t (starts f s)) (λ k. v (Ground (node_of_place f s k))) (length (starts f s)) night_node.0 (day_end d) (ends_rise t keeps f s starts at) night_node.1.there night_node.1.ends

-- where there are no nodes, nothing stands on it
pub no_night_arc : (t : Tables) (starts : Starts) (v : Column → ℕ) (s d f : ℕ) → length (starts f s) ≡ 0 → night_arc t starts v s d f ≡ 0
no_night_arc t starts v s d f none = ap (sum_below (λ k. if end_in t (starts f s) k == day_end d then v (Ground (node_of_place f s k)) else 0)) none
