-- The longest wait of a clean turn is the least time until no aircraft stands at the station.
use Rattle.std.proofs.Common.{◌≡◌, ℕ, ◌+◌, ◌-◌, ◌%◌, ◌<◌, ◌≤◌, nat_lt, true, IsTrue, List, length, slice_index, sym, ◌∙◌, ap, subst, inl, inr, arith}
use Rattle.std.proofs.lemmas.Bool.{cases_lt, eq-eqb, ltb-true}
use Rattle.std.proofs.lemmas.Bool.Decides.{nat_tests}
use Rattle.sums.proofs.Naturals.{zero_number}
use Rattle.fleet_model.specs.declared.parts.Connection.{Connection}
use Rattle.fleet_model.specs.declared.tables.Tables.{Tables}
use Rattle.fleet_model.specs.Counts.{weights_of}
use Rattle.fleet_model.specs.Schedule.{leg_of, leg_on, period_of}
use Rattle.fleet_model.specs.Times.{ready_minute}
use Rattle.fleet_model.specs.Use.{stand_of}
use Rattle.fleet_model.proofs.PeriodMinutes.{in_period}
use Rattle.node_aggregate.specs.island_cut.Zeros.{none_stands, zeros_of}
use Rattle.lines_of_flying.specs.ground_turns.Turns.{minutes_until, ready_at, station_at, wait_of}
use Rattle.plan_rotations.specs.through_flights.Waits.{IsLongestWait}
use Rattle.plan_rotations.proofs.through_flights.ZeroMinutes.{StandsAt, each_stands, stands_in}

pub zeros_within : (t : Tables) (a : List ℕ) (f s : ℕ) (zeros : List ℕ) → zeros ≡ zeros_of t (weights_of a) f s
    → (k : ℕ) → k < length zeros → slice_index zeros k < period_of t
zeros_within t a f s zeros e k lt =
    subst (λ xs. slice_index xs k < period_of t) (sym e) (each_stands t (weights_of a) f s (period_of t) k (subst (λ xs. k < length xs) e lt)).0

lies : (x y : ℕ) → x < y → IsTrue (nat_lt x y)
lies x y h = grind (arith, nat_tests)

longest_in_period : (t : Tables) (a : List ℕ) (f leg longest ready : ℕ) (zeros : List ℕ) → zeros ≡ zeros_of t (weights_of a) f (leg_of t leg).to → ready ≡ ready_minute t (leg_on leg f)
    → ((k : ℕ) → k < length zeros → longest ≤ (slice_index zeros k + period_of t - ready) % period_of t)
    → ((wait : ℕ) → wait < period_of t → ((k : ℕ) → k < length zeros → wait ≤ (slice_index zeros k + period_of t - ready) % period_of t) → wait ≤ longest)
    → IsLongestWait t a f leg longest
longest_in_period t a f leg longest ready zeros listed at no_more all = record {
  clean = λ pair same short. record {
    each = λ m lt waits none.
        let here : none_stands t (weights_of a) f (leg_of t leg).to m ≡ true =
        eq-eqb _ 0 (ap (λ l. stand_of t (weights_of a) f (leg_of t l).to m) (sym same) ∙ none) in
        let entry : StandsAt zeros m = subst (λ xs. StandsAt xs m) (sym listed) (stands_in t (weights_of a) f (leg_of t leg).to (period_of t) m lt here) in
        let until : longest ≤ minutes_until t (ready_at t f pair) m =
        subst (λ z. longest ≤ minutes_until t (ready_at t f pair) z) entry.there
        (subst (λ r. longest ≤ minutes_until t r (slice_index zeros entry.place)) (ready_same pair same) (no_more entry.place entry.within)) in
        clash _ _ _ (ltb-true _ _ waits) short until;
  };
  no_more = λ pair same clean. all (wait_of t f pair) (in_period t _) (λ k lt.
      let lt' : k < length (zeros_of t (weights_of a) f (leg_of t leg).to) = subst (λ xs. k < length xs) listed lt in
      let stands = each_stands t (weights_of a) f (leg_of t leg).to (period_of t) k lt' in
      let within : slice_index zeros k < period_of t = subst (λ xs. slice_index xs k < period_of t) (sym listed) stands.0 in
      let none : stand_of t (weights_of a) f (station_at t pair) (slice_index zeros k) ≡ 0 =
      ap (λ l. stand_of t (weights_of a) f (leg_of t l).to (slice_index zeros k)) same
      ∙ zero_number _ (subst (λ xs. none_stands t (weights_of a) f (leg_of t leg).to (slice_index xs k) ≡ true) (sym listed) stands.1) in
      subst (λ r. wait_of t f pair ≤ minutes_until t r (slice_index zeros k)) (sym (ready_same pair same))
      (elim (cases_lt (minutes_until t (ready_at t f pair) (slice_index zeros k)) (wait_of t f pair)) [
        | inl less ↦ absurd (clean.each (slice_index zeros k) within (lies _ _ less) none)
        | inr ge ↦ ge
      ]));
}
  where
    ready_same : (pair : Connection) → pair.arriving ≡ leg → ready ≡ ready_at t f pair
    ready_same pair same = at ∙ ap (λ l. ready_minute t (leg_on l f)) (sym same)

    clash : (until wait longest : ℕ) → until < wait → wait ≤ longest → longest ≤ until → ⊥
    clash until wait longest lt short le = omega arith

-- .. in a period of so many minutes
pub longest_is : (t : Tables) (a : List ℕ) (f leg longest period ready : ℕ) (zeros : List ℕ) → period ≡ period_of t → zeros ≡ zeros_of t (weights_of a) f (leg_of t leg).to
    → ready ≡ ready_minute t (leg_on leg f) → ((k : ℕ) → k < length zeros → longest ≤ (slice_index zeros k + period - ready) % period)
    → ((wait : ℕ) → wait < period → ((k : ℕ) → k < length zeros → wait ≤ (slice_index zeros k + period - ready) % period) → wait ≤ longest) → IsLongestWait t a f leg longest
longest_is t a f leg longest period ready zeros whole listed at no_more all =
    longest_in_period t a f leg longest ready zeros listed at
    (subst (λ (p : ℕ). (k : ℕ) → k < length zeros → longest ≤ (slice_index zeros k + p - ready) % p) whole no_more)
    (subst (λ (p : ℕ). (wait : ℕ) → wait < p → ((k : ℕ) → k < length zeros → wait ≤ (slice_index zeros k + p - ready) % p) → wait ≤ longest) whole all)
