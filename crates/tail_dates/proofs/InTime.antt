-- Starts by rank bring each tail to maintenance in time, and where tails are late no starts do.
use Rattle.std.proofs.Common.{◌≡◌, ℕ, ◌-◌, ◌*◌, ◌/◌, ◌<◌, ◌≤◌, ◌==◌, inl, inr, Bool, nat_le, if◌then◌else◌, List, length, slice_index, sym, ◌∙◌, ap, subst, arith}
use Rattle.std.proofs.lemmas.Bool.{cases_order, eqb-true}
use Rattle.std.proofs.lemmas.Bool.Decides.{nat_tests}
use Rattle.std.proofs.lemmas.Nat.{div-mul-add}
use Rattle.fleet_model.specs.declared.tables.Tables.{Tables}
use Rattle.fleet_model.specs.Schedule.{days_in}
use Rattle.lines_of_flying.proofs.ground_turns.Regroup.{by_places}
use Rattle.sums.specs.Below.{count_below, sum_below}
use Rattle.sums.proofs.Counts.{count_below-no_two}
use Rattle.sums.proofs.Sums.{sum_below-le}
use Rattle.sums.proofs.Tests.{no_both}
use Rattle.tail_dates.specs.InTime.{AreInTime, ComesInTime}
use Rattle.tail_dates.specs.Late.{IsLateAt}
use Rattle.tail_dates.specs.Placing.{AreStarts, IsStartOf, rank_in}
use Rattle.tail_dates.specs.Reaches.{AreReaches, HasReach, IsReach, start_line}
use Rattle.tail_dates.proofs.Ranking.{one_rank}

-- ---- one reach
pub one_reach : (nights : List Bool) (first one other : ℕ) → IsReach nights first one → IsReach nights first other → one ≡ other
one_reach nights first one other is too = elim (cases_order one other) [
  | inl same ↦ same
  | inr apart ↦ elim apart [
    | inl less ↦ absurd (no_both (too.first_such (one - 1) (omega (arith, less, is.some))) is.comes)
    | inr more ↦ absurd (no_both (is.first_such (other - 1) (omega (arith, more, too.some))) too.comes)
  ]
]

-- the start of a line
start_of : (t : Tables) (day start : ℕ) → day < days_in t → start_line t day start / days_in t ≡ start
start_of t day start within = div-mul-add start (days_in t) day within

module _ (t : Tables) (f : ℕ) (tour lefts reaches : List ℕ) (day used : ℕ) (inside : day < days_in t) (as_many : length lefts ≡ used) (are : AreReaches t f tour day used reaches) where
  -- starts by the ranks of some numbers, by which they come in time
  pub starts_in_time : (first second lines : List ℕ) → length first ≡ length lefts → length second ≡ used
      → ((start tail : ℕ) → start < used → tail < length lefts → rank_in second start ≡ rank_in first tail → slice_index reaches start ≤ slice_index lefts tail)
      → AreStarts t day first second lines → AreInTime t f tour day used lefts lines
  starts_in_time first second lines long as_long early starts = record {
    each_tail = starts.each_tail ∙ long;
    each = λ k below. of_start k below (starts.each k (omega (arith, below, long)));
    own = λ j k lt less same. own j k (omega (arith, lt, long)) (omega (arith, less, long)) (starts.each j (omega (arith, lt, long))) (starts.each k (omega (arith, less, long))) same;
  }
    where
      of_start : (k : ℕ) → k < length lefts → IsStartOf t day first second k (slice_index lines k) → ComesInTime t f tour day used (slice_index lefts k) (slice_index lines k)
      of_start k below is =
          let within : is.start < used = subst (λ n. is.start < n) as_long is.within in
          record {
            start = is.start;
            within = within;
            its_line = is.its_line;
            reach = slice_index reaches is.start;
            has_reach = subst (λ line. HasReach t f tour line (slice_index reaches is.start)) (sym is.its_line) (are.each is.start within);
            in_time = early is.start k within below is.same_rank;
          }

      own : (j k : ℕ) → j < length first → k < length first → IsStartOf t day first second j (slice_index lines j) → IsStartOf t day first second k (slice_index lines k)
          → slice_index lines j ≡ slice_index lines k → j ≡ k
      own j k lt less one other same =
          let line : start_line t day one.start ≡ start_line t day other.start = sym one.its_line ∙ same ∙ other.its_line in
          let start : one.start ≡ other.start = sym (start_of t day one.start inside) ∙ ap (λ n. n / days_in t) line ∙ start_of t day other.start inside in
          one_rank first j k lt less (sym one.same_rank ∙ ap (rank_in second) start ∙ other.same_rank)

  -- ---- lines in time, and what tails and their starts weigh: tails that weigh no more than their starts weigh no more than all starts
  module _ (lines : List ℕ) (is : AreInTime t f tour day used lefts lines) where
    pub weigh_no_more : (tail_weight start_weight : ℕ → ℕ) → ((k : ℕ) (below : k < length lefts) → tail_weight k ≤ start_weight (is.each k below).start)
        → sum_below tail_weight (length lefts) ≤ sum_below start_weight used
    weigh_no_more tail_weight start_weight carried =
        let by_start = sum_below-le tail_weight (λ k. start_weight (start k)) (length lefts) (record { each = λ k below. omega (arith, carried k below, ap start_weight (start_is k below)) }) in
        let regrouped = by_places start start_weight used (length lefts) start_within in
        let once = sum_below-le (λ s. count_below (λ k. start k == s) (length lefts) * start_weight s) start_weight used
        (record { each = λ s below. at_once s (count_below (λ k. start k == s) (length lefts)) (count_below-no_two (λ k. start k == s) (length lefts) (λ j k lt less e g. own_start j k lt less (eqb-true (start j) s e ∙ sym (eqb-true (start k) s g)))) }) in
        omega (arith, by_start, regrouped, once)
      where
        start : ℕ → ℕ
        start k = slice_index lines k / days_in t

        start_is : (k : ℕ) (below : k < length lefts) → start k ≡ (is.each k below).start
        start_is k below = ap (λ n. n / days_in t) (is.each k below).its_line ∙ start_of t day (is.each k below).start inside

        start_within : (k : ℕ) → k < length lefts → start k < used
        start_within k below = subst (λ s. s < used) (sym (start_is k below)) (is.each k below).within

        own_start : (j k : ℕ) → j < length lefts → k < length lefts → start j ≡ start k → j ≡ k
        own_start j k lt less same =
            is.own j k lt less
            ((is.each j lt).its_line ∙ ap (start_line t day) (sym (start_is j lt) ∙ same ∙ start_is k less) ∙ sym (is.each k less).its_line)

        at_once : (s count : ℕ) → count ≤ 1 → count * start_weight s ≤ start_weight s
        at_once s count le = once (start_weight s) count le
          where
            once : (x count : ℕ) → count ≤ 1 → count * x ≤ x
            once x count le = grind arith

    -- a tail's start has a reach of no more than it has nights left
    pub its_reach : (k : ℕ) (below : k < length lefts) → slice_index reaches (is.each k below).start ≤ slice_index lefts k
    its_reach k below =
        let one = is.each k below in
        let reach : slice_index reaches one.start ≡ one.reach =
        one_reach _ _ _ _ (are.each one.start one.within) (subst (λ line. HasReach t f tour line one.reach) one.its_line one.has_reach) in
        omega (arith, reach, one.in_time)

  pub none_in_time : (nights : ℕ) → IsLateAt lefts reaches nights → (lines : List ℕ) → ¬ (AreInTime t f tour day used lefts lines)
  none_in_time nights late lines is =
      omega (
        arith,
        late,
        ap (sum_below (λ s. if nat_le (slice_index reaches s) nights then 1 else 0)) are.each_start,
        weigh_no_more lines is (λ k. if nat_le (slice_index lefts k) nights then 1 else 0) (λ s. if nat_le (slice_index reaches s) nights then 1 else 0)
            (λ k below. no_later (slice_index lefts k) (slice_index reaches (is.each k below).start) nights (its_reach lines is k below)),
      )
    where
      no_later : (left reach nights : ℕ) → reach ≤ left → (if nat_le left nights then 1 else 0) ≤ (if nat_le reach nights then 1 else 0)
      no_later left reach nights le = grind (arith, nat_tests)
