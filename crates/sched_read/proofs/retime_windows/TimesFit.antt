-- The times that windows give a leg are times of it, and as many as it has windows, and its own.
use Rattle.std.proofs.Common.{◌≡◌, ◌≢◌, ◌==◌, ℕ, zero, suc, ◌+◌, ◌<◌, ◌≤◌, true, if◌then◌else◌, List, [], ◌∷◌, length, map, take, slice_index_or, pos, refl, sym, ap, subst, ◌∙◌, inl, arith}
use Rattle.std.specs.List.{AllByRecursion}
use Rattle.std.proofs.lemmas.Bool.Decides.{nat_tests}
use Rattle.std.proofs.lemmas.List.{get_or_default, map_more, take_all}
use Rattle.std.proofs.lemmas.List.Elements.{All-from_recursion}
use Rattle.std.proofs.lemmas.List.Sums.{sum_by-take-le}
use Rattle.sums.proofs.Tests.{by_test}
use Rattle.fleet_model.specs.Limits.{AreShifts, IsShift}
use Rattle.fleet_model.specs.Period.{minutes_of}
use Rattle.fleet_model.specs.Windows.{own_shift}
use Rattle.fleet_model.specs.declared.limits.TheConstants.{MAX_SHIFTS}
use Rattle.fleet_model.specs.declared.shifts.Shift.{Shift}
use Rattle.fleet_model.specs.declared.tables.Tables.{Tables}
use Rattle.fleet_model.proofs.NotAsked.{own_alone}
use Rattle.sched_read.specs.retime_windows.Keys.{is_on, window_key, windows_on}
use Rattle.sched_read.specs.retime_windows.Times.{AreWindows, IsWindow, no_window, time_by, times_below, times_with, window_at}
use Rattle.sched_read.specs.declared.retime_windows.window.TheConstants.{MAX_WINDOWS_OF_LEG}
use Rattle.sched_read.specs.declared.retime_windows.window.Window.{Window}
use Rattle.sched_read.proofs.retime_windows.Counting.{windows_more}
use Rattle.sched_read.proofs.retime_windows.TimesPut.{HasOwn, Rises, own_is_at, pairs_rise, put_all, put_length, put_own, put_rises}

-- of the first so many windows how many are of a leg
abbrev pub first_on : List Window → ℕ → ℕ → ℕ
first_on windows n leg = windows_on (map window_key (take n windows)) leg

pub on_more : (windows : List Window) (leg n : ℕ) → n < length windows → first_on windows (n + 1) leg ≡ first_on windows n leg + (if (window_at windows n).leg == leg then 1 else 0)
on_more windows leg n below =
    ap (λ keys. windows_on keys leg) (map_more window_key windows n no_window below)
    ∙ windows_more (map window_key (take n windows)) (window_at windows n).leg (window_at windows n).minutes leg

on_at_most : (windows : List Window) (leg n : ℕ) → first_on windows n leg ≤ windows_on (map window_key windows) leg
on_at_most windows leg n = subst (λ keys. windows_on keys leg ≤ windows_on (map window_key windows) leg) (taken windows n) (sum_by-take-le (λ key. if is_on leg key then 1 else 0) (map window_key windows) n)
  where
    taken : (xs : List Window) (k : ℕ) → take k (map window_key xs) ≡ map window_key (take k xs)
    taken xs zero = refl
    taken [] (suc k) = refl
    taken (x ∷ xs) (suc k) = ap (λ keys. window_key x ∷ keys) (taken xs k)

module _ (period leg dep : ℕ) (windows : List Window) where
  abbrev times : ℕ → List Shift
  times n = times_below period leg dep windows n

  pub times_counted : (n : ℕ) → n ≤ length windows → length (times n) ≡ 1 + first_on windows n leg
  times_counted zero within = refl
  times_counted (suc n) within =
      let so_far = times_counted n (omega arith) in
      let next = on_more windows leg n within in
      let on : n + 1 ≡ suc n = omega arith in
      let now : first_on windows (suc n) leg ≡ first_on windows n leg + (if (window_at windows n).leg == leg then 1 else 0) = subst (λ k. first_on windows k leg ≡ first_on windows n leg + (if (window_at windows n).leg == leg then 1 else 0)) on next in
      by_test ((window_at windows n).leg == leg) (λ here.
      rw here (put_length (time_by period dep (window_at windows n)) (times n) ∙ omega (arith, so_far, now ∙ ap (λ b. first_on windows n leg + (if b then 1 else 0)) here))) (λ other.
      rw other (omega (arith, so_far, now ∙ ap (λ b. first_on windows n leg + (if b then 1 else 0)) other)))

  -- there is room for one more
  pub room : (n : ℕ) → n < length windows → (window_at windows n).leg ≡ leg → windows_on (map window_key windows) leg ≤ MAX_WINDOWS_OF_LEG → length (times n) < MAX_SHIFTS
  room n below is few =
      let here : ((window_at windows n).leg == leg) ≡ true = grind (arith, nat_tests) in
      omega (
        arith,
        times_counted n (omega arith),
        on_more windows leg n below ∙ ap (λ b. first_on windows n leg + (if b then 1 else 0)) here,
        on_at_most windows leg (n + 1),
        few,
      )

  module _ (each : (k : ℕ) → k < length windows → (window_at windows k).minutes ≢ pos 0)
      (differ : (j k : ℕ) → j < k → k < length windows → window_key (window_at windows j) ≢ window_key (window_at windows k)) where
    -- no earlier window of the leg has the minutes of a later one
    apart : (m n : ℕ) → n ≤ m → m < length windows → (window_at windows m).leg ≡ leg → AllByRecursion (λ other. other.minutes ≢ (window_at windows m).minutes) (times n)
    apart m zero before within of_leg = ((λ same. each m within (sym same)), tt)
    apart m (suc n) before within of_leg =
        let so_far = apart m n (omega arith) within of_leg in
        by_test ((window_at windows n).leg == leg) (λ here. rw here (put_all (λ other. other.minutes ≢ (window_at windows m).minutes) (time_by period dep (window_at windows n)) (times n) (new here) so_far)) (λ other. rw other so_far)
      where
        same_key : (a b : Window) → a.leg ≡ b.leg → a.minutes ≡ b.minutes → window_key a ≡ window_key b
        same_key a b legs minutes = rw (legs, minutes) refl

        new : ((window_at windows n).leg == leg) ≡ true → (window_at windows n).minutes ≢ (window_at windows m).minutes
        new here same =
            let legs : (window_at windows n).leg ≡ (window_at windows m).leg = grind (arith, nat_tests, here, of_leg) in
            differ n m before within (same_key (window_at windows n) (window_at windows m) legs same)

    pub times_rise : (n : ℕ) → n ≤ length windows → Rises (times n)
    times_rise zero within = (tt, tt)
    times_rise (suc n) within = by_test ((window_at windows n).leg == leg) (λ here.
        let of_leg : (window_at windows n).leg ≡ leg = grind (arith, nat_tests) in
        rw here (put_rises (time_by period dep (window_at windows n)) (times n) (apart n n (omega arith) within of_leg) (times_rise n (omega arith)))) (λ other. rw other (times_rise n (omega arith)))

    pub times_own : (n : ℕ) → n ≤ length windows → HasOwn dep (times n)
    times_own zero within = inl refl
    times_own (suc n) within = by_test ((window_at windows n).leg == leg) (λ here.
        rw here (put_own dep (time_by period dep (window_at windows n)) (times n) (each n within) (times_own n (omega arith)))) (λ other. rw other (times_own n (omega arith)))

-- each is a time of the leg
times_fit : (days leg dep : ℕ) (windows : List Window) (n : ℕ) → dep < minutes_of days → ((k : ℕ) → k < length windows → IsShift days dep (time_by (minutes_of days) dep (window_at windows k)))
    → n ≤ length windows → AllByRecursion (IsShift days dep) (times_below (minutes_of days) leg dep windows n)
times_fit days leg dep windows zero within each few = ((own_alone days dep within).each 0 (own_shift 0) (omega arith), tt)
times_fit days leg dep windows (suc n) within each few = by_test ((window_at windows n).leg == leg) (λ here.
    rw here (put_all (IsShift days dep) (time_by (minutes_of days) dep (window_at windows n)) (times_below (minutes_of days) leg dep windows n) (each n few) (times_fit days leg dep windows n within each (omega arith)))) (λ other.
    rw other (times_fit days leg dep windows n within each (omega arith)))

pub room_at : (period leg dep : ℕ) (windows : List Window) (n : ℕ) (now : List Shift) (d : Window) → now ≡ times_below period leg dep windows n → n < length windows
    → (slice_index_or windows n d).leg ≡ leg → windows_on (map window_key windows) leg ≤ MAX_WINDOWS_OF_LEG → length now < MAX_SHIFTS
room_at period leg dep windows n now d is below of_leg few =
    let here : (window_at windows n).leg ≡ leg = ap (λ (window : Window). window.leg) (get_or_default windows n no_window d below) ∙ of_leg in
    subst (λ times. length times < MAX_SHIFTS) (sym is) (room period leg dep windows n below here few)

-- as many as the leg has windows, and its own
pub all_counted : (windows : List Window) (period leg dep : ℕ) → length (times_with period leg dep windows) ≡ 1 + windows_on (map window_key windows) leg
all_counted windows period leg dep =
    times_counted period leg dep windows (length windows) (omega arith) ∙ ap (λ (taken : List Window). 1 + windows_on (map window_key taken) leg) (take_all (length windows) windows (omega arith))

window_fits : (days dep legs : ℕ) (window : Window) → IsWindow legs window → IsShift days dep (time_by (minutes_of days) dep window)
window_fits days dep legs window is = record { no_earlier = is.minutes.no_less; no_later = is.minutes.no_more; at = refl; extra = is.extra }

pub are_times : (t : Tables) (windows : List Window) (days leg dep : ℕ) → AreWindows t windows → dep < minutes_of days → AreShifts days dep (times_with (minutes_of days) leg dep windows)
are_times t windows days leg dep are within =
    let period = minutes_of days in
    let moves : (k : ℕ) → k < length windows → (window_at windows k).minutes ≢ pos 0 = λ k below. (are.each k no_window below).moves in
    let differ : (j k : ℕ) → j < k → k < length windows → window_key (window_at windows j) ≢ window_key (window_at windows k) = λ j k order below. are.differ j k no_window order below in
    let rises = times_rise period leg dep windows moves differ (length windows) (omega arith) in
    let own = own_is_at dep (times_with period leg dep windows) rises (times_own period leg dep windows moves differ (length windows) (omega arith)) in
    record {
      few = omega (arith, all_counted windows period leg dep, are.few leg);
      each = All-from_recursion (IsShift days dep) (times_with period leg dep windows) (times_fit days leg dep windows (length windows) within (λ k below. window_fits days dep _ (window_at windows k) (are.each k no_window below)) (omega arith));
      rise = pairs_rise (times_with period leg dep windows) rises;
      own_there = own.there;
      own = own.own;
    }
