-- What is told of a date is the same, whichever date is the first.
use Rattle.std.proofs.Common.{◌≡◌, ℕ, zero, suc, ◌+◌, ◌≤◌, List, [], ◌++◌, get_or, append-nil, append_assoc, refl, sym, ap, ◌∙◌, arith}
use Rattle.calendar_dates.specs.Days.{Day, day_after, next_day, no_day}
use Rattle.fleet_model.specs.declared.tables.Tables.{Tables}
use Rattle.rotation_report.specs.TailLaws.{EachDateIsItsOwn}
use Rattle.rotation_report.specs.Tails.{day_lines, days_lines}
use Rattle.rotation_report.specs.declared.flying.FleetLines.{FleetLines}
use Rattle.sums.proofs.Naturals.{plus_0, plus_suc}
use Rattle.sums.proofs.Places.{get_or-list_below}
use Rattle.sums.specs.Places.{list_below}

-- so many days after a day that is so many days later
later_day : (first : Day) (past n : ℕ) → day_after (day_after first past) n ≡ day_after first (past + n)
unfolding day_after
later_day first past zero = ap (day_after first) (sym (plus_0 past))
later_day first past (suc n) = ap next_day (later_day first past n) ∙ ap (day_after first) (sym (plus_suc past n))

module _ (t : Tables) (flown : FleetLines) where
  -- the lines of the first days of many, by their number
  by_number : (ℕ → Day) → ℕ → ℕ → List ℕ
  by_number days past zero = []
  by_number days past (suc d) = by_number days past d ++ day_lines t flown (days d) (past + d) flown.used

  of_list : (days : ℕ → Day) (past many n : ℕ) → n ≤ many → days_lines t flown past (list_below days many) n ≡ by_number days past n
  unfolding by_number
  of_list days past many zero few = refl
  of_list days past many (suc n) few =
      ap (λ text. text ++ day_lines t flown (get_or (list_below days many) n no_day) (past + n) flown.used) (of_list days past many n (omega (arith, few)))
      ∙ ap (λ day. by_number days past n ++ day_lines t flown day (past + n) flown.used) (get_or-list_below days many n no_day (omega (arith, few)))

  parted : (days after : ℕ → Day) (past some : ℕ) → ((k : ℕ) → days (some + k) ≡ after k) → (others : ℕ)
      → by_number days past (some + others) ≡ by_number days past some ++ by_number after (past + some) others
  unfolding by_number
  parted days after past some same zero = ap (by_number days past) (plus_0 some) ∙ sym (append-nil (by_number days past some))
  parted days after past some same (suc n) =
      ap (by_number days past) (plus_suc some n)
      ∙ ap (λ text. text ++ day_lines t flown (days (some + n)) (past + (some + n)) flown.used) (parted days after past some same n)
      ∙ append_assoc (by_number days past some) (by_number after (past + some) n) (day_lines t flown (days (some + n)) (past + (some + n)) flown.used)
      ∙ ap (λ day. by_number days past some ++ (by_number after (past + some) n ++ day_lines t flown day (past + (some + n)) flown.used)) (same n)
      ∙ ap (λ m. by_number days past some ++ (by_number after (past + some) n ++ day_lines t flown (after n) m flown.used)) (moved past some n)
    where
      moved : (p m n : ℕ) → p + (m + n) ≡ p + m + n
      moved p m n = omega arith

pub each_date_is_its_own : EachDateIsItsOwn
each_date_is_its_own t flown first past some others =
    let days : ℕ → Day = day_after (day_after first past) in
    let after : ℕ → Day = day_after (day_after first (past + some)) in
    let same : (k : ℕ) → days (some + k) ≡ after k = λ k. later_day first past (some + k) ∙ ap (day_after first) (moved past some k) ∙ sym (later_day first (past + some) k) in
    of_list t flown days past (some + others) (some + others) (omega arith)
    ∙ parted t flown days after past some same others
    ∙ ap (λ text. text ++ by_number t flown after (past + some) others) (sym (of_list t flown days past some some (omega arith)))
    ∙ ap (λ text. days_lines t flown past (list_below days some) some ++ text) (sym (of_list t flown after (past + some) others others (omega arith)))
  where
    moved : (p m n : ℕ) → p + (m + n) ≡ p + m + n
    moved p m n = omega arith
