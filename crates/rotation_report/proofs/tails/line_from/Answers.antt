use Rattle.std.proofs.Common.{◌≡◌, ℕ, ◌+◌, ◌*◌, ◌%◌, ◌<◌, List, [], length, get_or, sym, subst, ap, ◌∙◌, arith}
use Rattle.std.proofs.lemmas.List.{get_or_default}
use Rattle.std.proofs.lemmas.Nat.{mod_below}
use Rattle.fleet_model.specs.Schedule.{days_in}
use Rattle.lines_of_flying.specs.Lines.{AreLegsOfTables}
use Rattle.rotation_report.specs.Tails.{line_from}
use Rattle.rotation_report.proofs.tails.line_from.Goals as goal

-- the place of the line on a day is one of the lines
place_within : (lines : List (List ℕ)) (first d count : ℕ) → first < count → length lines ≡ count → (first + d) % count < length lines
place_within lines first d count below long = subst (λ n. (first + d) % count < n) (sym long) (mod_below (first + d) count (omega (arith, below)))

-- what is read there is that line
line_at : (lines found : List (List ℕ)) (first d day count read : ℕ) (legs line : List ℕ) → legs ≡ line → line ≡ get_or found ((first + day) % read) line
    → found ≡ lines → day ≡ d → read ≡ count → first < count → length lines ≡ count → legs ≡ get_or lines ((first + d) % count) []
line_at lines found first d day count read legs line is_line is_read same is_day is_count below long =
    let there : line ≡ get_or lines ((first + d) % count) line =
    subst (λ n. line ≡ get_or lines ((first + n) % count) line) is_day
    (subst (λ n. line ≡ get_or lines ((first + day) % n) line) is_count (subst (λ list. line ≡ get_or list ((first + day) % read) line) same is_read)) in
    is_line ∙ there ∙ get_or_default lines ((first + d) % count) line [] (place_within lines first d count below long)

-- the lines are few enough to add a number of days
few_lines : (found lines : List (List ℕ)) (first d count : ℕ) → found ≡ lines → length lines ≡ count → first < count → length found * 24 < 9223372036854775808 → d < 4294967296
    → first + d < 18446744073709551616
few_lines found lines first d count same long below few less = omega (arith, ap length same, long, below, few, less)

pub overflow_add-place : goal.overflow_add-place
overflow_add-place c =
    let day : c.from-3.result < 4294967296 = omega (arith, c.from-3.ensures, c.ranges.day.fits) in
    let few : length c.as_slice-lines.result.now * 24 < 9223372036854775808 = c.as_slice-lines.type_inv.1 in
    omega (
      arith,
      few_lines c.as_slice-lines.result.now c.args.flown.now.lines c.args.first c.from-3.result (c.args.flown.now.used * days_in c.args.tables.now)
          c.as_slice-lines.ensures c.requires.flown.each_day c.requires.first few day,
    )

pub returns-clause-value : goal.returns-clause-value
returns-clause-value c =
    line_at c.args.flown.now.lines c.as_slice-lines.result.now c.args.first c.args.day c.from-3.result (c.args.flown.now.used * days_in c.args.tables.now) (c.from.result * c.from-2.result)
    c.as_slice.result.now c.index-lines-place.result
    c.as_slice.ensures c.index-lines-place.is c.as_slice-lines.ensures c.from-3.ensures
    (ap (λ n. n * c.from-2.result) c.from.ensures ∙ ap (λ n. c.args.flown.now.used * n) (c.from-2.ensures ∙ c.day_count.ensures.value)) c.requires.first c.requires.flown.each_day

pub returns-clause-legs : goal.returns-clause-legs
returns-clause-legs c =
    let value : c.as_slice.result.now ≡ line_from c.args.tables.now c.args.flown.now c.args.day c.args.first = returns-clause-value c in
    subst (AreLegsOfTables c.args.tables.now) (sym value)
    (c.requires.flown.legs _ (place_within c.args.flown.now.lines c.args.first c.args.day (c.args.flown.now.used * days_in c.args.tables.now) c.requires.first c.requires.flown.each_day))
