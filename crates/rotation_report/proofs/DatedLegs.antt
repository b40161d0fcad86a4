-- On a date fly the legs of its day of the period, each once.
use Rattle.std.proofs.Common.{◌≡◌, ℕ, zero, suc, ◌+◌, ◌-◌, ◌*◌, ◌/◌, ◌%◌, ◌<◌, ◌≤◌, ◌==◌, Bool, true, false, if◌then◌else◌, IsPermutation, List, [], ◌∷◌, ◌++◌, length, slice_index, get_or, refl, sym, ◌∙◌, ap, subst, subst₂, inl, inr, arith, mod-eq_of_lt}
use Rattle.std.specs.List.{concat, filter}
use Rattle.std.proofs.Math.Nat.{mod-lt}
use Rattle.std.proofs.lemmas.Bool.{cases_Bool, cases_lt, eqb-true}
use Rattle.std.proofs.lemmas.List.Elements.{filter-append}
use Rattle.std.proofs.lemmas.Nat.{div-add-mod', mod-mul-add}
use Rattle.fleet_model.specs.Period.{day_of_minute, minutes_of}
use Rattle.fleet_model.specs.declared.tables.Tables.{Tables}
use Rattle.fleet_model.specs.Counts.{weights_of}
use Rattle.fleet_model.specs.Schedule.{days_in, leg_on, period_of}
use Rattle.fleet_model.specs.Times.{departure}
use Rattle.fleet_model.specs.Use.{used_of}
use Rattle.fleet_model.proofs.PeriodMinutes.{days_are_period, some_days}
use Rattle.fleet_model.proofs.PlainTables.{plain_departs}
use Rattle.lines_of_flying.specs.ground_turns.Laws.{TurnByDays}
use Rattle.lines_of_flying.specs.ground_turns.Maps.{IsTour, no_turn, periods_in_turn, turn_after, turn_at, turns_round}
use Rattle.lines_of_flying.specs.ground_turns.Nights.{nights_in}
use Rattle.lines_of_flying.specs.ground_turns.Turns.{departs_at}
use Rattle.lines_of_flying.proofs.ground_turns.TourNights.{nights_by_days}
use Rattle.lines_of_flying.proofs.ground_turns.Places.{lower_row}
use Rattle.lines_of_flying.specs.Lines.{BeginsAfterStart, day_of, days_of_tour, legs_on_day, lines_of, nights_after, periods_after}
use Rattle.lines_of_flying.proofs.TourLines.{days_are_use, known_legs}
use Rattle.lines_of_flying.proofs.WholeTours.{joined_all, joined_more, lines_are_tour}
use Rattle.rotation_report.specs.TailLaws.{EachLegOnItsDay, departs_on, flown_on, lines_by_plan}
use Rattle.rotation_report.specs.Tails.{line_on}
use Rattle.rotation_report.proofs.RoundLines.{all_once, has_lines, round_from}
use Rattle.sums.specs.Below.{sum_below}
use Rattle.sums.specs.Places.{list_below}
use Rattle.sums.proofs.Blocks.{no_block, one_block_more}
use Rattle.sums.proofs.Naturals.{equal_number}
use Rattle.sums.proofs.NumberTests.{greater_differs, less_differs}
use Rattle.sums.proofs.Places.{get_or-list_below, length-list_below, list_below-agree}

-- ---- one list in each block of as many

-- a list where a test holds
abbrev where_so : Bool → List ℕ → List ℕ
where_so true xs = xs
where_so false xs = []

where_so-append : (b : Bool) (xs ys : List ℕ) → where_so b xs ++ where_so b ys ≡ where_so b (xs ++ ys)
where_so-append true xs ys = refl
where_so-append false xs ys = refl

where_so-nil : (b : Bool) → [] ≡ where_so b []
where_so-nil true = refl
where_so-nil false = refl

-- the lists at one place of each block
module _ (g : ℕ → List ℕ) (place size : ℕ) (within : place < size) where
  abbrev at_place : ℕ → List ℕ
  at_place n = where_so (n % size == place) (g n)

  rest_of : (m i : ℕ) → i < size → (m * size + i) % size ≡ i
  rest_of m i below = mod-mul-add m size i below

  at_other : (m i : ℕ) → i < size → (i == place) ≡ false → at_place (m * size + i) ≡ []
  at_other m i below other = ap (λ r. where_so (r == place) (g (m * size + i))) (rest_of m i below) ∙ ap (λ b. where_so b (g (m * size + i))) other

  one_block : (m : ℕ) → concat (list_below at_place (suc m * size)) ≡ concat (list_below at_place (m * size)) ++ g (m * size + place)
  one_block m =
      let whole : suc m * size ≡ suc (m * size + place) + (size - suc place) = parted m size place within in
      ap (λ n. concat (list_below at_place n)) whole
      ∙ joined_all at_place (suc (m * size + place)) (size - suc place) (λ k below. later k below)
      ∙ joined_more at_place (m * size + place)
      ∙ ap (λ xs. xs ++ at_place (m * size + place)) (joined_all at_place (m * size) place (λ k below. at_other m k (omega (arith, below, within)) (less_differs k place below)))
      ∙ ap (λ xs. concat (list_below at_place (m * size)) ++ xs) here
    where
      parted : (m size place : ℕ) → place < size → suc m * size ≡ suc (m * size + place) + (size - suc place)
      parted m size place within = omega (arith, within, one_block_more m size)

      moved : (k : ℕ) → suc (m * size + place) + k ≡ m * size + (suc place + k)
      moved k = omega arith

      later : (k : ℕ) → k < size - suc place → at_place (suc (m * size + place) + k) ≡ []
      later k below = ap at_place (moved k) ∙ at_other m (suc place + k) (omega (arith, below, within)) (greater_differs (suc place + k) place (omega arith))

      here : at_place (m * size + place) ≡ g (m * size + place)
      here = ap (λ r. where_so (r == place) (g (m * size + place))) (rest_of m place within) ∙ ap (λ b. where_so b (g (m * size + place))) (equal_number place place refl)

  pub one_each_block : (n : ℕ) → concat (list_below at_place (n * size)) ≡ concat (list_below (λ m. g (m * size + place)) n)
  one_each_block zero = ap (λ n. concat (list_below at_place n)) (no_block size)
  one_each_block (suc n) =
      one_block n ∙ ap (λ xs. xs ++ g (n * size + place)) (one_each_block n) ∙ sym (joined_more (λ m. g (m * size + place)) n)

filter-joined : (q : ℕ → Bool) (g : ℕ → List ℕ) (n : ℕ) → filter q (concat (list_below g n)) ≡ concat (list_below (λ k. filter q (g k)) n)
filter-joined q g zero = refl
filter-joined q g (suc n) =
    ap (filter q) (joined_more g n) ∙ filter-append q (concat (list_below g n)) (g n)
    ∙ ap (λ xs. xs ++ filter q (g n)) (filter-joined q g n) ∙ sym (joined_more (λ k. filter q (g k)) n)

-- so many blocks further, going round
turned_block : (blocks size place x : ℕ) → place < size → 0 < blocks → (x * size + place) % (blocks * size) ≡ (x % blocks) * size + place
turned_block blocks size place x within some =
    let rounds = x / blocks in
    let rest = x % blocks in
    let less : rest < blocks = mod-lt x some in
    let small : rest * size + place < blocks * size = lower_row rest blocks size place less within in
    ap (λ n. n % (blocks * size)) (ap (λ y. y * size + place) (sym (div-add-mod' x blocks)) ∙ apart rounds rest blocks size place)
    ∙ mod-mul-add rounds (blocks * size) (rest * size + place) small
  where
    apart : (rounds rest blocks size place : ℕ) → (rounds * blocks + rest) * size + place ≡ rounds * (blocks * size) + (rest * size + place)
    apart rounds rest blocks size place = grind arith

-- ---- the days of a tour's legs

stepped : (days day dep nights periods next before : ℕ) → day ≡ dep + days * before → nights + dep ≡ days * periods + next → day + nights ≡ next + days * (before + periods)
stepped days day dep nights periods next before is law = grind arith

in_days : (dep minutes days : ℕ) → minutes ≡ minutes_of days → dep < minutes → day_of_minute dep < days
in_days dep minutes days whole within = omega (arith, whole, within)

module _ (t : Tables) (a : List ℕ) (f : ℕ) (tour : List ℕ) (is : IsTour t a f tour) (begins : BeginsAfterStart t f tour) where
  days : ℕ
  days = days_in t

  used : ℕ
  used = used_of t (weights_of a) f

  -- the day of the period on which a leg departs
  own_day : ℕ → ℕ
  own_day k = day_of_minute (departure t (leg_on (slice_index tour k) f))

  own_day_within : (k : ℕ) → k < length tour → own_day k < days
  unfolding days own_day
  own_day_within k below =
      in_days (departure t (leg_on (slice_index tour k) f)) (period_of t) (days_in t) (days_are_period t)
      (plain_departs t (slice_index tour k) f is.fitting.map.plain ((known_legs t a f tour is).each k below))

  -- a leg's day, counted from the period's start before the first leg, is its own in a later period
  day_is : (k : ℕ) → k < length tour → day_of t f tour k ≡ own_day k + days * sum_below (periods_after t f tour) k
  unfolding nights_after periods_after days own_day
  day_is zero below = omega arith
  day_is (suc k) below =
      let within : k < length (turns_round tour) = rw (length-list_below (turn_after tour) (length tour)) (omega (arith, below)) in
      let there : turn_at (turns_round tour) k ≡ turn_after tour k = get_or-list_below (turn_after tour) (length tour) k no_turn (omega (arith, below)) in
      let law = subst (TurnByDays t f) there (nights_by_days t a f (turns_round tour) k is.fitting.map within) in
      let next : departs_at t f (turn_after tour k) ≡ departure t (leg_on (slice_index tour (suc k)) f) = ap (λ n. departure t (leg_on (slice_index tour n) f)) (mod-eq_of_lt below) in
      let turned = law ∙ ap (λ dep. days_in t * periods_in_turn t f (turn_after tour k) + day_of_minute dep) next in
      after k ∙ stepped (days_in t) (day_of t f tour k) (own_day k) (nights_in t f (turn_after tour k)) (periods_in_turn t f (turn_after tour k)) (own_day (suc k))
      (sum_below (periods_after t f tour) k) (day_is k (omega (arith, below))) turned
    where
      after : (k : ℕ) → day_of t f tour (suc k) ≡ day_of t f tour k + nights_after t f tour k
      after k = omega arith

  day_in_period : (k : ℕ) → k < length tour → day_of t f tour k % days ≡ own_day k
  day_in_period k below = ap (λ d. d % days) (day_is k below ∙ turned (own_day k) days (sum_below (periods_after t f tour) k)) ∙ mod-mul-add (sum_below (periods_after t f tour) k) days (own_day k) (own_day_within k below)
    where
      turned : (own days more : ℕ) → own + days * more ≡ more * days + own
      turned own days more = grind arith

  -- of the first legs of a line those that depart on a day of the period: all or none
  own_legs : (day n : ℕ) → n ≤ length tour → (d : ℕ) → filter (departs_on t f day) (legs_on_day t f tour d n) ≡ where_so (d % days == day) (legs_on_day t f tour d n)
  unfolding own_day
  own_legs day zero few d = where_so-nil (d % days == day)
  own_legs day (suc n) few d =
      filter-append (departs_on t f day) (legs_on_day t f tour d n) (if day_of t f tour n == d then slice_index tour n ∷ [] else [])
      ∙ ap (λ xs. xs ++ filter (departs_on t f day) (if day_of t f tour n == d then slice_index tour n ∷ [] else [])) (own_legs day n (omega (arith, few)) d)
      ∙ ap (λ xs. where_so (d % days == day) (legs_on_day t f tour d n) ++ xs) (elim (cases_Bool (day_of t f tour n == d)) [
        | inl same ↦ rw same (its_own (same_day same))
        | inr other ↦ rw other (where_so-nil (d % days == day))
      ])
      ∙ where_so-append (d % days == day) (legs_on_day t f tour d n) (if day_of t f tour n == d then slice_index tour n ∷ [] else [])
    where
      same_day : (day_of t f tour n == d) ≡ true → departs_on t f day (slice_index tour n) ≡ (d % days == day)
      same_day same =
          let is_day : day_of t f tour n ≡ d = eqb-true (day_of t f tour n) d same in
          ap (λ own. own == day) (sym (day_in_period n few)) ∙ ap (λ m. m % days == day) is_day

      kept : (b : Bool) (l : ℕ) → (if b then l ∷ [] else []) ≡ where_so b (l ∷ [])
      kept true l = refl
      kept false l = refl

      its_own : departs_on t f day (slice_index tour n) ≡ (d % days == day) → filter (departs_on t f day) (slice_index tour n ∷ []) ≡ where_so (d % days == day) (slice_index tour n ∷ [])
      its_own own = kept (departs_on t f day (slice_index tour n)) (slice_index tour n) ∙ ap (λ b. where_so b (slice_index tour n ∷ [])) own

  line : ℕ → List ℕ
  line d = legs_on_day t f tour d (length tour)

  all_days : days_of_tour t f tour ≡ used * days
  unfolding used days
  all_days = sym (length-list_below (λ d. legs_on_day t f tour d (length tour)) (days_of_tour t f tour)) ∙ days_are_use t a f tour is

  -- the legs of a day of the period stand in one line of each period
  legs_by_lines : (day : ℕ) → day < days → concat (list_below (λ m. line (m * days + day)) used) ≡ filter (departs_on t f day) tour
  unfolding line
  legs_by_lines day within =
      sym (ap (filter (departs_on t f day)) (sym (lines_are_tour t f tour a is begins))
      ∙ filter-joined (departs_on t f day) line (days_of_tour t f tour)
      ∙ ap concat (list_below-agree (λ d. filter (departs_on t f day) (line d)) (λ d. where_so (d % days == day) (line d)) (days_of_tour t f tour) (λ d below. own_legs day (length tour) (omega arith) d))
      ∙ ap (λ n. concat (list_below (λ d. where_so (d % days == day) (line d)) n)) all_days
      ∙ one_each_block line day days within used)

  some_used : 0 < used
  unfolding used
  some_used = elim (cases_lt 0 used) [
    | inl aircraft ↦ aircraft
    | inr none ↦ absurd (omega (arith, has_lines t a f tour is begins, none_flown (used_of t (weights_of a) f) (days_in t) (omega (arith, none)), days_are_use t a f tour is))
  ]
    where
      none_flown : (used days : ℕ) → used ≤ 0 → used * days ≡ 0
      none_flown used days none = (let zero_is : used ≡ 0 = omega (arith, none) in rw zero_is (omega arith))

  -- a date's lines are those of its day of the period, from one of them on
  on_date : (d : ℕ) → IsPermutation (flown_on t (lines_by_plan t a f tour) d) (filter (departs_on t f (d % days)) tour)
  unfolding days used line
  on_date d =
      let day = d % days in
      let within : day < days = mod-lt d (some_days t) in
      let own : List (List ℕ) = list_below (λ m. line (m * days + day)) used in
      let long : length own ≡ used = length-list_below (λ m. line (m * days + day)) used in
      let same : list_below (line_on t (lines_by_plan t a f tour) d) used ≡ list_below (round_from own (d / days)) (length own) =
      list_below-agree (line_on t (lines_by_plan t a f tour) d) (round_from own (d / days)) used (λ k below. line_is d k) ∙ ap (list_below (round_from own (d / days))) (sym long) in
      subst₂ (λ lines legs. IsPermutation (concat lines) legs) (sym same) (legs_by_lines day within) (all_once own (d / days) (rw long some_used))
    where
      moved : (k whole rest n d : ℕ) → d ≡ whole * n + rest → k * n + d ≡ (k + whole) * n + rest
      moved k whole rest n d is = rw is (grind arith)

      split : (k d n : ℕ) → k * n + d ≡ (k + d / n) * n + d % n
      split k d n = moved k (d / n) (d % n) n d (sym (div-add-mod' d n))

      line_is : (d k : ℕ) → line_on t (lines_by_plan t a f tour) d k ≡ round_from (list_below (λ m. line (m * days + d % days)) used) (d / days) k
      line_is d k =
          let day = d % days in
          let within : day < days = mod-lt d (some_days t) in
          let block = (k + d / days) % used in
          let least : block < used = mod-lt (k + d / days) some_used in
          let place : (k * days_in t + d) % (used * days) ≡ block * days + day =
          ap (λ n. n % (used * days)) (split k d days) ∙ turned_block used days day (k + d / days) within some_used in
          let inside : block * days + day < days_of_tour t f tour = subst (λ n. block * days + day < n) (sym all_days) (lower_row block used days day least within) in
          ap (λ n. get_or (lines_of t f tour) n []) place
          ∙ get_or-list_below line (days_of_tour t f tour) (block * days + day) [] inside
          ∙ sym (get_or-list_below (λ m. line (m * days + day)) used block [] least)
          ∙ sym (ap (λ n. get_or (list_below (λ m. line (m * days + day)) used) ((k + d / days) % n) []) (length-list_below (λ m. line (m * days + day)) used))

pub each_leg_on_its_day : EachLegOnItsDay
unfolding days
each_leg_on_its_day t a f tour d is begins = on_date t a f tour is begins d
