-- Counts of tails and starts at places, added up, and what follows where no place lacks tails.
use Rattle.std.proofs.Common.{◌≡◌, ℕ, zero, suc, ◌+◌, ◌-◌, ◌*◌, ◌/◌, ◌%◌, ◌^◌, ◌&&◌, ◌<◌, ◌≤◌, ◌==◌, inl, inr, Bool, true, false, nat_le, nat_lt, if◌then◌else◌, List, [], ◌∷◌, ◌++◌, length, slice_index, refl, sym, ◌∙◌, ap, subst, arith}
use Rattle.std.proofs.lemmas.Bool.{cases_lt, cases_order, lt-ltb}
use Rattle.std.proofs.lemmas.Bool.Decides.{nat_tests}
use Rattle.std.proofs.lemmas.List.{append-nil, get_or_append_left, get_or_push, length-append}
use Rattle.sums.specs.Below.{count_below, sum_below}
use Rattle.sums.proofs.Places.{get_or-list_below, length-list_below}
use Rattle.sums.proofs.Sums.{count_below-le, sum_below-add, sum_below-agree, sum_below-ones, sum_below-zero}
use Rattle.tail_dates.specs.Late.{AreLessThan, IsLateAt, IsNeverLate, at_most}
use Rattle.tail_dates.specs.There.{NoneIsLate, NoneLacks, count_at, key, keys, those_at, those_below}
use Rattle.sums.proofs.Naturals.{plus_0}
use Rattle.tail_dates.specs.Placing.{rank_in}
use Rattle.tail_dates.proofs.Lates.{at_most_rises}
use Rattle.tail_dates.proofs.Ranking.{all_pass, few_within, many_within, ranked_in_time}

-- how many numbers are below one
abbrev pub count_before : List ℕ → ℕ → ℕ
count_before places p = count_below (λ k. nat_lt (slice_index places k) p) (length places)

before_none : (places : List ℕ) → count_before places 0 ≡ 0
before_none places = sum_below-agree _ (λ k. 0) (length places) (record { each = λ k below. one (slice_index places k) }) ∙ sum_below-zero (length places)
  where
    one : (x : ℕ) → ◌≡◌ {A = ℕ} (if nat_lt x 0 then 1 else 0) 0
    one x = grind (arith, nat_tests)

before_next : (places : List ℕ) (p : ℕ) → count_before places (suc p) ≡ count_before places p + count_at places p
before_next places p =
    sum_below-agree _ (λ k. (if nat_lt (slice_index places k) p then 1 else 0) + (if slice_index places k == p then 1 else 0)) (length places) (record { each = λ k below. one (slice_index places k) })
    ∙ sum_below-add (λ k. if nat_lt (slice_index places k) p then 1 else 0) (λ k. if slice_index places k == p then 1 else 0) (length places)
  where
    one : (x : ℕ) → ◌≡◌ {A = ℕ} (if nat_lt x (suc p) then 1 else 0) ((if nat_lt x p then 1 else 0) + (if x == p then 1 else 0))
    one x = elim (cases_order x p) [
      | inl e ↦ grind (arith, nat_tests)
      | inr other ↦ elim other [ inl less ↦ grind (arith, nat_tests) | inr more ↦ grind (arith, nat_tests) ]
    ]

before_all : (places : List ℕ) (all : ℕ) → AreLessThan all places → count_before places all ≡ length places
before_all places all are =
    sum_below-agree _ (λ k. 1) (length places) (record { each = λ k below. ap (λ b. if b then 1 else 0) (lt-ltb _ _ (are.each k below)) })
    ∙ sum_below-ones (length places)

before_past : (places : List ℕ) (all p : ℕ) → AreLessThan all places → all ≤ p → count_before places p ≡ length places
before_past places all p are past = before_all places p (record { each = λ k below. omega (arith, are.each k below, past) })

pub below_pushed : (bound : ℕ) (xs : List ℕ) (x : ℕ) → AreLessThan bound xs → x < bound → AreLessThan bound (xs ++ x ∷ [])
below_pushed bound xs x are low = record {
  each = λ k below. elim (cases_lt k (length xs)) [
    | inl less ↦ omega (arith, are.each k less, get_or_append_left xs (x ∷ []) 0 k less)
    | inr ge ↦
        let last : length xs ≡ k = omega (arith, below, ge, length-append xs (x ∷ [])) in
        omega (arith, low, get_or_push xs x 0 k last)
  ];
}

-- ---- no place lacks tails, of which there are as many as starts
module _ (told places : List ℕ) (all : ℕ) (none : NoneLacks told places all) (known : AreLessThan all places) (as_many : length told ≡ length places) where
  no_fewer : (p : ℕ) → p ≤ all → count_before places p ≤ count_before told p
  no_fewer zero within = omega (arith, before_none places)
  no_fewer (suc p) within = elim (cases_lt (count_at told p) (count_at places p)) [
    | inl less ↦ absurd (none.each p (omega (arith, within)) less)
    | inr enough ↦ omega (arith, no_fewer p (omega (arith, within)), before_next told p, before_next places p, enough)
  ]

  -- what is more up to a place stays more
  more_stay : (p more : ℕ) → p + more ≤ all → count_before places p < count_before told p → count_before places (p + more) < count_before told (p + more)
  more_stay p zero within less = subst (λ n. count_before places n < count_before told n) (plain p) less
    where
      plain : (n : ℕ) → n ≡ n + 0
      plain n = omega arith
  more_stay p (suc more) within less =
      let so_far = more_stay p more (omega (arith, within)) less in
      subst (λ n. count_before places n < count_before told n) (next p more)
      (elim (cases_lt (count_at told (p + more)) (count_at places (p + more))) [
        | inl lacks ↦ absurd (none.each (p + more) (omega (arith, within)) lacks)
        | inr enough ↦ omega (arith, so_far, before_next told (p + more), before_next places (p + more), enough)
      ])
    where
      next : (m n : ℕ) → suc (m + n) ≡ m + suc n
      next m n = omega arith

  all_there : count_before told all ≡ length told
  all_there =
      let few = count_below-le (λ k. nat_lt (slice_index told k) all) (length told) in
      omega (arith, few, no_fewer all (omega arith), before_all places all known, as_many)

  pub told_known : AreLessThan all told
  told_known = record { each = λ k below. tested (slice_index told k) all (all_pass (λ k. nat_lt (slice_index told k) all) (length told) all_there k below) }
    where
      tested : (x n : ℕ) → nat_lt x n ≡ true → x < n
      tested x n e = grind (arith, nat_tests)

  pub same_before : (p : ℕ) → p ≤ all → count_before told p ≡ count_before places p
  same_before p within = elim (cases_lt (count_before places p) (count_before told p)) [
    | inl more ↦
        let at_end = subst (λ n. count_before places n < count_before told n) (sum p all within) (more_stay p (all - p) (omega (arith, within)) more) in
        absurd (omega (arith, at_end, all_there, before_all places all known, as_many))
    | inr no_more ↦ omega (arith, no_more, no_fewer p within)
  ]
    where
      sum : (p all : ℕ) → p ≤ all → p + (all - p) ≡ all
      sum p all within = omega (arith, within)

-- ---- numbers of one place
pushed_counted : (xs : List ℕ) (x w : ℕ) → at_most (xs ++ x ∷ []) w ≡ at_most xs w + (if nat_le x w then 1 else 0)
pushed_counted xs x w =
    ap (count_below (λ k. nat_le (slice_index (xs ++ x ∷ []) k) w)) (length-append xs (x ∷ []))
    ∙ next (λ k. if nat_le (slice_index (xs ++ x ∷ []) k) w then 1 else 0) (length xs)
    ∙ ap (λ n. n + (if nat_le (slice_index (xs ++ x ∷ []) (length xs)) w then 1 else 0))
    (sum_below-agree _ (λ k. if nat_le (slice_index xs k) w then 1 else 0) (length xs) (record { each = λ k below. ap (λ n. if nat_le n w then 1 else 0) (get_or_append_left xs (x ∷ []) 0 k below) }))
    ∙ ap (λ n. at_most xs w + (if nat_le n w then 1 else 0)) (get_or_push xs x 0 (length xs) refl)
  where
    next : (f : ℕ → ℕ) (n : ℕ) → sum_below f (n + 1) ≡ sum_below f n + f n
    next f n = ap (sum_below f) (one n)
      where
        one : (n : ℕ) → n + 1 ≡ suc n
        one n = omega arith

pub those_counted : (places numbers : List ℕ) (p w k : ℕ) → at_most (those_below places numbers p k) w ≡ count_below (λ j. (slice_index places j == p) && nat_le (slice_index numbers j) w) k
those_counted places numbers p w zero = refl
those_counted places numbers p w (suc k) = by_test (those_counted places numbers p w k) (slice_index places k == p)
  where
    by_test : at_most (those_below places numbers p k) w ≡ count_below (λ j. (slice_index places j == p) && nat_le (slice_index numbers j) w) k
        → (b : Bool)
        → at_most (those_below places numbers p k ++ (if b then slice_index numbers k ∷ [] else [])) w
        ≡ count_below (λ j. (slice_index places j == p) && nat_le (slice_index numbers j) w) k + (if b && nat_le (slice_index numbers k) w then 1 else 0)
    by_test before true =
        pushed_counted (those_below places numbers p k) (slice_index numbers k) w ∙ ap (λ n. n + (if nat_le (slice_index numbers k) w then 1 else 0)) before
    by_test before false = ap (λ xs. at_most xs w) (append-nil (those_below places numbers p k)) ∙ before ∙ sym (plus_0 (count_below (λ j. (slice_index places j == p) && nat_le (slice_index numbers j) w) k))

-- so numbers of one place are below a bound where all are
pub those_below_bound : (bound : ℕ) (places numbers : List ℕ) (p : ℕ) → AreLessThan bound numbers → (k : ℕ) → k ≤ length numbers → AreLessThan bound (those_below places numbers p k)
those_below_bound bound places numbers p are zero within = record { each = λ k below. absurd (omega (arith, below)) }
those_below_bound bound places numbers p are (suc k) within = by_test (those_below_bound bound places numbers p are k (omega (arith, within))) (slice_index places k == p)
  where
    by_test : AreLessThan bound (those_below places numbers p k) → (b : Bool) → AreLessThan bound (those_below places numbers p k ++ (if b then slice_index numbers k ∷ [] else []))
    by_test before true = below_pushed bound (those_below places numbers p k) (slice_index numbers k) before (are.each k (omega (arith, within)))
    by_test before false = subst (AreLessThan bound) (sym (append-nil (those_below places numbers p k))) before

-- ---- keys
module _ (places numbers : List ℕ) (as_many : length places ≡ length numbers) (few : AreLessThan (2 ^ 40) numbers) where
  pub keys_long : length (keys places numbers) ≡ length numbers
  keys_long = length-list_below (λ k. key (slice_index places k) (slice_index numbers k)) (length numbers)

  pub key_at : (k : ℕ) → k < length numbers → slice_index (keys places numbers) k ≡ key (slice_index places k) (slice_index numbers k)
  key_at k below = get_or-list_below (λ k. key (slice_index places k) (slice_index numbers k)) (length numbers) k 0 below

  -- keys up to one are those of places before its own, and those of its place with no more nights
  pub keys_within : (p w : ℕ) → w < 2 ^ 40 → at_most (keys places numbers) (key p w) ≡ count_before places p + at_most (those_at places numbers p) w
  keys_within p w low =
      ap (count_below (λ k. nat_le (slice_index (keys places numbers) k) (key p w))) keys_long
      ∙ sum_below-agree _ (λ k. (if nat_lt (slice_index places k) p then 1 else 0) + (if (slice_index places k == p) && nat_le (slice_index numbers k) w then 1 else 0)) (length numbers)
      (record { each = λ k below. ap (λ n. if nat_le n (key p w) then 1 else 0) (key_at k below) ∙ one (slice_index places k) (slice_index numbers k) p w (few.each k below) low })
      ∙ sum_below-add (λ k. if nat_lt (slice_index places k) p then 1 else 0) (λ k. if (slice_index places k == p) && nat_le (slice_index numbers k) w then 1 else 0) (length numbers)
      ∙ ap (λ n. n + count_below (λ k. (slice_index places k == p) && nat_le (slice_index numbers k) w) (length numbers)) (ap (count_below (λ k. nat_lt (slice_index places k) p)) (sym as_many))
      ∙ ap (λ n. count_before places p + n) (sym (those_counted places numbers p w (length numbers)))
    where
      one : (x n p w : ℕ) → n < 2 ^ 40 → w < 2 ^ 40
          → ◌≡◌ {A = ℕ} (if nat_le (x * 2 ^ 40 + n) (p * 2 ^ 40 + w) then 1 else 0) ((if nat_lt x p then 1 else 0) + (if (x == p) && nat_le n w then 1 else 0))
      one x n p w few low = elim (cases_order x p) [
        | inl e ↦ grind (arith, nat_tests)
        | inr other ↦ elim other [ inl less ↦ grind (arith, nat_tests) | inr more ↦ grind (arith, nat_tests) ]
      ]

  -- and those below a place's own are those of places before it
  pub keys_before : (p : ℕ) → 0 < p → at_most (keys places numbers) (p * 2 ^ 40 - 1) ≡ count_before places p
  keys_before p some =
      ap (count_below (λ k. nat_le (slice_index (keys places numbers) k) (p * 2 ^ 40 - 1))) keys_long
      ∙ sum_below-agree _ (λ k. if nat_lt (slice_index places k) p then 1 else 0) (length numbers)
      (record { each = λ k below. ap (λ n. if nat_le n (p * 2 ^ 40 - 1) then 1 else 0) (key_at k below) ∙ one (slice_index places k) (slice_index numbers k) p (few.each k below) some })
      ∙ ap (count_below (λ k. nat_lt (slice_index places k) p)) (sym as_many)
    where
      one : (x n p : ℕ) → n < 2 ^ 40 → 0 < p → ◌≡◌ {A = ℕ} (if nat_le (x * 2 ^ 40 + n) (p * 2 ^ 40 - 1) then 1 else 0) (if nat_lt x p then 1 else 0)
      one x n p few some = elim (cases_lt x p) [ inl less ↦ grind (arith, nat_tests) | inr more ↦ grind (arith, nat_tests) ]

-- ---- ranks by keys, where no place lacks tails or is late
module _ (told lefts places reaches : List ℕ) (all : ℕ) (told_long : length told ≡ length lefts) (places_long : length places ≡ length reaches) (as_many : length lefts ≡ length reaches)
    (few_lefts : AreLessThan (2 ^ 40) lefts) (few_reaches : AreLessThan (2 ^ 40) reaches) (known : AreLessThan all places) (none : NoneLacks told places all) where
  as_many_places : length told ≡ length places
  as_many_places = told_long ∙ as_many ∙ sym places_long

  never_by_keys : NoneIsLate told lefts places reaches all → IsNeverLate (keys told lefts) (keys places reaches)
  never_by_keys none_late = record { each = λ v late. by_place v (v / 2 ^ 40) (v % 2 ^ 40) (parts v) (low v) late }
    where
      parts : (v : ℕ) → v ≡ key (v / 2 ^ 40) (v % 2 ^ 40)
      parts v = omega arith

      low : (v : ℕ) → v % 2 ^ 40 < 2 ^ 40
      low v = omega arith

      by_place : (v p w : ℕ) → v ≡ key p w → w < 2 ^ 40 → ¬ (IsLateAt (keys told lefts) (keys places reaches) v)
      by_place v p w is few late = elim (cases_lt p all) [
        | inl inside ↦
            let tails = ap (at_most (keys told lefts)) is ∙ keys_within told lefts told_long few_lefts p w few in
            let starts = ap (at_most (keys places reaches)) is ∙ keys_within places reaches places_long few_reaches p w few in
            let before = same_before told places all none known as_many_places p (omega (arith, inside)) in elim (cases_lt (at_most (those_at places reaches p) w) (at_most (those_at told lefts p) w)) [
              | inl less ↦ (none_late.each p inside).each w less
              | inr enough ↦ omega (arith, late, tails, starts, before, enough)
            ]
        | inr past ↦
            let starts = ap (at_most (keys places reaches)) is ∙ keys_within places reaches places_long few_reaches p w few in
            let before = before_past places all p known past in
            let tails = count_below-le (λ k. nat_le (slice_index (keys told lefts) k) v) (length (keys told lefts)) in
            omega (arith, late, starts, before, tails, keys_long told lefts told_long few_lefts, as_many, places_long)
      ]

  -- equal ranks are of one place
  pub ranked_there : NoneIsLate told lefts places reaches all → (start tail : ℕ) → start < length reaches → tail < length lefts → rank_in (keys places reaches) start ≡ rank_in (keys told lefts) tail
      → (slice_index places start ≡ slice_index told tail) × (slice_index reaches start ≤ slice_index lefts tail)
  ranked_there none_late start tail started tailed same =
      let p = slice_index places start in
      let q = slice_index told tail in
      let r = slice_index reaches start in
      let v = slice_index lefts tail in
      let its_start : slice_index (keys places reaches) start ≡ key p r = key_at places reaches places_long few_reaches start started in
      let its_tail : slice_index (keys told lefts) tail ≡ key q v = key_at told lefts told_long few_lefts tail tailed in
      let tail_in : tail < length (keys told lefts) = omega (arith, tailed, keys_long told lefts told_long few_lefts) in
      let start_in : start < length (keys places reaches) = omega (arith, started, keys_long places reaches places_long few_reaches) in
      let in_time = ranked_in_time (keys told lefts) (keys places reaches) (never_by_keys none_late) start tail tail_in same in
      let no_later : key p r ≤ key q v = omega (arith, in_time, its_start, its_tail) in elim (cases_order p q) [
        | inl e ↦ (e, same_place p q r v e no_later)
        | inr other ↦ elim other [
          | inl less ↦
              let last : key p r ≤ q * 2 ^ 40 - 1 = room p q r (few_reaches.each start started) less in
              let before : q * 2 ^ 40 - 1 < key q v = under q v less in
              let tails = few_within (keys told lefts) tail (q * 2 ^ 40 - 1) (omega (arith, before, its_tail)) in
              let starts = many_within (keys places reaches) start start_in in
              let rises = at_most_rises (keys places reaches) (slice_index (keys places reaches) start) (q * 2 ^ 40 - 1) (omega (arith, last, its_start)) in
              let told_here = (told_known told places all none known as_many_places).each tail (omega (arith, tailed, told_long)) in
              let even = same_before told places all none known as_many_places q (omega (arith, told_here)) in
              absurd (omega (arith, tails, starts, rises, even, same, keys_before told lefts told_long few_lefts q (omega (arith, less)), keys_before places reaches places_long few_reaches q (omega (arith, less))))
          | inr more ↦ absurd (no_room p q r v (few_lefts.each tail tailed) more no_later)
        ]
      ]
    where
      same_place : (p q r v : ℕ) → p ≡ q → key p r ≤ key q v → r ≤ v
      same_place p q r v e le = omega (arith, e, le)

      room : (p q r : ℕ) → r < 2 ^ 40 → p < q → key p r ≤ q * 2 ^ 40 - 1
      room p q r few less = omega (arith, few, less)

      under : {p : ℕ} (q v : ℕ) → p < q → q * 2 ^ 40 - 1 < key q v
      under q v less = omega (arith, less)

      no_room : (p q r v : ℕ) → v < 2 ^ 40 → q < p → key p r ≤ key q v → ⊥
      no_room p q r v few more le = omega (arith, few, more, le)
