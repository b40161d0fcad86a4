-- Nights that stay below so many days without maintenance are those of which any so many have one for maintenance.
use Rattle.std.proofs.Common.{◌≡◌, ℕ, zero, suc, ◌+◌, ◌-◌, ◌%◌, ◌<◌, ◌≤◌, Bool, true, false, ◌&&◌, nat_lt, if◌then◌else◌, List, [], ◌∷◌, ◌++◌, length, slice_index_or, refl, sym, ◌∙◌, ap, inl, inr, arith, length-append, add-sub_cancel, add-sub_of_le}
use Rattle.std.specs.List.{list_any}
use Rattle.std.proofs.Math.Nat.{mod-eq_of_lt}
use Rattle.std.proofs.lemmas.Bool.{cases_lt}
use Rattle.std.proofs.lemmas.Bool.Decides.{nat_tests}
use Rattle.std.proofs.lemmas.List.{get_or_append_left, get_or-append_right}
use Rattle.std.proofs.lemmas.List.Folds.{list_any_at}
use mathlib.Core.Bool.{false≢true}
use Rattle.sums.proofs.Tests.{both_true, by_either, by_test, parts_true}
use Rattle.fleet_model.specs.declared.tables.Tables.{Tables}
use Rattle.lines_of_flying.specs.ground_turns.Nights.{IsKeptFor, IsMaintainedFrom, can_maintain, night_round}
use Rattle.lines_of_flying.specs.declared.ground_turns.nights.Night.{Night}
use Rattle.lines_of_flying.specs.declared.ground_turns.nights.Night.TheVariants as night
use Rattle.sums.proofs.Rounds.{mod_cases}
use Rattle.euler_rotation.specs.Often.{MaintainedOften, OneMaintains, stays_below}

-- the night at a place
abbrev pub at : List Night → ℕ → Night
at nights k = slice_index_or nights k night.Aloft

-- where so many nights without maintenance came before, some night is for maintenance among so many days from one on
pub record SomeWithin (t : Tables) (days n : ℕ) (nights : List Night) (first : ℕ) : Type 0 where
  pub place : ℕ
  pub within : place < length nights
  pub from : first ≤ place + n
  pub until : place + n < first + days
  pub maintained : can_maintain t (at nights place) ≡ true

-- a list whose test passes somewhere
pub some_place : {X : Type 0} (p : X → Bool) (d : X) (xs : List X) → list_any p xs ≡ true → (k : ℕ) × (k < length xs) × (p (slice_index_or xs k d) ≡ true)
some_place p d [] h = absurd (false≢true h)
some_place p d (x ∷ xs) h = by_either (p x) (list_any p xs) h (λ here. (0, omega arith, here)) (λ later. let rest = some_place p d xs later in (suc rest.0, omega (arith, rest.1), rest.2))

module _ (t : Tables) (days : ℕ) where
  step : (n : ℕ) (x : Night) (xs : List Night) (b : Bool) → can_maintain t x ≡ b
      → stays_below t days n (x ∷ xs) ≡ (nat_lt (if b then 0 else suc n) days && stays_below t days (if b then 0 else suc n) xs)
  step n x xs b is = ap (λ c. nat_lt (if c then 0 else suc n) days && stays_below t days (if c then 0 else suc n) xs) is

  less : (m : ℕ) → nat_lt m days ≡ true → m < days
  less m h = grind (arith, nat_tests)

  tested : (m : ℕ) → m < days → nat_lt m days ≡ true
  tested m h = grind (arith, nat_tests)

  -- what is within some nights, and then within one night more before them
  abbrev IsWithin : List Night → Type 0
  IsWithin xs = (n first : ℕ) → n < days → stays_below t days n xs ≡ true → first + days ≤ n + length xs → SomeWithin t days n xs first

  within_now : (x : Night) (xs : List Night) (n first : ℕ) → n < days → stays_below t days n (x ∷ xs) ≡ true → first + days ≤ n + length (x ∷ xs) → IsWithin xs
      → can_maintain t x ≡ true → SomeWithin t days n (x ∷ xs) first
  within_now x xs n first few below lt within some = elim (cases_lt n first) [
    | inl after ↦
        let parts = parts_true (nat_lt 0 days) (stays_below t days 0 xs) (sym (step n x xs true some) ∙ below) in
        let rest = within 0 (first - suc n) (omega arith) parts.1 (omega arith) in
        record { place = suc rest.place; within = omega (arith, rest.within); from = omega (arith, rest.from); until = omega (arith, rest.until); maintained = rest.maintained }
    | inr before ↦ record { place = 0; within = omega arith; from = omega arith; until = omega arith; maintained = some }
  ]

  within_later : (x : Night) (xs : List Night) (n first : ℕ) → n < days → stays_below t days n (x ∷ xs) ≡ true → first + days ≤ n + length (x ∷ xs) → IsWithin xs
      → can_maintain t x ≡ false → SomeWithin t days n (x ∷ xs) first
  within_later x xs n first few below lt within none =
      let parts = parts_true (nat_lt (suc n) days) (stays_below t days (suc n) xs) (sym (step n x xs false none) ∙ below) in
      let rest = within (suc n) first (less (suc n) parts.0) parts.1 (omega arith) in
      record { place = suc rest.place; within = omega (arith, rest.within); from = omega (arith, rest.from); until = omega (arith, rest.until); maintained = rest.maintained }

  pub below_within : (xs : List Night) → IsWithin xs
  below_within [] n first few below lt = absurd (none n days first few lt)
    where
      none : (n days first : ℕ) → n < days → first + days ≤ n + 0 → ⊥
      none n days first few lt = omega arith
  below_within (x ∷ xs) n first few below lt =
      by_test (can_maintain t x) (within_now x xs n first few below lt (below_within xs)) (within_later x xs n first few below lt (below_within xs))

  -- a night for maintenance behind the first night
  behind : (x : Night) (xs : List Night) (n m first second : ℕ) (some : SomeWithin t days n (x ∷ xs) first) → ((place : ℕ) → place ≡ 0 → place + n < first + days → first ≤ place + n → can_maintain t (at (x ∷ xs) place) ≡ true → ⊥)
      → first + m ≡ second + suc n → SomeWithin t days m xs second
  behind x xs n m first second some not_first moved = from some.place some.within some.from some.until some.maintained
    where
      from : (place : ℕ) → place < length (x ∷ xs) → first ≤ place + n → place + n < first + days → can_maintain t (at (x ∷ xs) place) ≡ true → SomeWithin t days m xs second
      from zero within begins until maintained = absurd (not_first 0 refl until begins maintained)
      from (suc place) within begins until maintained = record { place = place; within = omega arith; from = omega arith; until = omega arith; maintained = maintained }

  -- nights stay below so many days, and then one night more before them and they
  abbrev StaysBelow : List Night → Type 0
  StaysBelow xs = (n : ℕ) → n < days → ((first : ℕ) → first + days ≤ n + length xs → SomeWithin t days n xs first) → stays_below t days n xs ≡ true

  first_none : (x : Night) (xs : List Night) → can_maintain t x ≡ false → (place : ℕ) → place ≡ 0 → can_maintain t (at (x ∷ xs) place) ≡ true → ⊥
  first_none x xs none place e maintained = false≢true (sym none ∙ ap (λ k. can_maintain t (at (x ∷ xs) k)) (sym e) ∙ maintained)

  below_now : (x : Night) (xs : List Night) (n : ℕ) → n < days → ((first : ℕ) → first + days ≤ n + length (x ∷ xs) → SomeWithin t days n (x ∷ xs) first) → StaysBelow xs
      → can_maintain t x ≡ true → stays_below t days n (x ∷ xs) ≡ true
  below_now x xs n few windows rest some =
      step n x xs true some
      ∙ both_true (nat_lt 0 days) (stays_below t days 0 xs) (tested 0 (omega arith))
      (rest 0 (omega arith) (λ first lt. behind x xs n 0 (first + suc n) first (windows (first + suc n) (omega arith)) (λ place e until begins maintained. omega arith) (omega arith)))

  below_later : (x : Night) (xs : List Night) (n : ℕ) → n < days → ((first : ℕ) → first + days ≤ n + length (x ∷ xs) → SomeWithin t days n (x ∷ xs) first) → StaysBelow xs
      → can_maintain t x ≡ false → stays_below t days n (x ∷ xs) ≡ true
  below_later x xs n few windows rest none = elim (cases_lt (suc n) days) [
    | inl more ↦
        step n x xs false none
        ∙ both_true (nat_lt (suc n) days) (stays_below t days (suc n) xs) (tested (suc n) more)
        (rest (suc n) more (λ first lt. behind x xs n (suc n) first first (windows first (omega arith)) (λ place e until begins maintained. first_none x xs none place e maintained) refl))
    | inr full ↦
        let some = windows (suc n - days) (omega arith) in
        absurd (first_none x xs none some.place (omega (arith, some.until)) some.maintained)
  ]

  pub within_below : (xs : List Night) → StaysBelow xs
  within_below [] n few windows = refl
  within_below (x ∷ xs) n few windows = by_test (can_maintain t x) (below_now x xs n few windows (within_below xs)) (below_later x xs n few windows (within_below xs))

  pub often_below : (xs : List Night) → 0 < days → MaintainedOften t xs days → stays_below t days 0 xs ≡ true
  often_below xs some often = within_below xs 0 some one
    where
      one : (first : ℕ) → first + days ≤ 0 + length xs → SomeWithin t days 0 xs first
      one first lt =
          let it = often.each first (omega arith) in
          record { place = first + it.after; within = omega (arith, it.within); from = omega arith; until = omega (arith, it.within); maintained = it.maintained }

  pub below_often : (xs : List Night) → 0 < days → stays_below t days 0 xs ≡ true → MaintainedOften t xs days
  below_often xs some below = record { each = one }
    where
      same : (first place : ℕ) → first ≤ place + 0 → first + (place - first) ≡ place
      same first place le = omega arith

      one : (first : ℕ) → first + days ≤ length xs → OneMaintains t xs days first
      one first lt =
          let it = below_within xs 0 first some below (omega arith) in
          record { after = it.place - first; within = omega (arith, it.until, it.from); maintained = ap (λ k. can_maintain t (at xs k)) (same first it.place it.from) ∙ it.maintained }

-- ---- going round
-- the night at a place of a list that is gone round twice
twice_at : (xs : List Night) (k : ℕ) → k < length xs + length xs → at (xs ++ xs) k ≡ night_round xs k
twice_at xs k lt = elim (cases_lt k (length xs)) [
  | inl less ↦ get_or_append_left xs xs night.Aloft k less ∙ ap (at xs) (sym (mod-eq_of_lt less))
  | inr ge ↦ get_or-append_right xs xs (length xs) k night.Aloft refl ge ∙ ap (at xs) (sym (once_round (length xs) k lt ge))
]
  where
    once_round : (n k : ℕ) → k < n + n → n ≤ k → k % n ≡ k - n
    once_round n k lt ge = elim (mod_cases k n lt) [ inl low ↦ absurd (omega (arith, low.1)) | inr high ↦ high.0 ]

module _ (t : Tables) (days : ℕ) (nights : List Night) where
  -- a night for maintenance comes round
  pub kept_round : (first k : ℕ) → first < length nights → k < length nights → length nights ≤ days → can_maintain t (at nights k) ≡ true → IsMaintainedFrom t nights days first
  kept_round first k low lt many maintained = elim (cases_lt k first) [
    | inl before ↦ record {
      after = k + length nights - first;
      within = omega arith;
      maintained = ap (λ j. can_maintain t (night_round nights j)) (back first k (length nights) low before) ∙ ap (can_maintain t) (sym (twice_at nights (k + length nights) (omega arith))
          ∙ get_or-append_right nights nights (length nights) (k + length nights) night.Aloft refl (omega arith) ∙ ap (at nights) (add-sub_cancel k (length nights)))
          ∙ maintained;
    }
    | inr after ↦ record {
      after = k - first;
      within = omega arith;
      maintained = ap (λ j. can_maintain t (night_round nights j)) (add-sub_of_le after) ∙ ap (λ j. can_maintain t (at nights j)) (mod-eq_of_lt lt) ∙ maintained;
    }
  ]
    where
      back : (first k n : ℕ) → first < n → k < first → first + (k + n - first) ≡ k + n
      back first k n low before = omega arith

module _ (t : Tables) (days : ℕ) (nights : List Night) (some_days : 0 < days) where
  pub kept_some : IsKeptFor t nights days → list_any (can_maintain t) nights ≡ true
  kept_some kept =
      let one = kept.each 0 kept.some in
      list_any_at (can_maintain t) nights ((0 + one.after) % length nights) night.Aloft (omega (arith, kept.some)) one.maintained

  pub kept_below : IsKeptFor t nights days → stays_below t days 0 (nights ++ nights) ≡ true
  kept_below kept = often_below t days (nights ++ nights) some_days (record { each = one })
    where
      long : length (nights ++ nights) ≡ length nights + length nights
      long = length-append nights nights

      at_first : (first : ℕ) → first < length nights → first + days ≤ length nights + length nights → OneMaintains t (nights ++ nights) days first
      at_first first low lt =
          let it = kept.each first low in
          record { after = it.after; within = it.within; maintained = ap (can_maintain t) (twice_at nights (first + it.after) (omega (arith, it.within))) ∙ it.maintained }

      one : (first : ℕ) → first + days ≤ length (nights ++ nights) → OneMaintains t (nights ++ nights) days first
      one first lt = elim (cases_lt first (length nights)) [
        | inl low ↦ at_first first low (omega (arith, long))
        | inr high ↦
            let it = kept.each (first - length nights) (omega (arith, long)) in
            record {
              after = it.after;
              within = it.within;
              maintained = ap (can_maintain t) (get_or-append_right nights nights (length nights) (first + it.after) night.Aloft refl (omega arith) ∙ shifted first it.after (omega (arith, it.within, long)) high)
                  ∙ it.maintained;
            }
      ]
        where
          shifted : (first after : ℕ) → first + after < length nights + length nights → length nights ≤ first
              → at nights (first + after - length nights) ≡ night_round nights (first - length nights + after)
          shifted first after lt ge = ap (at nights) (moved first after (length nights) ge ∙ sym (mod-eq_of_lt (low first after (length nights) lt ge)))
            where
              moved : (first after n : ℕ) → n ≤ first → first + after - n ≡ first - n + after
              moved first after n ge = omega arith

              low : (first after n : ℕ) → first + after < n + n → n ≤ first → first - n + after < n
              low first after n lt ge = omega arith

  pub below_kept : list_any (can_maintain t) nights ≡ true → stays_below t days 0 (nights ++ nights) ≡ true → IsKeptFor t nights days
  below_kept some below = record { some = omega (arith, place.1); each = one }
    where
      place : (k : ℕ) × (k < length nights) × (can_maintain t (at nights k) ≡ true)
      place = some_place (can_maintain t) night.Aloft nights some

      often : MaintainedOften t (nights ++ nights) days
      often = below_often t days (nights ++ nights) some_days below

      long : length (nights ++ nights) ≡ length nights + length nights
      long = length-append nights nights

      one : (first : ℕ) → first < length nights → IsMaintainedFrom t nights days first
      one first low = elim (cases_lt (length nights + length nights) (first + days)) [
        | inl many ↦ kept_round t days nights first place.0 low place.1 (omega arith) place.2
        | inr fits ↦
            let it = often.each first (omega (arith, long)) in
            record { after = it.after; within = it.within; maintained = ap (can_maintain t) (sym (twice_at nights (first + it.after) (omega (arith, it.within)))) ∙ it.maintained }
      ]
