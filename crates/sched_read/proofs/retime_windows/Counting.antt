-- One window more: what is counted of its leg, and of all.
use Rattle.std.proofs.Common.{◌≡◌, ◌==◌, ℕ, zero, suc, ◌+◌, ◌*◌, ◌<◌, ◌≤◌, Bool, true, false, if◌then◌else◌, List, [], ◌∷◌, ◌++◌, length, set, map, slice_index, length-set, get_or-set_same, get_or-set_other, ℤ, sym, ap, subst, ◌∙◌, inl, inr, arith}
use Rattle.std.proofs.lemmas.Bool.{cases_lt}
use Rattle.std.proofs.lemmas.Bool.Decides.{nat_tests}
use Rattle.std.proofs.lemmas.List.{map-append}
use Rattle.std.proofs.lemmas.List.Sums.{sum_by_push}
use Rattle.sums.specs.Below.{sum_below}
use Rattle.sums.proofs.Sums.{sum_below-add, sum_below-agree, sum_below-at}
use Rattle.sums.proofs.Tests.{by_test}
use Rattle.sched_read.specs.retime_windows.Counted.{AreWindowsCounted}
use Rattle.sched_read.specs.declared.retime_windows.window.Window.{Window}
use Rattle.sched_read.specs.retime_windows.Keys.{is_on, key_with, triples_by, triples_of, window_key, windows_on}

pub windows_more : (keys : List (List ℕ)) (leg : ℕ) (minutes : ℤ) (l : ℕ) → windows_on (keys ++ key_with leg minutes ∷ []) l ≡ windows_on keys l + (if leg == l then 1 else 0)
windows_more keys leg minutes l = sum_by_push (λ key. if is_on l key then 1 else 0) keys (key_with leg minutes)

one_more : (n w k : ℕ) (b : Bool) → w ≡ k + (if b then 1 else 0) → n * (1 + w) ≡ n * (1 + k) + (if b then n else 0)
one_more n w k true is = ap (λ v. n * (1 + v)) is ∙ omega arith
one_more n w k false is = ap (λ v. n * (1 + v)) is ∙ omega arith

pub triples_more : (fleets : List ℕ) (keys : List (List ℕ)) (leg : ℕ) (minutes : ℤ) → leg < length fleets
    → triples_by fleets (keys ++ key_with leg minutes ∷ []) ≡ triples_by fleets keys + slice_index fleets leg
unfolding triples_by
triples_more fleets keys leg minutes within =
    sum_below-agree (triples_of fleets (keys ++ key_with leg minutes ∷ [])) (λ l. triples_of fleets keys l + (if leg == l then slice_index fleets l else 0)) (length fleets)
    (record { each = λ l below. one_more (slice_index fleets l) (windows_on (keys ++ key_with leg minutes ∷ []) l) (windows_on keys l) (leg == l) (windows_more keys leg minutes l) })
    ∙ sum_below-add (triples_of fleets keys) (λ l. if leg == l then slice_index fleets l else 0) (length fleets)
    ∙ ap (λ n. sum_below (triples_of fleets keys) (length fleets) + n) (sum_below-at leg (length fleets) (λ l. slice_index fleets l) within)

pub counted_more : (keys : List (List ℕ)) (legs : ℕ) (counts : List ℕ) (leg : ℕ) (minutes : ℤ) (count : ℕ) → AreWindowsCounted keys legs counts → leg < legs → windows_on keys leg < 8
    → count ≡ slice_index counts leg → AreWindowsCounted (keys ++ key_with leg minutes ∷ []) legs (set counts leg (count + 1))
counted_more keys legs counts leg minutes count counted within room is = record {
  each_leg = length-set counts leg (count + 1) ∙ counted.each_leg;
  value = λ l below. by_test (leg == l) (λ same.
      let here : l ≡ leg = grind (arith, nat_tests) in
      subst (λ k. slice_index (set counts leg (count + 1)) k ≡ windows_on (keys ++ key_with leg minutes ∷ []) k) (sym here)
      (get_or-set_same counts leg (count + 1) 0 (omega (arith, counted.each_leg)) ∙ omega (arith, is, counted.value leg within, windows_more keys leg minutes leg, one leg))) (λ apart.
      let other : l ≡ leg → ⊥ = λ same. grind (arith, nat_tests) in
      get_or-set_other counts leg l (count + 1) 0 other ∙ counted.value l below ∙ sym (windows_more keys leg minutes l ∙ ap (λ b. windows_on keys l + (if b then 1 else 0)) apart ∙ omega arith));
  few = λ l below. by_test (leg == l) (λ same.
      let here : l ≡ leg = grind (arith, nat_tests) in
      subst (λ k. slice_index (set counts leg (count + 1)) k ≤ 8) (sym here)
      (subst (λ n. n ≤ 8) (sym (get_or-set_same counts leg (count + 1) 0 (omega (arith, counted.each_leg)))) (omega (arith, is, counted.value leg within, room)))) (λ apart.
      let other : l ≡ leg → ⊥ = λ same. grind (arith, nat_tests) in
      subst (λ n. n ≤ 8) (sym (get_or-set_other counts leg l (count + 1) 0 other)) (counted.few l below));
}
  where
    one : (n : ℕ) → ◌≡◌ {A = ℕ} (if n == n then 1 else 0) 1
    one n = grind (arith, nat_tests)

-- what is added up so far, and the next, is no more than all
pub below_all : (f : ℕ → ℕ) (k n : ℕ) → k < n → sum_below f k + f k ≤ sum_below f n
below_all f k zero below = absurd (omega arith)
below_all f k (suc n) below = elim (cases_lt k n) [
  | inl less ↦ omega (arith, below_all f k n less)
  | inr last ↦ let same : k ≡ n = omega arith in subst (λ m. sum_below f k + f k ≤ sum_below f m + f m) same (omega arith)
]

pub triples_below : (fleets : List ℕ) (k : ℕ) → k < length fleets → sum_below (triples_of fleets []) k + slice_index fleets k ≤ triples_by fleets []
unfolding triples_by
triples_below fleets k below = omega (arith, below_all (triples_of fleets []) k (length fleets) below)

-- the keys of windows, and of one more
pub keys_more : (windows now : List Window) (window : Window) → now ≡ windows ++ window ∷ [] → map window_key now ≡ map window_key windows ++ key_with window.leg window.minutes ∷ []
keys_more windows now window is = ap (map window_key) is ∙ map-append window_key windows (window ∷ [])
