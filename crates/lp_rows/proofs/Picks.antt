-- Sums in which tests leave one term of many.
use Rattle.std.proofs.Common.{◌≡◌, ℕ, ◌+◌, ◌-◌, ◌<◌, Bool, true, false, if◌then◌else◌, ◌==◌, ◌&&◌, ℤ, pos, ◌-ℤ◌, ◌*ℤ◌, refl, ◌∙◌, ap, arith}
use Rattle.std.proofs.lemmas.Bool.Decides.{nat_tests}
use Rattle.std.proofs.lemmas.Int.{ints}
use lib.IntN.{zero-*ℤ}
use Rattle.sums.specs.Below.{sum_below, sum_below_ℤ}
use Rattle.sums.proofs.Integers.{one-*ℤ, -ℤ-*ℤ}
use Rattle.sums.proofs.Sums.{sum_below-agree, sum_below-at}
use Rattle.sums.proofs.WholeSums.{sum_below_ℤ-same}
use Rattle.sums.proofs.WholeSwaps.{sum_below_ℤ-one, where_true}
use Rattle.lp_rows.specs.Entries.{one_if, place_after}
use Rattle.lp_rows.proofs.ListSums.{test_out}

-- one of two numbers, twice, of which the second has a bound by the first
pub pick_choice : (m : ℕ) (n : ℕ → ℕ) (a b : ℕ) (v : ℕ → ℕ → ℤ) → a < m → b < n a → sum_below_ℤ (λ l. sum_below_ℤ (λ c. where_true (a == l) (where_true (b == c) (v l c))) (n l)) m ≡ v a b
pick_choice m n a b v here there =
    sum_below_ℤ-same (λ l. sum_below_ℤ (λ c. where_true (a == l) (where_true (b == c) (v l c))) (n l)) (λ l. where_true (a == l) (sum_below_ℤ (λ c. where_true (b == c) (v l c)) (n l))) m
    (λ l below. test_out (a == l) (λ c. where_true (b == c) (v l c)) (n l))
    ∙ sum_below_ℤ-one a (λ l. sum_below_ℤ (λ c. where_true (b == c) (v l c)) (n l)) m here
    ∙ sum_below_ℤ-one b (v a) (n a) there

-- of the nodes of all fleets at all stations, those of one fleet at one station
pub pick_nodes : (fleets stations a b : ℕ) (len : ℕ → ℕ → ℕ) (u : ℕ → ℕ → ℕ → ℤ) → a < fleets → b < stations
    → sum_below_ℤ (λ f. sum_below_ℤ (λ s. sum_below_ℤ (λ k. where_true (a == f) (where_true (b == s) (u f s k))) (len f s)) stations) fleets ≡ sum_below_ℤ (u a b) (len a b)
pick_nodes fleets stations a b len u here there =
    sum_below_ℤ-same (λ f. sum_below_ℤ (λ s. sum_below_ℤ (λ k. where_true (a == f) (where_true (b == s) (u f s k))) (len f s)) stations)
    (λ f. sum_below_ℤ (λ s. where_true (a == f) (where_true (b == s) (sum_below_ℤ (u f s) (len f s)))) stations) fleets
    (λ f below. sum_below_ℤ-same (λ s. sum_below_ℤ (λ k. where_true (a == f) (where_true (b == s) (u f s k))) (len f s)) (λ s. where_true (a == f) (where_true (b == s) (sum_below_ℤ (u f s) (len f s)))) stations
    (λ s lt. test_out (a == f) (λ k. where_true (b == s) (u f s k)) (len f s) ∙ ap (where_true (a == f)) (test_out (b == s) (u f s) (len f s))))
    ∙ pick_choice fleets (λ f. stations) a b (λ f s. sum_below_ℤ (u f s) (len f s)) here there

-- of the nodes of all fleets, those of one fleet
pub pick_fleet : (fleets stations a : ℕ) (len : ℕ → ℕ → ℕ) (u : ℕ → ℕ → ℕ → ℤ) → a < fleets
    → sum_below_ℤ (λ f. sum_below_ℤ (λ s. sum_below_ℤ (λ k. where_true (a == f) (u f s k)) (len f s)) stations) fleets ≡ sum_below_ℤ (λ s. sum_below_ℤ (u a s) (len a s)) stations
pick_fleet fleets stations a len u here =
    sum_below_ℤ-same (λ f. sum_below_ℤ (λ s. sum_below_ℤ (λ k. where_true (a == f) (u f s k)) (len f s)) stations) (λ f. where_true (a == f) (sum_below_ℤ (λ s. sum_below_ℤ (u f s) (len f s)) stations)) fleets
    (λ f below. sum_below_ℤ-same (λ s. sum_below_ℤ (λ k. where_true (a == f) (u f s k)) (len f s)) (λ s. where_true (a == f) (sum_below_ℤ (u f s) (len f s))) stations (λ s lt. test_out (a == f) (u f s) (len f s))
    ∙ test_out (a == f) (λ s. sum_below_ℤ (u f s) (len f s)) stations)
    ∙ sum_below_ℤ-one a (λ f. sum_below_ℤ (λ s. sum_below_ℤ (u f s) (len f s)) stations) fleets here

-- .. and those at one station
pub pick_station : (fleets stations b : ℕ) (len : ℕ → ℕ → ℕ) (u : ℕ → ℕ → ℕ → ℤ) → b < stations
    → sum_below_ℤ (λ f. sum_below_ℤ (λ s. sum_below_ℤ (λ k. where_true (b == s) (u f s k)) (len f s)) stations) fleets ≡ sum_below_ℤ (λ f. sum_below_ℤ (u f b) (len f b)) fleets
pick_station fleets stations b len u there =
    sum_below_ℤ-same (λ f. sum_below_ℤ (λ s. sum_below_ℤ (λ k. where_true (b == s) (u f s k)) (len f s)) stations) (λ f. sum_below_ℤ (u f b) (len f b)) fleets
    (λ f below. sum_below_ℤ-same (λ s. sum_below_ℤ (λ k. where_true (b == s) (u f s k)) (len f s)) (λ s. where_true (b == s) (sum_below_ℤ (u f s) (len f s))) stations (λ s lt. test_out (b == s) (u f s) (len f s))
    ∙ sum_below_ℤ-one b (λ s. sum_below_ℤ (u f s) (len f s)) stations there)

-- numbers from 1 and from 0
pub one_before : (n k : ℕ) → 0 < n → (n == k + 1) ≡ (n - 1 == k)
one_before n k some = grind (arith, nat_tests)

-- the place of the node before one
abbrev pub place_before : ℕ → ℕ → ℕ
place_before nodes place = if place == 0 then nodes - 1 else place - 1

before_or_after : (n a k : ℕ) → a < n → k < n → (a == place_after n k) ≡ (place_before n a == k)
before_or_after n a k here there = grind (arith, nat_tests)

pub count_before : (n a : ℕ) (v : ℕ → ℕ) → a < n → sum_below (λ k. if a == place_after n k then v k else 0) n ≡ v (place_before n a)
count_before n a v here =
    sum_below-agree (λ k. if a == place_after n k then v k else 0) (λ k. if place_before n a == k then v k else 0) n
    (record { each = λ k below. ap (λ b. if b then v k else 0) (before_or_after n a k here below) })
    ∙ sum_below-at (place_before n a) n v (grind (arith, nat_tests))

-- ---- products with tests
pub one_count : (b : Bool) (v : ℕ) → one_if b *ℤ pos v ≡ pos (if b then v else 0)
one_count true v = one-*ℤ (pos v)
one_count false v = zero-*ℤ (pos v)

pub two_tests : (e a b : Bool) (v : ℕ) → (one_if (e && a) -ℤ one_if (e && b)) *ℤ pos v ≡ where_true e (pos (if a then v else 0) -ℤ pos (if b then v else 0))
two_tests true a b v = omega (arith, ints, -ℤ-*ℤ (one_if a) (one_if b) (pos v), one_count a v, one_count b v)
two_tests false a b v = zero-*ℤ (pos v)

pub inner_tests : (e a b : Bool) (v : ℕ) → pos (if e && a then v else 0) -ℤ pos (if e && b then v else 0) ≡ where_true e (pos (if a then v else 0) -ℤ pos (if b then v else 0))
inner_tests true a b v = refl
inner_tests false a b v = refl

pub one_test : (e a : Bool) (v : ℕ) → one_if (e && a) *ℤ pos v ≡ where_true e (pos (if a then v else 0))
one_test true a v = one_count a v
one_test false a v = zero-*ℤ (pos v)

pub times_test : (e : Bool) (n v : ℕ) → (if e then pos n else pos 0) *ℤ pos v ≡ where_true e (pos n *ℤ pos v)
times_test true n v = refl
times_test false n v = zero-*ℤ (pos v)
