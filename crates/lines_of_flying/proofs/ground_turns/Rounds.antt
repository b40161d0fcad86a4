-- Minutes that go round: how many minutes after one another comes, in a period of w minutes.
use Rattle.std.proofs.Common.{◌≡◌, true, false, ◌&&◌, ◌⊎◌, ℕ, ◌+◌, ◌-◌, ◌*◌, ◌%◌, ◌<◌, ◌≤◌, Bool, if◌then◌else◌, nat_lt, nat_le, ◌∙◌, ap, inl, inr, arith}
use Rattle.std.proofs.Math.Nat.{mod-eq_of_lt}
use Rattle.std.proofs.lemmas.Nat.{mod-mul-add}
use Rattle.std.proofs.lemmas.Bool.{cases_lt}
use Rattle.std.proofs.lemmas.Bool.Decides.{nat_tests}

-- 1 where a test passes
abbrev pub bit : Bool → ℕ
bit b = if b then 1 else 0

-- a part of what passes
pub part_at_most : (b c : Bool) → bit (b && c) ≤ bit b
part_at_most b c = grind (arith, nat_tests)

pub bit_times_both : (a b c : Bool) → bit a * bit (b && c) ≡ bit ((a && b) && c)
bit_times_both true b c = omega arith
bit_times_both false b c = omega arith

pub times_bit : (n : ℕ) (b : Bool) → n * bit b ≡ (if b then n else 0)
times_bit n true = omega arith
times_bit n false = omega arith

-- one period more
mod-more : (x w : ℕ) → x < w → (x + w) % w ≡ x
mod-more x w h = ap (λ n. n % w) (turned x w) ∙ mod-mul-add 1 w x h
  where
    turned : (x w : ℕ) → x + w ≡ 1 * w + x
    turned x w = omega arith

-- the other minute comes later in the period
pub until_later : (w a b : ℕ) → a ≤ b → b < w → (b + w - a) % w ≡ b - a
until_later w a b order within = ap (λ n. n % w) (moved w a b order) ∙ mod-more (b - a) w (omega arith)
  where
    moved : (w a b : ℕ) → a ≤ b → b + w - a ≡ b - a + w
    moved w a b order = omega arith

-- it comes in the next period
pub until_next : (w a b : ℕ) → b < a → a < w → (b + w - a) % w ≡ b + w - a
until_next w a b order within = mod-eq_of_lt (omega arith)

-- a turn at a moment: it waits then, or has departed by then, as often as it was ready by then or crosses
pub moment_law : (w r d m : ℕ) → r < w → d < w → m < w
    → bit (nat_lt ((m + w - r) % w) ((d + w - r) % w)) + bit (nat_le d m) ≡ bit (nat_le r m) + bit (nat_lt d r)
moment_law w r d m ready departs moment = elim (cases_lt d r) [
  | inl next ↦ elim (cases_lt m r) [
    | inl before ↦ rw (until_next w r d next ready, until_next w r m before ready) (grind (arith, nat_tests))
    | inr after ↦ rw (until_next w r d next ready, until_later w r m after moment) (grind (arith, nat_tests))
  ]
  | inr later ↦ elim (cases_lt m r) [
    | inl before ↦ rw (until_later w r d later departs, until_next w r m before ready) (grind (arith, nat_tests))
    | inr after ↦ rw (until_later w r d later departs, until_later w r m after moment) (grind (arith, nat_tests))
  ]
]

-- a turn that touches a minute doesn't cross, and is ready by then and departs then or later; or it crosses, and is
-- ready by then or departs then or later
touch_cases : (w r d x : ℕ) → r < w → d < w → x < w → nat_le ((x + w - r) % w) ((d + w - r) % w) ≡ true
    → ((r ≤ x) × (x ≤ d)) ⊎ ((d < r) × ((r ≤ x) ⊎ (x ≤ d)))
touch_cases w r d x ready departs minute h = elim (cases_lt d r) [
  | inl next ↦ elim (cases_lt x r) [
    | inl before ↦ inr (next, inr (early w r d x before ready (at_next (until_next w r d next ready) (until_next w r x before ready) h)))
    | inr after ↦ inr (next, inl after)
  ]
  | inr later ↦ elim (cases_lt x r) [
    | inl before ↦ absurd (never w r d x later departs (at_next (until_later w r d later departs) (until_next w r x before ready) h))
    | inr after ↦ inl (after, late r d x later after (at_next (until_later w r d later departs) (until_later w r x after minute) h))
  ]
]
  where
    at_next : {p q m n : ℕ} → q ≡ n → p ≡ m → nat_le p q ≡ true → nat_le m n ≡ true
    at_next e f g = cc

    early : (w r d x : ℕ) → x < r → r < w → nat_le (x + w - r) (d + w - r) ≡ true → x ≤ d
    early w r d x before ready h = grind (arith, nat_tests)

    never : (w r d x : ℕ) → r ≤ d → d < w → nat_le (x + w - r) (d - r) ≡ true → ⊥
    never w r d x later departs h = grind (arith, nat_tests)

    late : (r d x : ℕ) → r ≤ d → r ≤ x → nat_le (x - r) (d - r) ≡ true → x ≤ d
    late r d x later after h = grind (arith, nat_tests)

-- two turns that touch one minute don't cross more often with their departures exchanged
pub exchange_law : (w r d r' d' x : ℕ) → r < w → d < w → r' < w → d' < w → x < w
    → nat_le ((x + w - r) % w) ((d + w - r) % w) ≡ true → nat_le ((x + w - r') % w) ((d' + w - r') % w) ≡ true
    → bit (nat_lt d' r) + bit (nat_lt d r') ≤ bit (nat_lt d r) + bit (nat_lt d' r')
exchange_law w r d r' d' x ready departs ready' departs' minute h h' =
    by_cases r d r' d' x (touch_cases w r d x ready departs minute h) (touch_cases w r' d' x ready' departs' minute h')
  where
    by_cases : (r d r' d' x : ℕ) → ((r ≤ x) × (x ≤ d)) ⊎ ((d < r) × ((r ≤ x) ⊎ (x ≤ d))) → ((r' ≤ x) × (x ≤ d')) ⊎ ((d' < r') × ((r' ≤ x) ⊎ (x ≤ d')))
        → bit (nat_lt d' r) + bit (nat_lt d r') ≤ bit (nat_lt d r) + bit (nat_lt d' r')
    by_cases r d r' d' x (inl p) (inl q) = let p0 = p.0 in let p1 = p.1 in let q0 = q.0 in let q1 = q.1 in grind (arith, nat_tests)
    by_cases r d r' d' x (inl p) (inr (next, inl q)) = let p0 = p.0 in let p1 = p.1 in grind (arith, nat_tests)
    by_cases r d r' d' x (inl p) (inr (next, inr q)) = let p0 = p.0 in let p1 = p.1 in grind (arith, nat_tests)
    by_cases r d r' d' x (inr (next, inl p)) (inl q) = let q0 = q.0 in let q1 = q.1 in grind (arith, nat_tests)
    by_cases r d r' d' x (inr (next, inr p)) (inl q) = let q0 = q.0 in let q1 = q.1 in grind (arith, nat_tests)
    by_cases r d r' d' x (inr p) (inr q) = let p0 = p.0 in let q0 = q.0 in grind (arith, nat_tests)
