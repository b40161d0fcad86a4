-- Tails are late within some nights of a byte, or never.
use Rattle.std.proofs.Common.{◌≡◌, ℕ, ◌<◌, ◌≤◌, inl, inr, nat_le, if◌then◌else◌, List, length, slice_index, ◌∙◌, ap, arith}
use Rattle.std.proofs.lemmas.Bool.{cases_lt, le-leb}
use Rattle.std.proofs.lemmas.Bool.Decides.{nat_tests}
use Rattle.sums.proofs.Sums.{count_below-le, sum_below-agree, sum_below-le, sum_below-ones}
use Rattle.tail_dates.specs.Late.{IsLateAt, IsNeverLate, at_most}

-- more nights allow more
pub at_most_rises : (numbers : List ℕ) (few many : ℕ) → few ≤ many → at_most numbers few ≤ at_most numbers many
at_most_rises numbers few many le =
    sum_below-le _ _ (length numbers) (record { each = λ k below. one (slice_index numbers k) few many le })
  where
    one : (n few many : ℕ) → few ≤ many → (if nat_le n few then 1 else 0) ≤ (if nat_le n many then 1 else 0)
    one n few many le = grind (arith, nat_tests)

all_at_most : (numbers : List ℕ) (most : ℕ) → ((k : ℕ) → k < length numbers → slice_index numbers k ≤ most) → at_most numbers most ≡ length numbers
all_at_most numbers most within =
    sum_below-agree _ (λ k. 1) (length numbers) (record { each = λ k below. ap (λ b. if b then 1 else 0) (le-leb _ _ (within k below)) })
    ∙ sum_below-ones (length numbers)

pub never_late : (lefts reaches : List ℕ) → ((k : ℕ) → k < length lefts → slice_index lefts k < 256)
    → ((nights : ℕ) → nights < 256 → ¬ (IsLateAt lefts reaches nights)) → IsNeverLate lefts reaches
never_late lefts reaches few none = record {
  each = λ nights late. elim (cases_lt nights 256) [
    | inl below ↦ none nights below late
    | inr above ↦
        let all = all_at_most lefts 255 (λ k below. omega (arith, few k below)) in
        let most = count_below-le (λ k. nat_le (slice_index lefts k) nights) (length lefts) in
        let rises = at_most_rises reaches 255 nights (omega (arith, above)) in
        none 255 (omega arith) (omega (arith, all, most, rises, late))
  ];
}
