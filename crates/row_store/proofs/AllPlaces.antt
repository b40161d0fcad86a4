-- What holds of the entries of a list, place by place.
use Rattle.std.proofs.Common.{ℕ, ◌+◌, ◌<◌, ◌≤◌, List, length, get_or, sym, subst, inl, inr, arith}
use Rattle.std.proofs.lemmas.Bool.{cases_lt}
use Rattle.std.proofs.lemmas.List.{get_or_default}
use Rattle.sums.proofs.Naturals.{last_below}

-- one place more
pub all_more : {X : Type 0} (P : X → Type 0) (xs : List X) (e : X) (n k : ℕ) → ((i : ℕ) → i < n → P (get_or xs i e)) → P (get_or xs n e) → k < n + 1 → P (get_or xs k e)
all_more P xs e n k before here lt =
    elim (cases_lt k n) [
      | inl less ↦ before k less
      | inr ge ↦ subst (λ i. P (get_or xs i e)) (sym (last_below k n lt ge)) here
    ]

-- all places of the list
pub all_places : {X : Type 0} (P : X → Type 0) (xs : List X) (e : X) (n : ℕ) → ((i : ℕ) → i < n → P (get_or xs i e)) → length xs ≤ n → (k : ℕ) (d : X) → k < length xs → P (get_or xs k d)
all_places P xs e n before le k d lt = subst P (get_or_default xs k e d lt) (before k (omega arith))
