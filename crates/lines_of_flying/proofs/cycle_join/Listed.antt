-- Numbers that are listed.
use Rattle.std.proofs.Common.{◌≡◌, ℕ, suc, ◌<◌, Bool, true, false, ◌==◌, ◌||◌, List, [], ◌∷◌, length, slice_index, refl, arith}
use mathlib.Core.Bool.{false≢true}
use Rattle.std.proofs.lemmas.Bool.{eq-eqb, eqb-true}
use Rattle.std.proofs.lemmas.List.Folds.{list_any_at}
use Rattle.lines_of_flying.specs.cycle_join.Joins.{is_listed}

pub listed_at : (legs : List ℕ) (k : ℕ) → k < length legs → is_listed legs (slice_index legs k) ≡ true
listed_at legs k lt = list_any_at (λ leg. leg == slice_index legs k) legs k 0 lt (eq-eqb _ _ refl)

pub where_listed : (legs : List ℕ) (l : ℕ) → is_listed legs l ≡ true → (k : ℕ) × (k < length legs) × (slice_index legs k ≡ l)
where_listed [] l e = absurd (false≢true e)
where_listed (x ∷ xs) l e = by_head (x == l) refl e (where_listed xs l)
  where
    by_head : (b : Bool) → (x == l) ≡ b → (b || is_listed xs l) ≡ true → (is_listed xs l ≡ true → (k : ℕ) × (k < length xs) × (slice_index xs k ≡ l))
        → (k : ℕ) × (k < length (x ∷ xs)) × (slice_index (x ∷ xs) k ≡ l)
    by_head true here e rest = (0, omega arith, eqb-true _ _ here)
    by_head false here e rest = let found = rest e in (suc found.0, omega (arith, found.1), found.2)
