-- The laws of dual numbers.
use Rattle.std.proofs.Common.{◌≡◌, ℕ, ◌+◌, ◌≤◌, length, sym, ◌∙◌, ap, subst}
use Rattle.sums.specs.Below.{sum_below}
use Rattle.sums.proofs.Sums.{sum_below-add, sum_below-agree, sum_below-le}
use Rattle.plan_rotations.specs.best_matching.Worths.{DualsBound, DualsSumToWorth, IsOneToOne, NoneIsWorthMore, map_worth, worth_at}
use Rattle.plan_rotations.proofs.best_matching.OneToOneMaps.{along}

-- the duals at the places of a one-to-one map sum to all duals
at_places : (rows columns map : ℕ → ℕ) (n : ℕ) → IsOneToOne map n → sum_below (λ row. rows row + columns (map row)) n ≡ sum_below rows n + sum_below columns n
at_places rows columns map n m = sum_below-add rows (λ row. columns (map row)) n ∙ ap (λ x. sum_below rows n + x) (along columns map n m)

pub duals_sum : DualsSumToWorth
duals_sum worths rows columns map m tight =
    sym (at_places rows columns map (length worths) m)
    ∙ sum_below-agree (λ row. rows row + columns (map row)) (λ row. worth_at worths row (map row)) (length worths) (record { each = λ row lt. tight.meet row lt })

pub duals_bound_worth : DualsBound
duals_bound_worth worths rows columns map m duals =
    subst (λ x. map_worth worths map ≤ x) (at_places rows columns map (length worths) m)
    (sum_below-le (λ row. worth_at worths row (map row)) (λ row. rows row + columns (map row)) (length worths) (record { each = λ row lt. duals.reach row (map row) lt (m.within row lt) }))

pub none_more : NoneIsWorthMore
none_more worths rows columns map other m o duals tight =
    subst (λ x. map_worth worths other ≤ x) (duals_sum worths rows columns map m tight) (duals_bound_worth worths rows columns other o duals)
