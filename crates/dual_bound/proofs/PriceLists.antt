-- The price after the steps of two lists, for whoever makes prices of parts.
use Rattle.std.proofs.Common.{◌≡◌, ℕ, List, [], ◌∷◌, ◌++◌, ℤ, if◌then◌else◌, refl}
use Rattle.dual_bound.specs.Prices.{price_after, step_has_come}
use Rattle.dual_bound.specs.declared.prices.PriceStep.{PriceStep}

pub price_after-append : (v : ℤ) (xs ys : List PriceStep) (f s m : ℕ) → price_after v (xs ++ ys) f s m ≡ price_after (price_after v xs f s m) ys f s m
unfolding price_after
price_after-append v [] ys f s m = refl
price_after-append v (x ∷ xs) ys f s m = price_after-append (if step_has_come x f s m then x.value else v) xs ys f s m
