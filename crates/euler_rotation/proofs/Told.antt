-- What tests tell.
use Rattle.std.proofs.Common.{◌≡◌, Bool, true, false, IsTrue, refl, sym, ◌∙◌}
use mathlib.Core.Bool.{false≢true}

-- a test that fails tells that it is not so
pub refuted : {P : Type 0} → (IsTrue false → P) × (P → IsTrue false) → P → ⊥
refuted told p = false≢true (told.1 p)

pub fails : {P : Type 0} → (P → ⊥) → (IsTrue false → P) × (P → IsTrue false)
fails not = ((λ e. absurd (false≢true e)), (λ p. absurd (not p)))

pub passes : {P : Type 0} → P → (IsTrue true → P) × (P → IsTrue true)
passes p = ((λ e. p), (λ q. refl))

-- a test that is as another tells the same
pub told_as : {P : Type 0} {b c : Bool} → b ≡ c → (c ≡ true → P) × (P → c ≡ true) → (IsTrue b → P) × (P → IsTrue b)
told_as e told = ((λ passed. told.0 (sym e ∙ passed)), (λ p. e ∙ told.1 p))
