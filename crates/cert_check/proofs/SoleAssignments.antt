-- Where each leg keeps one pair, there is an assignment of kept pairs.
use Rattle.std.proofs.Common.{◌≡◌, ℕ, zero, suc, ◌<◌, Bool, true, if◌then◌else◌, List, [], ◌∷◌, ◌++◌, length, get_or, length-append, inl, inr, refl, ◌∙◌, ap, arith}
use Rattle.std.proofs.lemmas.Bool.{cases_Bool, cases_lt}
use Rattle.std.proofs.lemmas.List.{get_or_append_left, get_or_push}
use Rattle.sums.specs.Below.{count_below}
use Rattle.fleet_model.specs.Kept.{Domains, IsKeptAssignment, IsSole}
use Rattle.fleet_model.specs.Schedule.{choices_in, leg_on, legs_in}
use Rattle.fleet_model.specs.declared.tables.Tables.{Tables}

-- the last number below a bound that passes
chosen : (ℕ → Bool) → ℕ → ℕ
chosen p zero = 0
chosen p (suc n) = if p n then n else chosen p n

chosen_passes : (p : ℕ → Bool) (n : ℕ) → 0 < count_below p n → (chosen p n < n) × (p (chosen p n) ≡ true)
unfolding chosen
chosen_passes p zero some = absurd (omega arith)
chosen_passes p (suc n) some = elim (cases_Bool (p n)) [
  | inl passes ↦ rw passes (omega arith, passes)
  | inr fails ↦
      let counted = rw fails at some in
      let before = chosen_passes p n (omega (arith, counted)) in
      rw fails (omega arith, before.1)
]

-- the values of a function below a bound
values : (ℕ → ℕ) → ℕ → List ℕ
values f zero = []
values f (suc n) = values f n ++ f n ∷ []

values_length : (f : ℕ → ℕ) (n : ℕ) → length (values f n) ≡ n
unfolding values
values_length f zero = refl
values_length f (suc n) = omega (arith, length-append (values f n) (f n ∷ []), values_length f n)

value_at : (f : ℕ → ℕ) (n k : ℕ) → k < n → get_or (values f n) k 0 ≡ f k
unfolding values
value_at f zero k below = absurd (omega arith)
value_at f (suc n) k below = elim (cases_lt k n) [
  | inl before ↦ get_or_append_left (values f n) (f n ∷ []) 0 k (omega (arith, values_length f n)) ∙ value_at f n k before
  | inr after ↦
      let last : n ≡ k = omega arith in
      get_or_push (values f n) (f n) 0 k (values_length f n ∙ last) ∙ ap f last
]

pub sole_has_one : (t : Tables) (keeps : Domains) → IsSole t keeps → (a : List ℕ) × IsKeptAssignment t keeps a
sole_has_one t keeps sole = (
  values choice (legs_in t),
  record {
    assignment = record {
      each_leg = values_length choice (legs_in t);
      known = λ l below. rw (value_at choice (legs_in t) l below) (passes l below).0;
    };
    kept = λ l below. rw (value_at choice (legs_in t) l below) (passes l below).1;
  },
)
  where
    choice : ℕ → ℕ
    choice l = chosen (λ c. keeps (leg_on l c)) (choices_in t l)

    passes : (l : ℕ) → l < legs_in t → (choice l < choices_in t l) × (keeps (leg_on l (choice l)) ≡ true)
    passes l below = chosen_passes (λ c. keeps (leg_on l c)) (choices_in t l) (omega (arith, sole.each l below))
