-- Whether a departure is the one that follows a leg first in, first out.
use Rattle.std.proofs.Common.{◌≡◌, ℕ, ◌<◌, Bool, true, false, List, sym, ◌∙◌, ap, subst}
use mathlib.Core.Bool.{false≢true}
use Rattle.std.proofs.lemmas.Bool.{and_parts, eqb-true}
use Rattle.fleet_model.specs.declared.parts.Connection.{Connection}
use Rattle.fleet_model.specs.declared.tables.Tables.{Tables}
use Rattle.fleet_model.specs.Schedule.{leg_of, legs_in}
use Rattle.lines_of_flying.specs.ground_turns.FirstOut.{departure_place, is_free_departure}
use Rattle.lines_of_flying.specs.Following.{IsFirstOutNext, landing_at, next_place}

module _ (t : Tables) (a : List ℕ) (f : ℕ) (given : List Connection) (l q s : ℕ) (there : s ≡ landing_at t l) where
  leaves : is_free_departure t a f given (landing_at t l) q ≡ true → (leg_of t q).from ≡ landing_at t l
  leaves free = eqb-true _ _ (and_parts _ _ (and_parts _ _ free).0).1

  -- a free departure at the place
  pub is_next : (p place : ℕ) → q < legs_in t → is_free_departure t a f given s q ≡ true → p ≡ departure_place t a f given (leg_of t q).from q → place ≡ next_place t a f given l → p ≡ place → IsFirstOutNext t a f given l q
  is_next p place known free read asked same =
      let here : is_free_departure t a f given (landing_at t l) q ≡ true = subst (λ s. is_free_departure t a f given s q ≡ true) there free in
      record { known = known; free = here; place = ap (λ s. departure_place t a f given s q) (sym (leaves here)) ∙ sym read ∙ same ∙ asked }

  -- a departure at another place, and one that isn't free there
  pub elsewhere : (p place : ℕ) → p ≡ departure_place t a f given (leg_of t q).from q → place ≡ next_place t a f given l → (p ≡ place → ⊥) → IsFirstOutNext t a f given l q → ⊥
  elsewhere p place read asked differ next = differ (read ∙ ap (λ s. departure_place t a f given s q) (leaves next.free) ∙ next.place ∙ sym asked)

  pub not_free : (b : Bool) → b ≡ is_free_departure t a f given s q → b ≡ false → IsFirstOutNext t a f given l q → ⊥
  not_free b is fails next = false≢true (sym fails ∙ is ∙ subst (λ s. is_free_departure t a f given s q ≡ true) (sym there) next.free)
