-- The nights of a tour, leg by leg from a place on.
use Rattle.std.proofs.Common.{◌≡◌, ℕ, ◌+◌, ◌<◌, ◌≤◌, Bool, true, false, ◌&&◌, ◌||◌, Option, Some, None, List, [], ◌++◌, length, drop, is_some, refl, sym, ◌∙◌, ap, arith}
use Rattle.std.specs.List.{list_any}
use Rattle.std.proofs.lemmas.List.{drop_all, drop_more}
use Rattle.std.proofs.lemmas.List.Folds.{list_any-append}
use Rattle.sums.proofs.Tests.{both_true}
use Rattle.fleet_model.specs.declared.tables.Tables.{Tables}
use Rattle.lines_of_flying.specs.ground_turns.Maps.{no_turn, turn_after, turns_round}
use Rattle.lines_of_flying.specs.ground_turns.Nights.{IsKeptFor, can_maintain, nights_in_turn, nights_in_turns, nights_of_tour}
use Rattle.lines_of_flying.specs.declared.ground_turns.nights.Night.{Night}
use Rattle.euler_rotation.specs.Often.{GoesOn, StayBelow, nights_since, stays_below}
use Rattle.euler_rotation.proofs.Gaps.{below_kept, kept_below, kept_some}
use Rattle.euler_rotation.proofs.NightsSince.{below_append, since_append}
use Rattle.euler_rotation.proofs.TourTurns.{length_round, turn_round}

abbrev pub rest_of : Tables → ℕ → List ℕ → ℕ → List Night
rest_of t f legs k = nights_in_turns t f (drop k (turns_round legs))

pub rest_more : (t : Tables) (f : ℕ) (legs : List ℕ) (k : ℕ) → k < length legs → rest_of t f legs k ≡ nights_in_turn t f (turn_after legs k) ++ rest_of t f legs (k + 1)
rest_more t f legs k lt =
    ap (nights_in_turns t f) (drop_more (turns_round legs) k no_turn (omega (arith, length_round legs)))
    ∙ ap (λ turn. nights_in_turn t f turn ++ rest_of t f legs (k + 1)) (turn_round legs k lt)

pub rest_none : (t : Tables) (f : ℕ) (legs : List ℕ) (k : ℕ) → length legs ≤ k → rest_of t f legs k ≡ []
rest_none t f legs k le = ap (nights_in_turns t f) (drop_all k (turns_round legs) (omega (arith, length_round legs)))

-- the tour has been gone to a place with so many nights without maintenance, where so many came before
pub record GoneTo (t : Tables) (days before f : ℕ) (legs : List ℕ) (k since : ℕ) : Type 0 where
  pub below : stays_below t days before (nights_of_tour t f legs) ≡ stays_below t days since (rest_of t f legs k)
  pub since_is : nights_since t before (nights_of_tour t f legs) ≡ nights_since t since (rest_of t f legs k)
  pub few : since < days

module _ (t : Tables) (days before f : ℕ) (legs : List ℕ) (k since : ℕ) (gone : GoneTo t days before f legs k since) where
  pub gone_more : (more : ℕ) → k < length legs → StayBelow t days since (nights_in_turn t f (turn_after legs k)) more → GoneTo t days before f legs (k + 1) more
  gone_more more lt stays = record {
    below = gone.below ∙ ap (stays_below t days since) (rest_more t f legs k lt) ∙ below_append t days since (nights_in_turn t f (turn_after legs k)) (rest_of t f legs (k + 1))
        ∙ ap (λ b. b && stays_below t days (nights_since t since (nights_in_turn t f (turn_after legs k))) (rest_of t f legs (k + 1))) stays.below
        ∙ ap (λ n. stays_below t days n (rest_of t f legs (k + 1))) (sym stays.since_is);
    since_is = gone.since_is ∙ ap (nights_since t since) (rest_more t f legs k lt) ∙ since_append t since (nights_in_turn t f (turn_after legs k)) (rest_of t f legs (k + 1))
        ∙ ap (λ n. nights_since t n (rest_of t f legs (k + 1))) (sym stays.since_is);
    few = stays.few;
  }

  pub gone_too_far : k < length legs → stays_below t days since (nights_in_turn t f (turn_after legs k)) ≡ false → stays_below t days before (nights_of_tour t f legs) ≡ false
  gone_too_far lt over =
      gone.below ∙ ap (stays_below t days since) (rest_more t f legs k lt) ∙ below_append t days since (nights_in_turn t f (turn_after legs k)) (rest_of t f legs (k + 1))
      ∙ ap (λ b. b && stays_below t days (nights_since t since (nights_in_turn t f (turn_after legs k))) (rest_of t f legs (k + 1))) over

  pub gone_all : length legs ≤ k → StayBelow t days before (nights_of_tour t f legs) since
  gone_all le = record {
    below = gone.below ∙ ap (stays_below t days since) (rest_none t f legs k le);
    since_is = sym (gone.since_is ∙ ap (nights_since t since) (rest_none t f legs k le));
    few = gone.few;
  }

pub some_more : (t : Tables) (f : ℕ) (legs : List ℕ) (k : ℕ) (b : Bool) → k < length legs → list_any (can_maintain t) (nights_in_turn t f (turn_after legs k)) ≡ b
    → list_any (can_maintain t) (rest_of t f legs k) ≡ (b || list_any (can_maintain t) (rest_of t f legs (k + 1)))
some_more t f legs k b lt is =
    ap (list_any (can_maintain t)) (rest_more t f legs k lt) ∙ list_any-append (can_maintain t) (nights_in_turn t f (turn_after legs k)) (rest_of t f legs (k + 1))
    ∙ ap (λ c. c || list_any (can_maintain t) (rest_of t f legs (k + 1))) is

-- ---- gone round twice
module _ (t : Tables) (days : ℕ) (nights : List Night) (some_days : 0 < days) where
  contradict : {X : Type 0} → false ≡ true → X
  contradict e = cc

  pub none_kept : list_any (can_maintain t) nights ≡ false → IsKeptFor t nights days → ⊥
  none_kept none kept = contradict (sym none ∙ kept_some t days nights some_days kept)

  pub once_too_far : stays_below t days 0 nights ≡ false → IsKeptFor t nights days → ⊥
  once_too_far over kept =
      contradict (ap (λ b. b && stays_below t days (nights_since t 0 nights) nights) (sym over) ∙ sym (below_append t days 0 nights nights) ∙ kept_below t days nights some_days kept)

  pub twice_told : (since : ℕ) (second : Option ℕ) → list_any (can_maintain t) nights ≡ true → StayBelow t days 0 nights since → GoesOn t days since nights second
      → (is_some second ≡ true → IsKeptFor t nights days) × (IsKeptFor t nights days → is_some second ≡ true)
  twice_told since None some first over = (
    (λ e. contradict e),
    (λ kept. contradict (sym (ap (λ b. b && stays_below t days (nights_since t 0 nights) nights) first.below ∙ ap (λ n. stays_below t days n nights) (sym first.since_is) ∙ over)
        ∙ sym (below_append t days 0 nights nights) ∙ kept_below t days nights some_days kept)),
  )
  twice_told since (Some last) some first second = (
    (λ e. below_kept t days nights some_days some (below_append t days 0 nights nights
        ∙ both_true (stays_below t days 0 nights) (stays_below t days (nights_since t 0 nights) nights) first.below (ap (λ n. stays_below t days n nights) (sym first.since_is) ∙ second.below))),
    (λ kept. refl),
  )
