use Rattle.std.proofs.Common.{◌≡◌, ◌+◌, ◌≤◌, Fits, ℕ, refl, sym, ◌∙◌, arith, w64}
use mathlib.Core.Bool.{false≢true}
use Rattle.plan_rotations.specs.declared.through_flights.worths.TheConstants.{MAX_VALUE}
use Rattle.plan_rotations.proofs.through_flights.TurnWorths.{clean_worth, listed_small, no_worth, through_worth}
use Rattle.plan_rotations.proofs.through_flights.worths.turn_worth.Goals as goal

fits : (value listed : ℕ) → value ≡ listed → listed ≤ MAX_VALUE → Fits w64 (1000000000000001 + value)
fits value listed e le = omega arith

pub overflow_add-result : goal.overflow_add-result
overflow_add-result c = fits _ _ c.requires.value (listed_small c.args.turns.now.tables.now c.args.pair)

pub returns-then-is_short : goal.returns-then-is_short
returns-then-is_short c = through_worth _ _ _ _ _ c.requires.value (c.if-not-is_clean_turn.ensures.0 refl) (c.if-is_short.ensures.0 refl)

pub returns-then-not-is_clean_turn : goal.returns-then-not-is_clean_turn
returns-then-not-is_clean_turn c = no_worth _ _ _ _ (sym c.choice.ensures ∙ c.if-choice-turns.false) (λ is. false≢true (c.if-not-is_clean_turn.ensures.1 is))

pub returns-else-is_short : goal.returns-else-is_short
returns-else-is_short c = clean_worth _ _ _ _ (c.if-not-is_clean_turn.ensures.0 refl) (λ short. false≢true (c.if-is_short.ensures.1 short))
