-- The chosen pairs, leg by leg.
use Rattle.std.proofs.Common.{◌≡◌, ℕ, ◌+◌, ◌<◌, ◌≤◌, Bool, true, false, if◌then◌else◌, List, [], ◌∷◌, ◌++◌, length, get_or, slice_index, sym, ◌∙◌, ap, subst}
use Rattle.std.proofs.Math.Numerals.{suc-eq-add-one}
use Rattle.std.proofs.lemmas.Bool.{le-ltb, lt-ltb}
use Rattle.std.proofs.lemmas.List.{append-nil, get_or_default}
use Rattle.plan_rotations.specs.best_matching.Worths.{worth_at}
use Rattle.fleet_model.specs.declared.parts.Connection.{Connection}
use Rattle.plan_rotations.specs.through_flights.Choice.{turns_below}
use Rattle.plan_rotations.specs.through_flights.Chosen.{is_chosen}
use Rattle.plan_rotations.specs.through_flights.Worths.{through_pair}
use Rattle.plan_rotations.specs.declared.through_flights.worths.TheConstants.{CLEAN_WORTH}

-- one turn more, and none more
turn_pushed : (passes : ℕ → Bool) (next : ℕ → ℕ) (l : ℕ) (old now : List Connection) → old ≡ turns_below passes next l → now ≡ old ++ through_pair l (next l) ∷ [] → passes l ≡ true → now ≡ turns_below passes next (l + 1)
turn_pushed passes next l old now is pushed on =
    pushed ∙ ap (λ turns. turns ++ through_pair l (next l) ∷ []) is ∙ ap (λ (b : Bool). turns_below passes next l ++ (if b then through_pair l (next l) ∷ [] else [])) (sym on) ∙ ap (turns_below passes next) (suc-eq-add-one l)

none_pushed : (passes : ℕ → Bool) (next : ℕ → ℕ) (l : ℕ) (old : List Connection) → old ≡ turns_below passes next l → passes l ≡ false → old ≡ turns_below passes next (l + 1)
none_pushed passes next l old is off =
    is ∙ sym (append-nil (turns_below passes next l)) ∙ ap (λ (b : Bool). turns_below passes next l ++ (if b then through_pair l (next l) ∷ [] else [])) (sym off) ∙ ap (turns_below passes next) (suc-eq-add-one l)

module _ (worths : List (List ℕ)) (columns : List ℕ) (l : ℕ) (within : l < length worths) (row slice read : List ℕ) (is_row : row ≡ get_or worths l row) (is_slice : slice ≡ row) (is_read : read ≡ columns) where
  worth : slice_index slice (slice_index read l) ≡ worth_at worths l (slice_index columns l)
  worth = ap (λ xs. slice_index slice (slice_index xs l)) is_read ∙ ap (λ xs. slice_index xs (slice_index columns l)) (is_slice ∙ is_row ∙ get_or_default worths l row [] within)

  module _ (old : List Connection) (is : old ≡ turns_below (is_chosen worths columns) (slice_index columns) l) where
    pub one_chosen : (now : List Connection) → now ≡ old ++ through_pair l (slice_index read l) ∷ [] → CLEAN_WORTH < slice_index slice (slice_index read l) → now ≡ turns_below (is_chosen worths columns) (slice_index columns) (l + 1)
    one_chosen now pushed above =
        turn_pushed (is_chosen worths columns) (slice_index columns) l old now is (pushed ∙ ap (λ xs. old ++ through_pair l (slice_index xs l) ∷ []) is_read) (lt-ltb _ _ (subst (λ n. CLEAN_WORTH < n) worth above))

    pub none_chosen : slice_index slice (slice_index read l) ≤ CLEAN_WORTH → old ≡ turns_below (is_chosen worths columns) (slice_index columns) (l + 1)
    none_chosen low = none_pushed (is_chosen worths columns) (slice_index columns) l old is (le-ltb _ _ (subst (λ n. n ≤ CLEAN_WORTH) worth low))
