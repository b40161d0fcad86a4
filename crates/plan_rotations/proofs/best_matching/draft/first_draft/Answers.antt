use Rattle.plan_rotations.proofs.best_matching.FirstDrafts.{first_duals, first_matched, first_pairing}
use Rattle.plan_rotations.proofs.best_matching.draft.first_draft.Goals as goal

pub returns-clause-pairing : goal.returns-clause-pairing
returns-clause-pairing c = first_pairing _ _ c.in_ok-numbers.ensures c.in_ok-numbers-2.ensures c.in_ok-greatest_worths.ensures.size c.in_ok-zeros.ensures

pub returns-clause-matched : goal.returns-clause-matched
returns-clause-matched c = first_matched _ _ c.in_ok-numbers.ensures c.in_ok-zeros.ensures

pub returns-clause-duals : goal.returns-clause-duals
returns-clause-duals c = first_duals _ _ c.in_ok-zeros.ensures c.in_ok-greatest_worths.ensures.reach c.in_ok-greatest_worths.ensures.small
