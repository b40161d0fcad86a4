use Rattle.std.proofs.Common.{length}
use Rattle.plan_rotations.specs.best_matching.Drafts.{HasDuals, IsMatched, IsPairing}
use Rattle.plan_rotations.proofs.best_matching.matching.best_matching.Given as goal

abbrev pub invariant-loop-row : goal.invariant-loop-row
invariant-loop-row l = record {
  pairing : IsPairing (length l.worths) l.draft;
  duals : HasDuals l.worths l.draft;
  matched : IsMatched l.worths l.draft l.row (length l.worths);
}
