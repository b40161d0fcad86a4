use Rattle.std.proofs.Common.{List, ◌++◌}
use Rattle.fleet_model.specs.Kept.{all_pairs, kept_by, pairs_kept}
use Rattle.presolve.specs.Choices.{AreChoices}
use Rattle.presolve.specs.Removals.{AreRemovals, first_place}
use Rattle.presolve.specs.declared.trims.Trim.{Trim}
use Rattle.presolve.proofs.removals.trim.Given as goal

-- whatever is removed from here on stands behind what is removed so far
abbrev pub invariant-loop-found : goal.invariant-loop-found
invariant-loop-found l = record {
  choices_are : AreChoices l.tables l.choices;
  so_far : (rest : List Trim) → AreRemovals l.tables (kept_by l.choices.kept) l.place rest → AreRemovals l.tables (all_pairs l.tables) first_place (l.trims.items ++ rest);
}

abbrev pub decreases-loop-found : goal.decreases-loop-found
decreases-loop-found l = pairs_kept l.tables (kept_by l.choices.kept)
