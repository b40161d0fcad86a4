use Rattle.std.proofs.Common.{◌≡◌, [], ◌∷◌, ◌++◌, length}
use Rattle.lines_of_flying.specs.cycle_join.Rounds.{IsPath}
use Rattle.lines_of_flying.proofs.cycle_join.rounds.round.Given as goal

abbrev pub invariant-loop : goal.invariant-loop
invariant-loop l = record {
  path : IsPath l.cycles.turns.items l.first (l.legs.items ++ l.leg ∷ []);
  long : length l.legs.items ≡ l.counter;
}
