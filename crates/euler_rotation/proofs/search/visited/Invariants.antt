use Rattle.euler_rotation.specs.Searches.{HasVisited}
use Rattle.euler_rotation.proofs.search.visited.Given as goal

abbrev pub invariant-loop-visited : goal.invariant-loop-visited
invariant-loop-visited l = HasVisited l.field l.visited l.walk
