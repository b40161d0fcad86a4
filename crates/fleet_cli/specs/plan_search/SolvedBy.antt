-- Which solutions of tables are answered, by the way of searching.
use Rattle.std.specs.Prelude.{◌≢◌, ◌⊎◌, Some}
use Rattle.branch_bound.specs.Solved.{IsSolved}
use Rattle.command_words.specs.declared.command.SearchLimits.{SearchLimits}
use Rattle.command_words.specs.declared.command.SearchWay.{SearchWay}
use Rattle.command_words.specs.declared.command.SearchWay.TheVariants as way
use Rattle.dual_bound.specs.declared.solved.Solved.{Solved}
use Rattle.fleet_model.specs.declared.tables.Tables.{Tables}
use Rattle.branch_bound.specs.hinted_trees.FreeTrees.{IsFreelySolved}

-- a solution by a tree that was found in any way, which isn't tried where no pivots are allowed
pub record IsFoundFreely (t : Tables) (limits : SearchLimits) (s : Solved) : Type 0 where
  pub tried : limits.pivots ≢ Some 0
  pub solves : IsFreelySolved t limits.nodes s

-- A solution of tables within the limits of a search. Where each choice is fixed it is one of the search by these rules; where
-- none is, it is one of that search or one by a tree that was found in any way.
abbrev pub IsSolvedBy : Tables → SearchWay → SearchLimits → Solved → Type 0
IsSolvedBy t way.Fixed limits s = IsSolved t limits.nodes limits.pivots s
IsSolvedBy t way.Free limits s = IsSolved t limits.nodes limits.pivots s ⊎ IsFoundFreely t limits s
