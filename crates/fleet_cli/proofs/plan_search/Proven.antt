-- What is known of a solution, whichever way of searching is asked for.
use Rattle.std.proofs.Common.{ℕ, Option, inl, inr}
use Rattle.fleet_model.specs.Kept.{all_pairs}
use Rattle.fleet_model.specs.declared.tables.Tables.{Tables}
use Rattle.dual_bound.specs.OfTables.{IsOfTables}
use Rattle.dual_bound.specs.Solved.{plan_cost, tree_of}
use Rattle.dual_bound.specs.WrittenOrder.{InWrittenOrder, IsShallow}
use Rattle.dual_bound.specs.declared.solved.Solved.{Solved}
use Rattle.cert_check.specs.Verdicts.{AreSound}
use Rattle.branch_bound.specs.Solved.{IsRight, IsSolved}
use Rattle.command_words.specs.declared.command.SearchLimits.{SearchLimits}
use Rattle.command_words.specs.declared.command.SearchWay.{SearchWay}
use Rattle.command_words.specs.declared.command.SearchWay.TheVariants as way
use Rattle.fleet_cli.specs.plan_search.SolvedBy.{IsSolvedBy}

-- what it says is right, and its tree is one that is written, read again and holds
pub record IsProven (t : Tables) (s : Solved) : Type 0 where
  pub right : IsRight t s
  pub of_tables : IsOfTables t (tree_of s)
  pub in_order : InWrittenOrder t (tree_of s)
  pub shallow : IsShallow (tree_of s)
  pub sound : AreSound t (plan_cost s) (all_pairs t) (tree_of s)

by_rules : (t : Tables) (nodes : ℕ) (pivots : Option ℕ) (s : Solved) → IsSolved t nodes pivots s → IsProven t s
by_rules t nodes pivots s is = record {
  right = is.right;
  of_tables = is.proved.of_tables;
  in_order = is.proved.in_order;
  shallow = is.proved.shallow;
  sound = is.proved.sound;
}

pub is_proven : (t : Tables) (choices : SearchWay) (limits : SearchLimits) (s : Solved) → IsSolvedBy t choices limits s → IsProven t s
is_proven t way.Fixed limits s is = by_rules t limits.nodes limits.pivots s is
is_proven t way.Free limits s (inl is) = by_rules t limits.nodes limits.pivots s is
is_proven t way.Free limits s (inr is) = record {
  right = is.solves.right;
  of_tables = is.solves.proved.of_tables;
  in_order = is.solves.proved.in_order;
  shallow = is.solves.proved.shallow;
  sound = is.solves.proved.sound;
}
