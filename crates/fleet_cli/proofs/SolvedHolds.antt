-- The proof of a solution, written and read again, holds.
use Rattle.std.proofs.Common.{refl}
use Rattle.fleet_model.specs.declared.tables.Tables.{Tables}
use Rattle.bound_cert.proofs.WrittenTrees.{reads_what_was_written}
use Rattle.dual_bound.specs.Bound.{IsBound}
use Rattle.branch_bound.specs.Solved.{IsRight}
use Rattle.dual_bound.specs.Solved.{tree_of}
use Rattle.dual_bound.specs.declared.solved.Solved.{Solved}
use Rattle.dual_bound.specs.declared.solved.Solved.TheVariants as solved
use Rattle.plan_report.specs.Summary.{printed_bound}
use Rattle.fleet_cli.specs.Headline.{is_planned}
use Rattle.fleet_cli.specs.SolvedChecked.{ReadsAndHolds}
use Rattle.fleet_cli.proofs.plan_search.Proven.{IsProven}

-- the bound that is printed is the tree's
bound_of : (t : Tables) (s : Solved) → IsRight t s → IsBound t (tree_of s) (printed_bound s)
bound_of t (solved.Planned plan cost bound whole) right = right.of_tree
bound_of t (solved.Infeasible whole) right = right.no_bound
bound_of t (solved.Unsettled bound whole) right = right.of_tree

pub solved_holds : (t : Tables) (s : Solved) → IsProven t s → ReadsAndHolds t s
solved_holds t s is = record {
  proof = record { planned = is_planned s; tree = tree_of s };
  reads = reads_what_was_written t (is_planned s) (tree_of s) is.in_order is.shallow;
  says = refl;
  holds = record { sound = is.sound; bounded = bound_of t s is.right };
}
