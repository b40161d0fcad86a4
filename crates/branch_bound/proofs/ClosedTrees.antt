-- The tree of all pairs, with its open leaves closed, beside the one that it would be with none closed.
use Rattle.std.proofs.Common.{Box, Global, ◌≡◌, ℕ, true, false, List, [], ◌∷◌, length, Option, Some, None, ℤ, refl, sym, ◌∙◌, ap, subst}
use Rattle.fleet_model.specs.Kept.{Domains, all_pairs}
use Rattle.fleet_model.specs.declared.tables.Tables.{Tables}
use Rattle.dual_bound.specs.Bound.{part}
use Rattle.dual_bound.specs.declared.prices.Prices.{Prices}
use Rattle.dual_bound.specs.declared.trees.Tree.{Tree, Trim}
use Rattle.dual_bound.specs.declared.trees.Tree.TheVariants as tree
use Rattle.presolve.specs.Removals.{AreRefuted, AreRemovals, first_place, kept_after, without}
use Rattle.presolve.specs.declared.trims.Trim.{Trim as Removal}
use Rattle.node_bounding.specs.Closing.{closed, closed_by}
use Rattle.node_bounding.specs.Subproblems.{cost_of_plan}
use Rattle.node_bounding.specs.Trims.{AreBelow}
use Rattle.branch_bound.specs.Growing.{IsClosedTree, closed_in}
use Rattle.branch_bound.specs.History.{IsSearchDone, SearchComesTo}
use Rattle.branch_bound.specs.Settled.{IsAllClosed}
use Rattle.branch_bound.specs.declared.search.Search.{Search}
use Rattle.branch_bound.proofs.Closing.{holding}
use Rattle.branch_bound.proofs.Comes.{comes}

closed_by_in : (t : Tables) (cost : Option ℤ) (whole : Tree) → closed_in t cost (all_pairs t) whole ≡ closed_by t cost whole
closed_by_in t None whole = refl
closed_by_in t (Some c) whole = refl

-- a tree below a removal, where no leaf is closed
record IsUnclosed (t : Tables) (cost : Option ℤ) (keeps : Domains) (removals : List Removal) (left tree : Tree) : Type 0 where
  pub whole : Tree
  pub below : AreBelow removals left whole
  pub closed : tree ≡ closed_in t cost keeps whole

trim_closed : (t : Tables) (cost : Option ℤ) (keeps : Domains) (leg choice : ℕ) (one two : Box Tree Global) (reason : Prices) (x : Tree) → one.value ≡ tree.Refuted reason → two.value ≡ closed_in t cost (part keeps leg choice false) x
    → Trim leg choice one two ≡ closed_in t cost keeps (Trim leg choice one (holding two x))
trim_closed t None keeps leg choice one two reason x first second = ap (λ v. Trim leg choice one (holding two v)) second
trim_closed t (Some c) keeps leg choice one two reason x first second =
    ap (λ v. Trim leg choice one (holding two v)) second
    ∙ ap (λ v. Trim leg choice (holding one v) (holding two (closed t c (part keeps leg choice false) x))) (first ∙ sym (ap (closed t c (part keeps leg choice true)) first))

unclosed : (t : Tables) (cost : Option ℤ) (keeps : Domains) (removals : List Removal) (rest left tree : Tree) → AreBelow removals rest tree → rest ≡ closed_in t cost (kept_after keeps removals) left → IsUnclosed t cost keeps removals left tree
unclosed t cost keeps [] rest left whole same is = record { whole = left; below = refl; closed = same ∙ is }
unclosed t cost keeps (removal ∷ removals) rest left whole (inner, below, own) is =
    let deeper = unclosed t cost (without keeps removal) removals rest left inner below is in
    record {
      whole = Trim removal.leg removal.choice own.with_pair (holding own.without deeper.whole);
      below = (deeper.whole, deeper.below, record { with_pair = own.with_pair; without = holding own.without deeper.whole; is = refl; yes_is = own.yes_is; no_is = refl });
      closed = own.is ∙ trim_closed t cost keeps removal.leg removal.choice own.with_pair own.without removal.reason deeper.whole own.yes_is (own.no_is ∙ deeper.closed);
    }

-- what a search comes to below the removals
module _ (t : Tables) (nodes : ℕ) (pivots : Option ℕ) (root : Domains) (s : Search) (done : IsSearchDone t nodes pivots root s) (removals : List Removal) (given : AreRemovals t (all_pairs t) first_place removals)
    (refuted : AreRefuted t (all_pairs t) removals) (root_is : root ≡ kept_after (all_pairs t) removals) (rest : Tree) (grown : IsClosedTree t root pivots (cost_of_plan s.best) (length s.made.items) done.search.chronicle rest) where
  pub all_are_closed : (tree : Tree) → AreBelow removals rest tree → IsAllClosed t nodes pivots s.best tree
  all_are_closed tree below =
      let above = unclosed t (cost_of_plan s.best) (all_pairs t) removals rest grown.left tree below (grown.closed ∙ ap (λ d. closed_in t (cost_of_plan s.best) d grown.left) root_is) in
      record {
        left = above.whole;
        found = record {
          removals = removals;
          given = given;
          rest = grown.left;
          below = above.below;
          refuted = refuted;
          comes = subst (λ d. SearchComesTo t nodes pivots d s.best grown.left) root_is (comes t nodes pivots root s done s.best grown.left refl grown.grown);
        };
        closed = above.closed ∙ closed_by_in t (cost_of_plan s.best) above.whole;
      }
