-- The tree of a part of a search, of the trees of its own parts.
use Rattle.std.proofs.Common.{Box, Global, ◌≡◌, ℕ, true, false, [], ◌∷◌, All, Option, ℤ, sym, ap, subst, arith}
use Rattle.fleet_model.specs.Kept.{Domains}
use Rattle.fleet_model.specs.LeftOut.{KeepLeftOut}
use Rattle.fleet_model.specs.declared.parts.Pair.{Pair}
use Rattle.fleet_model.specs.declared.tables.Tables.{Tables}
use Rattle.dual_bound.specs.Bound.{part}
use Rattle.dual_bound.specs.Leaves.{depth_of}
use Rattle.dual_bound.specs.OfTables.{IsOfTables}
use Rattle.dual_bound.specs.WrittenOrder.{InWrittenOrder, IsNodeInOrder}
use Rattle.dual_bound.specs.declared.nodes.Node.TheVariants as ordered
use Rattle.dual_bound.specs.declared.prices.Prices.{Prices}
use Rattle.dual_bound.specs.declared.trees.Tree.{Split, Tree, Trim}
use Rattle.dual_bound.specs.declared.trees.Tree.TheVariants as tree
use Rattle.cert_check.specs.Nodes.{Node, nodes_in}
use Rattle.cert_check.specs.Rules.{IsSound}
use Rattle.presolve.specs.Removals.{IsPairRefuted, removed_pair}
use Rattle.presolve.specs.declared.trims.Trim.{Trim as Trimmed}
use Rattle.presolve.proofs.StepsLeft.{one_step}
use Rattle.price_lift.specs.declared.best_point.BestPoint.{BestPoint}
use Rattle.node_bounding.specs.Causes.{AreCaused}
use Rattle.node_bounding.specs.Found.{AnswersSole}
use Rattle.node_bounding.specs.Subproblems.{IsPart}
use Rattle.node_bounding.specs.Splits.{IsSplit}
use Rattle.node_bounding.proofs.Leaves.{answers_none, refuted_sound, split_sound, trim_sound}
use Rattle.node_bounding.proofs.Nodes.{all_more, all_one, node}
use Rattle.node_bounding.proofs.StepsLeft.{fewer_with, fewer_without}

-- a leaf
pub leaf_part : (t : Tables) (pivots : Option ℕ) (final : Option ℤ) (keeps : Domains) (above : Prices) (leaf : Tree) → nodes_in keeps leaf ≡ node keeps leaf ∷ [] → depth_of leaf ≡ 0 → IsOfTables t leaf → InWrittenOrder t leaf
    → IsSound t final (node keeps leaf) → AnswersSole t final (node keeps leaf) → AreCaused t pivots keeps above leaf → IsPart t pivots final keeps above leaf
leaf_part t pivots final keeps above leaf one flat known in_order sound answers caused = record {
  of_tables = known;
  in_order = in_order;
  shallow = omega (arith, flat);
  sound = rw one (all_one (IsSound t final) (node keeps leaf) sound);
  soles = rw one (all_one (AnswersSole t final) (node keeps leaf) answers);
  caused = caused;
}

-- a split, of its two parts
pub split_part : (t : Tables) (pivots : Option ℕ) (final : Option ℤ) (keeps : Domains) (above : Prices) (p : Pair) (point : BestPoint) (first second : Box Tree Global) → IsSplit t keeps p point
    → IsPart t pivots final (part keeps p.leg p.choice true) point.prices first.value → IsPart t pivots final (part keeps p.leg p.choice false) point.prices second.value → IsPart t pivots final keeps above (Split p.leg p.choice point.prices point.mixed first second)
split_part t pivots final keeps above p point first second is with_pair without = record {
  of_tables = (is.pair, is.best.good.known, is.best.known, with_pair.of_tables, without.of_tables);
  in_order = all_more (IsNodeInOrder t) _ _ _ (is.pair, is.best.good.in_order, is.best.in_order) with_pair.in_order without.in_order;
  shallow = omega (arith, with_pair.shallow, without.shallow, fewer_with t keeps p.leg p.choice is.pair is.kept is.other, fewer_without t keeps p.leg p.choice is.pair is.kept is.other);
  sound = all_more (IsSound t final) _ _ _ (split_sound t final keeps p.leg p.choice first second point is) with_pair.sound without.sound;
  soles = all_more (AnswersSole t final) _ _ _ (answers_none t final keeps (Split p.leg p.choice point.prices point.mixed first second) (λ e. cc)) with_pair.soles without.soles;
  caused = (is.first, with_pair.caused, without.caused);
}

-- a trim whose part with the pair is refuted, of the other part
module _ (t : Tables) (pivots : Option ℕ) (final : Option ℤ) (keeps : Domains) (above : Prices) (trim : Trimmed) (first second : Box Tree Global)
    (out : KeepLeftOut t keeps) (refuted : IsPairRefuted t keeps trim) (is : first.value ≡ tree.Refuted trim.reason)
    (without : IsPart t pivots final (part keeps trim.leg trim.choice false) above second.value) where
  abbrev whole : Tree
  whole = Trim trim.leg trim.choice first second

  -- what holds at the refuted leaf and at the trim itself holds at all nodes
  at_all : (P : Node → Type 0) → P (node keeps whole) → P (node (part keeps trim.leg trim.choice true) (tree.Refuted trim.reason)) → All P (nodes_in (part keeps trim.leg trim.choice false) second.value)
      → All P (nodes_in keeps whole)
  at_all P here leaf others =
      all_more P (node keeps whole) _ _ here (subst (λ y. All P (nodes_in (part keeps trim.leg trim.choice true) y)) (sym is) (all_one P (node (part keeps trim.leg trim.choice true) (tree.Refuted trim.reason)) leaf)) others

  pub trim_part : IsPart t pivots final keeps above whole
  trim_part = record {
    of_tables = (refuted.pair, subst (IsOfTables t) (sym is) refuted.of_tables, without.of_tables);
    in_order = all_more (IsNodeInOrder t) _ _ _ refuted.pair (subst (InWrittenOrder t) (sym is) (all_one (IsNodeInOrder t) (ordered.Refuted trim.reason) refuted.in_order)) without.in_order;
    shallow = omega (arith, ap depth_of is, without.shallow, one_step t keeps (removed_pair trim) refuted.pair refuted.by refuted.kept out);
    sound = at_all (IsSound t final) (trim_sound t final keeps trim.leg trim.choice first second trim.reason is refuted.kept)
        (refuted_sound t final (part keeps trim.leg trim.choice true) trim.reason refuted.proper refuted.none_bare refuted.above) without.sound;
    soles = at_all (AnswersSole t final) (answers_none t final keeps whole (λ e. cc)) (answers_none t final _ (tree.Refuted trim.reason) (λ e. cc)) without.soles;
    caused = (subst (AreCaused t pivots (part keeps trim.leg trim.choice true) above) (sym is) tt, without.caused);
  }
