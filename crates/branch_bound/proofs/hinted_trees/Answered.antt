-- Whether leaves are answered, by their bounds, and a tree, by its nodes.
use Rattle.std.proofs.Common.{◌≡◌, Bool, true, false, not, MatchBool, List, [], ◌∷◌, All, Option, Some, None, IfSome, IsSomeAnd, ℕ, ℤ, pos, ◌≤ℤ◌, ◌<ℤ◌, refl, sym, subst, inl, inr, arith}
use Rattle.std.proofs.lemmas.Int.{ints}
use Rattle.std.proofs.lemmas.List.Elements.{All-cons, All-head, All-nil, All-tail}
use Rattle.frac_row.proofs.Ceilings.{same_ceiling}
use Rattle.fleet_model.specs.Kept.{Domains, IsKeptAssignment, all_pairs}
use Rattle.fleet_model.specs.Legal.{IsLegal, total_cost}
use Rattle.fleet_model.specs.declared.tables.Tables.{Tables}
use Rattle.dual_bound.specs.Bound.{IsPriceBound, IsSoleBound}
use Rattle.dual_bound.specs.declared.prices.Prices.{Prices}
use Rattle.dual_bound.specs.declared.trees.Cause.{Cause}
use Rattle.dual_bound.specs.declared.trees.Tree.{Tree}
use Rattle.dual_bound.specs.declared.trees.Tree.TheVariants as tree
use Rattle.cert_check.specs.Nodes.{Node, nodes_in}
use Rattle.cert_check.specs.Walking.{AreWalked, IsOwnBound}
use Rattle.cert_check.specs.declared.reached.Reached.{Reached}
use Rattle.node_bounding.specs.Found.{FallsShort}
use Rattle.branch_bound.specs.hinted_trees.Parts.{AreAnswered, FallsBelow, IsCovered, IsNodeAnswered, IsToldAnswered}
use Rattle.node_bounding.proofs.Nodes.{node}

-- ---- a leaf, by the test of its bound
module _ (t : Tables) (cost : Option ℤ) (keeps : Domains) where
  covered_at : (bound : Option ℤ) (x : ℤ) → bound ≡ Some x → IsCovered cost bound → IsSomeAnd cost (λ c. c ≤ℤ x)
  covered_at bound x e is = rw e at is.covers

  -- where no legal assignment of the leaf is cheaper, its bound is covered
  never : (bound : Option ℤ) → IsSoleBound t keeps bound → ((a : List ℕ) → IsKeptAssignment t keeps a → IsLegal t a → IsSomeAnd cost (λ c. c ≤ℤ total_cost t a))
      → ¬ (IsCovered cost bound) → ⊥
  never None is answers other = other (record { covers = tt })
  never (Some b) is answers other =
      let at_least : (a : List ℕ) → IsKeptAssignment t keeps a → IsLegal t a → ⊥ =
      λ a kept legal. (let bound_is : Some b ≡ Some (total_cost t a) = is.legal a kept legal in
      let same : b ≡ total_cost t a = cc in other (record { covers = rw same (answers a kept legal) })) in
      let nothing : (a : List ℕ) → ¬ (IsKeptAssignment t keeps a) =
      λ a kept. (let gone : Some b ≡ None = is.illegal a kept (at_least a kept) in cc) in
      let gone : Some b ≡ None = is.none nothing in cc

  pub sole_test : (whole : Tree) (bound : Option ℤ) (b : Bool) → whole ≡ tree.Sole → IsOwnBound t keeps whole bound → MatchBool b (IsCovered cost bound) (¬ (IsCovered cost bound))
      → MatchBool b (IsNodeAnswered t cost (node keeps whole)) (¬ (IsNodeAnswered t cost (node keeps whole)))
  sole_test whole bound b e own test =
      subst (λ w. MatchBool b (IsNodeAnswered t cost (node keeps w)) (¬ (IsNodeAnswered t cost (node keeps w)))) (sym e) (by_test b test)
    where
      is : IsSoleBound t keeps bound
      is = subst (λ w. IsOwnBound t keeps w bound) e own

      by_test : (b : Bool) → MatchBool b (IsCovered cost bound) (¬ (IsCovered cost bound)) → MatchBool b (IsNodeAnswered t cost (node keeps tree.Sole)) (¬ (IsNodeAnswered t cost (node keeps tree.Sole)))
      by_test true covered = record {
        sole = record { answers = λ same a kept legal. covered_at bound (total_cost t a) (is.legal a kept legal) covered };
        gap = record { gap = λ prices why other. absurd (cc) };
      }
      by_test false other = λ answered. never bound is (answered.sole.answers refl) other

  short_of : (prices : Prices) (bound : Option ℤ) (final : Option ℤ) → IsPriceBound t keeps prices bound → IfSome final (λ c. IsSomeAnd bound (λ b. b <ℤ c)) → IfSome final (FallsShort t keeps prices)
  short_of prices bound None is falls = tt
  short_of prices bound (Some c) is falls = record { least = is.least; rounded = is.rounded; short = rw is.is at falls }

  below_of : (prices : Prices) (bound : Option ℤ) (final : Option ℤ) → pos 1 ≤ℤ prices.scale → IsPriceBound t keeps prices bound → IfSome final (FallsShort t keeps prices)
      → IfSome final (λ c. IsSomeAnd bound (λ b. b <ℤ c))
  below_of prices bound None some is short = tt
  below_of prices bound (Some c) some is short = rw is.is (omega (arith, ints, short.short, same_ceiling _ _ is.least short.least some is.rounded short.rounded))

  pub open_test : (whole : Tree) (prices : Prices) (why : Cause) (bound : Option ℤ) (b : Bool) → whole ≡ tree.Open prices why → pos 1 ≤ℤ prices.scale → IsOwnBound t keeps whole bound
      → MatchBool b (FallsBelow cost bound) (¬ (FallsBelow cost bound)) → MatchBool b (IsNodeAnswered t cost (node keeps whole)) (¬ (IsNodeAnswered t cost (node keeps whole)))
  open_test whole prices why bound b e some own test =
      subst (λ w. MatchBool b (IsNodeAnswered t cost (node keeps w)) (¬ (IsNodeAnswered t cost (node keeps w)))) (sym e) (by_test b test)
    where
      is : IsPriceBound t keeps prices bound
      is = subst (λ w. IsOwnBound t keeps w bound) e own

      gap_at : FallsBelow cost bound → (other : Prices) (cause : Cause) → tree.Open prices why ≡ tree.Open other cause → IfSome cost (FallsShort t keeps other)
      gap_at falls other cause same = let prices_are : prices ≡ other = cc in subst (λ p. IfSome cost (FallsShort t keeps p)) prices_are (short_of prices bound cost is falls.falls)

      by_test : (b : Bool) → MatchBool b (FallsBelow cost bound) (¬ (FallsBelow cost bound))
          → MatchBool b (IsNodeAnswered t cost (node keeps (tree.Open prices why))) (¬ (IsNodeAnswered t cost (node keeps (tree.Open prices why))))
      by_test true falls = record {
        sole = record { answers = λ same. absurd (cc) };
        gap = record { gap = gap_at falls };
      }
      by_test false other = λ answered. other (record { falls = below_of prices bound cost some is (answered.gap.gap prices why refl) })

-- ---- a tree
-- what a walk finds of its nodes, it finds of all
told : (t : Tables) (cost : Option ℤ) (nodes : List Node) (before after : Reached) (ended : Bool) → AreWalked (IsToldAnswered t cost) nodes before after ended
    → MatchBool ended (¬ (All (IsNodeAnswered t cost) nodes)) (All (IsNodeAnswered t cost) nodes)
told t cost [] before after true is = absurd (let e = is.0 in cc)
told t cost [] before after false is = All-nil (IsNodeAnswered t cost)
told t cost (one ∷ nodes) before after true (inl here) = λ all. here.found (All-head (IsNodeAnswered t cost) one nodes all)
told t cost (one ∷ nodes) before after true (inr on) = λ all. told t cost nodes on.between after true on.visited (All-tail (IsNodeAnswered t cost) one nodes all)
told t cost (one ∷ nodes) before after false (inl here) = absurd (let e = here.ends in cc)
told t cost (one ∷ nodes) before after false (inr on) = All-cons (IsNodeAnswered t cost) one nodes on.passed (told t cost nodes on.between after false on.visited)

pub tree_told : (t : Tables) (cost : Option ℤ) (keeps : Domains) (whole : Tree) (before after : Reached) (ended : Bool) → keeps ≡ all_pairs t → AreWalked (IsToldAnswered t cost) (nodes_in keeps whole) before after ended
    → MatchBool (not ended) (AreAnswered t cost (all_pairs t) whole) (¬ (AreAnswered t cost (all_pairs t) whole))
tree_told t cost keeps whole before after ended e visited = by_end ended (told t cost (nodes_in (all_pairs t) whole) before after ended (subst (λ k. AreWalked (IsToldAnswered t cost) (nodes_in k whole) before after ended) e visited))
  where
    by_end : (b : Bool) → MatchBool b (¬ (All (IsNodeAnswered t cost) (nodes_in (all_pairs t) whole))) (All (IsNodeAnswered t cost) (nodes_in (all_pairs t) whole))
        → MatchBool (not b) (AreAnswered t cost (all_pairs t) whole) (¬ (AreAnswered t cost (all_pairs t) whole))
    by_end true other = λ all. other all.each
    by_end false all = record { each = all }

-- what is found of a node by its own test
pub node_told : (t : Tables) (cost : Option ℤ) (one : Node) (before after : Reached) (b : Bool) → MatchBool b (IsNodeAnswered t cost one) (¬ (IsNodeAnswered t cost one)) → IsToldAnswered t cost one before after (not b)
node_told t cost one before after true is = is
node_told t cost one before after false is = is
