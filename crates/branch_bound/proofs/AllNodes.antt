-- What holds of the subproblems of a search holds of the nodes of its tree, whether it is closed or not.
use Rattle.std.proofs.Common.{Box, Global, ◌≡◌, ℕ, suc, ◌+◌, ◌<◌, true, false, List, [], ◌∷◌, ◌++◌, All, length, map, Option, Some, None, IfSome, IsSomeAnd, ℤ, pos, ◌≤ℤ◌, get_or, length-append, refl, sym, ◌∙◌, ap, subst, arith}
use Rattle.std.specs.List.{Any, Contains}
use Rattle.std.specs.List.Sorted.{IsPermutation}
use Rattle.std.proofs.lemmas.Int.{ints}
use Rattle.std.proofs.lemmas.List.{get_or-map, get_or_default, length-map}
use Rattle.std.proofs.lemmas.List.Elements.{All-head}
use Rattle.std.proofs.lemmas.List.Sorted.{All-permutation, Contains-permutation, length_permutation}
use Rattle.sums.specs.Places.{list_below}
use Rattle.sums.proofs.Places.{get_or-list_below, length-list_below}
use Rattle.fleet_model.specs.Kept.{Domains}
use Rattle.fleet_model.specs.declared.tables.Tables.{Tables}
use Rattle.dual_bound.specs.Bound.{part}
use Rattle.dual_bound.specs.Leaves.{by_nodes, open_nodes, splits_in}
use Rattle.dual_bound.specs.Worth.{worth_of}
use Rattle.dual_bound.specs.declared.nodes.Node.{Node}
use Rattle.dual_bound.specs.declared.prices.Prices.{Prices}
use Rattle.dual_bound.specs.declared.trees.Cause.{Cause}
use Rattle.dual_bound.specs.declared.trees.Cause.TheVariants as cause
use Rattle.dual_bound.specs.declared.trees.Tree.{Tree, Trim}
use Rattle.dual_bound.specs.declared.trees.Tree.TheVariants as tree
use Rattle.cert_check.specs.Nodes.{Node as TreeNode, nodes_in}
use Rattle.cert_check.specs.Rules.{IsSound}
use Rattle.cert_check.specs.Splits.{IsSplitWorth}
use Rattle.cert_check.specs.Verdicts.{AreSound}
use Rattle.cert_check.proofs.NodeRules.{prices_known}
use Rattle.presolve.specs.Removals.{kept_after, without}
use Rattle.presolve.specs.declared.trims.Trim.{Trim as Removal}
use Rattle.node_bounding.specs.Closing.{closed}
use Rattle.node_bounding.specs.Found.{FallsShort, LeavesGap}
use Rattle.branch_bound.specs.History.{IsAtLevel, IsReachedNode}
use Rattle.node_bounding.specs.Trims.{AreBelow, AreSearched}
use Rattle.node_bounding.specs.Worked.{IsWaitingWorth, Worked, own_node, searched_in, worked_at, worked_in}
use Rattle.node_bounding.proofs.Closings.{by_reach}
use Rattle.node_bounding.proofs.Nodes.{all_more, all_one, all_turned, any_after, any_second, both_all, node}
use Rattle.node_bounding.proofs.Orders.{ceiling_of}

-- where nothing is removed, each split adds two nodes
two_each : (t : Tables) (keeps : Domains) (rest : Tree) → AreSearched t keeps rest → length (nodes_in keeps rest) ≡ suc (splits_in rest + splits_in rest)
two_each t keeps (tree.Trim' leg choice p with_pair q without) searched = absurd searched
two_each t keeps (tree.Split' leg choice prices mixed p with_pair q without) searched =
    omega (arith, two_each t (part keeps leg choice true) with_pair searched.1, two_each t (part keeps leg choice false) without searched.2, length-append (nodes_in (part keeps leg choice true) with_pair) (nodes_in (part keeps leg choice false) without))
two_each t keeps other searched = refl

-- ---- of a list by number, in another order
module _ (made : ℕ → Worked) (count : ℕ) (keeps : Domains) (rest : Tree) (same : IsPermutation (list_below made count) (worked_in keeps rest)) where
  -- what holds of each holds of each node
  pub at_nodes : (P : Worked → Type 0) → ((k : ℕ) → k < count → P (made k)) → All (λ x. P (worked_at x)) (nodes_in keeps rest)
  at_nodes P each = unmapped (nodes_in keeps rest) (All-permutation P (list_below made count) (worked_in keeps rest) same listed)
    where
      listed : All P (list_below made count)
      listed k d below =
          let less : k < count = omega (arith, below, length-list_below made count) in
          subst P (sym (get_or-list_below made count k d less)) (each k less)

      unmapped : (xs : List TreeNode) → All P (map worked_at xs) → All (λ x. P (worked_at x)) xs
      unmapped xs all k d below = subst P (get_or-map worked_at xs k d (worked_at d) below) (all k (worked_at d) (omega (arith, below, length-map xs worked_at)))

  -- what holds of one holds of a node
  pub at_node : (P : Worked → Type 0) (k : ℕ) → k < count → P (made k) → Any (λ x. P (worked_at x)) (nodes_in keeps rest)
  at_node P k less holds = found (nodes_in keeps rest) (Contains-permutation (list_below made count) (worked_in keeps rest) (made k) same listed)
    where
      listed : Contains (list_below made count) (made k)
      listed = (k, omega (arith, less, length-list_below made count), get_or-list_below made count k (made k) less)

      found : (xs : List TreeNode) → Contains (map worked_at xs) (made k) → Any (λ x. P (worked_at x)) xs
      found xs (i, below, is) =
          let less : i < length xs = omega (arith, below, length-map xs worked_at) in
          let d : TreeNode = record { keeps = keeps; tree = rest } in
          let here : worked_at (get_or xs i d) ≡ made k = sym (get_or-map worked_at xs i d (made k) less) ∙ is in
          (i, get_or xs i d, less, get_or_default xs i _ _ less, subst P (sym here) holds)

  -- a tree of so many splits has two nodes for each, and one more
  pub nodes_twice : (t : Tables) (splits : ℕ) → AreSearched t keeps rest → count ≡ suc (splits + splits) → splits_in rest ≡ splits
  nodes_twice t splits searched twice =
      let long : length (worked_in keeps rest) ≡ count = length_permutation (list_below made count) (worked_in keeps rest) same ∙ length-list_below made count in
      omega (arith, two_each t keeps rest searched, long, twice, length-map (nodes_in keeps rest) worked_at)

-- ---- of a tree below removals
-- the subproblems below the trims
pub searched_itself : (t : Tables) (keeps : Domains) (rest : Tree) → AreSearched t keeps rest → searched_in keeps rest ≡ worked_in keeps rest
searched_itself t keeps (tree.Trim' leg choice p with_pair q without) searched = absurd searched
searched_itself t keeps other searched = refl

pub searched_below : (t : Tables) (keeps : Domains) (removals : List Removal) (rest whole : Tree) → AreBelow removals rest whole → AreSearched t (kept_after keeps removals) rest → searched_in keeps whole ≡ worked_in (kept_after keeps removals) rest
searched_below t keeps [] rest whole same searched = ap (searched_in keeps) same ∙ searched_itself t keeps rest searched
searched_below t keeps (removal ∷ removals) rest whole (inner, below, is) searched =
    ap (searched_in keeps) is.is ∙ ap (searched_in (without keeps removal)) is.no_is ∙ searched_below t (without keeps removal) removals rest inner below searched

pub splits_below : (removals : List Removal) (rest whole : Tree) → AreBelow removals rest whole → splits_in whole ≡ splits_in rest
splits_below [] rest whole same = ap splits_in same
splits_below (removal ∷ removals) rest whole (inner, below, is) = omega (arith, ap splits_in is.is, ap splits_in is.yes_is, ap splits_in is.no_is, splits_below removals rest inner below)

-- what holds of trims and of refuted leaves holds of all nodes once it does of those below
pub all_below : (P : TreeNode → Type 0) → ((d : Domains) (prices : Prices) → P (node d (tree.Refuted prices))) → ((d : Domains) (whole : Tree) (leg choice : ℕ) (first second : Box Tree Global) → whole ≡ Trim leg choice first second → P (node d whole))
    → (keeps : Domains) (removals : List Removal) (rest whole : Tree) → AreBelow removals rest whole → All P (nodes_in (kept_after keeps removals) rest) → All P (nodes_in keeps whole)
all_below P refuted trim keeps [] rest whole same all = subst (λ x. All P (nodes_in keeps x)) (sym same) all
all_below P refuted trim keeps (removal ∷ removals) rest whole (inner, below, is) all =
    subst (λ x. All P (nodes_in keeps x)) (sym is.is)
    (all_more P _ _ _ (trim keeps (Trim removal.leg removal.choice is.with_pair is.without) removal.leg removal.choice is.with_pair is.without refl)
    (subst (λ x. All P (nodes_in (part keeps removal.leg removal.choice true) x)) (sym is.yes_is) (all_one P (node (part keeps removal.leg removal.choice true) (tree.Refuted removal.reason)) (refuted _ removal.reason)))
    (subst (λ x. All P (nodes_in (without keeps removal) x)) (sym is.no_is) (all_below P refuted trim (without keeps removal) removals rest inner below all)))

pub any_below : (P : TreeNode → Type 0) (keeps : Domains) (removals : List Removal) (rest whole : Tree) → AreBelow removals rest whole → Any P (nodes_in (kept_after keeps removals) rest) → Any P (nodes_in keeps whole)
any_below P keeps [] rest whole same any = subst (λ x. Any P (nodes_in keeps x)) (sym same) any
any_below P keeps (removal ∷ removals) rest whole (inner, below, is) any =
    subst (λ x. Any P (nodes_in keeps x)) (sym is.is)
    (any_after P _ _ (any_second P (nodes_in (part keeps removal.leg removal.choice true) is.with_pair.value) _
    (subst (λ x. Any P (nodes_in (without keeps removal) x)) (sym is.no_is) (any_below P (without keeps removal) removals rest inner below any))))

-- ---- of a closed tree
-- what is said of nodes by themselves, and holds of an open leaf when it is closed
module _ (t : Tables) (cost : ℤ) (P : Domains → Node → Type 0) (shuts : (d : Domains) (prices : Prices) (why : Cause) → P d (own_node (tree.Open prices why)) → P d (own_node (tree.Priced prices))) where
  abbrev At : TreeNode → Type 0
  At x = P x.keeps (own_node x.tree)

  pub all_closed : (keeps : Domains) (whole : Tree) → All At (nodes_in keeps whole) → All At (nodes_in keeps (closed t cost keeps whole))
  all_closed keeps (tree.Open prices why) all =
      by_reach t cost (λ x. All At (nodes_in keeps x)) keeps prices why (λ e. all_one At (node keeps (tree.Priced prices)) (shuts keeps prices why (All-head At (node keeps (tree.Open prices why)) [] all))) (λ e. all)
  all_closed keeps (tree.Trim' leg choice p with_pair q without) all =
      all_turned At (node keeps (tree.Trim' leg choice p with_pair q without)) _ (nodes_in (part keeps leg choice true) with_pair) (nodes_in (part keeps leg choice false) without) _ _ (λ own. own)
      (all_closed (part keeps leg choice true) with_pair) (all_closed (part keeps leg choice false) without) all
  all_closed keeps (tree.Split' leg choice prices mixed p with_pair q without) all =
      all_turned At (node keeps (tree.Split' leg choice prices mixed p with_pair q without)) _ (nodes_in (part keeps leg choice true) with_pair) (nodes_in (part keeps leg choice false) without) _ _ (λ own. own)
      (all_closed (part keeps leg choice true) with_pair) (all_closed (part keeps leg choice false) without) all
  all_closed keeps other all = all

-- ---- levels
pub split_level : (t : Tables) (level : Option ℤ) (keeps : Domains) (whole : Tree) (worth : ℤ) → IsAtLevel t level keeps (own_node whole) → IsSplitWorth t keeps whole worth → IsSomeAnd level (λ l. worth ≤ℤ l)
split_level t level keeps (tree.Split' leg choice prices mixed p with_pair q without) worth at_level rounded = at_level worth rounded
split_level t level keeps other worth at_level rounded = absurd rounded

pub waiting_level : (t : Tables) (level : Option ℤ) (keeps : Domains) (whole : Tree) (worth : ℤ) → IsAtLevel t level keeps (own_node whole) → IsWaitingWorth t keeps whole worth → IfSome level (λ l. l ≤ℤ worth)
waiting_level t level keeps (tree.Open prices why) worth at_level rounded = at_level worth rounded
waiting_level t level keeps other worth at_level rounded = absurd rounded

-- ---- where each that waits is reached, none stays open for splits
module _ (t : Tables) (cost : Option ℤ) where
  abbrev Reached : TreeNode → Type 0
  Reached x = IsReachedNode t cost x.keeps (own_node x.tree)

  shut : (keeps : Domains) (prices : Prices) (why : Cause) → pos 1 ≤ℤ prices.scale → Reached (node keeps (tree.Open prices why)) → IfSome cost (FallsShort t keeps prices) → by_nodes why ≡ 0
  shut keeps prices (cause.Nodes mixed) some reached short = absurd (by_cost cost reached short)
    where
      by_cost : (c : Option ℤ) → IsReachedNode t c keeps (own_node (tree.Open prices (cause.Nodes mixed))) → IfSome c (FallsShort t keeps prices) → ⊥
      by_cost None is less = let rounded = ceiling_of (worth_of t keeps prices 1) prices.scale some in is rounded.0 rounded.1
      by_cost (Some c) is less = absurd (omega (arith, ints, is less.least less.rounded, less.short))
  shut keeps prices other some reached short = refl

  none_both : (one : TreeNode) (firsts seconds : List TreeNode) (m n : ℕ) → All (IsSound t cost) (one ∷ (firsts ++ seconds)) → All (LeavesGap t cost) (one ∷ (firsts ++ seconds)) → All Reached (one ∷ (firsts ++ seconds))
      → (All (IsSound t cost) firsts → All (LeavesGap t cost) firsts → All Reached firsts → m ≡ 0) → (All (IsSound t cost) seconds → All (LeavesGap t cost) seconds → All Reached seconds → n ≡ 0) → m + n ≡ 0
  none_both one firsts seconds m n sound gaps reached first second =
      let fine = both_all (IsSound t cost) one firsts seconds sound in
      let short = both_all (LeavesGap t cost) one firsts seconds gaps in
      let below = both_all Reached one firsts seconds reached in
      omega (arith, first fine.0 short.0 below.0, second fine.1 short.1 below.1)

  pub none_open : (keeps : Domains) (whole : Tree) → AreSound t cost keeps whole → All (LeavesGap t cost) (nodes_in keeps whole) → All Reached (nodes_in keeps whole) → open_nodes whole ≡ 0
  none_open keeps (tree.Open prices why) sound gaps reached =
      shut keeps prices why (prices_known t cost (node keeps (tree.Open prices why)) prices (All-head (IsSound t cost) (node keeps (tree.Open prices why)) [] sound) refl).scale.some
      (All-head Reached (node keeps (tree.Open prices why)) [] reached) ((All-head (LeavesGap t cost) (node keeps (tree.Open prices why)) [] gaps).gap prices why refl)
  none_open keeps (tree.Trim' leg choice p with_pair q without) sound gaps reached =
      none_both _ (nodes_in (part keeps leg choice true) with_pair) (nodes_in (part keeps leg choice false) without) _ _ sound gaps reached
      (none_open (part keeps leg choice true) with_pair) (none_open (part keeps leg choice false) without)
  none_open keeps (tree.Split' leg choice prices mixed p with_pair q without) sound gaps reached =
      none_both _ (nodes_in (part keeps leg choice true) with_pair) (nodes_in (part keeps leg choice false) without) _ _ sound gaps reached
      (none_open (part keeps leg choice true) with_pair) (none_open (part keeps leg choice false) without)
  none_open keeps other sound gaps reached = refl
