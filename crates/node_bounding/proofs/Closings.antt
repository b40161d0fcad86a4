-- A tree whose open leaves are closed by their prices where these reach the cost of the plan.
use Rattle.std.proofs.Common.{◌≡◌, ◌≢◌, ℕ, Bool, true, false, if◌then◌else◌, List, [], ◌∷◌, All, Some, IfSome, ℤ, inl, inr, refl, ap, subst, arith, Option}
use Rattle.std.specs.List.{Any}
use Rattle.std.proofs.lemmas.List.Elements.{All-head}
use Rattle.fleet_model.specs.Kept.{Domains, all_pairs}
use Rattle.fleet_model.specs.declared.tables.Tables.{Tables}
use Rattle.dual_bound.specs.Bound.{part}
use Rattle.dual_bound.specs.Leaves.{depth_of, splits_in}
use Rattle.dual_bound.specs.OfTables.{IsOfTables}
use Rattle.dual_bound.specs.Prices.{ArePrices}
use Rattle.dual_bound.specs.Nodes.{nodes_of as tree_nodes}
use Rattle.dual_bound.specs.WrittenOrder.{InWrittenOrder, IsNodeInOrder}
use Rattle.dual_bound.specs.declared.nodes.Node.TheVariants as ordered
use Rattle.dual_bound.specs.declared.mixed.Mixed.{Mixed}
use Rattle.dual_bound.specs.declared.prices.Prices.{Prices}
use Rattle.dual_bound.specs.declared.trees.Cause.{Cause}
use Rattle.dual_bound.specs.declared.trees.Tree.{Tree}
use Rattle.dual_bound.specs.declared.trees.Tree.TheVariants as tree
use Rattle.cert_check.specs.Nodes.{nodes_in}
use Rattle.cert_check.specs.Rules.{EndsAtOnce, IsSound, OneEnds}
use Rattle.cert_check.specs.Verdicts.{AreSound}
use Rattle.cert_check.specs.declared.rules.Rule.TheVariants as rule
use Rattle.cert_check.proofs.NodeRules.{prices_known}
use Rattle.node_bounding.specs.Causes.{AreCaused}
use Rattle.node_bounding.specs.Closing.{closed, does_reach}
use Rattle.node_bounding.specs.Found.{AnswersSole, FallsShort, IsFoundAt, LeavesGap}
use Rattle.node_bounding.specs.Trims.{AreOnTop, AreSearched, IsTrimmed}
use Rattle.presolve.specs.declared.trims.Trim.{Trim as Removal}
use Rattle.node_bounding.proofs.Leaves.{answers_none, priced_sound, rules_kept}
use Rattle.node_bounding.proofs.Nodes.{all_more, all_one, all_turned, any_turned, both_all, node, only}
use Rattle.node_bounding.proofs.Orders.{does_reach_is, falls_short_is}

module _ (t : Tables) (cost : ℤ) where
  -- what holds of an open leaf and of its prices alone holds of the leaf that it becomes
  pub by_reach : (P : Tree → Type 0) (keeps : Domains) (prices : Prices) (why : Cause) → (does_reach t keeps prices cost ≡ true → P (tree.Priced prices)) → (does_reach t keeps prices cost ≡ false → P (tree.Open prices why))
      → P (closed t cost keeps (tree.Open prices why))
  by_reach P keeps prices why shut stays = by_test (does_reach t keeps prices cost) shut stays
    where
      by_test : (b : Bool) → (b ≡ true → P (tree.Priced prices)) → (b ≡ false → P (tree.Open prices why)) → P (if b then tree.Priced prices else tree.Open prices why)
      by_test true p q = p refl
      by_test false p q = q refl

  pub closed_known : (keeps : Domains) (whole : Tree) → IsOfTables t whole → IsOfTables t (closed t cost keeps whole)
  closed_known keeps (tree.Open prices why) is = by_reach (IsOfTables t) keeps prices why (λ e. is.0) (λ e. is)
  closed_known keeps (tree.Trim' leg choice p with_pair q without) is = (is.0, closed_known (part keeps leg choice true) with_pair is.1, closed_known (part keeps leg choice false) without is.2)
  closed_known keeps (tree.Split' leg choice prices mixed p with_pair q without) is =
      (is.0, is.1, is.2, closed_known (part keeps leg choice true) with_pair is.3, closed_known (part keeps leg choice false) without is.4)
  closed_known keeps other is = is

  pub closed_order : (keeps : Domains) (whole : Tree) → InWrittenOrder t whole → InWrittenOrder t (closed t cost keeps whole)
  closed_order keeps (tree.Open prices why) is =
      by_reach (InWrittenOrder t) keeps prices why (λ e. all_one (IsNodeInOrder t) (ordered.Priced prices) (All-head (IsNodeInOrder t) (ordered.Open prices why) [] is).0) (λ e. is)
  closed_order keeps (tree.Trim' leg choice p with_pair q without) is =
      all_turned (IsNodeInOrder t) (ordered.Trim leg choice) _ (tree_nodes with_pair) (tree_nodes without) _ _ (λ own. own) (closed_order (part keeps leg choice true) with_pair) (closed_order (part keeps leg choice false) without) is
  closed_order keeps (tree.Split' leg choice prices mixed p with_pair q without) is =
      all_turned (IsNodeInOrder t) (ordered.Split leg choice prices mixed) _ (tree_nodes with_pair) (tree_nodes without) _ _ (λ own. own) (closed_order (part keeps leg choice true) with_pair) (closed_order (part keeps leg choice false) without) is
  closed_order keeps other is = is

  pub closed_depth : (keeps : Domains) (whole : Tree) → depth_of (closed t cost keeps whole) ≡ depth_of whole
  closed_depth keeps (tree.Open prices why) = by_reach (λ x. depth_of x ≡ 0) keeps prices why (λ e. refl) (λ e. refl)
  closed_depth keeps (tree.Trim' leg choice p with_pair q without) =
      omega (arith, closed_depth (part keeps leg choice true) with_pair, closed_depth (part keeps leg choice false) without)
  closed_depth keeps (tree.Split' leg choice prices mixed p with_pair q without) =
      omega (arith, closed_depth (part keeps leg choice true) with_pair, closed_depth (part keeps leg choice false) without)
  closed_depth keeps other = refl

  pub closed_splits : (keeps : Domains) (whole : Tree) → splits_in (closed t cost keeps whole) ≡ splits_in whole
  closed_splits keeps (tree.Open prices why) = by_reach (λ x. splits_in x ≡ 0) keeps prices why (λ e. refl) (λ e. refl)
  closed_splits keeps (tree.Trim' leg choice p with_pair q without) =
      omega (arith, closed_splits (part keeps leg choice true) with_pair, closed_splits (part keeps leg choice false) without)
  closed_splits keeps (tree.Split' leg choice prices mixed p with_pair q without) =
      omega (arith, closed_splits (part keeps leg choice true) with_pair, closed_splits (part keeps leg choice false) without)
  closed_splits keeps other = refl

  pub closed_searched : (keeps : Domains) (whole : Tree) → AreSearched t keeps whole → AreSearched t keeps (closed t cost keeps whole)
  closed_searched keeps (tree.Open prices why) is = by_reach (AreSearched t keeps) keeps prices why (λ e. is) (λ e. is)
  closed_searched keeps (tree.Trim' leg choice p with_pair q without) is = absurd is
  closed_searched keeps (tree.Split' leg choice prices mixed p with_pair q without) is =
      (is.0, closed_searched (part keeps leg choice true) with_pair is.1, closed_searched (part keeps leg choice false) without is.2)
  closed_searched keeps other is = is

  closed_top : (keeps : Domains) (removals : List Removal) (whole : Tree) → AreOnTop t keeps removals whole → AreOnTop t keeps removals (closed t cost keeps whole)
  closed_top keeps [] whole is = closed_searched keeps whole is
  closed_top keeps (removal ∷ removals) (tree.Trim' leg choice p with_pair q without) is =
      (is.0, is.1, ap (closed t cost (part keeps leg choice true)) is.2, closed_top (part keeps leg choice false) removals without is.3)
  closed_top keeps (removal ∷ removals) other is = absurd is

  pub closed_trimmed : (whole : Tree) → IsTrimmed t whole → IsTrimmed t (closed t cost (all_pairs t) whole)
  closed_trimmed whole is = record { removals = is.removals; given = is.given; on_top = closed_top (all_pairs t) is.removals whole is.on_top }

  pub closed_caused : (pivots : Option ℕ) (keeps : Domains) (above : Prices) (whole : Tree) → AreCaused t pivots keeps above whole → AreCaused t pivots keeps above (closed t cost keeps whole)
  closed_caused pivots keeps above (tree.Open prices why) is = by_reach (AreCaused t pivots keeps above) keeps prices why (λ e. tt) (λ e. is)
  closed_caused pivots keeps above (tree.Trim' leg choice p with_pair q without) is =
      (closed_caused pivots (part keeps leg choice true) above with_pair is.0, closed_caused pivots (part keeps leg choice false) above without is.1)
  closed_caused pivots keeps above (tree.Split' leg choice prices mixed p with_pair q without) is =
      (is.0, closed_caused pivots (part keeps leg choice true) prices with_pair is.1, closed_caused pivots (part keeps leg choice false) prices without is.2)
  closed_caused pivots keeps above other is = is

  -- a child of a trim that ends at once stays as it is
  ends_closed : (keeps : Domains) (whole : Tree) → EndsAtOnce t keeps whole → EndsAtOnce t keeps (closed t cost keeps whole)
  ends_closed keeps (tree.Open prices why) ends = absurd ends
  ends_closed keeps other ends = ends

  one_closed : (keeps : Domains) (leg choice : ℕ) (with_pair without : Tree) → OneEnds t keeps leg choice with_pair without
      → OneEnds t keeps leg choice (closed t cost (part keeps leg choice true) with_pair) (closed t cost (part keeps leg choice false) without)
  one_closed keeps leg choice with_pair without (inl ends) = inl (ends_closed (part keeps leg choice true) with_pair ends)
  one_closed keeps leg choice with_pair without (inr ends) = inr (ends_closed (part keeps leg choice false) without ends)

  -- ---- what holds at all nodes
  -- the rules at a trim and at a split, whose children are closed
  trim_sound : (keeps : Domains) (leg choice : ℕ) (with_pair without : Tree) (p q : _) → IsSound t (Some cost) (node keeps (tree.Trim' leg choice p with_pair q without))
      → IsSound t (Some cost) (node keeps (tree.Trim' leg choice p (closed t cost (part keeps leg choice true) with_pair) q (closed t cost (part keeps leg choice false) without)))
  trim_sound keeps leg choice with_pair without p q here =
      let parts = here.each rule.Parts in
      rules_kept t (Some cost) keeps _ tt tt tt tt (parts.0, one_closed keeps leg choice with_pair without parts.1) tt tt

  split_sound : (keeps : Domains) (leg choice : ℕ) (prices : Prices) (mixed : Mixed) (with_pair without : Tree) (p q : _) → IsSound t (Some cost) (node keeps (tree.Split' leg choice prices mixed p with_pair q without))
      → IsSound t (Some cost) (node keeps (tree.Split' leg choice prices mixed p (closed t cost (part keeps leg choice true) with_pair) q (closed t cost (part keeps leg choice false) without)))
  split_sound keeps leg choice prices mixed with_pair without p q here =
      rules_kept t (Some cost) keeps _ (prices_known t (Some cost) (node keeps (tree.Split' leg choice prices mixed p with_pair q without)) prices here refl)
      (here.each rule.Pairs) tt tt (here.each rule.Parts) (here.each rule.Mixed) (here.each rule.Fraction)

  pub closed_sound : (keeps : Domains) (whole : Tree) → AreSound t (Some cost) keeps whole → AreSound t (Some cost) keeps (closed t cost keeps whole)
  closed_sound keeps (tree.Open prices why) sound =
      let here = All-head (IsSound t (Some cost)) (node keeps (tree.Open prices why)) [] sound in
      let proper : ArePrices t prices = prices_known t (Some cost) (node keeps (tree.Open prices why)) prices here refl in
      by_reach (AreSound t (Some cost) keeps) keeps prices why
      (λ e. all_one (IsSound t (Some cost)) (node keeps (tree.Priced prices)) (priced_sound t (Some cost) keeps prices proper (here.each rule.Pairs) (does_reach_is t keeps prices cost proper.scale.some e)))
      (λ e. sound)
  closed_sound keeps (tree.Trim' leg choice p with_pair q without) sound =
      all_turned (IsSound t (Some cost)) _ _ (nodes_in (part keeps leg choice true) with_pair) (nodes_in (part keeps leg choice false) without) _ _ (trim_sound keeps leg choice with_pair without p q)
      (closed_sound (part keeps leg choice true) with_pair) (closed_sound (part keeps leg choice false) without) sound
  closed_sound keeps (tree.Split' leg choice prices mixed p with_pair q without) sound =
      all_turned (IsSound t (Some cost)) _ _ (nodes_in (part keeps leg choice true) with_pair) (nodes_in (part keeps leg choice false) without) _ _ (split_sound keeps leg choice prices mixed with_pair without p q)
      (closed_sound (part keeps leg choice true) with_pair) (closed_sound (part keeps leg choice false) without) sound
  closed_sound keeps other sound = sound

  pub closed_soles : (keeps : Domains) (whole : Tree) → All (AnswersSole t (Some cost)) (nodes_in keeps whole) → All (AnswersSole t (Some cost)) (nodes_in keeps (closed t cost keeps whole))
  closed_soles keeps (tree.Open prices why) soles =
      by_reach (λ x. All (AnswersSole t (Some cost)) (nodes_in keeps x)) keeps prices why
      (λ e. all_one (AnswersSole t (Some cost)) (node keeps (tree.Priced prices)) (answers_none t (Some cost) keeps (tree.Priced prices) (λ same. cc))) (λ e. soles)
  closed_soles keeps (tree.Trim' leg choice p with_pair q without) soles =
      all_turned (AnswersSole t (Some cost)) _ _ (nodes_in (part keeps leg choice true) with_pair) (nodes_in (part keeps leg choice false) without) _ _ (λ own. answers_none t (Some cost) keeps _ (λ same. cc)) (closed_soles (part keeps leg choice true) with_pair) (closed_soles (part keeps leg choice false) without) soles
  closed_soles keeps (tree.Split' leg choice prices mixed p with_pair q without) soles =
      all_turned (AnswersSole t (Some cost)) _ _ (nodes_in (part keeps leg choice true) with_pair) (nodes_in (part keeps leg choice false) without) _ _ (λ own. answers_none t (Some cost) keeps _ (λ same. cc)) (closed_soles (part keeps leg choice true) with_pair) (closed_soles (part keeps leg choice false) without) soles
  closed_soles keeps other soles = soles

  -- a node that is not open leaves no gap
  no_gap : (keeps : Domains) (whole : Tree) → ((prices : Prices) (why : Cause) → whole ≢ tree.Open prices why) → LeavesGap t (Some cost) (node keeps whole)
  no_gap keeps whole other = record { gap = λ prices why e. absurd (other prices why e) }

  open_gap : (keeps : Domains) (prices : Prices) (why : Cause) → ArePrices t prices → does_reach t keeps prices cost ≡ false → LeavesGap t (Some cost) (node keeps (tree.Open prices why))
  open_gap keeps prices why proper e = record {
    gap = λ own cause same.
        let is : prices ≡ own = cc in
        subst (λ x. IfSome (Some cost) (FallsShort t keeps x)) is (falls_short_is t keeps prices cost proper.scale.some e);
  }

  pub closed_gaps : (keeps : Domains) (whole : Tree) → AreSound t (Some cost) keeps whole → All (LeavesGap t (Some cost)) (nodes_in keeps (closed t cost keeps whole))
  closed_gaps keeps (tree.Bare leg) sound = all_one (LeavesGap t (Some cost)) _ (no_gap keeps (tree.Bare leg) (λ prices why e. cc))
  closed_gaps keeps tree.Sole sound = all_one (LeavesGap t (Some cost)) _ (no_gap keeps tree.Sole (λ prices why e. cc))
  closed_gaps keeps (tree.Refuted own) sound = all_one (LeavesGap t (Some cost)) _ (no_gap keeps (tree.Refuted own) (λ prices why e. cc))
  closed_gaps keeps (tree.Priced own) sound = all_one (LeavesGap t (Some cost)) _ (no_gap keeps (tree.Priced own) (λ prices why e. cc))
  closed_gaps keeps (tree.Open prices why) sound =
      let here = All-head (IsSound t (Some cost)) (node keeps (tree.Open prices why)) [] sound in
      let proper : ArePrices t prices = prices_known t (Some cost) (node keeps (tree.Open prices why)) prices here refl in
      by_reach (λ x. All (LeavesGap t (Some cost)) (nodes_in keeps x)) keeps prices why
      (λ e. all_one (LeavesGap t (Some cost)) (node keeps (tree.Priced prices)) (no_gap keeps (tree.Priced prices) (λ own cause same. cc)))
      (λ e. all_one (LeavesGap t (Some cost)) (node keeps (tree.Open prices why)) (open_gap keeps prices why proper e))
  closed_gaps keeps (tree.Trim' leg choice p with_pair q without) sound =
      let both = both_all (IsSound t (Some cost)) _ (nodes_in (part keeps leg choice true) with_pair) (nodes_in (part keeps leg choice false) without) sound in
      all_more (LeavesGap t (Some cost)) _ _ _ (no_gap keeps _ (λ prices why e. cc)) (closed_gaps (part keeps leg choice true) with_pair both.0) (closed_gaps (part keeps leg choice false) without both.1)
  closed_gaps keeps (tree.Split' leg choice own mixed p with_pair q without) sound =
      let both = both_all (IsSound t (Some cost)) _ (nodes_in (part keeps leg choice true) with_pair) (nodes_in (part keeps leg choice false) without) sound in
      all_more (LeavesGap t (Some cost)) _ _ _ (no_gap keeps _ (λ prices why e. cc)) (closed_gaps (part keeps leg choice true) with_pair both.0) (closed_gaps (part keeps leg choice false) without both.1)

  -- ---- the node at which a plan is found
  pub found_closed : (a : List ℕ) (c : ℤ) (keeps : Domains) (whole : Tree) → Any (IsFoundAt t a c) (nodes_in keeps whole) → Any (IsFoundAt t a c) (nodes_in keeps (closed t cost keeps whole))
  found_closed a c keeps (tree.Open prices why) found = absurd (only (IsFoundAt t a c) (node keeps (tree.Open prices why)) found).here.ends
  found_closed a c keeps (tree.Trim' leg choice p with_pair q without) found =
      any_turned (IsFoundAt t a c) _ _ (nodes_in (part keeps leg choice true) with_pair) (nodes_in (part keeps leg choice false) without) _ _
      (λ here. absurd here.here.ends) (found_closed a c (part keeps leg choice true) with_pair) (found_closed a c (part keeps leg choice false) without) found
  found_closed a c keeps (tree.Split' leg choice prices mixed p with_pair q without) found =
      any_turned (IsFoundAt t a c) _ _ (nodes_in (part keeps leg choice true) with_pair) (nodes_in (part keeps leg choice false) without) _ _
      (λ here. absurd here.here.ends) (found_closed a c (part keeps leg choice true) with_pair) (found_closed a c (part keeps leg choice false) without) found
  found_closed a c keeps other found = found
