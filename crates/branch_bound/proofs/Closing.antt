-- The list of subproblems beside the one that would stand there if no open leaf were closed.
use Rattle.std.proofs.Common.{Box, Global, ◌≡◌, ℕ, suc, ◌<◌, true, false, if◌then◌else◌, List, [], ◌∷◌, ◌++◌, length, Option, Some, None, IfSome, IsSomeAnd, ℤ, pos, ◌≤ℤ◌, ◌<ℤ◌, inl, inr, length-append, refl, sym, ◌∙◌, ap, subst, arith}
use Rattle.std.proofs.lemmas.Bool.{cases_eq}
use Rattle.std.proofs.lemmas.Int.{ints}
use Rattle.std.proofs.lemmas.List.{get_or_append_left, get_or_push}
use Rattle.std.proofs.lemmas.List.Elements.{All-head}
use Rattle.std.proofs.lemmas.List.FromFn.{fill_by_all}
use Rattle.sums.specs.Places.{list_below}
use Rattle.sums.proofs.Places.{get_or-list_below, length-list_below, list_below-more}
use Rattle.frac_row.specs.Ratio.{IsCeiling}
use Rattle.fleet_model.specs.Kept.{Domains}
use Rattle.fleet_model.specs.declared.tables.Tables.{Tables}
use Rattle.dual_bound.specs.Bound.{part}
use Rattle.dual_bound.specs.Worth.{worth_of}
use Rattle.dual_bound.specs.declared.mixed.Mixed.{Mixed}
use Rattle.dual_bound.specs.declared.prices.Prices.{Prices}
use Rattle.dual_bound.specs.declared.trees.Cause.{Cause}
use Rattle.dual_bound.specs.declared.trees.Cause.TheVariants as cause
use Rattle.dual_bound.specs.declared.trees.Tree.{Split, Tree}
use Rattle.dual_bound.specs.declared.trees.Tree.TheVariants as tree
use Rattle.cert_check.specs.Rules.{IsSound}
use Rattle.cert_check.proofs.NodeRules.{prices_known}
use Rattle.node_bounding.specs.Closing.{closed}
use Rattle.node_bounding.specs.Examined.{IsDoneLeaf}
use Rattle.node_bounding.specs.Subproblems.{IsRightState}
use Rattle.node_bounding.specs.declared.states.Fraction.{Fraction}
use Rattle.node_bounding.specs.declared.states.State.{State}
use Rattle.node_bounding.specs.declared.states.State.TheVariants as state
use Rattle.node_bounding.proofs.Nodes.{node}
use Rattle.node_bounding.proofs.Orders.{reach_test}
use Rattle.branch_bound.specs.Growing.{AreGathered, AreSingle, IsClosedTree, IsFolded, IsJoinedFrom, IsTreeJoined, closed_in, is_closing, leaf_by, tree_by}
use Rattle.branch_bound.specs.History.{Chronicle, IsLinked, IsSingle, KeepsBy, prices_above}
use Rattle.branch_bound.specs.Search.{at, no_subproblem}
use Rattle.branch_bound.specs.declared.subproblems.Origin.{Origin}
use Rattle.branch_bound.specs.declared.subproblems.Subproblem.{Subproblem}
use Rattle.branch_bound.proofs.Folding.{first_of_all, first_origin, fraction, gathered_after, parent_before, parent_is, part_keeps, second_origin}
use Rattle.branch_bound.proofs.Updates.{put_at, put_else, put_here}

-- what a subproblem is, where no leaf is closed, and as it stands: its tree is that one, closed
abbrev pub IsClosedState : Tables → Option ℤ → Domains → State → State → Type 0
IsClosedState t cost keeps (state.Leaf leaf) now = now ≡ state.Leaf (closed_in t cost keeps leaf)
IsClosedState t cost keeps (state.Stopped s) now = now ≡ state.Stopped s
IsClosedState t cost keeps (state.Waiting f) now = now ≡ state.Waiting f
IsClosedState t cost keeps (state.Split f) now = now ≡ state.Split f

pub record IsClosedAs (t : Tables) (cost : Option ℤ) (keeps : Domains) (was now : Subproblem) : Type 0 where
  pub origin : now.origin ≡ was.origin
  pub is : IsClosedState t cost keeps was.state now.state

-- the list where no leaf is closed, from its start up to as many as stand in this one
pub record AreClosing (t : Tables) (root : Domains) (pivots : Option ℕ) (cost : Option ℤ) (count : ℕ) (c : Chronicle) (all : List Subproblem) : Type 0 where
  pub left : ℕ → Subproblem
  pub gathered : AreGathered t root pivots cost count c (list_below left (length all))
  pub each : (k : ℕ) → k < length all → IsClosedAs t cost (c.made k).keeps (left k) (at all k)

-- ---- the beginning
-- a leaf that isn't open stays as it is
done_closed : (t : Tables) (cost : Option ℤ) (keeps : Domains) (leaf : Tree) → IsDoneLeaf leaf → leaf ≡ closed_in t cost keeps leaf
done_closed t None keeps leaf done = refl
done_closed t (Some c) keeps (tree.Open prices why) done = absurd done
done_closed t (Some c) keeps (tree.Trim' leg choice p with_pair q without) done = absurd done
done_closed t (Some c) keeps (tree.Split' leg choice prices mixed p with_pair q without) done = absurd done
done_closed t (Some c) keeps other done = refl

single_closed : (t : Tables) (cost : Option ℤ) (keeps : Domains) (s : State) → IsSingle s → IsClosedState t cost keeps s s
single_closed t cost keeps (state.Leaf leaf) single = ap state.Leaf (done_closed t cost keeps leaf single)
single_closed t cost keeps other single = refl

by_number : (all : List Subproblem) → all ≡ list_below (at all) (length all)
by_number all = fill_by_all (at all) all (length all) no_subproblem refl (λ k below. refl)

pub begins : (t : Tables) (root : Domains) (pivots : Option ℕ) (cost : Option ℤ) (count : ℕ) (c : Chronicle) (all : List Subproblem) → AreGathered t root pivots cost count c all → AreSingle all → AreClosing t root pivots cost count c all
begins t root pivots cost count c all are singles = record {
  left = at all;
  gathered = subst (AreGathered t root pivots cost count c) (by_number all) are;
  each = λ k below. record { origin = refl; is = single_closed t cost (c.made k).keeps (at all k).state (singles.each k below) };
}

-- ---- the tree of a subproblem
-- an open leaf is closed where its noted worth reaches the cost
leaf_closed : (t : Tables) (cost : Option ℤ) (keeps : Domains) (prices : Prices) (why : Cause) (worth : ℤ) → pos 1 ≤ℤ prices.scale → IsCeiling (worth_of t keeps prices 1) prices.scale worth → leaf_by cost worth prices why ≡ closed_in t cost keeps (tree.Open prices why)
leaf_closed t None keeps prices why worth some rounded = refl
leaf_closed t (Some c) keeps prices why worth some rounded = ap (λ b. if b then tree.Priced prices else tree.Open prices why) (reach_test t keeps prices c worth some rounded)

tree_closed : (t : Tables) (pivots : Option ℕ) (cost : Option ℤ) (keeps : Domains) (above : Prices) (was now : State) → IsClosedState t cost keeps was now → IsRightState t pivots cost keeps above was → tree_by cost now ≡ closed_in t cost keeps (tree_by None was)
tree_closed t pivots cost keeps above (state.Leaf leaf) now is right = ap (tree_by cost) is
tree_closed t pivots cost keeps above (state.Stopped s) now is right =
    ap (tree_by cost) is
    ∙ leaf_closed t cost keeps s.prices s.why s.worth
    (prices_known t cost (node keeps (tree.Open s.prices s.why)) s.prices (All-head (IsSound t cost) (node keeps (tree.Open s.prices s.why)) [] right.0.sound) refl).scale.some right.2.rounded
tree_closed t pivots cost keeps above (state.Waiting f) now is right = ap (tree_by cost) is ∙ leaf_closed t cost keeps f.best.prices (cause.Nodes f.best.mixed) f.worth right.split.best.good.proper.scale.some right.rounded
tree_closed t pivots cost keeps above (state.Split f) now is right = ap (tree_by cost) is ∙ leaf_closed t cost keeps f.best.prices (cause.Nodes f.best.mixed) f.worth right.split.best.good.proper.scale.some right.rounded

-- a box with another tree in it, at the same place
abbrev pub holding : Box Tree Global → Tree → Box Tree Global
holding b x = record { ptr = b.ptr; alloc = b.alloc; value = x }

boxes : (leg choice : ℕ) (prices : Prices) (mixed : Mixed) (one two : Box Tree Global) (x y : Tree) → one.value ≡ x → two.value ≡ y → Split leg choice prices mixed one two ≡ Split leg choice prices mixed (holding one x) (holding two y)
boxes leg choice prices mixed one two x y first second = ap (λ v. Split leg choice prices mixed (holding one v) (holding two two.value)) first ∙ ap (λ v. Split leg choice prices mixed (holding one x) (holding two v)) second

split_closed : (t : Tables) (cost : Option ℤ) (keeps : Domains) (leg choice : ℕ) (prices : Prices) (mixed : Mixed) (one two : Box Tree Global) (x y : Tree) → one.value ≡ closed_in t cost (part keeps leg choice true) x → two.value ≡ closed_in t cost (part keeps leg choice false) y
    → Split leg choice prices mixed one two ≡ closed_in t cost keeps (Split leg choice prices mixed (holding one x) (holding two y))
split_closed t None keeps leg choice prices mixed one two x y first second = boxes leg choice prices mixed one two x y first second
split_closed t (Some c) keeps leg choice prices mixed one two x y first second = boxes leg choice prices mixed one two (closed t c (part keeps leg choice true) x) (closed t c (part keeps leg choice false) y) first second

-- ---- the last of a list
module _ (t : Tables) (root : Domains) (pivots : Option ℕ) (cost : Option ℤ) (total : ℕ) (c : Chronicle) (all rest : List Subproblem) (last : Subproblem) (all_is : all ≡ rest ++ last ∷ []) (are : AreClosing t root pivots cost total c all) where
  abbrev n : ℕ
  n = length rest

  abbrev all_left : List Subproblem
  all_left = list_below are.left (length all)

  abbrev rest_left : List Subproblem
  rest_left = list_below are.left n

  long : length all ≡ suc n
  long = omega (arith, ap length all_is, length-append rest (last ∷ []))

  left_is : all_left ≡ rest_left ++ are.left n ∷ []
  left_is = ap (list_below are.left) (omega (arith, long)) ∙ list_below-more are.left n

  at_end : at all n ≡ last
  at_end = ap (λ xs. at xs n) all_is ∙ get_or_push rest last no_subproblem n refl

  at_rest : (k : ℕ) → k < n → at all k ≡ at rest k
  at_rest k below = ap (λ xs. at xs k) all_is ∙ get_or_append_left rest (last ∷ []) no_subproblem k below

  at_left : (k : ℕ) → k < length all → at all_left k ≡ are.left k
  at_left k below = get_or-list_below are.left (length all) k no_subproblem below

  in_left : (k : ℕ) → k < length all → k < length all_left
  in_left k below = omega (arith, below, length-list_below are.left (length all))

  left_from : (o : Option Origin) → last.origin ≡ o → (are.left n).origin ≡ o
  left_from o from_is = sym (are.each n (omega (arith, long))).origin ∙ ap (λ (s : Subproblem). s.origin) at_end ∙ from_is

  -- its tree
  tree_at : (k : ℕ) → k < length all → tree_by cost (at all k).state ≡ closed_in t cost (c.made k).keeps (tree_by None (are.left k).state)
  tree_at k below =
      tree_closed t pivots cost (c.made k).keeps (prices_above t c.made (at all_left k).origin) (are.left k).state (at all k).state (are.each k below).is
      (subst (λ (s : Subproblem). IsRightState t pivots cost (c.made k).keeps (prices_above t c.made (at all_left k).origin) s.state) (at_left k below) (are.gathered.right k (in_left k below)))

  -- ---- it is the first of all
  pub first_closed : (whole : Tree) → last.origin ≡ None → whole ≡ tree_by cost last.state → IsClosedTree t root pivots cost total c whole
  first_closed whole from_is whole_is =
      let below : n < length all = omega (arith, long) in
      let none : (are.left n).origin ≡ None = left_from None from_is in
      let root_is : (c.made n).keeps ≡ root = subst (λ o. KeepsBy t root c.made n o) (ap (λ (s : Subproblem). s.origin) (at_left n below) ∙ none) (are.gathered.numbered n (in_left n below)).keeps in
      record {
        left = tree_by None (are.left n).state;
        grown = first_of_all t root pivots cost total c all_left rest_left (are.left n) (tree_by None (are.left n).state) left_is none refl are.gathered;
        closed = whole_is ∙ ap (λ (s : Subproblem). tree_by cost s.state) (sym at_end) ∙ tree_at n below ∙ ap (λ d. closed_in t cost d (tree_by None (are.left n).state)) root_is;
      }

  -- ---- it is put into the one that it is a part of
  module _ (origin : Origin) (from_is : last.origin ≡ Some origin) (after : List Subproblem) (is : IsFolded (tree_by cost) rest after origin.parent last.state) where
    abbrev l : ℕ
    l = length after

    abbrev p : ℕ
    p = origin.parent

    from_left : (are.left n).origin ≡ Some origin
    from_left = left_from (Some origin) from_is

    abbrev links : (k : ℕ) → k < length all_left → IsLinked all_left c.parts k
    links k below = (are.gathered.numbered k below).linked

    p_early : p < l
    p_early = omega (arith, parent_before all_left rest_left (are.left n) origin c.parts left_is from_left links, length-list_below are.left n, is.shorter)

    p_below : p < length all
    p_below = omega (arith, p_early, is.shorter, long)

    abbrev f : Fraction
    f = fraction all_left rest_left (are.left n) origin c.parts left_is from_left links

    parent_left : (are.left p).state ≡ state.Split f
    parent_left = ap (λ (s : Subproblem). s.state) (sym (at_left p p_below)) ∙ parent_is all_left rest_left (are.left n) origin c.parts left_is from_left links

    parent_now : (at rest p).state ≡ state.Split f
    parent_now =
        ap (λ (s : Subproblem). s.state) (sym (at_rest p (omega (arith, p_early, is.shorter))))
        ∙ subst (λ s. IsClosedState t cost (c.made p).keeps s (at all p).state) parent_left (are.each p p_below).is

    joined : IsTreeJoined f (tree_by cost (at rest l).state) (tree_by cost last.state) is.whole
    joined = subst (λ s. IsJoinedFrom s (tree_by cost (at rest l).state) (tree_by cost last.state) is.whole) parent_now is.joined

    -- the tree where no leaf is closed
    abbrev first_left : Tree
    first_left = tree_by None (are.left l).state

    abbrev second_left : Tree
    second_left = tree_by None (are.left n).state

    abbrev whole_left : Tree
    whole_left = Split f.pair.leg f.pair.choice f.best.prices f.best.mixed (holding joined.yes_box first_left) (holding joined.no_box second_left)

    abbrev put : Subproblem
    put = record { origin = (are.left p).origin; state = state.Leaf whole_left }

    abbrev left_after : ℕ → Subproblem
    left_after = put_at are.left p put

    abbrev after_left : List Subproblem
    after_left = list_below left_after l

    counted : length after_left ≡ l
    counted = length-list_below left_after l

    in_rest : (k : ℕ) → k < n → at rest_left k ≡ are.left k
    in_rest k below = get_or-list_below are.left n k no_subproblem below

    in_after : (k : ℕ) → k < l → at after_left k ≡ left_after k
    in_after k below = get_or-list_below left_after l k no_subproblem below

    own_joined : IsTreeJoined f first_left second_left (state.Leaf whole_left)
    own_joined = record { yes_box = holding joined.yes_box first_left; no_box = holding joined.no_box second_left; is = refl; yes_is = refl; no_is = refl }

    folded : IsFolded (tree_by None) rest_left after_left p (are.left n).state
    folded = record {
      shorter = omega (arith, length-list_below are.left n, counted, is.shorter);
      whole = state.Leaf whole_left;
      joined = subst (λ (s : Subproblem). IsJoinedFrom (at rest_left p).state (tree_by None s.state) second_left (state.Leaf whole_left)) (sym (ap (at rest_left) counted ∙ in_rest l (omega (arith, is.shorter))))
          (subst (λ s. IsJoinedFrom s first_left second_left (state.Leaf whole_left)) (sym (ap (λ (s : Subproblem). s.state) (in_rest p (omega (arith, p_early, is.shorter))) ∙ parent_left)) own_joined);
      there = in_after p p_early ∙ put_here are.left p put ∙ ap (λ (s : Subproblem). record { origin = s.origin; state = state.Leaf whole_left }) (sym (in_rest p (omega (arith, p_early, is.shorter))));
      same = λ k below other.
          let less : k < l = omega (arith, below, counted) in
          in_after k less ∙ put_else are.left p put k other ∙ sym (in_rest k (omega (arith, less, is.shorter)));
    }

    gathered_left : AreGathered t root pivots cost total c after_left
    gathered_left = gathered_after t root pivots cost total c all_left rest_left (are.left n) origin left_is from_left are.gathered after_left folded

    -- the parts keep what they kept
    first_keeps : (c.made l).keeps ≡ part (c.made p).keeps f.pair.leg f.pair.choice true
    first_keeps =
        ap (λ k. (c.made k).keeps) (sym counted)
        ∙ part_keeps t root pivots cost total c all_left rest_left (are.left n) origin left_is from_left are.gathered after_left folded (length after_left) true
        (omega (arith, counted, is.shorter, long, length-list_below are.left (length all)))
        (first_origin t root pivots cost total c all_left rest_left (are.left n) origin left_is from_left are.gathered after_left folded) (omega arith)

    second_keeps : (c.made n).keeps ≡ part (c.made p).keeps f.pair.leg f.pair.choice false
    second_keeps =
        ap (λ k. (c.made k).keeps) (omega (arith, counted, is.shorter))
        ∙ part_keeps t root pivots cost total c all_left rest_left (are.left n) origin left_is from_left are.gathered after_left folded (suc (length after_left)) false
        (omega (arith, counted, is.shorter, long, length-list_below are.left (length all)))
        (second_origin t root pivots cost total c all_left rest_left (are.left n) origin left_is from_left are.gathered after_left folded) (omega arith)

    first_value : joined.yes_box.value ≡ closed_in t cost (part (c.made p).keeps f.pair.leg f.pair.choice true) first_left
    first_value =
        joined.yes_is ∙ ap (λ (s : Subproblem). tree_by cost s.state) (sym (at_rest l (omega (arith, is.shorter)))) ∙ tree_at l (omega (arith, is.shorter, long)) ∙ ap (λ d. closed_in t cost d first_left) first_keeps

    second_value : joined.no_box.value ≡ closed_in t cost (part (c.made p).keeps f.pair.leg f.pair.choice false) second_left
    second_value = joined.no_is ∙ ap (λ (s : Subproblem). tree_by cost s.state) (sym at_end) ∙ tree_at n (omega (arith, long)) ∙ ap (λ d. closed_in t cost d second_left) second_keeps

    whole_now : is.whole ≡ state.Leaf (closed_in t cost (c.made p).keeps whole_left)
    whole_now =
        joined.is ∙ ap state.Leaf (split_closed t cost (c.made p).keeps f.pair.leg f.pair.choice f.best.prices f.best.mixed joined.yes_box joined.no_box first_left second_left first_value second_value)

    here : IsClosedAs t cost (c.made p).keeps put (at after p)
    here = subst (IsClosedAs t cost (c.made p).keeps put) (sym is.there) (record {
      origin = ap (λ (s : Subproblem). s.origin) (sym (at_rest p (omega (arith, p_early, is.shorter)))) ∙ (are.each p p_below).origin;
      is = whole_now;
    })

    pub closing_after : AreClosing t root pivots cost total c after
    closing_after = record {
      left = left_after;
      gathered = gathered_left;
      each = λ k below. elim (cases_eq k p) [
        | inl same ↦ subst (λ j. IsClosedAs t cost (c.made j).keeps (left_after j) (at after j)) (sym same) (subst (λ s. IsClosedAs t cost (c.made p).keeps s (at after p)) (sym (put_here are.left p put)) here)
        | inr other ↦
            subst (λ s. IsClosedAs t cost (c.made k).keeps s (at after k)) (sym (put_else are.left p put k other))
            (subst (IsClosedAs t cost (c.made k).keeps (are.left k)) (at_rest k (omega (arith, below, is.shorter)) ∙ sym (is.same k below other)) (are.each k (omega (arith, below, is.shorter, long))))
      ];
    }

-- ---- the test of a noted worth
pub closing_is : (cost : Option ℤ) (worth : ℤ) → IsSomeAnd cost (λ c. c ≤ℤ worth) → is_closing cost worth ≡ true
closing_is None worth reached = absurd reached
closing_is (Some c) worth reached = grind (arith, ints, reached)

pub open_is : (cost : Option ℤ) (worth : ℤ) → IfSome cost (λ c. worth <ℤ c) → is_closing cost worth ≡ false
open_is None worth below = refl
open_is (Some c) worth below = grind (arith, ints, below)
