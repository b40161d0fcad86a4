-- The list of subproblems, from which the last two are taken and put into the one that they are parts of.
use Rattle.std.proofs.Common.{◌≡◌, ◌≢◌, ℕ, zero, suc, ◌<◌, ◌≤◌, Bool, true, false, if◌then◌else◌, List, [], ◌∷◌, ◌++◌, length, Option, Some, None, ℤ, inl, inr, append_assoc, length-append, refl, sym, ◌∙◌, ap, subst, arith}
use Rattle.std.specs.List.Sorted.{IsPermutation}
use Rattle.std.proofs.lemmas.Bool.{cases_eq}
use Rattle.std.proofs.lemmas.List.{get_or_append_left, get_or_push, map-append}
use Rattle.std.proofs.lemmas.List.Sorted.{IsPermutation-append_comm, IsPermutation-append_left, IsPermutation-append_right, IsPermutation-refl, IsPermutation-trans}
use Rattle.sums.specs.Places.{list_below}
use Rattle.fleet_model.specs.Kept.{Domains}
use Rattle.fleet_model.specs.declared.kept.Step.{Step}
use Rattle.fleet_model.specs.declared.tables.Tables.{Tables}
use Rattle.dual_bound.specs.Bound.{part}
use Rattle.dual_bound.specs.WrittenOrder.{IsNodeInOrder}
use Rattle.dual_bound.specs.declared.nodes.Node.TheVariants as ordered
use Rattle.dual_bound.specs.declared.prices.Prices.{Prices}
use Rattle.dual_bound.specs.declared.trees.Cause.TheVariants as cause
use Rattle.dual_bound.specs.declared.trees.Tree.{Split, Tree}
use Rattle.dual_bound.specs.declared.trees.Tree.TheVariants as tree
use Rattle.cert_check.specs.Nodes.{nodes_in}
use Rattle.node_bounding.specs.Causes.{zero_prices}
use Rattle.branch_bound.specs.Growing.{AreGathered, AreSplitsLinked, IsFolded, IsJoinedFrom, IsSplitState, IsTreeJoined, gathered, gathered_at, tree_by}
use Rattle.branch_bound.specs.History.{Chronicle, HasItsParts, HasSplitParts, IsFrom, IsGrownTree, IsLinked, IsPartOf, IsRightAt, KeepsBy, prices_above, prices_in}
use Rattle.node_bounding.specs.Subproblems.{IsFractional, IsPart, IsRightState, node_of}
use Rattle.branch_bound.specs.Search.{IsSplitBy, at, no_subproblem, step_into}
use Rattle.node_bounding.specs.Trims.{AreSearched}
use Rattle.node_bounding.specs.Worked.{Worked, worked_at, worked_in}
use Rattle.node_bounding.specs.declared.states.Fraction.{Fraction}
use Rattle.branch_bound.specs.declared.subproblems.Origin.{Origin}
use Rattle.node_bounding.specs.declared.states.State.{State}
use Rattle.node_bounding.specs.declared.states.State.TheVariants as state
use Rattle.branch_bound.specs.declared.subproblems.Subproblem.{Subproblem}
use Rattle.node_bounding.proofs.Leaves.{answers_none, open_sound}
use Rattle.node_bounding.proofs.Nodes.{all_one}
use Rattle.node_bounding.proofs.Parts.{leaf_part, split_part}

-- ---- the tree of a subproblem that was not split, with no leaf closed
abbrev pub tree_of_state : State → Tree
tree_of_state s = tree_by None s

waiting_part : (t : Tables) (pivots : Option ℕ) (final : Option ℤ) (keeps : Domains) (above : Prices) (f : Fraction) → IsFractional t keeps f → IsPart t pivots final keeps above (tree.Open f.best.prices (cause.Nodes f.best.mixed))
waiting_part t pivots final keeps above f is =
    let best = is.split.best in
    leaf_part t pivots final keeps above (tree.Open f.best.prices (cause.Nodes f.best.mixed)) refl refl (best.good.known, best.known) (all_one (IsNodeInOrder t) (ordered.Open f.best.prices (cause.Nodes f.best.mixed)) (best.good.in_order, best.in_order))
    (open_sound t final keeps f.best.prices (cause.Nodes f.best.mixed) best.good.proper is.split.searched.some_pair best.mixed_at is.split.fraction) (answers_none t final keeps (tree.Open f.best.prices (cause.Nodes f.best.mixed)) (λ e. cc)) tt

state_part : (t : Tables) (pivots : Option ℕ) (final : Option ℤ) (keeps : Domains) (above : Prices) (s : State) → IsRightState t pivots final keeps above s → IsPart t pivots final keeps above (tree_of_state s) × AreSearched t keeps (tree_of_state s)
state_part t pivots final keeps above (state.Waiting f) is = (waiting_part t pivots final keeps above f is, is.split.searched)
state_part t pivots final keeps above (state.Split f) is = (waiting_part t pivots final keeps above f is, is.split.searched)
state_part t pivots final keeps above other is = (is.0, is.1)

gathered_tree : (keeps : Domains) (s : State) → ¬ (IsSplitState s) → gathered_at keeps s ≡ worked_in keeps (tree_of_state s)
gathered_tree keeps (state.Split f) unsplit = absurd (unsplit tt)
gathered_tree keeps other unsplit = refl

-- ---- what is gathered
-- one subproblem gathers more: so do all
module _ (made : ℕ → Worked) (before after : List Subproblem) (p r : ℕ) (more : List Worked) (same : (k : ℕ) → k < r → k ≢ p → at after k ≡ at before k)
    (there : gathered_at (made p).keeps (at after p).state ≡ gathered_at (made p).keeps (at before p).state ++ more) where
  gathered_before : (k : ℕ) → k ≤ p → k ≤ r → gathered made after k ≡ gathered made before k
  unfolding gathered
  gathered_before zero early within = refl
  gathered_before (suc k) early within =
      ap (λ g. g ++ gathered_at (made k).keeps (at after k).state) (gathered_before k (omega (arith, early)) (omega (arith, within)))
      ∙ ap (λ (s : Subproblem). gathered made before k ++ gathered_at (made k).keeps s.state) (same k (omega (arith, within)) (omega (arith, early)))

  pub gathered_more : (k : ℕ) → p < k → k ≤ r → IsPermutation (gathered made before k ++ more) (gathered made after k)
  unfolding gathered
  gathered_more zero late within = absurd (omega (arith, late))
  gathered_more (suc k) late within = elim (cases_eq k p) [
    | inl here ↦
        let first : gathered made after k ≡ gathered made before k = gathered_before k (omega (arith, here)) (omega (arith, within)) in
        let own : gathered_at (made k).keeps (at after k).state ≡ gathered_at (made k).keeps (at before k).state ++ more = subst (λ j. gathered_at (made j).keeps (at after j).state ≡ gathered_at (made j).keeps (at before j).state ++ more) (sym here) there in
        let whole : gathered made after k ++ gathered_at (made k).keeps (at after k).state ≡ (gathered made before k ++ gathered_at (made k).keeps (at before k).state) ++ more =
        ap (λ g. g ++ gathered_at (made k).keeps (at after k).state) first ∙ ap (λ g. gathered made before k ++ g) own ∙ sym (append_assoc (gathered made before k) (gathered_at (made k).keeps (at before k).state) more) in
        subst (λ g. IsPermutation ((gathered made before k ++ gathered_at (made k).keeps (at before k).state) ++ more) g) (sym whole) (IsPermutation-refl _)
    | inr other ↦
        let own : List Worked = gathered_at (made k).keeps (at before k).state in
        let inner = gathered_more k (omega (arith, late, other)) (omega (arith, within)) in
        let turned : IsPermutation ((gathered made before k ++ own) ++ more) ((gathered made before k ++ more) ++ own) =
        subst (λ g. IsPermutation g ((gathered made before k ++ more) ++ own)) (sym (append_assoc (gathered made before k) own more))
        (subst (λ g. IsPermutation (gathered made before k ++ (own ++ more)) g) (sym (append_assoc (gathered made before k) more own)) (IsPermutation-append_right (gathered made before k) (own ++ more) (more ++ own) (IsPermutation-append_comm own more))) in
        let last : gathered_at (made k).keeps (at after k).state ≡ own = ap (λ (s : Subproblem). gathered_at (made k).keeps s.state) (same k (omega (arith, within)) other) in
        subst (λ g. IsPermutation ((gathered made before k ++ own) ++ more) (gathered made after k ++ g)) (sym last)
        (IsPermutation-trans _ _ _ turned (IsPermutation-append_left own (gathered made before k ++ more) (gathered made after k) inner))
  ]

gathered_two : (made : ℕ → Worked) (all : List Subproblem) (k : ℕ)
    → gathered made all (suc (suc k)) ≡ gathered made all k ++ (gathered_at (made k).keeps (at all k).state ++ gathered_at (made (suc k)).keeps (at all (suc k)).state)
unfolding gathered
gathered_two made all k = append_assoc (gathered made all k) (gathered_at (made k).keeps (at all k).state) (gathered_at (made (suc k)).keeps (at all (suc k)).state)

gathered_one : (made : ℕ → Worked) (all : List Subproblem) → gathered made all 1 ≡ gathered_at (made 0).keeps (at all 0).state
unfolding gathered
gathered_one made all = refl

-- ---- links
-- a subproblem that was split, with its fraction
split_of : (step : Step) (s : State) → IsSplitBy step s → (f : Fraction) × (s ≡ state.Split f) × (step.leg ≡ f.pair.leg) × (step.choice ≡ f.pair.choice)
split_of step (state.Split f) is = (f, refl, is.0, is.1)
split_of step other is = absurd is

-- the last of a list is the second part of the one that it is a part of, and the first part is before it
module _ (all rest : List Subproblem) (last : Subproblem) (origin : Origin) (parts : ℕ → ℕ) (all_is : all ≡ rest ++ last ∷ []) (from_is : last.origin ≡ Some origin) (each : (k : ℕ) → k < length all → IsLinked all parts k) where
  count : length all ≡ suc (length rest)
  count = omega (arith, ap length all_is, length-append rest (last ∷ []))

  at_rest : (k : ℕ) → k < length rest → at all k ≡ at rest k
  at_rest k less = ap (λ xs. at xs k) all_is ∙ get_or_append_left rest (last ∷ []) no_subproblem k less

  at_last : at all (length rest) ≡ last
  at_last = ap (λ xs. at xs (length rest)) all_is ∙ get_or_push rest last no_subproblem (length rest) refl

  last_from : IsPartOf all parts (length rest) origin
  last_from = subst (λ o. IsFrom all parts (length rest) o) (ap (λ s. s.origin) at_last ∙ from_is) (each (length rest) (omega (arith, count))).from

  pub fraction : Fraction
  fraction = (split_of origin.step (at all origin.parent).state last_from.of_split).0

  pub parent_is : (at all origin.parent).state ≡ state.Split fraction
  unfolding fraction
  parent_is = (split_of origin.step (at all origin.parent).state last_from.of_split).1

  has : HasSplitParts all parts origin.parent fraction.pair
  has = subst (λ s. HasItsParts all parts origin.parent s) parent_is (each origin.parent (omega (arith, last_from.earlier, count))).own

  second_place : length rest ≡ suc (parts origin.parent)
  second_place = by_step origin.step.yes last_from.place
    where
      by_step : (b : Bool) → ◌≡◌ {A = ℕ} (length rest) (if b then parts origin.parent else suc (parts origin.parent)) → length rest ≡ suc (parts origin.parent)
      by_step true place = absurd (omega (arith, place, has.within, count))
      by_step false place = place

  first_from : IsPartOf all parts (parts origin.parent) (record { parent = origin.parent; step = step_into fraction.pair true })
  first_from = subst (λ o. IsFrom all parts (parts origin.parent) o) has.with_pair (each (parts origin.parent) (omega (arith, has.within))).from

  -- what is asked for
  pub parent_before : suc origin.parent < length rest
  parent_before = omega (arith, first_from.earlier, second_place)

  pub parent_split : IsSplitState (at rest origin.parent).state
  parent_split = subst IsSplitState (ap (λ s. s.state) (at_rest origin.parent (omega (arith, parent_before)))) (subst IsSplitState (sym parent_is) tt)

  -- ---- both are put into it
  module _ (tree_of : State → Tree) (after : List Subproblem) (is : IsFolded tree_of rest after origin.parent last.state) where
    abbrev r : ℕ
    r = length after

    abbrev p : ℕ
    p = origin.parent

    first_place : parts p ≡ r
    first_place = omega (arith, second_place, is.shorter)

    parent_in : p < r
    parent_in = omega (arith, parent_before, is.shorter)

    -- what stays
    unlike : (k : ℕ) → k < r → k ≢ p → at after k ≡ at all k
    unlike k less other = is.same k less other ∙ sym (at_rest k (omega (arith, less, is.shorter)))

    there : at after p ≡ record { origin = (at all p).origin; state = is.whole }
    there = is.there ∙ ap (λ (s : Subproblem). record { origin = s.origin; state = is.whole }) (sym (at_rest p (omega (arith, parent_before))))

    origin_same : (k : ℕ) → k < r → (at after k).origin ≡ (at all k).origin
    origin_same k less = elim (cases_eq k p) [
      | inl same ↦ ap (λ j. (at after j).origin) same ∙ ap (λ (s : Subproblem). s.origin) there ∙ sym (ap (λ j. (at all j).origin) same)
      | inr other ↦ ap (λ (s : Subproblem). s.origin) (unlike k less other)
    ]

    pub joined : IsTreeJoined fraction (tree_of (at all r).state) (tree_of last.state) is.whole
    joined =
        let parent : (at rest p).state ≡ state.Split fraction = ap (λ (s : Subproblem). s.state) (sym (at_rest p (omega (arith, parent_before)))) ∙ parent_is in
        let own : IsJoinedFrom (state.Split fraction) (tree_of (at rest r).state) (tree_of last.state) is.whole = subst (λ s. IsJoinedFrom s (tree_of (at rest r).state) (tree_of last.state) is.whole) parent is.joined in
        subst (λ (s : Subproblem). IsTreeJoined fraction (tree_of s.state) (tree_of last.state) is.whole) (sym (at_rest r (omega (arith, is.shorter)))) own

    whole_is : (at after p).state ≡ state.Leaf (Split fraction.pair.leg fraction.pair.choice fraction.best.prices fraction.best.mixed joined.yes_box joined.no_box)
    whole_is = ap (λ (s : Subproblem). s.state) there ∙ joined.is

    -- no other subproblem has these parts
    not_its_part : (k : ℕ) (other : Origin) → k < r → IsPartOf all parts k other → other.parent ≢ p
    not_its_part k other less from same = by_step other.step.yes from.place
      where
        by_step : (b : Bool) → ◌≡◌ {A = ℕ} k (if b then parts other.parent else suc (parts other.parent)) → ⊥
        by_step true place = absurd (omega (arith, place, ap parts same, first_place, less))
        by_step false place = absurd (omega (arith, place, ap parts same, first_place, less))

    from_same : (k : ℕ) (o : Option Origin) → k < r → IsFrom all parts k o → IsFrom after parts k o
    from_same k None less from = from
    from_same k (Some other) less from = record {
      earlier = from.earlier;
      of_split = subst (λ (s : Subproblem). IsSplitBy other.step s.state) (sym (unlike other.parent (omega (arith, from.earlier, less)) (not_its_part k other less from))) from.of_split;
      place = from.place;
    }

    -- the parts of another split stay in the list
    parent_of : (x y : Option Origin) (one two : Origin) → x ≡ Some one → x ≡ Some two → one.parent ≡ two.parent
    parent_of x y one two first second = let same : Some one ≡ Some two = sym first ∙ second in let is : one ≡ two = cc in ap (λ (o : Origin). o.parent) is

    has_parts : (k : ℕ) (f : Fraction) → k < r → k ≢ p → HasSplitParts all parts k f.pair → HasSplitParts after parts k f.pair
    has_parts k f less other own =
        let first_origin : (at all r).origin ≡ Some (record { parent = p; step = step_into fraction.pair true }) = ap (λ j. (at all j).origin) (sym first_place) ∙ has.with_pair in
        let not_first : parts k ≢ r = λ same. other (parent_of (at all r).origin None _ _ (ap (λ j. (at all j).origin) (sym same) ∙ own.with_pair) first_origin) in
        let not_second : suc (parts k) ≢ r = λ same. other (parent_of (at all r).origin None _ _ (ap (λ j. (at all j).origin) (sym same) ∙ own.without) first_origin) in
        let within : suc (parts k) < r = omega (arith, own.within, count, is.shorter, not_first, not_second) in
        record {
          within = within;
          with_pair = origin_same (parts k) (omega (arith, within)) ∙ own.with_pair;
          without = origin_same (suc (parts k)) within ∙ own.without;
        }

    own_same : (k : ℕ) (s : State) → k < r → k ≢ p → HasItsParts all parts k s → HasItsParts after parts k s
    own_same k (state.Leaf leaf) less other own = tt
    own_same k (state.Stopped s) less other own = tt
    own_same k (state.Waiting f) less other own = tt
    own_same k (state.Split f) less other own = has_parts k f less other own

    pub links : (k : ℕ) → k < r → IsLinked after parts k
    links k less =
        let old = each k (omega (arith, less, count, is.shorter)) in
        record {
          from = subst (λ o. IsFrom after parts k o) (sym (origin_same k less)) (from_same k (at all k).origin less old.from);
          own = elim (cases_eq k p) [
            | inl same ↦ subst (λ j. HasItsParts after parts j (at after j).state) (sym same) (subst (λ s. HasItsParts after parts p s) (sym whole_is) tt)
            | inr other ↦ subst (λ (s : Subproblem). HasItsParts after parts k s.state) (sym (unlike k less other)) (own_same k (at all k).state less other old.own)
          ];
        }

    pub linked : AreSplitsLinked after
    linked = record { some = omega (arith, parent_in); parts = parts; each = links }

    -- neither of the two was split
    unsplit : (k : ℕ) (s : State) → k < length all → r ≤ k → (at all k).state ≡ s → ¬ (IsSplitState s)
    unsplit k (state.Split f) within late own split =
        let its = subst (λ s. HasItsParts all parts k s) own (each k within).own in
        let from = subst (λ o. IsFrom all parts (parts k) o) its.with_pair (each (parts k) (omega (arith, its.within))).from in
        absurd (omega (arith, its.within, from.earlier, late, count, is.shorter))
    unsplit k other within late own split = split

-- ---- what is gathered stays gathered
module _ (t : Tables) (root : Domains) (pivots : Option ℕ) (final : Option ℤ) (total : ℕ) (c : Chronicle) (all rest : List Subproblem) (last : Subproblem) (origin : Origin) (all_is : all ≡ rest ++ last ∷ []) (from_is : last.origin ≡ Some origin)
    (are : AreGathered t root pivots final total c all) (after : List Subproblem) (is : IsFolded tree_of_state rest after origin.parent last.state) where
  abbrev own_links : (k : ℕ) → k < length all → IsLinked all c.parts k
  own_links k below = (are.numbered k below).linked

  abbrev l : ℕ
  l = length after

  abbrev q : ℕ
  q = origin.parent

  abbrev f : Fraction
  f = fraction all rest last origin c.parts all_is from_is own_links

  abbrev box : IsTreeJoined f (tree_of_state (at all l).state) (tree_of_state last.state) is.whole
  box = joined all rest last origin c.parts all_is from_is own_links tree_of_state after is

  abbrev whole : Tree
  whole = Split f.pair.leg f.pair.choice f.best.prices f.best.mixed box.yes_box box.no_box

  state_whole : (at after q).state ≡ state.Leaf whole
  state_whole = whole_is all rest last origin c.parts all_is from_is own_links tree_of_state after is

  state_parent : (at all q).state ≡ state.Split f
  state_parent = parent_is all rest last origin c.parts all_is from_is own_links

  inside : q < l
  inside = parent_in all rest last origin c.parts all_is from_is own_links tree_of_state after is

  total_is : length all ≡ suc (suc l)
  total_is = omega (arith, count all rest last origin c.parts all_is from_is own_links, is.shorter)

  stays : (k : ℕ) → k < l → k ≢ q → at after k ≡ at all k
  stays = unlike all rest last origin c.parts all_is from_is own_links tree_of_state after is

  origin_stays : (k : ℕ) → k < l → (at after k).origin ≡ (at all k).origin
  origin_stays = origin_same all rest last origin c.parts all_is from_is own_links tree_of_state after is

  node_parent : (c.made q).node ≡ node_of (state.Split f)
  node_parent = (are.numbered q (omega (arith, inside, total_is))).node ∙ ap node_of state_parent

  -- ---- both parts
  pub first_origin : (at all l).origin ≡ Some (record { parent = q; step = step_into f.pair true })
  first_origin = ap (λ j. (at all j).origin) (sym (first_place all rest last origin c.parts all_is from_is own_links tree_of_state after is)) ∙ (has all rest last origin c.parts all_is from_is own_links).with_pair

  pub second_origin : (at all (suc l)).origin ≡ Some (record { parent = q; step = step_into f.pair false })
  second_origin = ap (λ j. (at all (suc j)).origin) (sym (first_place all rest last origin c.parts all_is from_is own_links tree_of_state after is)) ∙ (has all rest last origin c.parts all_is from_is own_links).without

  second_is : at all (suc l) ≡ last
  second_is = ap (λ j. at all j) (sym is.shorter) ∙ at_last all rest last origin c.parts all_is from_is own_links

  -- what is known of a part with this number
  module _ (k : ℕ) (taken : Bool) (below : k < length all) (its : (at all k).origin ≡ Some (record { parent = q; step = step_into f.pair taken })) (late : l ≤ k) where
    pub part_keeps : (c.made k).keeps ≡ part (c.made q).keeps f.pair.leg f.pair.choice taken
    part_keeps = (subst (λ o. KeepsBy t root c.made k o) its (are.numbered k below).keeps).1

    part_right : IsRightState t pivots final (part (c.made q).keeps f.pair.leg f.pair.choice taken) f.best.prices (at all k).state
    part_right =
        subst (λ p. IsRightState t pivots final (part (c.made q).keeps f.pair.leg f.pair.choice taken) p (at all k).state) (ap (prices_in t) node_parent)
        (subst (λ d. IsRightState t pivots final d (prices_in t (c.made q).node) (at all k).state) part_keeps
        (subst (λ o. IsRightState t pivots final (c.made k).keeps (prices_above t c.made o) (at all k).state) its (are.right k below)))

    part_gathered : gathered_at (c.made k).keeps (at all k).state ≡ worked_in (part (c.made q).keeps f.pair.leg f.pair.choice taken) (tree_of_state (at all k).state)
    part_gathered =
        gathered_tree (c.made k).keeps (at all k).state (unsplit all rest last origin c.parts all_is from_is own_links tree_of_state after is k (at all k).state below late refl)
        ∙ ap (λ d. worked_in d (tree_of_state (at all k).state)) part_keeps

  first_tree : IsPart t pivots final (part (c.made q).keeps f.pair.leg f.pair.choice true) f.best.prices box.yes_box.value × AreSearched t (part (c.made q).keeps f.pair.leg f.pair.choice true) box.yes_box.value
  first_tree =
      subst (λ x. IsPart t pivots final (part (c.made q).keeps f.pair.leg f.pair.choice true) f.best.prices x × AreSearched t (part (c.made q).keeps f.pair.leg f.pair.choice true) x) (sym box.yes_is)
      (state_part t pivots final _ f.best.prices (at all l).state (part_right l true (omega (arith, total_is)) first_origin (omega arith)))

  second_tree : IsPart t pivots final (part (c.made q).keeps f.pair.leg f.pair.choice false) f.best.prices box.no_box.value × AreSearched t (part (c.made q).keeps f.pair.leg f.pair.choice false) box.no_box.value
  second_tree =
      subst (λ x. IsPart t pivots final (part (c.made q).keeps f.pair.leg f.pair.choice false) f.best.prices x × AreSearched t (part (c.made q).keeps f.pair.leg f.pair.choice false) x) (ap (λ (s : Subproblem). tree_of_state s.state) second_is ∙ sym box.no_is)
      (state_part t pivots final _ f.best.prices (at all (suc l)).state (part_right (suc l) false (omega (arith, total_is)) second_origin (omega arith)))

  -- ---- the one that they are parts of
  its_fraction : IsFractional t (c.made q).keeps f
  its_fraction = subst (λ s. IsRightState t pivots final (c.made q).keeps (prices_above t c.made (at all q).origin) s) state_parent (are.right q (omega (arith, inside, total_is)))

  right_parent : IsRightAt t pivots final after c q
  right_parent =
      subst (λ s. IsRightState t pivots final (c.made q).keeps (prices_above t c.made (at after q).origin) s) (sym state_whole)
      (split_part t pivots final (c.made q).keeps _ f.pair f.best box.yes_box box.no_box its_fraction.split first_tree.0 second_tree.0, (its_fraction.split.searched, first_tree.1, second_tree.1))

  gathered_parent : gathered_at (c.made q).keeps (at after q).state ≡ gathered_at (c.made q).keeps (at all q).state ++ (gathered_at (c.made l).keeps (at all l).state ++ gathered_at (c.made (suc l)).keeps (at all (suc l)).state)
  gathered_parent =
      let keeps : Domains = (c.made q).keeps in
      let one : gathered_at (c.made l).keeps (at all l).state ≡ worked_in (part keeps f.pair.leg f.pair.choice true) box.yes_box.value =
      part_gathered l true (omega (arith, total_is)) first_origin (omega arith) ∙ ap (worked_in (part keeps f.pair.leg f.pair.choice true)) (sym box.yes_is) in
      let two : gathered_at (c.made (suc l)).keeps (at all (suc l)).state ≡ worked_in (part keeps f.pair.leg f.pair.choice false) box.no_box.value =
      part_gathered (suc l) false (omega (arith, total_is)) second_origin (omega arith) ∙ ap (λ (s : Subproblem). worked_in (part keeps f.pair.leg f.pair.choice false) (tree_of_state s.state)) second_is ∙ ap (worked_in (part keeps f.pair.leg f.pair.choice false)) (sym box.no_is) in
      let own : Worked = record { keeps = keeps; node = node_of (state.Split f) } in
      ap (gathered_at keeps) state_whole
      ∙ ap (λ ws. own ∷ ws) (map-append worked_at (nodes_in (part keeps f.pair.leg f.pair.choice true) box.yes_box.value) (nodes_in (part keeps f.pair.leg f.pair.choice false) box.no_box.value))
      ∙ sym (ap (λ g. g ++ (gathered_at (c.made l).keeps (at all l).state ++ gathered_at (c.made (suc l)).keeps (at all (suc l)).state)) (ap (gathered_at keeps) state_parent) ∙ ap (λ ws. own ∷ (ws ++ gathered_at (c.made (suc l)).keeps (at all (suc l)).state)) one ∙ ap (λ ws. own ∷ (worked_in (part keeps f.pair.leg f.pair.choice true) box.yes_box.value ++ ws)) two)

  same_after : IsPermutation (list_below c.made total) (gathered c.made after l)
  same_after =
      let more : List Worked = gathered_at (c.made l).keeps (at all l).state ++ gathered_at (c.made (suc l)).keeps (at all (suc l)).state in
      IsPermutation-trans _ _ _ (subst (IsPermutation (list_below c.made total)) (ap (gathered c.made all) total_is ∙ gathered_two c.made all l) are.same) (gathered_more c.made all after q l more stays gathered_parent l inside (omega arith))

  pub gathered_after : AreGathered t root pivots final total c after
  gathered_after = record {
    numbered = λ k less.
        let old = are.numbered k (omega (arith, less, total_is)) in
        record {
          linked = links all rest last origin c.parts all_is from_is own_links tree_of_state after is k less;
          node = elim (cases_eq k q) [
            | inl same ↦ subst (λ j. (c.made j).node ≡ node_of (at after j).state) (sym same) (node_parent ∙ sym (ap node_of state_whole))
            | inr other ↦ old.node ∙ sym (ap (λ (s : Subproblem). node_of s.state) (stays k less other))
          ];
          keeps = subst (λ o. KeepsBy t root c.made k o) (sym (origin_stays k less)) old.keeps;
          allowed = old.allowed;
        };
    right = λ k less. elim (cases_eq k q) [
      | inl same ↦ subst (λ j. IsRightAt t pivots final after c j) (sym same) right_parent
      | inr other ↦ subst (λ (s : Subproblem). IsRightState t pivots final (c.made k).keeps (prices_above t c.made s.origin) s.state) (sym (stays k less other)) (are.right k (omega (arith, less, total_is)))
    ];
    same = same_after;
  }

-- ---- the first of all
pub first_of_all : (t : Tables) (root : Domains) (pivots : Option ℕ) (final : Option ℤ) (total : ℕ) (c : Chronicle) (all rest : List Subproblem) (last : Subproblem) (whole : Tree) → all ≡ rest ++ last ∷ [] → last.origin ≡ None → whole ≡ tree_of_state last.state
    → AreGathered t root pivots final total c all → IsGrownTree t root pivots final total c whole
first_of_all t root pivots final total c all rest last whole all_is from_is whole_is are =
    let long : length all ≡ suc (length rest) = omega (arith, ap length all_is, length-append rest (last ∷ [])) in
    let at_end : at all (length rest) ≡ last = ap (λ xs. at xs (length rest)) all_is ∙ get_or_push rest last no_subproblem (length rest) refl in
    let below : length rest < length all = omega (arith, long) in
    let none : length rest ≡ 0 = subst (λ o. IsFrom all c.parts (length rest) o) (ap (λ (s : Subproblem). s.origin) at_end ∙ from_is) (are.numbered (length rest) below).linked.from in
    let one : length all ≡ 1 = omega (arith, long, none) in
    let here : at all 0 ≡ last = ap (λ k. at all k) (sym none) ∙ at_end in
    let some : 0 < length all = omega (arith, one) in
    let root_is : (c.made 0).keeps ≡ root = subst (λ o. KeepsBy t root c.made 0 o) (ap (λ (s : Subproblem). s.origin) here ∙ from_is) (are.numbered 0 some).keeps in
    let is_right : IsRightState t pivots final root (zero_prices t) last.state =
    subst (λ d. IsRightState t pivots final d (zero_prices t) last.state) root_is
    (subst (λ o. IsRightState t pivots final (c.made 0).keeps (prices_above t c.made o) last.state) from_is (subst (λ (s : Subproblem). IsRightState t pivots final (c.made 0).keeps (prices_above t c.made s.origin) s.state) here (are.right 0 some))) in
    let tree_is = state_part t pivots final root (zero_prices t) last.state is_right in
    record {
      part = subst (IsPart t pivots final root (zero_prices t)) (sym whole_is) tree_is.0;
      searched = subst (AreSearched t root) (sym whole_is) tree_is.1;
      all = subst (IsPermutation (list_below c.made total))
          (ap (gathered c.made all) one ∙ gathered_one c.made all ∙ ap (λ (s : Subproblem). gathered_at (c.made 0).keeps s.state) here ∙ ap (λ d. gathered_at d last.state) root_is
          ∙ gathered_tree root last.state (not_split last.state (subst (λ (s : Subproblem). HasItsParts all c.parts 0 s.state) here (are.numbered 0 some).linked.own) one) ∙ ap (worked_in root) (sym whole_is))
          are.same;
    }
  where
    not_split : (s : State) → HasItsParts all c.parts 0 s → length all ≡ 1 → ¬ (IsSplitState s)
    not_split (state.Leaf leaf) own one split = split
    not_split (state.Stopped s) own one split = split
    not_split (state.Waiting f) own one split = split
    not_split (state.Split f) own one split = absurd (omega (arith, own.within, one))
