-- What is found of nodes one after another is found of all that stand behind one another.
use Rattle.std.proofs.Common.{◌≡◌, ℕ, suc, ◌+◌, ◌<◌, ◌^◌, Bool, true, false, List, [], ◌∷◌, ◌++◌, All, length, Option, None, ℤ, refl, sym, ◌∙◌, ap, subst, inl, inr, arith}
use Rattle.std.proofs.lemmas.List.Elements.{All-cons, All-nil}
use Rattle.fleet_model.specs.Kept.{Domains}
use Rattle.fleet_model.specs.declared.parts.Pair.{Pair}
use Rattle.fleet_model.specs.declared.tables.Tables.{Tables}
use Rattle.dual_bound.specs.Bound.{IsBoundIn, IsLesserBound, lesser_bound, part}
use Rattle.dual_bound.specs.Leaves.{held_count}
use Rattle.dual_bound.specs.Parts.{ArePartsOf}
use Rattle.dual_bound.specs.declared.trees.Tree.{Tree}
use Rattle.dual_bound.specs.declared.trees.Tree.TheVariants as tree
use Rattle.cert_check.specs.Nodes.{Node, nodes_below, nodes_in}
use Rattle.cert_check.specs.Walking.{AreWalked, IsFoundOf, IsLesserSoFar, IsOwnBound, IsPassed}
use Rattle.cert_check.specs.declared.reached.Reached.{Reached}
use Rattle.cert_check.proofs.Walks.{from_none, have_parts, lesser_of_three, node}

-- ---- lists of nodes
-- no visit both ends and doesn't
never : {P : Type 0} → true ≡ false → P
never e = absurd (cc)

module _ (finds : Node → Reached → Reached → Bool → Type 0) where
  pub alone : (one : Node) (before after : Reached) (ended : Bool) → finds one before after ended → AreWalked finds (one ∷ []) before after ended
  alone one before after true found = inl (record { ends = refl; found = found })
  alone one before after false found = inr (record { between = after; passed = found; visited = (refl, refl) })

  pub in_first : (first second : List Node) (before after : Reached) → AreWalked finds first before after true → AreWalked finds (first ++ second) before after true
  in_first [] second before after is = never is.0
  in_first (one ∷ first) second before after (inl here) = inl (record { ends = here.ends; found = here.found })
  in_first (one ∷ first) second before after (inr on) = inr (record { between = on.between; passed = on.passed; visited = in_first first second on.between after on.visited })

  pub behind : (first second : List Node) (before mid after : Reached) (ended : Bool) → AreWalked finds first before mid false → AreWalked finds second mid after ended → AreWalked finds (first ++ second) before after ended
  behind [] second before mid after ended passed is = subst (λ r. AreWalked finds second r after ended) passed.1 is
  behind (one ∷ first) second before mid after ended (inl here) is = never (sym here.ends)
  behind (one ∷ first) second before mid after ended (inr on) is = inr (record { between = on.between; passed = on.passed; visited = behind first second on.between mid after ended on.visited is })

  pub apart : (first second : List Node) (before after : Reached) → AreWalked finds (first ++ second) before after false
      → (mid : Reached) × (AreWalked finds first before mid false × AreWalked finds second mid after false)
  apart [] second before after all = (before, ((refl, refl), all))
  apart (one ∷ first) second before after (inl here) = never (sym here.ends)
  apart (one ∷ first) second before after (inr on) =
      let rest = apart first second on.between after on.visited in
      (rest.0, (inr (record { between = on.between; passed = on.passed; visited = rest.1.0 }), rest.1.1))

-- ---- a tree
module _ (finds : Node → Reached → Reached → Bool → Type 0) (t : Tables) (keeps : Domains) (whole : Tree) where
  module _ (pair : Pair) (one other : Tree) (are : ArePartsOf whole pair one other) where
    of_whole : (before after : Reached) (ended : Bool) → AreWalked finds (node keeps whole ∷ nodes_below keeps pair one other) before after ended → AreWalked finds (nodes_in keeps whole) before after ended
    of_whole before after ended visited = subst (λ ns. AreWalked finds ns before after ended) (sym (have_parts t keeps whole pair one other are).order) visited

    pub ends_first : (before mid after : Reached) → finds (node keeps whole) before mid false → AreWalked finds (nodes_in (part keeps pair.leg pair.choice true) one) mid after true
        → AreWalked finds (nodes_in keeps whole) before after true
    ends_first before mid after passed visited =
        of_whole before after true (behind finds (node keeps whole ∷ []) _ before mid after true (alone finds (node keeps whole) before mid false passed) (in_first finds _ _ mid after visited))

    pub ends_second : (before mid next after : Reached) (ended : Bool) → finds (node keeps whole) before mid false → AreWalked finds (nodes_in (part keeps pair.leg pair.choice true) one) mid next false
        → AreWalked finds (nodes_in (part keeps pair.leg pair.choice false) other) next after ended → AreWalked finds (nodes_in keeps whole) before after ended
    ends_second before mid next after ended passed visited rest =
        of_whole before after ended (behind finds (node keeps whole ∷ []) _ before mid after ended (alone finds (node keeps whole) before mid false passed) (behind finds _ _ mid next after ended visited rest))

-- in a subproblem that keeps the same pairs
pub in_same : (finds : Node → Reached → Reached → Bool → Type 0) (keeps other : Domains) (child : Tree) (before after : Reached) (ended : Bool) → keeps ≡ other
    → AreWalked finds (nodes_in keeps child) before after ended → AreWalked finds (nodes_in other child) before after ended
in_same finds keeps other child before after ended same visited = subst (λ k. AreWalked finds (nodes_in k child) before after ended) same visited

-- what is found by one question of each node is found by another that follows
pub found_too : (finds other : Node → Reached → Reached → Bool → Type 0) → ((one : Node) (before after : Reached) (ended : Bool) → finds one before after ended → other one before after ended)
    → (nodes : List Node) (before after : Reached) (ended : Bool) → AreWalked finds nodes before after ended → AreWalked other nodes before after ended
found_too finds other follows [] before after ended is = is
found_too finds other follows (one ∷ nodes) before after ended (inl here) = inl (record { ends = here.ends; found = follows one before after true here.found })
found_too finds other follows (one ∷ nodes) before after ended (inr on) =
    inr (record { between = on.between; passed = follows one before on.between false on.passed; visited = found_too finds other follows nodes on.between after ended on.visited })

-- ---- nodes that are as asked, up to the first that isn't
-- the first that isn't, by its place and its number
pub record IsFirst (Good : Node → Type 0) (Bad : Node → Reached → Type 0) (nodes : List Node) (number : ℕ) (after : Reached) : Type 0 where
  pub place : ℕ
  pub front : List Node
  pub node : Node
  pub back : List Node
  pub order : nodes ≡ front ++ node ∷ back
  pub good : All Good front
  pub there : place ≡ length front
  pub bad : Bad node after
  pub found_is : after.number ≡ held_count (number + place)

module _ (Good : Node → Type 0) (Own : Node → Option ℤ → Type 0) (Bad : Node → Reached → Type 0) where
  abbrev pub Asked : Node → Reached → Reached → Bool → Type 0
  Asked one before after ended = IsFoundOf (Good one) (Own one) (Bad one after) before after ended

  pub all_good : (nodes : List Node) (before after : Reached) → AreWalked Asked nodes before after false → All Good nodes
  all_good [] before after is = All-nil Good
  all_good (one ∷ nodes) before after (inl here) = never (sym here.ends)
  all_good (one ∷ nodes) before after (inr on) = All-cons Good one nodes on.passed.is_good (all_good nodes on.between after on.visited)

  pub first_bad : (nodes : List Node) (before after : Reached) → before.number < 2 ^ 64 → AreWalked Asked nodes before after true → IsFirst Good Bad nodes before.number after
  first_bad [] before after few is = never is.0
  first_bad (one ∷ nodes) before after few (inl here) = record {
    place = 0;
    front = [];
    node = one;
    back = nodes;
    order = refl;
    good = All-nil Good;
    there = refl;
    bad = here.found.is_bad;
    found_is = omega (arith, few, here.found.there);
  }
  first_bad (one ∷ nodes) before after few (inr on) =
      let rest = first_bad nodes on.between after (omega (arith, on.passed.follows)) on.visited in
      record {
        place = suc rest.place;
        front = one ∷ rest.front;
        node = rest.node;
        back = rest.back;
        order = ap (λ ns. one ∷ ns) rest.order;
        good = All-cons Good one rest.front on.passed.is_good rest.good;
        there = ap suc rest.there;
        bad = rest.bad;
        found_is = omega (arith, rest.found_is, on.passed.follows);
      }

-- ---- the bound of a tree, where each of its nodes is passed with its own
module _ (u : Tables) (finds : Node → Reached → Reached → Bool → Type 0) (own : (one : Node) (before after : Reached) → finds one before after false → IsLesserSoFar before.bound (IsOwnBound u one.keeps one.tree) after.bound) where
  by_leaf : (one : Node) (before after : Reached) → AreWalked finds (one ∷ []) before after false → IsLesserSoFar before.bound (IsOwnBound u one.keeps one.tree) after.bound
  by_leaf one before after (inl here) = never (sym here.ends)
  by_leaf one before after (inr on) = subst (λ r. IsLesserSoFar before.bound (IsOwnBound u one.keeps one.tree) r.bound) (sym on.visited.1) (own one before on.between on.passed)

  of_two : (has other : Option ℤ → Type 0) (from before mid after : Option ℤ) → IsLesserSoFar from (λ bound. bound ≡ None) before → IsLesserSoFar before has mid → IsLesserSoFar mid other after
      → IsLesserSoFar from (IsLesserBound has other) after
  of_two has other from before mid after none first second = record {
    found = lesser_bound first.found second.found;
    is = record { with_pair = first.found; without = second.found; yes_is = first.is; no_is = second.is; lesser = refl };
    lesser = second.lesser ∙ ap (λ b. lesser_bound b second.found) (first.lesser ∙ ap (λ b. lesser_bound b first.found) (none.lesser ∙ ap (lesser_bound from) none.is)) ∙ lesser_of_three from first.found second.found;
  }

  pub bounded : (keeps : Domains) (whole : Tree) (before after : Reached) → AreWalked finds (nodes_in keeps whole) before after false → IsLesserSoFar before.bound (IsBoundIn u keeps whole) after.bound
  bounded keeps (tree.Bare leg) before after all = by_leaf (node keeps (tree.Bare leg)) before after all
  bounded keeps tree.Sole before after all = by_leaf (node keeps tree.Sole) before after all
  bounded keeps (tree.Refuted prices) before after all = by_leaf (node keeps (tree.Refuted prices)) before after all
  bounded keeps (tree.Priced prices) before after all = by_leaf (node keeps (tree.Priced prices)) before after all
  bounded keeps (tree.Open prices why) before after all = by_leaf (node keeps (tree.Open prices why)) before after all
  bounded keeps (tree.Trim' leg choice p with_pair q without) before after (inl here) = never (sym here.ends)
  bounded keeps (tree.Trim' leg choice p with_pair q without) before after (inr on) =
      let rest = apart finds (nodes_in (part keeps leg choice true) with_pair) (nodes_in (part keeps leg choice false) without) on.between after on.visited in
      of_two _ _ before.bound on.between.bound rest.0.bound after.bound (own _ before on.between on.passed) (bounded (part keeps leg choice true) with_pair on.between rest.0 rest.1.0)
      (bounded (part keeps leg choice false) without rest.0 after rest.1.1)
  bounded keeps (tree.Split' leg choice prices mixed p with_pair q without) before after (inl here) = never (sym here.ends)
  bounded keeps (tree.Split' leg choice prices mixed p with_pair q without) before after (inr on) =
      let rest = apart finds (nodes_in (part keeps leg choice true) with_pair) (nodes_in (part keeps leg choice false) without) on.between after on.visited in
      of_two _ _ before.bound on.between.bound rest.0.bound after.bound (own _ before on.between on.passed) (bounded (part keeps leg choice true) with_pair on.between rest.0 rest.1.0)
      (bounded (part keeps leg choice false) without rest.0 after rest.1.1)

  -- over a whole tree, with no bound so far
  pub from_nothing : (keeps : Domains) (whole : Tree) (before after : Reached) → before.bound ≡ None → AreWalked finds (nodes_in keeps whole) before after false → IsBoundIn u keeps whole after.bound
  from_nothing keeps whole before after none all =
      let here = bounded keeps whole before after all in
      subst (IsBoundIn u keeps whole) (sym (here.lesser ∙ ap (λ b. lesser_bound b here.found) none ∙ from_none here.found)) here.is

-- ---- a node that is passed
pub passed_by : (good : Type 0) (has : Option ℤ → Type 0) (before after : Reached) (own : Option ℤ) → good → has own → after.number ≡ held_count (before.number + 1) → after.bound ≡ lesser_bound before.bound own
    → IsPassed good has before after
passed_by good has before after own is_good is follows lesser = record { is_good = is_good; follows = follows; bounded = record { found = own; is = is; lesser = lesser } }
