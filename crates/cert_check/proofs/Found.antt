-- What the walk finds by each visitor is what its caller answers.
use Rattle.std.proofs.Common.{◌≡◌, ℕ, ◌+◌, ◌<◌, ◌^◌, Bool, true, false, Option, Some, None, ℤ, refl, sym, ◌∙◌, subst, arith}
use Rattle.std.specs.Prelude.{IsSomeAnd, ⊤}
use Rattle.fleet_model.specs.Kept.{Domains, all_pairs}
use Rattle.fleet_model.specs.OtherSizes.{IsOtherSize}
use Rattle.fleet_model.specs.declared.sizes.Sizes.TheVariants as sizes
use Rattle.fleet_model.specs.declared.tables.Tables.{Tables}
use Rattle.fleet_model.proofs.OtherSizes.{all_pairs_same}
use Rattle.dual_bound.specs.Leaves.{held_count}
use Rattle.dual_bound.specs.declared.trees.Tree.{Tree}
use Rattle.cert_check.specs.Nodes.{Node, nodes_in, nodes_of_tree}
use Rattle.cert_check.specs.OtherSizes.{IsAskedOfTree, IsFallenAt, IsProofOf, Stands, StandsWith, answer_of}
use Rattle.cert_check.specs.Rules.{IsFirstBrokenRule, IsSound, rule_number}
use Rattle.cert_check.specs.Splits.{IsFirstSplitAbove, IsNoneAbove, IsSplitAbove, NoSplitIsAbove}
use Rattle.cert_check.specs.Verdicts.{BoundsAll, HoldsWith, IsChecked, IsProof}
use Rattle.cert_check.specs.Visitors.{IsAskedOn, IsJudged, IsSized, IsSought}
use Rattle.cert_check.specs.Walking.{AreWalked, IsOwnBound}
use Rattle.cert_check.specs.declared.checked.Checked.{Checked}
use Rattle.cert_check.specs.declared.checked.Checked.TheVariants as checked
use Rattle.cert_check.specs.declared.reached.Reached.{Reached}
use Rattle.cert_check.specs.declared.rules.Rule.{Rule}
use Rattle.cert_check.proofs.Visits.{IsFirst, all_good, first_bad, found_too, from_nothing, in_same}

-- a walk that begins with the first node of all
begins : (number : ℕ) → number ≡ 1 → number < 2 ^ 64
begins number first = omega (arith, first)

-- ---- whether all rules are kept
module _ (t : Tables) (cost : Option ℤ) (keeps : Domains) (whole : Tree) (before after : Reached) (e : keeps ≡ all_pairs t) (first : before.number ≡ 1) (none : before.bound ≡ None) where
  abbrev Judged : Bool → Type 0
  Judged ended = AreWalked (IsJudged t cost) (nodes_in keeps whole) before after ended

  over_all : (ended : Bool) → Judged ended → AreWalked (IsJudged t cost) (nodes_of_tree t whole) before after ended
  over_all ended judged = in_same (IsJudged t cost) keeps (all_pairs t) whole before after ended e judged

  pub holds_with : Judged false → HoldsWith t cost whole after.bound
  holds_with judged = record {
    sound = all_good (IsSound t cost) (λ n. IsOwnBound t n.keeps n.tree) (λ n reached. IsSomeAnd reached.rule (IsFirstBrokenRule t cost n)) (nodes_of_tree t whole) before after (over_all false judged);
    bounded = from_nothing t (IsJudged t cost) (λ one b a passed. passed.bounded) (all_pairs t) whole before after none (over_all false judged);
  }

  abbrev IsBroken : Node → Reached → Type 0
  IsBroken one reached = IsSomeAnd reached.rule (IsFirstBrokenRule t cost one)

  first_broken : Judged true → IsFirst (IsSound t cost) IsBroken (nodes_of_tree t whole) before.number after
  first_broken judged = first_bad (IsSound t cost) (λ n. IsOwnBound t n.keeps n.tree) IsBroken (nodes_of_tree t whole) before after (begins before.number first) (over_all true judged)

  by_rule : IsFirst (IsSound t cost) IsBroken (nodes_of_tree t whole) before.number after → (answer : Checked) (o : Option Rule) → ((one : Node) → IsBroken one after → IsSomeAnd o (IsFirstBrokenRule t cost one))
      → IsSomeAnd o (λ r. answer ≡ checked.Broken after.number (rule_number r)) → IsChecked t cost whole answer
  by_rule is answer None fault said = absurd said
  by_rule is answer (Some r) fault said =
      subst (IsChecked t cost whole) (sym said)
      (record {
        place = is.place;
        rule = r;
        first = record { before = is.front; node = is.node; after = is.back; order = is.order; sound = is.good; there = is.there; fault = fault is.node is.bad };
        node_is = subst (λ n. after.number ≡ held_count (n + is.place)) first is.found_is;
        rule_is = refl;
      })

  pub breaks_at : Judged true → (answer : Checked) → IsSomeAnd after.rule (λ r. answer ≡ checked.Broken after.number (rule_number r)) → IsChecked t cost whole answer
  breaks_at judged answer said = by_rule (first_broken judged) answer after.rule (λ one broken. broken) said

  pub some_rule : Judged true → IsSomeAnd after.rule (λ r. ⊤)
  some_rule judged = there after.rule (first_broken judged).node (first_broken judged).bad
    where
      there : (o : Option Rule) (one : Node) → IsSomeAnd o (IsFirstBrokenRule t cost one) → IsSomeAnd o (λ r. ⊤)
      there None one fault = absurd fault
      there (Some r) one fault = tt

-- .. where one is broken, nothing is proved
pub proves_nothing : (t : Tables) (o : Option Rule) (answer : Checked) (number : ℕ) → IsSomeAnd o (λ r. answer ≡ checked.Broken number (rule_number r)) → IsProof t answer
proves_nothing t None answer number said = absurd said
proves_nothing t (Some r) answer number said = subst (IsProof t) (sym said) tt

-- ---- whether a tree stands on other tables
module _ (t : Tables) (fleet count : ℕ) (u : Tables) (same : IsOtherSize t fleet count u) (keeps : Domains) (whole : Tree) (before after : Reached) (e : keeps ≡ all_pairs t) (first : before.number ≡ 1) (none : before.bound ≡ None) where
  abbrev Sized : Bool → Type 0
  Sized ended = AreWalked (IsSized t (sizes.Other fleet count)) (nodes_in keeps whole) before after ended

  on_these : (ended : Bool) → Sized ended → AreWalked (IsAskedOn u) (nodes_of_tree u whole) before after ended
  on_these ended sized =
      found_too (IsSized t (sizes.Other fleet count)) (IsAskedOn u) (λ one b a end found. found u same) (nodes_of_tree u whole) before after ended
      (in_same (IsSized t (sizes.Other fleet count)) keeps (all_pairs u) whole before after ended (e ∙ sym (all_pairs_same t fleet count u same)) sized)

  pub falls_at : Sized true → IsFallenAt u (nodes_of_tree u whole) 1 after.number
  falls_at sized =
      let is = first_bad (Stands u) (λ n. IsOwnBound u n.keeps n.tree) (λ n r. ¬ (Stands u n)) (nodes_of_tree u whole) before after (begins before.number first) (on_these true sized) in
      record {
        place = is.place;
        first = record { before = is.front; node = is.node; after = is.back; order = is.order; stand = is.good; there = is.there; fallen = is.bad };
        found_is = subst (λ n. after.number ≡ held_count (n + is.place)) first is.found_is;
      }

  pub stands_with : Sized false → StandsWith u whole after.bound
  stands_with sized = record {
    stand = all_good (Stands u) (λ n. IsOwnBound u n.keeps n.tree) (λ n r. ¬ (Stands u n)) (nodes_of_tree u whole) before after (on_these false sized);
    bounded = from_nothing u (IsAskedOn u) (λ one b a passed. passed.bounded) (all_pairs u) whole before after none (on_these false sized);
  }

pub answered : (u : Tables) (whole : Tree) (bound : Option ℤ) → StandsWith u whole bound → IsAskedOfTree u whole (answer_of bound)
answered u whole None stands = stands
answered u whole (Some bound) stands = stands

pub answer_proves : (u : Tables) (bound : Option ℤ) → BoundsAll u bound → IsProofOf u (answer_of bound)
answer_proves u None bounds = bounds
answer_proves u (Some bound) bounds = bounds

-- ---- whether a split is above a cost
module _ (t : Tables) (cost : ℤ) (keeps : Domains) (whole : Tree) (before after : Reached) (e : keeps ≡ all_pairs t) (first : before.number ≡ 1) where
  abbrev Sought : Bool → Type 0
  Sought ended = AreWalked (IsSought t cost) (nodes_in keeps whole) before after ended

  in_all : (ended : Bool) → Sought ended → AreWalked (IsSought t cost) (nodes_of_tree t whole) before after ended
  in_all ended sought = in_same (IsSought t cost) keeps (all_pairs t) whole before after ended e sought

  pub above_at : Sought true → IsFirstSplitAbove t cost whole after.number
  above_at sought =
      let is = first_bad (IsNoneAbove t cost) (λ n bound. bound ≡ None) (λ n r. IsSplitAbove t cost n) (nodes_of_tree t whole) before after (begins before.number first) (in_all true sought) in
      record {
        place = is.place;
        first = record { before = is.front; node = is.node; after = is.back; order = is.order; none = is.good; there = is.there; above = is.bad };
        found_is = subst (λ n. after.number ≡ held_count (n + is.place)) first is.found_is;
      }

  pub none_above : Sought false → NoSplitIsAbove t cost whole
  none_above sought = all_good (IsNoneAbove t cost) (λ n bound. bound ≡ None) (λ n r. IsSplitAbove t cost n) (nodes_of_tree t whole) before after (in_all false sought)
