-- What is asked of a tree by another number of aircraft has one answer at most, and so has what is asked of all trees of its nodes.
use Rattle.std.proofs.Common.{◌≡◌, ℕ, suc, ◌+◌, List, [], ◌∷◌, ◌++◌, All, length, Option, Some, None, ℤ, refl, sym, ◌∙◌, ap, subst}
use Rattle.std.specs.List.{AllZip}
use Rattle.std.proofs.lemmas.List.Elements.{All-head, All-tail, All-weaker}
use Rattle.fleet_model.specs.Kept.{all_pairs}
use Rattle.fleet_model.specs.OtherSizes.{IsOtherSize}
use Rattle.fleet_model.specs.declared.tables.Tables.{Tables}
use Rattle.fleet_model.proofs.OtherSizes.{all_pairs_same, sole_same}
use Rattle.dual_bound.specs.Leaves.{held_count}
use Rattle.dual_bound.specs.Nodes.{nodes_of}
use Rattle.dual_bound.specs.declared.trees.Tree.{Tree}
use Rattle.cert_check.specs.Nodes.{Node, nodes_in}
use Rattle.cert_check.specs.OtherSizes.{IsAskedOfTree, IsFallenAt, Stands, StandsWith, answer_of}
use Rattle.cert_check.specs.Rules.{IsSoundBut}
use Rattle.cert_check.specs.Splits.{AreSoundButPriced}
use Rattle.cert_check.specs.declared.rules.Rule.TheVariants as rule
use Rattle.cert_check.specs.declared.what_if.WhatIf.{WhatIf}
use Rattle.cert_check.specs.declared.what_if.WhatIf.TheVariants as what
use Rattle.cert_check.proofs.OneVerdict.{IsSingle, bound_once}
use Rattle.cert_check.proofs.OtherSizes.{sole_of}
use Rattle.cert_check.proofs.SameTrees.{Same, SameNode, all_same, bound_too, same_by_nodes, same_keeps, same_node_back, same_nodes}
use Rattle.cert_check.proofs.Walks.{second_all}

module _ (u : Tables) where
  stands_too : (n m : Node) → SameNode u None n m → Stands u n → Stands u m
  stands_too n m same stands = same_keeps u None n m same rule.Refuted stands

  -- ---- one first node that has fallen
  one_place : (front past back behind : List Node) (n m : Node) → AllZip (SameNode u None) (front ++ n ∷ past) (back ++ m ∷ behind)
      → All (Stands u) front → All (Stands u) back → ¬ (Stands u n) → ¬ (Stands u m) → length front ≡ length back
  one_place [] past [] behind n m same stand good x y = refl
  one_place [] past (k ∷ back) behind n m same stand good x y = absurd (x (stands_too k n (same_node_back u None n k same.0) (All-head (Stands u) k back good)))
  one_place (k ∷ front) past [] behind n m same stand good x y = absurd (y (stands_too k m same.0 (All-head (Stands u) k front stand)))
  one_place (k ∷ front) past (j ∷ back) behind n m same stand good x y =
      ap suc (one_place front past back behind n m same.1 (All-tail (Stands u) k front stand) (All-tail (Stands u) j back good) x y)

  one_fallen : (ns ms : List Node) (number one two : ℕ) → AllZip (SameNode u None) ns ms → IsFallenAt u ns number one → IsFallenAt u ms number two → one ≡ two
  one_fallen ns ms number one two same x y =
      let first = x.first in
      let second = y.first in
      let places = one_place first.before first.after second.before second.after first.node second.node (rw (first.order, second.order) at same) first.stand second.stand first.fallen second.fallen in
      x.found_is ∙ ap (λ place. held_count (number + place)) (first.there ∙ places ∙ sym second.there) ∙ sym y.found_is

  none_fallen : (ns : List Node) (number found : ℕ) → All (Stands u) ns → ¬ (IsFallenAt u ns number found)
  none_fallen ns number found stand fallen =
      let first = fallen.first in
      first.fallen (All-head (Stands u) first.node first.after (second_all (Stands u) first.before (first.node ∷ first.after) (subst (All (Stands u)) first.order stand)))

  -- ---- one answer
  module _ (x y : Tree) (same : Same x y) (back : Same y x) (single : All (IsSingle u) (nodes_in (all_pairs u) y)) where
    one_standing : (b c : Option ℤ) → StandsWith u x b → StandsWith u y c → answer_of b ≡ answer_of c
    one_standing b c first second = ap answer_of (bound_once u (all_pairs u) y b c single (bound_too u (all_pairs u) x y b same first.bounded) second.bounded)

    falls_not : (found : ℕ) (c : Option ℤ) → IsFallenAt u (nodes_in (all_pairs u) x) 1 found → ¬ (StandsWith u y c)
    falls_not found c fallen stands =
        none_fallen (nodes_in (all_pairs u) x) 1 found (all_same u None (Stands u) stands_too (nodes_in (all_pairs u) y) (nodes_in (all_pairs u) x) (same_nodes u None (all_pairs u) y x back) stands.stand) fallen

    stands_not : (b : Option ℤ) (found : ℕ) → StandsWith u x b → ¬ (IsFallenAt u (nodes_in (all_pairs u) y) 1 found)
    stands_not b found stands =
        none_fallen (nodes_in (all_pairs u) y) 1 found (all_same u None (Stands u) stands_too (nodes_in (all_pairs u) x) (nodes_in (all_pairs u) y) (same_nodes u None (all_pairs u) x y same) stands.stand)

    by_answer : (a b : WhatIf) → IsAskedOfTree u x a → IsAskedOfTree u y b → a ≡ b
    by_answer (what.Fallen n) (what.Fallen m) first second = ap what.Fallen (one_fallen (nodes_in (all_pairs u) x) (nodes_in (all_pairs u) y) 1 n m (same_nodes u None (all_pairs u) x y same) first second)
    by_answer (what.Fallen n) what.NoPlan first second = absurd (falls_not n None first second)
    by_answer (what.Fallen n) (what.Bound least) first second = absurd (falls_not n (Some least) first second)
    by_answer what.NoPlan (what.Fallen m) first second = absurd (stands_not None m first second)
    by_answer what.NoPlan what.NoPlan first second = refl
    by_answer what.NoPlan (what.Bound least) first second = one_standing None (Some least) first second
    by_answer (what.Bound most) (what.Fallen m) first second = absurd (stands_not (Some most) m first second)
    by_answer (what.Bound most) what.NoPlan first second = one_standing (Some most) None first second
    by_answer (what.Bound most) (what.Bound least) first second = one_standing (Some most) (Some least) first second

-- on tables of another size of those on which the tree was judged
pub one_asked : (t : Tables) (fleet count : ℕ) (u : Tables) → IsOtherSize t fleet count u → (x y : Tree) (a b : WhatIf) → nodes_of x ≡ nodes_of y → AreSoundButPriced t (all_pairs t) y
    → IsAskedOfTree u x a → IsAskedOfTree u y b → a ≡ b
one_asked t fleet count u is x y a b e sound first second = by_answer u x y (same_by_nodes x y e) (same_by_nodes y x (sym e)) single a b first second
  where
    single_there : (one : Node) → IsSoundBut t None rule.Priced one → IsSingle u one
    single_there one good = record { scale = good.each rule.Scale (λ p. cc); sole = λ s. sole_same t fleet count u is one.keeps (sole_of t one.keeps one.tree s good) }

    single : All (IsSingle u) (nodes_in (all_pairs u) y)
    single = All-weaker (IsSoundBut t None rule.Priced) (IsSingle u) single_there (nodes_in (all_pairs u) y)
        (subst (λ keeps. All (IsSoundBut t None rule.Priced) (nodes_in keeps y)) (sym (all_pairs_same t fleet count u is)) sound.each)
