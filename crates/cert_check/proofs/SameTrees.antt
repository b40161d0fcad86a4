-- Trees of the same nodes, which differ at most in where their children stand in memory, and what is said of both.
use Rattle.std.proofs.Common.{◌≡◌, true, false, List, [], ◌∷◌, ◌++◌, Option, append_assoc, ℤ, refl, sym, ◌∙◌, ap, subst, inl, inr}
use Rattle.std.specs.Prelude.{All, ⊤}
use Rattle.std.specs.List.{AllZip}
use Rattle.std.proofs.lemmas.List.Elements.{All-cons, All-head, All-tail}
use Rattle.fleet_model.specs.Kept.{Domains}
use Rattle.fleet_model.specs.declared.tables.Tables.{Tables}
use Rattle.dual_bound.specs.Bound.{IsBoundIn, part}
use Rattle.dual_bound.specs.Nodes.{nodes_of}
use Rattle.dual_bound.specs.declared.nodes.Node.{Node as Line}
use Rattle.dual_bound.specs.declared.trees.Tree.{Tree}
use Rattle.dual_bound.specs.declared.trees.Tree.TheVariants as tree
use Rattle.cert_check.specs.Nodes.{Node, nodes_in}
use Rattle.cert_check.specs.Rules.{EndsAtOnce, IsSound, Keeps}
use Rattle.cert_check.specs.Verdicts.{AreSound}
use Rattle.cert_check.specs.declared.rules.Rule.{Rule}
use Rattle.cert_check.specs.declared.rules.Rule.TheVariants as rule
use Rattle.cert_check.proofs.Walks.{node}

-- the same nodes, and the same below them
abbrev pub Same : Tree → Tree → Type 0
Same (tree.Bare leg) (tree.Bare other) = leg ≡ other
Same tree.Sole tree.Sole = ⊤
Same (tree.Refuted prices) (tree.Refuted others) = prices ≡ others
Same (tree.Priced prices) (tree.Priced others) = prices ≡ others
Same (tree.Open prices why) (tree.Open others because) = (prices ≡ others) × (why ≡ because)
Same (tree.Trim' leg choice p with_pair q without) (tree.Trim' leg' choice' p' with_pair' q' without') =
    (leg ≡ leg') × (choice ≡ choice') × Same with_pair with_pair' × Same without without'
Same (tree.Split' leg choice prices mixed p with_pair q without) (tree.Split' leg' choice' prices' mixed' p' with_pair' q' without') =
    (leg ≡ leg') × (choice ≡ choice') × (prices ≡ prices') × (mixed ≡ mixed') × Same with_pair with_pair' × Same without without'
Same _ _ = ⊥

-- trees of one list of nodes are the same, and so is what follows
same_from : (x y : Tree) (r s : List Line) → nodes_of x ++ r ≡ nodes_of y ++ s → Same x y × (r ≡ s)
same_from (tree.Bare leg) (tree.Bare other) r s e = (cc, cc)
same_from tree.Sole tree.Sole r s e = (tt, cc)
same_from (tree.Refuted prices) (tree.Refuted others) r s e = (cc, cc)
same_from (tree.Priced prices) (tree.Priced others) r s e = (cc, cc)
same_from (tree.Open prices why) (tree.Open others because) r s e = ((cc, cc), cc)
same_from (tree.Trim' leg choice p with_pair q without) (tree.Trim' leg' choice' p' with_pair' q' without') r s e =
    let below : (nodes_of with_pair ++ nodes_of without) ++ r ≡ (nodes_of with_pair' ++ nodes_of without') ++ s = cc in
    let first = same_from with_pair with_pair' (nodes_of without ++ r) (nodes_of without' ++ s)
    (sym (append_assoc (nodes_of with_pair) (nodes_of without) r) ∙ below ∙ append_assoc (nodes_of with_pair') (nodes_of without') s) in
    let second = same_from without without' r s first.1 in
    ((cc, cc, first.0, second.0), second.1)
same_from (tree.Split' leg choice prices mixed p with_pair q without) (tree.Split' leg' choice' prices' mixed' p' with_pair' q' without') r s e =
    let below : (nodes_of with_pair ++ nodes_of without) ++ r ≡ (nodes_of with_pair' ++ nodes_of without') ++ s = cc in
    let first = same_from with_pair with_pair' (nodes_of without ++ r) (nodes_of without' ++ s)
    (sym (append_assoc (nodes_of with_pair) (nodes_of without) r) ∙ below ∙ append_assoc (nodes_of with_pair') (nodes_of without') s) in
    let second = same_from without without' r s first.1 in
    ((cc, cc, cc, cc, first.0, second.0), second.1)
same_from _ _ r s e = absurd (let bad : ⊥ = cc in bad)

pub same_by_nodes : (x y : Tree) → nodes_of x ≡ nodes_of y → Same x y
same_by_nodes x y e = (same_from x y [] [] (ap (λ nodes. nodes ++ []) e)).0

-- the other way round
same_back : (x y : Tree) → Same x y → Same y x
same_back (tree.Bare leg) (tree.Bare other) same = sym same
same_back tree.Sole tree.Sole same = tt
same_back (tree.Refuted prices) (tree.Refuted others) same = sym same
same_back (tree.Priced prices) (tree.Priced others) same = sym same
same_back (tree.Open prices why) (tree.Open others because) same = (sym same.0, sym same.1)
same_back (tree.Trim' leg choice p with_pair q without) (tree.Trim' leg' choice' p' with_pair' q' without') same =
    (sym same.0, sym same.1, same_back with_pair with_pair' same.2, same_back without without' same.3)
same_back (tree.Split' leg choice prices mixed p with_pair q without) (tree.Split' leg' choice' prices' mixed' p' with_pair' q' without') same =
    (sym same.0, sym same.1, sym same.2, sym same.3, same_back with_pair with_pair' same.4, same_back without without' same.5)
same_back _ _ same = absurd same

-- a child that ends at once
ends_too : (t : Tables) (keeps : Domains) (x y : Tree) → Same x y → EndsAtOnce t keeps x → EndsAtOnce t keeps y
ends_too t keeps (tree.Bare leg) (tree.Bare other) same ends = tt
ends_too t keeps tree.Sole tree.Sole same ends = ends
ends_too t keeps (tree.Refuted prices) (tree.Refuted others) same ends = tt
ends_too t keeps (tree.Priced prices) (tree.Priced others) same ends = tt
ends_too t keeps (tree.Open prices why) (tree.Open others because) same ends = absurd ends
ends_too t keeps (tree.Trim' leg choice p with_pair q without) (tree.Trim' leg' choice' p' with_pair' q' without') same ends = absurd ends
ends_too t keeps (tree.Split' leg choice prices mixed p with_pair q without) (tree.Split' leg' choice' prices' mixed' p' with_pair' q' without') same ends = absurd ends
ends_too t keeps _ _ same ends = absurd same

module _ (t : Tables) (cost : Option ℤ) where
  -- a node and the same one elsewhere
  keeps_too : (keeps : Domains) (x y : Tree) → Same x y → (one : Rule) → Keeps t cost (node keeps x) one → Keeps t cost (node keeps y) one
  keeps_too keeps (tree.Bare leg) (tree.Bare other) same one kept = subst (λ l. Keeps t cost (node keeps (tree.Bare l)) one) same kept
  keeps_too keeps tree.Sole tree.Sole same one kept = kept
  keeps_too keeps (tree.Refuted prices) (tree.Refuted others) same one kept = subst (λ p. Keeps t cost (node keeps (tree.Refuted p)) one) same kept
  keeps_too keeps (tree.Priced prices) (tree.Priced others) same one kept = subst (λ p. Keeps t cost (node keeps (tree.Priced p)) one) same kept
  keeps_too keeps (tree.Open prices why) (tree.Open others because) same one kept =
      subst (λ w. Keeps t cost (node keeps (tree.Open others w)) one) same.1 (subst (λ p. Keeps t cost (node keeps (tree.Open p why)) one) same.0 kept)
  keeps_too keeps (tree.Trim' leg choice p with_pair q without) (tree.Trim' leg' choice' p' with_pair' q' without') same rule.Parts kept =
      rw (← same.0, ← same.1) (
        kept.0,
        elim kept.1 [
          | inl ends ↦ inl (ends_too t (part keeps leg choice true) with_pair with_pair' same.2 ends)
          | inr ends ↦ inr (ends_too t (part keeps leg choice false) without without' same.3 ends)
        ],
      )
  keeps_too keeps (tree.Trim' leg choice p with_pair q without) (tree.Trim' leg' choice' p' with_pair' q' without') same other kept = tt
  keeps_too keeps (tree.Split' leg choice prices mixed p with_pair q without) (tree.Split' leg' choice' prices' mixed' p' with_pair' q' without') same rule.Scale kept = rw (← same.2) kept
  keeps_too keeps (tree.Split' leg choice prices mixed p with_pair q without) (tree.Split' leg' choice' prices' mixed' p' with_pair' q' without') same rule.Limits kept = rw (← same.2) kept
  keeps_too keeps (tree.Split' leg choice prices mixed p with_pair q without) (tree.Split' leg' choice' prices' mixed' p' with_pair' q' without') same rule.Fall kept = rw (← same.2) kept
  keeps_too keeps (tree.Split' leg choice prices mixed p with_pair q without) (tree.Split' leg' choice' prices' mixed' p' with_pair' q' without') same rule.Rent kept = rw (← same.2) kept
  keeps_too keeps (tree.Split' leg choice prices mixed p with_pair q without) (tree.Split' leg' choice' prices' mixed' p' with_pair' q' without') same rule.Pairs kept = kept
  keeps_too keeps (tree.Split' leg choice prices mixed p with_pair q without) (tree.Split' leg' choice' prices' mixed' p' with_pair' q' without') same rule.Refuted kept = tt
  keeps_too keeps (tree.Split' leg choice prices mixed p with_pair q without) (tree.Split' leg' choice' prices' mixed' p' with_pair' q' without') same rule.Priced kept = tt
  keeps_too keeps (tree.Split' leg choice prices mixed p with_pair q without) (tree.Split' leg' choice' prices' mixed' p' with_pair' q' without') same rule.Parts kept = rw (← same.0, ← same.1) kept
  keeps_too keeps (tree.Split' leg choice prices mixed p with_pair q without) (tree.Split' leg' choice' prices' mixed' p' with_pair' q' without') same rule.Mixed kept = rw (← same.3) kept
  keeps_too keeps (tree.Split' leg choice prices mixed p with_pair q without) (tree.Split' leg' choice' prices' mixed' p' with_pair' q' without') same rule.Fraction kept =
      rw (← same.0, ← same.1, ← same.2, ← same.3) kept
  keeps_too keeps _ _ same one kept = absurd same

  -- nodes of the same subproblem and of the same trees
  pub record SameNode (n m : Node) : Type 0 where
    pub keeps_are : n.keeps ≡ m.keeps
    pub trees_are : Same n.tree m.tree

  pub same_keeps : (n m : Node) → SameNode n m → (one : Rule) → Keeps t cost n one → Keeps t cost m one
  same_keeps n m same one kept =
      subst (λ k. Keeps t cost (node k m.tree) one) same.keeps_are (keeps_too n.keeps n.tree m.tree same.trees_are one kept)

  pub same_node_back : (n m : Node) → SameNode n m → SameNode m n
  same_node_back n m same = record { keeps_are = sym same.keeps_are; trees_are = same_back n.tree m.tree same.trees_are }

  pub same_sound : (n m : Node) → SameNode n m → IsSound t cost n → IsSound t cost m
  same_sound n m same sound = record { each = λ one. same_keeps n m same one (sound.each one) }

  -- what holds of a node and of the same one elsewhere
  pub all_same : (P : Node → Type 0) → ((n m : Node) → SameNode n m → P n → P m) → (ns ms : List Node) → AllZip SameNode ns ms → All P ns → All P ms
  all_same P too [] [] same all = all
  all_same P too [] (m ∷ ms) same all = absurd same
  all_same P too (n ∷ ns) [] same all = absurd same
  all_same P too (n ∷ ns) (m ∷ ms) same all = All-cons P m ms (too n m same.0 (All-head P n ns all)) (all_same P too ns ms same.1 (All-tail P n ns all))

  joined : (ns ms more others : List Node) → AllZip SameNode ns ms → AllZip SameNode more others → AllZip SameNode (ns ++ more) (ms ++ others)
  joined [] [] more others first second = second
  joined [] (m ∷ ms) more others first second = absurd first
  joined (n ∷ ns) [] more others first second = absurd first
  joined (n ∷ ns) (m ∷ ms) more others first second = (first.0, joined ns ms more others first.1 second)

  pub same_nodes : (keeps : Domains) (x y : Tree) → Same x y → AllZip SameNode (nodes_in keeps x) (nodes_in keeps y)
  same_nodes keeps (tree.Bare leg) (tree.Bare other) same = (record { keeps_are = refl; trees_are = same }, tt)
  same_nodes keeps tree.Sole tree.Sole same = (record { keeps_are = refl; trees_are = tt }, tt)
  same_nodes keeps (tree.Refuted prices) (tree.Refuted others) same = (record { keeps_are = refl; trees_are = same }, tt)
  same_nodes keeps (tree.Priced prices) (tree.Priced others) same = (record { keeps_are = refl; trees_are = same }, tt)
  same_nodes keeps (tree.Open prices why) (tree.Open others because) same = (record { keeps_are = refl; trees_are = same }, tt)
  same_nodes keeps (tree.Trim' leg choice p with_pair q without) (tree.Trim' leg' choice' p' with_pair' q' without') same = (
    record { keeps_are = refl; trees_are = same },
    rw (← same.0, ← same.1) (joined (nodes_in (part keeps leg choice true) with_pair) (nodes_in (part keeps leg choice true) with_pair')
        (nodes_in (part keeps leg choice false) without) (nodes_in (part keeps leg choice false) without')
        (same_nodes (part keeps leg choice true) with_pair with_pair' same.2) (same_nodes (part keeps leg choice false) without without' same.3)),
  )
  same_nodes keeps (tree.Split' leg choice prices mixed p with_pair q without) (tree.Split' leg' choice' prices' mixed' p' with_pair' q' without') same = (
    record { keeps_are = refl; trees_are = same },
    rw (← same.0, ← same.1) (joined (nodes_in (part keeps leg choice true) with_pair) (nodes_in (part keeps leg choice true) with_pair')
        (nodes_in (part keeps leg choice false) without) (nodes_in (part keeps leg choice false) without')
        (same_nodes (part keeps leg choice true) with_pair with_pair' same.4) (same_nodes (part keeps leg choice false) without without' same.5)),
  )
  same_nodes keeps _ _ same = absurd same

  pub sound_too : (keeps : Domains) (x y : Tree) → Same x y → AreSound t cost keeps x → AreSound t cost keeps y
  sound_too keeps x y same sound = all_same (IsSound t cost) same_sound (nodes_in keeps x) (nodes_in keeps y) (same_nodes keeps x y same) sound

-- the bound of a tree and of the same one elsewhere
pub bound_too : (t : Tables) (keeps : Domains) (x y : Tree) (bound : Option ℤ) → Same x y → IsBoundIn t keeps x bound → IsBoundIn t keeps y bound
bound_too t keeps (tree.Bare leg) (tree.Bare other) bound same is = is
bound_too t keeps tree.Sole tree.Sole bound same is = is
bound_too t keeps (tree.Refuted prices) (tree.Refuted others) bound same is = is
bound_too t keeps (tree.Priced prices) (tree.Priced others) bound same is = rw (← same) is
bound_too t keeps (tree.Open prices why) (tree.Open others because) bound same is = rw (← same.0) is
bound_too t keeps (tree.Trim' leg choice p with_pair q without) (tree.Trim' leg' choice' p' with_pair' q' without') bound same is = rw (← same.0, ← same.1) (record {
  with_pair = is.with_pair;
  without = is.without;
  yes_is = bound_too t (part keeps leg choice true) with_pair with_pair' is.with_pair same.2 is.yes_is;
  no_is = bound_too t (part keeps leg choice false) without without' is.without same.3 is.no_is;
  lesser = is.lesser;
})
bound_too t keeps (tree.Split' leg choice prices mixed p with_pair q without) (tree.Split' leg' choice' prices' mixed' p' with_pair' q' without') bound same is = rw (← same.0, ← same.1) (record {
  with_pair = is.with_pair;
  without = is.without;
  yes_is = bound_too t (part keeps leg choice true) with_pair with_pair' is.with_pair same.4 is.yes_is;
  no_is = bound_too t (part keeps leg choice false) without without' is.without same.5 is.no_is;
  lesser = is.lesser;
})
bound_too t keeps _ _ bound same is = absurd same
