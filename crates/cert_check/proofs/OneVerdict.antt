-- A tree has one verdict at most, and so have all trees of its nodes.
use Rattle.std.proofs.Common.{◌≡◌, ℕ, suc, ◌+◌, true, false, List, [], ◌∷◌, ◌++◌, length, Option, Some, None, IfSome, ℤ, refl, sym, ◌∙◌, ap, subst, inl, inr, arith}
use Rattle.std.specs.Prelude.{All}
use Rattle.std.specs.List.{AllZip}
use Rattle.std.proofs.lemmas.Bool.{cases_order}
use Rattle.std.proofs.lemmas.Int.{by_lt_z, ints}
use Rattle.std.proofs.lemmas.List.Elements.{All-head, All-tail, All-weaker}
use Rattle.frac_row.proofs.Ceilings.{same_ceiling}
use Rattle.fleet_model.specs.Kept.{Domains, IsKeptAssignment, IsSole, all_pairs}
use Rattle.fleet_model.specs.Legal.{IsLegal}
use Rattle.fleet_model.specs.declared.tables.Tables.{Tables}
use Rattle.dual_bound.specs.Bound.{IsBoundIn, IsLesserBound, IsPriceBound, IsSoleBound, part}
use Rattle.dual_bound.specs.Leaves.{held_count}
use Rattle.dual_bound.specs.Nodes.{nodes_of}
use Rattle.dual_bound.specs.declared.prices.Prices.{Prices}
use Rattle.dual_bound.specs.declared.trees.Tree.{Tree}
use Rattle.dual_bound.specs.declared.trees.Tree.TheVariants as tree
use Rattle.cert_check.specs.Nodes.{Node, nodes_in, prices_at}
use Rattle.dual_bound.specs.Prices.{IsScale}
use Rattle.cert_check.specs.Rules.{HasScale, IsFirstBroken, IsFirstBrokenRule, IsSound, rule_number}
use Rattle.cert_check.specs.Verdicts.{AreSound, BreaksAt, HoldsWith, IsChecked}
use Rattle.cert_check.specs.declared.checked.Checked.{Checked}
use Rattle.cert_check.specs.declared.checked.Checked.TheVariants as checked
use Rattle.cert_check.specs.declared.rules.Rule.{Rule}
use Rattle.cert_check.specs.declared.rules.Rule.TheVariants as rule
use Rattle.cert_check.proofs.SameTrees.{Same, SameNode, bound_too, same_by_nodes, same_keeps, same_node_back, same_nodes, same_sound, sound_too}
use Rattle.cert_check.proofs.SoleAssignments.{sole_has_one}
use Rattle.cert_check.proofs.Walks.{first_all, node, second_all}

-- ---- one bound

-- numbers that are not two are one
not_two : (x y : ℤ) → ((x ≡ y → ⊥) → ⊥) → x ≡ y
not_two x y stable =
    by_lt_z x y (λ less. absurd (stable (λ same. let bad = rw same at less in omega (arith, ints, bad))))
    (λ least. by_lt_z y x (λ more. absurd (stable (λ same. let bad = rw same at more in omega (arith, ints, bad)))) (λ most. omega (arith, ints, least, most)))

-- the cost of the one assignment that is left is one number, or none
module _ (t : Tables) (keeps : Domains) (a : List ℕ) (kept : IsKeptAssignment t keeps a) where
  one_sole : (b c : Option ℤ) → IsSoleBound t keeps b → IsSoleBound t keeps c → b ≡ c
  one_sole None None x y = refl
  one_sole None (Some n) x y =
      let illegal : ¬ (IsLegal t a) = λ legal. (let bad = x.legal a kept legal in cc) in
      let bad = y.illegal a kept illegal in
      absurd (let never : ⊥ = cc in never)
  one_sole (Some m) None x y =
      let illegal : ¬ (IsLegal t a) = λ legal. (let bad = y.legal a kept legal in cc) in
      let bad = x.illegal a kept illegal in
      absurd (let never : ⊥ = cc in never)
  one_sole (Some m) (Some n) x y = ap Some (not_two m n (λ differ.
      let illegal : ¬ (IsLegal t a) = λ legal. differ (let first = x.legal a kept legal in let second = y.legal a kept legal in cc) in
      let bad = x.illegal a kept illegal in
      let never : ⊥ = cc in
      never))

one_ceiling : (t : Tables) (keeps : Domains) (prices : Prices) (b c : Option ℤ) → IsScale prices.scale → IsPriceBound t keeps prices b → IsPriceBound t keeps prices c → b ≡ c
one_ceiling t keeps prices b c scale x y =
    let most = same_ceiling _ _ x.least y.least scale.some x.rounded y.rounded in
    let least = same_ceiling _ _ y.least x.least scale.some y.rounded x.rounded in
    let same : x.least ≡ y.least = omega (arith, ints, most, least) in
    x.is ∙ ap Some same ∙ sym y.is

one_lesser : (yes_has no_has : Option ℤ → Type 0) (b c : Option ℤ) → ((x y : Option ℤ) → yes_has x → yes_has y → x ≡ y) → ((x y : Option ℤ) → no_has x → no_has y → x ≡ y)
    → IsLesserBound yes_has no_has b → IsLesserBound yes_has no_has c → b ≡ c
one_lesser yes_has no_has b c one_yes one_no x y =
    x.lesser ∙ rw (one_yes x.with_pair y.with_pair x.yes_is y.yes_is, one_no x.without y.without x.no_is y.no_is) refl ∙ sym y.lesser

-- what leaves a node no choice of its bound: a scale above 0, and one assignment where one is left
pub record IsSingle (t : Tables) (one : Node) : Type 0 where
  pub scale : IfSome (prices_at one.tree) HasScale
  pub sole : one.tree ≡ tree.Sole → IsSole t one.keeps

pub bound_once : (t : Tables) (keeps : Domains) (whole : Tree) (b c : Option ℤ) → All (IsSingle t) (nodes_in keeps whole) → IsBoundIn t keeps whole b → IsBoundIn t keeps whole c → b ≡ c
bound_once t keeps (tree.Bare leg) b c single x y = x ∙ sym y
bound_once t keeps tree.Sole b c single x y =
    let one = sole_has_one t keeps ((All-head (IsSingle t) (node keeps tree.Sole) [] single).sole refl) in
    one_sole t keeps one.0 one.1 b c x y
bound_once t keeps (tree.Refuted prices) b c single x y = x ∙ sym y
bound_once t keeps (tree.Priced prices) b c single x y = one_ceiling t keeps prices b c (All-head (IsSingle t) (node keeps (tree.Priced prices)) [] single).scale x y
bound_once t keeps (tree.Open prices why) b c single x y = one_ceiling t keeps prices b c (All-head (IsSingle t) (node keeps (tree.Open prices why)) [] single).scale x y
bound_once t keeps (tree.Trim' leg choice p with_pair q without) b c single x y =
    let below = All-tail (IsSingle t) _ _ single in
    one_lesser _ _ b c
    (λ m n. bound_once t (part keeps leg choice true) with_pair m n (first_all (IsSingle t) _ _ below))
    (λ m n. bound_once t (part keeps leg choice false) without m n (second_all (IsSingle t) (nodes_in (part keeps leg choice true) with_pair) _ below)) x y
bound_once t keeps (tree.Split' leg choice prices mixed p with_pair q without) b c single x y =
    let below = All-tail (IsSingle t) _ _ single in
    one_lesser _ _ b c
    (λ m n. bound_once t (part keeps leg choice true) with_pair m n (first_all (IsSingle t) _ _ below))
    (λ m n. bound_once t (part keeps leg choice false) without m n (second_all (IsSingle t) (nodes_in (part keeps leg choice true) with_pair) _ below)) x y

module _ (t : Tables) (cost : Option ℤ) where
  -- where all rules are kept
  sound_single : (one : Node) → IsSound t cost one → IsSingle t one
  sound_single one sound = record {
    scale = sound.each rule.Scale;
    sole = λ e. (let here = subst (λ x. IsSound t cost (node one.keeps x)) e sound in here.each rule.Pairs);
  }

  pub one_bound : (keeps : Domains) (whole : Tree) (b c : Option ℤ) → AreSound t cost keeps whole → IsBoundIn t keeps whole b → IsBoundIn t keeps whole c → b ≡ c
  one_bound keeps whole b c sound x y = bound_once t keeps whole b c (All-weaker (IsSound t cost) (IsSingle t) sound_single (nodes_in keeps whole) sound) x y

  -- ---- one first fault

  sound_or_not : (n m : Node) (one : Rule) → SameNode t cost n m → IsSound t cost n → ¬ (IsFirstBrokenRule t cost m one)
  sound_or_not n m one same sound fault = fault.broken ((same_sound t cost n m same sound).each one)

  one_rule : (n m : Node) (one other : Rule) → SameNode t cost n m → IsFirstBrokenRule t cost n one → IsFirstBrokenRule t cost m other → rule_number one ≡ rule_number other
  one_rule n m one other same x y = elim (cases_order (rule_number one) (rule_number other)) [
    | inl equal ↦ equal
    | inr differ ↦ elim differ [
      | inl before ↦ absurd (x.broken (same_keeps t cost m n (same_node_back t cost n m same) one (y.before.each one before)))
      | inr after ↦ absurd (y.broken (same_keeps t cost n m same other (x.before.each other after)))
    ]
  ]

  -- the first broken nodes of two lists of the same nodes stand at one place and break one rule first
  pub record SameFault (place other : ℕ) (one two : Rule) : Type 0 where
    pub places : place ≡ other
    pub rules_are : rule_number one ≡ rule_number two

  one_place : (front past back behind : List Node) (n m : Node) (one two : Rule) → AllZip (SameNode t cost) (front ++ n ∷ past) (back ++ m ∷ behind)
      → All (IsSound t cost) front → All (IsSound t cost) back → IsFirstBrokenRule t cost n one → IsFirstBrokenRule t cost m two → SameFault (length front) (length back) one two
  one_place [] past [] behind n m one two same sound good x y = record { places = refl; rules_are = one_rule n m one two same.0 x y }
  one_place [] past (k ∷ back) behind n m one two same sound good x y =
      absurd (sound_or_not k n one (same_node_back t cost n k same.0) (All-head (IsSound t cost) k back good) x)
  one_place (k ∷ front) past [] behind n m one two same sound good x y =
      absurd (sound_or_not k m two same.0 (All-head (IsSound t cost) k front sound) y)
  one_place (k ∷ front) past (j ∷ back) behind n m one two same sound good x y =
      let rest = one_place front past back behind n m one two same.1 (All-tail (IsSound t cost) k front sound) (All-tail (IsSound t cost) j back good) x y in
      record { places = ap suc rest.places; rules_are = rest.rules_are }

  one_broken : (ns ms : List Node) (place other : ℕ) (one two : Rule) → AllZip (SameNode t cost) ns ms → IsFirstBroken t cost ns place one → IsFirstBroken t cost ms other two
      → SameFault place other one two
  one_broken ns ms place other one two same x y =
      let found = one_place x.before x.after y.before y.after x.node y.node one two (rw (x.order, y.order) at same) x.sound y.sound x.fault y.fault in
      record { places = x.there ∙ found.places ∙ sym y.there; rules_are = found.rules_are }

  never_both : (ns : List Node) (place : ℕ) (one : Rule) → All (IsSound t cost) ns → ¬ (IsFirstBroken t cost ns place one)
  never_both ns place one sound broken =
      let all = rw broken.order at sound in
      broken.fault.broken ((All-head (IsSound t cost) broken.node broken.after (second_all (IsSound t cost) broken.before (broken.node ∷ broken.after) all)).each one)

  -- ---- one verdict

  holds_once : (x y : Tree) (b c : Option ℤ) → Same x y → HoldsWith t cost x b → HoldsWith t cost y c → b ≡ c
  holds_once x y b c same first second = one_bound (all_pairs t) y b c second.sound (bound_too t (all_pairs t) x y b same first.bounded) second.bounded

  breaks_once : (x y : Tree) (node number other two : ℕ) → Same x y → BreaksAt t cost x node number → BreaksAt t cost y other two → checked.Broken node number ≡ checked.Broken other two
  breaks_once x y node number other two same first second =
      let found = one_broken (nodes_in (all_pairs t) x) (nodes_in (all_pairs t) y) first.place second.place first.rule second.rule
      (same_nodes t cost (all_pairs t) x y same) first.first second.first in
      let nodes : node ≡ other = first.node_is ∙ ap (λ k. held_count (1 + k)) found.places ∙ sym second.node_is in
      let numbers : number ≡ two = first.rule_is ∙ found.rules_are ∙ sym second.rule_is in
      rw (nodes, numbers) refl

  by_verdict : (x y : Tree) (v w : Checked) → Same x y → Same y x → IsChecked t cost x v → IsChecked t cost y w → v ≡ w
  by_verdict x y (checked.Holds b) (checked.Holds c) same back first second = ap (λ bound. checked.Holds bound) (holds_once x y b c same first second)
  by_verdict x y (checked.Holds b) (checked.Broken n r) same back first second =
      absurd (never_both (nodes_in (all_pairs t) y) second.place second.rule (sound_too t cost (all_pairs t) x y same first.sound) second.first)
  by_verdict x y (checked.Broken n r) (checked.Holds c) same back first second =
      absurd (never_both (nodes_in (all_pairs t) x) first.place first.rule (sound_too t cost (all_pairs t) y x back second.sound) first.first)
  by_verdict x y (checked.Broken n r) (checked.Broken m s) same back first second = breaks_once x y n r m s same first second

pub one_verdict : (t : Tables) (cost : Option ℤ) (x y : Tree) (v w : Checked) → nodes_of x ≡ nodes_of y → IsChecked t cost x v → IsChecked t cost y w → v ≡ w
one_verdict t cost x y v w e first second = by_verdict t cost x y v w (same_by_nodes x y e) (same_by_nodes y x (sym e)) first second
