-- Tables are of another size of their own, by the number of aircraft that a fleet has: what is answered is what holds.
use Rattle.std.proofs.Common.{◌≡◌, ℕ, ◌∷◌, All, Option, None, Some, ℤ, refl, sym, ap, subst}
use Rattle.std.proofs.lemmas.List.{set-get_or}
use Rattle.std.proofs.lemmas.List.Elements.{All-head, All-weaker}
use Rattle.fleet_model.specs.declared.tables.Tables.{Tables}
use Rattle.fleet_model.specs.Kept.{all_pairs}
use Rattle.fleet_model.specs.OtherSizes.{IsOtherSize}
use Rattle.fleet_model.specs.Schedule.{fleet_of, no_fleet}
use Rattle.dual_bound.specs.declared.trees.Tree.{Tree}
use Rattle.cert_check.specs.Nodes.{nodes_of_tree}
use Rattle.cert_check.specs.OtherSizes.{IsAskedOfTree, IsFallenAt, OwnNumberIsChecked, Stands, answer_of}
use Rattle.cert_check.specs.Rules.{IsSound}
use Rattle.cert_check.specs.Verdicts.{HoldsWith}
use Rattle.cert_check.specs.declared.rules.Rule.TheVariants as rule
use Rattle.cert_check.specs.declared.what_if.WhatIf.{WhatIf}
use Rattle.cert_check.specs.declared.what_if.WhatIf.TheVariants as what
use Rattle.cert_check.proofs.OneVerdict.{one_bound}
use Rattle.cert_check.proofs.Walks.{second_all}

own_size : (t : Tables) (fleet : ℕ) → IsOtherSize t fleet (fleet_of t fleet).aircraft t
own_size t fleet = record { stations = refl; fleets = sym (set-get_or t.fleets fleet no_fleet); legs = refl; costs = refl; throughs = refl; settings = refl; departures = refl; windows = refl; optional = refl }

module _ (t : Tables) (cost bound : Option ℤ) (tree : Tree) (holds : HoldsWith t cost tree bound) where
  all_stand : All (Stands t) (nodes_of_tree t tree)
  all_stand = All-weaker (IsSound t cost) (Stands t) (λ one sound. sound.each rule.Refuted) (nodes_of_tree t tree) holds.sound

  none_fallen : (number found : ℕ) → IsFallenAt t (nodes_of_tree t tree) number found → ⊥
  none_fallen number found fallen =
      let first = fallen.first in
      let behind = second_all (Stands t) first.before (first.node ∷ first.after) (subst (All (Stands t)) first.order all_stand) in
      first.fallen (All-head (Stands t) first.node first.after behind)

  by_answer : (answer : WhatIf) → IsAskedOfTree t tree answer → answer ≡ answer_of bound
  by_answer (what.Fallen node) asked = absurd (none_fallen 1 node asked)
  by_answer what.NoPlan asked = ap answer_of (one_bound t cost (all_pairs t) tree None bound holds.sound asked.bounded holds.bounded)
  by_answer (what.Bound least) asked = ap answer_of (one_bound t cost (all_pairs t) tree (Some least) bound holds.sound asked.bounded holds.bounded)

pub own_number_is_checked : OwnNumberIsChecked
own_number_is_checked t cost bound fleet tree answer holds asked = by_answer t cost bound tree holds answer (asked t (own_size t fleet))
