-- Which status is told of a tree that is asked about another number of aircraft.
use Rattle.std.proofs.Common.{◌≡◌, ℕ, Option, ℤ, refl, sym, subst, inl, inr}
use Rattle.cert_check.specs.declared.checked.Checked.{Checked}
use Rattle.cert_check.specs.declared.checked.Checked.TheVariants as checked
use Rattle.cert_check.specs.declared.what_if.WhatIf.{WhatIf}
use Rattle.cert_check.specs.declared.what_if.WhatIf.TheVariants as what
use Rattle.dual_bound.specs.declared.trees.Tree.{Tree}
use Rattle.fleet_model.specs.declared.tables.Tables.{Tables}
use Rattle.folder_answers.specs.Commands.{AsksChecked, SaysOfOther, what_if_status}
use Rattle.fleet_cli.specs.Run.{IsAskedOf}
use Rattle.folder_answers.specs.declared.answer.Answer.{Answer}

module _ (t : Tables) (fleet count : ℕ) where
  asked_status : (w : WhatIf) → IsAskedOf (what_if_status w)
  asked_status (what.Fallen node) = inr refl
  asked_status what.NoPlan = inl refl
  asked_status (what.Bound bound) = inl refl

  -- of a tree that holds
  pub asked_of : (tree : Tree) (answer : Answer) (bound : Option ℤ) (v : Checked) → v ≡ checked.Holds bound → AsksChecked t fleet count tree v answer → IsAskedOf answer.status.code
  asked_of tree answer bound v holds asks = by_holds (subst (λ w. AsksChecked t fleet count tree w answer) holds asks)
    where
      by_holds : SaysOfOther t fleet count tree answer → IsAskedOf answer.status.code
      by_holds x = subst (λ (a : Answer). IsAskedOf a.status.code) (sym x.is) (asked_status x.what)
