-- What is told of a tree that is asked about another number of aircraft: one answer.
use Rattle.std.proofs.Common.{◌≡◌, ℕ, Option, ℤ, sym, ap, subst, ◌∙◌}
use Rattle.cert_check.proofs.OneAsked.{one_asked}
use Rattle.cert_check.proofs.OneVerdict.{one_verdict}
use Rattle.cert_check.proofs.SplitsAbove.{are_sound_but_priced}
use Rattle.cert_check.specs.OtherSizes.{IsAskedOfTree}
use Rattle.cert_check.specs.Splits.{AreSoundButPriced}
use Rattle.cert_check.specs.Verdicts.{IsChecked}
use Rattle.cert_check.specs.declared.checked.Checked.{Checked}
use Rattle.cert_check.specs.declared.checked.Checked.TheVariants as checked
use Rattle.cert_check.specs.declared.what_if.WhatIf.{WhatIf}
use Rattle.dual_bound.specs.Nodes.{nodes_of}
use Rattle.dual_bound.specs.declared.trees.Tree.{Tree}
use Rattle.fleet_model.proofs.OtherSizes.{other_size_stands}
use Rattle.fleet_model.specs.Kept.{all_pairs}
use Rattle.fleet_model.specs.OtherSizes.{IsOtherSize}
use Rattle.fleet_model.specs.Schedule.{fleet_of}
use Rattle.fleet_model.specs.declared.tables.Tables.{Tables}
use Rattle.fleet_model.proofs.TablesSame.{tables_same}
use Rattle.folder_answers.specs.Commands.{AsksChecked, AsksTree, SaysOfOther, what_if_status}
use Rattle.folder_answers.specs.Opened.{CanHave}
use Rattle.folder_answers.specs.Refusals.{says}
use Rattle.folder_answers.specs.Texts.{what_if_text}
use Rattle.folder_answers.specs.declared.answer.Answer.{Answer}

-- the tables of another size are one
one_size : (t : Tables) (fleet count : ℕ) (u v : Tables) → IsOtherSize t fleet count u → IsOtherSize t fleet count v → u ≡ v
one_size t fleet count u v x y =
    tables_same u v (x.stations ∙ sym y.stations) (x.fleets ∙ sym y.fleets) (x.legs ∙ sym y.legs) (x.costs ∙ sym y.costs) (x.throughs ∙ sym y.throughs) (x.settings ∙ sym y.settings)
    (x.windows ∙ sym y.windows) (x.optional ∙ sym y.optional)

module _ (t : Tables) (fleet count : ℕ) where
  -- what is answered on whichever tables have that number is told of those that have it
  pub says_of : CanHave t fleet count → (tree : Tree) (w : WhatIf) → ((u : Tables) → IsOtherSize t fleet count u → IsAskedOfTree u tree w)
      → (answer : Answer) → answer ≡ says (what_if_status w) (what_if_text (fleet_of t fleet).name count w) → SaysOfOther t fleet count tree answer
  says_of can tree w asked answer is =
      let there = other_size_stands t fleet count can.fleet_fits can.count_fits in
      record { other = there.0; sized = there.1; what = w; asked = asked there.0 there.1; is = is }

  -- ---- one answer

  module _ (one two : Tree) (nodes : nodes_of one ≡ nodes_of two) (answer other : Answer) where
    says_once : AreSoundButPriced t (all_pairs t) two → SaysOfOther t fleet count one answer → SaysOfOther t fleet count two other → answer ≡ other
    says_once sound x y =
        let same = one_size t fleet count x.other y.other x.sized y.sized in
        let here : IsAskedOfTree y.other one x.what = subst (λ u. IsAskedOfTree u one x.what) same x.asked in
        let answers : x.what ≡ y.what = one_asked t fleet count y.other y.sized one two x.what y.what nodes sound here y.asked in
        x.is ∙ ap (λ w. says (what_if_status w) (what_if_text (fleet_of t fleet).name count w)) answers ∙ sym y.is

    by_verdict : (cost : Option ℤ) (v : Checked) → IsChecked t cost two v → AsksChecked t fleet count one v answer → AsksChecked t fleet count two v other → answer ≡ other
    by_verdict cost (checked.Holds bound) holds x y = says_once (are_sound_but_priced t cost (all_pairs t) two holds.sound) x y
    by_verdict cost (checked.Broken node rule) breaks x y = x ∙ sym y

  pub one_told : (cost : Option ℤ) (one two : Tree) → nodes_of one ≡ nodes_of two → (answer other : Answer) → AsksTree t fleet count cost one answer → AsksTree t fleet count cost two other → answer ≡ other
  one_told cost one two nodes answer other x y =
      let same = one_verdict t cost one two x.verdict y.verdict nodes x.checked y.checked in
      by_verdict one two nodes answer other cost y.verdict y.checked (subst (λ v. AsksChecked t fleet count one v answer) same x.asks) y.asks
