use Rattle.std.proofs.Common.{◌<◌, pos, rules, slice_index, sym, ◌∙◌, ap, subst}
use Rattle.std.proofs.lemmas.Int.{to_z-of_z}
use mir.Val.{SFits}
use mir.Syntax.{w128}
use Rattle.sums.specs.Below.{sum_below}
use Rattle.sums.specs.Places.{list_below}
use Rattle.plan_rotations.specs.through_flights.Chosen.{chosen_value}
use Rattle.plan_rotations.proofs.through_flights.Choices.{are_listed, matched_followers, set_value, through_set}
use Rattle.plan_rotations.proofs.through_flights.Numbers.{numbers_reach, numbers_sum}
use Rattle.plan_rotations.proofs.through_flights.choosing.choice_of.Goals as goal

pub chosen_pairs-requires-clause-square : goal.chosen_pairs-requires-clause-square
chosen_pairs-requires-clause-square c leg lt = let w = c.requires.worths in w.square leg (subst (λ n. leg < n) w.size lt) ∙ sym w.size

pub chosen_pairs-requires-clause-columns : goal.chosen_pairs-requires-clause-columns
chosen_pairs-requires-clause-columns c = c.requires.matching.one_to_one.within

pub chosen_value-requires-clause-square : goal.chosen_value-requires-clause-square
chosen_value-requires-clause-square c leg lt = let w = c.requires.worths in w.square leg (subst (λ n. leg < n) w.size lt) ∙ sym w.size

pub chosen_value-requires-clause-columns : goal.chosen_value-requires-clause-columns
chosen_value-requires-clause-columns c = c.requires.matching.one_to_one.within

pub chosen_value-requires-clause-small : goal.chosen_value-requires-clause-small
chosen_value-requires-clause-small c leg lt =
    let w = c.requires.worths in
    (w.each leg (slice_index c.args.matching.now.columns leg) (subst (λ n. leg < n) w.size lt)
    (subst (λ n. slice_index c.args.matching.now.columns leg < n) w.size (c.requires.matching.one_to_one.within leg lt))).most

pub own_numbers-requires : goal.own_numbers-requires
own_numbers-requires c = c.requires.matching.row_duals ∙ c.requires.worths.size ∙ sym c.requires.plan.assignment.each_leg

pub own_numbers-requires-2 : goal.own_numbers-requires-2
own_numbers-requires-2 c = c.requires.matching.column_duals ∙ c.requires.worths.size ∙ sym c.requires.plan.assignment.each_leg

pub returns : goal.returns
returns c =
    let m = c.requires.matching in
    let w = c.requires.worths in
    let known = matched_followers _ _ _ _ _ _ _ c.requires.plain c.requires.plan.balanced c.requires.fleet w m.one_to_one m.reach m.meet in
    let fits : SFits w128 c.chosen_value.result = search rules in
    let u = c.in_ok-own_numbers.ensures ∙ ap (list_below _) c.requires.plan.assignment.each_leg in
    let v = c.in_ok-own_numbers-2.ensures ∙ ap (list_below _) c.requires.plan.assignment.each_leg in
    record {
      through_set = through_set _ _ _ _ _ w known _ _ w.size c.in_ok-chosen_pairs.ensures;
      listed = are_listed _ _ _ _ _ w known _ _ w.size c.in_ok-chosen_pairs.ensures;
      value = to_z-of_z w128 c.chosen_value.result fits ∙ set_value _ _ _ _ _ w known _ _ _ w.size c.in_ok-chosen_pairs.ensures c.chosen_value.ensures;
      reach = numbers_reach _ _ _ _ _ _ _ _ w m.reach u v;
      sums = numbers_sum _ _ _ _ _ _ _ w m.meet known _ _ u v
          ∙ sym (c.chosen_value.ensures ∙ ap (λ n. pos (sum_below (chosen_value c.args.worths.now c.args.matching.now.columns) n)) w.size)
          ∙ sym (to_z-of_z w128 c.chosen_value.result fits);
    }
