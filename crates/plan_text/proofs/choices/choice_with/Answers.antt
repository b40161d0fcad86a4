use Rattle.std.proofs.Common.{◌≡◌, None, Some, arith, rules}
use Rattle.fleet_model.specs.Schedule.{fleet_names, leg_of}
use Rattle.table_rows.specs.Names.{number_of_name}
use Rattle.plan_text.specs.Reading.{slot_with}
use Rattle.plan_text.proofs.ChoiceTexts.{flown_at_none, flown_by_none, flown_found, small_choice}
use Rattle.plan_text.proofs.choices.choice_with.Goals as goal

pub returns-in_default : goal.returns-in_default
returns-in_default c =
    let number : number_of_name c.args.fleet.now (fleet_names c.args.tables.now) ≡ None = search rules in
    flown_by_none c.args.tables.now c.args.leg c.requires.leg c.args.fleet.now c.args.shift.now number (λ dash. search rules)

pub overflow_add-result : goal.overflow_add-result
overflow_add-result c =
    let number : number_of_name c.args.fleet.now (fleet_names c.args.tables.now) ≡ Some c.in-Some.number = search rules in
    let slot : slot_with (leg_of c.args.tables.now c.args.leg).shifts c.args.shift.now ≡ Some c.in-Some-2.slot = search rules in
    rw c.shift_count.ensures.value (omega (arith, small_choice c.args.tables.now c.args.leg c.requires.leg c.args.fleet.now c.args.shift.now _ _ number slot))

pub returns-in-Some-2 : goal.returns-in-Some-2
returns-in-Some-2 c =
    let number : number_of_name c.args.fleet.now (fleet_names c.args.tables.now) ≡ Some c.in-Some.number = search rules in
    let slot : slot_with (leg_of c.args.tables.now c.args.leg).shifts c.args.shift.now ≡ Some c.in-Some-2.slot = search rules in
    rw c.shift_count.ensures.value (flown_found c.args.tables.now c.args.leg c.requires.leg c.args.fleet.now c.args.shift.now _ _ number slot)

pub returns-in-None : goal.returns-in-None
returns-in-None c =
    let number : number_of_name c.args.fleet.now (fleet_names c.args.tables.now) ≡ Some c.in-Some.number = search rules in
    let slot : slot_with (leg_of c.args.tables.now c.args.leg).shifts c.args.shift.now ≡ None = search rules in
    flown_at_none c.args.tables.now c.args.leg c.requires.leg c.args.fleet.now c.args.shift.now _ number slot
