-- Which assignments are of kept pairs.
use Rattle.std.proofs.Common.{◌<◌, sym, ◌∙◌, arith}
use Rattle.std.proofs.lemmas.Grind.{same_number_lists}
use Rattle.sums.proofs.Counts.{count_below-one, count_below-some}
use Rattle.fleet_model.specs.Counts.{choice_at}
use Rattle.fleet_model.specs.Schedule.{choices_in, leg_on, legs_in}
use Rattle.fleet_model.specs.Laws.{AllowedIsKept, BareHasNone, KeptIsAllowed, SoleIsOne}

pub allowed_is_kept : AllowedIsKept
allowed_is_kept t a assignment allowed = record {
  assignment = assignment;
  kept = λ l below. allowed.each l below;
}

pub kept_is_allowed : KeptIsAllowed
kept_is_allowed t a assignment = record { each = λ l below. assignment.kept l below }

pub bare_has_none : BareHasNone
bare_has_none t keeps leg a bare assignment =
    let some = count_below-some (λ c. keeps (leg_on leg c)) (choices_in t leg) (choice_at a leg) (assignment.assignment.known leg bare.within) (assignment.kept leg bare.within) in
    omega (arith, some, bare.none)

pub sole_is_one : SoleIsOne
sole_is_one t keeps a b sole first second =
    same_number_lists a b (first.assignment.each_leg ∙ sym second.assignment.each_leg) (λ l within.
    let below : l < legs_in t = rw (← first.assignment.each_leg) within in
    count_below-one (λ c. keeps (leg_on l c)) (choices_in t l) (choice_at a l) (choice_at b l) (sole.each l below)
    (first.assignment.known l below) (second.assignment.known l below) (first.kept l below) (second.kept l below))
