use Rattle.std.proofs.Common.{sym, subst}
use Rattle.euler_rotation.specs.Answers.{IsSpent}
use Rattle.euler_rotation.specs.Tours.{IsTourWith}
use Rattle.euler_rotation.proofs.FoundTours.{none_told, spent_told, tour_told}
use Rattle.euler_rotation.proofs.rotating.settled.Goals as goal

pub told-requires : goal.told-requires
told-requires c = record {
  is_asked = c.requires.asked;
  nights = c.requires.nights;
  used_is = c.requires.used;
  holds = subst (IsTourWith c.args.asked.now.tables.now c.args.asked.now.plan.now c.args.asked.now.fleet c.args.asked.now.pairs.now) (sym c.as_slice.ensures) c.requires.tour;
}

pub returns-in-Tour : goal.returns-in-Tour
returns-in-Tour c = tour_told c.args.asked.now c.as_slice.result.now c.args.visits c.in_ok-legs.field-0 c.in_ok-legs.ensures c.in-Tour.legs c.in-Tour.is

pub returns-in-Nothing : goal.returns-in-Nothing
returns-in-Nothing c = none_told c.args.asked.now c.as_slice.result.now c.args.visits c.in_ok-legs.field-0 c.in_ok-legs.ensures c.in-Nothing.is

pub returns-in-Spent : goal.returns-in-Spent
returns-in-Spent c =
    let asked = c.args.asked.now in
    subst (λ order. IsSpent asked.tables.now asked.plan.now asked.fleet asked.pairs.now asked.days c.args.visits order c.in-Spent.prefix) c.as_slice.ensures
    (spent_told asked c.as_slice.result.now c.args.visits c.in_ok-legs.field-0 c.in_ok-legs.ensures c.in-Spent.prefix c.in-Spent.is)
