use Rattle.euler_rotation.proofs.FoundTours.{apart_answer, are_enough, joined_tour}
use Rattle.euler_rotation.proofs.rotating.flown.Goals as goal

pub returns-in-Apart : goal.returns-in-Apart
returns-in-Apart c = record {
  nights = are_enough c.args.asked.now c.nights_maintained-have.result c.nights_used-used.result c.requires.flies c.nights_maintained-have.ensures.value c.nights_used-used.ensures c.if-have-asked.false;
  apart = apart_answer c.args.asked.now c.in_ok-legs.field-0 c.in-Apart.legs c.in_ok-legs.ensures c.in-Apart.is;
}

pub settled-requires-clause-nights : goal.settled-requires-clause-nights
settled-requires-clause-nights c =
    are_enough c.args.asked.now c.nights_maintained-have.result c.nights_used-used.result c.requires.flies c.nights_maintained-have.ensures.value c.nights_used-used.ensures c.if-have-asked.false

pub settled-requires-clause-tour : goal.settled-requires-clause-tour
settled-requires-clause-tour c = joined_tour c.args.asked.now c.in_ok-legs.field-0 c.in-Tour.legs c.in_ok-legs.ensures c.in-Tour.is
