use Rattle.std.proofs.Common.{◌∙◌, ap, arith}
use Rattle.fleet_model.specs.Times.{departure, ready_minute}
use Rattle.euler_rotation.proofs.BareMinutes.{in_period, there, told_by}
use Rattle.euler_rotation.proofs.clean.is_clean.Goals as goal

pub index-requires : goal.index-requires
index-requires c = omega (
  arith,
  there c.args.clean.now.asked.now.tables.now c.args.clean.now.asked.now.plan.now c.args.clean.now.asked.now.fleet c.args.turn c.args.clean.now.segments.items
      c.requires.clean.segments c.leg.result.now.to (ap (λ leg. leg.to) c.leg.ensures.value) c.requires.arriving,
)

pub is_clean-requires-clause-ready : goal.is_clean-requires-clause-ready
is_clean-requires-clause-ready c =
    in_period c.args.clean.now.asked.now.tables.now c.args.clean.now.asked.now.plan.now c.args.clean.now.asked.now.fleet c.args.turn c.args.clean.now.segments.items
    c.requires.clean.segments c.leg.result.now.to (ap (λ leg. leg.to) c.leg.ensures.value) c.requires.arriving c.index.result.now c.index.ensures c.ready-ready.result c.ready-ready.ensures.within

pub is_clean-requires-clause-departure : goal.is_clean-requires-clause-departure
is_clean-requires-clause-departure c =
    in_period c.args.clean.now.asked.now.tables.now c.args.clean.now.asked.now.plan.now c.args.clean.now.asked.now.fleet c.args.turn c.args.clean.now.segments.items
    c.requires.clean.segments c.leg.result.now.to (ap (λ leg. leg.to) c.leg.ensures.value) c.requires.arriving c.index.result.now c.index.ensures c.departure-departure.result
    c.departure-departure.ensures.within

pub returns : goal.returns
returns c =
    told_by c.args.clean.now.asked.now.tables.now c.args.clean.now.asked.now.plan.now c.args.clean.now.asked.now.fleet c.args.turn c.args.clean.now.segments.items
    c.requires.clean.segments c.leg.result.now.to (ap (λ leg. leg.to) c.leg.ensures.value) c.requires.arriving c.index.result.now c.index.ensures
    c.ready-ready.result c.departure-departure.result c.is_clean.result
    (c.ready-ready.ensures.value ∙ ap (ready_minute c.args.clean.now.asked.now.tables.now) c.flight.ensures.value)
    (c.departure-departure.ensures.value ∙ ap (departure c.args.clean.now.asked.now.tables.now) c.flight-2.ensures.value) c.is_clean.ensures
