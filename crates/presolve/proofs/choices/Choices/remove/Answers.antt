use Rattle.std.proofs.Common.{ap, ◌∙◌, rules, arith}
use Rattle.fleet_model.specs.Kept.{kept_by}
use Rattle.fleet_model.proofs.FewChoices.{few_choices}
use Rattle.presolve.proofs.Counted.{counted_without, some_there}
use Rattle.presolve.proofs.Removed as removed
use Rattle.presolve.proofs.Removed.{alone_after, ends_after, few_there}
use Rattle.presolve.specs.declared.counting.End.TheVariants as end
use Rattle.presolve.proofs.choices.Choices.remove.Goals as goal

pub narrow-requires-clause-fleet : goal.narrow-requires-clause-fleet
narrow-requires-clause-fleet c = omega (arith, few_choices c.args.tables.now c.args.pair.leg, c.requires.pair.choice)

pub overflow_sub-self : goal.overflow_sub-self
overflow_sub-self c =
    some_there c.args.tables.now (kept_by c.args.self.now.kept) c.args.pair _ c.requires.pair c.requires.kept (c.requires.choices.counted c.args.pair.leg c.requires.pair.leg)

pub take_one-requires-clause-some : goal.take_one-requires-clause-some
take_one-requires-clause-some c =
    removed.some_there c.args.tables.now (kept_by c.args.self.now.kept) _ c.args.pair c.requires.pair c.requires.flown c.requires.kept c.narrow.ensures.kept
    end.To c.fleet_by-fleet.result c.leg-flown.result.now.to c.args.self.now.landings.items c.requires.choices.landed c.fleet_by-fleet.ensures.value (ap (λ leg. leg.to) c.leg-flown.ensures.value)

pub take_one-requires-2-clause-some : goal.take_one-requires-2-clause-some
take_one-requires-2-clause-some c =
    removed.some_there c.args.tables.now (kept_by c.args.self.now.kept) _ c.args.pair c.requires.pair c.requires.flown c.requires.kept c.narrow.ensures.kept
    end.From c.fleet_by-fleet.result c.leg-flown.result.now.from c.args.self.now.departures.items c.requires.choices.departed c.fleet_by-fleet.ensures.value (ap (λ leg. leg.from) c.leg-flown.ensures.value)

pub add_alone-requires-clause-count : goal.add_alone-requires-clause-count
add_alone-requires-clause-count c =
    counted_without c.args.tables.now (kept_by c.args.self.now.kept) (kept_by c.narrow.new.self) c.args.pair c.args.self.now.counts c.requires.pair c.requires.kept
    c.narrow.ensures.kept (search rules) c.requires.choices.counted c.args.pair.leg c.requires.pair.leg

pub add_alone-requires-clause-small : goal.add_alone-requires-clause-small
add_alone-requires-clause-small c =
    few_there c.args.tables.now (kept_by c.args.self.now.kept) c.args.self.now.busy.items (c.requires.choices.busy c.requires.none_bare)

pub returns-clause-choices : goal.returns-clause-choices
returns-clause-choices c = record {
  counted = counted_without c.args.tables.now (kept_by c.args.self.now.kept) (kept_by c.narrow.new.self) c.args.pair c.args.self.now.counts c.requires.pair c.requires.kept
      c.narrow.ensures.kept (search rules) c.requires.choices.counted;
  landed = ends_after c.args.tables.now (kept_by c.args.self.now.kept) (kept_by c.narrow.new.self) c.args.pair c.requires.pair c.requires.flown c.requires.kept c.narrow.ensures.kept
      end.To c.fleet_by-fleet.result c.leg-flown.result.now.to c.args.self.now.landings.items c.take_one.new.cells.items c.requires.choices.landed c.fleet_by-fleet.ensures.value (ap (λ leg. leg.to) c.leg-flown.ensures.value) c.take_one.ensures;
  departed = ends_after c.args.tables.now (kept_by c.args.self.now.kept) (kept_by c.narrow.new.self) c.args.pair c.requires.pair c.requires.flown c.requires.kept c.narrow.ensures.kept
      end.From c.fleet_by-fleet.result c.leg-flown.result.now.from c.args.self.now.departures.items c.take_one-2.new.cells.items c.requires.choices.departed c.fleet_by-fleet.ensures.value (ap (λ leg. leg.from) c.leg-flown.ensures.value) c.take_one-2.ensures;
  busy_width = c.add_alone.ensures.width ∙ c.requires.choices.busy_width;
  busy = alone_after c.args.tables.now (kept_by c.args.self.now.kept) (kept_by c.narrow.new.self) c.args.pair c.requires.pair c.requires.flown c.requires.kept c.narrow.ensures.kept
      c.args.self.now.busy.items c.add_alone.new.cells.items (c.requires.choices.busy c.requires.none_bare) c.add_alone.ensures;
}
