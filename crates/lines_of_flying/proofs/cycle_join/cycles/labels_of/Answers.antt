use Rattle.std.proofs.Common.{◌≡◌, ◌<◌, length, sym, ◌∙◌, ap, subst, arith}
use Rattle.std.proofs.lemmas.List.{get_or_default}
use Rattle.sums.specs.Places.{list_below}
use Rattle.lines_of_flying.specs.ground_turns.Maps.{turn_at}
use Rattle.lines_of_flying.specs.cycle_join.Labels.{label_of}
use Rattle.fleet_model.specs.Schedule.{legs_in}
use Rattle.lines_of_flying.proofs.cycle_join.Linking.{are_known, linked_more, own_are_labels, own_are_linked}
use Rattle.lines_of_flying.proofs.cycle_join.Relabelling.{labels_still}
use Rattle.lines_of_flying.proofs.cycle_join.cycles.labels_of.Goals as goal

pub loop-turn-init : goal.loop-turn-init
loop-turn-init c =
    let own = c.in_ok-labels.ensures ∙ ap (list_below (λ l. l)) c.leg_count.ensures in
    record { labels = own_are_labels _ _ own; linked = own_are_linked _ _ own c.args.turns.now }

pub loop-turn-preserved : goal.loop-turn-preserved
loop-turn-preserved c =
    let turn = turn_at c.args.turns.now c.loop-turn.turn-index in
    let map = c.requires.fitting.map in
    let labels = c.loop-turn.invariant.labels in
    let known = are_known c.args.ground.now.tables.now c.args.ground.now.plan.now c.args.ground.now.fleet c.args.turns.now c.loop-turn.labels.items map labels.each_leg in
    let from : label_of c.loop-turn.labels.items turn.arriving ≡ c.index-from.result.now =
    get_or_default c.loop-turn.labels.items turn.arriving 0 c.index-from.result.now (known.arriving c.loop-turn.turn-index c.loop-turn-test.true) ∙ sym c.index-from.ensures in
    let to : label_of c.loop-turn.labels.items turn.departing ≡ c.index-to.result.now =
    get_or_default c.loop-turn.labels.items turn.departing 0 c.index-to.result.now (known.departing c.loop-turn.turn-index c.loop-turn-test.true) ∙ sym c.index-to.ensures in
    record {
      labels = labels_still c.loop-turn.labels.items c.relabel.new.labels.items c.index-from.result.now c.index-to.result.now c.relabel.ensures (legs_in c.args.ground.now.tables.now) labels
          (subst (λ n. n < legs_in c.args.ground.now.tables.now) to (labels.few _ (map.each c.loop-turn.turn-index c.loop-turn-test.true).departing));
      linked = linked_more c.args.turns.now c.loop-turn.labels.items c.relabel.new.labels.items c.loop-turn.turn-index c.index-from.result.now c.index-to.result.now
          c.loop-turn-test.true known c.loop-turn.invariant.linked c.relabel.ensures from to;
    }

pub returns-clause-cycles : goal.returns-clause-cycles
returns-clause-cycles c = record {
  linked = λ k lt. c.loop-turn.invariant.linked.linked k (omega (arith, lt, c.loop-turn-test.false));
  whole = c.loop-turn.invariant.linked.whole;
}

pub index-from-requires : goal.index-from-requires
index-from-requires c =
    let below : (turn_at c.args.turns.now c.loop-turn.turn-index).arriving < length c.loop-turn.labels.items =
    (are_known c.args.ground.now.tables.now c.args.ground.now.plan.now c.args.ground.now.fleet c.args.turns.now c.loop-turn.labels.items c.requires.fitting.map
    c.loop-turn.invariant.labels.each_leg).arriving c.loop-turn.turn-index c.loop-turn-test.true in
    omega (arith, below, c.loop-turn.labels.ok)

pub index-to-requires : goal.index-to-requires
index-to-requires c =
    let below : (turn_at c.args.turns.now c.loop-turn.turn-index).departing < length c.loop-turn.labels.items =
    (are_known c.args.ground.now.tables.now c.args.ground.now.plan.now c.args.ground.now.fleet c.args.turns.now c.loop-turn.labels.items c.requires.fitting.map
    c.loop-turn.invariant.labels.each_leg).departing c.loop-turn.turn-index c.loop-turn-test.true in
    omega (arith, below, c.loop-turn.labels.ok)
