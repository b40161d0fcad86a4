use Rattle.std.proofs.Common.{◌≡◌, [], ◌∷◌, ◌++◌, length, sym, ◌∙◌, ap, subst, arith}
use Rattle.lines_of_flying.specs.ground_turns.Maps.{HasTurn, arrivals_of}
use Rattle.lines_of_flying.specs.cycle_join.Rounds.{IsPath, turn_between}
use Rattle.lines_of_flying.proofs.cycle_join.Paths.{come_round, last_arrives_once, not_round, one_leg, path_on}
use Rattle.lines_of_flying.proofs.cycle_join.rounds.round.Goals as goal

pub follower-leg-requires : goal.follower-leg-requires
follower-leg-requires c =
    subst (λ turns. arrivals_of turns c.loop.leg ≡ 1) (sym c.deref.ensures.value)
    (last_arrives_once c.args.ground.now.tables.now c.args.ground.now.plan.now c.args.ground.now.fleet c.args.cycles.now.turns.items c.requires.cycles.fitting.map c.args.first c.loop.leg c.loop.legs.items
    c.loop.invariant.path c.requires.first)

pub loop-preserved : goal.loop-preserved
loop-preserved c = record {
  path = path_on c.args.ground.now.tables.now c.args.ground.now.plan.now c.args.ground.now.fleet c.args.cycles.now.turns.items c.requires.cycles.fitting.map c.args.first c.loop.leg c.loop.legs.items
      c.push.new.self.items c.follower-leg.result c.in_ok-push.ensures.items c.loop.invariant.path
      (subst (λ turns. HasTurn turns (turn_between c.loop.leg c.follower-leg.result)) c.deref.ensures.value c.follower-leg.ensures) c.if-leg-first.false;
  long = let items = c.in_ok-push.ensures.len in omega (arith, items, c.loop.invariant.long);
}

pub loop-init : goal.loop-init
loop-init c = record {
  path = subst (λ legs. IsPath c.args.cycles.now.turns.items c.args.first (legs ++ c.args.first ∷ [])) (sym c.new-legs.ensures.items) (one_leg c.args.cycles.now.turns.items c.args.first);
  long = ap length c.new-legs.ensures.items;
}

pub returns-then-leg-first : goal.returns-then-leg-first
returns-then-leg-first c =
    come_round c.args.ground.now.tables.now c.args.ground.now.plan.now c.args.ground.now.fleet c.args.cycles.now.turns.items c.requires.cycles.fitting.map c.args.first c.loop.leg c.loop.legs.items
    c.from_vec.result c.follower-leg.result (c.from_vec.ensures ∙ c.in_ok-push.ensures.items) c.loop.invariant.path
    (subst (λ turns. HasTurn turns (turn_between c.loop.leg c.follower-leg.result)) c.deref.ensures.value c.follower-leg.ensures) c.if-leg-first.true

pub unreachable-requires : goal.unreachable-requires
unreachable-requires c =
    not_round c.args.ground.now.tables.now c.args.ground.now.plan.now c.args.ground.now.fleet c.args.cycles.now.turns.items c.requires.cycles.fitting.map c.args.first c.loop.leg c.loop.legs.items
    c.loop.invariant.path c.requires.first (omega (arith, c.loop-test.false, c.leg_count-end.ensures, c.loop.invariant.long))
