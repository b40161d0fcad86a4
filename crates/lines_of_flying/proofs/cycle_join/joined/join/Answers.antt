use Rattle.lines_of_flying.proofs.cycle_join.joined.join.Goals as goal

pub cycles_of-requires-clause-fitting : goal.cycles_of-requires-clause-fitting
cycles_of-requires-clause-fitting c =
    let ground = c.in_ok-ground.ensures in
    rw (c.into_vec.ensures, ground.tables, ground.plan, ground.fleet) c.in_ok-turns.ensures.fitting

pub cycles_of-requires-clause-holds : goal.cycles_of-requires-clause-holds
cycles_of-requires-clause-holds c = rw (c.into_vec.ensures, c.in_ok-ground.ensures.pairs) c.in_ok-turns.ensures.holds

pub answer-requires-clause-flies : goal.answer-requires-clause-flies
answer-requires-clause-flies c = let ground = c.in_ok-ground.ensures in rw (ground.tables, ground.plan, ground.fleet) c.requires.flies

pub returns : goal.returns
returns c = let ground = c.in_ok-ground.ensures in rw (ground.tables, ground.plan, ground.fleet, ground.pairs) at c.answer.ensures
