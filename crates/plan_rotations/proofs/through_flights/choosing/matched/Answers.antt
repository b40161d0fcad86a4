use Rattle.plan_rotations.proofs.through_flights.choosing.matched.Goals as goal

pub choice_of-requires-clause-matching : goal.choice_of-requires-clause-matching
choice_of-requires-clause-matching c =
    let m = c.in_ok-matching.ensures in
    record { rows = m.sizes.0; row_duals = m.sizes.1; column_duals = m.sizes.2; one_to_one = m.one_to_one; reach = m.reach; meet = m.meet }
