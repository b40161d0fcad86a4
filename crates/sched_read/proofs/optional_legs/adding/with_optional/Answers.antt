use Rattle.sched_read.proofs.optional_legs.TablesWith.{given, optional_fit}
use Rattle.sched_read.proofs.optional_legs.adding.with_optional.Goals as goal

pub invariant_of-result : goal.invariant_of-result
invariant_of-result c =
    let now = given c.args.tables c.args.optional.now c.into_vec-legs.result.items c.give_skips.new.legs.items c.into_vec-legs.ensures c.give_skips.ensures in
    record { in_range = rw c.from_vec.ensures (optional_fit c.args.tables c.args.optional.now c.requires c.give_skips.new.legs.items now) }
