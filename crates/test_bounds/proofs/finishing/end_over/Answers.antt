use Rattle.std.proofs.Common.{refl}
use Rattle.test_bounds.proofs.finishing.end_over.Goals as goal

pub finish-requires : goal.finish-requires
finish-requires g c = (c.args.rows.now, record { problem = c.requires.problem; is = c.in_ok-store.ensures.table; columns_in = refl; right_sides = c.requires.right_sides })
