use Rattle.std.proofs.Common.{arith}
use Rattle.frac_row.proofs.Ratios.{ratio_less, ratio_greater, ratio_equal, ratio_greater_rest, ratio_less_rest, ratio_by_rests}
use Rattle.frac_row.proofs.ratio.+compare_sizes.Goals as goal

pub returns-then-left-right : goal.returns-then-left-right
returns-then-left-right t c =
    ratio_less c.args.a c.args.b c.args.c c.args.d c.requires.first c.requires.second c.if-left-right.true

pub returns-then-right-left : goal.returns-then-right-left
returns-then-right-left t c =
    ratio_greater c.args.a c.args.b c.args.c c.args.d c.requires.first c.requires.second c.if-right-left.true

pub returns-then-left_rest-eq0 : goal.returns-then-left_rest-eq0
returns-then-left_rest-eq0 t c =
    ratio_equal c.args.a c.args.b c.args.c c.args.d (omega arith) (omega arith) (omega arith)

pub returns-else-left_rest-eq0 : goal.returns-else-left_rest-eq0
returns-else-left_rest-eq0 t c =
    ratio_greater_rest c.args.a c.args.b c.args.c c.args.d (omega arith) (omega arith) (omega arith) (omega arith)

pub returns-then-left_rest-eq0-2 : goal.returns-then-left_rest-eq0-2
returns-then-left_rest-eq0-2 t c =
    ratio_less_rest c.args.a c.args.b c.args.c c.args.d (omega arith) (omega arith) (omega arith) (omega arith)

pub returns : goal.returns
returns t c =
    ratio_by_rests c.args.a c.args.b c.args.c c.args.d c.compare_sizes.result (omega arith) c.compare_sizes.ensures
