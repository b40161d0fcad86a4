use Rattle.plan_rotations.proofs.best_matching.Turns.{enough_here, grown_after, one_turn, room_here, search_after, search_ends}
use Rattle.plan_rotations.proofs.best_matching.phase.grow.Goals as goal

pub widen-next-requires-clause-enough : goal.widen-next-requires-clause-enough
widen-next-requires-clause-enough c = enough_here _ _ _ _ _ c.loop-turn.invariant c.requires.root

pub widen-next-requires-clause-room : goal.widen-next-requires-clause-room
widen-next-requires-clause-room c = room_here _ _ _ _ _ c.requires.worths c.loop-turn.invariant c.requires.root

pub returns-then-tip-root : goal.returns-then-tip-root
returns-then-tip-root c =
    let w = c.widen-next.ensures in
    let after = one_turn _ _ _ _ _ _ _ _ c.requires.worths c.loop-turn.invariant c.requires.root c.loop-turn-test.true w.within w.outside w.least w.widened in
    rw c.as_slice.ensures (grown_after _ _ _ _ _ _ after (rw c.as_slice.ensures at c.if-tip-root.true))

pub relax-requires-clause-pairing : goal.relax-requires-clause-pairing
relax-requires-clause-pairing c =
    let w = c.widen-next.ensures in
    (one_turn _ _ _ _ _ _ _ _ c.requires.worths c.loop-turn.invariant c.requires.root c.loop-turn-test.true w.within w.outside w.least w.widened).pairing

pub relax-requires-clause-duals : goal.relax-requires-clause-duals
relax-requires-clause-duals c =
    let w = c.widen-next.ensures in
    (one_turn _ _ _ _ _ _ _ _ c.requires.worths c.loop-turn.invariant c.requires.root c.loop-turn-test.true w.within w.outside w.least w.widened).duals

pub relax-requires-clause-size : goal.relax-requires-clause-size
relax-requires-clause-size c =
    let w = c.widen-next.ensures in
    (one_turn _ _ _ _ _ _ _ _ c.requires.worths c.loop-turn.invariant c.requires.root c.loop-turn-test.true w.within w.outside w.least w.widened).size

pub loop-turn-preserved : goal.loop-turn-preserved
loop-turn-preserved c =
    let w = c.widen-next.ensures in
    let after = one_turn _ _ _ _ _ _ _ _ c.requires.worths c.loop-turn.invariant c.requires.root c.loop-turn-test.true w.within w.outside w.least w.widened in
    search_after _ _ _ _ _ _ _ after (rw c.as_slice.ensures at c.if-tip-root.false) (rw c.as_slice.ensures at c.relax.ensures)

pub unreachable-requires : goal.unreachable-requires
unreachable-requires c = search_ends _ _ _ _ _ c.loop-turn.invariant c.requires.root c.loop-turn-test.false
