use Rattle.std.proofs.Common.{rules}
use Rattle.std.proofs.lemmas.Int.{to_z-of_z}
use mir.Val.{SFits}
use mir.Syntax.{w128}
use Rattle.frac_row.proofs.LineNumbers.{beginning_none, beginning_more, beginning_done, none_below_next}
use Rattle.frac_row.proofs.filling.begun.Goals as goal

pub loop-entry-init : goal.loop-entry-init
loop-entry-init c = beginning_none c.zeros-made.result _ _ _ _ c.numbers-left.result c.zeros-made.ensures c.numbers-left.ensures.rising c.numbers-left.ensures.numbers

pub returns-then-entry-columns : goal.returns-then-entry-columns
returns-then-entry-columns c =
    beginning_done c.loop-entry.made _ _ _ _ c.loop-entry.left c.loop-entry.invariant
    (λ column lt. none_below_next 0 _ c.args.columns c.in-Some.entry c.next.new.self c.loop-entry.left column c.loop-entry.invariant.rising c.in-Some.ensures c.if-entry-columns.true lt)

pub loop-entry-preserved : goal.loop-entry-preserved
loop-entry-preserved c =
    let f : SFits w128 c.in-Some.entry.number = search rules in
    beginning_more c.loop-entry.made c.put.new.self _ _ _ _ c.in-Some.entry c.next.new.self c.loop-entry.left c.loop-entry.invariant c.in-Some.ensures c.if-entry-columns.false c.requires.columns
    (simp to_z-of_z at c.in_ok-put.ensures.put)
