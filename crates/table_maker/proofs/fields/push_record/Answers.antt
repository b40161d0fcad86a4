use Rattle.std.proofs.Common.{arith, rules}
use Rattle.table_maker.proofs.Lines.{line_done}
use Rattle.table_maker.proofs.fields.push_record.Goals as goal

pub returns : goal.returns
returns c =
    line_done c.args.text.now.items _ c.loop-field.text.items _ c.args.first.now c.args.others.now c.loop-field.field-index (omega arith) (search rules)
    c.loop-field.invariant (search rules)
