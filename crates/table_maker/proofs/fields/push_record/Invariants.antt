use Rattle.std.proofs.Common.{◌≡◌, ◌++◌, take}
use Rattle.table_maker.proofs.Lines.{behind_commas, shown}
use Rattle.table_maker.proofs.fields.push_record.Given as goal

abbrev pub invariant-loop-field : goal.invariant-loop-field
invariant-loop-field l = l.text.items ≡ l.initial.text.items ++ behind_commas (shown (take l.field-index l.others))
