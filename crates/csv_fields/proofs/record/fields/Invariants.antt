use Rattle.std.proofs.Common.{◌≡◌, map, take}
use Rattle.csv.specs.Records.{fields_of}
use Rattle.csv_fields.proofs.record.fields.Given as goal

abbrev pub invariant-loop-field : goal.invariant-loop-field
invariant-loop-field l = record {
  same_row : l.field-iterator.row.now ≡ l.row;
  copied : map (λ field. field.items) l.fields.items ≡ take l.field-iterator.at (fields_of l.row);
}
