use Rattle.std.proofs.Common.{◌≡◌, ◌<◌, ℕ, List, Some, true}
use Rattle.csv.specs.Reading.{Reached, Ready, default_config, is_flexible, source_of, strip_bom}
use Rattle.csv.specs.declared.parser.State.TheVariants as st
use Rattle.csv.specs.declared.reader.Trim.TheVariants as trim
use Rattle.csv_fields.specs.Record.{rows_of}
use Rattle.csv_fields.proofs.record.records.Given as goal

abbrev pub invariant-loop-record : goal.invariant-loop-record
invariant-loop-record l = record {
  trims_nothing : l.record-iterator.rdr.trim ≡ trim.None;
  ready : Ready l.record-iterator.rdr;
  turns_left : 0 < l.record-iterator.left;
  by_default : l.record-iterator.rdr.config ≡ default_config;
  flexible : is_flexible l.record-iterator.rdr ≡ true;
  unread : List ℕ;
  source : source_of (λ s. Some s.now) l.record-iterator.rdr ≡ Some unread;
  reached : Reached default_config st.StartRecord (strip_bom l.fn.bytes) (rows_of l.rows) l.record-iterator.rdr.state unread;
}
