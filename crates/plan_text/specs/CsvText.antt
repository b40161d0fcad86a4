-- Text as the default writer of `csv` writes it to memory, record by record.
use Rattle.std.specs.Prelude.{◌≡◌, ℕ, false, List, ◌++◌}
use Rattle.std.specs.List.{flat_map}
use Rattle.std.specs.declared.alloc.Global.{Global}
use Rattle.std.specs.declared.vec.Vec.{Vec}
use Rattle.csv.specs.Writing.{default_writer, fields_written, has_written, row_text, writer_pending, writer_setup, writer_under}
use Rattle.csv.specs.declared.writer.Writer.{Writer}
use Rattle.table_rows.specs.Rows.{Fields}

-- what records are written as
unfoldable pub csv_text : List Fields → List ℕ
csv_text records = flat_map (row_text default_writer) records

-- a writer to memory
abbrev pub TextWriter : Type 0
TextWriter = Writer (Vec ℕ Global)

-- what it has written
abbrev pub written_text : TextWriter → List ℕ
written_text writer = (writer_under writer).items ++ writer_pending writer

-- it writes as by default, and stands between two records
pub record IsBetweenRecords (writer : TextWriter) : Type 0 where
  pub setup : writer_setup writer ≡ default_writer
  pub fields : fields_written writer ≡ 0
  pub wrote : has_written writer ≡ false

-- it has written these records
pub record HasWritten (old new : TextWriter) (records : List Fields) : Type 0 where
  pub between : IsBetweenRecords new
  pub text : written_text new ≡ written_text old ++ csv_text records
