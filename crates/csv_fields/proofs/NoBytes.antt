-- A file of zero bytes has no record.
use Rattle.std.proofs.Common.{◌≡◌, [], refl}
use Rattle.csv.specs.Machine.{next_record}
use Rattle.csv.specs.Reading.{records_from, strip_bom}
use Rattle.csv_fields.specs.Record.{records_of}

pub no_bytes_no_record : records_of [] ≡ []
unfolding records_of next_record records_from strip_bom
no_bytes_no_record = refl
