-- What is seen of a sink over a writer of std.
use Rattle.std.specs.Prelude.{ℕ}
use Rattle.plan_desk.specs.declared.writer_sink.WriterSink.{WriterSink}

-- the writer
abbrev pub writer_of : {W : Type 0} → WriterSink W → W
writer_of sink = sink.writer

-- how many puts failed
abbrev pub faults_counted : {W : Type 0} → WriterSink W → ℕ
faults_counted sink = sink.faults
