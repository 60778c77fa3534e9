-- What a source over a reader and a sink over a writer are to their callers. Own.
use Rattle.std.specs.Prelude.{ℕ}
use Rattle.cds_base.specs.declared.standard.StdSource.{StdSource}
use Rattle.cds_base.specs.declared.standard.StdSink.{StdSink}

-- the reader of a source
abbrev pub reader_of : {R : Type 0} → StdSource R → R
reader_of source = source.reader

-- how often the reader has failed
abbrev pub failed_reads : {R : Type 0} → StdSource R → ℕ
failed_reads source = source.faults

-- the writer of a sink
abbrev pub writer_of : {W : Type 0} → StdSink W → W
writer_of sink = sink.writer

-- how often the writer has failed
abbrev pub failed_writes : {W : Type 0} → StdSink W → ℕ
failed_writes sink = sink.faults
