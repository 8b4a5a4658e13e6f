-- What the adapters wrap.
use Rattle.std.specs.Prelude.{ℕ, List, Option, None, Some, Result, IsErr}
use Rattle.std.specs.Io.KnownBytes.{ReadConsumes}
use Rattle.ofx_ports.specs.declared.adapters.reader.ReaderSource.{ReaderSource}
use Rattle.ofx_ports.specs.declared.adapters.writer.WriterSink.{WriterSink}
use Rattle.ofx_ports.specs.declared.adapters.file_store.FileStore.{FileStore}
use Rattle.ofx_ports.specs.declared.adapters.tcp_link.TcpLink.{TcpLink}
use Rattle.ofx_ports.specs.declared.adapters.tcp_door.TcpDoor.{TcpDoor}

-- the reader, if it was ever opened
abbrev pub source_reader : {R : Type 0} → ReaderSource R → Option R
source_reader source = source.reader

-- the number of reads that failed
abbrev pub source_faults : {R : Type 0} → ReaderSource R → ℕ
source_faults source = source.faults

-- the writer
abbrev pub sink_writer : {W : Type 0} → WriterSink W → W
sink_writer sink = sink.writer

-- the number of writes that failed
abbrev pub sink_faults : {W : Type 0} → WriterSink W → ℕ
sink_faults sink = sink.faults

-- A read gives what the reader loses. Where there is no reader it fails.
abbrev pub ReadsThrough : {R E : Type 0} → (R → Option (List ℕ)) → Option R → Option R → Result ℕ E → List ℕ → Type 0
ReadsThrough remaining None new r into = IsErr r
ReadsThrough remaining (Some old) None r into = ⊥
ReadsThrough remaining (Some old) (Some new) r into = ReadConsumes (remaining old) (remaining new) r into

-- the number of calls of a store in a file that failed
abbrev pub store_faults : {R : Type 0} → FileStore R → ℕ
store_faults store = store.faults

-- the number of reads and of writes of a link that failed
abbrev pub link_read_faults : {S : Type 0} → TcpLink S → ℕ
link_read_faults link = link.read_faults

abbrev pub link_write_faults : {S : Type 0} → TcpLink S → ℕ
link_write_faults link = link.write_faults

-- the number of calls of a doorway that failed, and how often it said that it is closed
abbrev pub door_faults : {T R : Type 0} → TcpDoor T R → ℕ
door_faults door = door.faults

abbrev pub door_closings : {T R : Type 0} → TcpDoor T R → ℕ
door_closings door = door.closings
