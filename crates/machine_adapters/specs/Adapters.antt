-- What the adapters wrap.
use Rattle.std.specs.Prelude.{ℕ}
use Rattle.machine_adapters.specs.declared.link.SocketLink.{SocketLink}

-- the number of reads and of writes of a link that failed
abbrev pub link_read_faults : {S C : Type 0} → SocketLink S C → ℕ
link_read_faults link = link.read_faults

abbrev pub link_write_faults : {S C : Type 0} → SocketLink S C → ℕ
link_write_faults link = link.write_faults
