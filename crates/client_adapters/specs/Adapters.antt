-- What the adapters count.
use Rattle.std.specs.Prelude.{ℕ}
use Rattle.client_adapters.specs.declared.bank_link.BankLink.{BankLink}

-- the number of reads and of writes of a link that failed
abbrev pub link_read_faults : BankLink → ℕ
link_read_faults link = link.read_faults

abbrev pub link_write_faults : BankLink → ℕ
link_write_faults link = link.write_faults
