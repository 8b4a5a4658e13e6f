-- What one entry more does to the occurrence of a recurring transfer's next transfer.
use Rattle.std.specs.Prelude.{ℕ, ◌+◌, if◌then◌else◌}
use Rattle.ofx_types.specs.declared.transfer.Change.{Change}
use Rattle.bank_model.specs.Models.{begins_anew, is_made_by}

-- A change that begins the recurring transfer anew sets the occurrence back to 0, and a transfer that it made raises the
-- occurrence by one.
abbrev pub occurrence_after : ℕ → ℕ → Change → ℕ
occurrence_after id occurrence change = if begins_anew id change then 0 else (if is_made_by id change then occurrence + 1 else occurrence)
