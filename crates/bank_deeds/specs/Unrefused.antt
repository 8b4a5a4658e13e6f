-- Deeds that the table of refusals lets through.
use Rattle.std.specs.Prelude.{◌≡◌, Option}
use Rattle.ofx_types.specs.declared.number.AcctId.{AcctId}
use Rattle.ofx_types.specs.declared.number.UserId.{UserId}
use Rattle.ofx_types.specs.declared.transfer.Deed.{Deed}
use Rattle.bank_model.specs.declared.setup.Setup.{Setup}
use Rattle.bank_model.specs.declared.event.State.{State}
use Rattle.bank_model.specs.Deeds.{judged}

-- No refusal of the table holds, whichever account alone counts as the user's.
abbrev pub IsUnrefused : Setup → State → UserId → Deed → Type 0
IsUnrefused setup S user deed = (only : Option AcctId) × (judged setup S user only deed ≡ 0)
