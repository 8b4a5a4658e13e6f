-- The steps in which deeds are written, each a part of its form.
use Rattle.std.specs.Prelude.{Option}
use Rattle.ofx_types.specs.declared.account.AcctName.{AcctName}
use Rattle.ofx_types.specs.declared.number.Cents.{Cents}
use Rattle.ofx_types.specs.declared.number.Day.{Day}
use Rattle.ofx_types.specs.declared.transfer.XferInfo.{XferInfo}

-- what is said of a transfer, part by part
abbrev pub info_with : AcctName → AcctName → Cents → Option Day → XferInfo
info_with from to amount due = record { from = from; to = to; amount = amount; due = due }
