-- The rows that deeds and the bank itself make may be reported.
use Rattle.std.proofs.Common.{◌≡◌, ◌≢◌, ℕ, Bool, true, false, cond, Some, refl, arith}
use Rattle.ofx_types.specs.Calendar.{IsMoment, IsDay}
use Rattle.ofx_types.specs.declared.number.Day.{Day}
use Rattle.ofx_types.specs.declared.number.Moment.{Moment}
use Rattle.ofx_types.specs.declared.transfer.XferCode.{XferCode}
use Rattle.ofx_types.specs.declared.transfer.XferCode.TheVariants.{Waiting, Posted, NoFunds, Cancelled}
use Rattle.ofx_types.specs.declared.transfer.XferInfo.{XferInfo}
use Rattle.ofx_types.specs.declared.transfer.TransferRow.{TransferRow}
use Rattle.ofx_types.specs.declared.recurring.Recur.{Recur}
use Rattle.ofx_types.specs.declared.recurring.ModelRow.{ModelRow}
use Rattle.ofx_types.proofs.Days.{IsMoment-midnight}
use Rattle.bank_model.specs.Models.{is_waiting}
use Rattle.bank_model.specs.Judging.{is_due, due_day}
use Rattle.bank_model.specs.Deeds.{new_row, changed_row, new_model, changed_model, with_terms}
use Rattle.bank_model.specs.Due.{processed_row, spawned_row}
use Rattle.bank_model.specs.Recurrence.{kth_date}
use Rattle.bank_recur.proofs.SeriesDays.{few_occurrences}
use Rattle.msg_deed.specs.SoundDeeds.{IsId, IsSoundInfo, IsSoundRecur, IsSoundModelRow}
use Rattle.reply_laws.specs.Reportable.{IsReportedRow}
use Rattle.bank_invariants.proofs.RowLemmas.{IsDay-due, stamp_is}
use Rattle.reply_laws.proofs.Found.{IsKnownRow}

-- ---- codes

waiting_reported : (code : XferCode) → is_waiting code ≡ true → code ≢ Cancelled
waiting_reported Waiting waits = λ same. cc
waiting_reported Posted waits = cc
waiting_reported NoFunds waits = cc
waiting_reported Cancelled waits = cc

new_reported : (due : Bool) → cond due Posted Waiting ≢ Cancelled
new_reported true = λ same. cc
new_reported false = λ same. cc

settled_reported : (covered : Bool) → cond covered Posted NoFunds ≢ Cancelled
settled_reported true = λ same. cc
settled_reported false = λ same. cc

-- ---- transfers

pub new_row_reported : (id : ℕ) (at : Moment) (day : Day) (info : XferInfo) → IsId id → IsMoment at.0 → IsDay day.0 → IsSoundInfo info → IsReportedRow (new_row id at day info)
unfolding new_row
new_row_reported id at day info known moment business sound =
    let due : IsDay (due_day info day).0 = IsDay-due info.due day sound.due business in (
      record {
        id = known;
        info = record { from = sound.from; to = sound.to; amount = sound.amount; due = due };
        reported = new_reported (is_due info day);
        stamp = stamp_is (is_due info day) at (due_day info day).0 moment due;
      },
      omega arith,
    )

pub changed_row_reported : (day : Day) (info : XferInfo) (row : TransferRow) → IsDay day.0 → IsSoundInfo info → IsKnownRow row → IsReportedRow (changed_row day info row)
unfolding changed_row
changed_row_reported day info row business sound known =
    let due : IsDay (due_day info day).0 = IsDay-due info.due day sound.due business in (
      record {
        id = known.id;
        info = record { from = known.info.from; to = sound.to; amount = sound.amount; due = due };
        reported = waiting_reported Waiting refl;
        stamp = IsMoment-midnight (due_day info day).0 due;
      },
      known.model,
    )

pub with_terms_reported : (info : XferInfo) (row : TransferRow) → IsSoundInfo info → IsKnownRow row → is_waiting row.code ≡ true → IsReportedRow (with_terms info row)
unfolding with_terms
with_terms_reported info row sound known waits = (
  record {
    id = known.id;
    info = record { from = known.info.from; to = sound.to; amount = sound.amount; due = known.info.due };
    reported = waiting_reported row.code waits;
    stamp = known.stamp;
  },
  known.model,
)

pub settled_reported_row : (covered : Bool) (at : Moment) (row : TransferRow) → IsMoment at.0 → IsKnownRow row → IsReportedRow (processed_row covered at row)
unfolding processed_row
settled_reported_row covered at row moment known =
    (record { id = known.id; info = known.info; reported = settled_reported covered; stamp = moment }, known.model)

pub spawned_reported : (id : ℕ) (date : Day) (row : ModelRow) → IsId id → IsDay date.0 → IsSoundModelRow row → IsReportedRow (spawned_row id date row)
unfolding spawned_row
spawned_reported id date row known day sound = (
  record {
    id = known;
    info = record { from = sound.info.from; to = sound.info.to; amount = sound.info.amount; due = day };
    reported = waiting_reported Waiting refl;
    stamp = IsMoment-midnight date.0 day;
  },
  sound.id,
)

-- the date of a transfer of a series
pub date_is : (row : ModelRow) (occurrence : ℕ) (date : Day) → IsSoundModelRow row → kth_date row.first row.recur.freq occurrence ≡ Some date → IsDay date.0
date_is row occurrence date sound is = (few_occurrences row.first date row.recur.freq occurrence sound.info.due is).1

-- ---- recurring transfers

pub new_model_reported : (id : ℕ) (day : Day) (recur : Recur) (info : XferInfo) → IsId id → IsDay day.0 → IsSoundRecur recur → IsSoundInfo info → IsSoundModelRow (new_model id day recur info)
unfolding new_model
new_model_reported id day recur info known business often sound = record {
  id = known;
  recur = often;
  info = record { from = sound.from; to = sound.to; amount = sound.amount; due = IsDay-due info.due day sound.due business };
}

pub changed_model_reported : (day : Day) (recur : Recur) (info : XferInfo) (row : ModelRow) → IsDay day.0 → IsSoundRecur recur → IsSoundInfo info → IsSoundModelRow row → IsSoundModelRow (changed_model day recur info row)
unfolding changed_model
changed_model_reported day recur info row business often sound known = record {
  id = known.id;
  recur = often;
  info = record { from = known.info.from; to = sound.to; amount = sound.amount; due = IsDay-due info.due day sound.due business };
}
