-- What holds of a bank between the calls of its engine.
use Rattle.std.specs.Prelude.{◌≡◌, ℕ, ◌≤◌, Bool, true, false, List, All, Option, None, Some}
use Rattle.std.specs.Option.{IfSome, IsSomeAnd}
use Rattle.bank_model.specs.declared.event.State.{State}
use Rattle.bank_model.specs.declared.log.LogItem.{LogItem}
use Rattle.bank_model.specs.declared.log.LogItem.TheVariants.{Effect, Answer, Adopted, Fault}
use Rattle.bank_model.specs.declared.setup.Setup.{Setup}
use Rattle.bank_model.specs.Log.{endings, entries_in}
use Rattle.bank_model.specs.LegalLog.{IsWholeLog, IsPending, ends}
use Rattle.bank_engine.specs.Kept.{AreKept}
use Rattle.bank_engine.specs.Views.{PendingView, JournalView}

-- A fault's count is at most this one.
abbrev pub IsUpTo : ℕ → LogItem → Type 0
IsUpTo faults (Effect entry) = Unit {0}
IsUpTo faults (Answer event at reply) = Unit {0}
IsUpTo faults (Adopted fault event at) = Unit {0}
IsUpTo faults (Fault count pending) = count ≤ faults

-- Where an append failed and isn't settled, the keeper knows of it, and the log tells of its fault. Otherwise nothing is to be
-- settled.
abbrev pub Awaits : List LogItem → Bool → Option PendingView → Type 0
Awaits log unsettled None = unsettled ≡ false
Awaits log unsettled (Some pending) =
    (unsettled ≡ true) × IsPending (endings log) pending.number pending.event pending.at

-- The log is legal from the state in which the bank opened, and no group of it is cut. The book stands for the state that it ends
-- in, whose entries are the opening ones and the log's. Where the keeper reported its records when the bank opened, `first`, it
-- has these and the records of what the log answered and adopted. Its count of faults is at least that of each fault.
pub record IsTrue (setup : Setup) (opening : State) (first : Option (List (List ℕ))) (journal : JournalView) : Type 0 where
  pub own : journal.setup ≡ setup
  pub legal : IsWholeLog setup opening journal.log
  pub holds : journal.state ≡ ends setup opening journal.log
  pub entries : journal.state.entries ≡ entries_in opening journal.log
  pub kept : IfSome first (λ rs. IsSomeAnd journal.records (AreKept setup opening rs journal.log journal.landed journal.pending))
  pub counts : All (IsUpTo journal.faults) (endings journal.log)
  pub awaits : Awaits journal.log journal.unsettled journal.pending
