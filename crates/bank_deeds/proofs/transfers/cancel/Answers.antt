use Rattle.std.proofs.Common.{ℕ, ◌+◌, ap}
use Rattle.bank_ledger.specs.DraftView.{drafted}
use Rattle.bank_deeds.proofs.DeedAnswers.{cancel_there, cancel_from, IsCancelEntry-of}
use Rattle.bank_ledger.proofs.DraftStates.{added_as}
use Rattle.bank_deeds.proofs.transfers.cancel.Goals as goal

pub cancelled-requires : goal.cancelled-requires
cancelled-requires c = cancel_there c.args.draft.now.setup (drafted c.args.draft.now) c.args.draft.now.user c.requires.judged.0 c.args.id c.requires.judged.1

pub object_of-object-requires : goal.object_of-object-requires
object_of-object-requires c =
    cancel_from c.args.draft.now.setup (drafted c.args.draft.now) c.args.draft.now.user c.requires.judged.0 c.args.id c.in_ok-row.row c.requires.judged.1 c.in_ok-row.ensures

pub enter-requires-clause-next : goal.enter-requires-clause-next
enter-requires-clause-next c = (IsCancelEntry-of c.args.draft.now.setup (drafted c.args.draft.now) c.args.draft.now.user c.requires.judged.0 c.args.draft.now.at c.args.trnuid.now c.args.id (c.count-number.result + 1) c.object_of-object.result c.in_ok-trnuid.trnuid c.in_ok-row.row c.count-number.ensures.sound c.requires.judged.1 (ap (λ (n : ℕ). n + 1) c.count-number.ensures.count) c.object_of-object.ensures c.in_ok-trnuid.ensures c.in_ok-row.ensures).next

pub enter-requires-clause-gives : goal.enter-requires-clause-gives
enter-requires-clause-gives c = (IsCancelEntry-of c.args.draft.now.setup (drafted c.args.draft.now) c.args.draft.now.user c.requires.judged.0 c.args.draft.now.at c.args.trnuid.now c.args.id (c.count-number.result + 1) c.object_of-object.result c.in_ok-trnuid.trnuid c.in_ok-row.row c.count-number.ensures.sound c.requires.judged.1 (ap (λ (n : ℕ). n + 1) c.count-number.ensures.count) c.object_of-object.ensures c.in_ok-trnuid.ensures c.in_ok-row.ensures).gives

pub returns : goal.returns
returns c = record {
  added =
      added_as c.args.draft.now c.enter.new.self _ _ (IsCancelEntry-of c.args.draft.now.setup (drafted c.args.draft.now) c.args.draft.now.user c.requires.judged.0 c.args.draft.now.at c.args.trnuid.now c.args.id (c.count-number.result + 1) c.object_of-object.result c.in_ok-trnuid.trnuid c.in_ok-row.row c.count-number.ensures.sound c.requires.judged.1 (ap (λ (n : ℕ). n + 1) c.count-number.ensures.count) c.object_of-object.ensures c.in_ok-trnuid.ensures c.in_ok-row.ensures).entries c.in_ok-enter.ensures;
}
