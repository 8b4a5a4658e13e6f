use Rattle.std.proofs.Common.{ℕ, ◌+◌, ap}
use Rattle.bank_ledger.specs.DraftView.{drafted}
use Rattle.bank_ledger.proofs.DraftStates.{added_as}
use Rattle.bank_deeds.proofs.ModelAnswers.{drop_there, drop_own, IsDropModelEntry-of}
use Rattle.bank_deeds.proofs.models.drop_model.Goals as goal

pub object_of_model-object-requires-clause-there : goal.object_of_model-object-requires-clause-there
object_of_model-object-requires-clause-there c = drop_there c.args.draft.now.setup (drafted c.args.draft.now) c.args.draft.now.user c.requires.judged.0 c.args.id c.args.also c.requires.judged.1

pub object_of_model-object-requires-clause-own : goal.object_of_model-object-requires-clause-own
object_of_model-object-requires-clause-own c = drop_own c.args.draft.now.setup (drafted c.args.draft.now) c.args.draft.now.user c.requires.judged.0 c.args.id c.args.also c.requires.judged.1

pub enter-requires-clause-next : goal.enter-requires-clause-next
enter-requires-clause-next c = (IsDropModelEntry-of c.args.draft.now.setup (drafted c.args.draft.now) c.args.draft.now.user c.requires.judged.0 c.args.trnuid.now c.args.id c.args.also (c.count-number.result + 1) c.object_of_model-object.result c.in_ok-trnuid.trnuid c.count-number.ensures.sound c.requires.judged.1 (ap (λ (n : ℕ). n + 1) c.count-number.ensures.count) c.object_of_model-object.ensures c.in_ok-trnuid.ensures).next

pub enter-requires-clause-gives : goal.enter-requires-clause-gives
enter-requires-clause-gives c = (IsDropModelEntry-of c.args.draft.now.setup (drafted c.args.draft.now) c.args.draft.now.user c.requires.judged.0 c.args.trnuid.now c.args.id c.args.also (c.count-number.result + 1) c.object_of_model-object.result c.in_ok-trnuid.trnuid c.count-number.ensures.sound c.requires.judged.1 (ap (λ (n : ℕ). n + 1) c.count-number.ensures.count) c.object_of_model-object.ensures c.in_ok-trnuid.ensures).gives

pub returns-clause-added : goal.returns-clause-added
returns-clause-added c =
    added_as c.args.draft.now c.enter.new.self _ _ (IsDropModelEntry-of c.args.draft.now.setup (drafted c.args.draft.now) c.args.draft.now.user c.requires.judged.0 c.args.trnuid.now c.args.id c.args.also (c.count-number.result + 1) c.object_of_model-object.result c.in_ok-trnuid.trnuid c.count-number.ensures.sound c.requires.judged.1 (ap (λ (n : ℕ). n + 1) c.count-number.ensures.count) c.object_of_model-object.ensures c.in_ok-trnuid.ensures).entries c.in_ok-enter.ensures
