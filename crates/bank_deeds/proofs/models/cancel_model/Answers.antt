use Rattle.std.proofs.Common.{◌∷◌, List, sym, ap, ◌∙◌, subst, arith}
use Rattle.bank_model.specs.declared.entry.Entry.{Entry}
use Rattle.bank_ledger.specs.DraftView.{drafted, HasAdded}
use Rattle.bank_invariants.proofs.DeedLemmas.{to_drop, drop_entry}
use Rattle.bank_invariants.proofs.DoneLemmas.{dropping, drop_model_entries}
use Rattle.bank_deeds.proofs.ModelAnswers.{own_drop}
use Rattle.bank_ledger.proofs.DraftStates.{added_trans}
use Rattle.bank_deeds.proofs.PendingSteps.{after_same}
use Rattle.bank_deeds.proofs.AlongAnswers.{between}
use Rattle.bank_deeds.proofs.models.cancel_model.Goals as goal

pub drop_pending-requires-clause-few : goal.drop_pending-requires-clause-few
drop_pending-requires-clause-few c =
    let to = to_drop c.args.draft.now.setup (drafted c.args.draft.now) c.args.draft.now.user c.requires.judged.0 c.args.asked.0 c.args.asked.1 c.requires.judged.1 in
    let own = own_drop c.args.draft.now.setup (drafted c.args.draft.now) c.args.trnuid.now c.args.asked.0 c.args.asked.1 to.row to.found in
    let has = subst (HasAdded c.args.draft.now c.drop_model.new.draft) own c.in_ok-drop_model.ensures.added in
    let mid = between c.args.draft.now.setup c.args.draft.now c.drop_model.new.draft (drop_entry c.args.draft.now.setup (drafted c.args.draft.now) c.args.trnuid.now c.args.asked.0 c.args.asked.1 to.row) dropping c.args.asked.1 c.args.asked.0 c.args.pending.now c.in_ok-drop_model.ensures.sound tt c.requires.pending has in
    let size = mid.size in
    let few = c.requires.few in
    rw has.same.setup (omega arith)

pub drop_pending-requires-clause-waiting : goal.drop_pending-requires-clause-waiting
drop_pending-requires-clause-waiting c =
    let to = to_drop c.args.draft.now.setup (drafted c.args.draft.now) c.args.draft.now.user c.requires.judged.0 c.args.asked.0 c.args.asked.1 c.requires.judged.1 in
    let own = own_drop c.args.draft.now.setup (drafted c.args.draft.now) c.args.trnuid.now c.args.asked.0 c.args.asked.1 to.row to.found in
    let has = subst (HasAdded c.args.draft.now c.drop_model.new.draft) own c.in_ok-drop_model.ensures.added in
    let mid = between c.args.draft.now.setup c.args.draft.now c.drop_model.new.draft (drop_entry c.args.draft.now.setup (drafted c.args.draft.now) c.args.trnuid.now c.args.asked.0 c.args.asked.1 to.row) dropping c.args.asked.1 c.args.asked.0 c.args.pending.now c.in_ok-drop_model.ensures.sound tt c.requires.pending has in
    mid.waiting

pub returns : goal.returns
returns c =
    let to = to_drop c.args.draft.now.setup (drafted c.args.draft.now) c.args.draft.now.user c.requires.judged.0 c.args.asked.0 c.args.asked.1 c.requires.judged.1 in
    let own = own_drop c.args.draft.now.setup (drafted c.args.draft.now) c.args.trnuid.now c.args.asked.0 c.args.asked.1 to.row to.found in
    let has = subst (HasAdded c.args.draft.now c.drop_model.new.draft) own c.in_ok-drop_model.ensures.added in
    let mid = between c.args.draft.now.setup c.args.draft.now c.drop_model.new.draft (drop_entry c.args.draft.now.setup (drafted c.args.draft.now) c.args.trnuid.now c.args.asked.0 c.args.asked.1 to.row) dropping c.args.asked.1 c.args.asked.0 c.args.pending.now c.in_ok-drop_model.ensures.sound tt c.requires.pending has in
    record {
      added = subst (HasAdded c.args.draft.now c.drop_pending.new.draft) (ap (λ (l : List Entry). (drop_entry c.args.draft.now.setup (drafted c.args.draft.now) c.args.trnuid.now c.args.asked.0 c.args.asked.1 to.row) ∷ l) mid.rest ∙ sym (drop_model_entries c.args.draft.now.setup (drafted c.args.draft.now) c.args.draft.now.user c.args.draft.now.at c.args.trnuid.now c.args.asked.0 c.args.asked.1 to.row to.found))
          (added_trans c.args.draft.now c.drop_model.new.draft c.drop_pending.new.draft _ _ has (after_same c.args.draft.now.setup c.drop_model.new.draft c.drop_pending.new.draft dropping _ _ has.same.setup c.in_ok-drop_pending.ensures));
    }
