use Rattle.std.proofs.Common.{get_or, ◌≡◌, false}
use Rattle.ofx_types.specs.AccountForm.{same_account}
use Rattle.ofx_types.specs.declared.transfer.TransferRow.{TransferRow}
use Rattle.bank_ledger.specs.DraftView.{drafted}
use Rattle.bank_invariants.proofs.DoneLemmas.{with_new_terms, change_way}
use Rattle.bank_deeds.proofs.PendingAnswers.{there, suits_terms}
use Rattle.bank_deeds.proofs.PendingSteps.{item_is, so_far-none, waits_next, few_next, terms_next, so_far-more, so_far-all, after_same}
use Rattle.bank_deeds.proofs.pending.change_pending.Goals as goal

pub loop-id-init : goal.loop-id-init
loop-id-init c = so_far-none c.args.draft.now.setup c.args.draft.now (with_new_terms c.args.info.now) c.args.ids.now

pub change_waiting-requires-clause-few : goal.change_waiting-requires-clause-few
change_waiting-requires-clause-few c = rw c.loop-id.invariant.added.same.setup (few_next c.args.draft.now.setup c.args.draft.now c.loop-id.draft (with_new_terms c.args.info.now) c.args.ids.now c.loop-id.id-index c.loop-id.invariant c.loop-id-test.true c.requires.few)

pub change_waiting-requires-clause-waits : goal.change_waiting-requires-clause-waits
change_waiting-requires-clause-waits c = waits_next c.args.draft.now.setup c.args.draft.now c.loop-id.draft (with_new_terms c.args.info.now) c.args.ids.now c.loop-id.id-index (get_or c.args.ids.now c.loop-id.id-index 0) c.loop-id.invariant c.requires.waiting c.loop-id-test.true (item_is c.args.ids.now c.loop-id.id-index c.loop-id-test.true)

pub change_waiting-requires-clause-terms : goal.change_waiting-requires-clause-terms
change_waiting-requires-clause-terms c = rw c.loop-id.invariant.added.same.setup (terms_next c.args.draft.now.setup c.args.draft.now c.loop-id.draft (with_new_terms c.args.info.now) c.args.ids.now c.loop-id.id-index (get_or c.args.ids.now c.loop-id.id-index 0) c.args.info.now c.loop-id.invariant c.requires.terms c.loop-id-test.true (item_is c.args.ids.now c.loop-id.id-index c.loop-id-test.true))

pub returns : goal.returns
returns c = so_far-all c.args.draft.now.setup c.args.draft.now c.loop-id.draft (with_new_terms c.args.info.now) c.args.ids.now c.loop-id.id-index c.loop-id.invariant c.loop-id-test.false

pub loop-id-preserved : goal.loop-id-preserved
loop-id-preserved c =
    let mid = drafted c.loop-id.draft in
    let wait = waits_next c.args.draft.now.setup c.args.draft.now c.loop-id.draft (with_new_terms c.args.info.now) c.args.ids.now c.loop-id.id-index (get_or c.args.ids.now c.loop-id.id-index 0) c.loop-id.invariant c.requires.waiting c.loop-id-test.true (item_is c.args.ids.now c.loop-id.id-index c.loop-id-test.true) in
    let at = there mid.entries (get_or c.args.ids.now c.loop-id.id-index 0) wait in
    let terms = terms_next c.args.draft.now.setup c.args.draft.now c.loop-id.draft (with_new_terms c.args.info.now) c.args.ids.now c.loop-id.id-index (get_or c.args.ids.now c.loop-id.id-index 0) c.args.info.now c.loop-id.invariant c.requires.terms c.loop-id-test.true (item_is c.args.ids.now c.loop-id.id-index c.loop-id-test.true) in
    so_far-more c.args.draft.now.setup c.args.draft.now c.loop-id.draft c.change_waiting.new.draft (with_new_terms c.args.info.now) (λ (row : TransferRow). same_account c.args.info.now.to row.from ≡ false) c.args.ids.now c.loop-id.id-index (get_or c.args.ids.now c.loop-id.id-index 0) at.row
    (change_way c.args.draft.now.setup c.args.info.now (suits_terms c.args.draft.now.setup mid (get_or c.args.ids.now c.loop-id.id-index 0) c.args.info.now c.requires.info terms)) c.loop-id.invariant c.requires.waiting c.loop-id-test.true (item_is c.args.ids.now c.loop-id.id-index c.loop-id-test.true) at.found
    (after_same c.args.draft.now.setup c.loop-id.draft c.change_waiting.new.draft (with_new_terms c.args.info.now) _ _ c.loop-id.invariant.added.same.setup c.in_ok-change_waiting.ensures)
