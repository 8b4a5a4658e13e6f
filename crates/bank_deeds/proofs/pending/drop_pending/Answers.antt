use Rattle.std.proofs.Common.{get_or}
use Rattle.ofx_types.specs.declared.transfer.TransferRow.{TransferRow}
use Rattle.bank_ledger.specs.DraftView.{drafted}
use Rattle.bank_invariants.proofs.DoneLemmas.{dropping, drop_way}
use Rattle.bank_deeds.proofs.PendingAnswers.{there}
use Rattle.bank_deeds.proofs.PendingSteps.{item_is, so_far-none, waits_next, few_next, so_far-more, so_far-all, after_same}
use Rattle.bank_deeds.proofs.pending.drop_pending.Goals as goal

pub loop-id-init : goal.loop-id-init
loop-id-init c = so_far-none c.args.draft.now.setup c.args.draft.now dropping c.args.ids.now

pub drop_waiting-requires-clause-few : goal.drop_waiting-requires-clause-few
drop_waiting-requires-clause-few c = rw c.loop-id.invariant.added.same.setup (few_next c.args.draft.now.setup c.args.draft.now c.loop-id.draft dropping c.args.ids.now c.loop-id.id-index c.loop-id.invariant c.loop-id-test.true c.requires.few)

pub drop_waiting-requires-clause-waits : goal.drop_waiting-requires-clause-waits
drop_waiting-requires-clause-waits c = waits_next c.args.draft.now.setup c.args.draft.now c.loop-id.draft dropping c.args.ids.now c.loop-id.id-index (get_or c.args.ids.now c.loop-id.id-index 0) c.loop-id.invariant c.requires.waiting c.loop-id-test.true (item_is c.args.ids.now c.loop-id.id-index c.loop-id-test.true)

pub returns : goal.returns
returns c = so_far-all c.args.draft.now.setup c.args.draft.now c.loop-id.draft dropping c.args.ids.now c.loop-id.id-index c.loop-id.invariant c.loop-id-test.false

pub loop-id-preserved : goal.loop-id-preserved
loop-id-preserved c =
    let mid = drafted c.loop-id.draft in
    let wait = waits_next c.args.draft.now.setup c.args.draft.now c.loop-id.draft dropping c.args.ids.now c.loop-id.id-index (get_or c.args.ids.now c.loop-id.id-index 0) c.loop-id.invariant c.requires.waiting c.loop-id-test.true (item_is c.args.ids.now c.loop-id.id-index c.loop-id-test.true) in
    let at = there mid.entries (get_or c.args.ids.now c.loop-id.id-index 0) wait in
    so_far-more c.args.draft.now.setup c.args.draft.now c.loop-id.draft c.drop_waiting.new.draft dropping (λ (row : TransferRow). Unit {0}) c.args.ids.now c.loop-id.id-index (get_or c.args.ids.now c.loop-id.id-index 0) at.row (drop_way c.args.draft.now.setup) c.loop-id.invariant c.requires.waiting c.loop-id-test.true (item_is c.args.ids.now c.loop-id.id-index c.loop-id-test.true) at.found
    (after_same c.args.draft.now.setup c.loop-id.draft c.drop_waiting.new.draft dropping _ _ c.loop-id.invariant.added.same.setup c.in_ok-drop_waiting.ensures)
