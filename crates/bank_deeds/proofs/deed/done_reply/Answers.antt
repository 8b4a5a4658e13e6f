use Rattle.std.proofs.Common.{◌∙◌, length, length-append, ap, arith}
use Rattle.std.proofs.lemmas.Result.{IfOk-weaker}
use Rattle.bank_model.specs.declared.event.State.{State}
use Rattle.bank_model.specs.Deeds.{done}
use Rattle.bank_ledger.specs.DraftView.{drafted}
use Rattle.bank_ledger.proofs.DraftStates.{drafted-added}
use Rattle.bank_invariants.proofs.StateLemmas.{IsAllowed-from_code}
use Rattle.bank_invariants.proofs.DoneLemmas.{done_count}
use Rattle.bank_deeds.proofs.DeedAnswers.{done_reply-is, used_entries, used_same, done_after-is, unused-code}
use Rattle.bank_deeds.proofs.deed.done_reply.Goals as goal

pub perform-requires-clause-few : goal.perform-requires-clause-few
perform-requires-clause-few c =
    let allowed = IsAllowed-from_code c.args.draft.now.setup (drafted c.args.draft.now) c.args.draft.now.user c.args.only c.args.draft.now.at c.args.trnuid.now c.args.deed.now c.requires.done in
    let count = done_count c.args.draft.now.setup (drafted c.args.draft.now) c.args.draft.now.user c.args.only c.args.draft.now.at c.args.trnuid.now c.args.deed.now c.args.pending.now allowed.judged c.requires.pending in
    let few = allowed.few in
    omega (arith, count, few)

pub perform-requires-clause-judged : goal.perform-requires-clause-judged
perform-requires-clause-judged c = (c.args.only, (IsAllowed-from_code c.args.draft.now.setup (drafted c.args.draft.now) c.args.draft.now.user c.args.only c.args.draft.now.at c.args.trnuid.now c.args.deed.now c.requires.done).judged)

pub use_up-requires : goal.use_up-requires
use_up-requires c =
    let has = c.in_ok-perform.ensures.added in
    let after = drafted-added c.args.draft.now c.perform.new.draft _ has in
    let unused = unused-code c.args.draft.now.setup (drafted c.args.draft.now) c.args.draft.now.user c.args.only c.args.draft.now.at c.args.trnuid.now c.args.deed.now 0 c.requires.done (omega arith) in
    rw (c.in_ok-uid.ensures, ap (λ (T : State). T.used) after, has.same.user) unused

pub reported-requires : goal.reported-requires
reported-requires c =
    let entries = used_entries c.args.draft.now c.perform.new.draft c.use_up.new.self c.in_ok-uid.uid _ c.in_ok-perform.ensures.added c.in_ok-use_up.ensures in
    let allowed = IsAllowed-from_code c.args.draft.now.setup (drafted c.args.draft.now) c.args.draft.now.user c.args.only c.args.draft.now.at c.args.trnuid.now c.args.deed.now c.requires.done in
    let count = done_count c.args.draft.now.setup (drafted c.args.draft.now) c.args.draft.now.user c.args.only c.args.draft.now.at c.args.trnuid.now c.args.deed.now c.args.pending.now allowed.judged c.requires.pending in
    let size = ap length entries ∙ length-append c.args.draft.now.entries (done c.args.draft.now.setup (drafted c.args.draft.now) c.args.draft.now.user c.args.draft.now.at c.args.trnuid.now c.args.deed.now) in
    let index = ap length c.entries-index.ensures in
    omega (arith, count, size, index)

pub returns-clause-reply : goal.returns-clause-reply
returns-clause-reply c =
    let entries = used_entries c.args.draft.now c.perform.new.draft c.use_up.new.self c.in_ok-uid.uid _ c.in_ok-perform.ensures.added c.in_ok-use_up.ensures in
    let reported = done_reply-is c.args.draft.now.setup (drafted c.args.draft.now) c.args.draft.now.user c.args.only c.args.draft.now.at c.args.trnuid.now c.args.deed.now c.args.draft.now.entries c.use_up.new.self.entries (length c.entries-index.result.now) c.requires.done entries (ap length c.entries-index.ensures) in
    IfOk-weaker c.reported.result _ _ (λ reply is. is ∙ reported) c.reported.ensures

pub returns-clause-after : goal.returns-clause-after
returns-clause-after c =
    let after = done_after-is c.args.draft.now c.perform.new.draft c.args.only c.args.trnuid.now c.args.deed.now c.requires.done c.in_ok-perform.ensures.added in
    IfOk-weaker c.reported.result _ _ (λ reply is. rw (c.in_ok-use_up.ensures, c.in_ok-uid.ensures) after) c.reported.ensures

pub returns-clause-file : goal.returns-clause-file
returns-clause-file c =
    let same = used_same c.args.draft.now c.perform.new.draft c.use_up.new.self c.in_ok-uid.uid c.in_ok-perform.ensures.added.same c.in_ok-use_up.ensures in
    IfOk-weaker c.reported.result _ _ (λ reply is. same) c.reported.ensures
