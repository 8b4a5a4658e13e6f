use Rattle.std.proofs.Common.{ℕ, ap, ◌∙◌}
use Rattle.std.specs.Fmt.{decimal}
use Rattle.bank_model.specs.Sync.{rejection}
use Rattle.bank_ledger.specs.DraftView.{drafted}
use Rattle.bank_core.proofs.SyncAnswers.{sync_reply-is, sync_after-is}
use Rattle.bank_core.proofs.sync.sync_object.Goals as goal

pub returns-clause-reply : goal.returns-clause-reply
returns-clause-reply c =
    sync_reply-is c.args.draft.now.setup (drafted c.args.draft.now) (drafted c.deeds_or_rejection.new.draft) c.args.draft.now.user c.args.draft.now.at c.args.ask.now c.args.object c.rejection-code.result c.in_ok-name.name c.in_ok-token.token c.is_lost-lost.result c.in_ok-reported.reported.items c.in_ok-replies.replies.items _
    (record {
      judged = c.rejection-code.ensures ∙ ap (λ (n : ℕ). rejection c.args.ask.now.reject n c.args.ask.now.kind) c.newest-before.ensures;
      left = c.in_ok-replies.ensures.after;
    })
    c.in_ok-name.ensures (c.in_ok-token.ensures ∙ ap decimal c.newest-after.ensures) c.is_lost-lost.ensures c.in_ok-reported.ensures c.in_ok-replies.ensures.replies c.from_vec.ensures

pub returns-clause-after : goal.returns-clause-after
returns-clause-after c =
    sync_after-is c.args.draft.now.setup (drafted c.args.draft.now) (drafted c.deeds_or_rejection.new.draft) c.args.draft.now.user c.args.draft.now.at c.args.ask.now c.args.object c.rejection-code.result
    (record {
      judged = c.rejection-code.ensures ∙ ap (λ (n : ℕ). rejection c.args.ask.now.reject n c.args.ask.now.kind) c.newest-before.ensures;
      left = c.in_ok-replies.ensures.after;
    })
