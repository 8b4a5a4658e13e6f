use Rattle.std.proofs.Common.{◌<◌, length, sym, ap, ◌∙◌, subst}
use Rattle.ofx_types.specs.Printable.{IsPrintable}
use Rattle.bank_model.specs.SetupForm.{IsWithinLimits}
use Rattle.bank_model.specs.declared.event.Event.{Event}
use Rattle.bank_model.specs.Rules.{raised, reply_file, IsLegal}
use Rattle.bank_invariants.specs.SoundStates.{IsSoundState}
use Rattle.bank_invariants.proofs.StateLemmas.{IsSoundState-raised}
use Rattle.bank_ledger.specs.DraftView.{DraftView}
use Rattle.bank_core.specs.BookView.{ReservedBook}
use Rattle.bank_core.specs.Preparing.{prepared_after, IsPrepared}
use Rattle.bank_core.proofs.Printing.{IsPrintable-reply_file}
use Rattle.bank_core.proofs.Outcomes.{prepared_with, asks_replies-are, named_asks, IsPrepared-anew, anew_is, answered_of}
use Rattle.bank_core.proofs.book.Book.prepare_anew.Goals as goal

pub answer_asks-requires-clause-known : goal.answer_asks-requires-clause-known
answer_asks-requires-clause-known g c =
    let legal = subst (λ (e : Event). IsLegal c.args.self.now.setup c.args.self.now.state c.args.sent.1 e) c.requires.event c.requires.legal in
    subst (λ (d : DraftView). d.user.0 < length d.setup.users) (sym c.draft-draft.ensures) legal.0

pub answer_asks-requires-clause-named : goal.answer_asks-requires-clause-named
answer_asks-requires-clause-named g c =
    named_asks c.args.self.now.setup c.args.self.now.state c.args.held.now c.args.event.now c.args.sent.0 c.args.sent.1 c.draft-draft.result c.args.file.now c.items.result.now c.requires.event c.items.ensures c.draft-draft.ensures c.requires.named

pub print-requires : goal.print-requires
print-requires g c =
    let within = subst (λ (b : ReservedBook). IsWithinLimits b.setup) c.self.view_is c.self.invariant.0 in
    let sound = subst (λ (b : ReservedBook). IsSoundState b.setup b.state) c.self.view_is c.self.invariant.1 in
    let replies = asks_replies-are c.args.self.now.setup c.args.self.now.state c.args.held.now c.args.sent.0 c.args.sent.1 c.draft-draft.result c.args.file.now.asks c.items.result.now c.in_ok-replies.replies c.draft-draft.ensures c.items.ensures c.in_ok-replies.ensures.replies in
    let legal = subst (λ (e : Event). IsLegal c.args.self.now.setup c.args.self.now.state c.args.sent.1 e) c.requires.event c.requires.legal in
    subst IsPrintable (sym (c.in_ok-reply.ensures ∙ ap (reply_file c.args.sent.1 c.args.file.now) replies))
    (IsPrintable-reply_file c.args.self.now.setup (raised c.args.self.now.state c.args.sent.1) c.args.sent.0 c.args.sent.1 c.args.file.now within
    (IsSoundState-raised c.args.self.now.setup c.args.self.now.state c.args.sent.1 sound c.requires.moment) c.requires.moment legal.1.asks)

pub new-requires : goal.new-requires
new-requires g c =
    let within = subst (λ (b : ReservedBook). IsWithinLimits b.setup) c.self.view_is c.self.invariant.0 in
    let sound = subst (λ (b : ReservedBook). IsSoundState b.setup b.state) c.self.view_is c.self.invariant.1 in
    let answered = answered_of c.args.self.now.setup c.args.self.now.state c.args.held.now c.args.sent.0 c.args.sent.1 c.args.file.now c.draft-draft.result c.answer_asks.new.draft c.finish-added.result c.items.result.now c.in_ok-replies.replies c.in_ok-reply.reply c.in_ok-reported.reported.items c.in_ok-kept.kept.items c.draft-draft.ensures c.items.ensures c.in_ok-replies.ensures.file
    (record { user = c.finish-added.ensures.user; day = c.finish-added.ensures.day; entries = c.finish-added.ensures.entries; uids = c.finish-added.ensures.uids; rows = c.finish-added.ensures.rows; balances = c.finish-added.ensures.balances })
    c.in_ok-replies.ensures.after c.in_ok-replies.ensures.replies c.in_ok-reply.ensures c.in_ok-reported.ensures (λ some. c.in_ok-kept.ensures some ∙ c.deref.ensures.value) in
    rw (c.in_ok-older.ensures, c.in_ok-newer.ensures)
    (subst (λ (b : ReservedBook). IsPrepared b.setup b.state c.args.event.now c.finish-added.result c.args.file.now.older c.args.file.now.newer c.in_ok-kept.kept.items) (sym c.self.view_is)
    (IsPrepared-anew c.args.self.now.setup c.args.self.now.state c.args.event.now c.args.sent.0 c.args.sent.1 c.args.file.now c.finish-added.result c.in_ok-reported.reported.items c.in_ok-kept.kept.items c.requires.event within sound c.requires.moment c.requires.legal c.requires.absent answered))

pub returns : goal.returns
returns g c =
    let answered = answered_of c.args.self.now.setup c.args.self.now.state c.args.held.now c.args.sent.0 c.args.sent.1 c.args.file.now c.draft-draft.result c.answer_asks.new.draft c.finish-added.result c.items.result.now c.in_ok-replies.replies c.in_ok-reply.reply c.in_ok-reported.reported.items c.in_ok-kept.kept.items c.draft-draft.ensures c.items.ensures c.in_ok-replies.ensures.file
    (record { user = c.finish-added.ensures.user; day = c.finish-added.ensures.day; entries = c.finish-added.ensures.entries; uids = c.finish-added.ensures.uids; rows = c.finish-added.ensures.rows; balances = c.finish-added.ensures.balances })
    c.in_ok-replies.ensures.after c.in_ok-replies.ensures.replies c.in_ok-reply.ensures c.in_ok-reported.ensures (λ some. c.in_ok-kept.ensures some ∙ c.deref.ensures.value) in
    rw (c.in_ok-older.ensures, c.in_ok-newer.ensures) at c.new.ensures
    ∙ ap (λ (b : ReservedBook). prepared_with b.setup b.state c.args.event.now (prepared_after b.state c.finish-added.result c.args.file.now.older c.args.file.now.newer c.in_ok-kept.kept.items) c.in_ok-reported.reported.items) c.self.view_is
    ∙ anew_is c.args.self.now.setup c.args.self.now.state c.args.event.now c.args.sent.0 c.args.sent.1 c.args.file.now c.finish-added.result c.in_ok-reported.reported.items c.in_ok-kept.kept.items c.requires.event c.requires.absent answered
