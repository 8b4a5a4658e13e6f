use Rattle.std.proofs.Common.{ℕ, ◌<◌, List, length, Option, None, refl, sym, ap, ◌∙◌, subst}
use Rattle.bank_model.specs.SetupForm.{IsWithinLimits}
use Rattle.bank_model.specs.declared.event.Event.{Event}
use Rattle.bank_model.specs.declared.event.State.{State}
use Rattle.bank_model.specs.Rules.{reply_file, IsLegal, state_after}
use Rattle.ofx_types.specs.ReplyForm.{reply_text}
use Rattle.bank_invariants.specs.SoundStates.{IsSoundState}
use Rattle.bank_ledger.specs.DraftView.{DraftView}
use Rattle.bank_core.specs.BookView.{PreparedView, ReservedBook}
use Rattle.bank_core.specs.Preparing.{prepared_after, IsPrepared}
use Rattle.bank_core.proofs.Outcomes.{named_asks, IsPrepared-anew, anew_after, answered_of, no_copy, absent_unnamed}
use Rattle.bank_core.proofs.book.Book.prepare_unnamed.Goals as goal

pub answer_asks-requires-clause-known : goal.answer_asks-requires-clause-known
answer_asks-requires-clause-known g c =
    let legal = subst (λ (e : Event). IsLegal c.args.self.now.setup c.args.self.now.state c.args.sent.1 e) c.requires.event c.requires.legal in
    subst (λ (d : DraftView). d.user.0 < length d.setup.users) (sym c.draft-draft.ensures) legal.0

pub answer_asks-requires-clause-named : goal.answer_asks-requires-clause-named
answer_asks-requires-clause-named g c =
    named_asks c.args.self.now.setup c.args.self.now.state c.args.held.now c.args.event.now c.args.sent.0 c.args.sent.1 c.draft-draft.result c.args.file.now c.items.result.now c.requires.event c.items.ensures c.draft-draft.ensures c.requires.named

pub new-requires : goal.new-requires
new-requires g c =
    let within = subst (λ (b : ReservedBook). IsWithinLimits b.setup) c.self.view_is c.self.invariant.0 in
    let sound = subst (λ (b : ReservedBook). IsSoundState b.setup b.state) c.self.view_is c.self.invariant.1 in
    let reply = reply_file c.args.sent.1 c.args.file.now c.in_ok-_replies._replies in
    let answered = answered_of c.args.self.now.setup c.args.self.now.state c.args.held.now c.args.sent.0 c.args.sent.1 c.args.file.now c.draft-draft.result c.answer_asks.new.draft c.finish-added.result c.items.result.now c.in_ok-_replies._replies reply (reply_text reply) c.none-bytes.result.kept.items c.draft-draft.ensures c.items.ensures c.in_ok-_replies.ensures.file
    (record { user = c.finish-added.ensures.user; day = c.finish-added.ensures.day; entries = c.finish-added.ensures.entries; uids = c.finish-added.ensures.uids; rows = c.finish-added.ensures.rows; balances = c.finish-added.ensures.balances })
    c.in_ok-_replies.ensures.after c.in_ok-_replies.ensures.replies refl refl (no_copy c.args.file.now.newer _ _ c.requires.unnamed) in
    rw (c.in_ok-older.ensures, sym c.requires.unnamed)
    (subst (λ (b : ReservedBook). IsPrepared b.setup b.state c.args.event.now c.finish-added.result c.args.file.now.older c.args.file.now.newer c.none-bytes.result.kept.items) (sym c.self.view_is)
    (IsPrepared-anew c.args.self.now.setup c.args.self.now.state c.args.event.now c.args.sent.0 c.args.sent.1 c.args.file.now c.finish-added.result (reply_text reply) c.none-bytes.result.kept.items c.requires.event within sound c.requires.moment c.requires.legal (absent_unnamed c.args.self.now.state c.args.sent.0 c.args.file.now.newer c.requires.unnamed) answered))

pub returns-clause-after : goal.returns-clause-after
returns-clause-after g c =
    let reply = reply_file c.args.sent.1 c.args.file.now c.in_ok-_replies._replies in
    let answered = answered_of c.args.self.now.setup c.args.self.now.state c.args.held.now c.args.sent.0 c.args.sent.1 c.args.file.now c.draft-draft.result c.answer_asks.new.draft c.finish-added.result c.items.result.now c.in_ok-_replies._replies reply (reply_text reply) c.none-bytes.result.kept.items c.draft-draft.ensures c.items.ensures c.in_ok-_replies.ensures.file
    (record { user = c.finish-added.ensures.user; day = c.finish-added.ensures.day; entries = c.finish-added.ensures.entries; uids = c.finish-added.ensures.uids; rows = c.finish-added.ensures.rows; balances = c.finish-added.ensures.balances })
    c.in_ok-_replies.ensures.after c.in_ok-_replies.ensures.replies refl refl (no_copy c.args.file.now.newer _ _ c.requires.unnamed) in
    ap (λ (p : PreparedView). p.after) c.new.ensures
    ∙ ap (λ (older : Option (List ℕ)). prepared_after c.self.inside.ledger.state c.finish-added.result older None c.none-bytes.result.kept.items) c.in_ok-older.ensures
    ∙ ap (λ (newer : Option (List ℕ)). prepared_after c.self.inside.ledger.state c.finish-added.result c.args.file.now.older newer c.none-bytes.result.kept.items) (sym c.requires.unnamed)
    ∙ ap (λ (b : ReservedBook). prepared_after b.state c.finish-added.result c.args.file.now.older c.args.file.now.newer c.none-bytes.result.kept.items) c.self.view_is
    ∙ anew_after c.args.self.now.setup c.args.self.now.state c.args.sent.0 c.args.sent.1 c.args.file.now c.finish-added.result (reply_text reply) c.none-bytes.result.kept.items (absent_unnamed c.args.self.now.state c.args.sent.0 c.args.file.now.newer c.requires.unnamed) answered
    ∙ sym (ap (state_after c.args.self.now.setup c.args.self.now.state c.args.sent.1) c.requires.event)
