use Rattle.std.proofs.Common.{None, ap, sym, ◌∙◌, subst}
use Rattle.bank_invariants.specs.SoundStates.{IsSoundState}
use Rattle.bank_ledger.specs.DraftView.{DraftView}
use Rattle.bank_ledger.proofs.DraftStates.{IsSameFile-self}
use Rattle.bank_core.specs.BookView.{ReservedBook}
use Rattle.bank_core.specs.Preparing.{prepared_after, IsPrepared}
use Rattle.bank_core.proofs.Outcomes.{IsAddedTo-of, prepared_with, IsPrepared-again, again_is}
use Rattle.bank_core.proofs.book.Book.prepare_again.Goals as goal

pub new-requires-2 : goal.new-requires-2
new-requires-2 g c =
    let is = c.draft-draft.ensures in
    let sound = subst (λ (b : ReservedBook). IsSoundState b.setup b.state) c.self.view_is c.self.invariant.1 in
    let to = IsAddedTo-of c.args.self.now.setup c.args.self.now.state c.draft-draft.result c.draft-draft.result c.finish-added.result (ap (λ (d : DraftView). d.setup) is) (ap (λ (d : DraftView). d.before) is) (IsSameFile-self c.draft-draft.result)
    (record { user = c.finish-added.ensures.user; day = c.finish-added.ensures.day; entries = c.finish-added.ensures.entries; uids = c.finish-added.ensures.uids; rows = c.finish-added.ensures.rows; balances = c.finish-added.ensures.balances }) in
    subst (λ (b : ReservedBook). IsPrepared b.setup b.state c.args.event.now c.finish-added.result None None c.new.result.items) (sym c.self.view_is)
    (IsPrepared-again c.args.self.now.setup c.args.self.now.state c.args.event.now c.args.held.now c.args.sent.0 c.args.sent.1 c.draft-draft.result c.finish-added.result c.args.file.now c.new.result.items c.args.reply.now c.requires.event is to c.requires.kept sound c.requires.moment)

pub returns : goal.returns
returns g c =
    let is = c.draft-draft.ensures in
    let to = IsAddedTo-of c.args.self.now.setup c.args.self.now.state c.draft-draft.result c.draft-draft.result c.finish-added.result (ap (λ (d : DraftView). d.setup) is) (ap (λ (d : DraftView). d.before) is) (IsSameFile-self c.draft-draft.result)
    (record { user = c.finish-added.ensures.user; day = c.finish-added.ensures.day; entries = c.finish-added.ensures.entries; uids = c.finish-added.ensures.uids; rows = c.finish-added.ensures.rows; balances = c.finish-added.ensures.balances }) in
    c.new-2.ensures
    ∙ ap (λ (b : ReservedBook). prepared_with b.setup b.state c.args.event.now (prepared_after b.state c.finish-added.result None None c.new.result.items) c.in_ok-reported.reported.items) c.self.view_is
    ∙ again_is c.args.self.now.setup c.args.self.now.state c.args.event.now c.args.held.now c.args.sent.0 c.args.sent.1 c.draft-draft.result c.finish-added.result c.args.file.now c.new.result.items c.args.reply.now c.in_ok-reported.reported.items c.requires.event is to c.requires.kept c.in_ok-reported.ensures.items
