use Rattle.std.proofs.Common.{None, ap, sym, ◌∙◌, subst}
use Rattle.bank_model.specs.SetupForm.{IsWithinLimits}
use Rattle.bank_invariants.specs.SoundStates.{IsSoundState}
use Rattle.bank_core.specs.BookView.{ReservedBook}
use Rattle.bank_core.specs.Preparing.{prepared_after, IsPrepared}
use Rattle.bank_core.proofs.Outcomes.{prepared_with, letter_few, letter_known, unasked_letter}
use Rattle.bank_core.proofs.book.Book.prepare_letter.Goals as goal

pub letter-requires-clause-few : goal.letter-requires-clause-few
letter-requires-clause-few g c = letter_few c.args.self.now.setup c.args.self.now.state c.args.event.now c.args.held.now c.args.sent.0 (record { 0 = 0 }) c.args.sent.1 c.draft-draft.result c.args.subject.now c.args.body.now c.draft-draft.ensures c.requires.event c.requires.legal

pub letter-requires-clause-known : goal.letter-requires-clause-known
letter-requires-clause-known g c = letter_known c.args.self.now.setup c.args.self.now.state c.args.event.now c.args.held.now c.args.sent.0 (record { 0 = 0 }) c.args.sent.1 c.draft-draft.result c.args.subject.now c.args.body.now c.draft-draft.ensures c.requires.event c.requires.legal

pub new-requires : goal.new-requires
new-requires g c =
    let within = subst (λ (b : ReservedBook). IsWithinLimits b.setup) c.self.view_is c.self.invariant.0 in
    let sound = subst (λ (b : ReservedBook). IsSoundState b.setup b.state) c.self.view_is c.self.invariant.1 in
    let done = unasked_letter c.args.self.now.setup c.args.self.now.state c.args.event.now c.args.held.now c.args.sent.0 (record { 0 = 0 }) c.args.sent.1 c.draft-draft.result c.letter.new.draft c.finish-added.result c.args.subject.now c.args.body.now c.none-bytes.result.kept.items c.none-bytes.result.reported.items c.draft-draft.ensures c.requires.event c.in_ok-letter.ensures
    (record { user = c.finish-added.ensures.user; day = c.finish-added.ensures.day; entries = c.finish-added.ensures.entries; uids = c.finish-added.ensures.uids; rows = c.finish-added.ensures.rows; balances = c.finish-added.ensures.balances })
    c.none-bytes.ensures.reported within sound c.requires.moment c.requires.legal in
    subst (λ (b : ReservedBook). IsPrepared b.setup b.state c.args.event.now c.finish-added.result None None c.none-bytes.result.kept.items) (sym c.self.view_is) done.prepared

pub returns : goal.returns
returns g c =
    let within = subst (λ (b : ReservedBook). IsWithinLimits b.setup) c.self.view_is c.self.invariant.0 in
    let sound = subst (λ (b : ReservedBook). IsSoundState b.setup b.state) c.self.view_is c.self.invariant.1 in
    let done = unasked_letter c.args.self.now.setup c.args.self.now.state c.args.event.now c.args.held.now c.args.sent.0 (record { 0 = 0 }) c.args.sent.1 c.draft-draft.result c.letter.new.draft c.finish-added.result c.args.subject.now c.args.body.now c.none-bytes.result.kept.items c.none-bytes.result.reported.items c.draft-draft.ensures c.requires.event c.in_ok-letter.ensures
    (record { user = c.finish-added.ensures.user; day = c.finish-added.ensures.day; entries = c.finish-added.ensures.entries; uids = c.finish-added.ensures.uids; rows = c.finish-added.ensures.rows; balances = c.finish-added.ensures.balances })
    c.none-bytes.ensures.reported within sound c.requires.moment c.requires.legal in
    c.new.ensures
    ∙ ap (λ (b : ReservedBook). prepared_with b.setup b.state c.args.event.now (prepared_after b.state c.finish-added.result None None c.none-bytes.result.kept.items) c.none-bytes.result.reported.items) c.self.view_is
    ∙ done.is
