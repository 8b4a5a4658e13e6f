use Rattle.std.proofs.Common.{◌+◌, sym, length, ◌∙◌, arith}
use Rattle.bank_ledger.specs.DraftView.{drafted}
use Rattle.bank_invariants.proofs.DoneLemmas.{done_count}
use Rattle.bank_deeds.proofs.DeedAnswers.{room_code-is, judged_code-is}
use Rattle.bank_deeds.proofs.deed.code.Goals as goal
use Rattle.bank_invariants.proofs.UidLaws.{used_code-is}

pub returns-then-is_used : goal.returns-then-is_used
returns-then-is_used c =
    sym (used_code-is c.args.draft.now.setup (drafted c.args.draft.now) c.args.draft.now.user c.args.only c.args.draft.now.at c.args.trnuid.now c.args.deed.now
    (sym c.is_used.ensures ∙ c.if-is_used.true))

pub returns-in-0 : goal.returns-in-0
returns-in-0 c =
    let none = sym c.judged.ensures ∙ c.in-0.is in
    let count = done_count c.args.draft.now.setup (drafted c.args.draft.now) c.args.draft.now.user c.args.only c.args.draft.now.at c.args.trnuid.now c.args.deed.now c.args.pending.now none c.requires.pending in
    c.room_code.ensures
    ∙ sym (room_code-is c.args.draft.now.setup (drafted c.args.draft.now) c.args.draft.now.user c.args.only c.args.draft.now.at c.args.trnuid.now c.args.deed.now (length c.args.pending.now + 1)
    (sym c.is_used.ensures ∙ c.if-is_used.false) none count)

pub returns-in_default : goal.returns-in_default
returns-in_default c =
    c.judged.ensures
    ∙ sym (judged_code-is c.args.draft.now.setup (drafted c.args.draft.now) c.args.draft.now.user c.args.only c.args.draft.now.at c.args.trnuid.now c.args.deed.now
    (sym c.is_used.ensures ∙ c.if-is_used.false) (λ none. omega (arith, none)))
