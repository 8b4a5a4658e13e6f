use Rattle.std.proofs.Common.{◌≡◌, ℕ, ◌++◌, List, Option, sym, ap, ◌∙◌, subst}
use Rattle.std.specs.Prelude.{IfOk, OnOk}
use Rattle.std.specs.List.{AllByRecursion, flat_map}
use Rattle.ofx_types.specs.SyncForm.{object_family}
use Rattle.ofx_types.specs.declared.number.AcctId.{AcctId}
use Rattle.ofx_types.specs.declared.number.UserId.{UserId}
use Rattle.ofx_types.specs.declared.transfer.Deed.{Deed}
use Rattle.bank_model.specs.declared.setup.Setup.{Setup}
use Rattle.bank_model.specs.Objects.{account_about}
use Rattle.bank_model.specs.Sync.{deed_answers, deeds_or_rejection}
use Rattle.bank_model.specs.Rules.{named_by_object, named_by_pair}
use Rattle.bank_model.specs.Sound.{IsSoundDeed}
use Rattle.bank_accounts.specs.HeldAccounts.{AreHeld}
use Rattle.bank_ledger.specs.DraftView.{drafted}
use Rattle.bank_core.proofs.AskAnswers.{AreHeld-rest}
use Rattle.bank_core.proofs.SyncAnswers.{sound_deeds}
use Rattle.bank_core.proofs.sync.deeds_or_rejection.Goals as goal

pub answer_deeds-requires-clause-deeds : goal.answer_deeds-requires-clause-deeds
answer_deeds-requires-clause-deeds c =
    subst (AllByRecursion (λ (deed : List ℕ × Deed). IsSoundDeed deed.1)) (sym c.items.ensures) (sound_deeds (object_family c.args.ask.now.object) c.args.ask.now.deeds c.requires.ask.deeds)

pub answer_deeds-requires-clause-named : goal.answer_deeds-requires-clause-named
answer_deeds-requires-clause-named c =
    subst (λ (l : List (List ℕ × Deed)). AreHeld c.args.draft.now.held (flat_map (named_by_pair c.args.draft.now.setup) l)) (sym c.items.ensures)
    (AreHeld-rest c.args.draft.now.held (named_by_object c.args.draft.now.setup c.args.ask.now.object) (flat_map (named_by_pair c.args.draft.now.setup) c.args.ask.now.deeds) c.requires.named)

pub returns-in-Some-clause-replies : goal.returns-in-Some-clause-replies
unfolding deeds_or_rejection
returns-in-Some-clause-replies c = rw c.in-Some.is c.refused_after.ensures

pub returns-in-None-clause-replies : goal.returns-in-None-clause-replies
unfolding deeds_or_rejection
returns-in-None-clause-replies c =
    let only = c.account_about-only.ensures ∙ ap (λ (s : Setup). account_about s c.user-user.result c.args.ask.now.object) c.setup.ensures.setup ∙ ap (λ (u : UserId). account_about c.args.draft.now.setup u c.args.ask.now.object) c.user-user.ensures in
    rw c.in-None.is
    (subst (λ (l : List (List ℕ × Deed)). IfOk c.answer_deeds.result (λ replies. replies.items ≡ c.args.reported.items ++ (deed_answers c.args.draft.now.setup (drafted c.args.draft.now) c.args.draft.now.user (account_about c.args.draft.now.setup c.args.draft.now.user c.args.ask.now.object) c.args.draft.now.at l).replies)) c.items.ensures
    (subst (λ (o : Option AcctId). IfOk c.answer_deeds.result (λ replies. replies.items ≡ c.args.reported.items ++ (deed_answers c.args.draft.now.setup (drafted c.args.draft.now) c.args.draft.now.user o c.args.draft.now.at c.items.result.now).replies)) only c.answer_deeds.ensures.replies))

pub returns-in-None-clause-after : goal.returns-in-None-clause-after
unfolding deeds_or_rejection
returns-in-None-clause-after c =
    let only = c.account_about-only.ensures ∙ ap (λ (s : Setup). account_about s c.user-user.result c.args.ask.now.object) c.setup.ensures.setup ∙ ap (λ (u : UserId). account_about c.args.draft.now.setup u c.args.ask.now.object) c.user-user.ensures in
    rw c.in-None.is
    (subst (λ (l : List (List ℕ × Deed)). OnOk c.answer_deeds.result (drafted c.answer_deeds.new.draft ≡ (deed_answers c.args.draft.now.setup (drafted c.args.draft.now) c.args.draft.now.user (account_about c.args.draft.now.setup c.args.draft.now.user c.args.ask.now.object) c.args.draft.now.at l).after)) c.items.ensures
    (subst (λ (o : Option AcctId). OnOk c.answer_deeds.result (drafted c.answer_deeds.new.draft ≡ (deed_answers c.args.draft.now.setup (drafted c.args.draft.now) c.args.draft.now.user o c.args.draft.now.at c.items.result.now).after)) only c.answer_deeds.ensures.after))
