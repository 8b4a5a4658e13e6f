use Rattle.std.proofs.Common.{◌≡◌, ℕ, List, Option, Result, Ok, Err, map, refl, sym, ap, ◌∙◌, subst, arith}
use Rattle.std.specs.Prelude.{IfOk, OnOk, true}
use Rattle.std.proofs.lemmas.Fmt.{decimal_digit}
use Rattle.ofx_types.specs.declared.number.ObjectId.{ObjectId}
use Rattle.ofx_types.specs.declared.number.UserId.{UserId}
use Rattle.ofx_types.specs.SyncForm.{object_family}
use Rattle.bank_model.specs.declared.setup.Setup.{Setup}
use Rattle.bank_model.specs.Objects.{object_named}
use Rattle.bank_model.specs.Sync.{sync_on, sync_answer, refused_with}
use Rattle.bank_ledger.specs.DraftView.{drafted}
use Rattle.bank_core.proofs.sync.sync.Goals as goal

pub object-requires-clause-known : goal.object-requires-clause-known
object-requires-clause-known c = rw (c.user.ensures, c.setup.ensures.setup) c.requires.known

pub returns-in-Some-clause-reply : goal.returns-in-Some-clause-reply
unfolding sync_answer
returns-in-Some-clause-reply c =
    let found = ap (λ (u : UserId). object_named c.args.draft.now.setup u c.args.ask.now.object) (sym c.user.ensures) ∙ ap (λ (s : Setup). object_named s c.user.result c.args.ask.now.object) (sym c.setup.ensures.setup) ∙ sym c.object.ensures ∙ c.in-Some.is in
    subst (λ (f : Option ObjectId). IfOk c.sync_object.result (λ reply. reply ≡ (sync_on c.args.draft.now.setup (drafted c.args.draft.now) c.args.draft.now.user c.args.draft.now.at c.args.ask.now f).reply)) (sym found) c.sync_object.ensures.reply

pub returns-in-Some-clause-after : goal.returns-in-Some-clause-after
unfolding sync_answer
returns-in-Some-clause-after c =
    let found = ap (λ (u : UserId). object_named c.args.draft.now.setup u c.args.ask.now.object) (sym c.user.ensures) ∙ ap (λ (s : Setup). object_named s c.user.result c.args.ask.now.object) (sym c.setup.ensures.setup) ∙ sym c.object.ensures ∙ c.in-Some.is in
    subst (λ (f : Option ObjectId). OnOk c.sync_object.result (drafted c.sync_object.new.draft ≡ (sync_on c.args.draft.now.setup (drafted c.args.draft.now) c.args.draft.now.user c.args.draft.now.at c.args.ask.now f).after)) (sym found) c.sync_object.ensures.after

pub returns-in-None-clause-reply : goal.returns-in-None-clause-reply
unfolding sync_answer sync_on
returns-in-None-clause-reply c =
    let found = ap (λ (u : UserId). object_named c.args.draft.now.setup u c.args.ask.now.object) (sym c.user.ensures) ∙ ap (λ (s : Setup). object_named s c.user.result c.args.ask.now.object) (sym c.setup.ensures.setup) ∙ sym c.object.ensures ∙ c.in-None.is in
    subst (λ (f : Option ObjectId). IfOk c.stranger_reply.result (λ reply. reply ≡ (sync_on c.args.draft.now.setup (drafted c.args.draft.now) c.args.draft.now.user c.args.draft.now.at c.args.ask.now f).reply)) (sym found)
    (subst (λ (t : List ℕ). IfOk c.stranger_reply.result (λ reply. reply ≡ record { object = c.args.ask.now.object; token = t; lost = true; replies = map (refused_with (object_family c.args.ask.now.object) 2003) c.args.ask.now.deeds })) (decimal_digit 0 (omega arith)) c.stranger_reply.ensures)

always : {T E P : Type 0} (result : Result T E) → P → OnOk result P
always (Ok value) fact = fact
always (Err fault) fact = tt

pub returns-in-None-clause-after : goal.returns-in-None-clause-after
unfolding sync_answer sync_on
returns-in-None-clause-after c =
    let found = ap (λ (u : UserId). object_named c.args.draft.now.setup u c.args.ask.now.object) (sym c.user.ensures) ∙ ap (λ (s : Setup). object_named s c.user.result c.args.ask.now.object) (sym c.setup.ensures.setup) ∙ sym c.object.ensures ∙ c.in-None.is in
    always c.stranger_reply.result (subst (λ (f : Option ObjectId). drafted c.args.draft.now ≡ (sync_on c.args.draft.now.setup (drafted c.args.draft.now) c.args.draft.now.user c.args.draft.now.at c.args.ask.now f).after) (sym found) refl)
