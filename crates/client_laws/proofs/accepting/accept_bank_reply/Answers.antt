use Rattle.std.proofs.Common.{◌≡◌, inl, List, Option, None, Some, Result, Ok, Err, OnOk, refl, sym, ap, ◌∙◌, subst}
use Rattle.ofx_types.specs.declared.number.ObjectId.{ObjectId}
use Rattle.ofx_types.specs.declared.number.UserId.{UserId}
use Rattle.ofx_types.specs.declared.sync.SyncKind.{SyncKind}
use Rattle.ofx_types.specs.declared.sync.SyncReply.{SyncReply}
use Rattle.bank_model.specs.declared.entry.Entry.{Entry}
use Rattle.bank_model.specs.declared.setup.Setup.{Setup}
use Rattle.bank_model.specs.Objects.{object_named}
use Rattle.bank_model.specs.Stores.{Store, IsRight, marked_lost, taken}
use Rattle.client_laws.proofs.accepting.accept_bank_reply.Goals as goal

-- a name has an object or has none
either_way : {P : Type 0} (found : Option ObjectId) → ((object : ObjectId) → found ≡ Some object → P) → (found ≡ None → P) → P
either_way None named unknown = unknown refl
either_way (Some object) named unknown = named object refl

module _ (setup : Setup) (user : UserId) (entries : List Entry) where
  -- what is marked lost is right
  lost_is_right : (store new : Store) → new ≡ marked_lost store → IsRight setup user new entries
  lost_is_right store new is = subst (λ (s : Store). IsRight setup user s entries) (sym is) (inl refl)

  -- what the store takes is the reply that the law speaks of
  right_after : {T E : Type 0} (result : Result T E) (store new : Store) (kind : SyncKind) (reply reported : SyncReply)
      → OnOk result (new ≡ taken store kind reply) → reply ≡ reported → IsRight setup user (taken store kind reported) entries
      → OnOk result (IsRight setup user new entries)
  right_after (Ok value) store new kind reply reported is same right =
      subst (λ (s : Store). IsRight setup user s entries) (sym (is ∙ ap (taken store kind) same)) right
  right_after (Err fault) store new kind reply reported is same right = tt

pub returns-clause-by_token : goal.returns-clause-by_token
returns-clause-by_token c = λ setup S user at text limits order sound name kind token kept right reported.
    let ask = c.args.ask.now in
    let store = c.args.store.now in
    right_after setup user _ c.take.result store c.take.new.self ask.kind c.args.reply.now _ c.take.ensures.taken reported
    (either_way (object_named setup user ask.object)
    (λ object named. c.stores_are_right_by_token.ensures.right setup S user at ask object store text limits order sound named name kind token kept right)
    (λ unknown. lost_is_right setup user _ store _ (c.strangers_stores_are_lost.ensures.after setup S user at ask store text unknown kind)))

pub returns-clause-by_refresh : goal.returns-clause-by_refresh
returns-clause-by_refresh c = λ setup S user at limits order sound name kind reported.
    let ask = c.args.ask.now in
    let store = c.args.store.now in
    right_after setup user _ c.take.result store c.take.new.self ask.kind c.args.reply.now _ c.take.ensures.taken reported
    (either_way (object_named setup user ask.object)
    (λ object named. c.stores_are_right_by_refresh.ensures.right setup S user at ask object store limits order sound named name kind)
    (λ unknown. lost_is_right setup user _ store _ (c.strangers_stores_are_lost.ensures.refresh setup S user at ask store unknown kind)))

pub returns-clause-token_alone : goal.returns-clause-token_alone
returns-clause-token_alone c = λ setup S user at order kind right reported.
    let ask = c.args.ask.now in
    let store = c.args.store.now in
    right_after setup user _ c.take.result store c.take.new.self ask.kind c.args.reply.now _ c.take.ensures.taken reported
    (c.token_alone_leaves_stores.ensures.right setup S user at ask user store order kind right)
