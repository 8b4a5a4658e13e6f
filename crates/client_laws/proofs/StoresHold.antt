-- All stores of a client that makes a file, takes the bank's reply in, or gives a file up.
use Rattle.std.proofs.Common.{◌≡◌, Option, Result, Ok, Err, sym, subst, ◌∙◌}
use Rattle.std.specs.Option.{IfSome}
use Rattle.std.proofs.lemmas.List.Elements.{All-from_recursion, recursion_from_All}
use Rattle.ofx_types.specs.declared.reply.ReplyFile.{ReplyFile}
use Rattle.sync_laws.proofs.Named.{right_later}
use Rattle.bank_model.specs.Stores.{Store, IsRight}
use Rattle.client_core.specs.Accepting.{Accepted, with_replies}
use Rattle.client_core.specs.Making.{objects_of, with_file, made_for, made}
use Rattle.client_core.specs.Objects.{with_stores}
use Rattle.client_core.specs.Wishes.{content_of}
use Rattle.client_core.specs.declared.content.Content.{Content}
use Rattle.client_core.specs.declared.fault.ClientFault.{ClientFault}
use Rattle.client_laws.specs.Answers.{bank_reply}
use Rattle.client_saved.specs.Bounds.{IsSoundOutstanding, AreDistinct}
use Rattle.client_saved.specs.declared.state.ClientState.{ClientState}
use Rattle.client_saved.specs.declared.state.Outstanding.{Outstanding}
use Rattle.client_laws.specs.ClientStores.{AreRight, IsAsked, AsksRightly, MadeFilesAskRightly, AcceptedRepliesKeepStores, DiscardedFilesKeepStores, StoresStayRight}
use Rattle.client_laws.proofs.Accepted.{replies_right}
use Rattle.client_laws.proofs.Answered.{reply_accepted}
use Rattle.client_laws.proofs.AsksMade.{asks_known, asks_apart, right_with}

same_ok : {T : Type 0} (a b : T) → ◌≡◌ {A = Result T ClientFault} (Ok a) (Ok b) → a ≡ b
same_ok a b same = cc

err_ok : {T : Type 0} (fault : ClientFault) (a : T) → ◌≡◌ {A = Result T ClientFault} (Err fault) (Ok a) → ⊥
err_ok fault a same = cc

pub makes_rightly : MadeFilesAskRightly
unfolding made
makes_rightly setup S user client next wish at order is sound right = go (content_of client wish at) is
  where
    go : (found : Result Content ClientFault) → made_for client at found ≡ Ok next → AsksRightly next × AreRight setup user S next
    go (Err fault) same = absurd (err_ok fault next same)
    go (Ok content) same =
        let next_is : with_file client at content ≡ next = same_ok (with_file client at content) next same in
        let distinct : AreDistinct (with_stores (objects_of content) client.stores) = subst (λ (c : ClientState). AreDistinct c.stores) (sym next_is) sound.distinct in
        subst (λ (c : ClientState). AsksRightly c × AreRight setup user S c) next_is (
          record { known = asks_known client content distinct; apart = asks_apart client content },
          All-from_recursion (λ (store : Store). IsRight setup user store S.entries) (with_stores (objects_of content) client.stores)
              (right_with setup S user order (objects_of content) client.stores
              (recursion_from_All (λ (store : Store). IsRight setup user store S.entries) client.stores right)),
        )

pub accepts_rightly : AcceptedRepliesKeepStores
accepts_rightly setup before now user at client kept taken within order order_now later outstanding sound asks right is =
    let of_client : IsSoundOutstanding client.user kept = subst (λ (o : Option Outstanding). IfSome o (IsSoundOutstanding client.user)) outstanding sound.outstanding in
    let asked : IsAsked client kept = subst (λ (o : Option Outstanding). IfSome o (IsAsked client)) outstanding asks in
    let bank : ReplyFile = bank_reply setup before user at kept.file in
    let same : with_replies client kept.file bank.replies ≡ taken =
    same_ok (with_replies client kept.file bank.replies) taken (sym (reply_accepted setup before user at client kept within order outstanding) ∙ is) in
    subst (λ (t : Accepted). AsksRightly t.after × AreRight setup user now t.after) same (
      tt,
      replies_right setup user at within before now kept.file client.stores order order_now later of_client.file.asks asked.known asked.apart right,
    )

pub discards_rightly : DiscardedFilesKeepStores
discards_rightly setup S user client right = (tt, right)

pub stays_right : StoresStayRight
stays_right setup S T user client order order_now later right =
    λ k d below. right_later setup S T user _ order order_now later (right k d below)
