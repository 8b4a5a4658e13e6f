-- A client that accepts a reply leaves a world sound.
use Rattle.std.proofs.Common.{◌≡◌, ℕ, Bool, true, false, List, slice_get, Option, None, Some, Result, Ok, Err, refl, sym, ap, subst, ◌∙◌, arith}
use Rattle.std.specs.Option.{IfSome}
use Rattle.ofx_types.specs.FileForm.{SpellsReply}
use Rattle.ofx_types.specs.declared.number.UserId.{UserId}
use Rattle.ofx_types.specs.declared.reply.ReplyFile.{ReplyFile}
use Rattle.ofx_types.specs.declared.request.RequestFile.{RequestFile}
use Rattle.ofx_types.proofs.Bytes.{bytes_eq_is}
use Rattle.bank_model.specs.Stores.{Store}
use Rattle.bank_model.specs.declared.setup.Setup.{Setup}
use Rattle.client_core.specs.Accepting.{Accepted, same_name, accepted_for, accepted_to, accepted, with_reply, with_replies, stores_after}
use Rattle.client_core.specs.Making.{file_name}
use Rattle.client_core.specs.declared.fault.ClientFault.{ClientFault}
use Rattle.client_core.specs.declared.fault.ClientFault.TheVariants.{NotMine}
use Rattle.client_laws.specs.Answers.{bank_reply}
use Rattle.client_laws.specs.ClientStores.{AreRight, IsAsked}
use Rattle.client_saved.specs.SavedText.{IsSavedText}
use Rattle.client_saved.specs.declared.state.ClientState.{ClientState}
use Rattle.client_saved.specs.declared.state.Outstanding.{Outstanding}
use Rattle.ofx_world.specs.Customer.{CustomerView, IsSavedAs}
use Rattle.ofx_world.specs.Laws.{Laws}
use Rattle.ofx_world.specs.Sound.{IsEarlier, IsLast, IsSoundCustomer, IsTheKeptOne, HasKeptReply, IsAnswered, HasAnswer, IsSoundWorld}
use Rattle.ofx_world.specs.World.{WorldView, with_customer}
use Rattle.ofx_world.proofs.Changed.{seen, Becomes, changed_keeps}
use Rattle.ofx_world.proofs.Lists.{same_some, none_some, at_all}

same_ok : (a b : Accepted) → ◌≡◌ {A = Result Accepted ClientFault} (Ok a) (Ok b) → a ≡ b
same_ok a b same = cc

err_ok : (fault : ClientFault) (a : Accepted) → ◌≡◌ {A = Result Accepted ClientFault} (Err fault) (Ok a) → ⊥
err_ok fault a same = cc

-- A reply that is accepted bears the file's name.
bears_name : (client : ClientState) (file : RequestFile) (reply : ReplyFile) (taken : Accepted) → accepted_for client file reply ≡ Ok taken
    → same_name file.newer reply.newer ≡ true
bears_name client file reply taken is = by_test (same_name file.newer reply.newer) refl
  where
    by_test : (b : Bool) → same_name file.newer reply.newer ≡ b → b ≡ true
    by_test true same = refl
    by_test false other =
        let refused : accepted_for client file reply ≡ Err NotMine = rw other refl in
        absurd (err_ok NotMine taken (sym refused ∙ is))

same_names : (name : List ℕ) (found : Option (List ℕ)) → same_name (Some name) found ≡ true → found ≡ Some name
same_names name None same = cc
same_names name (Some other) same = ap (λ (n : List ℕ). Some n) (sym (bytes_eq_is name other same))

-- ---- what the client becomes

module _ (laws : Laws) (world : WorldView) (sound : IsSoundWorld world) (index : ℕ) (old : CustomerView) (was : slice_get world.customers index ≡ Some old) (kept : Outstanding) (outstanding : old.client.outstanding ≡ Some kept) where
  abbrev setup : Setup
  setup = world.server.setup

  customer : IsSoundCustomer setup old
  customer = at_all (IsSoundCustomer setup) world.customers index old sound.customers was

  abbrev user : UserId
  user = customer.user.0

  last : IsLast old.client kept
  last = subst (λ (o : Option Outstanding). IfSome o (IsLast old.client)) outstanding customer.outstanding

  abbrev own : List ℕ
  own = file_name old.client.name last.number

  -- The reply is the one that the bank has made to the file.
  is_answered : (number : ℕ) (bytes : List ℕ) (reply : ReplyFile) → slice_get world.replies number ≡ Some bytes → SpellsReply bytes reply
      → reply.newer ≡ Some own → IsAnswered setup world.server.state old kept user bytes
  is_answered number bytes reply there spelled named =
      let has = at_all (HasKeptReply setup world.server.state world.replies) world.customers index old sound.kept was kept own user outstanding last.name customer.user.1 in
      at_all (HasAnswer setup world.server.state) world.customers index old sound.answered was kept own user outstanding last.name customer.user.1 bytes
      (at_all (IsTheKeptOne world.server.state user own) world.replies number bytes has there (reply, spelled, named))

  module _ (bytes : List ℕ) (answered : IsAnswered setup world.server.state old kept user bytes) where
    abbrev stores : List Store
    stores = stores_after kept.file.asks (bank_reply setup answered.before user answered.at kept.file).replies old.client.stores

    abbrev client : ClientState
    client = with_reply old.client kept.file.newer stores

    stores_right : AreRight setup user world.server.state client
    stores_right = (laws.stores.accepts setup answered.before world.server.state user answered.at old.client kept
        (with_replies old.client kept.file (bank_reply setup answered.before user answered.at kept.file).replies) sound.within answered.order
        sound.reportable.order answered.later outstanding customer.saved.sound (subst (λ (o : Option Outstanding). IfSome o (IsAsked old.client)) (sym outstanding) last.asked)
        (answered.stores user customer.user.1)
        (laws.stores.accepted setup answered.before user answered.at old.client kept sound.within answered.order outstanding)).1

    done_numbered : IfSome kept.file.newer (IsEarlier client client.next)
    done_numbered = subst (λ (o : Option (List ℕ)). IfSome o (IsEarlier old.client old.client.next)) (sym last.name)
        (let next = last.last in (last.number, omega (arith, next), refl))

    -- The file has ended, and the stores are those after the bank's reply.
    accepted_becomes : (saved : List ℕ) → IsSavedText saved client → Becomes world old (seen client saved)
    accepted_becomes saved is_saved = record {
      name = refl;
      user = refl;
      next = omega arith;
      is_sound = record { saved = is_saved; user = customer.user; done = done_numbered; outstanding = tt };
      files = λ file is. record {
        number = is.number;
        name = is.name;
        newer = is.newer;
        numbered = is.numbered;
        older = is.older;
        user = is.user;
        same = λ other none named. absurd (none_some other none);
      };
      kept = λ other name owner none. absurd (none_some other none);
      answered = λ other name owner none. absurd (none_some other none);
      stores = λ owner is_owner.
          subst (λ (u : UserId). AreRight setup u world.server.state client)
          (same_some user owner (sym customer.user.1 ∙ is_owner)) stores_right;
    }

    accepted_is : (reply : ReplyFile) (taken : Accepted) → SpellsReply bytes reply → accepted old.client reply ≡ Ok taken → taken.after ≡ client
    accepted_is reply taken spelled is =
        let bank : ReplyFile = bank_reply setup answered.before user answered.at kept.file in
        let same : reply ≡ bank = laws.replies.one_reply bytes reply bank spelled answered.spells in
        ap (λ (a : Accepted). a.after) (same_ok taken (with_replies old.client kept.file bank.replies)
        (sym is ∙ ap (accepted old.client) same ∙ laws.stores.accepted setup answered.before user answered.at old.client kept sound.within answered.order outstanding))

-- A client that accepts one of the replies that were given, and saves what it knows then, leaves the world sound.
pub accepted_keeps : Laws → (world : WorldView) (index number : ℕ) (old new : CustomerView) (bytes : List ℕ) (reply : ReplyFile) (taken : Accepted)
    → slice_get world.customers index ≡ Some old → slice_get world.replies number ≡ Some bytes → SpellsReply bytes reply
    → accepted old.client reply ≡ Ok taken → IsSavedAs taken.after new → IsSoundWorld world → IsSoundWorld (with_customer world index new)
unfolding accepted
accepted_keeps laws world index number old new bytes reply taken was there spelled is saves sound = go old.client.outstanding refl is
  where
    go : (found : Option Outstanding) → old.client.outstanding ≡ found → accepted_to old.client found reply ≡ Ok taken → IsSoundWorld (with_customer world index new)
    go None none took = absurd (err_ok NotMine taken took)
    go (Some kept) outstanding took =
        let last_one = last laws world sound index old was kept outstanding in
        let same : same_name kept.file.newer reply.newer ≡ true = bears_name old.client kept.file reply taken took in
        let named : reply.newer ≡ Some (file_name old.client.name last_one.number) =
        same_names _ reply.newer (sym (ap (λ (n : Option (List ℕ)). same_name n reply.newer) last_one.name) ∙ same) in
        let answered = is_answered laws world sound index old was kept outstanding number bytes reply there spelled named in
        let after : taken.after ≡ client laws world sound index old was kept outstanding bytes answered = accepted_is laws world sound index old was kept outstanding bytes answered reply taken spelled is in
        let new_is : new ≡ seen (client laws world sound index old was kept outstanding bytes answered) new.saved = ap (λ (c : ClientState). seen c new.saved) (saves.0 ∙ after) in
        subst (λ (c : CustomerView). IsSoundWorld (with_customer world index c)) (sym new_is)
        (changed_keeps world index old _ was (accepted_becomes laws world sound index old was kept outstanding bytes answered new.saved
        (subst (IsSavedText new.saved) after saves.1)) sound)
