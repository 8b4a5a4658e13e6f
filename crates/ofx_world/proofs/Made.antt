-- A client that makes a file and sends it leaves a world sound.
use Rattle.std.proofs.Common.{◌≡◌, ◌⊎◌, inl, inr, ℕ, ◌+◌, List, slice_get, Option, None, Some, Result, Ok, Err, refl, sym, ap, subst, ◌∙◌, arith}
use Rattle.std.specs.Option.{IfSome}
use Rattle.std.proofs.lemmas.List.Elements.{recursion_from_All}
use Rattle.ofx_types.specs.declared.number.Moment.{Moment}
use Rattle.ofx_types.specs.declared.number.UserId.{UserId}
use Rattle.ofx_types.specs.declared.request.RequestFile.{RequestFile}
use Rattle.bank_model.specs.SetupLookups.{user_of}
use Rattle.bank_model.specs.declared.setup.Setup.{Setup}
use Rattle.client_core.specs.Making.{file_name, file_of, with_file, made_for, made}
use Rattle.client_core.specs.Wishes.{content_of}
use Rattle.client_core.specs.declared.content.Content.{Content}
use Rattle.client_core.specs.declared.fault.ClientFault.{ClientFault}
use Rattle.client_core.specs.declared.wish.Wish.{Wish}
use Rattle.client_laws.specs.ClientStores.{AreRight, AsksRightly}
use Rattle.client_saved.specs.SavedText.{IsSavedText}
use Rattle.client_saved.specs.declared.state.ClientState.{ClientState}
use Rattle.client_saved.specs.declared.state.Outstanding.{Outstanding}
use Rattle.ofx_world.specs.Customer.{CustomerView, MakesFile, sent}
use Rattle.ofx_world.specs.Laws.{Laws}
use Rattle.ofx_world.specs.Sound.{IsGiven, IsStrange, IsEarlier, IsOf, IsLast, IsSoundCustomer, IsSoundKept, IsSoundWorld}
use Rattle.ofx_world.specs.Truths.{HasRightStores}
use Rattle.ofx_world.specs.World.{WorldView, with_customer, with_request}
use Rattle.ofx_world.proofs.Changed.{seen, Becomes, changed_keeps}
use Rattle.ofx_world.proofs.KeptReplies.{found_kept}
use Rattle.ofx_world.proofs.Lists.{same_some, at_all, got_new}
use Rattle.ofx_world.proofs.Names.{new_name, new_number}
use Rattle.ofx_world.proofs.Sent.{sent_again_keeps}

earlier_on : (client : ClientState) (older : Option (List ℕ)) → IfSome older (IsEarlier client client.next) → IfSome older (IsEarlier client (client.next + 1))
earlier_on client None is = tt
earlier_on client (Some older) is = let below = is.1 in (is.0, omega (arith, below), is.2)

-- A client that makes a file asks rightly, and its stores are as right as they were.
abbrev MadeRightly : WorldView → CustomerView → ClientState → Type 0
MadeRightly world old next = (user : UserId) → AreRight world.server.setup user world.server.state old.client
    → AsksRightly next × AreRight world.server.setup user world.server.state next

abbrev pub made_at : Moment → RequestFile → Outstanding
made_at at file = record { at = at; file = file }

module _ (laws : Laws) (world : WorldView) (sound : IsSoundWorld world) (index : ℕ) (old : CustomerView) (was : slice_get world.customers index ≡ Some old) (at : Moment) (content : Content) (saved : List ℕ) (is_saved : IsSavedText saved (with_file old.client at content)) (rightly : MadeRightly world old (with_file old.client at content)) where
  abbrev setup : Setup
  setup = world.server.setup

  abbrev client : ClientState
  client = with_file old.client at content

  abbrev outstanding : Outstanding
  outstanding = made_at at (file_of old.client content)

  abbrev own : List ℕ
  own = file_name old.client.name old.client.next

  customer : IsSoundCustomer setup old
  customer = at_all (IsSoundCustomer setup) world.customers index old sound.customers was

  -- No client has given the name of the file, and it is no stranger's to this client's user.
  new_to_all : IsGiven world.customers own → ⊥
  new_to_all given = new_name setup world.customers index given.index old given.customer given.number sound.customers sound.names was given.there given.numbered

  new_to_kept : (owner : UserId) → user_of setup old.client.user ≡ Some owner → IsGiven world.customers own ⊎ IsStrange setup world.customers owner own → ⊥
  new_to_kept owner is_owner (inl given) = new_to_all given
  new_to_kept owner is_owner (inr strange) = strange index old.client.next old was is_owner refl

  last : IsLast client outstanding
  last = record {
    number = old.client.next;
    last = refl;
    name = refl;
    asked = (rightly customer.user.0 (at_all (HasRightStores setup world.server.state.entries) world.customers index old sound.stores was customer.user.0 customer.user.1)).0;
    older = customer.done;
  }

  -- Whatever was its file has another name.
  file_stays : (file : RequestFile) → IsOf setup old.client file → IsOf setup client file
  file_stays file is =
      let below = is.numbered.0 in
      record {
        number = is.number;
        name = is.name;
        newer = is.newer;
        numbered = (omega (arith, below), is.numbered.1);
        older = is.older;
        user = is.user;
        same = λ kept holds named.
            let one : outstanding ≡ kept = same_some outstanding kept holds in
            let name : own ≡ is.name = same_some own is.name (ap (λ (o : Outstanding). o.file.newer) one ∙ named) in
            absurd (new_number setup old is.number customer below (name ∙ is.numbered.1));
      }

  named_so : (kept : Outstanding) (name : List ℕ) → Some outstanding ≡ Some kept → kept.file.newer ≡ Some name → name ≡ own
  named_so kept name holds named = same_some name own (sym named ∙ sym (ap (λ (o : Outstanding). o.file.newer) (same_some outstanding kept holds)))

  made_becomes : Becomes world old (seen client saved)
  made_becomes = record {
    name = refl;
    user = refl;
    next = omega arith;
    is_sound = record { saved = is_saved; user = customer.user; done = earlier_on old.client old.client.done customer.done; outstanding = last };
    files = file_stays;
    kept = λ kept name owner holds named is_owner k d below bears.
        absurd (new_to_all (subst (IsGiven world.customers) (named_so kept name holds named) ((sound.named k d below).given name bears)));
    answered = λ kept name owner holds named is_owner reply found.
        let there = found_kept (IsSoundKept setup world.customers) owner name reply world.server.state.kept
        (recursion_from_All (IsSoundKept setup world.customers) world.server.state.kept sound.recorded) found in
        let own_name : there.reply.file ≡ own = there.file ∙ named_so kept name holds named in
        absurd (new_to_kept owner is_owner
        (subst (λ (n : List ℕ). IsGiven world.customers n ⊎ IsStrange setup world.customers owner n) own_name
        (subst (λ (u : UserId). IsGiven world.customers there.reply.file ⊎ IsStrange setup world.customers u there.reply.file) there.user_is there.holds.known)));
    stores = λ owner is_owner.
        (rightly owner (at_all (HasRightStores setup world.server.state.entries) world.customers index old sound.stores was owner is_owner)).1;
  }

  -- The world is sound with the client that has made the file, and with the file on its way.
  pub file_made : IsSoundWorld (with_request (with_customer world index (seen client saved)) (sent setup outstanding))
  file_made =
      sent_again_keeps laws (with_customer world index (seen client saved)) index (seen client saved) outstanding
      (got_new world.customers index old (seen client saved) was) refl (changed_keeps world index old (seen client saved) was made_becomes sound)

pub same_made : (a b : ClientState) → ◌≡◌ {A = Result ClientState ClientFault} (Ok a) (Ok b) → a ≡ b
same_made a b same = cc

pub none_made : (fault : ClientFault) (a : ClientState) → ◌≡◌ {A = Result ClientState ClientFault} (Err fault) (Ok a) → ⊥
none_made fault a same = cc

-- A client that makes the file of a wish, saves that and sends the file, leaves the world sound.
pub made_keeps : Laws → (world : WorldView) (index : ℕ) (old new : CustomerView) (wish : Wish) (at : Moment) (file : List ℕ)
    → slice_get world.customers index ≡ Some old → MakesFile world.server.setup old wish at new file
    → IsSoundWorld world → IsSoundWorld (with_request (with_customer world index new) file)
unfolding made
made_keeps laws world index old new wish at file was makes sound = go (content_of old.client wish at) makes.makes
  where
    go : (found : Result Content ClientFault) → made_for old.client at found ≡ Ok makes.client → IsSoundWorld (with_request (with_customer world index new) file)
    go (Err fault) is = absurd (none_made fault makes.client is)
    go (Ok content) is =
        let same : with_file old.client at content ≡ makes.client = same_made (with_file old.client at content) makes.client is in
        let new_is : seen (with_file old.client at content) new.saved ≡ new = ap (λ (c : ClientState). seen c new.saved) (same ∙ sym makes.saves.0) in
        let kept : made_at at (file_of old.client content) ≡ makes.kept =
        same_some _ makes.kept (ap (λ (c : ClientState). c.outstanding) same ∙ makes.outstanding) in
        let file_is : sent world.server.setup (made_at at (file_of old.client content)) ≡ file = ap (sent world.server.setup) kept ∙ sym makes.is_sent in
        subst (λ (c : CustomerView). IsSoundWorld (with_request (with_customer world index c) file)) new_is
        (subst (λ (bytes : List ℕ). IsSoundWorld (with_request (with_customer world index (seen (with_file old.client at content) new.saved)) bytes)) file_is
        (file_made laws world sound index old was at content new.saved (subst (IsSavedText new.saved) (sym same) makes.saves.1)
        (λ user right. subst (λ (c : ClientState). AsksRightly c × AreRight world.server.setup user world.server.state c) (sym same)
        (laws.stores.makes world.server.setup world.server.state user old.client makes.client wish at sound.reportable.order makes.makes makes.saves.1.sound right))))
