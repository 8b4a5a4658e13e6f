-- A client's outstanding file, as it is sent, is a request of that client.
use Rattle.std.proofs.Common.{◌≡◌, ℕ, zero, suc, ◌<◌, Bool, true, false, ◌&&◌, is_none, List, [], ◌∷◌, length, get_or, slice_get, Option, None, Some, refl, sym, ap, subst, ◌∙◌, arith}
use Rattle.std.specs.List.{AllByRecursion, position}
use Rattle.std.specs.Option.{IfSome, option_map}
use Rattle.std.specs.Str.{bytes_eq}
use Rattle.std.proofs.lemmas.List.Quantifiers.{position-Some}
use Rattle.std.proofs.lemmas.Option.{slice_get-get_or}
use Rattle.ofx_types.specs.Bounds.{IsTextWithin}
use Rattle.ofx_types.specs.Calendar.{IsMoment}
use Rattle.ofx_types.specs.declared.number.Moment.{Moment}
use Rattle.ofx_types.specs.declared.number.UserId.{UserId}
use Rattle.ofx_types.specs.declared.request.RequestFile.{RequestFile}
use Rattle.ofx_types.proofs.Bytes.{bytes_eq_self}
use Rattle.bank_model.specs.Polls.{is_poll, are_polls}
use Rattle.bank_model.specs.SetupForm.{IsWithinLimits, IsWord, IsUser as IsWordUser}
use Rattle.bank_model.specs.SetupLookups.{user_of, signed_on}
use Rattle.bank_model.specs.Sound.{IsSound}
use Rattle.bank_model.specs.declared.setup.Setup.{Setup}
use Rattle.bank_model.specs.declared.setup.User.{User}
use Rattle.bank_model.proofs.SetupSignon.{one_signs, none_signs}
use Rattle.reply_laws.proofs.Arguments.{visible_text, word_visible}
use Rattle.client_core.specs.Making.{file_name}
use Rattle.client_saved.specs.Bounds.{IsSoundOutstanding}
use Rattle.client_saved.specs.declared.state.Outstanding.{Outstanding}
use Rattle.msg_mail.specs.SignonsAsDocuments.{IsSoundSignon}
use Rattle.ofx_world.specs.Customer.{CustomerView, pass_in, pass_at, with_pass, sent}
use Rattle.ofx_world.specs.Laws.{Laws}
use Rattle.ofx_world.specs.Sound.{IsOf, IsSentBy, IsLast, IsSoundCustomer, IsSoundWorld}
use Rattle.ofx_world.specs.World.{WorldView, with_request}
use Rattle.ofx_world.proofs.Changed.{request_keeps}
use Rattle.ofx_world.proofs.KeptReplies.{user_at}
use Rattle.ofx_world.proofs.Lists.{same_some, none_some, at_all}

-- ---- the user who signs on

-- where a name is among users
place_of : (user : UserId) (found : Option ℕ) → option_map user_at found ≡ Some user → found ≡ Some user.0
place_of user None is = cc
place_of user (Some index) is = ap (λ (u : UserId). Some u.0) (same_some (user_at index) user is)

-- The words of a setup are texts.
word_within : (word : List ℕ) → IsWord word → IsTextWithin 64 word
word_within word is =
    let few = is.is_within in
    visible_text 64 word (word_visible word is.is_plain) is.is_there (omega arith) (omega arith)

module _ (setup : Setup) (within : IsWithinLimits setup) (name : List ℕ) (user : UserId) (is : user_of setup name ≡ Some user) where
  found : position (λ (u : User). bytes_eq u.name name) setup.users ≡ Some user.0
  found = place_of user (position (λ (u : User). bytes_eq u.name name) setup.users) is

  abbrev nobody : User
  nobody = record { name = []; pass = [] }

  pub known : user.0 < length setup.users
  known = (position-Some (λ (u : User). bytes_eq u.name name) setup.users user.0 nobody found).0

  abbrev one_user : User
  one_user = get_or setup.users user.0 nobody

  pass_is : pass_at setup (user_of setup name) ≡ one_user.pass
  pass_is = ap (pass_at setup) is ∙ ap pass_in (slice_get-get_or setup.users user.0 nobody known)

  -- Whoever has the name and this password signs on.
  pub signs : signed_on setup name (pass_at setup (user_of setup name)) ≡ Some user
  signs = ap (option_map user_at)
      (one_signs name (pass_at setup (user_of setup name)) setup.users within.lines.names user.0 found nobody
      (ap (λ (pass : List ℕ). bytes_eq pass (pass_at setup (user_of setup name))) (sym pass_is) ∙ bytes_eq_self (pass_at setup (user_of setup name))))

  words : (users : List User) (index : ℕ) (d : User) → index < length users → AllByRecursion IsWordUser users → IsWordUser (get_or users index d)
  words [] index d below all = absurd (omega (arith, below))
  words (u ∷ users) zero d below all = all.0
  words (u ∷ users) (suc index) d below all = words users index d (omega (arith, below)) all.1

  pub signon : (at : Moment) → IsMoment at.0 → IsTextWithin 32 name → IsSoundSignon name (pass_at setup (user_of setup name)) at
  signon at moment text = record {
    is_user = text;
    is_pass = subst (IsTextWithin 64) (sym pass_is) (word_within one_user.pass (words setup.users user.0 nobody known within.lines.users).pass);
    moment = moment;
  }

abbrev no_user : User
no_user = record { name = []; pass = [] }

-- Whoever signs on is the user of the name.
pub signed_user : (setup : Setup) (name pass : List ℕ) (user other : UserId) → IsWithinLimits setup → user_of setup name ≡ Some user
    → signed_on setup name pass ≡ Some other → user ≡ other
signed_user setup name pass user other within is signed =
    by_pass (bytes_eq (get_or setup.users user.0 no_user).pass pass) refl
  where
    there : position (λ (u : User). bytes_eq u.name name) setup.users ≡ Some user.0
    there = place_of user (position (λ (u : User). bytes_eq u.name name) setup.users) is

    by_pass : (b : Bool) → bytes_eq (get_or setup.users user.0 no_user).pass pass ≡ b → user ≡ other
    by_pass true right = same_some user other (sym (ap (option_map user_at) (one_signs name pass setup.users within.lines.names user.0 there no_user right)) ∙ signed)
    by_pass false wrong = absurd (none_some other (sym (ap (option_map user_at) (none_signs name pass setup.users within.lines.names user.0 there no_user wrong)) ∙ signed))

-- ---- the file

sound_with : (setup : Setup) (file : RequestFile) → IsSound file → IsSound (with_pass setup file)
sound_with setup file sound = record {
  version = sound.version;
  older = sound.older;
  newer = sound.newer;
  few = sound.few;
  bank_first = sound.bank_first;
  asks = sound.asks;
}

-- A file with a name is no poll.
named_no_poll : (file : RequestFile) (name : List ℕ) → file.newer ≡ Some name → is_poll file ≡ false
unfolding is_poll
named_no_poll file name named =
    ap (λ (newer : Option (List ℕ)). (is_none file.older && is_none newer) && are_polls file.asks) named ∙ no_and (is_none file.older)
  where
    no_and : (b : Bool) → ((b && false) && are_polls file.asks) ≡ false
    no_and true = refl
    no_and false = refl

module _ (laws : Laws) (setup : Setup) (within : IsWithinLimits setup) (customer : CustomerView) (sound : IsSoundCustomer setup customer) (kept : Outstanding) (outstanding : customer.client.outstanding ≡ Some kept) where
  last : IsLast customer.client kept
  last = subst (λ (o : Option Outstanding). IfSome o (IsLast customer.client)) outstanding sound.outstanding

  of_client : IsSoundOutstanding customer.client.user kept
  of_client = subst (λ (o : Option Outstanding). IfSome o (IsSoundOutstanding customer.client.user)) outstanding sound.saved.sound.outstanding

  abbrev file : RequestFile
  file = with_pass setup kept.file

  is_user : user_of setup kept.file.user ≡ Some sound.user.0
  is_user = ap (user_of setup) of_client.user ∙ sound.user.1

  sent_is_of : IsOf setup customer.client file
  sent_is_of =
      let next = last.last in
      record {
        number = last.number;
        name = file_name customer.client.name last.number;
        newer = last.name;
        numbered = (omega (arith, next), refl);
        older = last.older;
        user = of_client.user;
        same = λ other is named. ap (λ (o : Outstanding). with_pass setup o.file) (same_some kept other (sym outstanding ∙ is));
      }

  pub sent_by : (customers : List CustomerView) (index : ℕ) → slice_get customers index ≡ Some customer → IsSentBy setup customers (sent setup kept)
  unfolding sent
  sent_by customers index there = record {
    index = index;
    customer = customer;
    there = there;
    request = record {
      user = sound.user.0;
      file = file;
      of_user = record {
        signed_on = record {
          spelled = laws.replies.requests file kept.at (sound_with setup kept.file of_client.file)
              (signon setup within kept.file.user sound.user.0 is_user kept.at of_client.moment (subst (IsTextWithin 32) (sym of_client.user) sound.saved.sound.user));
          signed = signs setup within kept.file.user sound.user.0 is_user;
        };
        known = known setup within kept.file.user sound.user.0 is_user;
        sound = sound_with setup kept.file of_client.file;
      };
      no_poll = named_no_poll file (file_name customer.client.name last.number) last.name;
    };
    is_of = sent_is_of;
  }

-- A client's outstanding file is on its way again.
pub sent_again_keeps : Laws → (world : WorldView) (index : ℕ) (customer : CustomerView) (kept : Outstanding)
    → slice_get world.customers index ≡ Some customer → customer.client.outstanding ≡ Some kept
    → IsSoundWorld world → IsSoundWorld (with_request world (sent world.server.setup kept))
sent_again_keeps laws world index customer kept there outstanding sound =
    let of_client = at_all (IsSoundCustomer world.server.setup) world.customers index customer sound.customers there in
    request_keeps world (sent world.server.setup kept)
    (sent_by laws world.server.setup sound.within customer of_client kept outstanding world.customers index there) sound
