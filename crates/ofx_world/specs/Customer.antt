-- A client's half of the world, and what happens to it: it makes a file, sends it again, takes a reply in, and starts anew from its
-- saved text.
use Rattle.std.specs.Prelude.{◌≡◌, ◌<◌, ◌⊎◌, ℕ, List, [], Option, None, Some, Result, Ok, Err, slice_get}
use Rattle.ofx_types.specs.FileForm.{SpellsReply}
use Rattle.ofx_types.specs.PrintedFile.{file_text}
use Rattle.ofx_types.specs.declared.number.Moment.{Moment}
use Rattle.ofx_types.specs.declared.number.UserId.{UserId}
use Rattle.ofx_types.specs.declared.reply.ReplyFile.{ReplyFile}
use Rattle.ofx_types.specs.declared.request.RequestFile.{RequestFile}
use Rattle.bank_model.specs.SetupLookups.{user_of}
use Rattle.bank_model.specs.declared.setup.Setup.{Setup}
use Rattle.bank_model.specs.declared.setup.User.{User}
use Rattle.client_saved.specs.SavedText.{IsSavedText}
use Rattle.client_saved.specs.declared.state.ClientState.{ClientState}
use Rattle.client_saved.specs.declared.state.Outstanding.{Outstanding}
use Rattle.client_core.specs.Accepting.{Accepted, accepted}
use Rattle.client_core.specs.Making.{made}
use Rattle.client_core.specs.Wishes.{IsSoundWish}
use Rattle.client_core.specs.declared.fault.ClientFault.{ClientFault}
use Rattle.client_core.specs.declared.wish.Wish.{Wish}

-- what a client knows, and its saved text
pub record CustomerView : Type 0 where
  pub client : ClientState
  pub saved : List ℕ

-- Whoever saves has a text of just what the client knows.
abbrev pub IsSavedAs : ClientState → CustomerView → Type 0
IsSavedAs client after = (after.client ≡ client) × IsSavedText after.saved client

-- ---- files as they are sent

abbrev pub pass_in : Option User → List ℕ
pass_in None = []
pass_in (Some user) = user.pass

-- the password of a user, empty for one who isn't in the setup
abbrev pub pass_at : Setup → Option UserId → List ℕ
pass_at setup None = []
pass_at setup (Some user) = pass_in (slice_get setup.users user.0)

-- A file is sent with the password that its user has in the setup.
abbrev pub with_pass : Setup → RequestFile → RequestFile
with_pass setup file = record {
  version = file.version;
  older = file.older;
  newer = file.newer;
  user = file.user;
  pass = pass_at setup (user_of setup file.user);
  asks = file.asks;
}

-- It is written as it was made, at its moment.
unfoldable pub sent : Setup → Outstanding → List ℕ
sent setup kept = file_text (with_pass setup kept.file) kept.at

-- ---- making a file

-- A file may be made where nothing is outstanding, a number is left for it, and the wish is sound.
pub record MayMake (client : ClientState) (wish : Wish) : Type 0 where
  pub free : client.outstanding ≡ None
  pub number : client.next < 9999999999
  pub wish_is : IsSoundWish wish

-- The client makes the file of a wish and saves that, and this is the file as it is sent.
pub record MakesFile (setup : Setup) (before : CustomerView) (wish : Wish) (at : Moment) (after : CustomerView) (file : List ℕ) : Type 0 where
  pub may : MayMake before.client wish
  pub client : ClientState
  pub makes : made before.client wish at ≡ Ok client
  pub saves : IsSavedAs client after
  pub kept : Outstanding
  pub outstanding : client.outstanding ≡ Some kept
  pub is_sent : file ≡ sent setup kept

-- No file is made where none may be, or the wish names a row that no store has.
abbrev pub MakesNone : CustomerView → Wish → Moment → Type 0
MakesNone before wish at = (MayMake before.client wish → ⊥) ⊎ ((fault : ClientFault) × (made before.client wish at ≡ Err fault))

-- ---- taking a reply in

-- A client that accepts a reply saves that. One that refuses it stays as it is.
abbrev pub Goes : CustomerView → Result Accepted ClientFault → CustomerView → Type 0
Goes before (Ok taken) after = IsSavedAs taken.after after
Goes before (Err fault) after = after ≡ before

-- The client takes in the reply that the bytes spell.
abbrev pub TakesIn : CustomerView → List ℕ → CustomerView → Type 0
TakesIn before bytes after =
    (reply : ReplyFile) × SpellsReply bytes reply × Goes before (accepted before.client reply) after

-- ---- starting anew

-- The client knows what its saved text tells, whatever it knew before.
abbrev pub Restarts : CustomerView → CustomerView → Type 0
Restarts before after = IsSavedText before.saved after.client × (after.saved ≡ before.saved)
