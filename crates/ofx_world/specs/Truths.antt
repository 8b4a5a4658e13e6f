-- What holds of every world, whatever files were lost, repeated or reordered, whichever appends failed, and whoever started anew.
use Rattle.std.specs.Prelude.{◌≡◌, ℕ, List, ◌∷◌, ◌++◌, All, Contains, Some}
use Rattle.ofx_types.specs.FileForm.{SpellsReply}
use Rattle.ofx_types.specs.declared.number.Moment.{Moment}
use Rattle.ofx_types.specs.declared.number.UserId.{UserId}
use Rattle.ofx_types.specs.declared.reply.ReplyFile.{ReplyFile}
use Rattle.ofx_types.specs.declared.request.RequestFile.{RequestFile}
use Rattle.bank_model.specs.Rules.{opening_state, answer_to}
use Rattle.bank_model.specs.SetupLookups.{user_of}
use Rattle.bank_model.specs.Stores.{Store, IsRight}
use Rattle.bank_model.specs.declared.entry.Entry.{Entry}
use Rattle.bank_model.specs.declared.event.Event.TheVariants.{File}
use Rattle.bank_model.specs.declared.event.State.{State}
use Rattle.bank_model.specs.declared.setup.Setup.{Setup}
use Rattle.bank_invariants.specs.Books.{AreBooksRight}
use Rattle.client_saved.specs.declared.state.Outstanding.{Outstanding}
use Rattle.event_codec.specs.Records.{Codes, Reopens}
use Rattle.ofx_world.specs.Customer.{CustomerView}
use Rattle.ofx_world.specs.Kept.{IsUser}
use Rattle.ofx_world.specs.World.{WorldView}

-- ---- replies

-- A reply is the one-thread bank's at its index: among the records is that of a user's file, and in the state to which those
-- before it lead, this is what the bank answers to it.
pub record IsAtItsIndex (setup : Setup) (records : List (List ℕ)) (reply : List ℕ) : Type 0 where
  pub earlier : List (List ℕ)
  pub rec : List ℕ
  pub later : List (List ℕ)
  pub parts : records ≡ earlier ++ rec ∷ later
  pub state : State
  pub holds : Reopens setup opening_state earlier state
  pub at : Moment
  pub user : UserId
  pub file : RequestFile
  pub codes : Codes rec at (File user file)
  pub is_answer : reply ≡ answer_to setup state at (File user file)

-- The bytes spell a reply that bears a file's name.
abbrev pub Bears : List ℕ → List ℕ → Type 0
Bears name bytes = (reply : ReplyFile) × SpellsReply bytes reply × (reply.newer ≡ Some name)

-- All of these replies that bear the name are the same bytes.
abbrev pub AreAlike : List ℕ → List (List ℕ) → Type 0
AreAlike name files = (a b : List ℕ) → Contains files a → Contains files b → Bears name a → Bears name b → a ≡ b

-- A file that a client has outstanding has a name, and all replies to it are alike.
abbrev pub HasOneReply : List (List ℕ) → CustomerView → Type 0
HasOneReply replies customer = (kept : Outstanding) → customer.client.outstanding ≡ Some kept
    → (name : List ℕ) × (kept.file.newer ≡ Some name) × AreAlike name replies

-- ---- stores

-- Each store of a client holds its object's entries, folded up to its token, or is marked lost.
abbrev pub HasRightStores : Setup → List Entry → CustomerView → Type 0
HasRightStores setup entries customer = (user : UserId) → user_of setup customer.client.user ≡ Some user
    → All (λ (store : Store). IsRight setup user store entries) customer.client.stores

-- ---- the whole

-- The bank is in the state to which the records lead that aren't pending. No user's TRNUID is used up twice; no balance, which
-- is what its rule gives, is below zero, and all together are the openings. Each reply is the one-thread bank's at its index;
-- all replies to a file that is outstanding are alike; each client acts for a user of the setup; and each store of a client is
-- right, or marked lost.
pub record IsRightWorld (world : WorldView) : Type 0 where
  pub reopened : Reopens world.server.setup opening_state world.server.records world.server.state
  pub books : AreBooksRight world.server.setup world.server.state
  pub reported : All (IsAtItsIndex world.server.setup world.server.records) world.replies
  pub alike : All (HasOneReply world.replies) world.customers
  pub users : All (λ (customer : CustomerView). IsUser world.server.setup customer.client.user) world.customers
  pub stores : All (HasRightStores world.server.setup world.server.state.entries) world.customers
