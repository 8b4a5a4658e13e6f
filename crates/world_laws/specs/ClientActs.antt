-- What a client does, as the world has it, beside a bank that goes on.
use Rattle.std.specs.Prelude.{◌≡◌, ℕ, List, [], ◌∷◌, slice_get, Some}
use Rattle.ofx_types.specs.FileForm.{SpellsReply}
use Rattle.ofx_types.specs.declared.number.Moment.{Moment}
use Rattle.ofx_types.specs.declared.number.UserId.{UserId}
use Rattle.sync_laws.specs.Histories.{IsInOrder, IsLater}
use Rattle.bank_model.specs.Rules.{raised, ask_answers}
use Rattle.bank_model.specs.SetupForm.{IsWithinLimits}
use Rattle.bank_model.specs.declared.event.State.{State}
use Rattle.bank_model.specs.declared.setup.Setup.{Setup}
use Rattle.client_core.specs.ClientForm.{discarded}
use Rattle.client_core.specs.declared.wish.Wish.{Wish}
use Rattle.client_laws.specs.Answers.{bank_reply}
use Rattle.client_laws.specs.ClientStores.{AreRight, AsksRightly}
use Rattle.client_saved.specs.Bounds.{IsSoundState}
use Rattle.client_saved.specs.declared.state.Outstanding.{Outstanding}
use Rattle.ofx_world.specs.Customer as of_client
use Rattle.ofx_world.specs.Customer.{CustomerView, MakesFile, TakesIn, IsSavedAs}
use Rattle.ofx_world.specs.World.{WorldView, IsStep, with_customer, with_request}
use Rattle.ofx_world.specs.declared.step.Step.TheVariants as steps

-- A client makes the file of a wish at a moment, takes in the reply that these bytes spell, or gives its file up.
pub data Act : Type 0 where
  making : Wish → Moment → Act
  taking : List ℕ → Act
  discarding : Act

-- Each is saved. Making and taking in are as in the world. A file is given up where the bank can't read it; the world has no
-- such reply.
abbrev pub IsAct : Setup → CustomerView → Act → CustomerView → Type 0
IsAct setup before (making wish at) after = (file : List ℕ) × MakesFile setup before wish at after file
IsAct setup before (taking bytes) after = TakesIn before bytes after
IsAct setup before discarding after = IsSavedAs (discarded before.client) after

-- just these acts, in their order
abbrev pub AreActs : Setup → CustomerView → List Act → CustomerView → Type 0
AreActs setup before [] after = after ≡ before
AreActs setup before (act ∷ more) after = (between : CustomerView) × IsAct setup before act between × AreActs setup between more after

-- ---- acts as steps of the world

-- Where the client is one of a world's, making a file and taking in a reply that was given are steps of the world, and so is a
-- start from the saved text.
pub record ActsAreSteps : Type 0 where
  pub makes : (world : WorldView) (index : ℕ) (customer new : CustomerView) (wish : Wish) (file : List ℕ)
      → slice_get world.customers index ≡ Some customer → MakesFile world.server.setup customer wish world.clock new file
      → IsStep world (steps.Make index wish) (with_request (with_customer world index new) file)
  pub takes : (world : WorldView) (index number : ℕ) (customer new : CustomerView) (bytes : List ℕ)
      → slice_get world.customers index ≡ Some customer → slice_get world.replies number ≡ Some bytes → TakesIn customer bytes new
      → IsStep world (steps.DeliverReply index number) (with_customer world index new)
  pub starts : (world : WorldView) (index : ℕ) (customer new : CustomerView) → slice_get world.customers index ≡ Some customer
      → of_client.Restarts customer new → IsStep world (steps.RestartClient index) (with_customer world index new)

-- ---- acts beside a bank

-- The bytes spell the bank's reply to the outstanding file. It was made after the file, and the bank has come on from there.
pub record IsOfBank (setup : Setup) (user : UserId) (S : State) (customer : CustomerView) (bytes : List ℕ) (T : State) : Type 0 where
  pub kept : Outstanding
  pub outstanding : customer.client.outstanding ≡ Some kept
  pub before : State
  pub at : Moment
  pub order : IsInOrder setup before
  pub later : IsLater S before
  pub spells : SpellsReply bytes (bank_reply setup before user at kept.file)
  pub goes_on : IsLater (ask_answers setup (raised before at) user at kept.file.asks).after T

-- Whatever reply a client takes in is of the bank, and it was made since the client's last act.
abbrev pub IsBeside : Setup → UserId → State → CustomerView → Act → State → Type 0
IsBeside setup user S before (making wish at) T = Unit {0}
IsBeside setup user S before (taking bytes) T = IsOfBank setup user S before bytes T
IsBeside setup user S before discarding T = Unit {0}

-- Acts of a user's client, while the bank comes from one state to another.
abbrev pub AreBeside : Setup → UserId → State → CustomerView → List Act → State → CustomerView → Type 0
AreBeside setup user S before [] T after = (T ≡ S) × (after ≡ before)
AreBeside setup user S before (act ∷ more) T after =
    (R : State) × (between : CustomerView) × IsInOrder setup R × IsLater S R × IsAct setup before act between
    × IsBeside setup user S before act R × AreBeside setup user R between more T after

-- A client whose stores are right, and who asks rightly, is so after any acts beside the bank.
abbrev pub ActsKeepStores : Type 0
ActsKeepStores = (setup : Setup) (user : UserId) (S T : State) (before after : CustomerView) (acts : List Act) → IsWithinLimits setup
    → IsInOrder setup S → IsSoundState before.client → AsksRightly before.client → AreRight setup user S before.client
    → AreBeside setup user S before acts T after → AsksRightly after.client × AreRight setup user T after.client
