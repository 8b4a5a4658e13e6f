-- What leaves a world sound: whatever its bank does, for whatever legal event, and whatever its clients do.
use Rattle.std.specs.Prelude.{◌≡◌, ℕ, Bool, List, Contains, Some, slice_get}
use Rattle.ofx_types.specs.declared.number.Moment.{Moment}
use Rattle.ofx_types.specs.declared.number.UserId.{UserId}
use Rattle.ofx_types.specs.declared.request.RequestFile.{RequestFile}
use Rattle.bank_model.specs.SetupForm.{IsWithinLimits}
use Rattle.bank_model.specs.declared.event.Event.{Event}
use Rattle.bank_model.specs.declared.event.Event.TheVariants.{File}
use Rattle.bank_model.specs.declared.setup.Setup.{Setup}
use Rattle.bank_signon.specs.Signon.{IsSignedOn}
use Rattle.client_core.specs.ClientForm.{discarded}
use Rattle.client_saved.specs.declared.state.ClientState.{ClientState}
use Rattle.ofx_world.specs.Customer.{CustomerView, IsSavedAs}
use Rattle.ofx_world.specs.Kept.{AreNew, HasLawfulClock, IsRecorded}
use Rattle.ofx_world.specs.Server.{committed, reply_to, settled, with_fault}
use Rattle.ofx_world.specs.Sound.{IsSentFor, MayHappen, IsSoundWorld}
use Rattle.ofx_world.specs.Truths.{IsRightWorld}
use Rattle.ofx_world.specs.World.{WorldView, Begins, IsStep, with_customer, with_reply, with_server}
use Rattle.ofx_world.specs.declared.step.Step.{Step}

-- A world that begins with new clients is sound, and what is said of every world is true of a sound one.
pub record SoundWorlds : Type 0 where
  pub begins : (setup : Setup) (clients : List ClientState) (world : WorldView) → IsWithinLimits setup → AreNew setup clients
      → Begins setup clients world → IsSoundWorld world
  pub right : (world : WorldView) → IsSoundWorld world → IsRightWorld world

-- A step leaves it sound. So does a client that gives its outstanding file up.
pub record StepsKeepWorlds : Type 0 where
  pub step : (before after : WorldView) (step : Step) → HasLawfulClock step → IsRecorded before step → IsStep before step after
      → IsSoundWorld before → IsSoundWorld after
  pub discards : (world : WorldView) (index : ℕ) (customer new : CustomerView) → slice_get world.customers index ≡ Some customer
      → IsSavedAs (discarded customer.client) new → IsSoundWorld world → IsSoundWorld (with_customer world index new)

-- So does a bank that settles what is pending, whose next append will fail, or that commits any event that may happen. The reply
-- to a client's file may be on its way. A request that was sent is a client's file, for the user who signs on in it.
pub record BanksKeepWorlds : Type 0 where
  pub settles : (world : WorldView) → IsSoundWorld world → IsSoundWorld (with_server world (settled world.server))
  pub fails : (world : WorldView) (landed : Bool) → IsSoundWorld world → IsSoundWorld (with_server world (with_fault world.server landed))
  pub commits : (world : WorldView) (at : Moment) (event : Event)
      → MayHappen world.server.setup world.server.state world.customers at event → IsSoundWorld world
      → IsSoundWorld (with_server world (committed world.server at event))
  pub replies : (world : WorldView) (at : Moment) (user : UserId) (file : RequestFile)
      → MayHappen world.server.setup world.server.state world.customers at (File user file)
      → IsSentFor world.server.setup world.customers user file → IsSoundWorld world
      → IsSoundWorld (with_reply (with_server world (committed world.server at (File user file))) (reply_to world.server at (File user file)))
  pub is_sent : (world : WorldView) (bytes : List ℕ) (user : UserId) (file : RequestFile) → IsSoundWorld world
      → Contains world.requests bytes → IsSignedOn world.server.setup bytes file user
      → IsSentFor world.server.setup world.customers user file
