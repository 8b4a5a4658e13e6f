-- The text that is kept: how a run opens it, and how it saves.
use Rattle.std.specs.Prelude.{◌≡◌, ◌≢◌, ℕ, ◌<◌, ◌≤◌, List, [], Result, Ok, Err, ◌⊎◌}
use Rattle.std.specs.Option.{IfSome}
use Rattle.ofx_ports.specs.Faults.{Rose}
use Rattle.ofx_ports.specs.Known.{Stays}
use Rattle.ofx_ports.specs.Saved.{Becomes}
use Rattle.ofx_ports.specs.declared.fault.PutFault.{PutFault}
use Rattle.ofx_ports.specs.declared.fault.PutFault.TheVariants as puts
use Rattle.client_saved.specs.SavedText.{IsSavedText, IsFirstFault}
use Rattle.client_saved.specs.declared.state.ClientState.{ClientState}
use Rattle.client_core.specs.ClientForm.{new_client}
use Rattle.client_arguments.specs.declared.order.Order.{Order}
use Rattle.client_run.specs.Views.{StoreView}
use Rattle.client_run.specs.declared.stop.StoreOpenFault.{StoreOpenFault}
use Rattle.client_run.specs.declared.stop.StoreOpenFault.TheVariants as opens

-- ---- opening

-- An empty text is a new client, and any other is that of which it is the saved text.
abbrev pub IsClientIn : Order → List ℕ → ClientState → Type 0
IsClientIn order text client = ((text ≡ []) × (client ≡ new_client order.name order.user)) ⊎ IsSavedText text client

-- The client is the one that the arguments name, for their user, and has a number left for a file.
pub record IsOurs (order : Order) (client : ClientState) : Type 0 where
  pub name_is : client.name ≡ order.name
  pub user_is : client.user ≡ order.user
  pub has_number : client.next < 9999999999

-- where the store's text is known, it is this one
abbrev pub IsText : StoreView → List ℕ → Type 0
IsText store text = IfSome store.text (λ reported. text ≡ reported)

-- The client in a text is the one that the arguments name, or there is why not.
abbrev pub FindsIn : Order → List ℕ → Result ClientState StoreOpenFault → Type 0
FindsIn order text (Ok client) = IsClientIn order text client × IsOurs order client
FindsIn order text (Err opens.NotOurs) = (client : ClientState) × IsClientIn order text client × (IsOurs order client → ⊥)
FindsIn order text (Err (opens.Bad at)) = (text ≢ []) × IsFirstFault text at
FindsIn order text (Err opens.Failed) = ⊥
FindsIn order text (Err opens.OutOfMemory) = Unit {0}

-- A run goes on from the client that is kept, where that is the one that the arguments name. It changes nothing of what is kept.
abbrev pub Finds : Order → StoreView → StoreView → Result ClientState StoreOpenFault → Type 0
Finds order before after (Ok client) = (text : List ℕ) × IsText before text × IsClientIn order text client × IsOurs order client
Finds order before after (Err opens.NotOurs) =
    (text : List ℕ) × (client : ClientState) × IsText before text × IsClientIn order text client × (IsOurs order client → ⊥)
Finds order before after (Err (opens.Bad at)) = (text : List ℕ) × IsText before text × (text ≢ []) × IsFirstFault text at
Finds order before after (Err opens.Failed) = Rose before.faults after.faults
Finds order before after (Err opens.OutOfMemory) = Unit {0}

pub record Opens (order : Order) (before after : StoreView) (found : Result ClientState StoreOpenFault) : Type 0 where
  pub finds : Finds order before after found
  pub stays : Stays before.text after.text
  pub later : before.faults ≤ after.faults

-- ---- saving

-- The client's saved text is stored from now on, and the count of faults hasn't fallen. After a save that failed, that text
-- or the one before is stored; after want of memory, the one before.
abbrev pub Saves : ClientState → StoreView → StoreView → Result (Unit {0}) PutFault → Type 0
Saves client before after (Ok done) =
    (text : List ℕ) × IsSavedText text client × Becomes before.text after.text text × (before.faults ≤ after.faults)
Saves client before after (Err puts.Failed) =
    Rose before.faults after.faults
    × ((text : List ℕ) × IsSavedText text client × (Stays before.text after.text ⊎ Becomes before.text after.text text))
Saves client before after (Err puts.OutOfMemory) = Stays before.text after.text
