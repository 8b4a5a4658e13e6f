-- Exactly where a run is refused for its words or for the text that is kept, and what comes of the bytes that a bank sends, as
-- far as nothing of the outside fails and memory is there.
use Rattle.std.specs.Prelude.{◌≡◌, ◌≢◌, ℕ, List, [], length, Some, Result, Ok, Err, ◌⊎◌}
use Rattle.std.specs.Io.KnownBytes.{prepend_known}
use Rattle.ofx_ports.specs.Faults.{Rose}
use Rattle.ofx_types.specs.FileForm.{SpellsReply}
use Rattle.ofx_types.specs.declared.reply.ReplyFile.{ReplyFile}
use Rattle.ofx_types.specs.declared.told.Note.{Note}
use Rattle.ofx_types.specs.declared.told.Note.TheVariants.{Plain, Place}
use Rattle.ofx_types.specs.declared.told.Told.{Told}
use Rattle.http_link.specs.Responses.{IsUnfinishedReply, HasBadHead}
use Rattle.client_saved.specs.SavedText.{IsFirstFault}
use Rattle.client_saved.specs.declared.state.ClientState.{ClientState}
use Rattle.client_arguments.specs.Arguments.{AreArguments, IsUsage}
use Rattle.client_arguments.specs.declared.order.Order.{Order}
use Rattle.client_run.specs.Exchange.{BeginsWith, IsNoReplyAt, Exchanges}
use Rattle.client_run.specs.Views.{LinkView, PortsView}
use Rattle.client_run.specs.Saves.{IsClientIn, IsOurs, IsText}
use Rattle.client_run.specs.Run.{IsClientRun}
use Rattle.client_run.specs.Stopping.{reported}
use Rattle.client_run.specs.declared.stop.CallStop.{CallStop}
use Rattle.client_run.specs.declared.stop.CallStop.TheVariants as calls

-- Arguments without a form end a run with 2 and nothing is done, unless memory is refused.
abbrev pub RefusesArguments : Type 0
RefusesArguments = (arguments : List (List ℕ)) (before after : PortsView) (what : Told) → IsClientRun arguments before after what → IsUsage arguments
    → ((what ≡ reported 2 Plain) ⊎ (what ≡ reported 7 Plain)) × (after ≡ before)

-- The arguments have a form, and the store's text is known.
pub record HasText (arguments : List (List ℕ)) (before : PortsView) (order : Order) (text : List ℕ) : Type 0 where
  pub are_arguments : AreArguments arguments order
  pub text_is : before.store.text ≡ Some text

-- The text couldn't be loaded, or memory was refused.
abbrev pub IsUnopened : PortsView → PortsView → Told → Type 0
IsUnopened before after what = ((what ≡ reported 8 Plain) × Rose before.store.faults after.store.faults) ⊎ (what ≡ reported 7 Plain)

-- A text in which there is another client or another user, or a client without a number left, ends it with 2.
abbrev pub RefusesOthers : Type 0
RefusesOthers = (arguments : List (List ℕ)) (before after : PortsView) (what : Told) (order : Order) (text : List ℕ) (client : ClientState)
    → IsClientRun arguments before after what → HasText arguments before order text → IsClientIn order text client → (IsOurs order client → ⊥)
    → (what ≡ reported 2 Plain) ⊎ IsUnopened before after what

-- A text that isn't empty and has no form ends it with 15, and the offset of its first fault is reported.
abbrev pub RefusesText : Type 0
RefusesText = (arguments : List (List ℕ)) (before after : PortsView) (what : Told) (order : Order) (text : List ℕ) (at : ℕ)
    → IsClientRun arguments before after what → HasText arguments before order text → (text ≢ []) → IsFirstFault text at
    → (what ≡ reported 15 (Place at)) ⊎ IsUnopened before after what

-- The arguments have a form, and there is a client in the text, where that is reported, that isn't the one that they name.
pub record IsOthers (arguments : List (List ℕ)) (before : PortsView) : Type 0 where
  pub order : Order
  pub are_arguments : AreArguments arguments order
  pub text : List ℕ
  pub client : ClientState
  pub text_is : IsText before.store text
  pub is_in : IsClientIn order text client
  pub other : IsOurs order client → ⊥

-- Only these end a run with 2,
abbrev pub OnlyRefusesThese : Type 0
OnlyRefusesThese = (arguments : List (List ℕ)) (before after : PortsView) (what : Told) (note : Note) → IsClientRun arguments before after what
    → what ≡ reported 2 note → IsUsage arguments ⊎ IsOthers arguments before

-- The arguments have a form, and the text, where it is known, has none and its first fault is at this offset.
pub record IsFaulty (arguments : List (List ℕ)) (before : PortsView) (at : ℕ) : Type 0 where
  pub order : Order
  pub are_arguments : AreArguments arguments order
  pub text : List ℕ
  pub text_is : IsText before.store text
  pub some : text ≢ []
  pub fault : IsFirstFault text at

-- and only such a text with 15.
abbrev pub OnlyRefusesFaults : Type 0
OnlyRefusesFaults = (arguments : List (List ℕ)) (before after : PortsView) (what : Told) (at : ℕ) → IsClientRun arguments before after what
    → what ≡ reported 15 (Place at) → IsFaulty arguments before at

-- Only a call of the store that failed ends a run with 8, and its count of faults rose in the run.
abbrev pub OnlyBrokenStores : Type 0
OnlyBrokenStores = (arguments : List (List ℕ)) (before after : PortsView) (what : Told) (note : Note) → IsClientRun arguments before after what
    → what ≡ reported 8 note → Rose before.store.faults after.store.faults

-- Only a read of the link that failed ends a run with 5, and the link's count of failed reads rose in the run,
abbrev pub OnlyBrokenReads : Type 0
OnlyBrokenReads = (arguments : List (List ℕ)) (before after : PortsView) (what : Told) (note : Note) → IsClientRun arguments before after what
    → what ≡ reported 5 note → Rose before.link.read_faults after.link.read_faults

-- and only a write of the link or of the output that failed with 6, and the count of the one or of the other rose.
abbrev pub OnlyBrokenWrites : Type 0
OnlyBrokenWrites = (arguments : List (List ℕ)) (before after : PortsView) (what : Told) (note : Note) → IsClientRun arguments before after what
    → what ≡ reported 6 note → Rose before.link.write_faults after.link.write_faults ⊎ Rose before.out.faults after.out.faults

-- ---- the replies that a bank sends

-- A read or a write of the link failed, or memory was refused.
abbrev pub IsCallBroken : LinkView → LinkView → Result ReplyFile CallStop → Type 0
IsCallBroken before after got =
    ((got ≡ Err calls.ReadFailed) × Rose before.read_faults after.read_faults)
    ⊎ (((got ≡ Err calls.WriteFailed) × Rose before.write_faults after.write_faults) ⊎ (got ≡ Err calls.NoMemory))

-- What comes of a whole reply, by its code and its body.
abbrev pub IsOutcome : ℕ → List ℕ → Result ReplyFile CallStop → Type 0
IsOutcome code body (Ok reply) = (code ≡ 200) × SpellsReply body reply
IsOutcome code body (Err (calls.Http reported)) = (code ≢ 200) × (reported ≡ code)
IsOutcome code body (Err (calls.BadReply at)) = (code ≡ 200) × IsNoReplyAt body at
IsOutcome code body (Err calls.ReadFailed) = ⊥
IsOutcome code body (Err calls.WriteFailed) = ⊥
IsOutcome code body (Err calls.NoMemory) = ⊥
IsOutcome code body (Err calls.BadHead) = ⊥
IsOutcome code body (Err (calls.Cut count)) = ⊥

-- A request is sent, and these are the bytes that came ahead of it and those that the bank sends.
abbrev pub Asks : List ℕ → List ℕ → LinkView → LinkView → List ℕ → Result ReplyFile CallStop → Type 0
Asks all ahead before after ahead' got =
    (prepend_known ahead before.left ≡ Some all) × ((request : List ℕ) × Exchanges request ahead before ahead' after got)

-- A whole reply at their start decides what comes of the call,
abbrev pub WholeRepliesDecide : Type 0
WholeRepliesDecide = (all ahead : List ℕ) (before after : LinkView) (ahead' : List ℕ) (got : Result ReplyFile CallStop) (code : ℕ) (body : List ℕ)
    → Asks all ahead before after ahead' got → BeginsWith all code body → IsOutcome code body got ⊎ IsCallBroken before after got

-- an unfinished one ends it so many bytes into the reply,
abbrev pub UnfinishedRepliesCut : Type 0
UnfinishedRepliesCut = (all ahead : List ℕ) (before after : LinkView) (ahead' : List ℕ) (got : Result ReplyFile CallStop)
    → Asks all ahead before after ahead' got → IsUnfinishedReply all → (got ≡ Err (calls.Cut (length all))) ⊎ IsCallBroken before after got

-- and so does one without a usable head.
abbrev pub BadHeadsEnd : Type 0
BadHeadsEnd = (all ahead : List ℕ) (before after : LinkView) (ahead' : List ℕ) (got : Result ReplyFile CallStop)
    → Asks all ahead before after ahead' got → HasBadHead all → (got ≡ Err calls.BadHead) ⊎ IsCallBroken before after got
