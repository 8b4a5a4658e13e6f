-- What one hold of a journal does to what its caller knows. It settles what is pending, where the accounts of that are held. Then it
-- makes an event happen, or looks for due work.
use Rattle.std.specs.Prelude.{◌≡◌, ℕ, List, ◌∷◌, [], ◌++◌, Option, Some}
use Rattle.std.specs.Option.{IfSome}
use Rattle.ofx_types.specs.declared.number.AcctId.{AcctId}
use Rattle.ofx_types.specs.declared.number.Moment.{Moment}
use Rattle.bank_model.specs.declared.event.Event.{Event}
use Rattle.bank_model.specs.declared.log.LogItem.{LogItem}
use Rattle.bank_model.specs.declared.log.LogItem.TheVariants.{Answer, Fault}
use Rattle.bank_model.specs.declared.setup.Setup.{Setup}
use Rattle.bank_model.specs.declared.submit.SubmitFault.{SubmitFault}
use Rattle.bank_model.specs.declared.submit.SubmitFault.TheVariants.{Keeper, OutOfMemory}
use Rattle.bank_model.specs.Rules.{IsLegal, due}
use Rattle.bank_accounts.specs.AccountView.{Tables}
use Rattle.bank_turns.specs.Taking.{MayBeTaken}
use Rattle.bank_callers.specs.Callers.{CallerView, GainsEnding, GainsNothing, SeesMore}
use Rattle.bank_shared.specs.Advancing.{HasNothing, state_at}
use Rattle.bank_shared.specs.declared.outcome.Submitted.{Submitted}
use Rattle.bank_shared.specs.declared.outcome.Submitted.TheVariants as submitted
use Rattle.bank_shared.specs.declared.outcome.Looked.{Looked}
use Rattle.bank_shared.specs.declared.outcome.Looked.TheVariants as looked
use Rattle.bank_shared.specs.declared.outcome.Tried.{Tried}
use Rattle.bank_shared.specs.declared.outcome.Tried.TheVariants as tried

-- The pending event names accounts that aren't held. These are all that it names. Nothing has happened, and the caller knows what
-- it knew.
pub record IsLacking (tables : Tables) (numbers : List AcctId) (before after : CallerView) : Type 0 where
  pub same : after ≡ before
  pub may : MayBeTaken tables numbers

-- ---- an event happens

-- The event has happened, and this is its reply. Other items may come before its ending.
pub record Commits (event : Event) (at : Moment) (reply : List ℕ) (before after : CallerView) : Type 0 where
  pub others : List LogItem
  pub gains : GainsEnding (others ++ Answer event at reply ∷ []) before after

-- A call of the keeper failed and raised its count to this number. If it was the append of an event, it was that of this one.
pub record Faults (event : Event) (at : Moment) (count : ℕ) (before after : CallerView) : Type 0 where
  pub others : List LogItem
  pub pending : Option (Event × Moment)
  pub own : IfSome pending (λ (p : Event × Moment). (p.0 ≡ event) × (p.1 ≡ at))
  pub gains : GainsEnding (others ++ Fault count pending ∷ []) before after

abbrev pub IsRefused : Event → Moment → CallerView → CallerView → SubmitFault → Type 0
IsRefused event at before after (Keeper count) = Faults event at count before after
IsRefused event at before after OutOfMemory = GainsNothing before after

abbrev pub IsSubmitted : Tables → Event → Moment → CallerView → CallerView → Submitted → Type 0
IsSubmitted tables event at before after (submitted.Answered reply) = Commits event at reply.items before after
IsSubmitted tables event at before after (submitted.Lacks numbers) = IsLacking tables numbers.items before after

-- ---- due work is looked for

-- At the look, which is all that was seen, this event was due, and so it was legal.
pub record HasFound (setup : Setup) (at : Moment) (event : Event) (before after : CallerView) : Type 0 where
  pub look : List LogItem
  pub due_is : due setup (state_at setup before look) at ≡ Some event
  pub legal : IsLegal setup (state_at setup before look) at event
  pub sees : SeesMore look before after

abbrev pub IsLookedFor : Setup → Tables → Moment → CallerView → CallerView → Looked → Type 0
IsLookedFor setup tables at before after looked.Nothing = HasNothing setup at before after
IsLookedFor setup tables at before after (looked.Due event numbers) = HasFound setup at event before after × MayBeTaken tables numbers.items
IsLookedFor setup tables at before after (looked.Lacks numbers) = IsLacking tables numbers.items before after

-- ---- an event that was due

-- More was seen, and nothing is the caller's own.
abbrev pub SeesAny : CallerView → CallerView → Type 0
SeesAny before after = (more : List LogItem) × SeesMore more before after

-- The event isn't legal after these items more.
pub record IsNoLongerLegal (setup : Setup) (at : Moment) (event : Event) (before after : CallerView) : Type 0 where
  pub between : List LogItem
  pub illegal : IsLegal setup (state_at setup before between) at event → ⊥
  pub sees : SeesMore between before after

abbrev pub IsTried : Setup → Tables → Event → Moment → CallerView → CallerView → Tried → Type 0
IsTried setup tables event at before after tried.Done = (reply : List ℕ) × Commits event at reply before after
IsTried setup tables event at before after tried.Gone = IsNoLongerLegal setup at event before after
IsTried setup tables event at before after tried.Moved = SeesAny before after
IsTried setup tables event at before after (tried.Lacks numbers) = IsLacking tables numbers.items before after
