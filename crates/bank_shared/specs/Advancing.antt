-- What a caller knows after due work was looked for.
--
-- The look is a prefix of the log that extends what the caller had seen. What was due is said of the state that it ends in.
use Rattle.std.specs.Prelude.{◌≡◌, ℕ, List, [], ◌∷◌, ◌++◌, Option, None, Some}
use Rattle.std.specs.Option.{IfSome}
use Rattle.ofx_types.specs.declared.number.Moment.{Moment}
use Rattle.bank_model.specs.declared.event.Event.{Event}
use Rattle.bank_model.specs.declared.event.State.{State}
use Rattle.bank_model.specs.declared.log.LogItem.{LogItem}
use Rattle.bank_model.specs.declared.log.LogItem.TheVariants.{Effect, Answer, Adopted, Fault}
use Rattle.bank_model.specs.declared.setup.Setup.{Setup}
use Rattle.bank_model.specs.declared.submit.SubmitFault.{SubmitFault}
use Rattle.bank_model.specs.declared.submit.SubmitFault.TheVariants.{Keeper, OutOfMemory}
use Rattle.bank_model.specs.LegalLog.{ends}
use Rattle.bank_model.specs.Rules.{IsLegal, due}
use Rattle.bank_callers.specs.Callers.{CallerView, GainsEnding, GainsNothing, SeesMore}
use Rattle.bank_shared.specs.declared.advance.Advance.{Advance}
use Rattle.bank_shared.specs.declared.advance.Advance.TheVariants.{Done, Gone, Nothing}

-- the state of the bank after what a caller had seen and these items
abbrev pub state_at : Setup → CallerView → List LogItem → State
state_at setup caller grown = ends setup caller.opening (caller.seen ++ grown)

-- The event was due at the look, and has happened in this call.
pub record HasDone (setup : Setup) (at : Moment) (event : Event) (before after : CallerView) : Type 0 where
  pub look : List LogItem
  pub due_is : due setup (state_at setup before look) at ≡ Some event
  pub between : List LogItem
  pub reply : List ℕ
  pub gains : GainsEnding (look ++ between ++ Answer event at reply ∷ []) before after

-- an event has happened among these items
abbrev pub HasHappened : List LogItem → Type 0
HasHappened [] = ⊥
HasHappened (Effect entry ∷ more) = HasHappened more
HasHappened (Answer event at reply ∷ more) = Unit {0}
HasHappened (Adopted fault event at ∷ more) = Unit {0}
HasHappened (Fault count pending ∷ more) = HasHappened more

-- The event was due at the look. Since then another one has happened, and it is no longer legal.
pub record HasGone (setup : Setup) (at : Moment) (event : Event) (before after : CallerView) : Type 0 where
  pub look : List LogItem
  pub due_is : due setup (state_at setup before look) at ≡ Some event
  pub between : List LogItem
  pub happened : HasHappened between
  pub illegal : IsLegal setup (state_at setup before (look ++ between)) at event → ⊥
  pub sees : SeesMore (look ++ between) before after

-- Nothing was due at the look, which is all that was seen.
pub record HasNothing (setup : Setup) (at : Moment) (before after : CallerView) : Type 0 where
  pub look : List LogItem
  pub due_is : due setup (state_at setup before look) at ≡ None
  pub sees : SeesMore look before after

abbrev pub IsAdvanced : Setup → Moment → CallerView → CallerView → Advance → Type 0
IsAdvanced setup at before after (Done event) = HasDone setup at event before after
IsAdvanced setup at before after (Gone event) = HasGone setup at event before after
IsAdvanced setup at before after Nothing = HasNothing setup at before after

-- A call of the keeper failed and raised its count to this number. If it was the append of an event, that was due at the look.
pub record HasFailed (setup : Setup) (at : Moment) (count : ℕ) (before after : CallerView) : Type 0 where
  pub look : List LogItem
  pub between : List LogItem
  pub pending : Option (Event × Moment)
  pub was_due : IfSome pending (λ p. (due setup (state_at setup before look) at ≡ Some p.0) × (p.1 ≡ at))
  pub gains : GainsEnding (look ++ between ++ Fault count pending ∷ []) before after

abbrev pub IsUnadvanced : Setup → Moment → CallerView → CallerView → SubmitFault → Type 0
IsUnadvanced setup at before after (Keeper count) = HasFailed setup at count before after
IsUnadvanced setup at before after OutOfMemory = GainsNothing before after
