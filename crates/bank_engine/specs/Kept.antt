-- The records of a bank, as its log gives them.
use Rattle.std.specs.Prelude.{◌≡◌, ℕ, ◌⊎◌, Bool, true, false, List, [], ◌∷◌, ◌++◌, Option, None, Some}
use Rattle.bank_model.specs.declared.event.State.{State}
use Rattle.bank_model.specs.declared.log.LogItem.{LogItem}
use Rattle.bank_model.specs.declared.log.LogItem.TheVariants.{Effect, Answer, Adopted, Fault}
use Rattle.bank_model.specs.declared.setup.Setup.{Setup}
use Rattle.bank_model.specs.Rules.{opening_state}
use Rattle.bank_model.specs.Log.{endings}
use Rattle.event_codec.specs.Records.{IsWritten, Reopens}
use Rattle.bank_engine.specs.Views.{PendingView}

-- There is one record for each event that was answered or adopted, in order, and it codes the event and its moment.
abbrev pub CodeEndings : List LogItem → List (List ℕ) → Type 0
CodeEndings [] records = records ≡ []
CodeEndings (Effect entry ∷ more) records = CodeEndings more records
CodeEndings (Fault count pending ∷ more) records = CodeEndings more records
CodeEndings (Answer event at reply ∷ more) [] = ⊥
CodeEndings (Answer event at reply ∷ more) (rec ∷ records) = IsWritten rec at event × CodeEndings more records
CodeEndings (Adopted fault event at ∷ more) [] = ⊥
CodeEndings (Adopted fault event at ∷ more) (rec ∷ records) = IsWritten rec at event × CodeEndings more records

-- the record of the pending event has landed
pub record HasLanded (landed : Option Bool) (pending : PendingView) (records : List (List ℕ)) : Type 0 where
  pub is_reported : landed ≡ Some true
  pub rec : List ℕ
  pub codes : IsWritten rec pending.at pending.event
  pub is_it : records ≡ rec ∷ []

-- it hasn't
pub record IsLost (landed : Option Bool) (records : List (List ℕ)) : Type 0 where
  pub is_reported : landed ≡ Some false
  pub none : records ≡ []

-- Where an append failed and isn't settled, the record of its event is stored where it has landed. Otherwise none is.
abbrev pub MayRemain : Option Bool → Option PendingView → List (List ℕ) → Type 0
MayRemain landed None records = records ≡ []
MayRemain landed (Some pending) records = HasLanded landed pending records ⊎ IsLost landed records

-- The records are those with which the bank opened, then those of the events that the log answered and adopted, and then what
-- may be stored of the pending event. From the first ones comes the state that the bank opened in.
pub record AreKept (setup : Setup) (opening : State) (first : List (List ℕ)) (log : List LogItem) (landed : Option Bool) (pending : Option PendingView) (records : List (List ℕ)) : Type 0 where
  pub opened : Reopens setup opening_state first opening
  pub coded : List (List ℕ)
  pub besides : List (List ℕ)
  pub parts : records ≡ first ++ coded ++ besides
  pub code : CodeEndings (endings log) coded
  pub may_remain : MayRemain landed pending besides
