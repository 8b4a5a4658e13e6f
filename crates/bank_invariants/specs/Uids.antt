-- Uids that are used up in the step that adds their entries.
use Rattle.std.specs.Prelude.{◌≡◌, ◌⊎◌, ℕ, Bool, true, false, List, [], ◌∷◌, ◌++◌, codes, Option, None, Some}
use Rattle.std.specs.List.{AllByRecursion}
use Rattle.ofx_types.specs.declared.number.UserId.{UserId}
use Rattle.bank_model.specs.declared.entry.Entry.{Entry}
use Rattle.bank_model.specs.declared.once.UsedPair.{UsedPair}
use Rattle.bank_model.specs.declared.setup.Setup.{Setup}
use Rattle.bank_model.specs.declared.event.State.{State}
use Rattle.bank_model.specs.declared.event.Event.{Event}
use Rattle.bank_model.specs.declared.event.Event.TheVariants.{File, Post, Spawn, Letter}
use Rattle.bank_model.specs.Once.{is_used}
use Rattle.bank_model.specs.Rules.{state_after}
use Rattle.bank_invariants.specs.Runs.{Happening}

-- the user who asks; nobody asks for what the bank does by itself
abbrev pub asker : Event → Option UserId
asker (File user file) = Some user
asker (Post id) = None
asker (Spawn id occurrence) = None
asker (Letter user subject body) = None

-- The one who asks uses up the uid with one of these pairs.
abbrev pub is_used_by : Option UserId → List ℕ → List UsedPair → Bool
is_used_by None trnuid pairs = false
is_used_by (Some user) trnuid pairs = is_used user trnuid pairs

-- Entries and pairs come after those of before. Each new entry has the uid `0`, which marks what the bank does by itself, or
-- one that the asking user uses up with a new pair. No new pair was used up before.
pub record AddsByUids (user : Option UserId) (S T : State) : Type 0 where
  pub added : List Entry
  pub pairs : List UsedPair
  pub entries : T.entries ≡ S.entries ++ added
  pub used : T.used ≡ S.used ++ pairs
  pub uids : AllByRecursion (λ (entry : Entry). (entry.trnuid ≡ codes "0") ⊎ (is_used_by user entry.trnuid pairs ≡ true)) added
  pub unused : AllByRecursion (λ (pair : UsedPair). is_used pair.user pair.trnuid S.used ≡ false) pairs

-- Each event of a run does so.
abbrev pub AllAddByUids : Setup → State → List Happening → Type 0
AllAddByUids setup S [] = Unit {0}
AllAddByUids setup S (first ∷ more) =
    AddsByUids (asker first.event) S (state_after setup S first.at first.event)
    × AllAddByUids setup (state_after setup S first.at first.event) more
