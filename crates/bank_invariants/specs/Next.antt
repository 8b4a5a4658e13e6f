-- Entries that a bank may add to its history.
use Rattle.std.specs.Prelude.{◌≡◌, ◌+◌, pos, ◌≤ℤ◌, List, [], ◌∷◌, ◌++◌, length}
use Rattle.ofx_types.specs.declared.number.AcctId.{AcctId}
use Rattle.bank_model.specs.declared.entry.Entry.{Entry}
use Rattle.bank_model.specs.declared.setup.Setup.{Setup}
use Rattle.bank_model.specs.declared.event.State.{State}
use Rattle.bank_model.specs.Ledger.{balance}
use Rattle.bank_model.specs.Rules.{with_entries}
use Rattle.bank_invariants.specs.SoundStates.{HasSoundRow, HasSoundModel, IsNumbered, MayBeReported, IsLawful, IsSoundState}

-- An entry may come next where it has the next number, gives sound rows alone, speaks of what an entry has made by then,
-- may be reported to a client, may follow those before it, and leaves no balance below zero.
pub record IsNext (setup : Setup) (S : State) (entry : Entry) : Type 0 where
  pub number : entry.number ≡ length S.entries + 1
  pub sound : HasSoundRow setup entry
  pub sound_model : HasSoundModel setup entry
  pub made : IsNumbered (length S.entries + 1) entry
  pub reported : MayBeReported entry
  pub lawful : IsLawful S.entries entry.change
  pub covered : (account : AcctId) → pos 0 ≤ℤ balance setup (S.entries ++ entry ∷ []) account

-- Each entry may come next after those before it.
abbrev pub AreNext : Setup → State → List Entry → Type 0
AreNext setup S [] = Unit {0}
AreNext setup S (entry ∷ more) = IsNext setup S entry × AreNext setup (with_entries S (entry ∷ [])) more

-- A sound state whose history is another's, with entries after it of which each may come next.
pub record ExtendsTo (setup : Setup) (S T : State) : Type 0 where
  pub added : List Entry
  pub entries : T.entries ≡ S.entries ++ added
  pub next : AreNext setup S added
  pub sound : IsSoundState setup T
