-- What the bytes of a file are to the bank.
use Rattle.std.specs.Prelude.{◌≡◌, ℕ, ◌<◌, true, false, List, length, Option, None, Some}
use Rattle.ofx_types.specs.FileForm.{SpellsFile, IsFaultOf}
use Rattle.ofx_types.specs.declared.fault.FileFault.{FileFault}
use Rattle.ofx_types.specs.declared.fault.FileFault.TheVariants.{Header, Syntax, Form, OutOfMemory}
use Rattle.ofx_types.specs.declared.number.UserId.{UserId}
use Rattle.ofx_types.specs.declared.request.RequestFile.{RequestFile}
use Rattle.bank_model.specs.declared.setup.Setup.{Setup}
use Rattle.bank_model.specs.SetupLookups.{signed_on}
use Rattle.bank_model.specs.Polls.{is_poll}
use Rattle.bank_model.specs.Sound.{IsSound}
use Rattle.bank_signon.specs.declared.judging.Judgement.{Judgement}
use Rattle.bank_signon.specs.declared.judging.Judgement.TheVariants.{Event, Poll, Denied, Refused}

-- A file is a user's where its bytes spell a request file, and the setup has this user with this password.
pub record IsSignedOn (setup : Setup) (bytes : List ℕ) (file : RequestFile) (user : UserId) : Type 0 where
  pub spelled : SpellsFile bytes file
  pub signed : signed_on setup file.user file.pass ≡ Some user

-- Where the setup has no such user the signon failed.
pub record IsDenied (setup : Setup) (bytes : List ℕ) (file : RequestFile) : Type 0 where
  pub spelled : SpellsFile bytes file
  pub unsigned : signed_on setup file.user file.pass ≡ None

-- The offset of a fault is reported. Want of memory has none.
abbrev pub fault_offset : FileFault → Option ℕ
fault_offset (Header at) = Some at
fault_offset (Syntax at) = Some at
fault_offset (Form at) = Some at
fault_offset OutOfMemory = None

-- Bytes that spell no file are refused: the offset is that of their fault.
pub record IsRefused (bytes : List ℕ) (offset : ℕ) : Type 0 where
  pub fault : FileFault
  pub is_fault : IsFaultOf bytes fault
  pub has_offset : fault_offset fault ≡ Some offset

-- The file of a user who signs on. Where it is no poll it is an event that is legal in any state.
pub record IsOfUser (setup : Setup) (bytes : List ℕ) (user : UserId) (file : RequestFile) : Type 0 where
  pub signed_on : IsSignedOn setup bytes file user
  pub known : user.0 < length setup.users
  pub sound : IsSound file

-- It is an event or a poll where its user signs on, is denied where the signon fails, and has an offset to tell where it is
-- refused.
abbrev pub IsJudged : Setup → List ℕ → Judgement → Type 0
IsJudged setup bytes (Event user file) = IsOfUser setup bytes user file × (is_poll file ≡ false)
IsJudged setup bytes (Poll user file) = IsOfUser setup bytes user file × (is_poll file ≡ true)
IsJudged setup bytes (Denied file) = IsDenied setup bytes file
IsJudged setup bytes (Refused offset) = IsRefused bytes offset
