-- Signons and the answers to them as documents of a sheet, and that they read back as they were written.
use Rattle.std.specs.Prelude.{◌≡◌, ℕ, ◌<◌, ◌≤◌, List, ◌++◌, codes, Ok}
use Rattle.ofx_types.specs.Calendar.{IsMoment}
use Rattle.ofx_types.specs.DateForm.{moment_text}
use Rattle.ofx_types.specs.RequestReading.{signon_of}
use Rattle.ofx_types.specs.RequestText.{signon_request}
use Rattle.ofx_types.specs.ReplyReading.{signon_reply_of}
use Rattle.ofx_types.specs.ReplyForm.{signon_reply}
use Rattle.ofx_types.specs.declared.number.Moment.{Moment}
use Rattle.ofx_tree.specs.Documents.{Documents, empty, leaf, branch, printed, AreLawful, branch_item}
use Rattle.msg_parts.specs.PartDocuments.{status_documents}
use Rattle.msg_parts.specs.SoundParts.{IsTextWithin}

-- A user's name has 1 to 32 bytes and a password 1 to 64, and the signon was made in the years 1900 to 9999.
pub record IsSoundSignon (user pass : List ℕ) (at : Moment) : Type 0 where
  pub is_user : IsTextWithin 32 user
  pub is_pass : IsTextWithin 64 pass
  pub moment : IsMoment at.0

-- A code is at most 65,535, and the answer is of the years 1900 to 9999.
pub record IsSoundSignonReply (code : ℕ) (at : Moment) : Type 0 where
  pub is_code : code ≤ 65535
  pub moment : IsMoment at.0

-- what is in SONRQ
abbrev pub signon_documents : List ℕ → List ℕ → Moment → Documents
signon_documents user pass at =
    leaf (codes "DTCLIENT") (moment_text at.0)
    (leaf (codes "USERID") user
    (leaf (codes "USERPASS") pass
    (leaf (codes "LANGUAGE") (codes "ENG") (leaf (codes "APPID") (codes "OFXC") (leaf (codes "APPVER") (codes "0100") empty)))))

-- what is in SONRS
abbrev pub signon_reply_documents : ℕ → Moment → Documents
signon_reply_documents code at =
    branch (codes "STATUS") (status_documents code)
    (leaf (codes "DTSERVER") (moment_text at.0) (leaf (codes "LANGUAGE") (codes "ENG") empty))

-- What is written of a signon are its documents.
abbrev pub SignonsAreDocuments : Type 0
SignonsAreDocuments =
    (user pass : List ℕ) (at : Moment) (rest : Documents)
    → printed (branch (codes "SONRQ") (signon_documents user pass at) rest) ≡ signon_request user pass at ++ printed rest

-- Those of a sound signon are lawful.
abbrev pub SignonsAreLawful : Type 0
SignonsAreLawful =
    (room : ℕ) (user pass : List ℕ) (at : Moment) (rest : Documents)
    → 0 < room → IsSoundSignon user pass at → AreLawful room rest
    → AreLawful room (branch (codes "SONRQ") (signon_documents user pass at) rest)

-- Wherever they are, that name and that password are read from them.
abbrev pub SignonsReadBack : Type 0
SignonsReadBack =
    (offset index : ℕ) (user pass : List ℕ) (at : Moment) → IsSoundSignon user pass at
    → signon_of (branch_item offset index (codes "SONRQ") (signon_documents user pass at)) ≡ Ok (user, pass)

-- The same of the answers to signons.
abbrev pub SignonRepliesAreDocuments : Type 0
SignonRepliesAreDocuments =
    (code : ℕ) (at : Moment) (rest : Documents)
    → printed (branch (codes "SONRS") (signon_reply_documents code at) rest) ≡ signon_reply code at ++ printed rest

abbrev pub SignonRepliesAreLawful : Type 0
SignonRepliesAreLawful =
    (room code : ℕ) (at : Moment) (rest : Documents)
    → 1 < room → IsSoundSignonReply code at → AreLawful room rest
    → AreLawful room (branch (codes "SONRS") (signon_reply_documents code at) rest)

abbrev pub SignonRepliesReadBack : Type 0
SignonRepliesReadBack =
    (offset index code : ℕ) (at : Moment) → IsSoundSignonReply code at
    → signon_reply_of (branch_item offset index (codes "SONRS") (signon_reply_documents code at)) ≡ Ok (code, at)
