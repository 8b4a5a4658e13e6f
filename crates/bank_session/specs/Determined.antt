-- What a run writes is determined by its setup and by the frames that it reads with their moments.
use Rattle.std.specs.Prelude.{◌≡◌, ℕ, true, false, List, [], ◌∷◌, ◌++◌}
use Rattle.std.specs.List.{flat_map, AllByRecursion}
use Rattle.std.specs.Fmt.{decimal}
use Rattle.ofx_types.specs.declared.number.Moment.{Moment}
use Rattle.ofx_types.specs.declared.number.UserId.{UserId}
use Rattle.ofx_types.specs.declared.request.RequestFile.{RequestFile}
use Rattle.bank_model.specs.declared.setup.Setup.{Setup}
use Rattle.bank_model.specs.declared.event.State.{State}
use Rattle.bank_model.specs.declared.event.Event.TheVariants.{File}
use Rattle.bank_model.specs.Rules.{answer_to, state_after, denial}
use Rattle.bank_model.specs.Polls.{is_poll, poll_reply}
use Rattle.bank_model.specs.DueRun.{IsDueRun}
use Rattle.bank_model.specs.declared.event.Event.{Event}
use Rattle.event_codec.specs.Coding.{coded}
use Rattle.bank_frames.specs.Frames.{Content, frame, frame_of, Fits}
use Rattle.ofx_types.specs.ReplyForm.{reply_text}
use Rattle.bank_session.specs.Answers.{AnswersFrame, AnswersFile, Turn, AreTurns, written_in, records_in, moments_in}
use Rattle.bank_signon.specs.Signon.{IsSignedOn, IsDenied, IsRefused}
use Rattle.bank_frames.specs.Lines.{bad_line}

-- each file within its limit
abbrev pub AllFit : List Content → Type 0
AllFit contents = AllByRecursion Fits contents

-- Of two splittings of one input one goes on where the other stops.
pub data OneSplit (contents others : List Content) (rest tail : List ℕ) : Type 0 where
  goes_on : (more : List Content) → contents ≡ others ++ more → tail ≡ flat_map frame_of more ++ rest → OneSplit contents others rest tail
  falls_short : (more : List Content) → others ≡ contents ++ more → rest ≡ flat_map frame_of more ++ tail → OneSplit contents others rest tail

abbrev pub OneSplitting : Type 0
OneSplitting = (contents others : List Content) (rest tail : List ℕ) → AllFit contents → AllFit others →
    flat_map frame_of contents ++ rest ≡ flat_map frame_of others ++ tail → OneSplit contents others rest tail

-- What is due at a moment is done in one order, to one end.
abbrev pub OneDueRun : Type 0
OneDueRun = (setup : Setup) (before : State) (at : Moment) (events events' : List Event) →
    IsDueRun setup before at events → IsDueRun setup before at events' → events ≡ events'

-- For a frame at a moment there is one line, one list of records, and one state after it.
abbrev pub OneLine : Type 0
OneLine = (setup : Setup) (at : Moment) (before : State) (content : Content) (line line' : List ℕ) (records records' : List (List ℕ)) (after after' : State) →
    AnswersFrame setup at before content line records after → AnswersFrame setup at before content line' records' after' →
    (line ≡ line') × (records ≡ records') × (after ≡ after')

-- A file that is refused has one offset to report,
abbrev pub OneRefusal : Type 0
OneRefusal = (bytes : List ℕ) (offset offset' : ℕ) → IsRefused bytes offset → IsRefused bytes offset' → offset ≡ offset'

-- and no file is both refused and an event, or both refused and denied, or both an event and denied.
abbrev pub RefusedIsUnanswered : Type 0
RefusedIsUnanswered = (setup : Setup) (bytes : List ℕ) (file : RequestFile) (user : UserId) (offset : ℕ) →
    IsSignedOn setup bytes file user → IsRefused bytes offset → ⊥

abbrev pub RefusedIsUndenied : Type 0
RefusedIsUndenied = (setup : Setup) (bytes : List ℕ) (file : RequestFile) (offset : ℕ) →
    IsDenied setup bytes file → IsRefused bytes offset → ⊥

abbrev pub DeniedIsUnanswered : Type 0
DeniedIsUnanswered = (setup : Setup) (bytes : List ℕ) (file file' : RequestFile) (user : UserId) →
    IsSignedOn setup bytes file user → IsDenied setup bytes file' → ⊥

-- Where a user's file is an event its framed reply is written,
abbrev pub WhereAnswered : Type 0
WhereAnswered = (setup : Setup) (at : Moment) (before : State) (bytes line : List ℕ) (records : List (List ℕ)) (after : State) (file : RequestFile) (user : UserId) →
    AnswersFile setup at before bytes line records after → IsSignedOn setup bytes file user → is_poll file ≡ false →
    (line ≡ frame (answer_to setup before at (File user file))) × (records ≡ coded at (File user file) ∷ []) × (after ≡ state_after setup before at (File user file))

-- where it is a poll the framed newest tokens,
abbrev pub WherePolled : Type 0
WherePolled = (setup : Setup) (at : Moment) (before : State) (bytes line : List ℕ) (records : List (List ℕ)) (after : State) (file : RequestFile) (user : UserId) →
    AnswersFile setup at before bytes line records after → IsSignedOn setup bytes file user → is_poll file ≡ true →
    (line ≡ frame (reply_text (poll_reply setup before user at file))) × (records ≡ []) × (after ≡ before)

-- where its signon fails the framed denial,
abbrev pub WhereDenied : Type 0
WhereDenied = (setup : Setup) (at : Moment) (before : State) (bytes line : List ℕ) (records : List (List ℕ)) (after : State) (file : RequestFile) →
    AnswersFile setup at before bytes line records after → IsDenied setup bytes file →
    (line ≡ frame (reply_text (denial file at))) × (records ≡ []) × (after ≡ before)

-- where it is refused the line with just this offset,
abbrev pub WhereRefused : Type 0
WhereRefused = (setup : Setup) (at : Moment) (before : State) (bytes line : List ℕ) (records : List (List ℕ)) (after : State) (offset : ℕ) →
    AnswersFile setup at before bytes line records after → IsRefused bytes offset → (line ≡ bad_line offset) × (records ≡ []) × (after ≡ before)

-- and such a line is written only where it is refused, at an offset that is printed so.
abbrev pub OnlyWhereRefused : Type 0
OnlyWhereRefused = (setup : Setup) (at : Moment) (before : State) (bytes : List ℕ) (records : List (List ℕ)) (after : State) (printed : ℕ) →
    AnswersFile setup at before bytes (bad_line printed) records after → (offset : ℕ) × IsRefused bytes offset × (decimal offset ≡ decimal printed)

-- what the frames of turns hold
abbrev pub contents_of : List Turn → List Content
contents_of [] = []
contents_of (turn ∷ turns) = turn.content ∷ contents_of turns

-- Turns over the same frames at the same moments write the same bytes, and keep the same records.
abbrev pub OneOutput : Type 0
OneOutput = (setup : Setup) (before : State) (turns turns' : List Turn) (after after' : State) →
    AreTurns setup before turns after → AreTurns setup before turns' after' → contents_of turns ≡ contents_of turns' → moments_in turns ≡ moments_in turns'
    → (written_in turns ≡ written_in turns') × (records_in turns ≡ records_in turns') × (after ≡ after')
