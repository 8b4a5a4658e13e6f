-- What a desk answers and does, as the lines of frames.
use Rattle.std.proofs.Common.{◌≡◌, ℕ, Bool, List, [], ◌∷◌, ◌++◌, Option, Some, ◌⊎◌, inl, inr, arith, refl, sym, ap, ◌∙◌, length-append}
use Rattle.std.specs.Prelude.{Result, Err}
use Rattle.ofx_ports.specs.Known.{Stays, Grows}
use Rattle.ofx_types.specs.declared.number.Moment.{Moment}
use Rattle.bank_model.specs.Rules.{due}
use Rattle.bank_model.specs.declared.event.Event.TheVariants.{File}
use Rattle.bank_model.specs.DueRun.{after_events}
use Rattle.bank_model.specs.declared.setup.Setup.{Setup}
use Rattle.bank_model.specs.declared.event.State.{State}
use Rattle.bank_core.specs.BookView.{BookView}
use Rattle.bank_frames.specs.Frames.{request, due_work, frame}
use Rattle.bank_frames.specs.Lines.{bad_line, due_line}
use Rattle.bank_signon.specs.Signon.{IsRefused}
use Rattle.bank_desk.specs.Answering.{Sends, FileUnkept}
use Rattle.bank_desk.specs.DueSteps.{MadeRun, StoppedWork}
use Rattle.bank_desk.specs.declared.fault.DeskFault.{DeskFault}
use Rattle.bank_desk.specs.declared.fault.DeskFault.TheVariants.{NoMemory, AppendFailed}
use Rattle.ofx_ports.proofs.KnownLaws.{Grows-nil, Grows-trans, Grows-kept}
use Rattle.bank_session.proofs.ReportedLemmas.{grows_nothing, landed_or_not}
use Rattle.bank_desk.proofs.DueEvents.{due_more, records_more}
use Rattle.bank_session.specs.Answers.{AnswersFile, DoesDue, IsPrefixKept}

-- ---- a file

-- what is written for a file with the records that are kept of it
abbrev pub AnswersKeeping : Setup → Moment → State → List ℕ → Option (List (List ℕ)) → Option (List (List ℕ)) → State → List ℕ → Type 0
AnswersKeeping setup at before bytes reported reported' after line = (records : List (List ℕ)) × AnswersFile setup at before bytes line records after × Grows reported reported' records

said : (setup : Setup) (at : Moment) (before after : State) (bytes line : List ℕ) (records : List (List ℕ)) → Sends frame setup at before bytes line records after → AnswersFile setup at before bytes line records after
said setup at before after bytes line records (inl reply) = inl reply
said setup at before after bytes line records (inr (inl poll)) = inr (inl poll)
said setup at before after bytes line records (inr (inr denial)) = inr (inr (inl denial))

pub file_sent : (setup : Setup) (at : Moment) (before after : State) (bytes line : List ℕ) (reported reported' : Option (List (List ℕ))) → ((records : List (List ℕ)) × Sends frame setup at before bytes line records after × Grows reported reported' records) → AnswersKeeping setup at before bytes reported reported' after line
file_sent setup at before after bytes line reported reported' (records, sends, grows) = (records, said setup at before after bytes line records sends, grows)

pub file_refused : (setup : Setup) (at : Moment) (before after : State) (bytes line : List ℕ) (offset : ℕ) (reported reported' : Option (List (List ℕ))) → IsRefused bytes offset × Stays reported reported' × (after ≡ before) → line ≡ bad_line offset → AnswersKeeping setup at before bytes reported reported' after line
file_refused setup at before after bytes line offset reported reported' (refused, stays, same) bad =
    ([], inr (inr (inr (record { offset = offset; refused = refused; unkept = refl; bad = bad; state = same }))), grows_nothing reported reported' stays)

abbrev failing : (A : Type 0) → DeskFault → Result A DeskFault
failing A fault = Err fault

-- two refusals are one whatever might have been answered instead
pub refused_alike : (A B : Type 0) (fault other : DeskFault) → failing A fault ≡ failing A other → failing B fault ≡ failing B other
refused_alike A B fault other same = let is : fault ≡ other = cc in ap (failing B) is

-- of a file whose append failed the record is kept, or nothing is
pub file_prefix : (setup : Setup) (at : Moment) (before : State) (bytes : List ℕ) (reported reported' : Option (List (List ℕ))) (landed : Option Bool) → FileUnkept setup at bytes reported reported' landed → (records : List (List ℕ)) × IsPrefixKept setup at before (request bytes) records × Grows reported reported' records
file_prefix setup at before bytes reported reported' landed h = by (landed_or_not reported reported' landed h.rec h.lands)
  where
    by : Stays reported reported' ⊎ Grows reported reported' (h.rec ∷ []) → (records : List (List ℕ)) × IsPrefixKept setup at before (request bytes) records × Grows reported reported' records
    by (inl stays) = ([], record { events = []; work = inl refl; kept = refl }, grows_nothing reported reported' stays)
    by (inr grows) = (
      h.rec ∷ [],
      record { events = File h.user h.file ∷ []; work = inr (h.file, h.user, h.is_signed_on, h.is_event, refl); kept = (h.codes, refl) },
      grows,
    )

-- ---- due work

-- what is kept of due work that isn't done
abbrev pub KeepsDuePrefix : Setup → Moment → State → Option (List (List ℕ)) → Option (List (List ℕ)) → Type 0
KeepsDuePrefix setup at before reported reported' = (records : List (List ℕ)) × IsPrefixKept setup at before due_work records × Grows reported reported' records

-- the events that have happened are a prefix of what is due, and so they are with the one whose append failed, if its record landed
pub work_prefix : (at : Moment) (before after : BookView) (reported reported' : Option (List (List ℕ))) (landed : Option Bool) (fault : DeskFault) → after.setup ≡ before.setup → StoppedWork at before after reported reported' landed fault → KeepsDuePrefix before.setup at before.state reported reported'
work_prefix at before after reported reported' landed NoMemory own h =
    (h.records, record { events = h.events; work = (h.begun.are_due, h.begun.few); kept = h.begun.kept }, h.grows)
work_prefix at before after reported reported' landed AppendFailed own h = by (landed_or_not h.between reported' landed h.rec h.lands)
  where
    next : due before.setup (after_events before.setup before.state at h.events) at ≡ Some h.event
    next = ap (λ (S : State). due before.setup S at) (sym h.begun.state) ∙ (ap (λ (s : Setup). due s after.state at) (sym own) ∙ h.next)

    by : Stays h.between reported' ⊎ Grows h.between reported' (h.rec ∷ []) → KeepsDuePrefix before.setup at before.state reported reported'
    by (inl stays) = (h.records, record { events = h.events; work = (h.begun.are_due, h.begun.few); kept = h.begun.kept }, Grows-kept reported h.between reported' h.records h.grows stays)
    by (inr grows) = (
      h.records ++ h.rec ∷ [],
      record {
        events = h.events ++ h.event ∷ [];
        work = (due_more before.setup before.state at h.events h.event h.begun.are_due next, omega (arith, h.room, length-append h.events (h.event ∷ [])));
        kept = records_more at h.events h.records h.event h.rec h.begun.kept h.codes;
      },
      Grows-trans reported h.between reported' h.records (h.rec ∷ []) h.grows grows,
    )

-- before the first event nothing is kept
pub no_work : (at : Moment) (before : BookView) (reported : Option (List (List ℕ))) → KeepsDuePrefix before.setup at before.state reported reported
no_work at before reported = ([], record { events = []; work = (tt, omega arith); kept = refl }, Grows-nil reported)

-- a whole run with its line
pub run_reported : (at : Moment) (before after : BookView) (reported reported' : Option (List (List ℕ))) (count : ℕ) (line : List ℕ) → MadeRun at before after reported reported' count → line ≡ due_line count →
    (records : List (List ℕ)) × DoesDue before.setup at before.state line records after.state × Grows reported reported' records
run_reported at before after reported reported' count line made is = (
  made.records,
  record { events = made.events; is_run = made.is_run; kept = made.kept; count = is ∙ ap due_line (sym made.counted); state = made.state },
  made.grows,
)
