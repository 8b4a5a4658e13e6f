-- How the command `mail` ends, and exactly where.
use Rattle.std.proofs.Common.{◌≡◌, ℕ, ◌≤◌, Bool, true, false, List, [], ◌∷◌, ◌++◌, length, Option, None, Some, OnOk, Result, Ok, Err, inl, inr, arith, refl, sym, ap, ◌∙◌, subst, append-nil, length-append}
use Rattle.std.specs.Prelude.{IfOk, IfErr}
use Rattle.std.specs.Io.KnownBytes.{Keeps, IsAtEnd, prepend_known}
use Rattle.std.proofs.KnownBytes.{Keeps-refl}
use Rattle.ofx_ports.specs.Faults.{Rose}
use Rattle.ofx_ports.specs.Known.{Stays, Grows}
use Rattle.ofx_ports.specs.Kept.{MayGrow}
use Rattle.ofx_types.specs.declared.number.Moment.{Moment}
use Rattle.ofx_types.specs.declared.number.UserId.{UserId}
use Rattle.ofx_types.specs.declared.told.Told.{Told}
use Rattle.ofx_types.specs.declared.told.Note.TheVariants.{Plain, Place, NoUser, Full}
use Rattle.bank_model.specs.Due.{has_number}
use Rattle.bank_model.specs.Rules.{IsLegal}
use Rattle.bank_model.specs.SetupLookups.{user_of}
use Rattle.bank_model.specs.Sound.{IsTextWithin}
use Rattle.bank_model.specs.declared.setup.Setup.{Setup}
use Rattle.bank_model.specs.declared.event.State.{State}
use Rattle.bank_model.specs.declared.event.Event.TheVariants.{Letter}
use Rattle.bank_core.specs.BookView.{BookView}
use Rattle.event_codec.specs.Records.{Codes}
use Rattle.bank_opening.specs.Reports.{reported_of, reported}
use Rattle.bank_opening.specs.declared.stop.LetterFault.TheVariants as faults
use Rattle.bank_opening.specs.declared.stop.Stop.{Stop}
use Rattle.bank_opening.specs.declared.stop.Stop.TheVariants as stops
use Rattle.bank_opening.specs.OneBank.{OneBank}
use Rattle.bank_opening.proofs.OneSetup.{OneSetup}
use Rattle.bank_session.specs.PortsView.{PortsView, ports_view}
use Rattle.bank_session.specs.Stopping.{stop_of}
use Rattle.bank_session.specs.Letters.{IsBody, IsBodyOf, HasNoBody, IsNoBody, ReadsBody}
use Rattle.bank_session.specs.MailEnd.{StopsReading, LetterEnds, MailEnds}
use Rattle.bank_session.specs.Run.{EndsSo}
use Rattle.bank_session.specs.Statuses.{IsInterrupted, RefusesSetup, RefusesRecord, RefusesIllegal, Brings, RefusesBody, RefusesUser, RefusesFull, WritesIt, IsMailCommand}
use Rattle.bank_desk.specs.declared.fault.DeskFault.{DeskFault}
use Rattle.bank_desk.specs.declared.fault.DeskFault.TheVariants.{NoMemory, AppendFailed}
use Rattle.bank_session.proofs.ReportedLemmas.{landed_or_not}
use Rattle.bank_session.proofs.Unopened.{Unopened, unopened, unopened_setup, unopened_record, unopened_illegal, unopened_otherwise, interrupted_otherwise, opens_or_interrupted, or_interrupted, wider, status_is, unspelled_setup, IsBankOf, record_refused, illegal_refused, of_found}
use Rattle.bank_session.proofs.LineLemmas.{none_or_some, is_both}

-- ---- the body

-- bytes that are read, of which there are as many as a body may have at most, are all
all_read : (all ahead rest : List ℕ) → ahead ++ rest ≡ all → rest ≡ [] → ahead ≡ all
all_read all ahead rest e end = sym (append-nil ahead) ∙ (ap (λ (l : List ℕ). ahead ++ l) (sym end) ∙ e)

pub body_of_all : (left left' : Option (List ℕ)) (ahead body : List ℕ) → Keeps (prepend_known [] left) (prepend_known ahead left') → (length ahead ≤ 262144 → IsAtEnd left') → IsBody ahead body → IsBodyOf left body
body_of_all None left' ahead body kept at_end is = tt
body_of_all (Some all) None ahead body kept at_end is = absurd kept
body_of_all (Some all) (Some rest) ahead body kept at_end is = subst (λ (bytes : List ℕ). IsBody bytes body) (all_read all ahead rest kept (at_end is.small)) is

-- where what is read is no body no more is one
none_longer : (all ahead rest : List ℕ) → ahead ++ rest ≡ all → (length ahead ≤ 262144 → rest ≡ []) → HasNoBody ahead → HasNoBody all
none_longer all ahead rest e at_end none body is =
    let short : length ahead ≤ 262144 = omega (arith, is.small, ap length e, length-append ahead rest) in
    none body (subst (λ (bytes : List ℕ). IsBody bytes body) (sym (all_read all ahead rest e (at_end short))) is)

pub no_body_of_all : (left left' : Option (List ℕ)) (ahead : List ℕ) → Keeps (prepend_known [] left) (prepend_known ahead left') → (length ahead ≤ 262144 → IsAtEnd left') → HasNoBody ahead → IsNoBody left
no_body_of_all None left' ahead kept at_end none = tt
no_body_of_all (Some all) None ahead kept at_end none = absurd kept
no_body_of_all (Some all) (Some rest) ahead kept at_end none = none_longer all ahead rest kept at_end none

-- what is made of the bytes that are read is made of all of them
pub body_found : (left left' : Option (List ℕ)) (ahead : List ℕ) (answer : Result (List ℕ) Stop) → Keeps (prepend_known [] left) (prepend_known ahead left') → (length ahead ≤ 262144 → IsAtEnd left') → ReadsBody ahead answer → IfOk answer (IsBodyOf left)
body_found left left' ahead (Ok body) kept at_end is = body_of_all left left' ahead body kept at_end is
body_found left left' ahead (Err stop) kept at_end is = tt

pub body_at_end : (left' : Option (List ℕ)) (ahead : List ℕ) (answer : Result (List ℕ) Stop) → (length ahead ≤ 262144 → IsAtEnd left') → ReadsBody ahead answer → OnOk answer (IsAtEnd left')
body_at_end left' ahead (Ok body) at_end is = at_end is.small
body_at_end left' ahead (Err stop) at_end is = tt

pub body_fits : (ahead : List ℕ) (answer : Result (List ℕ) Stop) → ReadsBody ahead answer → IfOk answer (IsTextWithin 10000)
body_fits ahead (Ok body) is = is.fits
body_fits ahead (Err stop) is = tt

pub body_refused : (left left' : Option (List ℕ)) (before now : ℕ) (ahead : List ℕ) (answer : Result (List ℕ) Stop) → Keeps (prepend_known [] left) (prepend_known ahead left') → (length ahead ≤ 262144 → IsAtEnd left') → ReadsBody ahead answer → IfErr answer (StopsReading left before now)
body_refused left left' before now ahead (Ok body) kept at_end is = tt
body_refused left left' before now ahead (Err (stops.Letter faults.NoBody)) kept at_end is = no_body_of_all left left' ahead kept at_end is
body_refused left left' before now ahead (Err (stops.Letter faults.NoUser)) kept at_end is = absurd is
body_refused left left' before now ahead (Err (stops.Letter faults.Full)) kept at_end is = absurd is
body_refused left left' before now ahead (Err stops.NoMemory) kept at_end is = tt
body_refused left left' before now ahead (Err stops.ReadFailed) kept at_end is = absurd is
body_refused left left' before now ahead (Err stops.WriteFailed) kept at_end is = absurd is
body_refused left left' before now ahead (Err stops.KeeperFailed) kept at_end is = absurd is
body_refused left left' before now ahead (Err (stops.Frame offset)) kept at_end is = absurd is
body_refused left left' before now ahead (Err stops.Usage) kept at_end is = absurd is
body_refused left left' before now ahead (Err (stops.Setup line)) kept at_end is = absurd is
body_refused left left' before now ahead (Err (stops.Records fault)) kept at_end is = absurd is

-- ---- how the command ends

-- the letter isn't written, after the clock's one answer
pub letter_undone : (bank : BookView) (user : UserId) (name subject body : List ℕ) (setup_left setup_left' left left' held : Option (List ℕ)) (setup_faults setup_faults' faults faults' writes : ℕ) (records records' : Option (List (List ℕ))) (keeps keeps' : ℕ) (shown shown' : Option (List Moment)) (unsettled unsettled' : Bool) (landed : Option Bool) (moment : Moment) (undone : DeskFault) →
    user_of bank.setup name ≡ Some user → Grows shown shown' (moment ∷ []) → (undone ≡ NoMemory → Stays records records') →
    (undone ≡ AppendFailed → (rec : List ℕ) × IsLegal bank.setup bank.state moment (Letter user subject body) × Codes rec moment (Letter user subject body) × MayGrow records records' landed rec) →
    (undone ≡ AppendFailed → Rose keeps keeps') →
    LetterEnds bank name subject body (ports_view setup_left setup_faults left faults held writes records keeps shown unsettled) (ports_view setup_left' setup_faults' left' faults' held writes records' keeps' shown' unsettled') (Err (stop_of undone))
letter_undone bank user name subject body setup_left setup_left' left left' held setup_faults setup_faults' faults faults' writes records records' keeps keeps' shown shown' unsettled unsettled' landed moment NoMemory named reported refused unkept rose = record {
  unkept = refused refl;
  unwritten = Keeps-refl held;
  next = moment ∷ [];
  few = omega arith;
  moments = reported;
}
letter_undone bank user name subject body setup_left setup_left' left left' held setup_faults setup_faults' faults faults' writes records records' keeps keeps' shown shown' unsettled unsettled' landed moment AppendFailed named reported refused unkept rose =
    let h = unkept refl in (
      record {
        user = user;
        moment = moment;
        rec = h.0;
        named = named;
        legal = h.1;
        codes = h.2;
        kept = landed_or_not records records' landed h.0 h.3;
        unwritten = Keeps-refl held;
        moments = reported;
      },
      rose refl,
    )

-- the command had its body
pub mail_with_body : (bank : BookView) (name subject : List ℕ) (before after : PortsView) (body : List ℕ) (end : Result (Unit {0}) Stop) → IsBodyOf before.input_left body → IsAtEnd after.input_left → LetterEnds bank name subject body before after end → MailEnds name subject bank.setup bank.state before after end
mail_with_body bank name subject before after body (Ok done) is at_end ends = record { body = body; is_body = is; at_end = at_end; ends = ends }
mail_with_body bank name subject before after body (Err stop) is at_end ends = inr (record { body = body; is_body = is; at_end = at_end; ends = ends })

-- ---- exactly where

-- what the command comes to: it has no bank, gives up, or has its bank and ends by its body, its user and the room left
data Comes (name : List ℕ) (before after : PortsView) (what : Told) : Type 0 where
  without : Unopened before after what → Comes name before after what
  interrupted : (setup : Setup) (start : State) → IsBankOf before setup start → IsInterrupted before after what → Comes name before after what
  no_body : (setup : Setup) (start : State) → IsBankOf before setup start → IsNoBody before.input_left → what ≡ reported 4 (Place 0) → Comes name before after what
  no_user : (setup : Setup) (start : State) (body : List ℕ) → IsBankOf before setup start → IsBodyOf before.input_left body → user_of setup name ≡ None → what ≡ reported 10 NoUser → Comes name before after what
  full : (setup : Setup) (start : State) (body : List ℕ) (user : UserId) → IsBankOf before setup start → IsBodyOf before.input_left body → user_of setup name ≡ Some user → has_number setup start ≡ false → what ≡ reported 10 Full → Comes name before after what
  written : (setup : Setup) (start : State) (body : List ℕ) (user : UserId) → IsBankOf before setup start → IsBodyOf before.input_left body → user_of setup name ≡ Some user → has_number setup start ≡ true → what ≡ reported 0 Plain → Comes name before after what

-- the bank in this state
abbrev bank_in : Setup → State → BookView
bank_in setup start = record { setup = setup; state = start }

letter_comes : (setup : Setup) (start : State) (name subject body : List ℕ) (before after : PortsView) (end : Result (Unit {0}) Stop) → IsBankOf before setup start → IsBodyOf before.input_left body → LetterEnds (bank_in setup start) name subject body before after end → Comes name before after (reported_of end)
letter_comes setup start name subject body before after (Ok done) bank is h = written setup start body h.user bank is h.named h.writes.legal.3 refl
letter_comes setup start name subject body before after (Err (stops.Letter faults.NoUser)) bank is h = no_user setup start body bank is h.0 refl
letter_comes setup start name subject body before after (Err (stops.Letter faults.Full)) bank is h = full setup start body h.0.0 bank is h.0.1 h.0.2 refl
letter_comes setup start name subject body before after (Err (stops.Letter faults.NoBody)) bank is h = absurd h.0
letter_comes setup start name subject body before after (Err stops.WriteFailed) bank is h = interrupted setup start bank (inr (inl (refl, h.1)))
letter_comes setup start name subject body before after (Err stops.KeeperFailed) bank is h = interrupted setup start bank (inr (inr (inl (refl, h.1))))
letter_comes setup start name subject body before after (Err stops.NoMemory) bank is h = interrupted setup start bank (inr (inr (inr refl)))
letter_comes setup start name subject body before after (Err stops.ReadFailed) bank is h = absurd h
letter_comes setup start name subject body before after (Err (stops.Frame offset)) bank is h = absurd h
letter_comes setup start name subject body before after (Err stops.Usage) bank is h = absurd h
letter_comes setup start name subject body before after (Err (stops.Setup line)) bank is h = absurd h
letter_comes setup start name subject body before after (Err (stops.Records fault)) bank is h = absurd h

bank_comes : (setup : Setup) (start : State) (name subject : List ℕ) (before after : PortsView) (end : Result (Unit {0}) Stop) → IsBankOf before setup start → MailEnds name subject setup start before after end → Comes name before after (reported_of end)
bank_comes setup start name subject before after (Ok done) bank h = letter_comes setup start name subject h.body before after (Ok done) bank h.is_body h.ends
bank_comes setup start name subject before after (Err stop) bank (inr h) = letter_comes setup start name subject h.body before after (Err stop) bank h.is_body h.ends
bank_comes setup start name subject before after (Err (stops.Letter faults.NoBody)) bank (inl h) = no_body setup start bank h.cause refl
bank_comes setup start name subject before after (Err (stops.Letter faults.NoUser)) bank (inl h) = absurd h.cause
bank_comes setup start name subject before after (Err (stops.Letter faults.Full)) bank (inl h) = absurd h.cause
bank_comes setup start name subject before after (Err stops.ReadFailed) bank (inl h) = interrupted setup start bank (inl (refl, inr h.cause))
bank_comes setup start name subject before after (Err stops.NoMemory) bank (inl h) = interrupted setup start bank (inr (inr (inr refl)))
bank_comes setup start name subject before after (Err stops.WriteFailed) bank (inl h) = absurd h.cause
bank_comes setup start name subject before after (Err stops.KeeperFailed) bank (inl h) = absurd h.cause
bank_comes setup start name subject before after (Err (stops.Frame offset)) bank (inl h) = absurd h.cause
bank_comes setup start name subject before after (Err stops.Usage) bank (inl h) = absurd h.cause
bank_comes setup start name subject before after (Err (stops.Setup line)) bank (inl h) = absurd h.cause
bank_comes setup start name subject before after (Err (stops.Records fault)) bank (inl h) = absurd h.cause

comes : (name subject : List ℕ) (before after : PortsView) (end : Result (Unit {0}) Stop) → EndsSo (MailEnds name subject) before after end → Comes name before after (reported_of end)
comes name subject before after (Ok done) h = bank_comes h.setup h.start name subject before after (Ok done) (record { found = h.found; holds = h.holds }) h.ends
comes name subject before after (Err stop) (inl h) = without (unopened before after stop h)
comes name subject before after (Err stop) (inr h) = bank_comes h.setup h.start name subject before after (Err stop) (record { found = h.found; holds = h.holds }) h.ends

reported_comes : (name subject : List ℕ) (before after : PortsView) (end : Result (Unit {0}) Stop) (what : Told) → what ≡ reported_of end → EndsSo (MailEnds name subject) before after end → Comes name before after what
reported_comes name subject before after end what e ends = subst (Comes name before after) (sym e) (comes name subject before after end ends)

-- the bank that it has, if it has one
data Has (before after : PortsView) (what : Told) : Type 0 where
  no_bank : Unopened before after what → Has before after what
  a_bank : (setup : Setup) (start : State) → IsBankOf before setup start → Has before after what

bank_had : (name : List ℕ) (before after : PortsView) (what : Told) → Comes name before after what → Has before after what
bank_had name before after what (without how) = no_bank how
bank_had name before after what (interrupted setup start bank why) = a_bank setup start bank
bank_had name before after what (no_body setup start bank nothing e) = a_bank setup start bank
bank_had name before after what (no_user setup start body bank is nobody e) = a_bank setup start bank
bank_had name before after what (full setup start body user bank is named last e) = a_bank setup start bank
bank_had name before after what (written setup start body user bank is named more e) = a_bank setup start bank

refuses_setup : (before after : PortsView) (what : Told) → Has before after what → RefusesSetup IsInterrupted before after what
refuses_setup before after what (no_bank how) text left none = or_interrupted before after what _ (unopened_setup before after what how text left none)
refuses_setup before after what (a_bank setup start bank) text left none = absurd (unspelled_setup before text setup left none bank.found)

refuses_record : OneSetup → OneBank → (before after : PortsView) (what : Told) → Has before after what → RefusesRecord IsInterrupted before after what
refuses_record one opening before after what (no_bank how) setup records number offset has unformed =
    or_interrupted before after what _ (unopened_record one opening before after what how setup records number offset has unformed)
refuses_record one opening before after what (a_bank found start bank) setup records number offset has unformed =
    absurd (record_refused one opening before setup found start records number offset has unformed bank)

refuses_illegal : OneSetup → OneBank → (before after : PortsView) (what : Told) → Has before after what → RefusesIllegal IsInterrupted before after what
refuses_illegal one opening before after what (no_bank how) setup records number has illegal =
    or_interrupted before after what _ (unopened_illegal one opening before after what how setup records number has illegal)
refuses_illegal one opening before after what (a_bank found start bank) setup records number has illegal =
    absurd (illegal_refused one opening before setup found start records number has illegal bank)

-- a run without a bank gave up where it should have one
lacks_bank : OneSetup → OneBank → (before after : PortsView) (what : Told) (setup : Setup) (start : State) (input : List ℕ) → Brings before setup start input → Unopened before after what → IsInterrupted before after what
lacks_bank one opening before after what setup start input brings how = wider before after what (opens_or_interrupted one opening before after what setup start brings.opens how)

body_there : (before : PortsView) (setup : Setup) (start : State) (input body : List ℕ) → Brings before setup start input → IsBodyOf before.input_left body → IsBody input body
body_there before setup start input body brings is = subst (λ (left : Option (List ℕ)). IsBodyOf left body) brings.input_is is

none_there : (before : PortsView) (setup : Setup) (start : State) (input body : List ℕ) → Brings before setup start input → IsNoBody before.input_left → IsBody input body → ⊥
none_there before setup start input body brings none is = subst IsNoBody brings.input_is none body is

-- a user or nobody is found in the setup that is reported, and so is the room left in the state
nobody_reported : OneSetup → OneBank → (name : List ℕ) (before : PortsView) (setup found : Setup) (start state : State) (input : List ℕ) → Brings before setup start input → IsBankOf before found state → user_of found name ≡ None → user_of setup name ≡ None
nobody_reported one opening name before setup found start state input brings bank fact =
    of_found one opening before setup found start state (λ (s : Setup) (S : State). user_of s name ≡ None) brings.opens bank fact

user_reported : OneSetup → OneBank → (name : List ℕ) (before : PortsView) (setup found : Setup) (start state : State) (input : List ℕ) (user : UserId) → Brings before setup start input → IsBankOf before found state → user_of found name ≡ Some user → user_of setup name ≡ Some user
user_reported one opening name before setup found start state input user brings bank fact =
    of_found one opening before setup found start state (λ (s : Setup) (S : State). user_of s name ≡ Some user) brings.opens bank fact

room_reported : OneSetup → OneBank → (before : PortsView) (setup found : Setup) (start state : State) (input : List ℕ) (left : Bool) → Brings before setup start input → IsBankOf before found state → has_number found state ≡ left → has_number setup start ≡ left
room_reported one opening before setup found start state input left brings bank fact =
    of_found one opening before setup found start state (λ (s : Setup) (S : State). has_number s S ≡ left) brings.opens bank fact

refuses_body : OneSetup → OneBank → (name : List ℕ) (before after : PortsView) (what : Told) → Comes name before after what → RefusesBody before after what
refuses_body one opening name before after what (without how) setup start input brings none = inr (lacks_bank one opening before after what setup start input brings how)
refuses_body one opening name before after what (interrupted found state bank why) setup start input brings none = inr why
refuses_body one opening name before after what (no_body found state bank nothing e) setup start input brings none = inl e
refuses_body one opening name before after what (no_user found state body bank its nobody e) setup start input brings none = absurd (none body (body_there before setup start input body brings its))
refuses_body one opening name before after what (full found state body user bank its named last e) setup start input brings none = absurd (none body (body_there before setup start input body brings its))
refuses_body one opening name before after what (written found state body user bank its named more e) setup start input brings none = absurd (none body (body_there before setup start input body brings its))

refuses_user : OneSetup → OneBank → (name : List ℕ) (before after : PortsView) (what : Told) → Comes name before after what → RefusesUser name before after what
refuses_user one opening name before after what (without how) setup start input body brings is nobody = inr (lacks_bank one opening before after what setup start input brings how)
refuses_user one opening name before after what (interrupted found state bank why) setup start input body brings is nobody = inr why
refuses_user one opening name before after what (no_body found state bank nothing e) setup start input body brings is nobody = absurd (none_there before setup start input body brings nothing is)
refuses_user one opening name before after what (no_user found state own bank its nobody' e) setup start input body brings is nobody = inl e
refuses_user one opening name before after what (full found state own user bank its named last e) setup start input body brings is nobody =
    absurd (none_or_some nobody (user_reported one opening name before setup found start state input user brings bank named))
refuses_user one opening name before after what (written found state own user bank its named more e) setup start input body brings is nobody =
    absurd (none_or_some nobody (user_reported one opening name before setup found start state input user brings bank named))

refuses_full : OneSetup → OneBank → (name : List ℕ) (before after : PortsView) (what : Told) → Comes name before after what → RefusesFull name before after what
refuses_full one opening name before after what (without how) setup start input body user brings is named last = inr (lacks_bank one opening before after what setup start input brings how)
refuses_full one opening name before after what (interrupted found state bank why) setup start input body user brings is named last = inr why
refuses_full one opening name before after what (no_body found state bank nothing e) setup start input body user brings is named last = absurd (none_there before setup start input body brings nothing is)
refuses_full one opening name before after what (no_user found state own bank its nobody e) setup start input body user brings is named last =
    absurd (none_or_some (nobody_reported one opening name before setup found start state input brings bank nobody) named)
refuses_full one opening name before after what (full found state own user' bank its named' last' e) setup start input body user brings is named last = inl e
refuses_full one opening name before after what (written found state own user' bank its named' more e) setup start input body user brings is named last =
    absurd (is_both (room_reported one opening before setup found start state input true brings bank more) last)

writes_it : OneSetup → OneBank → (name : List ℕ) (before after : PortsView) (what : Told) → Comes name before after what → WritesIt name before after what
writes_it one opening name before after what (without how) setup start input body user brings is named more = inr (lacks_bank one opening before after what setup start input brings how)
writes_it one opening name before after what (interrupted found state bank why) setup start input body user brings is named more = inr why
writes_it one opening name before after what (no_body found state bank nothing e) setup start input body user brings is named more = absurd (none_there before setup start input body brings nothing is)
writes_it one opening name before after what (no_user found state own bank its nobody e) setup start input body user brings is named more =
    absurd (none_or_some (nobody_reported one opening name before setup found start state input brings bank nobody) named)
writes_it one opening name before after what (full found state own user' bank its named' last e) setup start input body user brings is named more =
    absurd (is_both more (room_reported one opening before setup found start state input false brings bank last))
writes_it one opening name before after what (written found state own user' bank its named' more' e) setup start input body user brings is named more = inl e

-- what the command comes to, by its end
pub is_mail_command : OneSetup → OneBank → (name subject : List ℕ) (before after : PortsView) (end : Result (Unit {0}) Stop) (what : Told) → what ≡ reported_of end → EndsSo (MailEnds name subject) before after end → IsMailCommand name subject before after what
is_mail_command one opening name subject before after end what e ends =
    let how = reported_comes name subject before after end what e ends in
    let has = bank_had name before after what how in
    record {
      command = record {
        ends = record { end = end; reported_is = e; ends = ends };
        refuses_setup = refuses_setup before after what has;
        refuses_record = refuses_record one opening before after what has;
        refuses_illegal = refuses_illegal one opening before after what has;
      };
      refuses_body = refuses_body one opening name before after what how;
      refuses_user = refuses_user one opening name before after what how;
      refuses_full = refuses_full one opening name before after what how;
      writes_it = writes_it one opening name before after what how;
    }

-- it doesn't end as arguments without a form do
never_two : (name : List ℕ) (before after : PortsView) (what : Told) → Comes name before after what → what.status.0 ≡ 2 → ⊥
never_two name before after what (without how) two = unopened_otherwise before after what how two
never_two name before after what (interrupted setup start bank why) two = interrupted_otherwise before after what why two
never_two name before after what (no_body setup start bank nothing e) two = absurd (omega (arith, status_is what 4 (Place 0) e two))
never_two name before after what (no_user setup start body bank its nobody e) two = absurd (omega (arith, status_is what 10 NoUser e two))
never_two name before after what (full setup start body user bank its named last e) two = absurd (omega (arith, status_is what 10 Full e two))
never_two name before after what (written setup start body user bank its named more e) two = absurd (omega (arith, status_is what 0 Plain e two))

pub mail_never_usage : (name subject : List ℕ) (before after : PortsView) (end : Result (Unit {0}) Stop) (what : Told) → what ≡ reported_of end → EndsSo (MailEnds name subject) before after end → what.status.0 ≡ 2 → ⊥
mail_never_usage name subject before after end what e ends two = never_two name before after what (reported_comes name subject before after end what e ends) two
