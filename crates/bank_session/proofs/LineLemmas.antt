-- What is written for a frame is determined.
use Rattle.std.proofs.Common.{◌≡◌, ℕ, Bool, true, false, List, [], ◌∷◌, ◌++◌, Option, None, Some, inl, inr, refl, sym, ap, ◌∙◌, subst, codes, get_or, length, arith}
use Rattle.ofx_types.specs.FileForm.{SpellsFile, OneFile, OneFault, FaultsSpellNothing}
use Rattle.ofx_types.specs.declared.fault.FileFault.{FileFault}
use Rattle.ofx_types.specs.declared.number.Moment.{Moment}
use Rattle.ofx_types.specs.declared.number.UserId.{UserId}
use Rattle.ofx_types.specs.declared.request.RequestFile.{RequestFile}
use Rattle.bank_model.specs.declared.setup.Setup.{Setup}
use Rattle.bank_model.specs.declared.event.State.{State}
use Rattle.bank_model.specs.declared.event.Event.{Event}
use Rattle.bank_model.specs.declared.event.Event.TheVariants.{File}
use Rattle.bank_model.specs.SetupLookups.{signed_on}
use Rattle.bank_model.specs.Rules.{answer_to, state_after, denial}
use Rattle.bank_model.specs.Polls.{is_poll, poll_reply}
use Rattle.ofx_types.specs.ReplyForm.{reply_text}
use Rattle.std.specs.Fmt.{decimal}
use Rattle.std.proofs.lemmas.Bool.{false≢true}
use Rattle.std.proofs.lemmas.List.{append_cancel_left, append_cancel_right}
use Rattle.bank_frames.specs.Frames.{Content, request, due_work, frame, frame_head}
use Rattle.event_codec.specs.Coding.{coded}
use Rattle.bank_desk.specs.Keeping.{AreRecordsOf}
use Rattle.bank_session.specs.Answers.{AnswersFrame, AnswersFile, AreTurns}
use Rattle.bank_signon.specs.Signon.{IsSignedOn, IsRefused, fault_offset}
use Rattle.bank_frames.specs.Lines.{due_line, bad_line}
use Rattle.bank_model.specs.DueRun.{after_events}
use Rattle.bank_session.specs.Determined.{OneDueRun, OneLine, OneOutput, OneRefusal, RefusedIsUnanswered, RefusedIsUndenied, DeniedIsUnanswered, WhereAnswered, WherePolled, WhereDenied, WhereRefused, OnlyWhereRefused}

same_inside : {X : Type 0} {x y : X} → Some x ≡ Some y → x ≡ y
same_inside e = cc

pub none_or_some : {X : Type 0} {x : X} {option : Option X} → option ≡ None → option ≡ Some x → ⊥
none_or_some none some = cc

-- A fact of the file that bytes spell holds of each other file that they spell.
of_other : OneFile → (bytes : List ℕ) (a b : RequestFile) (P : RequestFile → Type 0) → SpellsFile bytes a → SpellsFile bytes b → P a → P b
of_other one bytes a b P spells spells' fact = subst P (one bytes a b spells spells') fact

-- refused bytes spell nothing
unrefused : FaultsSpellNothing → (bytes : List ℕ) (file : RequestFile) (offset : ℕ) → SpellsFile bytes file → IsRefused bytes offset → ⊥
unrefused nothing bytes file offset spells refused = nothing bytes file refused.fault spells refused.is_fault

pub unanswered : FaultsSpellNothing → RefusedIsUnanswered
unanswered nothing setup bytes file user offset answered refused = unrefused nothing bytes file offset answered.spelled refused

pub undenied : FaultsSpellNothing → RefusedIsUndenied
undenied nothing setup bytes file offset denied refused = unrefused nothing bytes file offset denied.spelled refused

-- a user who signs on isn't denied
pub signed_on_once : OneFile → DeniedIsUnanswered
signed_on_once one setup bytes file file' user answered denied =
    let P : RequestFile → Type 0 = λ f. signed_on setup f.user f.pass ≡ Some user in
    none_or_some denied.unsigned (of_other one bytes file file' P answered.spelled denied.spelled answered.signed)

-- a file that isn't answered has one place
pub same_offset : OneFault → OneRefusal
same_offset one bytes offset offset' a b =
    let fault : a.fault ≡ b.fault = one bytes a.fault b.fault a.is_fault b.is_fault in
    same_inside (sym a.has_offset ∙ (ap (λ (f : FileFault). fault_offset f) fault ∙ b.has_offset))

-- two answers to one file are one event
same_event : OneFile → (setup : Setup) (bytes : List ℕ) (file file' : RequestFile) (user user' : UserId) → IsSignedOn setup bytes file user → IsSignedOn setup bytes file' user' → File user file ≡ File user' file'
same_event one setup bytes file file' user user' a b =
    let same : file ≡ file' = one bytes file file' a.spelled b.spelled in
    let signed : signed_on setup file'.user file'.pass ≡ Some user = subst (λ (f : RequestFile). signed_on setup f.user f.pass ≡ Some user) same a.signed in
    let by : user ≡ user' = same_inside (sym signed ∙ b.signed) in
    ap (λ (u : UserId). File u file) by ∙ ap (λ (f : RequestFile). File user' f) same

-- a file that is a poll is no event
pub is_both : {x : Bool} → x ≡ true → x ≡ false → ⊥
is_both up down = absurd (false≢true (sym down ∙ up))

polled_and_event : OneFile → (bytes : List ℕ) (a b : RequestFile) → SpellsFile bytes a → SpellsFile bytes b → is_poll a ≡ true → is_poll b ≡ false → ⊥
polled_and_event one bytes a b spells spells' poll event =
    is_both (of_other one bytes a b (λ (f : RequestFile). is_poll f ≡ true) spells spells' poll) event

-- an event has one record
one_record : (at : Moment) (event : Event) (records : List (List ℕ)) → AreRecordsOf at (event ∷ []) records → records ≡ coded at event ∷ []
one_record at event [] kept = absurd kept
one_record at event (rec ∷ records) kept = let spelled = kept.0.spelled in let none = kept.1 in cc

-- and so have the events of a run
same_records : (at : Moment) (events : List Event) (records records' : List (List ℕ)) → AreRecordsOf at events records → AreRecordsOf at events records' → records ≡ records'
same_records at [] records records' a b = a ∙ sym b
same_records at (event ∷ events) [] records' a b = absurd a
same_records at (event ∷ events) (rec ∷ records) [] a b = absurd b
same_records at (event ∷ events) (rec ∷ records) (other ∷ others) a b =
    let first : rec ≡ other = a.0.spelled ∙ sym b.0.spelled in
    let suffix = same_records at events records others a.1 b.1 in
    cc

pub where_answered : OneFile → RefusedIsUnanswered → DeniedIsUnanswered → WhereAnswered
where_answered one apart once setup at before bytes line records after file user (inl a) answered event_is =
    let event : File a.user a.file ≡ File user file = same_event one setup bytes a.file file a.user user a.is_signed_on answered in (
      a.reply ∙ ap (λ (e : Event). frame (answer_to setup before at e)) event,
      one_record at _ records a.kept ∙ ap (λ (e : Event). coded at e ∷ []) event,
      a.state ∙ ap (λ (e : Event). state_after setup before at e) event,
    )
where_answered one apart once setup at before bytes line records after file user (inr (inl p)) answered event_is =
    absurd (polled_and_event one bytes p.file file p.is_signed_on.spelled answered.spelled p.is_no_event event_is)
where_answered one apart once setup at before bytes line records after file user (inr (inr (inl d))) answered event_is = absurd (once setup bytes file d.file user answered d.is_denied)
where_answered one apart once setup at before bytes line records after file user (inr (inr (inr b))) answered event_is = absurd (apart setup bytes file user b.offset answered b.refused)

-- two readings of a poll are one user's one file
same_poll : OneFile → (setup : Setup) (bytes : List ℕ) (file file' : RequestFile) (user user' : UserId) → IsSignedOn setup bytes file user → IsSignedOn setup bytes file' user' → (file ≡ file') × (user ≡ user')
same_poll one setup bytes file file' user user' a b =
    let same : file ≡ file' = one bytes file file' a.spelled b.spelled in
    let signed : signed_on setup file'.user file'.pass ≡ Some user = subst (λ (f : RequestFile). signed_on setup f.user f.pass ≡ Some user) same a.signed in
    (same, same_inside (sym signed ∙ b.signed))

pub where_polled : OneFile → RefusedIsUnanswered → DeniedIsUnanswered → WherePolled
where_polled one apart once setup at before bytes line records after file user (inl a) polled poll =
    absurd (polled_and_event one bytes file a.file polled.spelled a.is_signed_on.spelled poll a.is_event)
where_polled one apart once setup at before bytes line records after file user (inr (inl p)) polled poll =
    let same = same_poll one setup bytes p.file file p.user user p.is_signed_on polled in (
      p.reply
          ∙ (ap (λ (u : UserId). frame (reply_text (poll_reply setup before u at p.file))) same.1
          ∙ ap (λ (f : RequestFile). frame (reply_text (poll_reply setup before user at f))) same.0),
      p.unkept,
      p.state,
    )
where_polled one apart once setup at before bytes line records after file user (inr (inr (inl d))) polled poll = absurd (once setup bytes file d.file user polled d.is_denied)
where_polled one apart once setup at before bytes line records after file user (inr (inr (inr b))) polled poll = absurd (apart setup bytes file user b.offset polled b.refused)

pub where_denied : OneFile → RefusedIsUndenied → DeniedIsUnanswered → WhereDenied
where_denied one apart once setup at before bytes line records after file (inl a) denied = absurd (once setup bytes a.file file a.user a.is_signed_on denied)
where_denied one apart once setup at before bytes line records after file (inr (inl p)) denied = absurd (once setup bytes p.file file p.user p.is_signed_on denied)
where_denied one apart once setup at before bytes line records after file (inr (inr (inl d))) denied =
    let same : d.file ≡ file = one bytes d.file file d.is_denied.spelled denied.spelled in
    (d.reply ∙ ap (λ (f : RequestFile). frame (reply_text (denial f at))) same, d.unkept, d.state)
where_denied one apart once setup at before bytes line records after file (inr (inr (inr b))) denied = absurd (apart setup bytes file b.offset denied b.refused)

pub where_refused : OneRefusal → RefusedIsUnanswered → RefusedIsUndenied → WhereRefused
where_refused one apart apart' setup at before bytes line records after offset (inl a) refused = absurd (apart setup bytes a.file a.user offset a.is_signed_on refused)
where_refused one apart apart' setup at before bytes line records after offset (inr (inl p)) refused = absurd (apart setup bytes p.file p.user offset p.is_signed_on refused)
where_refused one apart apart' setup at before bytes line records after offset (inr (inr (inl d))) refused = absurd (apart' setup bytes d.file offset d.is_denied refused)
where_refused one apart apart' setup at before bytes line records after offset (inr (inr (inr b))) refused =
    (b.bad ∙ ap (λ (p : ℕ). bad_line p) (one bytes b.offset offset b.refused refused), b.unkept, b.state)

-- a framed reply tells no place
frame_reports_nothing : (file : List ℕ) (offset : ℕ) → bad_line offset ≡ frame file → ⊥
unfolding frame_head
frame_reports_nothing file offset e = let first : 66 ≡ 70 = ap (λ (l : List ℕ). get_or l 0 0) e in absurd (omega (arith, first))

same_digits : (a b : List ℕ) → codes "BAD " ++ a ++ 10 ∷ [] ≡ codes "BAD " ++ b ++ 10 ∷ [] → a ≡ b
same_digits a b e = append_cancel_left (codes "BAD ") a b (append_cancel_right (codes "BAD " ++ a) (codes "BAD " ++ b) (10 ∷ []) e)

pub only_where_refused : OnlyWhereRefused
only_where_refused setup at before bytes records after printed (inl a) = absurd (frame_reports_nothing _ printed a.reply)
only_where_refused setup at before bytes records after printed (inr (inl p)) = absurd (frame_reports_nothing _ printed p.reply)
only_where_refused setup at before bytes records after printed (inr (inr (inl d))) = absurd (frame_reports_nothing _ printed d.reply)
only_where_refused setup at before bytes records after printed (inr (inr (inr b))) = (b.offset, b.refused, same_digits (decimal b.offset) (decimal printed) (sym b.bad))

-- for the bytes of a file there is one line, one list of records, and one state after it
same_file_line : WhereAnswered → WherePolled → WhereDenied → WhereRefused → (setup : Setup) (at : Moment) (before : State) (bytes line line' : List ℕ) (records records' : List (List ℕ)) (after after' : State) →
    AnswersFile setup at before bytes line records after → AnswersFile setup at before bytes line' records' after' → (line ≡ line') × (records ≡ records') × (after ≡ after')
same_file_line answered polled denied refused setup at before bytes line line' records records' after after' says (inl b) =
    let there = answered setup at before bytes line records after b.file b.user says b.is_signed_on b.is_event in
    (there.0 ∙ sym b.reply, there.1 ∙ sym (one_record at _ records' b.kept), there.2 ∙ sym b.state)
same_file_line answered polled denied refused setup at before bytes line line' records records' after after' says (inr (inl b)) =
    let there = polled setup at before bytes line records after b.file b.user says b.is_signed_on b.is_no_event in
    (there.0 ∙ sym b.reply, there.1 ∙ sym b.unkept, there.2 ∙ sym b.state)
same_file_line answered polled denied refused setup at before bytes line line' records records' after after' says (inr (inr (inl b))) =
    let there = denied setup at before bytes line records after b.file says b.is_denied in
    (there.0 ∙ sym b.reply, there.1 ∙ sym b.unkept, there.2 ∙ sym b.state)
same_file_line answered polled denied refused setup at before bytes line line' records records' after after' says (inr (inr (inr b))) =
    let there = refused setup at before bytes line records after b.offset says b.refused in
    (there.0 ∙ sym b.bad, there.1 ∙ sym b.unkept, there.2 ∙ sym b.state)

-- and so there is for a frame, since what is due is done in one order
pub same_line : WhereAnswered → WherePolled → WhereDenied → WhereRefused → OneDueRun → OneLine
same_line answered polled denied refused one setup at before (request bytes) line line' records records' after after' a b =
    same_file_line answered polled denied refused setup at before bytes line line' records records' after after' a b
same_line answered polled denied refused one setup at before due_work line line' records records' after after' a b =
    let same : a.events ≡ b.events = one setup before at a.events b.events a.is_run b.is_run in (
      a.count ∙ (ap (λ (events : List Event). due_line (length events)) same ∙ sym b.count),
      same_records at b.events records records' (subst (λ (events : List Event). AreRecordsOf at events records) same a.kept) b.kept,
      a.state ∙ (ap (λ (events : List Event). after_events setup before at events) same ∙ sym b.state),
    )

same_head : {X : Type 0} {x y : X} {xs ys : List X} → x ∷ xs ≡ y ∷ ys → x ≡ y
same_head e = cc

same_tail : {X : Type 0} {x y : X} {xs ys : List X} → x ∷ xs ≡ y ∷ ys → xs ≡ ys
same_tail e = cc

-- turns over the same frames at the same moments write the same bytes, and keep the same records
pub same_output : OneLine → OneOutput
same_output one setup before [] [] after after' a b e m = (refl, refl, a ∙ sym b)
same_output one setup before [] (t ∷ ts) after after' a b e m = cc
same_output one setup before (t ∷ ts) [] after after' a b e m = cc
same_output one setup before (t ∷ ts) (u ∷ us) after after' (mid, fits, says, rest) (mid', fits', says', rest') e m =
    let content : t.content ≡ u.content = same_head e in
    let moment : t.at ≡ u.at = same_head m in
    let there : AnswersFrame setup u.at before u.content t.line t.records mid =
    subst (λ (at : Moment). AnswersFrame setup at before u.content t.line t.records mid) moment (subst (λ (c : Content). AnswersFrame setup t.at before c t.line t.records mid) content says) in
    let first = one setup u.at before u.content t.line u.line t.records u.records mid mid' there says' in
    let on : AreTurns setup mid us after' = subst (λ (s : State). AreTurns setup s us after') (sym first.2) rest' in
    let suffix = same_output one setup mid ts us after after' rest on (same_tail e) (same_tail m) in
    (both first.0 suffix.0, both first.1 suffix.1, suffix.2)
  where
    both : {X : Type 0} {a b more more' : List X} → a ≡ b → more ≡ more' → a ++ more ≡ b ++ more'
    both first suffix = cc
