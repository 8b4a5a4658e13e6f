-- The records of turns code legal events, which lead to the state after the turns.
use Rattle.std.proofs.Common.{◌≡◌, ℕ, Bool, ◌&&◌, List, [], ◌∷◌, ◌++◌, length, position, false, Some, inl, inr, refl, sym, subst, append-nil}
use Rattle.std.specs.Str.{bytes_eq}
use Rattle.ofx_types.specs.declared.number.Moment.{Moment}
use Rattle.ofx_types.specs.declared.number.UserId.{UserId}
use Rattle.ofx_types.specs.declared.request.RequestFile.{RequestFile}
use Rattle.bank_model.specs.declared.setup.Setup.{Setup}
use Rattle.bank_model.specs.declared.setup.User.{User}
use Rattle.bank_model.specs.declared.event.State.{State}
use Rattle.bank_model.specs.declared.event.Event.{Event}
use Rattle.bank_model.specs.declared.event.Event.TheVariants.{File}
use Rattle.bank_model.specs.Rules.{opening_state, state_after, due, IsLegal}
use Rattle.bank_model.specs.Polls.{is_poll}
use Rattle.bank_model.specs.DueRun.{after_events, AreDue}
use Rattle.event_codec.specs.Records.{Codes, Reopens}
use Rattle.bank_frames.specs.Frames.{Content, request, due_work}
use Rattle.bank_desk.specs.Keeping.{AreRecordsOf}
use Rattle.bank_session.specs.Answers.{AnswersFile, AnswersFrame, Turn, AreTurns, records_in, BeginsWork, IsPrefixKept, IsKeptWhereRefused}
use Rattle.bank_signon.specs.Signon.{IsSignedOn}
use Rattle.bank_invariants.proofs.Named.{found_within}
use Rattle.bank_session.specs.BooksKept.{StoppedRunsReopen}
use Rattle.bank_desk.proofs.DeskLemmas.{user_within}
use Rattle.bank_replay.proofs.OneOpening.{ReopeningGoesOn}

-- what is due may be done
abbrev pub DueIsLegal : Type 0
DueIsLegal = (setup : Setup) (S : State) (at : Moment) (event : Event) → due setup S at ≡ Some event → IsLegal setup S at event

-- a user's file whose record is kept is legal, since a record codes sound files alone
signed_on_legal : (setup : Setup) (S : State) (at : Moment) (bytes rec : List ℕ) (file : RequestFile) (user : UserId) → Codes rec at (File user file) → IsSignedOn setup bytes file user → is_poll file ≡ false → IsLegal setup S at (File user file)
signed_on_legal setup S at bytes rec file user codes signed event_is =
    let is_user : User → Bool = λ known. bytes_eq known.name file.user && bytes_eq known.pass file.pass in
    (user_within (position is_user setup.users) (length setup.users) user (found_within is_user setup.users) signed.signed, codes.within, event_is)

-- what reopens after nothing
after_none : (setup : Setup) (before mid after : State) (records more : List (List ℕ)) → records ≡ [] → mid ≡ before → Reopens setup mid more after → Reopens setup before (records ++ more) after
after_none setup before mid after records more none same reopens =
    let P : List (List ℕ) → Type 0 = λ kept. Reopens setup before (kept ++ more) after in
    let Q : State → Type 0 = λ S. Reopens setup S more after in
    subst P (sym none) (subst Q same reopens)

-- what reopens after events of one moment that are legal one after another
after_one : (setup : Setup) (at : Moment) (before mid after : State) (event : Event) (records more : List (List ℕ)) → ((rec : List ℕ) → Codes rec at event → IsLegal setup before at event) → AreRecordsOf at (event ∷ []) records → mid ≡ state_after setup before at event → Reopens setup mid more after → Reopens setup before (records ++ more) after
after_one setup at before mid after event [] more legal kept same reopens = absurd kept
after_one setup at before mid after event (rec ∷ records) more legal kept same reopens =
    (at, event, kept.0, legal rec kept.0, after_none setup (state_after setup before at event) mid after records more kept.1 same reopens)

after_due : DueIsLegal → (setup : Setup) (at : Moment) (before mid after : State) (events : List Event) (records more : List (List ℕ)) → AreDue setup before at events → AreRecordsOf at events records → mid ≡ after_events setup before at events → Reopens setup mid more after → Reopens setup before (records ++ more) after
after_due legal setup at before mid after [] records more are kept same reopens = after_none setup before mid after records more kept same reopens
after_due legal setup at before mid after (event ∷ events) [] more are kept same reopens = absurd kept
after_due legal setup at before mid after (event ∷ events) (rec ∷ records) more are kept same reopens =
    (at, event, kept.0, legal setup before at event are.0, after_due legal setup at (state_after setup before at event) mid after events records more are.1 kept.1 same reopens)

after_file : (setup : Setup) (at : Moment) (before mid after : State) (bytes line : List ℕ) (records more : List (List ℕ)) → AnswersFile setup at before bytes line records mid → Reopens setup mid more after → Reopens setup before (records ++ more) after
after_file setup at before mid after bytes line records more (inl reply) reopens =
    after_one setup at before mid after (File reply.user reply.file) records more (λ rec codes. signed_on_legal setup before at bytes rec reply.file reply.user codes reply.is_signed_on reply.is_event) reply.kept reply.state reopens
after_file setup at before mid after bytes line records more (inr (inl poll)) reopens = after_none setup before mid after records more poll.unkept poll.state reopens
after_file setup at before mid after bytes line records more (inr (inr (inl denial))) reopens = after_none setup before mid after records more denial.unkept denial.state reopens
after_file setup at before mid after bytes line records more (inr (inr (inr bad))) reopens = after_none setup before mid after records more bad.unkept bad.state reopens

after_turn : DueIsLegal → (setup : Setup) (at : Moment) (before mid after : State) (content : Content) (line : List ℕ) (records more : List (List ℕ)) → AnswersFrame setup at before content line records mid → Reopens setup mid more after → Reopens setup before (records ++ more) after
after_turn legal setup at before mid after (request bytes) line records more says reopens = after_file setup at before mid after bytes line records more says reopens
after_turn legal setup at before mid after due_work line records more says reopens =
    after_due legal setup at before mid after says.events records more says.is_run.are_due says.kept says.state reopens

-- The records of turns bring a bank from the state before them to the one after them.
pub turns_reopen : DueIsLegal → (setup : Setup) (before : State) (turns : List Turn) (after : State) → AreTurns setup before turns after → Reopens setup before (records_in turns) after
turns_reopen legal setup before [] after same = same
turns_reopen legal setup before (turn ∷ turns) after (mid, fits, says, rest) =
    after_turn legal setup turn.at before mid after turn.content turn.line turn.records (records_in turns) says (turns_reopen legal setup mid turns after rest)

-- ---- a frame that isn't answered whole

-- no records lead nowhere
none_reopens : (setup : Setup) (before : State) (records : List (List ℕ)) → records ≡ [] → Reopens setup before records before
none_reopens setup before records none =
    let P : List (List ℕ) → Type 0 = λ kept. Reopens setup before kept before in
    subst P (sym none) refl

file_reopens : (setup : Setup) (at : Moment) (before : State) (bytes : List ℕ) (file : RequestFile) (user : UserId) (records : List (List ℕ)) → IsSignedOn setup bytes file user → is_poll file ≡ false → AreRecordsOf at (File user file ∷ []) records → Reopens setup before records (state_after setup before at (File user file))
file_reopens setup at before bytes file user [] signed event_is kept = absurd kept
file_reopens setup at before bytes file user (rec ∷ records) signed event_is kept =
    (at, File user file, kept.0, signed_on_legal setup before at bytes rec file user kept.0 signed event_is, none_reopens setup (state_after setup before at (File user file)) records kept.1)

due_reopens : DueIsLegal → (setup : Setup) (at : Moment) (before : State) (events : List Event) (records : List (List ℕ)) → AreDue setup before at events → AreRecordsOf at events records → Reopens setup before records (after_events setup before at events)
due_reopens legal setup at before [] records are kept = none_reopens setup before records kept
due_reopens legal setup at before (event ∷ events) [] are kept = absurd kept
due_reopens legal setup at before (event ∷ events) (rec ∷ records) are kept =
    (at, event, kept.0, legal setup before at event are.0, due_reopens legal setup at (state_after setup before at event) events records are.1 kept.1)

-- events that begin a frame's work lead to the state after them
begun_reopens : DueIsLegal → (setup : Setup) (at : Moment) (before : State) (content : Content) (events : List Event) (records : List (List ℕ)) → BeginsWork setup at before content events → AreRecordsOf at events records → Reopens setup before records (after_events setup before at events)
begun_reopens legal setup at before (request bytes) events records (inl none) kept =
    let P : List Event → Type 0 = λ done. AreRecordsOf at done records → Reopens setup before records (after_events setup before at done) in
    subst P (sym none) (none_reopens setup before records) kept
begun_reopens legal setup at before (request bytes) events records (inr (file, user, signed, event_is, one)) kept =
    let P : List Event → Type 0 = λ done. AreRecordsOf at done records → Reopens setup before records (after_events setup before at done) in
    subst P (sym one) (file_reopens setup at before bytes file user records signed event_is) kept
begun_reopens legal setup at before due_work events records work kept = due_reopens legal setup at before events records work.0 kept

-- what is kept where memory was refused may be kept where an append failed
pub refused_in_vain : (setup : Setup) (at : Moment) (before : State) (content : Content) (records : List (List ℕ)) → IsKeptWhereRefused setup at before content records → IsPrefixKept setup at before content records
refused_in_vain setup at before (request bytes) records none = record { events = []; work = inl refl; kept = none }
refused_in_vain setup at before due_work records kept = kept

-- The records of a frame bring a bank to the state after it.
pub frame_reopens : DueIsLegal → (setup : Setup) (at : Moment) (before after : State) (content : Content) (line : List ℕ) (records : List (List ℕ)) → AnswersFrame setup at before content line records after → Reopens setup before records after
frame_reopens legal setup at before after content line records says =
    let P : List (List ℕ) → Type 0 = λ kept. Reopens setup before kept after in
    subst P (append-nil records) (after_turn legal setup at before after after content line records [] says refl)

-- What goes on from turns goes on from the opening.
pub goes_on_after : DueIsLegal → ReopeningGoesOn → (setup : Setup) (records kept : List (List ℕ)) (start state next : State) (turns : List Turn) → Reopens setup opening_state records start → AreTurns setup start turns state → Reopens setup state kept next → Reopens setup opening_state (records ++ (records_in turns ++ kept)) next
goes_on_after legal goes_on setup records kept start state next turns before are suffix =
    let from_start = (goes_on setup start (records_in turns) kept next).1 (state, turns_reopen legal setup start turns state are, suffix) in
    (goes_on setup opening_state records (records_in turns ++ kept) next).1 (start, before, from_start)

-- What is kept of a frame whose append failed goes on from the turns before it.
pub stopped_reopens : DueIsLegal → ReopeningGoesOn → StoppedRunsReopen IsPrefixKept
stopped_reopens legal goes_on = λ setup records kept start state turns at content before are vain.
    let suffix = begun_reopens legal setup at state content vain.events kept vain.work vain.kept in
    (vain, goes_on_after legal goes_on setup records kept start state (after_events setup state at vain.events) turns before are suffix)
