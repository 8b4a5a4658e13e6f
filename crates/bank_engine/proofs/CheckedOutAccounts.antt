-- Accounts that are lent for a commit or a settling.
use Rattle.std.proofs.Common.{◌≡◌, ℕ, List, [], Bool, Option, None, Some, Result, Ok, Err, IfOk, IfErr, OnErr, refl, sym, ◌∙◌, subst}
use Rattle.std.specs.List.{Contains}
use Rattle.std.specs.Option.{IfSome, option_map}
use Rattle.std.proofs.lemmas.List.Elements.{All-weaker}
use Rattle.ofx_types.specs.declared.number.AcctId.{AcctId}
use Rattle.ofx_types.specs.declared.number.Moment.{Moment}
use Rattle.bank_model.specs.declared.setup.Setup.{Setup}
use Rattle.bank_model.specs.declared.event.State.{State}
use Rattle.bank_model.specs.declared.event.Event.{Event}
use Rattle.bank_model.specs.Rules.{named}
use Rattle.bank_accounts.specs.AccountView.{AccountView}
use Rattle.bank_accounts.specs.HeldAccounts.{AreHeld, IsHeld, HaveSameNumbers}
use Rattle.bank_model.specs.declared.submit.SubmitFault.{SubmitFault}
use Rattle.bank_model.specs.declared.submit.SubmitFault.TheVariants.{Keeper, OutOfMemory}
use Rattle.bank_engine.specs.Calls.{Answers, FailsToCommit, Settles, FailsToSettle}
use Rattle.bank_engine.specs.Solo.{Sends, AreLentFor}
use Rattle.bank_engine.specs.Views.{PendingView, JournalView}

-- ---- the setup stays

pub commit_setup : {A : Type 0} (items : A → List ℕ) (result : Result A SubmitFault) (old new : JournalView) (event : Event) (at : Moment) → IfOk result (λ (reply : A). Answers old new event at (items reply)) → IfErr result (FailsToCommit old new event at) → new.setup ≡ old.setup
commit_setup items (Ok reply) old new event at answers fails = answers.setup
commit_setup items (Err (Keeper count)) old new event at answers fails = fails.fails.setup
commit_setup items (Err OutOfMemory) old new event at answers fails = fails.setup

pub settle_setup : (result : Result Bool SubmitFault) (old new : JournalView) → IfOk result (Settles old new) → IfErr result (FailsToSettle old new) → new.setup ≡ old.setup
settle_setup (Ok adopted) old new settles fails = settles.setup
settle_setup (Err (Keeper count)) old new settles fails = fails.fails.setup
settle_setup (Err OutOfMemory) old new settles fails = absurd fails

-- ---- an engine with all accounts

-- what is lent for what is pending
pub named_lent : (setup : Setup) (state : State) (held : List AccountView) (pending : Option PendingView) → AreLentFor setup state held pending → IfSome pending (λ (p : PendingView). AreHeld held (named setup state p.event))
named_lent setup state held None checked_out = tt
named_lent setup state held (Some pending) checked_out = checked_out

pub none_lent_for : (setup : Setup) (state : State) (held : List AccountView) (pending : Option PendingView) → pending ≡ None → held ≡ [] → AreLentFor setup state held pending
none_lent_for setup state held pending none empty = subst (AreLentFor setup state held) (sym none) empty

pub lent_for_none : (setup : Setup) (state : State) (held : List AccountView) (pending : Option PendingView) → AreLentFor setup state held pending → pending ≡ None → held ≡ []
lent_for_none setup state held pending checked_out none = subst (AreLentFor setup state held) none checked_out

-- Where something is still pending, its accounts stay lent.
pub still_lent_for : {A : Type 0} (result : Result A SubmitFault) (sent : List ℕ → List ℕ) (bytes : A → List ℕ) (old new : JournalView) (event : Event) (at : Moment) (held other : List AccountView) → (new.pending ≡ None → ⊥) → old.pending ≡ None → AreHeld held (named old.setup old.state event) → OnErr result (other ≡ held) → IfOk result (λ (line : A). Sends sent old new event at (bytes line)) → IfErr result (FailsToCommit old new event at) → AreLentFor new.setup new.state other new.pending
still_lent_for (Ok line) sent bytes old new event at held other some none names same sends fails = absurd (some sends.answers.pending)
still_lent_for (Err OutOfMemory) sent bytes old new event at held other some none names same sends fails = absurd (some (fails.pending ∙ none))
still_lent_for (Err (Keeper count)) sent bytes old new event at held other some none names same sends fails =
    subst (AreLentFor new.setup new.state other) (sym fails.pending)
    (subst (λ (s : Setup). AreHeld other (named s new.state event)) (sym fails.fails.setup)
    (subst (λ (S : State). AreHeld other (named old.setup S event)) (sym fails.fails.state)
    (subst (λ (h : List AccountView). AreHeld h (named old.setup old.state event)) (sym same) names)))

-- the accounts with the same numbers are those that are named
pub named_still : (held other : List AccountView) (names : List (Option AcctId)) → HaveSameNumbers other held → AreHeld held names → AreHeld other names
named_still held other names same held_are =
    All-weaker (λ (entry : Option AcctId). IfSome entry (IsHeld held)) (λ (entry : Option AcctId). IfSome entry (IsHeld other)) one names held_are
  where
    one : (entry : Option AcctId) → IfSome entry (IsHeld held) → IfSome entry (IsHeld other)
    one None there = tt
    one (Some account) there = subst (λ (ns : List AcctId). Contains ns account) (sym same) there

-- What couldn't be settled has its accounts still.
pub waits_still : (old new : JournalView) (fault : SubmitFault) (held other : List AccountView) → HaveSameNumbers other held → FailsToSettle old new fault → AreLentFor old.setup old.state held old.pending → AreLentFor new.setup new.state other new.pending
waits_still old new OutOfMemory held other same fails checked_out = absurd fails
waits_still old new (Keeper count) held other same fails checked_out =
    let here : AreHeld held (named old.setup old.state fails.still.0.event) = subst (AreLentFor old.setup old.state held) fails.still.1 checked_out in
    subst (AreLentFor new.setup new.state other) (sym fails.still.2)
    (subst (λ (s : Setup). AreHeld other (named s new.state fails.still.0.event)) (sym fails.fails.setup)
    (subst (λ (S : State). AreHeld other (named old.setup S fails.still.0.event)) (sym fails.fails.state)
    (named_still held other (named old.setup old.state fails.still.0.event) same here)))

-- the accounts of a book are those of the state for which it stands
pub named_at : (setup setup' : Setup) (state state' : State) (event : Event) (held : List AccountView) → setup' ≡ setup → state' ≡ state → AreHeld held (named setup' state' event) → AreHeld held (named setup state event)
named_at setup setup' state state' event held own is names =
    subst (λ (s : Setup). AreHeld held (named s state event)) own (subst (λ (S : State). AreHeld held (named setup' S event)) is names)

-- no event is pending where nothing is
pub none_event : (pending : Option PendingView) → option_map (λ (p : PendingView). p.event) pending ≡ None → pending ≡ None
none_event None is = refl
none_event (Some p) is = absurd (let none : Some p.event ≡ None = is in cc)
