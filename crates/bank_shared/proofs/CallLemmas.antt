-- Calls that settle first, put together of their parts.
use Rattle.std.proofs.Common.{◌≡◌, ℕ, List, [], Option, None, Result, Ok, Err, IfOk, IfErr, OnErr, sym, subst}
use Rattle.ofx_types.specs.declared.number.Moment.{Moment}
use Rattle.bank_model.specs.declared.entry.Entry.{Entry}
use Rattle.bank_model.specs.declared.event.Event.{Event}
use Rattle.bank_model.specs.declared.event.State.{State}
use Rattle.bank_model.specs.declared.setup.Setup.{Setup}
use Rattle.bank_model.specs.Rules.{named}
use Rattle.bank_accounts.specs.AccountView.{AccountView}
use Rattle.bank_accounts.specs.HeldAccounts.{AreHeld}
use Rattle.bank_model.specs.declared.submit.SubmitFault.{SubmitFault}
use Rattle.bank_engine.specs.Calls.{Answers, FailsToCommit}
use Rattle.bank_engine.specs.Steps.{Expects}
use Rattle.bank_engine.specs.Truth.{IsTrue}
use Rattle.bank_engine.specs.Views.{EngineView, KeeperView, JournalView, journal_of}
use Rattle.bank_engine.proofs.Truth.{true_answered, true_uncommitted}
use Rattle.token_board.specs.Views.{WriterView}

-- ---- a journal's commit

-- the accounts that an event names are held, where all is the same
pub named_again : (setup setup' : Setup) (state state' : State) (event event' : Event) (held held' : List AccountView) → setup' ≡ setup → state' ≡ state → event' ≡ event → held' ≡ held → AreHeld held (named setup state event) → AreHeld held' (named setup' state' event')
named_again setup setup' state state' event event' held held' own same is all names =
    subst (λ (s : Setup). AreHeld held' (named s state' event')) (sym own)
    (subst (λ (S : State). AreHeld held' (named setup S event')) (sym same)
    (subst (λ (e : Event). AreHeld held' (named setup state e)) (sym is)
    (subst (λ (h : List AccountView). AreHeld h (named setup state event)) (sym all) names)))

-- what an event adds is expected, where all is the same
pub expects_again : (may : List Entry → Type 0) (setup setup' : Setup) (state state' : State) (at at' : Moment) (event event' : Event) → setup' ≡ setup → state' ≡ state → at' ≡ at → event' ≡ event → Expects may setup state at event → Expects may setup' state' at' event'
expects_again may setup setup' state state' at at' event event' own same moment is expected =
    subst (λ (s : Setup). Expects may s state' at' event') (sym own)
    (subst (λ (S : State). Expects may setup S at' event') (sym same)
    (subst (λ (m : Moment). Expects may setup state m event') (sym moment)
    (subst (λ (e : Event). Expects may setup state at e) (sym is) expected)))

pub true_committed : {A : Type 0} (items : A → List ℕ) (result : Result A SubmitFault) (setup : Setup) (opening : State) (first : Option (List (List ℕ))) (old new : JournalView) (event : Event) (at : Moment) → old.pending ≡ None → IfOk result (λ (reply : A). Answers old new event at (items reply)) → IfErr result (FailsToCommit old new event at) → IsTrue setup opening first old → IsTrue setup opening first new
true_committed items (Ok reply) setup opening first old new event at none answers fails = true_answered setup opening first old new event at (items reply) none answers
true_committed items (Err fault) setup opening first old new event at none answers fails = true_uncommitted setup opening first old new event at fault none fails

-- ---- one hold of a journal

-- what a call did between hearing the pass and making the note, as done between before and after these
pub carried : (P : JournalView → JournalView → Type 0) (engine engine' : EngineView) (keeper keeper' : KeeperView) (before writer later last : WriterView) (old : JournalView)
    → journal_of engine keeper before.log ≡ old → writer ≡ before → last ≡ (record { table = later.table; log = later.log; claimed = [] })
    → P (journal_of engine keeper writer.log) (journal_of engine' keeper' later.log) → P old (journal_of engine' keeper' last.log)
carried P engine engine' keeper keeper' before writer later last old view same kept done =
    subst (λ (v : JournalView). P v (journal_of engine' keeper' last.log)) view
    (subst (λ (w : WriterView). P (journal_of engine keeper w.log) (journal_of engine' keeper' last.log)) same
    (subst (λ (w : WriterView). P (journal_of engine keeper writer.log) (journal_of engine' keeper' w.log)) (sym kept) done))

-- what is true goes on in between
pub true_held : (setup : Setup) (opening : State) (first : Option (List (List ℕ))) (engine engine' : EngineView) (keeper keeper' : KeeperView) (before writer later last : WriterView)
    → writer ≡ before → last ≡ (record { table = later.table; log = later.log; claimed = [] })
    → (IsTrue setup opening first (journal_of engine keeper writer.log) → IsTrue setup opening first (journal_of engine' keeper' later.log))
    → IsTrue setup opening first (journal_of engine keeper before.log) → IsTrue setup opening first (journal_of engine' keeper' last.log)
true_held setup opening first engine engine' keeper keeper' before writer later last same kept goes is =
    subst (λ (w : WriterView). IsTrue setup opening first (journal_of engine' keeper' w.log)) (sym kept)
    (goes (subst (λ (w : WriterView). IsTrue setup opening first (journal_of engine keeper w.log)) (sym same) is))

-- ---- answers

pub on_err : {A E P : Type 0} (result : Result A E) → P → OnErr result P
on_err (Ok value) p = tt
on_err (Err fault) p = p
