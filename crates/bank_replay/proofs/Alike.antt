-- Of the events that one record codes all are legal, or none is.
use Rattle.std.proofs.Common.{◌≡◌, ℕ, List, subst}
use Rattle.ofx_types.specs.declared.number.Moment.{Moment}
use Rattle.bank_model.specs.Polls.{is_poll}
use Rattle.bank_model.specs.Rules.{IsLegal}
use Rattle.bank_model.specs.declared.setup.Setup.{Setup}
use Rattle.bank_model.specs.declared.event.State.{State}
use Rattle.bank_model.specs.declared.event.Event.{Event}
use Rattle.bank_model.specs.declared.event.Event.TheVariants.{File, Post, Spawn, Letter}
use Rattle.bank_model.specs.Events.{IsSameEvent, without_signon}
use Rattle.event_codec.specs.Records.{Codes}
use Rattle.bank_replay.proofs.OneOpening.{AlikeLegal}

-- A record codes one event at one moment, but for who signs on and by which password.
abbrev pub OneCoding : Type 0
OneCoding = (rec : List ℕ) (at at' : Moment) (event event' : Event) → Codes rec at event → Codes rec at' event' → (at ≡ at') × IsSameEvent event event'

-- What isn't kept of an event doesn't make it legal or illegal.
legal_kept : (setup : Setup) (state : State) (at : Moment) (event : Event) → IsLegal setup state at event → IsLegal setup state at (without_signon event)
unfolding is_poll
legal_kept setup state at (File user file) (known, sound, no_poll) =
    (known, record { version = sound.version; older = sound.older; newer = sound.newer; few = sound.few; bank_first = sound.bank_first; asks = sound.asks }, no_poll)
legal_kept setup state at (Post id) legal = legal
legal_kept setup state at (Spawn model offset) legal = legal
legal_kept setup state at (Letter user subject body) legal = legal

legal_whole : (setup : Setup) (state : State) (at : Moment) (event : Event) → IsLegal setup state at (without_signon event) → IsLegal setup state at event
unfolding is_poll
legal_whole setup state at (File user file) (known, sound, no_poll) =
    (known, record { version = sound.version; older = sound.older; newer = sound.newer; few = sound.few; bank_first = sound.bank_first; asks = sound.asks }, no_poll)
legal_whole setup state at (Post id) legal = legal
legal_whole setup state at (Spawn model offset) legal = legal
legal_whole setup state at (Letter user subject body) legal = legal

pub alike_legal : OneCoding → AlikeLegal
alike_legal one setup state rec at at' event event' codes codes' legal =
    let same = one rec at at' event event' codes codes' in
    legal_whole setup state at' event'
    (subst (λ (e : Event). IsLegal setup state at' e) same.1
    (legal_kept setup state at' event (subst (λ (m : Moment). IsLegal setup state m event) same.0 legal)))
