-- One exchange of a connection, and a connection so far.
use Rattle.std.specs.Prelude.{◌≡◌, ℕ, ◌+◌, ◌<◌, ◌≤◌, Bool, true, List, [], ◌∷◌, ◌++◌, length, Option, Result, Ok, Err}
use Rattle.std.specs.Option.{IfSome}
use Rattle.std.specs.Io.KnownBytes.{Keeps, Consumes, Appends, prepend_known}
use Rattle.ofx_ports.specs.Faults.{Rose}
use Rattle.ofx_ports.specs.Known.{Grows}
use Rattle.bank_model.specs.declared.setup.Setup.{Setup}
use Rattle.bank_model.specs.declared.log.LogItem.{LogItem}
use Rattle.bank_callers.specs.Callers.{CallerView, Knows, IsRightView}
use Rattle.bank_connection.specs.Exchanges.{Exchange, IsExchange, AreExchanges, requests_in, moments_of, moments_in, GoOn}
use Rattle.bank_connection.specs.ReplyText.{outcome_reply, out}
use Rattle.bank_connection.specs.Watched.{HasWatched}
use Rattle.bank_connection.specs.Answering.{HasSeen, Watches}
use Rattle.bank_connection.specs.Connection.{LinkView}
use Rattle.ofx_ports.specs.Writes.{AppendsPart}
use Rattle.http_link.specs.declared.served.ServeError.{ServeError}
use Rattle.http_link.specs.declared.served.ServeError.TheVariants.{WriteFault}

-- A reply is written whole, or where a write failed a prefix of it.
abbrev pub SendsReply : LinkView → LinkView → List ℕ → Bool → Result Bool ServeError → Type 0
SendsReply before after text closes (Ok closed) = Appends before.held after.held text × (closed ≡ closes)
SendsReply before after text closes (Err WriteFault) = AppendsPart before.held after.held text × Rose before.writes after.writes
SendsReply before after text closes (Err fault) = ⊥

-- The exchange of this number, after this log: its request was before the bytes that had come.
pub record HasExchange (setup : Setup) (log : List LogItem) (number : ℕ) (ahead ahead' : List ℕ) (before after : LinkView) (result : Result Bool ServeError) : Type 0 where
  pub x : Exchange
  pub grown : List LogItem
  pub is_exchange : IsExchange setup (log ++ grown) number x
  pub request : ahead ≡ x.request ++ ahead'
  pub moments : Grows before.shown after.shown (moments_of x.outcome)
  pub sends : SendsReply before after (outcome_reply (log ++ grown) x.outcome x.closes) x.closes result
  pub watches : Knows before.office after.office (Watches grown x.outcome)
  pub unread : Keeps before.left after.left

-- a reply after which the connection ends
abbrev pub closing : Result (Unit {0}) ServeError → Result Bool ServeError
closing (Ok done) = Ok true
closing (Err fault) = Err fault

abbrev pub Exchanges : Setup → ℕ → List ℕ → List ℕ → LinkView → LinkView → Result Bool ServeError → Type 0
Exchanges setup number ahead ahead' before after result =
    (log : List LogItem) → HasSeen log before.office → HasExchange setup log number ahead ahead' before after result

-- A connection so far: so many exchanges, after each of which it goes on, and the bytes that have come and aren't answered.
pub record SoFar (setup : Setup) (count : ℕ) (ahead : List ℕ) (before now : LinkView) : Type 0 where
  pub exchanges : List Exchange
  pub log : List LogItem
  pub counted : count ≡ length exchanges
  pub are_exchanges : AreExchanges setup log 1 exchanges
  pub go_on : GoOn exchanges
  pub read : Consumes before.left (prepend_known ahead now.left) (requests_in exchanges)
  pub moments : Grows before.shown now.shown (moments_in exchanges)
  pub written : Appends before.held now.held (out log exchanges)
  pub watched : Knows before.office now.office (HasWatched log exchanges)
