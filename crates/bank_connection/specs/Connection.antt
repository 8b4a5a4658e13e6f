-- A connection, from its first byte to its end: what was read, what is written, and why it ended.
use Rattle.std.specs.Prelude.{◌≡◌, ℕ, ◌≤◌, false, true, List, [], ◌∷◌, ◌++◌, length, take, Option, None, Some, Result, Ok, Err}
use Rattle.std.specs.Option.{IfSome}
use Rattle.std.specs.Io.KnownBytes.{Consumes, Appends, IsAtEnd}
use Rattle.ofx_ports.specs.Faults.{Rose}
use Rattle.ofx_ports.specs.Known.{Grows}
use Rattle.ofx_types.specs.declared.number.Moment.{Moment}
use Rattle.bank_model.specs.declared.setup.Setup.{Setup}
use Rattle.bank_model.specs.declared.log.LogItem.{LogItem}
use Rattle.http_link.specs.Requests.{IsUnfinished}
use Rattle.bank_callers.specs.Callers.{CallerView, Knows, IsRightView}
use Rattle.bank_connection.specs.Exchanges.{Exchange, AreExchanges, requests_in, moments_in, GoOn}
use Rattle.bank_connection.specs.ReplyText.{out}
use Rattle.bank_connection.specs.Watched.{HasWatched}
use Rattle.http_link.specs.declared.served.Served.{Served}
use Rattle.http_link.specs.declared.served.Served.TheVariants.{End, Closed}
use Rattle.http_link.specs.declared.served.ServeError.{ServeError}
use Rattle.http_link.specs.declared.served.ServeError.TheVariants.{ReadFault, WriteFault, Cut, OutOfMemory}

-- What a connection finds and leaves outside of it: the bytes that the link has left, those that it holds, its two counts of
-- faults, the answers that the clock has given, and what the office knows.
pub record LinkView : Type 0 where
  pub left : Option (List ℕ)
  pub reads : ℕ
  pub held : Option (List ℕ)
  pub writes : ℕ
  pub shown : Option (List Moment)
  pub office : Option CallerView

abbrev pub around : Option (List ℕ) → ℕ → Option (List ℕ) → ℕ → Option (List Moment) → Option CallerView → LinkView
around left reads held writes shown office =
    record { left = left; reads = reads; held = held; writes = writes; shown = shown; office = office }

-- ---- why it ended

-- The last exchange ends the connection, and none before it does.
pub record EndsAtLast (xs : List Exchange) : Type 0 where
  pub earlier : List Exchange
  pub last : Exchange
  pub parts : xs ≡ earlier ++ last ∷ []
  pub go_on : GoOn earlier
  pub closes : last.closes ≡ true

-- There is a last exchange, and the connection goes on after those before it.
pub record BreaksInLast (xs : List Exchange) : Type 0 where
  pub earlier : List Exchange
  pub last : Exchange
  pub parts : xs ≡ earlier ++ last ∷ []
  pub go_on : GoOn earlier

-- Why a connection ended after its exchanges and a rest of bytes that were read and not answered:
-- - `End`: the link ended where an exchange had ended;
-- - `Closed`: the last reply says so;
-- - `Cut`: the link ended so many bytes into a request;
-- - `ReadFault`: a read failed when no request was whole;
-- - `WriteFault`: a write of the last reply failed;
-- - `OutOfMemory`: memory was refused between two exchanges.
abbrev pub EndsSo : List Exchange → List ℕ → LinkView → LinkView → Result Served ServeError → Type 0
EndsSo xs rest before after (Ok (End count)) = (count ≡ length xs) × GoOn xs × (rest ≡ []) × IsAtEnd after.left
EndsSo xs rest before after (Ok (Closed count)) = (count ≡ length xs) × EndsAtLast xs
EndsSo xs rest before after (Err (Cut count)) =
    (count ≡ length rest) × (1 ≤ count) × GoOn xs × IsUnfinished rest × IsAtEnd after.left
EndsSo xs rest before after (Err ReadFault) = GoOn xs × IsUnfinished rest × Rose before.reads after.reads
EndsSo xs rest before after (Err WriteFault) = BreaksInLast xs × Rose before.writes after.writes
EndsSo xs rest before after (Err OutOfMemory) = GoOn xs

-- The whole text is written, or where a write failed a prefix of it.
abbrev pub Writes : Option (List ℕ) → Option (List ℕ) → List ℕ → Result Served ServeError → Type 0
Writes old new text (Err WriteFault) = (count : ℕ) × (count ≤ length text) × Appends old new (take count text)
Writes old new text answer = Appends old new text

-- ---- the whole of it

-- A connection has had these exchanges, at most a hundred. The bytes read are their requests and a rest; the bytes written are
-- the replies to them over one log, which is what the office has seen where that is reported, and is legal; and the moments are the
-- clock's answers.
pub record Converses (setup : Setup) (before after : LinkView) (answer : Result Served ServeError) : Type 0 where
  pub exchanges : List Exchange
  pub log : List LogItem
  pub rest : List ℕ
  pub few : length exchanges ≤ 100
  pub are_exchanges : AreExchanges setup log 1 exchanges
  pub read : Consumes before.left after.left (requests_in exchanges ++ rest)
  pub moments : Grows before.shown after.shown (moments_in exchanges)
  pub written : Writes before.held after.held (out log exchanges) answer
  pub watched : Knows before.office after.office (HasWatched log exchanges)
  pub right : IfSome after.office (IsRightView setup)
  pub ends : EndsSo exchanges rest before after answer
