-- One exchange: a file is sent, and the reply to it is read.
use Rattle.std.specs.Prelude.{◌≡◌, ◌≢◌, ℕ, ◌≤◌, List, length, take, Option, Result, Ok, Err, ◌⊎◌}
use Rattle.std.specs.Io.KnownBytes.{Keeps, Consumes, Appends, IsAtEnd, prepend_known}
use Rattle.ofx_ports.specs.Faults.{Rose}
use Rattle.ofx_ports.specs.Writes.{AppendsPart}
use Rattle.ofx_types.specs.FileForm.{SpellsReply, IsReplyFaultOf}
use Rattle.ofx_types.specs.PrintedFile.{file_text}
use Rattle.ofx_types.specs.declared.fault.FileFault.TheVariants.{Header, Syntax, Form}
use Rattle.ofx_types.specs.declared.number.Moment.{Moment}
use Rattle.ofx_types.specs.declared.reply.ReplyFile.{ReplyFile}
use Rattle.ofx_types.specs.declared.request.RequestFile.{RequestFile}
use Rattle.http_front.specs.declared.head.ReplyHead.{ReplyHead}
use Rattle.http_link.specs.Responses.{request_of, IsWholeReply, IsUnfinishedReply, HasBadHead}
use Rattle.http_link.specs.declared.response.Response.{Response}
use Rattle.client_run.specs.Views.{LinkView}
use Rattle.client_run.specs.declared.stop.CallStop.{CallStop}
use Rattle.client_run.specs.declared.stop.CallStop.TheVariants.{ReadFailed, WriteFailed, NoMemory, BadHead, Cut, Http, BadReply}

-- ---- what is sent

-- A file is written with the password of the arguments.
abbrev pub with_pass : List ℕ → RequestFile → RequestFile
with_pass pass file = record {
  version = file.version;
  older = file.older;
  newer = file.newer;
  user = file.user;
  pass = pass;
  asks = file.asks;
}

-- The request of a file that was made at a moment: a head with the length of the body, and the file in its printed form.
unfoldable pub request_bytes : List ℕ → RequestFile → Moment → List ℕ
request_bytes pass file at = request_of (file_text (with_pass pass file) at)

-- A request is sent whole, and the count of faults hasn't fallen. Where a write fails a prefix of it may be, and where memory
-- is refused nothing is.
abbrev pub Sends : List ℕ → Option (List ℕ) → Option (List ℕ) → ℕ → ℕ → Result (Unit {0}) CallStop → Type 0
Sends request before after faults faults' (Ok done) = Appends before after request × (faults ≤ faults')
Sends request before after faults faults' (Err WriteFailed) = AppendsPart before after request × Rose faults faults'
Sends request before after faults faults' (Err NoMemory) = Keeps before after
Sends request before after faults faults' (Err ReadFailed) = ⊥
Sends request before after faults faults' (Err BadHead) = ⊥
Sends request before after faults faults' (Err (Cut count)) = ⊥
Sends request before after faults faults' (Err (Http code)) = ⊥
Sends request before after faults faults' (Err (BadReply at)) = ⊥

-- ---- what comes

-- These bytes are a whole reply with this code and this body.
pub record IsReply (bytes : List ℕ) (code : ℕ) (body : List ℕ) : Type 0 where
  pub head : ReplyHead
  pub whole : IsWholeReply bytes head body
  pub code_is : head.code ≡ code

-- A reply with the code 200 whose body spells a reply file.
pub record Brings (bytes : List ℕ) (reply : ReplyFile) : Type 0 where
  pub body : List ℕ
  pub is_reply : IsReply bytes 200 body
  pub spells : SpellsReply body reply

-- The bytes begin with a whole reply.
pub record BeginsWith (bytes : List ℕ) (code : ℕ) (body : List ℕ) : Type 0 where
  pub size : ℕ
  pub is_reply : IsReply (take size bytes) code body

-- A body spells no reply file, and its fault is at this offset.
abbrev pub IsNoReplyAt : List ℕ → ℕ → Type 0
IsNoReplyAt body at =
    IsReplyFaultOf body (Header at) ⊎ (IsReplyFaultOf body (Syntax at) ⊎ IsReplyFaultOf body (Form at))

-- Why the bytes that have come bring no reply file: a read failed, or the link ended, where they are unfinished; they have no
-- usable head; the code isn't 200; or the body spells none.
abbrev pub BringsNothing : List ℕ → LinkView → LinkView → CallStop → Type 0
BringsNothing bytes before after ReadFailed = IsUnfinishedReply bytes × Rose before.read_faults after.read_faults
BringsNothing bytes before after BadHead = HasBadHead bytes
BringsNothing bytes before after (Cut count) = (count ≡ length bytes) × IsUnfinishedReply bytes × IsAtEnd after.left
BringsNothing bytes before after (Http code) = (code ≢ 200) × ((body : List ℕ) × BeginsWith bytes code body)
BringsNothing bytes before after (BadReply at) = (body : List ℕ) × BeginsWith bytes 200 body × IsNoReplyAt body at
BringsNothing bytes before after NoMemory = Unit {0}
BringsNothing bytes before after WriteFailed = ⊥

-- The body of a whole reply at the start of the bytes spells a reply file, or there is why not.
abbrev pub ReadsBody : List ℕ → Response → Result ReplyFile CallStop → Type 0
ReadsBody bytes answer (Ok reply) = Brings (take answer.size bytes) reply
ReadsBody bytes answer (Err (Http code)) = (code ≢ 200) × ((body : List ℕ) × BeginsWith bytes code body)
ReadsBody bytes answer (Err (BadReply at)) = (body : List ℕ) × BeginsWith bytes 200 body × IsNoReplyAt body at
ReadsBody bytes answer (Err NoMemory) = Unit {0}
ReadsBody bytes answer (Err ReadFailed) = ⊥
ReadsBody bytes answer (Err WriteFailed) = ⊥
ReadsBody bytes answer (Err BadHead) = ⊥
ReadsBody bytes answer (Err (Cut count)) = ⊥

-- Nothing that has come or will come is lost.
abbrev pub IsUnread : List ℕ → LinkView → List ℕ → LinkView → Type 0
IsUnread ahead before ahead' after = Keeps (prepend_known ahead before.left) (prepend_known ahead' after.left)

-- The bytes of the reply that is taken are used up, and no others, and the count of failed reads hasn't fallen.
abbrev pub Receives : List ℕ → LinkView → List ℕ → LinkView → Result ReplyFile CallStop → Type 0
Receives ahead before ahead' after (Ok reply) =
    (bytes : List ℕ) × Brings bytes reply × Consumes (prepend_known ahead before.left) (prepend_known ahead' after.left) bytes
    × (before.read_faults ≤ after.read_faults)
Receives ahead before ahead' after (Err stop) = IsUnread ahead before ahead' after × BringsNothing ahead' before after stop

-- ---- both

-- A request is sent whole before anything is read. Where a write fails, or memory is refused, a prefix of it may be. Where a
-- reply file is brought neither of the link's counts of faults has fallen.
abbrev pub Exchanges : List ℕ → List ℕ → LinkView → List ℕ → LinkView → Result ReplyFile CallStop → Type 0
Exchanges request ahead before ahead' after (Err WriteFailed) =
    AppendsPart before.sent after.sent request × Rose before.write_faults after.write_faults × IsUnread ahead before ahead' after
Exchanges request ahead before ahead' after (Err NoMemory) =
    AppendsPart before.sent after.sent request × IsUnread ahead before ahead' after
Exchanges request ahead before ahead' after (Err ReadFailed) =
    Appends before.sent after.sent request × Receives ahead before ahead' after (Err ReadFailed)
Exchanges request ahead before ahead' after (Err BadHead) =
    Appends before.sent after.sent request × Receives ahead before ahead' after (Err BadHead)
Exchanges request ahead before ahead' after (Err (Cut count)) =
    Appends before.sent after.sent request × Receives ahead before ahead' after (Err (Cut count))
Exchanges request ahead before ahead' after (Err (Http code)) =
    Appends before.sent after.sent request × Receives ahead before ahead' after (Err (Http code))
Exchanges request ahead before ahead' after (Err (BadReply at)) =
    Appends before.sent after.sent request × Receives ahead before ahead' after (Err (BadReply at))
Exchanges request ahead before ahead' after (Ok reply) =
    Appends before.sent after.sent request × (before.write_faults ≤ after.write_faults) × Receives ahead before ahead' after (Ok reply)
