-- Files that read back as they were written: their values are within the limits of their elements.
use Rattle.std.specs.Prelude.{◌≡◌, true, ◌++◌}
use Rattle.std.specs.Option.{IfSome}
use Rattle.std.specs.List.{AllByRecursion}
use Rattle.ofx_types.specs.TextRules.{IsFileUid}
use Rattle.ofx_types.specs.HeaderForm.{is_version}
use Rattle.ofx_types.specs.FileForm.{SpellsFile, SpellsReply}
use Rattle.ofx_types.specs.PrintedFile.{file_text}
use Rattle.ofx_types.specs.ReplyForm.{reply_text}
use Rattle.ofx_types.specs.Wire.{wire_file}
use Rattle.ofx_types.specs.declared.number.Moment.{Moment}
use Rattle.ofx_types.specs.declared.request.Ask.{Ask}
use Rattle.ofx_types.specs.declared.request.Ask.TheVariants as asks
use Rattle.ofx_types.specs.declared.request.RequestFile.{RequestFile}
use Rattle.ofx_types.specs.declared.reply.AskReply.{AskReply}
use Rattle.ofx_types.specs.declared.reply.AskReply.TheVariants as replies
use Rattle.ofx_types.specs.declared.reply.ReplyFile.{ReplyFile}
use Rattle.msg_statement.specs.SoundStatements.{IsSoundStatement, IsSoundReply}
use Rattle.msg_mail.specs.SignonsAsDocuments.{IsSoundSignon, IsSoundSignonReply}
use Rattle.msg_sync.specs.SoundSyncs.{IsSoundTransaction, IsSoundAnswer, IsSoundSync, IsSoundSyncReply}
use Rattle.ofx_file.specs.declared.messages.MessageSet.TheVariants.{Bank, Mail}
use Rattle.ofx_file.specs.MessageSets.{asks_in, replies_in}

-- ---- requests

abbrev pub IsSoundAsk : Ask → Type 0
IsSoundAsk (asks.Statement trnuid account period) = IsSoundStatement trnuid account period
IsSoundAsk (asks.One trnuid deed) = IsSoundTransaction (trnuid, deed)
IsSoundAsk (asks.Sync ask) = IsSoundSync ask

-- The user and the password have at least 1 byte, and what the bank is asked comes before mail.
pub record IsSoundFile (file : RequestFile) (at : Moment) : Type 0 where
  pub version : is_version file.version ≡ true
  pub older : IfSome file.older IsFileUid
  pub newer : IfSome file.newer IsFileUid
  pub signon : IsSoundSignon file.user file.pass at
  pub bank_first : file.asks ≡ asks_in Bank file.asks ++ asks_in Mail file.asks
  pub asks : AllByRecursion IsSoundAsk file.asks

-- What is written of a sound file spells that file.
abbrev pub FilesReadBack : Type 0
FilesReadBack = (file : RequestFile) (at : Moment) → IsSoundFile file at → SpellsFile (file_text file at) file

-- ---- replies

abbrev pub IsSoundAskReply : AskReply → Type 0
IsSoundAskReply (replies.Statement trnuid code body) = IsSoundReply trnuid code body
IsSoundAskReply (replies.One answer) = IsSoundAnswer answer
IsSoundAskReply (replies.Sync answer) = IsSoundSyncReply answer

pub record IsSoundReplyFile (reply : ReplyFile) : Type 0 where
  pub version : is_version reply.version ≡ true
  pub newer : IfSome reply.newer IsFileUid
  pub signon : IsSoundSignonReply reply.signon reply.moment
  pub bank_first : reply.replies ≡ replies_in Bank reply.replies ++ replies_in Mail reply.replies
  pub replies : AllByRecursion IsSoundAskReply reply.replies

-- What is written of a sound reply spells that reply, with the model of each changed transfer set to 0.
abbrev pub RepliesReadBack : Type 0
RepliesReadBack = (reply : ReplyFile) → IsSoundReplyFile reply → SpellsReply (reply_text reply) (wire_file reply)
