-- What reading a reply file answers.
use Rattle.std.specs.Prelude.{ℕ, List, Result, Ok, Err}
use Rattle.ofx_types.specs.FileForm.{SpellsReply, IsReplyFaultOf}
use Rattle.ofx_types.specs.declared.fault.FileFault.{FileFault}
use Rattle.ofx_types.specs.declared.reply.ReplyFile.{ReplyFile}
use Rattle.ofx_file.specs.Outcome.{IsRefusal, AreReadAll, AreRefusedAll, AreJudged}

-- What is read is the reply that the bytes spell.
abbrev pub ReadsReply : List ℕ → Result ReplyFile FileFault → Type 0
ReadsReply bytes (Ok reply) = SpellsReply bytes reply
ReadsReply bytes (Err fault) = IsRefusal IsReplyFaultOf bytes fault

abbrev pub ReadsAll : List ℕ → Result ReplyFile FileFault → Type 0
ReadsAll bytes answer = AreReadAll SpellsReply bytes answer

abbrev pub RefusesAll : List ℕ → Result ReplyFile FileFault → Type 0
RefusesAll bytes answer = AreRefusedAll IsReplyFaultOf bytes answer

abbrev pub EachReplyIsJudged : Type 0
EachReplyIsJudged = AreJudged SpellsReply IsReplyFaultOf
