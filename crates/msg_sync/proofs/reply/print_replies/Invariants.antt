use Rattle.std.proofs.Common.{◌≡◌, ◌++◌, take}
use Rattle.std.specs.List.{flat_map}
use Rattle.ofx_types.specs.DeedText.{deed_reply_text}
use Rattle.msg_sync.proofs.reply.print_replies.Given as goal

-- the answers so far are appended
abbrev pub invariant-loop-reply : goal.invariant-loop-reply
invariant-loop-reply l = l.sheet ≡ l.fn.sheet ++ flat_map deed_reply_text (take l.reply-index l.replies)
