use Rattle.std.proofs.Common.{◌≡◌, sym, ap, ◌∙◌, subst}
use Rattle.std.specs.Prelude.{IfOk}
use Rattle.std.specs.List.{flat_map}
use Rattle.ofx_types.specs.Printable.{IsPrintable}
use Rattle.ofx_types.specs.ReplyForm.{reply_text}
use Rattle.ofx_types.specs.declared.reply.ReplyFile.{ReplyFile}
use Rattle.bank_model.specs.Polls.{poll_answer}
use Rattle.bank_model.specs.Rules.{reply_file}
use Rattle.bank_core.proofs.Printing.{IsPrintable-poll, poll_reply-is}
use Rattle.bank_core.proofs.book.Book.poll.Goals as goal

pub print-requires : goal.print-requires
print-requires g c =
    let is = c.in_ok-reply.ensures ∙ ap (reply_file c.args.at c.args.file.now) (c.in_ok-replies.ensures ∙ ap (flat_map (poll_answer c.args.self.now.setup c.args.self.now.state c.args.user)) c.items.ensures) in
    subst IsPrintable (sym is) (IsPrintable-poll c.args.self.now.setup c.args.self.now.state c.args.user c.args.at c.args.file.now c.requires.moment)

pub returns : goal.returns
returns g c =
    let is = c.in_ok-reply.ensures ∙ ap (reply_file c.args.at c.args.file.now) (c.in_ok-replies.ensures ∙ ap (flat_map (poll_answer c.args.self.now.setup c.args.self.now.state c.args.user)) c.items.ensures) ∙ poll_reply-is c.args.self.now.setup c.args.self.now.state c.args.user c.args.at c.args.file.now in
    subst (λ (r : ReplyFile). IfOk c.print.result (λ bytes. bytes.items ≡ reply_text r)) is c.print.ensures
