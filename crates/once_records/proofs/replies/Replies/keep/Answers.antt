use Rattle.std.proofs.Common.{◌≡◌, ◌++◌, ◌∷◌, [], None, sym, ap, subst, ◌∙◌}
use Rattle.std.proofs.lemmas.Result.{IfOk-at_ok}
use Rattle.bank_model.specs.declared.once.KeptReply.{KeptReply}
use Rattle.bank_model.specs.Once.{reply_kept}
use Rattle.once_records.specs.Names.{RepliesView, name_of}
use Rattle.once_records.proofs.NameLemmas.{new_entry, numbered_more, kept_more}
use Rattle.once_records.proofs.replies.Replies.keep.Goals as goal

pub invariant_of-self : goal.invariant_of-self
invariant_of-self c =
    let held = c.self.inside.held.entries in
    let named : c.new-name.result ≡ name_of c.args.user c.args.file = c.new-name.ensures ∙ ap (name_of c.args.user) c.as_bytes.ensures.bytes in
    let absent = subst (λ (v : RepliesView). reply_kept c.args.user c.args.file v.kept ≡ None) (sym c.self.view_is) c.requires.absent in
    numbered_more c.args.user c.args.file c.args.reply.items c.self.inside.next held c.self.invariant absent c.insert-kept.new.self.entries
    (new_entry c.args.user c.args.file c.args.reply.items c.self.inside.next held c.self.invariant absent c.insert-kept.new.self.entries _ _ named c.from_vec.ensures
    _ (IfOk-at_ok _ c.unwrap-none.ensures c.insert-kept.ensures.old) (IfOk-at_ok _ c.unwrap-none.ensures c.insert-kept.ensures.entries))

pub returns-clause-kept : goal.returns-clause-kept
returns-clause-kept c =
    let held = c.self.inside.held.entries in
    let reply : KeptReply = record { user = c.args.user; file = c.args.file; reply = c.args.reply.items } in
    let named : c.new-name.result ≡ name_of c.args.user c.args.file = c.new-name.ensures ∙ ap (name_of c.args.user) c.as_bytes.ensures.bytes in
    let absent = subst (λ (v : RepliesView). reply_kept c.args.user c.args.file v.kept ≡ None) (sym c.self.view_is) c.requires.absent in
    kept_more c.args.user c.args.file c.args.reply.items c.self.inside.next held c.self.invariant absent c.insert-kept.new.self.entries
    (new_entry c.args.user c.args.file c.args.reply.items c.self.inside.next held c.self.invariant absent c.insert-kept.new.self.entries _ _ named c.from_vec.ensures
    _ (IfOk-at_ok _ c.unwrap-none.ensures c.insert-kept.ensures.old) (IfOk-at_ok _ c.unwrap-none.ensures c.insert-kept.ensures.entries))
    ∙ ap (λ (v : RepliesView). v.kept ++ reply ∷ []) c.self.view_is
