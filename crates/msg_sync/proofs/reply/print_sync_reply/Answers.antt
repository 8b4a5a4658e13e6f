use Rattle.std.proofs.Common.{◌≡◌, ℕ, List, ◌++◌, Result, OnOk, sym, ap, ◌∙◌}
use Rattle.std.proofs.Transfers.{starts_with_of_append, starts_with_trans}
use Rattle.ofx_types.specs.Sheet.{start_line, end_line, aggregate}
use Rattle.ofx_types.specs.SyncForm.{sync_reply_name}
use Rattle.ofx_types.specs.PrintedSync.{sync_reply_text}
use Rattle.msg_parts.proofs.Joined.{aggregate_of_four}
use Rattle.msg_sync.proofs.reply.print_sync_reply.Goals as goal

-- an aggregate with four parts, whose name is this one
named_of_four : {T E : Type 0} (r : Result T E) (o0 o1 o2 o3 o4 o5 o6 name own a b c d : List ℕ) → name ≡ own →
    o1 ≡ o0 ++ start_line name → o2 ≡ o1 ++ a → o3 ≡ o2 ++ b → o4 ≡ o3 ++ c → o5 ≡ o4 ++ d → OnOk r (o6 ≡ o5 ++ end_line name) →
    OnOk r (o6 ≡ o0 ++ aggregate own (a ++ (b ++ (c ++ d))))
named_of_four r o0 o1 o2 o3 o4 o5 o6 name own a b c d is p q s t u closed =
    rw (sym is) (aggregate_of_four r o0 o1 o2 o3 o4 o5 o6 name a b c d p q s t u closed)

pub returns-clause-ok : goal.returns-clause-ok
unfolding sync_reply_text
returns-clause-ok c =
    let name = c.name_of-name.ensures ∙ ap sync_reply_name c.family.ensures in
    named_of_four c.end.result _ _ _ _ _ _ _ _ _ _ _ _ _ name c.in_ok-start.ensures.ok c.in_ok-text.ensures.ok c.in_ok-print_flag.ensures.ok c.in_ok-print_object.ensures.ok (rw c.items.ensures at c.in_ok-print_replies.ensures.ok) c.end.ensures.ok

pub returns-in_err-print_replies-clause-kept : goal.returns-in_err-print_replies-clause-kept
returns-in_err-print_replies-clause-kept c =
    starts_with_trans _ _ _ c.in_err-print_replies.ensures.kept
    (starts_with_trans _ _ _ c.in_ok-print_object.ensures.kept
    (starts_with_trans _ _ _ c.in_ok-print_flag.ensures.kept
    (starts_with_trans _ _ _ (starts_with_of_append _ _ _ c.in_ok-text.ensures.ok) (starts_with_of_append _ _ _ c.in_ok-start.ensures.ok))))
