use Rattle.std.proofs.Common.{◌≡◌, ℕ, List, ◌++◌, Result, OnOk, sym, ap, ◌∙◌}
use Rattle.std.proofs.Transfers.{starts_with_of_append, starts_with_trans}
use Rattle.ofx_types.specs.Sheet.{start_line, end_line, aggregate}
use Rattle.ofx_types.specs.SyncForm.{sync_name}
use Rattle.ofx_types.specs.PrintedSync.{sync_text}
use Rattle.msg_parts.proofs.Joined.{rest, aggregate_of}
use Rattle.msg_sync.proofs.request.print_sync.Goals as goal

-- an aggregate with five parts
aggregate_of_five : {T E : Type 0} (r : Result T E) (o0 o1 o2 o3 o4 o5 o6 o7 name own a b c d e : List ℕ) → name ≡ own →
    o1 ≡ o0 ++ start_line name → o2 ≡ o1 ++ a → o3 ≡ o2 ++ b → o4 ≡ o3 ++ c → o5 ≡ o4 ++ d → o6 ≡ o5 ++ e → OnOk r (o7 ≡ o6 ++ end_line name) →
    OnOk r (o7 ≡ o0 ++ aggregate own (a ++ (b ++ (c ++ (d ++ e)))))
aggregate_of_five r o0 o1 o2 o3 o4 o5 o6 o7 name own a b c d e is p q s t u v closed =
    rw (sym is)
    (aggregate_of r o0 o1 o6 o7 name (a ++ (b ++ (c ++ (d ++ e)))) p
    (rest o1 o2 o6 a (b ++ (c ++ (d ++ e))) q
    (rest o2 o3 o6 b (c ++ (d ++ e)) s (rest o3 o4 o6 c (d ++ e) t (rest o4 o5 o6 d e u v)))) closed)

pub returns-clause-ok : goal.returns-clause-ok
unfolding sync_text
returns-clause-ok c =
    let name = c.name_of-name.ensures ∙ ap sync_name c.family-family.ensures in
    aggregate_of_five c.end.result _ _ _ _ _ _ _ _ _ _ _ _ _ _ _ name c.in_ok-start.ensures.ok c.in_ok-print_kind.ensures.ok c.in_ok-print_flag.ensures.ok (rw c.family-family.ensures at c.in_ok-print_plain.ensures.ok) c.in_ok-print_object.ensures.ok (rw c.items.ensures at c.in_ok-print_deeds.ensures.ok) c.end.ensures.ok

pub returns-in_err-print_plain-clause-kept : goal.returns-in_err-print_plain-clause-kept
returns-in_err-print_plain-clause-kept c =
    starts_with_trans _ _ _ c.in_err-print_plain.ensures.kept
    (starts_with_trans _ _ _ c.in_ok-print_flag.ensures.kept
    (starts_with_trans _ _ _ c.in_ok-print_kind.ensures.kept (starts_with_of_append _ _ _ c.in_ok-start.ensures.ok)))

pub returns-in_err-print_object-clause-kept : goal.returns-in_err-print_object-clause-kept
returns-in_err-print_object-clause-kept c =
    starts_with_trans _ _ _ c.in_err-print_object.ensures.kept
    (starts_with_trans _ _ _ c.in_ok-print_plain.ensures.kept
    (starts_with_trans _ _ _ c.in_ok-print_flag.ensures.kept
    (starts_with_trans _ _ _ c.in_ok-print_kind.ensures.kept (starts_with_of_append _ _ _ c.in_ok-start.ensures.ok))))

pub returns-in_err-print_deeds-clause-kept : goal.returns-in_err-print_deeds-clause-kept
returns-in_err-print_deeds-clause-kept c =
    starts_with_trans _ _ _ c.in_err-print_deeds.ensures.kept
    (starts_with_trans _ _ _ c.in_ok-print_object.ensures.kept
    (starts_with_trans _ _ _ c.in_ok-print_plain.ensures.kept
    (starts_with_trans _ _ _ c.in_ok-print_flag.ensures.kept
    (starts_with_trans _ _ _ c.in_ok-print_kind.ensures.kept (starts_with_of_append _ _ _ c.in_ok-start.ensures.ok)))))
