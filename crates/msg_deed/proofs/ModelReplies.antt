-- The three replies about recurring transfers: each has its form exactly where reading finds it, and its faults have offsets.
use Rattle.std.proofs.Common.{◌≡◌, ℕ, Bool, codes, Ok, refl, subst, ◌∙◌}
use Rattle.ofx_types.specs.Nodes.{Item}
use Rattle.ofx_types.specs.FormWords.{flag_in, id_in}
use Rattle.ofx_types.specs.DeedForm.{IsChange}
use Rattle.ofx_types.specs.RecurringReading.{model_row_of, new_model_of, set_model_of, drop_model_of}
use Rattle.ofx_types.specs.declared.recurring.ModelRow.{ModelRow}
use Rattle.ofx_types.specs.declared.transfer.Change.{Change}
use Rattle.ofx_types.specs.declared.transfer.Change.TheVariants.{NewModel, SetModel, DropModel}
use Rattle.ofx_tree.specs.Located.{Holds, Any, IsWithin}
use Rattle.ofx_tree.proofs.FormLaws.{bind_ok, bind_to, one_value, flag_in_found, flag_in_again, id_in_found, id_in_again}
use Rattle.ofx_tree.proofs.FormOffsets.{bound, flag_within, id_within}
use Rattle.msg_deed.proofs.RecurringParts.{row_found, row_again, row_within}

pub new_model_found : (reply : Item) (change : Change) → reply.node.name ≡ codes "RECINTRARS" → new_model_of reply ≡ Ok change → IsChange reply change
unfolding new_model_of
new_model_found reply change name h =
    let row = bind_ok (model_row_of reply) _ change h in
    subst (IsChange reply) (one_value _ _ change refl row.2) (name, row_found reply row.0 row.1)

pub set_model_found : (reply : Item) (change : Change) → reply.node.name ≡ codes "RECINTRAMODRS" → set_model_of reply ≡ Ok change → IsChange reply change
unfolding set_model_of
set_model_found reply change name h =
    let row = bind_ok (model_row_of reply) _ change h in
    let pending = bind_ok (flag_in (codes "MODPENDING") reply) _ change row.2 in
    subst (IsChange reply) (one_value _ _ change refl pending.2)
    (name, row_found reply row.0 row.1, flag_in_found (codes "MODPENDING") reply pending.0 pending.1)

pub drop_model_found : (reply : Item) (change : Change) → reply.node.name ≡ codes "RECINTRACANRS" → drop_model_of reply ≡ Ok change → IsChange reply change
unfolding drop_model_of
drop_model_found reply change name h =
    let id = bind_ok (id_in (codes "RECSRVRTID") reply) _ change h in
    let pending = bind_ok (flag_in (codes "CANPENDING") reply) _ change id.2 in
    subst (IsChange reply) (one_value _ _ change refl pending.2)
    (name, id_in_found (codes "RECSRVRTID") reply id.0 id.1, flag_in_found (codes "CANPENDING") reply pending.0 pending.1)

pub new_model_again : (reply : Item) (row : ModelRow) → IsChange reply (NewModel row) → new_model_of reply ≡ Ok (NewModel row)
unfolding new_model_of
new_model_again reply row (name, is) = bind_to _ _ row (row_again reply row is)

pub set_model_again : (reply : Item) (row : ModelRow) (pending : Bool) → IsChange reply (SetModel row pending) →
    set_model_of reply ≡ Ok (SetModel row pending)
unfolding set_model_of
set_model_again reply row pending (name, is, has_flag) =
    bind_to _ _ row (row_again reply row is) ∙ bind_to _ _ pending (flag_in_again (codes "MODPENDING") reply pending has_flag)

pub drop_model_again : (reply : Item) (id : ℕ) (pending : Bool) → IsChange reply (DropModel id pending) →
    drop_model_of reply ≡ Ok (DropModel id pending)
unfolding drop_model_of
drop_model_again reply id pending (name, has_id, has_flag) =
    bind_to _ _ id (id_in_again (codes "RECSRVRTID") reply id has_id)
    ∙ bind_to _ _ pending (flag_in_again (codes "CANPENDING") reply pending has_flag)

pub new_model_within : (most : ℕ) (reply : Item) → IsWithin most reply → Holds most Any (new_model_of reply)
unfolding new_model_of
new_model_within most reply h = bound most Any Any (model_row_of reply) _ (row_within most reply h) (λ row _. tt)

pub set_model_within : (most : ℕ) (reply : Item) → IsWithin most reply → Holds most Any (set_model_of reply)
unfolding set_model_of
set_model_within most reply h =
    bound most Any Any (model_row_of reply) _ (row_within most reply h) (λ row _.
    bound most Any Any (flag_in (codes "MODPENDING") reply) _ (flag_within most (codes "MODPENDING") reply h) (λ pending _. tt))

pub drop_model_within : (most : ℕ) (reply : Item) → IsWithin most reply → Holds most Any (drop_model_of reply)
unfolding drop_model_of
drop_model_within most reply h =
    bound most Any Any (id_in (codes "RECSRVRTID") reply) _ (id_within most (codes "RECSRVRTID") reply h) (λ id _.
    bound most Any Any (flag_in (codes "CANPENDING") reply) _ (flag_within most (codes "CANPENDING") reply h) (λ pending _. tt))
