-- The three replies about transfers: each has its form exactly where reading finds it, and its faults have offsets.
use Rattle.std.proofs.Common.{◌≡◌, ℕ, Result, Ok, codes, refl, sym, ap, subst, ◌∙◌}
use Rattle.ofx_types.specs.Nodes.{Item}
use Rattle.ofx_types.specs.FormWords.{id_in, maybe_id_in}
use Rattle.ofx_types.specs.DeedForm.{IsChange}
use Rattle.ofx_types.specs.TransferForm.{info_of, IsRow}
use Rattle.ofx_types.specs.TransferReading.{DueInfo, due_info_in, processing_in, row_with, new_of, set_of, drop_of}
use Rattle.ofx_types.specs.declared.fault.TreeFault.{TreeFault}
use Rattle.ofx_types.specs.declared.transfer.TransferRow.{TransferRow}
use Rattle.ofx_types.specs.declared.transfer.Change.{Change}
use Rattle.ofx_types.specs.declared.transfer.Change.TheVariants.{NewTransfer, SetTransfer, DropTransfer}
use Rattle.ofx_tree.specs.Located.{Holds, Any, IsWithin}
use Rattle.ofx_tree.proofs.FormLaws.{bind_ok, bind_to, one_value, id_in_found, id_in_again, maybe_id_in_found, maybe_id_in_again}
use Rattle.ofx_tree.proofs.FormOffsets.{bound, id_within, maybe_id_within}
use Rattle.msg_deed.proofs.TransferParts.{due_info_found, due_info_again, due_info_within, processing_found, processing_again, processing_within}

pub new_found : (reply : Item) (change : Change) → reply.node.name ≡ codes "INTRARS" → new_of reply ≡ Ok change → IsChange reply change
unfolding new_of
new_found reply change name h =
    let id = bind_ok (id_in (codes "SRVRTID") reply) _ change h in
    let asked = bind_ok (due_info_in reply) _ change id.2 in
    let model = bind_ok (maybe_id_in (codes "RECSRVRTID") reply) _ change asked.2 in
    let processing = bind_ok (processing_in reply) _ change model.2 in
    let row : IsRow reply (row_with id.0 model.0 asked.0 processing.0) = record {
      id = id_in_found (codes "SRVRTID") reply id.0 id.1;
      info = due_info_found reply asked.0 asked.1;
      processing = processing_found reply processing.0 processing.1;
    } in
    subst (IsChange reply) (one_value _ _ change refl processing.2) (name, row, maybe_id_in_found (codes "RECSRVRTID") reply model.0 model.1)

pub set_found : (reply : Item) (change : Change) → reply.node.name ≡ codes "INTRAMODRS" → set_of reply ≡ Ok change → IsChange reply change
unfolding set_of
set_found reply change name h =
    let id = bind_ok (id_in (codes "SRVRTID") reply) _ change h in
    let asked = bind_ok (due_info_in reply) _ change id.2 in
    let processing = bind_ok (processing_in reply) _ change asked.2 in
    let row : IsRow reply (row_with id.0 0 asked.0 processing.0) = record {
      id = id_in_found (codes "SRVRTID") reply id.0 id.1;
      info = due_info_found reply asked.0 asked.1;
      processing = processing_found reply processing.0 processing.1;
    } in
    subst (IsChange reply) (one_value _ _ change refl processing.2) (name, row, refl)

pub drop_found : (reply : Item) (change : Change) → reply.node.name ≡ codes "INTRACANRS" → drop_of reply ≡ Ok change → IsChange reply change
unfolding drop_of
drop_found reply change name h =
    let id = bind_ok (id_in (codes "SRVRTID") reply) _ change h in
    subst (IsChange reply) (one_value _ _ change refl id.2) (name, id_in_found (codes "SRVRTID") reply id.0 id.1)

-- what the XFERINFO of a row says
abbrev asked_of : TransferRow → DueInfo
asked_of row = record { info = info_of row; due = row.due }

pub new_again : (reply : Item) (row : TransferRow) → IsChange reply (NewTransfer row) → new_of reply ≡ Ok (NewTransfer row)
unfolding new_of
new_again reply row (name, is, model) =
    bind_to _ _ row.id (id_in_again (codes "SRVRTID") reply row.id is.id)
    ∙ bind_to _ _ (asked_of row) (due_info_again reply (asked_of row) refl is.info)
    ∙ bind_to _ _ row.model (maybe_id_in_again (codes "RECSRVRTID") reply row.model model)
    ∙ bind_to _ _ (row.code, row.stamp) (processing_again reply row.code row.stamp is.processing)

abbrev set_with : TransferRow → ℕ → Result Change TreeFault
set_with row model = Ok (SetTransfer (row_with row.id model (asked_of row) (row.code, row.stamp)))

pub set_again : (reply : Item) (row : TransferRow) → IsChange reply (SetTransfer row) → set_of reply ≡ Ok (SetTransfer row)
unfolding set_of
set_again reply row (name, is, none) =
    bind_to _ _ row.id (id_in_again (codes "SRVRTID") reply row.id is.id)
    ∙ bind_to _ _ (asked_of row) (due_info_again reply (asked_of row) refl is.info)
    ∙ bind_to _ _ (row.code, row.stamp) (processing_again reply row.code row.stamp is.processing)
    ∙ ap (set_with row) (sym none)

pub drop_again : (reply : Item) (id : ℕ) → IsChange reply (DropTransfer id) → drop_of reply ≡ Ok (DropTransfer id)
unfolding drop_of
drop_again reply id (name, is) = bind_to _ _ id (id_in_again (codes "SRVRTID") reply id is)

pub new_within : (most : ℕ) (reply : Item) → IsWithin most reply → Holds most Any (new_of reply)
unfolding new_of
new_within most reply h =
    bound most Any Any (id_in (codes "SRVRTID") reply) _ (id_within most (codes "SRVRTID") reply h) (λ id _.
    bound most Any Any (due_info_in reply) _ (due_info_within most reply h) (λ asked _.
    bound most Any Any (maybe_id_in (codes "RECSRVRTID") reply) _ (maybe_id_within most (codes "RECSRVRTID") reply h) (λ model _.
    bound most Any Any (processing_in reply) _ (processing_within most reply h) (λ processing _. tt))))

pub set_within : (most : ℕ) (reply : Item) → IsWithin most reply → Holds most Any (set_of reply)
unfolding set_of
set_within most reply h =
    bound most Any Any (id_in (codes "SRVRTID") reply) _ (id_within most (codes "SRVRTID") reply h) (λ id _.
    bound most Any Any (due_info_in reply) _ (due_info_within most reply h) (λ asked _.
    bound most Any Any (processing_in reply) _ (processing_within most reply h) (λ processing _. tt)))

pub drop_within : (most : ℕ) (reply : Item) → IsWithin most reply → Holds most Any (drop_of reply)
unfolding drop_of
drop_within most reply h =
    bound most Any Any (id_in (codes "SRVRTID") reply) _ (id_within most (codes "SRVRTID") reply h) (λ id _. tt)
