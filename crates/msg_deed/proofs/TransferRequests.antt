-- The three requests of transfers: each has its form exactly where reading finds it, and its faults have offsets.
use Rattle.std.proofs.Common.{◌≡◌, ℕ, codes, Ok, refl, subst, ◌∙◌}
use Rattle.ofx_types.specs.Nodes.{Item}
use Rattle.ofx_types.specs.FormWords.{id_in}
use Rattle.ofx_types.specs.DeedForm.{IsDeedRequest, family_of}
use Rattle.ofx_types.specs.TransferForm.{HasXferInfo}
use Rattle.ofx_types.specs.TransferReading.{info_in, transfer_of, modify_of, cancel_of}
use Rattle.ofx_types.specs.declared.transfer.XferInfo.{XferInfo}
use Rattle.ofx_types.specs.declared.transfer.Deed.{Deed}
use Rattle.ofx_types.specs.declared.transfer.Deed.TheVariants.{Transfer, ModifyTransfer, CancelTransfer}
use Rattle.ofx_types.specs.declared.transfer.Family.{Family}
use Rattle.ofx_types.specs.declared.transfer.Family.TheVariants.{Intra}
use Rattle.ofx_tree.specs.Located.{Holds, Any, IsWithin}
use Rattle.ofx_tree.proofs.FormLaws.{bind_ok, bind_to, one_value, id_in_found, id_in_again}
use Rattle.ofx_tree.proofs.FormOffsets.{bound, id_within}
use Rattle.msg_deed.proofs.TransferParts.{info_in_found, info_in_again, info_in_within}

-- a request of a deed of this family
abbrev pub IsRequestOf : Family → Item → Deed → Type 0
IsRequestOf family request deed = IsDeedRequest request deed × (family_of deed ≡ family)

pub transfer_found : (request : Item) (deed : Deed) → request.node.name ≡ codes "INTRARQ" → transfer_of request ≡ Ok deed → IsRequestOf Intra request deed
unfolding transfer_of
transfer_found request deed name h =
    let info = bind_ok (info_in request) _ deed h in
    subst (IsRequestOf Intra request) (one_value _ _ deed refl info.2) ((name, info_in_found request info.0 info.1), refl)

pub modify_found : (request : Item) (deed : Deed) → request.node.name ≡ codes "INTRAMODRQ" → modify_of request ≡ Ok deed → IsRequestOf Intra request deed
unfolding modify_of
modify_found request deed name h =
    let id = bind_ok (id_in (codes "SRVRTID") request) _ deed h in
    let info = bind_ok (info_in request) _ deed id.2 in
    subst (IsRequestOf Intra request) (one_value _ _ deed refl info.2)
    ((name, id_in_found (codes "SRVRTID") request id.0 id.1, info_in_found request info.0 info.1), refl)

pub cancel_found : (request : Item) (deed : Deed) → request.node.name ≡ codes "INTRACANRQ" → cancel_of request ≡ Ok deed → IsRequestOf Intra request deed
unfolding cancel_of
cancel_found request deed name h =
    let id = bind_ok (id_in (codes "SRVRTID") request) _ deed h in
    subst (IsRequestOf Intra request) (one_value _ _ deed refl id.2) ((name, id_in_found (codes "SRVRTID") request id.0 id.1), refl)

pub transfer_again : (request : Item) (info : XferInfo) → HasXferInfo request info → transfer_of request ≡ Ok (Transfer info)
unfolding transfer_of
transfer_again request info has = bind_to _ _ info (info_in_again request info has)

pub modify_again : (request : Item) (id : ℕ) (info : XferInfo) → IsDeedRequest request (ModifyTransfer id info) → modify_of request ≡ Ok (ModifyTransfer id info)
unfolding modify_of
modify_again request id info (name, has_id, has) =
    bind_to _ _ id (id_in_again (codes "SRVRTID") request id has_id) ∙ bind_to _ _ info (info_in_again request info has)

pub cancel_again : (request : Item) (id : ℕ) → IsDeedRequest request (CancelTransfer id) → cancel_of request ≡ Ok (CancelTransfer id)
unfolding cancel_of
cancel_again request id (name, has_id) = bind_to _ _ id (id_in_again (codes "SRVRTID") request id has_id)

pub transfer_within : (most : ℕ) (request : Item) → IsWithin most request → Holds most Any (transfer_of request)
unfolding transfer_of
transfer_within most request h = bound most Any Any (info_in request) _ (info_in_within most request h) (λ info _. tt)

pub modify_within : (most : ℕ) (request : Item) → IsWithin most request → Holds most Any (modify_of request)
unfolding modify_of
modify_within most request h =
    bound most Any Any (id_in (codes "SRVRTID") request) _ (id_within most (codes "SRVRTID") request h) (λ id _.
    bound most Any Any (info_in request) _ (info_in_within most request h) (λ info _. tt))

pub cancel_within : (most : ℕ) (request : Item) → IsWithin most request → Holds most Any (cancel_of request)
unfolding cancel_of
cancel_within most request h =
    bound most Any Any (id_in (codes "SRVRTID") request) _ (id_within most (codes "SRVRTID") request h) (λ id _. tt)
