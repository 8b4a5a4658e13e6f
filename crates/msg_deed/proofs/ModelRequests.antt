-- The three requests of recurring transfers: each has its form exactly where reading finds it, and its faults have offsets.
use Rattle.std.proofs.Common.{◌≡◌, ℕ, Bool, codes, Ok, refl, subst, ◌∙◌}
use Rattle.ofx_types.specs.Nodes.{Item}
use Rattle.ofx_types.specs.FormWords.{flag_in, id_in}
use Rattle.ofx_types.specs.DeedForm.{IsDeedRequest}
use Rattle.ofx_types.specs.RecurringReading.{recur_in, each_info_in, model_of, modify_model_of, cancel_model_of}
use Rattle.ofx_types.specs.declared.recurring.Recur.{Recur}
use Rattle.ofx_types.specs.declared.transfer.XferInfo.{XferInfo}
use Rattle.ofx_types.specs.declared.transfer.Deed.{Deed}
use Rattle.ofx_types.specs.declared.transfer.Deed.TheVariants.{Model, ModifyModel, CancelModel}
use Rattle.ofx_types.specs.declared.transfer.Family.TheVariants.{RecIntra}
use Rattle.ofx_tree.specs.Located.{Holds, Any, IsWithin}
use Rattle.ofx_tree.proofs.FormLaws.{bind_ok, bind_to, one_value, flag_in_found, flag_in_again, id_in_found, id_in_again}
use Rattle.ofx_tree.proofs.FormOffsets.{bound, flag_within, id_within}
use Rattle.msg_deed.proofs.RecurringParts.{recur_in_found, recur_in_again, recur_in_within, each_found, each_again, each_within}
use Rattle.msg_deed.proofs.TransferRequests.{IsRequestOf}

pub model_found : (request : Item) (deed : Deed) → request.node.name ≡ codes "RECINTRARQ" → model_of request ≡ Ok deed → IsRequestOf RecIntra request deed
unfolding model_of
model_found request deed name h =
    let recur = bind_ok (recur_in request) _ deed h in
    let info = bind_ok (each_info_in request) _ deed recur.2 in
    subst (IsRequestOf RecIntra request) (one_value _ _ deed refl info.2)
    ((name, recur_in_found request recur.0 recur.1, each_found request info.0 info.1), refl)

pub modify_model_found : (request : Item) (deed : Deed) → request.node.name ≡ codes "RECINTRAMODRQ" → modify_model_of request ≡ Ok deed →
    IsRequestOf RecIntra request deed
unfolding modify_model_of
modify_model_found request deed name h =
    let id = bind_ok (id_in (codes "RECSRVRTID") request) _ deed h in
    let recur = bind_ok (recur_in request) _ deed id.2 in
    let info = bind_ok (each_info_in request) _ deed recur.2 in
    let pending = bind_ok (flag_in (codes "MODPENDING") request) _ deed info.2 in
    subst (IsRequestOf RecIntra request) (one_value _ _ deed refl pending.2) (
      (
        name,
        id_in_found (codes "RECSRVRTID") request id.0 id.1,
        recur_in_found request recur.0 recur.1,
        each_found request info.0 info.1,
        flag_in_found (codes "MODPENDING") request pending.0 pending.1,
      ),
      refl,
    )

pub cancel_model_found : (request : Item) (deed : Deed) → request.node.name ≡ codes "RECINTRACANRQ" → cancel_model_of request ≡ Ok deed →
    IsRequestOf RecIntra request deed
unfolding cancel_model_of
cancel_model_found request deed name h =
    let id = bind_ok (id_in (codes "RECSRVRTID") request) _ deed h in
    let pending = bind_ok (flag_in (codes "CANPENDING") request) _ deed id.2 in
    subst (IsRequestOf RecIntra request) (one_value _ _ deed refl pending.2) (
      (name, id_in_found (codes "RECSRVRTID") request id.0 id.1, flag_in_found (codes "CANPENDING") request pending.0 pending.1),
      refl,
    )

pub model_again : (request : Item) (recur : Recur) (info : XferInfo) → IsDeedRequest request (Model recur info) →
    model_of request ≡ Ok (Model recur info)
unfolding model_of
model_again request recur info (name, has_recur, has) =
    bind_to _ _ recur (recur_in_again request recur has_recur) ∙ bind_to _ _ info (each_again request info has)

pub modify_model_again : (request : Item) (id : ℕ) (recur : Recur) (info : XferInfo) (pending : Bool) →
    IsDeedRequest request (ModifyModel id recur info pending) → modify_model_of request ≡ Ok (ModifyModel id recur info pending)
unfolding modify_model_of
modify_model_again request id recur info pending (name, has_id, has_recur, has, has_flag) =
    bind_to _ _ id (id_in_again (codes "RECSRVRTID") request id has_id)
    ∙ bind_to _ _ recur (recur_in_again request recur has_recur)
    ∙ bind_to _ _ info (each_again request info has)
    ∙ bind_to _ _ pending (flag_in_again (codes "MODPENDING") request pending has_flag)

pub cancel_model_again : (request : Item) (id : ℕ) (pending : Bool) → IsDeedRequest request (CancelModel id pending) →
    cancel_model_of request ≡ Ok (CancelModel id pending)
unfolding cancel_model_of
cancel_model_again request id pending (name, has_id, has_flag) =
    bind_to _ _ id (id_in_again (codes "RECSRVRTID") request id has_id)
    ∙ bind_to _ _ pending (flag_in_again (codes "CANPENDING") request pending has_flag)

pub model_within : (most : ℕ) (request : Item) → IsWithin most request → Holds most Any (model_of request)
unfolding model_of
model_within most request h =
    bound most Any Any (recur_in request) _ (recur_in_within most request h) (λ recur _.
    bound most Any Any (each_info_in request) _ (each_within most request h) (λ info _. tt))

pub modify_model_within : (most : ℕ) (request : Item) → IsWithin most request → Holds most Any (modify_model_of request)
unfolding modify_model_of
modify_model_within most request h =
    bound most Any Any (id_in (codes "RECSRVRTID") request) _ (id_within most (codes "RECSRVRTID") request h) (λ id _.
    bound most Any Any (recur_in request) _ (recur_in_within most request h) (λ recur _.
    bound most Any Any (each_info_in request) _ (each_within most request h) (λ info _.
    bound most Any Any (flag_in (codes "MODPENDING") request) _ (flag_within most (codes "MODPENDING") request h) (λ pending _. tt))))

pub cancel_model_within : (most : ℕ) (request : Item) → IsWithin most request → Holds most Any (cancel_model_of request)
unfolding cancel_model_of
cancel_model_within most request h =
    bound most Any Any (id_in (codes "RECSRVRTID") request) _ (id_within most (codes "RECSRVRTID") request h) (λ id _.
    bound most Any Any (flag_in (codes "CANPENDING") request) _ (flag_within most (codes "CANPENDING") request h) (λ pending _. tt))
