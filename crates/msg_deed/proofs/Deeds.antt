-- The request of a deed has its form exactly where reading finds it, and its faults have offsets.
use Rattle.std.proofs.Common.{◌≡◌, ℕ, inl, inr, true, false, List, Ok, codes, refl, sym, ap, subst, ◌∙◌}
use Rattle.ofx_types.specs.TagNames.{is_one_of}
use Rattle.ofx_types.specs.Nodes.{Item}
use Rattle.ofx_types.specs.FormWords.{has_name, one_of, IsOnlyOf}
use Rattle.ofx_types.specs.RequestReading.{trnuid_of}
use Rattle.ofx_types.specs.TransferForm.{transfer_requests}
use Rattle.ofx_types.specs.RecurringForm.{model_requests}
use Rattle.ofx_types.specs.DeedForm.{family_of, request_name, requests_in, IsDeedRequest, IsDeed}
use Rattle.ofx_types.specs.DeedReading.{family_asked, request_of, request_in, deed_of}
use Rattle.ofx_types.specs.declared.transfer.Deed.{Deed}
use Rattle.ofx_types.specs.declared.transfer.Deed.TheVariants.{Transfer, ModifyTransfer, CancelTransfer, Model, ModifyModel, CancelModel}
use Rattle.ofx_types.specs.declared.transfer.Family.{Family}
use Rattle.ofx_types.specs.declared.transfer.Family.TheVariants.{Intra, RecIntra, BankMail, Mail}
use Rattle.ofx_types.specs.declared.transfer.Deed.TheVariants as deeds
use Rattle.ofx_types.proofs.Bytes.{bytes_eq_is, went}
use Rattle.ofx_tree.specs.Located.{Holds, Any, IsWithin}
use Rattle.ofx_tree.proofs.FormLaws.{bind_ok, bind_to, one_value, one_of_found, one_of_again, has_one_of}
use Rattle.ofx_tree.proofs.FormOffsets.{bound, either, one_of_within}
use Rattle.msg_parts.proofs.PartLaws.{trnuid_found, trnuid_again}
use Rattle.msg_parts.proofs.PartOffsets.{trnuid_within}
use Rattle.msg_parts.proofs.Named.{third_name, none_of_three, other_name, two_named}
use Rattle.msg_deed.proofs.TransferRequests.{IsRequestOf, transfer_found, modify_found, cancel_found, transfer_again, modify_again, cancel_again, transfer_within, modify_within, cancel_within}
use Rattle.msg_deed.proofs.ModelRequests.{model_found, modify_model_found, cancel_model_found, model_again, modify_model_again, cancel_model_again, model_within, modify_model_within, cancel_model_within}

-- ---- the six requests

transfer_request : (request : Item) (deed : Deed) → is_one_of transfer_requests request.node.name ≡ true → request_of request ≡ Ok deed →
    IsRequestOf Intra request deed
unfolding request_of
transfer_request request deed named h = elim (went (has_name (codes "INTRARQ") request) _ _ _ h) [
  | inl (is, read) ↦ transfer_found request deed (bytes_eq_is _ _ is) read
  | inr (first, more) ↦ elim (went (has_name (codes "INTRAMODRQ") request) _ _ _ more) [
    | inl (is, read) ↦ modify_found request deed (bytes_eq_is _ _ is) read
    | inr (second, last) ↦ elim (went (has_name (codes "INTRACANRQ") request) _ _ _ last) [
      | inl (is, read) ↦ cancel_found request deed (bytes_eq_is _ _ is) read
      | inr (third, read) ↦ absurd (none_of_three _ _ _ named first second third)
    ]
  ]
]

model_request : (request : Item) (deed : Deed) → is_one_of model_requests request.node.name ≡ true → request_of request ≡ Ok deed →
    IsRequestOf RecIntra request deed
unfolding request_of
model_request request deed named h = elim (went (has_name (codes "INTRARQ") request) _ _ _ h) [
  | inl (is, read) ↦ absurd (other_name model_requests request.node.name (codes "INTRARQ") refl named (bytes_eq_is request.node.name (codes "INTRARQ") is))
  | inr (_, rest) ↦ elim (went (has_name (codes "INTRAMODRQ") request) _ _ _ rest) [
    | inl (is, read) ↦ absurd (other_name model_requests request.node.name (codes "INTRAMODRQ") refl named (bytes_eq_is request.node.name (codes "INTRAMODRQ") is))
    | inr (_, next) ↦ elim (went (has_name (codes "INTRACANRQ") request) _ _ _ next) [
      | inl (is, read) ↦ absurd (other_name model_requests request.node.name (codes "INTRACANRQ") refl named (bytes_eq_is request.node.name (codes "INTRACANRQ") is))
      | inr (_, more) ↦ elim (went (has_name (codes "RECINTRARQ") request) _ _ _ more) [
        | inl (is, read) ↦ model_found request deed (bytes_eq_is _ _ is) read
        | inr (first, last) ↦ elim (went (has_name (codes "RECINTRAMODRQ") request) _ _ _ last) [
          | inl (is, read) ↦ modify_model_found request deed (bytes_eq_is _ _ is) read
          | inr (second, read) ↦ cancel_model_found request deed (third_name request.node.name _ _ _ named first second) read
        ]
      ]
    ]
  ]
]

request_found : (family : Family) (request : Item) (deed : Deed) → is_one_of (requests_in family) request.node.name ≡ true →
    request_of request ≡ Ok deed → IsRequestOf family request deed
request_found Intra request deed named h = transfer_request request deed named h
request_found RecIntra request deed named h = model_request request deed named h
request_found BankMail request deed named h = cc
request_found Mail request deed named h = cc

request_again : (request : Item) (deed : Deed) → IsDeedRequest request deed → request_of request ≡ Ok deed
unfolding request_of
request_again request (Transfer info) r =
    let is : has_name (codes "INTRARQ") request ≡ true = rw r.0 refl in
    rw is (transfer_again request info r.1)
request_again request (ModifyTransfer id info) r =
    let first : has_name (codes "INTRARQ") request ≡ false = rw r.0 refl in
    let is : has_name (codes "INTRAMODRQ") request ≡ true = rw r.0 refl in
    rw (first, is) (modify_again request id info r)
request_again request (CancelTransfer id) r =
    let first : has_name (codes "INTRARQ") request ≡ false = rw r.0 refl in
    let second : has_name (codes "INTRAMODRQ") request ≡ false = rw r.0 refl in
    let is : has_name (codes "INTRACANRQ") request ≡ true = rw r.0 refl in
    rw (first, second, is) (cancel_again request id r)
request_again request (Model recur info) r =
    let first : has_name (codes "INTRARQ") request ≡ false = rw r.0 refl in
    let second : has_name (codes "INTRAMODRQ") request ≡ false = rw r.0 refl in
    let third : has_name (codes "INTRACANRQ") request ≡ false = rw r.0 refl in
    let is : has_name (codes "RECINTRARQ") request ≡ true = rw r.0 refl in
    rw (first, second, third, is) (model_again request recur info r)
request_again request (ModifyModel id recur info pending) r =
    let first : has_name (codes "INTRARQ") request ≡ false = rw r.0 refl in
    let second : has_name (codes "INTRAMODRQ") request ≡ false = rw r.0 refl in
    let third : has_name (codes "INTRACANRQ") request ≡ false = rw r.0 refl in
    let fourth : has_name (codes "RECINTRARQ") request ≡ false = rw r.0 refl in
    let is : has_name (codes "RECINTRAMODRQ") request ≡ true = rw r.0 refl in
    rw (first, second, third, fourth, is) (modify_model_again request id recur info pending r)
request_again request (CancelModel id pending) r =
    let first : has_name (codes "INTRARQ") request ≡ false = rw r.0 refl in
    let second : has_name (codes "INTRAMODRQ") request ≡ false = rw r.0 refl in
    let third : has_name (codes "INTRACANRQ") request ≡ false = rw r.0 refl in
    let fourth : has_name (codes "RECINTRARQ") request ≡ false = rw r.0 refl in
    let fifth : has_name (codes "RECINTRAMODRQ") request ≡ false = rw r.0 refl in
    rw (first, second, third, fourth, fifth) (cancel_model_again request id pending r)
request_again request (deeds.BankMail account mail) r = absurd r
request_again request (deeds.Mail mail) r = absurd r

request_within : (most : ℕ) (request : Item) → IsWithin most request → Holds most Any (request_of request)
unfolding request_of
request_within most request h =
    either most Any (has_name (codes "INTRARQ") request) _ _ (transfer_within most request h)
    (either most Any (has_name (codes "INTRAMODRQ") request) _ _ (modify_within most request h)
    (either most Any (has_name (codes "INTRACANRQ") request) _ _ (cancel_within most request h)
    (either most Any (has_name (codes "RECINTRARQ") request) _ _ (model_within most request h)
    (either most Any (has_name (codes "RECINTRAMODRQ") request) _ _ (modify_model_within most request h)
    (cancel_model_within most request h)))))

-- ---- the transaction

-- its name says what the deed belongs to
asked_again : (transaction request : Item) (deed : Deed) → IsDeedRequest request deed → transaction.node.name ≡ request_name (family_of deed) → family_asked transaction ≡ Ok (family_of deed)
asked_again transaction request (Transfer info) is name = rw name refl
asked_again transaction request (ModifyTransfer id info) is name = rw name refl
asked_again transaction request (CancelTransfer id) is name = rw name refl
asked_again transaction request (Model recur info) is name = rw name refl
asked_again transaction request (ModifyModel id recur info pending) is name = rw name refl
asked_again transaction request (CancelModel id pending) is name = rw name refl
asked_again transaction request (deeds.BankMail account mail) is name = absurd is
asked_again transaction request (deeds.Mail mail) is name = absurd is

asked_within : (most : ℕ) (transaction : Item) → IsWithin most transaction → Holds most Any (family_asked transaction)
asked_within most transaction h =
    either most Any (has_name (codes "INTRATRNRQ") transaction) _ _ tt (either most Any (has_name (codes "RECINTRATRNRQ") transaction) _ _ tt h.offset)

pub deed_found : (transaction : Item) (trnuid : List ℕ) (deed : Deed) → deed_of transaction ≡ Ok (trnuid, deed) → IsDeed transaction trnuid deed
unfolding deed_of
deed_found transaction trnuid deed h =
    let uid = bind_ok (trnuid_of transaction) _ (trnuid, deed) h in
    let request = bind_ok (request_in transaction) _ (trnuid, deed) uid.2 in
    let family = bind_ok (family_asked transaction) (λ f. one_of (requests_in f) transaction) request.0 request.1 in
    let read = bind_ok (request_of request.0) _ (trnuid, deed) request.2 in
    let only = one_of_found (requests_in family.0) transaction request.0 family.2 in
    let found = request_found family.0 request.0 read.0 (has_one_of (requests_in family.0) transaction request.0 only) read.1 in
    let P : List ℕ × Deed → Type 0 = λ said. IsDeed transaction said.0 said.1 in
    let Named : Family → Type 0 = λ f. transaction.node.name ≡ request_name f in
    let named : transaction.node.name ≡ request_name family.0 =
    two_named Named transaction.node.name (codes "INTRATRNRQ") (codes "RECINTRATRNRQ") Intra RecIntra family.0 _ (λ is. is) (λ is. is) family.1 in
    let Only : Family → Type 0 = λ f. IsOnlyOf (requests_in f) transaction request.0 in
    subst P (one_value _ _ (trnuid, deed) refl read.2) (record {
      is_named = named ∙ ap request_name (sym found.1);
      has_trnuid = trnuid_found transaction uid.0 uid.1;
      request = request.0;
      has_request = subst Only (sym found.1) only;
      is_request = found.0;
    })

pub deed_again : (transaction : Item) (trnuid : List ℕ) (deed : Deed) → IsDeed transaction trnuid deed → deed_of transaction ≡ Ok (trnuid, deed)
unfolding deed_of
deed_again transaction trnuid deed d =
    let family = asked_again transaction d.request deed d.is_request d.is_named in
    let request : request_in transaction ≡ Ok d.request =
    bind_to (family_asked transaction) (λ f. one_of (requests_in f) transaction) (family_of deed) family
    ∙ one_of_again (requests_in (family_of deed)) transaction d.request d.has_request in
    bind_to _ _ trnuid (trnuid_again transaction trnuid d.has_trnuid)
    ∙ bind_to _ _ d.request request
    ∙ bind_to _ _ deed (request_again d.request deed d.is_request)

pub deed_within : (most : ℕ) (transaction : Item) → IsWithin most transaction → Holds most Any (deed_of transaction)
unfolding deed_of
deed_within most transaction h =
    bound most Any Any (trnuid_of transaction) _ (trnuid_within most transaction h) (λ trnuid _.
    bound most (IsWithin most) Any (request_in transaction) _
    (bound most Any (IsWithin most) (family_asked transaction) _ (asked_within most transaction h) (λ family _.
    one_of_within most (requests_in family) transaction h)) (λ request r.
    bound most Any Any (request_of request) _ (request_within most request r) (λ deed _. tt)))
