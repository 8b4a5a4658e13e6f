-- The answer to a deed has its form exactly where reading finds it, and its faults have offsets.
use Rattle.std.proofs.Common.{◌≡◌, ◌≢◌, ℕ, inl, inr, true, false, nat_eq, Option, None, Some, Ok, codes, refl, sym, subst, ◌∙◌, arith}
use Rattle.std.proofs.lemmas.Grind.{common_steps}
use Rattle.ofx_types.specs.TagNames.{is_one_of}
use Rattle.ofx_types.specs.Nodes.{Item}
use Rattle.ofx_types.specs.FormWords.{has_name, one_of, text_in}
use Rattle.ofx_types.specs.ReplyReading.{status_of}
use Rattle.ofx_types.specs.TransferForm.{transfer_replies}
use Rattle.ofx_types.specs.RecurringForm.{model_replies}
use Rattle.ofx_types.specs.DeedForm.{replies_in, IsChange, IsChangeByCode, IsDeedReplyNamed, IsDeedReply}
use Rattle.ofx_types.specs.DeedReading.{family_reported, reply_in, change_of, change_by_code, deed_reply_of}
use Rattle.ofx_types.specs.declared.transfer.Change.{Change}
use Rattle.ofx_types.specs.declared.transfer.Change.TheVariants.{NewTransfer, SetTransfer, DropTransfer, NewModel, SetModel, DropModel, NewMail}
use Rattle.ofx_types.specs.declared.transfer.Family.{Family}
use Rattle.ofx_types.specs.declared.transfer.Family.TheVariants.{Intra, RecIntra, BankMail, Mail}
use Rattle.ofx_types.specs.declared.transfer.DeedReply.{DeedReply}
use Rattle.ofx_types.proofs.Bytes.{bytes_eq_is, went}
use Rattle.ofx_tree.specs.Located.{Holds, Any, IsWithin}
use Rattle.ofx_tree.proofs.FormLaws.{bind_ok, bind_to, one_value, one_of_found, one_of_again, has_one_of, text_in_found, text_in_again}
use Rattle.ofx_tree.proofs.FormOffsets.{bound, either, one_of_within, text_within}
use Rattle.msg_parts.proofs.Statuses.{status_found, status_again, status_within}
use Rattle.msg_parts.proofs.Named.{third_name, none_of_three, other_name, two_named}
use Rattle.msg_deed.proofs.TransferReplies.{new_found, set_found, drop_found, new_again, set_again, drop_again, new_within, set_within, drop_within}
use Rattle.msg_deed.proofs.ModelReplies.{new_model_found, set_model_found, drop_model_found, new_model_again, set_model_again, drop_model_again, new_model_within, set_model_within, drop_model_within}

-- ---- the six replies

transfer_reply : (reply : Item) (change : Change) → is_one_of transfer_replies reply.node.name ≡ true → change_of reply ≡ Ok change → IsChange reply change
unfolding change_of
transfer_reply reply change named h = elim (went (has_name (codes "INTRARS") reply) _ _ _ h) [
  | inl (is, read) ↦ new_found reply change (bytes_eq_is _ _ is) read
  | inr (first, more) ↦ elim (went (has_name (codes "INTRAMODRS") reply) _ _ _ more) [
    | inl (is, read) ↦ set_found reply change (bytes_eq_is _ _ is) read
    | inr (second, last) ↦ elim (went (has_name (codes "INTRACANRS") reply) _ _ _ last) [
      | inl (is, read) ↦ drop_found reply change (bytes_eq_is _ _ is) read
      | inr (third, read) ↦ absurd (none_of_three _ _ _ named first second third)
    ]
  ]
]

model_reply : (reply : Item) (change : Change) → is_one_of model_replies reply.node.name ≡ true → change_of reply ≡ Ok change → IsChange reply change
unfolding change_of
model_reply reply change named h = elim (went (has_name (codes "INTRARS") reply) _ _ _ h) [
  | inl (is, read) ↦ absurd (other_name model_replies reply.node.name (codes "INTRARS") refl named (bytes_eq_is reply.node.name (codes "INTRARS") is))
  | inr (_, rest) ↦ elim (went (has_name (codes "INTRAMODRS") reply) _ _ _ rest) [
    | inl (is, read) ↦ absurd (other_name model_replies reply.node.name (codes "INTRAMODRS") refl named (bytes_eq_is reply.node.name (codes "INTRAMODRS") is))
    | inr (_, next) ↦ elim (went (has_name (codes "INTRACANRS") reply) _ _ _ next) [
      | inl (is, read) ↦ absurd (other_name model_replies reply.node.name (codes "INTRACANRS") refl named (bytes_eq_is reply.node.name (codes "INTRACANRS") is))
      | inr (_, more) ↦ elim (went (has_name (codes "RECINTRARS") reply) _ _ _ more) [
        | inl (is, read) ↦ new_model_found reply change (bytes_eq_is _ _ is) read
        | inr (first, last) ↦ elim (went (has_name (codes "RECINTRAMODRS") reply) _ _ _ last) [
          | inl (is, read) ↦ set_model_found reply change (bytes_eq_is _ _ is) read
          | inr (second, read) ↦ drop_model_found reply change (third_name reply.node.name _ _ _ named first second) read
        ]
      ]
    ]
  ]
]

change_found : (family : Family) (reply : Item) (change : Change) → is_one_of (replies_in family) reply.node.name ≡ true →
    change_of reply ≡ Ok change → IsChange reply change
change_found Intra reply change named h = transfer_reply reply change named h
change_found RecIntra reply change named h = model_reply reply change named h
change_found BankMail reply change named h = cc
change_found Mail reply change named h = cc

change_again : (reply : Item) (change : Change) → IsChange reply change → change_of reply ≡ Ok change
unfolding change_of
change_again reply (NewTransfer row) r =
    let is : has_name (codes "INTRARS") reply ≡ true = rw r.0 refl in
    rw is (new_again reply row r)
change_again reply (SetTransfer row) r =
    let first : has_name (codes "INTRARS") reply ≡ false = rw r.0 refl in
    let is : has_name (codes "INTRAMODRS") reply ≡ true = rw r.0 refl in
    rw (first, is) (set_again reply row r)
change_again reply (DropTransfer id) r =
    let first : has_name (codes "INTRARS") reply ≡ false = rw r.0 refl in
    let second : has_name (codes "INTRAMODRS") reply ≡ false = rw r.0 refl in
    let is : has_name (codes "INTRACANRS") reply ≡ true = rw r.0 refl in
    rw (first, second, is) (drop_again reply id r)
change_again reply (NewModel row) r =
    let first : has_name (codes "INTRARS") reply ≡ false = rw r.0 refl in
    let second : has_name (codes "INTRAMODRS") reply ≡ false = rw r.0 refl in
    let third : has_name (codes "INTRACANRS") reply ≡ false = rw r.0 refl in
    let is : has_name (codes "RECINTRARS") reply ≡ true = rw r.0 refl in
    rw (first, second, third, is) (new_model_again reply row r)
change_again reply (SetModel row pending) r =
    let first : has_name (codes "INTRARS") reply ≡ false = rw r.0 refl in
    let second : has_name (codes "INTRAMODRS") reply ≡ false = rw r.0 refl in
    let third : has_name (codes "INTRACANRS") reply ≡ false = rw r.0 refl in
    let fourth : has_name (codes "RECINTRARS") reply ≡ false = rw r.0 refl in
    let is : has_name (codes "RECINTRAMODRS") reply ≡ true = rw r.0 refl in
    rw (first, second, third, fourth, is) (set_model_again reply row pending r)
change_again reply (DropModel id pending) r =
    let first : has_name (codes "INTRARS") reply ≡ false = rw r.0 refl in
    let second : has_name (codes "INTRAMODRS") reply ≡ false = rw r.0 refl in
    let third : has_name (codes "INTRACANRS") reply ≡ false = rw r.0 refl in
    let fourth : has_name (codes "RECINTRARS") reply ≡ false = rw r.0 refl in
    let fifth : has_name (codes "RECINTRAMODRS") reply ≡ false = rw r.0 refl in
    rw (first, second, third, fourth, fifth) (drop_model_again reply id pending r)
change_again reply (NewMail row) r = absurd r

change_within : (most : ℕ) (reply : Item) → IsWithin most reply → Holds most Any (change_of reply)
unfolding change_of
change_within most reply h =
    either most Any (has_name (codes "INTRARS") reply) _ _ (new_within most reply h)
    (either most Any (has_name (codes "INTRAMODRS") reply) _ _ (set_within most reply h)
    (either most Any (has_name (codes "INTRACANRS") reply) _ _ (drop_within most reply h)
    (either most Any (has_name (codes "RECINTRARS") reply) _ _ (new_model_within most reply h)
    (either most Any (has_name (codes "RECINTRAMODRS") reply) _ _ (set_model_within most reply h)
    (drop_model_within most reply h)))))

-- ---- a change where the code is 0

change_by_code_found : (code : ℕ) (family : Family) (transaction : Item) (change : Option Change) → family_reported transaction ≡ Ok family →
    change_by_code code transaction ≡ Ok change → IsChangeByCode code family transaction change
unfolding change_by_code
change_by_code_found code family transaction change reported h = elim (went (nat_eq code 0) _ _ _ h) [
  | inl (is, read) ↦
      let zero : code ≡ 0 = grind (arith, common_steps, is) in
      let reply = bind_ok (reply_in transaction) _ change read in
      let found = bind_ok (change_of reply.0) _ change reply.2 in
      let among : one_of (replies_in family) transaction ≡ Ok reply.0 =
      sym (bind_to (family_reported transaction) (λ f. one_of (replies_in f) transaction) family reported) ∙ reply.1 in
      let only = one_of_found (replies_in family) transaction reply.0 among in
      let holds = change_found family reply.0 found.0 (has_one_of (replies_in family) transaction reply.0 only) found.1 in
      subst (IsChangeByCode code family transaction) (one_value _ _ change refl found.2) (zero, (reply.0, only, holds))
  | inr (other, none) ↦
      let some : code ≢ 0 = λ zero. absurd (grind (arith, common_steps, other, zero)) in
      subst (IsChangeByCode code family transaction) (one_value _ _ change refl none) some
]

change_by_code_again : (code : ℕ) (family : Family) (transaction : Item) (change : Option Change) → family_reported transaction ≡ Ok family →
    IsChangeByCode code family transaction change → change_by_code code transaction ≡ Ok change
unfolding change_by_code
change_by_code_again code family transaction None reported some =
    let other : nat_eq code 0 ≡ false = grind (arith, common_steps) in rw other refl
change_by_code_again code family transaction (Some change) reported (zero, (reply, only, is)) =
    let same : nat_eq code 0 ≡ true = grind (arith, common_steps, zero) in
    let among : reply_in transaction ≡ Ok reply =
    bind_to (family_reported transaction) (λ f. one_of (replies_in f) transaction) family reported ∙ one_of_again (replies_in family) transaction reply only in
    rw same (bind_to (reply_in transaction) _ reply among ∙ bind_to _ _ change (change_again reply change is))

-- its name says what it belongs to
reported_within : (most : ℕ) (transaction : Item) → IsWithin most transaction → Holds most Any (family_reported transaction)
reported_within most transaction h =
    either most Any (has_name (codes "INTRATRNRS") transaction) _ _ tt (either most Any (has_name (codes "RECINTRATRNRS") transaction) _ _ tt h.offset)

change_by_code_within : (most code : ℕ) (transaction : Item) → IsWithin most transaction → Holds most Any (change_by_code code transaction)
unfolding change_by_code
change_by_code_within most code transaction h =
    either most Any (nat_eq code 0) _ _
    (bound most (IsWithin most) Any (reply_in transaction) _
    (bound most Any (IsWithin most) (family_reported transaction) _ (reported_within most transaction h) (λ family _.
    one_of_within most (replies_in family) transaction h)) (λ reply r.
    bound most Any Any (change_of reply) _ (change_within most reply r) (λ change _. tt)))
    tt

-- ---- the transaction

reported_again : (transaction : Item) (family : Family) → IsDeedReplyNamed transaction family → family_reported transaction ≡ Ok family
reported_again transaction Intra name = rw name refl
reported_again transaction RecIntra name = rw name refl
reported_again transaction BankMail name = absurd name
reported_again transaction Mail name = absurd name

pub reply_found : (transaction : Item) (reply : DeedReply) → deed_reply_of transaction ≡ Ok reply → IsDeedReply transaction reply
unfolding deed_reply_of
reply_found transaction reply h =
    let family = bind_ok (family_reported transaction) _ reply h in
    let trnuid = bind_ok (text_in (codes "TRNUID") 36 transaction) _ reply family.2 in
    let code = bind_ok (status_of transaction) _ reply trnuid.2 in
    let change = bind_ok (change_by_code code.0 transaction) _ reply code.2 in
    subst (IsDeedReply transaction) (one_value _ _ reply refl change.2) (record {
      is_named = two_named (IsDeedReplyNamed transaction) transaction.node.name (codes "INTRATRNRS") (codes "RECINTRATRNRS") Intra RecIntra family.0 _ (λ is. is) (λ is. is) family.1;
      has_trnuid = text_in_found (codes "TRNUID") 36 transaction trnuid.0 trnuid.1;
      has_status = status_found transaction code.0 code.1;
      is_change = change_by_code_found code.0 family.0 transaction change.0 family.1 change.1;
    })

pub reply_again : (transaction : Item) (reply : DeedReply) → IsDeedReply transaction reply → deed_reply_of transaction ≡ Ok reply
unfolding deed_reply_of
reply_again transaction reply r =
    let family = reported_again transaction reply.family r.is_named in
    bind_to (family_reported transaction) _ reply.family family
    ∙ bind_to _ _ reply.trnuid (text_in_again (codes "TRNUID") 36 transaction reply.trnuid r.has_trnuid)
    ∙ bind_to _ _ reply.code (status_again transaction reply.code r.has_status)
    ∙ bind_to _ _ reply.change (change_by_code_again reply.code reply.family transaction reply.change family r.is_change)

pub reply_within : (most : ℕ) (transaction : Item) → IsWithin most transaction → Holds most Any (deed_reply_of transaction)
unfolding deed_reply_of
reply_within most transaction h =
    bound most Any Any (family_reported transaction) _ (reported_within most transaction h) (λ family _.
    bound most Any Any (text_in (codes "TRNUID") 36 transaction) _ (text_within most (codes "TRNUID") 36 transaction h) (λ trnuid _.
    bound most Any Any (status_of transaction) _ (status_within most transaction h) (λ code _.
    bound most Any Any (change_by_code code transaction) _ (change_by_code_within most code transaction h) (λ change _. tt))))
