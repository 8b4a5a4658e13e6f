-- Sound answers to signons read back as they were written.
use Rattle.std.proofs.Common.{◌≡◌, ℕ, ◌+◌, ◌-◌, ◌<◌, length, codes, Ok, refl, ◌∙◌, arith, append-nil}
use Rattle.ofx_types.specs.DateForm.{moment_text}
use Rattle.ofx_types.specs.FormWords.{one}
use Rattle.ofx_types.specs.ReplyReading.{code_of, status_of, signon_reply_of}
use Rattle.ofx_types.specs.ReplyForm.{signon_reply}
use Rattle.ofx_types.specs.Sheet.{element, start_line}
use Rattle.ofx_types.specs.declared.number.Moment.{Moment}
use Rattle.ofx_tree.specs.Documents.{Documents, empty, leaf, AreLawful, IsBranch, branch_item}
use Rattle.ofx_tree.proofs.FormLaws.{bind_to, one_again}
use Rattle.ofx_tree.proofs.DocumentItems.{named_of_branch}
use Rattle.ofx_tree.proofs.Leaves.{moment_leaf, moment_of_leaf}
use Rattle.msg_parts.specs.PartDocuments.{status_documents, StatusesAreDocuments, StatusesAreLawful, StatusesReadBack}
use Rattle.msg_mail.specs.SignonsAsDocuments.{IsSoundSignonReply, signon_reply_documents, SignonRepliesAreDocuments, SignonRepliesAreLawful, SignonRepliesReadBack}
use Rattle.msg_mail.proofs.SignonsBack.{language_leaf}

-- what follows the status
abbrev after_status : Moment → Documents
after_status at = leaf (codes "DTSERVER") (moment_text at.0) (leaf (codes "LANGUAGE") (codes "ENG") empty)

reply_lawful : StatusesAreLawful → (room code : ℕ) (at : Moment) → 0 < room → IsSoundSignonReply code at → AreLawful room (signon_reply_documents code at)
reply_lawful statuses room code at some s =
    statuses room code (after_status at) some s.is_code
    (moment_leaf (codes "DTSERVER") at.0 (record { has_name = refl; is_free = refl }) s.moment, (language_leaf, tt))

pub replies_printed : StatusesAreDocuments → SignonRepliesAreDocuments
unfolding signon_reply
replies_printed statuses code at rest = rw (statuses code (after_status at), append-nil (element (codes "LANGUAGE") (codes "ENG"))) refl

sonrs_branch : IsBranch (codes "SONRS")
sonrs_branch = record { has_name = record { has_name = refl; is_free = refl }; is_known = refl }

pub replies_lawful : StatusesAreLawful → SignonRepliesAreLawful
replies_lawful statuses room code at rest some s more = (sonrs_branch, omega arith, reply_lawful statuses (room - 1) code at (omega arith) s, more)

status_back : StatusesAreLawful → StatusesReadBack → (offset index code : ℕ) (at : Moment) → IsSoundSignonReply code at →
    status_of (branch_item offset index (codes "SONRS") (signon_reply_documents code at)) ≡ Ok code
unfolding status_of
status_back lawful read offset index code at s =
    let inner = signon_reply_documents code at in
    let item = branch_item offset index (codes "SONRS") inner in
    let status = branch_item (offset + length (start_line (codes "SONRS"))) (index + 1) (codes "STATUS") (status_documents code) in
    let only = named_of_branch offset index 1 (codes "SONRS") (codes "STATUS") inner (reply_lawful lawful 1 code at (omega arith) s) in
    bind_to (one (codes "STATUS") item) code_of status (one_again (codes "STATUS") item status only) ∙ read _ _ code s.is_code

pub replies_back : StatusesAreLawful → StatusesReadBack → SignonRepliesReadBack
unfolding signon_reply_of
replies_back lawful read offset index code at s =
    let inner = signon_reply_documents code at in
    let item = branch_item offset index (codes "SONRS") inner in
    let only = named_of_branch offset index 1 (codes "SONRS") (codes "DTSERVER") inner (reply_lawful lawful 1 code at (omega arith) s) in
    bind_to (status_of item) _ code (status_back lawful read offset index code at s)
    ∙ bind_to _ _ at (moment_of_leaf (codes "DTSERVER") at _ _ item (record { has_name = refl; is_free = refl }) s.moment only)
