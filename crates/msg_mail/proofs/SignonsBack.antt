-- Sound signons read back as they were written.
use Rattle.std.proofs.Common.{ℕ, ◌-◌, List, codes, refl, ◌∙◌, arith, append-nil}
use Rattle.msg_parts.proofs.Lawful.{text_leaf}
use Rattle.ofx_types.specs.RequestReading.{signon_of}
use Rattle.ofx_types.specs.RequestText.{signon_request}
use Rattle.ofx_types.specs.Sheet.{element}
use Rattle.ofx_types.specs.declared.number.Moment.{Moment}
use Rattle.ofx_tree.specs.Documents.{AreLawful, IsLeaf, IsBranch, branch_item}
use Rattle.ofx_tree.proofs.FormLaws.{bind_to}
use Rattle.ofx_tree.proofs.DocumentItems.{named_of_branch}
use Rattle.ofx_tree.proofs.Leaves.{moment_leaf, text_of_leaf}
use Rattle.msg_mail.specs.SignonsAsDocuments.{IsSoundSignon, signon_documents, SignonsAreDocuments, SignonsAreLawful, SignonsReadBack}

-- ---- the leaves

pub language_leaf : IsLeaf (codes "LANGUAGE") (codes "ENG")
language_leaf = record {
  has_name = record { has_name = refl; is_free = refl };
  is_text = record { is_trimmed = refl; is_clean = refl; is_short = omega arith };
  is_there = omega arith;
}

program_leaf : IsLeaf (codes "APPID") (codes "OFXC")
program_leaf = record {
  has_name = record { has_name = refl; is_free = refl };
  is_text = record { is_trimmed = refl; is_clean = refl; is_short = omega arith };
  is_there = omega arith;
}

version_leaf : IsLeaf (codes "APPVER") (codes "0100")
version_leaf = record {
  has_name = record { has_name = refl; is_free = refl };
  is_text = record { is_trimmed = refl; is_clean = refl; is_short = omega arith };
  is_there = omega arith;
}

signon_lawful : (room : ℕ) (user pass : List ℕ) (at : Moment) → IsSoundSignon user pass at → AreLawful room (signon_documents user pass at)
signon_lawful room user pass at s = (
  moment_leaf (codes "DTCLIENT") at.0 (record { has_name = refl; is_free = refl }) s.moment,
  (
    text_leaf (codes "USERID") 32 user (record { has_name = refl; is_free = refl }) s.is_user,
    (
      text_leaf (codes "USERPASS") 64 pass (record { has_name = refl; is_free = refl }) s.is_pass,
      (language_leaf, (program_leaf, (version_leaf, tt))),
    ),
  ),
)

-- ---- what is written, and what is read of it

pub signons_printed : SignonsAreDocuments
unfolding signon_request
signons_printed user pass at rest = rw (append-nil (element (codes "APPVER") (codes "0100"))) refl

sonrq_branch : IsBranch (codes "SONRQ")
sonrq_branch = record { has_name = record { has_name = refl; is_free = refl }; is_known = refl }

pub signons_lawful : SignonsAreLawful
signons_lawful room user pass at rest some s more = (sonrq_branch, some, signon_lawful (room - 1) user pass at s, more)

pub signons_back : SignonsReadBack
unfolding signon_of
signons_back offset index user pass at s =
    let inner = signon_documents user pass at in
    let lawful = signon_lawful 0 user pass at s in
    let item = branch_item offset index (codes "SONRQ") inner in
    bind_to _ _ user
    (text_of_leaf (codes "USERID") user 32 _ _ item lawful.1.0 s.is_user.is_within (named_of_branch offset index 0 (codes "SONRQ") (codes "USERID") inner lawful))
    ∙ bind_to _ _ pass
    (text_of_leaf (codes "USERPASS") pass 64 _ _ item lawful.1.1.0 s.is_pass.is_within (named_of_branch offset index 0 (codes "SONRQ") (codes "USERPASS") inner lawful))
