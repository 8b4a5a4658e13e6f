-- Texts and values of a sound file are within the limits of their elements.
use Rattle.std.proofs.Common.{ℕ, ◌≤◌, List, codes, refl, arith}
use Rattle.ofx_types.specs.TextRules.{IsTrnUid}
use Rattle.ofx_types.specs.declared.account.AcctName.{AcctName}
use Rattle.ofx_types.specs.declared.mail.MailText.{MailText}
use Rattle.ofx_types.specs.declared.transfer.XferInfo.{XferInfo}
use Rattle.ofx_types.specs.declared.sync.ObjectName.{ObjectName}
use Rattle.ofx_types.specs.declared.sync.ObjectName.TheVariants as objects
use Rattle.bank_model.specs.Sound as file
use Rattle.msg_parts.specs.SoundParts.{IsTextWithin, IsSoundAccount}
use Rattle.msg_deed.specs.SoundDeeds.{IsSoundInfo}
use Rattle.msg_mail.specs.SoundMails.{IsSoundMail}
use Rattle.msg_sync.specs.SoundSyncs.{IsSoundObject}

pub uid_within : (uid : List ℕ) → IsTrnUid uid → IsTextWithin 36 uid
uid_within uid is = record { is_text = is.is_text; is_there = is.is_there; is_within = is.is_within }

pub account_sound : (account : AcctName) → file.IsSoundAccount account → IsSoundAccount account
account_sound account sound = record {
  bank = sound.0;
  number = sound.1;
}

pub info_sound : (info : XferInfo) → file.IsSoundInfo info → IsSoundInfo info
info_sound info sound = record {
  from = account_sound info.from sound.from;
  to = account_sound info.to sound.to;
  amount = sound.amount;
  due = sound.due;
}

pub mail_sound : (mail : MailText) → file.IsSoundMail mail → IsSoundMail mail
mail_sound mail sound = record {
  created = sound.created;
  sender = sound.sender;
  target = sound.target;
  subject = sound.subject;
  body = sound.body;
}

pub object_sound : (object : ObjectName) → file.IsSoundObject object → IsSoundObject object
object_sound (objects.Intra account) sound = account_sound account sound
object_sound (objects.RecIntra account) sound = account_sound account sound
object_sound (objects.BankMail account) sound = account_sound account sound
object_sound objects.Mail sound = tt

-- ---- the bank's own texts

pub zero_within : (most : ℕ) → 1 ≤ most → IsTextWithin most (codes "0")
zero_within most some = record {
  is_text = record { is_trimmed = refl; is_clean = refl; is_short = omega arith };
  is_there = omega arith;
  is_within = omega arith;
}

pub bank_within : IsTextWithin 32 (codes "BANK")
bank_within = record {
  is_text = record { is_trimmed = refl; is_clean = refl; is_short = omega arith };
  is_there = omega arith;
  is_within = omega arith;
}
