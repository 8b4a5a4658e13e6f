-- A file that may be handed to a bank is one that reads back.
use Rattle.std.proofs.Common.{ℕ, inl, inr, List, Option, None, Some}
use Rattle.std.specs.Option.{IfSome}
use Rattle.ofx_types.specs.SyncForm.{object_family}
use Rattle.ofx_types.specs.declared.number.Moment.{Moment}
use Rattle.ofx_types.specs.declared.transfer.Deed.{Deed}
use Rattle.ofx_types.specs.declared.transfer.Deed.TheVariants.{Transfer, ModifyTransfer, CancelTransfer, Model, ModifyModel, CancelModel, BankMail, Mail}
use Rattle.ofx_types.specs.declared.transfer.Family.{Family}
use Rattle.ofx_types.specs.declared.request.Period.{Period}
use Rattle.ofx_types.specs.declared.request.Ask.{Ask}
use Rattle.ofx_types.specs.declared.request.Ask.TheVariants.{Statement, One, Sync}
use Rattle.ofx_types.specs.declared.request.RequestFile.{RequestFile}
use Rattle.bank_model.specs.Sound as file
use Rattle.msg_statement.specs.SoundStatements.{IsSoundPeriod}
use Rattle.msg_sync.specs.SoundSyncs.{IsSoundTransaction, IsSoundIn}
use Rattle.msg_mail.specs.SignonsAsDocuments.{IsSoundSignon}
use Rattle.ofx_file.specs.Written.{IsSoundAsk, IsSoundFile}
use Rattle.bank_model.proofs.Lists.{all_step}
use Rattle.reply_laws.proofs.SoundReplies.{version_is}
use Rattle.reply_laws.proofs.Values.{uid_within, account_sound, info_sound, mail_sound, object_sound}

transaction_sound : (trnuid : List ℕ) (deed : Deed) → file.IsClientUid trnuid → file.IsSoundDeed deed → IsSoundTransaction (trnuid, deed)
transaction_sound trnuid (Transfer info) own sound =
    inl (record { is_uid = uid_within trnuid own.1; is_own = own.0; is_deed = info_sound info sound })
transaction_sound trnuid (ModifyTransfer id info) own sound =
    inl (record { is_uid = uid_within trnuid own.1; is_own = own.0; is_deed = (sound.0, info_sound info sound.1) })
transaction_sound trnuid (CancelTransfer id) own sound =
    inl (record { is_uid = uid_within trnuid own.1; is_own = own.0; is_deed = sound })
transaction_sound trnuid (Model recur info) own sound =
    inl (record { is_uid = uid_within trnuid own.1; is_own = own.0; is_deed = (sound.0, info_sound info sound.1) })
transaction_sound trnuid (ModifyModel id recur info pending) own sound =
    inl (record { is_uid = uid_within trnuid own.1; is_own = own.0; is_deed = (sound.0, sound.1, info_sound info sound.2) })
transaction_sound trnuid (CancelModel id pending) own sound =
    inl (record { is_uid = uid_within trnuid own.1; is_own = own.0; is_deed = sound })
transaction_sound trnuid (BankMail account mail) own sound =
    inr (record { is_uid = uid_within trnuid own.1; is_own = own.0; is_mail = (account_sound account sound.0, mail_sound mail sound.1) })
transaction_sound trnuid (Mail mail) own sound =
    inr (record { is_uid = uid_within trnuid own.1; is_own = own.0; is_mail = mail_sound mail sound })

pair_sound : (family : Family) (deed : List ℕ × Deed) → file.IsSoundPair family deed → IsSoundIn family deed
pair_sound family deed sound = (transaction_sound deed.0 deed.1 sound.0 sound.1, sound.2)

period_sound : (period : Option Period) → IfSome period file.IsSoundPeriod → IfSome period IsSoundPeriod
period_sound None sound = tt
period_sound (Some period) sound = record { start = sound.0; end = sound.1 }

ask_sound : (ask : Ask) → file.IsSoundAsk ask → IsSoundAsk ask
ask_sound (Statement trnuid account period) sound = record {
  is_uid = uid_within trnuid sound.0.1;
  is_own = sound.0.0;
  is_account = account_sound account sound.1;
  is_period = period_sound period sound.2;
}
ask_sound (One trnuid deed) sound = transaction_sound trnuid deed sound.0 sound.1
ask_sound (Sync ask) sound = record {
  object = object_sound ask.object sound.object;
  kind = sound.kind;
  deeds = all_step (file.IsSoundPair (object_family ask.object)) (IsSoundIn (object_family ask.object)) ask.deeds (pair_sound (object_family ask.object)) sound.deeds;
}

pub file_sound : (sent : RequestFile) (at : Moment) → file.IsSound sent → IsSoundSignon sent.user sent.pass at → IsSoundFile sent at
file_sound sent at sound signon = record {
  version = version_is sent.version sound.version;
  older = sound.older;
  newer = sound.newer;
  signon = signon;
  bank_first = sound.bank_first;
  asks = all_step file.IsSoundAsk IsSoundAsk sent.asks ask_sound sound.asks;
}
