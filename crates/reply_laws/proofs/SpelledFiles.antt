-- The signon of a file that bytes spell has a name and a password.
use Rattle.std.proofs.Common.{ℕ, List, codes, arith}
use Rattle.ofx_types.specs.Calendar.{IsMoment}
use Rattle.ofx_types.specs.FileForm.{SpellsFile}
use Rattle.ofx_types.specs.declared.number.Moment.{Moment}
use Rattle.ofx_types.specs.declared.request.RequestFile.{RequestFile}
use Rattle.ofx_types.proofs.Trimming.{text_within_in}
use Rattle.msg_mail.specs.SignonsAsDocuments.{IsSoundSignon}

pub spelled_signon : (bytes : List ℕ) (file : RequestFile) (at : Moment) → SpellsFile bytes file → IsMoment at.0 → IsSoundSignon file.user file.pass at
spelled_signon bytes file at s moment =
    let r = s.form in
    record {
      is_user = text_within_in (codes "USERID") 32 r.sonrq file.user (omega arith) r.is_signon.has_user;
      is_pass = text_within_in (codes "USERPASS") 64 r.sonrq file.pass (omega arith) r.is_signon.has_pass;
      moment = moment;
    }
