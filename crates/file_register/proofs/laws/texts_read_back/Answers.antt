use Rattle.std.proofs.Common.{refl}
use Rattle.file_register.specs.Coding.{register_text}
use Rattle.file_register.proofs.TextLaws.{saved_is_read}
use Rattle.file_register.proofs.laws.texts_read_back.Goals as goal

pub returns : goal.returns
returns c = λ lines is. saved_is_read (register_text lines) lines (record { is_register = is; spelled = refl })
