-- What is answered to a file that spells no reply.
use Rattle.std.proofs.Common.{◌≡◌, ℕ, List, inr, inl, Result, Ok, Err, IfOk, Vec, Global, refl}
use Rattle.ofx_types.specs.FileForm.{IsReplyFaultOf}
use Rattle.ofx_types.specs.declared.fault.FileFault.TheVariants.{Form}
use Rattle.file_register.specs.declared.line.Line.{Line}
use Rattle.register_run.specs.Lines.{bad_line}
use Rattle.register_run.specs.Answers.{AnswersFile}

pub bad_form : (lines : List Line) (bytes : List ℕ) (at : ℕ) {E : Type 0} (r : Result (Vec ℕ Global) E) → IsReplyFaultOf bytes (Form at) → IfOk r (λ line. line.items ≡ bad_line at)
    → IfOk r (λ line. AnswersFile lines bytes line.items lines)
bad_form lines bytes at (Ok line) fault is = inl (record { offset = at; fault = inr (inr fault); line_is = is; stays = refl })
bad_form lines bytes at (Err refused) fault is = tt
